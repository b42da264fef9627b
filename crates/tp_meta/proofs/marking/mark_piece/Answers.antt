use Rattle.std.proofs.Common.{rules, ◌≡◌, ◌∙◌, ℕ, List, Err, IsTrue, ap, subst, sym}
use Rattle.std.proofs.lemmas.Result.{IfErr-at_err, IfOk-weaker}
use Rattle.tp_counts.specs.declared.error.StoreError.TheVariants.{Damaged}
use Rattle.tp_sharing.specs.Volumes.{BlockSlot, Volumes}
use Rattle.tp_mapping.specs.Mapping.{IsFilled, from_block, slots_of}
use Rattle.tp_mapping.specs.Trees.{StandForVolumes}
use Rattle.tp_meta.specs.Marking.{AreCutAt, IsPiece}
use Rattle.tp_meta.specs.Metadata.{marked_all}
use Rattle.tp_meta.proofs.Pieces.{are_ordered, piece_marked}
use Rattle.tp_meta.proofs.marking.mark_piece.Given.{Over}
use Rattle.tp_meta.proofs.marking.mark_piece.Goals as goal
use Rattle.tp_meta.proofs.marking.mark_piece.Goals.{In_ok-walk}

-- what the walk gave
walked : (g : Over) (c : In_ok-walk g) → IsTrue (g.D.Disk.state c.args.disk.now).is_honest → (now kept : Volumes)
    → StandForVolumes c.args.mapping.now (g.D.Disk.state c.args.disk.now) now kept → IsPiece c.args.from (slots_of c.args.device now) c.walk.new.slots.items
walked g c honest now kept st =
    let own = slots_of c.args.device now in
    subst (λ (k : ℕ). IsPiece k own c.walk.new.slots.items) c.new.ensures
    (subst (λ (l : List BlockSlot). IsFilled (from_block c.new.result own) l c.walk.new.slots.items) c.new-slots.ensures
    (c.in_ok-walk.ensures.looked.told honest now kept st))

pub returns-in_err-walk-clause-looked : goal.returns-in_err-walk-clause-looked
returns-in_err-walk-clause-looked g c = record {
  told = search rules;
  damaged = λ e honest now kept st.
      let f : c.walk.result ≡ Err Damaged = search (rules, e) in c.walk.ensures.looked.damaged f honest now kept st;
  state = search rules;
}

pub returns-clause-looked : goal.returns-clause-looked
returns-clause-looked g c = record {
  told = IfOk-weaker c.behind.result _ _
      (λ next cut honest now kept st.
      let m = c.args.mapping.now in
      let own = slots_of c.args.device now in
      let o = are_ordered m.tm.geometry m.tm.metadata_kept now kept st.within c.args.device in
      piece_marked c.args.from next own c.walk.new.slots.items c.args.marks.now c.mark_slots.new.marks
      (subst (AreCutAt c.args.from next own) c.deref-2.ensures.0
      (cut own o (subst (IsPiece c.args.from own) (sym c.deref-2.ensures.0) (walked g (goal.at.returns-clause-looked g c).In_ok-walk honest now kept st))))
      (c.mark_slots.ensures ∙ ap (λ (l : List BlockSlot). marked_all l c.args.marks.now) c.deref.ensures.0)) c.behind.ensures.cut;
  damaged = λ e honest now kept st.
      let m = c.args.mapping.now in
      let p = IfErr-at_err _ e c.behind.ensures.err in
      let own = slots_of c.args.device now in
      p.1 own (are_ordered m.tm.geometry m.tm.metadata_kept now kept st.within c.args.device)
      (subst (IsPiece c.args.from own) (sym c.deref-2.ensures.0) (walked g (goal.at.returns-clause-looked g c).In_ok-walk honest now kept st));
  state = search rules;
}
