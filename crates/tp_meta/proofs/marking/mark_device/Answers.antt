use Rattle.std.proofs.Common.{rules, ◌≡◌, ◌∙◌, List, Err, IsTrue, ap, arith, refl, subst, sym}
use Rattle.tp_counts.specs.declared.error.StoreError.TheVariants.{Damaged}
use Rattle.tp_model.specs.Disk.{DiskState}
use Rattle.tp_sharing.specs.Volumes.{BlockSlot}
use Rattle.tp_mapping.specs.Mapping.{slots_of}
use Rattle.tp_mapping.specs.Trees.{StandForVolumes}
use Rattle.tp_meta.specs.Metadata.{marked_all}
use Rattle.tp_meta.proofs.Pieces.{are_ordered, from_first, none_left}
use Rattle.tp_meta.proofs.marking.mark_device.Goals as goal

pub loop-from-init : goal.loop-from-init
loop-from-init g c = record {
  state = refl;
  marked = λ honest now kept st.
      let m = c.args.mapping.now in
      let slots = slots_of c.args.device now in
      let o = are_ordered m.tm.geometry m.tm.metadata_kept now kept st.within c.args.device in
      ap (λ (l : List BlockSlot). marked_all l c.args.marks.now) (sym (from_first slots o));
}

pub loop-from-preserved : goal.loop-from-preserved
loop-from-preserved g c =
    let was = sym c.loop-from.invariant.state in
    record {
      state = c.in_ok-from.ensures.looked.state ∙ c.loop-from.invariant.state;
      marked = λ honest now kept st.
          c.loop-from.invariant.marked honest now kept st
          ∙ c.in_ok-from.ensures.looked.told (subst (λ (z : DiskState). IsTrue z.is_honest) was honest) now kept
          (subst (λ (z : DiskState). StandForVolumes c.args.mapping.now z now kept) was st);
    }

pub returns-in_err-from : goal.returns-in_err-from
returns-in_err-from g c = record {
  told = search rules;
  damaged = λ e honest now kept st.
      let was = sym c.loop-from.invariant.state in
      let f : c.mark_piece.result ≡ Err Damaged = search (rules, e) in
      c.mark_piece.ensures.looked.damaged f (subst (λ (z : DiskState). IsTrue z.is_honest) was honest) now kept
      (subst (λ (z : DiskState). StandForVolumes c.args.mapping.now z now kept) was st);
  state = search rules;
}

pub returns : goal.returns
returns g c = record {
  told = λ honest now kept st.
      let m = c.args.mapping.now in
      let slots = slots_of c.args.device now in
      let o = are_ordered m.tm.geometry m.tm.metadata_kept now kept st.within c.args.device in
      let none = none_left c.loop-from.from slots o (omega (arith, c.loop-from-test.false)) in
      sym (c.loop-from.invariant.marked honest now kept st ∙ ap (λ (l : List BlockSlot). marked_all l c.loop-from.marks) none);
  damaged = search rules;
  state = search rules;
}
