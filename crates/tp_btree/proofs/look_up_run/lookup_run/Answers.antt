use Rattle.std.proofs.Common.{rules, ◌≡◌, ◌∙◌, ◌+◌, Err, IsTrue, arith, inl, inr, subst, sym}
use Rattle.std.proofs.lemmas.Bool.{cases_lt}
use Rattle.tp_counts.specs.declared.error.StoreError.TheVariants.{Damaged}
use Rattle.tp_model.specs.Disk.{DiskState}
use Rattle.tp_layout.specs.Entries.{found}
use Rattle.tp_trees.specs.Tree.{is_shared_path, pairs}
use Rattle.tp_btree.specs.Trees.{StandsBelow, Told}
use Rattle.tp_btree.proofs.look_up_run.lookup_run.Goals as goal

pub returns-in_err-done-clause-looked : goal.returns-in_err-done-clause-looked
returns-in_err-done-clause-looked g c = record {
  told = search rules;
  damaged = λ e honest opens held s k high st fits.
      let was = sym c.loop-done.invariant.state in
      let f : c.tell_leaf.result ≡ Err Damaged = search (rules, e) in
      c.tell_leaf.ensures.looked.damaged f (subst (λ (z : DiskState). IsTrue z.is_honest) was honest) opens held s k high
      (subst (λ (z : DiskState). StandsBelow c.args.tm.now z c.args.kind opens held s k 0 high c.args.root) was st) (omega (arith, fits, c.loop-done.invariant.sized));
  state = search rules;
}

pub loop-done-preserved : goal.loop-done-preserved
loop-done-preserved g c =
    let was = sym c.loop-done.invariant.state in
    record {
      state = c.in_ok-done.ensures.looked.state ∙ c.loop-done.invariant.state;
      sized = c.tell_leaf.ensures.length ∙ c.loop-done.invariant.sized;
      within = omega (arith, c.in_ok-done.ensures.further.1, c.tell_leaf.ensures.length);
      told = λ honest opens held s k high st fits i l.
          elim (cases_lt i c.loop-done.done) [
            | inl low ↦
                subst (λ o. Told c.args.tm.now.geometry.metadata_blocks c.args.kind (found (c.args.first + i) (pairs k s c.args.root)) (is_shared_path k s (c.args.first + i) c.args.root) o)
                (sym (c.in_ok-done.ensures.other i low)) (c.loop-done.invariant.told honest opens held s k high st fits i low)
            | inr up ↦
                c.in_ok-done.ensures.looked.told (subst (λ (z : DiskState). IsTrue z.is_honest) was honest) opens held s k high
                (subst (λ (z : DiskState). StandsBelow c.args.tm.now z c.args.kind opens held s k 0 high c.args.root) was st) (omega (arith, fits, c.loop-done.invariant.sized)) i (omega (arith, up)) l
          ];
    }

pub returns-clause-looked : goal.returns-clause-looked
returns-clause-looked g c = record {
  told = λ honest opens held s k high st fits i l. c.loop-done.invariant.told honest opens held s k high st fits i (omega (arith, l, c.loop-done-test.false, c.loop-done.invariant.sized));
  damaged = search rules;
  state = search rules;
}
