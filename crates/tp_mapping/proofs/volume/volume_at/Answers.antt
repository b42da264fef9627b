use Rattle.std.proofs.Common.{rules, ◌≡◌, ℕ, List, Err, IsTrue, Some, subst, arith}
use Rattle.tp_model.specs.Geometry.{Geometry}
use Rattle.tp_layout.specs.Entries.{found}
use Rattle.tp_layout.specs.declared.kind.TreeKind.TheVariants.{Device}
use Rattle.tp_trees.specs.Tree.{is_shared_path}
use Rattle.tp_sharing.specs.Forest.{content}
use Rattle.tp_refs.specs.Store.{Store, first_named, moved_by}
use Rattle.tp_btree.specs.Trees.{Told}
use Rattle.tp_mapping.specs.Held.{HoldsRoot}
use Rattle.tp_counts.specs.declared.error.StoreError.TheVariants.{Damaged}
use Rattle.tp_mapping.proofs.Rooted.{height, root_stands, told_volume, volume_bad}
use Rattle.tp_mapping.proofs.volume.volume_at.Given.{Over}
use Rattle.tp_mapping.proofs.volume.volume_at.Goals as goal
use Rattle.tp_mapping.proofs.volume.volume_at.Goals.{In-Some}

pub returns-in_err-found-clause-looked : goal.returns-in_err-found-clause-looked
returns-in_err-found-clause-looked g c = record {
  told = search rules;
  damaged = λ e honest geo refs s h.
      let f : c.lookup.result ≡ Err Damaged = search (rules, e) in
      c.lookup.ensures.damaged f honest _ _ s _ _ (root_stands geo c.args.tm.now (g.D.Disk.state c.args.disk.now) refs c.args.root s h) (omega (arith, c.number-key.ensures.value, c.number-key.ensures.below));
  state = search rules;
}

pub returns-in_default-clause-looked : goal.returns-in_default-clause-looked
returns-in_default-clause-looked g c = record {
  told = λ honest geo refs s h.
      let t = c.args.tm.now in (
        omega (arith, c.number-key.ensures.below),
        subst (Told t.geometry.metadata_blocks Device (found c.args.device (content 5 s c.args.root)) _) c.in_default.is
            (subst (λ k. Told t.geometry.metadata_blocks Device (found k (content 5 s c.args.root)) (is_shared_path (height 5 s c.args.root) s k c.args.root) c.in_ok-found.field-0) c.number-key.ensures.value
            (c.in_ok-found.ensures.told honest _ _ s _ _ (root_stands geo t (g.D.Disk.state c.args.disk.now) refs c.args.root s h) (omega (arith, c.number-key.ensures.value, c.number-key.ensures.below)))),
      );
  damaged = search rules;
  state = search rules;
}

-- what was found
there : (g : Over) (c : In-Some g) → IsTrue (g.D.Disk.state c.args.disk.now).is_honest → (geo : Geometry) (refs : List ℕ) (s : Store) → HoldsRoot geo c.args.tm.now (g.D.Disk.state c.args.disk.now) refs c.args.root s
    → (found c.args.device (content 5 s c.args.root) ≡ Some (moved_by (first_named c.args.tm.now.geometry.metadata_blocks Device 0) c.in-Some.found.entry))
    × (c.in-Some.found.is_shared ≡ is_shared_path (height 5 s c.args.root) s c.args.device c.args.root)
there g c honest geo refs s h =
    let t = c.args.tm.now in
    let w : Told t.geometry.metadata_blocks Device (found c.args.device (content 5 s c.args.root)) (is_shared_path (height 5 s c.args.root) s c.args.device c.args.root) (Some c.in-Some.found) =
    subst (Told t.geometry.metadata_blocks Device (found c.args.device (content 5 s c.args.root)) _) c.in-Some.is
    (subst (λ k. Told t.geometry.metadata_blocks Device (found k (content 5 s c.args.root)) (is_shared_path (height 5 s c.args.root) s k c.args.root) c.in_ok-found.field-0) c.number-key.ensures.value
    (c.in_ok-found.ensures.told honest _ _ s _ _ (root_stands geo t (g.D.Disk.state c.args.disk.now) refs c.args.root s h) (omega (arith, c.number-key.ensures.value, c.number-key.ensures.below)))) in
    (w.0, w.1)

pub returns-in_err-volume-clause-looked : goal.returns-in_err-volume-clause-looked
returns-in_err-volume-clause-looked g c = record {
  told = search rules;
  damaged = λ e honest geo refs s h. volume_bad geo c.args.tm.now (g.D.Disk.state c.args.disk.now) refs c.args.root s h c.args.device c.in-Some.found.entry
      (there g (goal.at.returns-in_err-volume-clause-looked g c).In-Some honest geo refs s h).0 c.in_err-volume.ensures.err.1;
  state = search rules;
}

pub returns-clause-looked : goal.returns-clause-looked
returns-clause-looked g c = record {
  told = λ honest geo refs s h.
      let w = there g (goal.at.returns-clause-looked g c).In-Some honest geo refs s h in
      (told_volume geo c.args.tm.now (g.D.Disk.state c.args.disk.now) refs c.args.root s h c.args.device c.in-Some.found.entry c.in_ok-volume.volume w.0 c.in_ok-volume.ensures.value.0 c.in_ok-volume.ensures.value.1 c.in_ok-volume.ensures.value.2, w.1);
  damaged = search rules;
  state = search rules;
}
