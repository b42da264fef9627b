use Rattle.std.proofs.Common.{rules, ◌≡◌, ◌||◌, ℕ, [], Err, IsTrue, Some, subst, arith}
use Rattle.tp_counts.specs.declared.error.StoreError.TheVariants.{Damaged}
use Rattle.tp_model.specs.Geometry.{Geometry}
use Rattle.tp_layout.specs.declared.kind.TreeKind.TheVariants.{Mapping}
use Rattle.tp_layout.specs.Entries.{found}
use Rattle.tp_trees.specs.Tree.{is_shared_path}
use Rattle.tp_sharing.specs.Forest.{content}
use Rattle.tp_sharing.specs.Volumes.{Volumes}
use Rattle.tp_btree.specs.Trees.{Told}
use Rattle.tp_mapping.specs.Held.{HasThere, entry_of}
use Rattle.tp_mapping.proofs.Holding.{height, volume_stands}
use Rattle.tp_mapping.proofs.Telling.{none_told, slot_inside, some_told}
use Rattle.tp_mapping.proofs.tree_reads.place_at.Given.{Over}
use Rattle.tp_mapping.proofs.tree_reads.place_at.Goals as goal
use Rattle.tp_mapping.proofs.tree_reads.place_at.Goals.{In_ok-found}

-- what the tree has there
there : (g : Over) (c : In_ok-found g) → IsTrue (g.D.Disk.state c.args.disk.now).is_honest → (geo : Geometry) (root : ℕ) (now : Volumes) (device : ℕ)
    → (h : HasThere geo c.args.tm.now (g.D.Disk.state c.args.disk.now) root now device c.args.there)
    → Told c.args.tm.now.geometry.metadata_blocks Mapping (found c.args.block (content 1 h.volume.trees.store c.args.there.volume.root)) (is_shared_path (height 1 h.volume.trees.store c.args.there.volume.root) h.volume.trees.store c.args.block c.args.there.volume.root) c.in_ok-found.field-0
there g c honest geo root now device h =
    let t = c.args.tm.now in
    let s = h.volume.trees.store in
    let v = c.args.there.volume.root in
    subst (λ k. Told t.geometry.metadata_blocks Mapping (found k (content 1 s v)) (is_shared_path (height 1 s v) s k v) c.in_ok-found.field-0) c.number-key.ensures.value
    (c.in_ok-found.ensures.told honest _ _ s _ _ (volume_stands geo t (g.D.Disk.state c.args.disk.now) root [] now h.volume.trees device (entry_of device c.args.there.volume) h.volume.told) (omega (arith, c.number-key.ensures.below, c.number-key.ensures.value)))

pub returns-in_err-found-clause-looked : goal.returns-in_err-found-clause-looked
returns-in_err-found-clause-looked g c = record {
  told = search rules;
  damaged = λ e honest geo root now device h.
      let f : c.lookup.result ≡ Err Damaged = search (rules, e) in
      c.lookup.ensures.damaged f honest _ _ h.volume.trees.store _ _ (volume_stands geo c.args.tm.now (g.D.Disk.state c.args.disk.now) root [] now h.volume.trees device (entry_of device c.args.there.volume) h.volume.told) (omega (arith, c.number-key.ensures.below, c.number-key.ensures.value));
  state = search rules;
}

pub returns-in_default-clause-looked : goal.returns-in_default-clause-looked
returns-in_default-clause-looked g c = record {
  told = λ honest geo root now device h.
      let t = c.args.tm.now in
      let s = h.volume.trees.store in
      let v = c.args.there.volume.root in
      none_told geo t (g.D.Disk.state c.args.disk.now) root now device c.args.there.volume h.volume c.args.block
      (subst (Told t.geometry.metadata_blocks Mapping (found c.args.block (content 1 s v)) (is_shared_path (height 1 s v) s c.args.block v)) c.in_default.is
      (there g (goal.at.returns-in_default-clause-looked g c).In_ok-found honest geo root now device h));
  damaged = search rules;
  state = search rules;
}

pub returns-in_err-place-clause-looked : goal.returns-in_err-place-clause-looked
returns-in_err-place-clause-looked g c = record {
  told = search rules;
  damaged = λ e honest geo root now device h.
      let t = c.args.tm.now in
      let s = h.volume.trees.store in
      let v = c.args.there.volume.root in
      let w : Told t.geometry.metadata_blocks Mapping (found c.args.block (content 1 s v)) (is_shared_path (height 1 s v) s c.args.block v) (Some c.in-Some.found) =
      subst (Told t.geometry.metadata_blocks Mapping (found c.args.block (content 1 s v)) (is_shared_path (height 1 s v) s c.args.block v)) c.in-Some.is
      (there g (goal.at.returns-in_err-place-clause-looked g c).In_ok-found honest geo root now device h) in
      omega (arith, slot_inside geo t (g.D.Disk.state c.args.disk.now) root now device c.args.there.volume h.volume c.args.block c.in-Some.found.entry w.0, c.in_err-place.ensures.err.1);
  state = search rules;
}

pub returns-clause-looked : goal.returns-clause-looked
returns-clause-looked g c = record {
  told = λ honest geo root now device h.
      let t = c.args.tm.now in
      let s = h.volume.trees.store in
      let v = c.args.there.volume.root in
      let w : Told t.geometry.metadata_blocks Mapping (found c.args.block (content 1 s v)) (is_shared_path (height 1 s v) s c.args.block v) (Some c.in-Some.found) =
      subst (Told t.geometry.metadata_blocks Mapping (found c.args.block (content 1 s v)) (is_shared_path (height 1 s v) s c.args.block v)) c.in-Some.is
      (there g (goal.at.returns-clause-looked g c).In_ok-found honest geo root now device h) in
      some_told geo t (g.D.Disk.state c.args.disk.now) root now device c.args.there.volume h.volume c.args.block c.in-Some.found.entry w.0
      (record { place = c.in_ok-place.place; is_shared = c.args.there.is_shared || c.in-Some.found.is_shared }) c.in_ok-place.ensures.inside.0
      (λ i. h.shared i || w.1 i);
  damaged = search rules;
  state = search rules;
}
