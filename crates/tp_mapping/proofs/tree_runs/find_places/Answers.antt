use Rattle.std.proofs.Common.{rules, ◌≡◌, ◌+◌, ◌<◌, ◌≤◌, ℕ, List, [], None, Err, IsTrue, length, subst, arith}
use Rattle.std.specs.Prelude.{◌^◌, IfErr, Result, slice_index_or}
use Rattle.std.proofs.lemmas.Result.{on_ok_weaker}
use Rattle.tp_counts.specs.declared.error.StoreError.{StoreError}
use Rattle.tp_counts.specs.declared.error.StoreError.TheVariants.{Damaged}
use Rattle.tp_model.specs.Geometry.{Geometry}
use Rattle.tp_layout.specs.declared.kind.TreeKind.TheVariants.{Mapping}
use Rattle.tp_layout.specs.Entries.{found}
use Rattle.tp_trees.specs.Tree.{is_shared_path}
use Rattle.tp_refs.specs.Store.{Store}
use Rattle.tp_sharing.specs.Forest.{content}
use Rattle.tp_sharing.specs.Volumes.{Volumes}
use Rattle.tp_btree.specs.Trees.{Told}
use Rattle.tp_mapping.specs.Held.{HasThere, HoldsVolume, entry_of}
use Rattle.tp_mapping.specs.Telling.{IsMappedOf}
use Rattle.tp_mapping.proofs.Holding.{height, volume_stands}
use Rattle.tp_mapping.proofs.Telling.{beyond_of, inside_of, named_of, told_of}
use Rattle.tp_mapping.proofs.tree_runs.find_places.Given.{Over}
use Rattle.tp_mapping.proofs.tree_runs.find_places.Goals as goal
use Rattle.tp_mapping.proofs.tree_runs.find_places.Goals.{After-places_in}

err_of : {T : Type 0} (r : Result T StoreError) (x : StoreError) (Q : StoreError → Type 0) → r ≡ Err x → IfErr r Q → Q x
err_of {T} r x Q e h = subst (λ (z : Result T StoreError). IfErr z Q) e h

-- what the tree has at each virtual block of the run
there : (g : Over) (c : After-places_in g) → IsTrue (g.D.Disk.state c.args.disk.now).is_honest → (geo : Geometry) (root : ℕ) (now : Volumes) (device : ℕ)
    → (h : HasThere geo c.args.tm.now (g.D.Disk.state c.args.disk.now) root now device c.args.there) → c.args.first + length c.args.places.now ≤ 2 ^ 24
    → (i : ℕ) → i < length c.args.places.now
    → Told c.args.tm.now.geometry.metadata_blocks Mapping (found (c.args.first + i) (content 1 h.volume.trees.store c.args.there.volume.root))
    (is_shared_path (height 1 h.volume.trees.store c.args.there.volume.root) h.volume.trees.store (c.args.first + i) c.args.there.volume.root) (slice_index_or c.lookup_run.new.out i None)
there g c honest geo root now device h fits i lt =
    let t = c.args.tm.now in
    let s = h.volume.trees.store in
    let v = c.args.there.volume.root in
    subst (λ k. Told t.geometry.metadata_blocks Mapping (found (k + i) (content 1 s v)) (is_shared_path (height 1 s v) s (k + i) v) (slice_index_or c.lookup_run.new.out i None)) c.number-key.ensures.value
    (c.in_ok-lookup_run.ensures.looked.told honest _ _ s _ _ (volume_stands geo t (g.D.Disk.state c.args.disk.now) root [] now h.volume.trees device (entry_of device c.args.there.volume) h.volume.told)
    (omega (arith, fits, c.number-key.ensures.value, c.requires.same)) i (omega (arith, lt, c.requires.same)))

pub returns-in_err-lookup_run-clause-looked : goal.returns-in_err-lookup_run-clause-looked
returns-in_err-lookup_run-clause-looked g c = record {
  told = search rules;
  damaged = λ e honest geo root now device h fits.
      let f : c.lookup_run.result ≡ Err Damaged = search (rules, e) in
      c.lookup_run.ensures.looked.damaged f honest _ _ h.volume.trees.store _ _ (volume_stands geo c.args.tm.now (g.D.Disk.state c.args.disk.now) root [] now h.volume.trees device (entry_of device c.args.there.volume) h.volume.told)
      (omega (arith, fits, c.number-key.ensures.value, c.requires.same));
  state = search rules;
}

pub returns-clause-looked : goal.returns-clause-looked
returns-clause-looked g c = record {
  told = on_ok_weaker c.places_in.result
      (λ value honest geo root now device h fits i lt.
      told_of geo c.args.tm.now (g.D.Disk.state c.args.disk.now) root now device c.args.there.volume h.volume (c.args.first + i) (slice_index_or c.lookup_run.new.out i None) (slice_index_or c.places_in.new.places i None)
      (subst (λ b. IsMappedOf b (slice_index_or c.lookup_run.new.out i None) (slice_index_or c.places_in.new.places i None)) h.shared (value i lt))
      (there g (goal.at.returns-clause-looked g c).After-places_in honest geo root now device h fits i lt))
      c.places_in.ensures.value;
  damaged = λ e honest geo root now device h fits.
      let r = (err_of c.places_in.result Damaged _ e c.places_in.ensures.err).1 in
      inside_of geo c.args.tm.now (g.D.Disk.state c.args.disk.now) root now device c.args.there.volume h.volume (c.args.first + r.0) (slice_index_or c.lookup_run.new.out r.0 None) r.2
      (there g (goal.at.returns-clause-looked g c).After-places_in honest geo root now device h fits r.0 r.1);
  state = search rules;
}

-- what it has there, below whichever root
there_below : (g : Over) (c : After-places_in g) → IsTrue (g.D.Disk.state c.args.disk.now).is_honest → (refs : List ℕ) (s : Store) → HoldsVolume c.args.tm.now (g.D.Disk.state c.args.disk.now) refs s c.args.there.volume.root
    → c.args.first + length c.args.places.now ≤ 2 ^ 24 → (i : ℕ) → i < length c.args.places.now
    → Told c.args.tm.now.geometry.metadata_blocks Mapping (found (c.args.first + i) (content 1 s c.args.there.volume.root))
    (is_shared_path (height 1 s c.args.there.volume.root) s (c.args.first + i) c.args.there.volume.root) (slice_index_or c.lookup_run.new.out i None)
there_below g c honest refs s h fits i lt =
    let t = c.args.tm.now in
    let v = c.args.there.volume.root in
    subst (λ k. Told t.geometry.metadata_blocks Mapping (found (k + i) (content 1 s v)) (is_shared_path (height 1 s v) s (k + i) v) (slice_index_or c.lookup_run.new.out i None)) c.number-key.ensures.value
    (c.in_ok-lookup_run.ensures.looked.told honest _ _ s _ _ h.stands (omega (arith, fits, c.number-key.ensures.value, c.requires.same)) i (omega (arith, lt, c.requires.same)))

pub returns-in_err-lookup_run-clause-named : goal.returns-in_err-lookup_run-clause-named
returns-in_err-lookup_run-clause-named g c = record {
  told = search rules;
  damaged = λ e honest refs s h fits.
      let f : c.lookup_run.result ≡ Err Damaged = search (rules, e) in
      c.lookup_run.ensures.looked.damaged f honest _ _ s _ _ h.stands (omega (arith, fits, c.number-key.ensures.value, c.requires.same));
  state = search rules;
}

pub returns-clause-named : goal.returns-clause-named
returns-clause-named g c = record {
  told = on_ok_weaker c.places_in.result
      (λ value honest refs s h fits i lt.
      named_of c.args.tm.now.geometry.metadata_blocks c.args.there.is_shared (is_shared_path (height 1 s c.args.there.volume.root) s (c.args.first + i) c.args.there.volume.root)
      (found (c.args.first + i) (content 1 s c.args.there.volume.root)) (slice_index_or c.lookup_run.new.out i None) (slice_index_or c.places_in.new.places i None)
      (value i lt) (there_below g (goal.at.returns-clause-named g c).After-places_in honest refs s h fits i lt)) c.places_in.ensures.value;
  damaged = λ e honest refs s h fits.
      let t = c.args.tm.now in
      let r = (err_of c.places_in.result Damaged _ e c.places_in.ensures.err).1 in
      beyond_of t.geometry.metadata_blocks t.geometry.data_blocks (is_shared_path (height 1 s c.args.there.volume.root) s (c.args.first + r.0) c.args.there.volume.root)
      (found (c.args.first + r.0) (content 1 s c.args.there.volume.root)) (slice_index_or c.lookup_run.new.out r.0 None) r.2
      (there_below g (goal.at.returns-clause-named g c).After-places_in honest refs s h fits r.0 r.1) (λ x at. h.blocks (c.args.first + r.0) x at);
  state = search rules;
}
