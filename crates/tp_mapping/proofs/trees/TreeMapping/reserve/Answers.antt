use Rattle.std.proofs.Common.{rules, ◌≡◌, ◌≤◌, ◌∙◌, ◌∷◌, ◌++◌, ℕ, List, [], Err, ap, arith, false, length, map, sym, subst}
use Rattle.std.specs.Prelude.{◌↔◌, slice_index}
use Rattle.tp_counts.specs.declared.error.StoreError.TheVariants.{Damaged}
use Rattle.tp_sharing.specs.Volumes.{Unused, as_copy}
use Rattle.tp_stored.specs.Commit.{fixed_blocks, held_by}
use Rattle.tp_tm.specs.Tm.{Tm, free_metadata, used_metadata}
use Rattle.tp_tm.specs.Holds.{Holds}
use Rattle.tp_btree.specs.Roots.{Passed}
use Rattle.tp_mapping.specs.Held.{HoldTrees}
use Rattle.tp_mapping.specs.Trees.{StandForVolumes}
use Rattle.tp_mapping.specs.declared.trees.TreeMapping.{TreeMapping}
use Rattle.tp_btree.proofs.Running.{ran_still}
use Rattle.tp_mapping.specs.Mapping as told
use Rattle.tp_mapping.proofs.Between.{again, held_trees, ran_as}
use Rattle.tp_mapping.proofs.Copies.{err_of, shared_ran}
use Rattle.tp_mapping.proofs.Holding.{SameCommit}
use Rattle.tp_mapping.proofs.Holdings.{holding, reserved, root_counts, root_fits, root_some, same_use}
use Rattle.tp_mapping.proofs.trees.TreeMapping.reserve.Goals as goal

pub returns-in_err-root-clause-damaged : goal.returns-in_err-root-clause-damaged
returns-in_err-root-clause-damaged c e disk now kept s = let f : c.device_root.result ≡ Err Damaged = search (rules, e) in c.device_root.ensures.damaged f disk now kept s

pub returns-in_err-share-clause-damaged : goal.returns-in_err-share-clause-damaged
returns-in_err-share-clause-damaged c e disk now kept s =
    let m = c.args.self.now in
    let f : c.share.result ≡ Err Damaged = search (rules, e) in
    let at = c.in_ok-root.ensures.inside in
    let h = subst (λ b. HoldTrees m.tm.geometry m.tm disk b [] now) (sym at.0) (held_trees m disk now kept s) in
    root_fits m.tm.geometry m.tm disk c.in_ok-root.root now h c.geometry.ensures.sized at.1 (err_of c.share.result _ _ f c.share.ensures.err).2

pub returns-clause-made : goal.returns-clause-made
returns-clause-made c disk now kept s none =
    let m = c.args.self.now in
    let t = m.tm in
    let g = t.geometry in
    let u = c.share.new.tm in
    let r = c.in_ok-root.root in
    let at = c.in_ok-root.ensures.inside in
    let h = subst (λ b. HoldTrees g t disk b [] now) (sym at.0) (held_trees m disk now kept s) in
    let is = c.in_ok-share.ensures.more in
    let same : SameCommit t u = record {
      geometry = ap (λ (z : Tm). z.geometry) is;
      metadata_kept = ap (λ (z : Tm). z.metadata_kept) is;
      data_kept = ap (λ (z : Tm). z.data_kept) is;
      held_root = ap (λ (z : Tm). z.held_root) is;
    } in
    let alone : Holds t disk [] (r ∷ fixed_blocks g) h.store = subst (λ k. Holds t disk [] (held_by g r k) h.store) none h.holds in
    let passed : Passed h.store u disk [] (r ∷ r ∷ fixed_blocks g) = c.in_ok-share.ensures.shared disk [] (fixed_blocks g) h.store alone in
    let trees = reserved g t disk r now h none (root_some g t disk r now h) u same passed in
    let n : TreeMapping = record { tm = holding u r; root = r } in
    let stands = again kept n disk (now ++ map as_copy now) g same.geometry s.within.volumes_kept (ap length same.metadata_kept ∙ s.within.sized) trees
    (λ place lt. subst (λ (l : List ℕ). (slice_index l place ≡ 0) ↔ Unused place kept) (sym same.data_kept) (s.kept_places place lt)) in
    subst (λ (z : Tm). StandForVolumes (record { tm = z; root = r }) disk (now ++ map as_copy now) kept) (sym c.hold.ensures) stands

pub returns-clause-used : goal.returns-clause-used
returns-clause-used c disk now kept s =
    let m = c.args.self.now in
    let t = m.tm in
    let r = c.in_ok-root.root in
    let at = c.in_ok-root.ensures.inside in
    let h = subst (λ b. HoldTrees t.geometry t disk b [] now) (sym at.0) (held_trees m disk now kept s) in
    subst (λ (z : Tm). (used_metadata z ≡ used_metadata t) × (free_metadata t ≤ free_metadata z)) (sym c.hold.ensures)
    (subst (λ (z : Tm). (used_metadata (holding z r) ≡ used_metadata t) × (free_metadata t ≤ free_metadata (holding z r))) (sym c.in_ok-share.ensures.more)
    (same_use t r (root_counts t.geometry t disk r now h c.geometry.ensures.sized at.1)))

pub returns-clause-ran : goal.returns-clause-ran
returns-clause-ran c disk =
    let t = c.args.self.now.tm in
    let u = c.share.new.tm in
    let ran = shared_ran c.share.result t u c.in_ok-root.root _ _ disk c.in_ok-root.ensures.inside.1 c.share.ensures.more c.share.ensures.err in
    subst (λ (z : Tm). told.Ran 1 false (free_metadata t) (free_metadata z) t.metadata_kept z.metadata_kept t.geometry z.geometry disk disk) (sym c.hold.ensures)
    (ran_as 1 1 false t u disk disk (omega arith) (ran_still 1 t u disk ran.geometry ran.metadata_kept ran.data_kept ran.held_root ran.room ran.used))

pub returns-clause-some : goal.returns-clause-some
returns-clause-some c disk now kept s =
    let m = c.args.self.now in
    let r = c.in_ok-root.root in
    let some = root_some m.tm.geometry m.tm disk m.root now (held_trees m disk now kept s) in
    omega (arith, some, c.in_ok-root.ensures.inside.0, ap (λ (z : Tm). z.held_root) c.hold.ensures)
