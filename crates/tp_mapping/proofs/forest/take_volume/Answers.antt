use Rattle.std.proofs.Common.{rules, ◌≡◌, ◌≤◌, ◌++◌, ℕ, List, [], Err, IsTrue, Some, length, ◌∙◌, ap, arith, subst, sym}
use Rattle.std.specs.Prelude.{◌^◌}
use Rattle.std.proofs.lemmas.Result.{err_from_is_err_and}
use Rattle.tp_counts.specs.declared.error.StoreError.TheVariants.{Damaged}
use Rattle.tp_model.specs.Geometry.{Geometry}
use Rattle.tp_model.specs.Told.{IsToldSize}
use Rattle.tp_layout.specs.declared.entry.Entry.{Entry}
use Rattle.tp_layout.specs.declared.kind.TreeKind.TheVariants.{Device}
use Rattle.tp_layout.specs.Entries.{found}
use Rattle.tp_refs.specs.Store.{first_named, moved_by}
use Rattle.tp_sharing.specs.Forest.{content, held_refs}
use Rattle.tp_sharing.specs.Volumes.{Volumes, with_device}
use Rattle.tp_stored.specs.Commit.{fixed_blocks}
use Rattle.tp_btree.specs.Inserts.{Ran}
use Rattle.tp_btree.specs.Replaces.{CanReplace, Swapped}
use Rattle.tp_counts.proofs.Refusing.{fault_is}
use Rattle.tp_btree.proofs.Running.{ran_then}
use Rattle.tp_mapping.specs.Held.{HoldBeside, HoldTrees, entry_of, in_use}
use Rattle.tp_mapping.proofs.Between.{is_there}
use Rattle.tp_mapping.proofs.Holding.{height, same_commit}
use Rattle.tp_mapping.proofs.Putting.{over_in_use, some_entry}
use Rattle.tp_mapping.proofs.Use.{in_use_metadata, metadata_in_row}
use Rattle.tp_mapping.proofs.Taking.{may_exchange, was_exchanged, was_few, was_inside, was_may, was_told}
use Rattle.tp_mapping.proofs.forest.take_volume.Given.{Over}
use Rattle.tp_mapping.proofs.forest.take_volume.Goals as goal
use Rattle.tp_mapping.proofs.forest.take_volume.Goals.{After-replace, After-volume_in}

-- the volume without slots
made : (g : Over) (c : After-replace g) → (geo : Geometry) (more : List ℕ) (now : Volumes) → HoldTrees geo c.args.tm.now (g.D.Disk.state c.args.disk.now) c.args.root more now
    → HoldBeside geo c.new_volume.new.tm (g.D.Disk.state c.new_volume.new.disk) c.args.root more c.in_ok-without_slots.without_slots [] now
made g c geo more now h = c.in_ok-without_slots.ensures.made geo c.args.root more now h

ready : (g : Over) (c : After-replace g) → (geo : Geometry) (more : List ℕ) (now : Volumes) → length more ≤ 8 → (h : HoldTrees geo c.args.tm.now (g.D.Disk.state c.args.disk.now) c.args.root more now) → (old : Entry)
    → found c.args.device (content 5 (made g c geo more now h).trees.store c.args.root) ≡ Some old
    → CanReplace c.new_volume.new.tm (g.D.Disk.state c.new_volume.new.disk) Device [] (more ++ (held_refs c.new_volume.new.tm.held_root ++ fixed_blocks geo)) (made g c geo more now h).trees.store (height 5 (made g c geo more now h).trees.store c.args.root) 0 (2 ^ 24) c.args.root
    (moved_by (first_named c.new_volume.new.tm.geometry.metadata_blocks Device 0) c.device_entry-entry.result) old
ready g c geo more now few h old there =
    let t = c.new_volume.new.tm in
    let d = g.D.Disk.state c.new_volume.new.disk in
    let s = (made g c geo more now h).trees.store in
    subst (λ (y : Entry). CanReplace t d Device [] (more ++ (held_refs t.held_root ++ fixed_blocks geo)) s (height 5 s c.args.root) 0 (2 ^ 24) c.args.root (moved_by (first_named t.geometry.metadata_blocks Device 0) y) old) (sym c.device_entry-entry.ensures.value)
    (may_exchange geo t d c.args.root more c.in_ok-without_slots.without_slots now (made g c geo more now h) (omega (arith, few)) c.args.device c.device_entry-entry.ensures.below old there)

pub returns-in_err-done-clause-damaged : goal.returns-in_err-done-clause-damaged
returns-in_err-done-clause-damaged g c e honest geo more now few h some =
    let a = (goal.at.returns-in_err-done-clause-damaged g c).After-replace in
    let f : c.replace.result ≡ Err Damaged = search (rules, e) in
    let old = some_entry geo c.new_volume.new.tm (g.D.Disk.state c.new_volume.new.disk) c.args.root _ now (made g a geo more now h).trees c.args.device c.device_entry-entry.ensures.below some in
    c.replace.ensures.damaged f (subst IsTrue (sym c.in_ok-without_slots.ensures.ran.same_disk.is_honest) honest) _ _ _ _ _ _ (ready g a geo more now few h old.0 old.1)

pub returns-in_err-done-clause-ran : goal.returns-in_err-done-clause-ran
returns-in_err-done-clause-ran g c =
    let p = err_from_is_err_and c.from_residual-in_err-done.result c.from_residual-in_err-done.ensures.1 in
    let d = g.D.Disk.state c.args.disk.now in
    let d1 = g.D.Disk.state c.new_volume.new.disk in
    let d2 = g.D.Disk.state c.replace.new.disk in
    subst (λ b. Ran 4 b c.args.tm.now c.replace.new.tm d d2) (sym (fault_is c.from_residual-in_err-done.result p.0 c.in_err-done.field-0.0 p.1 p.2))
    (ran_then 1 3 4 _ c.args.tm.now c.new_volume.new.tm c.replace.new.tm d d1 d2 (omega arith) c.in_ok-without_slots.ensures.ran c.in_err-done.ensures.ran)

-- what stands then
swapped : (g : Over) (c : After-volume_in g) → IsTrue (g.D.Disk.state c.args.disk.now).is_honest → (geo : Geometry) (more : List ℕ) (now : Volumes) → length more ≤ 8 → (h : HoldTrees geo c.args.tm.now (g.D.Disk.state c.args.disk.now) c.args.root more now) → (old : Entry)
    → found c.args.device (content 5 (made g (goal.at.After-volume_in g c).After-replace geo more now h).trees.store c.args.root) ≡ Some old
    → Swapped c.new_volume.new.tm.geometry.metadata_blocks (made g (goal.at.After-volume_in g c).After-replace geo more now h).trees.store c.replace.new.tm (g.D.Disk.state c.replace.new.disk) Device [] (more ++ (held_refs c.new_volume.new.tm.held_root ++ fixed_blocks geo))
    (height 5 (made g (goal.at.After-volume_in g c).After-replace geo more now h).trees.store c.args.root) 0 (2 ^ 24) c.args.root (moved_by (first_named c.new_volume.new.tm.geometry.metadata_blocks Device 0) (entry_of c.args.device c.in_ok-without_slots.without_slots)) old c.in_ok-done.done
swapped g c honest geo more now few h old there =
    let a = (goal.at.After-volume_in g c).After-replace in
    let t = c.new_volume.new.tm in
    let s = (made g a geo more now h).trees.store in
    subst (λ (y : Entry). Swapped t.geometry.metadata_blocks s c.replace.new.tm (g.D.Disk.state c.replace.new.disk) Device [] (more ++ (held_refs t.held_root ++ fixed_blocks geo)) (height 5 s c.args.root) 0 (2 ^ 24) c.args.root (moved_by (first_named t.geometry.metadata_blocks Device 0) y) old c.in_ok-done.done) c.device_entry-entry.ensures.value
    (c.in_ok-done.ensures.replaced (subst IsTrue (sym c.in_ok-without_slots.ensures.ran.same_disk.is_honest) honest) _ _ _ _ _ _ (ready g a geo more now few h old there))

pub returns-in_err-volume-clause-damaged : goal.returns-in_err-volume-clause-damaged
returns-in_err-volume-clause-damaged g c e honest geo more now few h some =
    let v = (goal.at.returns-in_err-volume-clause-damaged g c).After-volume_in in
    let a = (goal.at.After-volume_in g v).After-replace in
    let t = c.new_volume.new.tm in
    let d = g.D.Disk.state c.new_volume.new.disk in
    let u = c.replace.new.tm in
    let d2 = g.D.Disk.state c.replace.new.disk in
    let m = made g a geo more now h in
    let old = some_entry geo t d c.args.root _ now m.trees c.args.device c.device_entry-entry.ensures.below some in
    let r = swapped g v honest geo more now few h old.0 old.1 in
    let same = same_commit _ _ _ _ d d2 c.in_ok-done.ensures.ran in
    c.in_err-volume.ensures.err.1
    (omega (arith, was_inside geo t d c.args.root more c.in_ok-without_slots.without_slots now m (omega (arith, few)) c.args.device c.device_entry-entry.ensures.below old.0 old.1 u d2 same c.in_ok-done.done r, ap (λ (z : Geometry). z.metadata_blocks) c.in_ok-done.ensures.ran.geometry))
    (was_few geo t d c.args.root more c.in_ok-without_slots.without_slots now m (omega (arith, few)) c.args.device c.device_entry-entry.ensures.below old.0 old.1 u d2 same c.in_ok-done.done r)
    (subst (λ (z : Geometry). IsToldSize z c.in_ok-done.done.was.size) (sym (c.in_ok-done.ensures.ran.geometry ∙ m.trees.geometry))
    (was_may geo t d c.args.root more c.in_ok-without_slots.without_slots now m (omega (arith, few)) c.args.device c.device_entry-entry.ensures.below old.0 old.1 u d2 same c.in_ok-done.done r))

pub returns-in_err-volume-clause-ran : goal.returns-in_err-volume-clause-ran
returns-in_err-volume-clause-ran g c =
    let p = err_from_is_err_and c.from_residual-in_err-volume.result c.from_residual-in_err-volume.ensures.1 in
    let d = g.D.Disk.state c.args.disk.now in
    let d1 = g.D.Disk.state c.new_volume.new.disk in
    let d2 = g.D.Disk.state c.replace.new.disk in
    subst (λ b. Ran 4 b c.args.tm.now c.replace.new.tm d d2) (sym (fault_is c.from_residual-in_err-volume.result p.0 c.in_err-volume.field-0.0 p.1 p.2 ∙ search (rules, c.in_err-volume.ensures.err.0)))
    (ran_then 1 3 4 _ c.args.tm.now c.new_volume.new.tm c.replace.new.tm d d1 d2 (omega arith) c.in_ok-without_slots.ensures.ran c.in_ok-done.ensures.ran)

pub returns-clause-taken : goal.returns-clause-taken
returns-clause-taken g c honest geo more now few h slots is =
    let v = (goal.at.returns-clause-taken g c).After-volume_in in
    let a = (goal.at.After-volume_in g v).After-replace in
    let t = c.new_volume.new.tm in
    let d = g.D.Disk.state c.new_volume.new.disk in
    let u = c.replace.new.tm in
    let d2 = g.D.Disk.state c.replace.new.disk in
    let m = made g a geo more now h in
    let old = some_entry geo t d c.args.root _ now m.trees c.args.device c.device_entry-entry.ensures.below (is_there _ slots is) in
    subst (λ n. HoldBeside geo u d2 c.in_ok-done.done.root more c.in_ok-volume.volume slots (with_device (record { id = c.args.device; size = n; slots = [] }) now)) c.in_ok-without_slots.ensures.size
    (was_exchanged geo t d c.args.root more c.in_ok-without_slots.without_slots now m (omega (arith, few)) c.args.device c.device_entry-entry.ensures.below old.0 old.1 u d2
    (same_commit _ _ _ _ d d2 c.in_ok-done.ensures.ran) c.in_ok-done.done (swapped g v honest geo more now few h old.0 old.1) c.in_ok-volume.volume c.in_ok-volume.ensures.value.0 c.in_ok-volume.ensures.value.1 c.in_ok-volume.ensures.value.2 slots is)

pub returns-clause-told : goal.returns-clause-told
returns-clause-told g c honest geo more now few h some =
    let v = (goal.at.returns-clause-told g c).After-volume_in in
    let a = (goal.at.After-volume_in g v).After-replace in
    let t = c.new_volume.new.tm in
    let d = g.D.Disk.state c.new_volume.new.disk in
    let u = c.replace.new.tm in
    let d2 = g.D.Disk.state c.replace.new.disk in
    let m = made g a geo more now h in
    let old = some_entry geo t d c.args.root _ now m.trees c.args.device c.device_entry-entry.ensures.below some in
    was_told geo t d c.args.root more c.in_ok-without_slots.without_slots now m (omega (arith, few)) c.args.device c.device_entry-entry.ensures.below old.0 old.1 u d2
    (same_commit _ _ _ _ d d2 c.in_ok-done.ensures.ran) c.in_ok-done.done (swapped g v honest geo more now few h old.0 old.1)
    ∙ ap Some (sym c.in_ok-volume.ensures.value.2)

pub returns-clause-ran : goal.returns-clause-ran
returns-clause-ran g c =
    let d = g.D.Disk.state c.args.disk.now in
    let d1 = g.D.Disk.state c.new_volume.new.disk in
    let d2 = g.D.Disk.state c.replace.new.disk in
    ran_then 1 3 4 _ c.args.tm.now c.new_volume.new.tm c.replace.new.tm d d1 d2 (omega arith) c.in_ok-without_slots.ensures.ran c.in_ok-done.ensures.ran

pub returns-clause-used : goal.returns-clause-used
returns-clause-used g c none_held honest geo now h some =
    let v = (goal.at.returns-clause-used g c).After-volume_in in
    let a = (goal.at.After-volume_in g v).After-replace in
    let t = c.new_volume.new.tm in
    let d = g.D.Disk.state c.new_volume.new.disk in
    let u = c.replace.new.tm in
    let d2 = g.D.Disk.state c.replace.new.disk in
    let m = made g a geo [] now h in
    let old = some_entry geo t d c.args.root _ now m.trees c.args.device c.device_entry-entry.ensures.below some in
    let over : in_use u ≤ in_use t = over_in_use geo t d c.args.root c.in_ok-without_slots.without_slots [] now m c.args.device c.device_entry-entry.ensures.below (c.in_ok-without_slots.ensures.ran.held_root ∙ none_held) old.0 old.1 u d2
    (same_commit _ _ _ _ d d2 c.in_ok-done.ensures.ran) c.in_ok-done.done (swapped g v honest geo [] now (omega arith) h old.0 old.1) in
    omega (arith, over, in_use_metadata t c.geometry.ensures.sized, c.in_ok-without_slots.ensures.ran.used, metadata_in_row c.args.tm.now)
