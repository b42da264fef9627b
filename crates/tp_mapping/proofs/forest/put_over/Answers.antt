use Rattle.std.proofs.Common.{rules, ◌≡◌, ◌++◌, ◌≤◌, List, [], Err, IsTrue, Some, arith, subst, sym}
use Rattle.std.specs.Prelude.{◌^◌, IsSome}
use Rattle.std.proofs.lemmas.Result.{err_from_is_err_and}
use Rattle.tp_counts.specs.declared.error.StoreError.TheVariants.{Damaged}
use Rattle.tp_model.specs.Geometry.{Geometry}
use Rattle.tp_layout.specs.declared.entry.Entry.{Entry}
use Rattle.tp_layout.specs.declared.kind.TreeKind.TheVariants.{Device}
use Rattle.tp_layout.specs.Entries.{found}
use Rattle.tp_refs.specs.Store.{first_named, moved_by}
use Rattle.tp_sharing.specs.Forest.{content, held_refs}
use Rattle.tp_sharing.specs.Volumes.{BlockSlot, Volumes, device_of, with_device}
use Rattle.tp_stored.specs.Commit.{fixed_blocks}
use Rattle.tp_btree.specs.Inserts.{Ran}
use Rattle.tp_btree.specs.Replaces.{CanReplace, Swapped}
use Rattle.tp_counts.proofs.Refusing.{fault_is}
use Rattle.tp_btree.proofs.Running.{ran_then}
use Rattle.tp_mapping.specs.Held.{HoldVolume, HoldsOld, entry_of, in_use}
use Rattle.tp_mapping.proofs.Holding.{height, same_commit}
use Rattle.tp_mapping.proofs.Putting.{may_put_over, over_in_use, some_entry, was_put_over}
use Rattle.tp_mapping.proofs.forest.put_over.Given.{Over}
use Rattle.tp_mapping.proofs.forest.put_over.Goals as goal
use Rattle.tp_mapping.proofs.forest.put_over.Goals.{After-drop_volume, After-replace}

ready : (g : Over) (c : After-replace g) → (geo : Geometry) (slots : List BlockSlot) (now : Volumes) → (h : HoldVolume geo c.args.tm.now (g.D.Disk.state c.args.disk.now) c.args.root c.args.volume slots now) → (old : Entry)
    → found c.args.device (content 5 h.trees.store c.args.root) ≡ Some old
    → CanReplace c.args.tm.now (g.D.Disk.state c.args.disk.now) Device [] (held_refs c.args.tm.now.held_root ++ fixed_blocks geo) h.trees.store (height 5 h.trees.store c.args.root) 0 (2 ^ 24) c.args.root (moved_by (first_named c.args.tm.now.geometry.metadata_blocks Device 0) c.device_entry-entry.result) old
ready g c geo slots now h old there =
    let t = c.args.tm.now in
    let d = g.D.Disk.state c.args.disk.now in
    subst (λ (y : Entry). CanReplace t d Device [] (held_refs t.held_root ++ fixed_blocks geo) h.trees.store (height 5 h.trees.store c.args.root) 0 (2 ^ 24) c.args.root (moved_by (first_named t.geometry.metadata_blocks Device 0) y) old) (sym c.device_entry-entry.ensures.value)
    (may_put_over geo t d c.args.root c.args.volume slots now h c.args.device c.device_entry-entry.ensures.below old there)

pub returns-in_err-done-clause-damaged : goal.returns-in_err-done-clause-damaged
returns-in_err-done-clause-damaged g c e honest geo slots now h some =
    let f : c.replace.result ≡ Err Damaged = search (rules, e) in
    let old = some_entry geo c.args.tm.now (g.D.Disk.state c.args.disk.now) c.args.root _ now h.trees c.args.device c.device_entry-entry.ensures.below some in
    c.replace.ensures.damaged f honest _ _ _ _ _ _ (ready g (goal.at.returns-in_err-done-clause-damaged g c).After-replace geo slots now h old.0 old.1)

-- what stands then
swapped : (g : Over) (c : After-drop_volume g) → IsTrue (g.D.Disk.state c.args.disk.now).is_honest → (geo : Geometry) (slots : List BlockSlot) (now : Volumes) → (h : HoldVolume geo c.args.tm.now (g.D.Disk.state c.args.disk.now) c.args.root c.args.volume slots now) → (old : Entry)
    → found c.args.device (content 5 h.trees.store c.args.root) ≡ Some old
    → Swapped c.args.tm.now.geometry.metadata_blocks h.trees.store c.replace.new.tm (g.D.Disk.state c.replace.new.disk) Device [] (held_refs c.args.tm.now.held_root ++ fixed_blocks geo) (height 5 h.trees.store c.args.root) 0 (2 ^ 24) c.args.root
    (moved_by (first_named c.args.tm.now.geometry.metadata_blocks Device 0) (entry_of c.args.device c.args.volume)) old c.in_ok-done.done
swapped g c honest geo slots now h old there =
    let t = c.args.tm.now in
    let s = h.trees.store in
    subst (λ (y : Entry). Swapped t.geometry.metadata_blocks s c.replace.new.tm (g.D.Disk.state c.replace.new.disk) Device [] (held_refs t.held_root ++ fixed_blocks geo) (height 5 s c.args.root) 0 (2 ^ 24) c.args.root (moved_by (first_named t.geometry.metadata_blocks Device 0) y) old c.in_ok-done.done) c.device_entry-entry.ensures.value
    (c.in_ok-done.ensures.replaced honest _ _ _ _ _ _ (ready g (goal.at.After-drop_volume g c).After-replace geo slots now h old there))

put : (g : Over) (c : After-drop_volume g) → IsTrue (g.D.Disk.state c.args.disk.now).is_honest → (geo : Geometry) (slots : List BlockSlot) (now : Volumes) → HoldVolume geo c.args.tm.now (g.D.Disk.state c.args.disk.now) c.args.root c.args.volume slots now
    → IsSome (device_of c.args.device now) → HoldsOld geo c.replace.new.tm (g.D.Disk.state c.replace.new.disk) c.in_ok-done.done.root c.in_ok-done.done.was.value (with_device (record { id = c.args.device; size = c.args.volume.size; slots = slots }) now)
put g c honest geo slots now h some =
    let t = c.args.tm.now in
    let d = g.D.Disk.state c.args.disk.now in
    let u = c.replace.new.tm in
    let d1 = g.D.Disk.state c.replace.new.disk in
    let old = some_entry geo t d c.args.root _ now h.trees c.args.device c.device_entry-entry.ensures.below some in
    was_put_over geo t d c.args.root c.args.volume slots now h c.args.device c.device_entry-entry.ensures.below some old.0 old.1 u d1 (same_commit _ _ _ _ d d1 c.in_ok-done.ensures.ran) c.in_ok-done.done
    (swapped g c honest geo slots now h old.0 old.1)

pub returns-in_err-drop_volume-clause-damaged : goal.returns-in_err-drop_volume-clause-damaged
returns-in_err-drop_volume-clause-damaged g c e honest geo slots now h some =
    let f : c.drop_volume.result ≡ Err Damaged = search (rules, e) in
    c.drop_volume.ensures.damaged f (subst IsTrue (sym c.in_ok-done.ensures.ran.same_disk.is_honest) honest) geo _ _ (put g (goal.at.returns-in_err-drop_volume-clause-damaged g c).After-drop_volume honest geo slots now h some)

pub returns-clause-put : goal.returns-clause-put
returns-clause-put g c honest geo slots now h some =
    c.in_ok-drop_volume.ensures.dropped (subst IsTrue (sym c.in_ok-done.ensures.ran.same_disk.is_honest) honest) geo _ _ (put g (goal.at.returns-clause-put g c).After-drop_volume honest geo slots now h some)

pub returns-in_err-drop_volume-clause-ran : goal.returns-in_err-drop_volume-clause-ran
returns-in_err-drop_volume-clause-ran g c =
    let p = err_from_is_err_and c.from_residual-in_err-drop_volume.result c.from_residual-in_err-drop_volume.ensures.1 in
    let d = g.D.Disk.state c.args.disk.now in
    let d1 = g.D.Disk.state c.replace.new.disk in
    let d2 = g.D.Disk.state c.drop_volume.new.disk in
    subst (λ b. Ran 3 b c.args.tm.now c.drop_volume.new.tm d d2) (sym (fault_is c.from_residual-in_err-drop_volume.result p.0 c.in_err-drop_volume.field-0.0 p.1 p.2))
    (ran_then 3 0 3 _ c.args.tm.now c.replace.new.tm c.drop_volume.new.tm d d1 d2 (omega arith) c.in_ok-done.ensures.ran c.in_err-drop_volume.ensures.ran)

pub returns-clause-ran : goal.returns-clause-ran
returns-clause-ran g c =
    ran_then 3 0 3 _ c.args.tm.now c.replace.new.tm c.drop_volume.new.tm (g.D.Disk.state c.args.disk.now) (g.D.Disk.state c.replace.new.disk) (g.D.Disk.state c.drop_volume.new.disk) (omega arith) c.in_ok-done.ensures.ran c.in_ok-drop_volume.ensures.ran

pub returns-clause-used : goal.returns-clause-used
returns-clause-used g c none_held honest geo slots now h some =
    let a = (goal.at.returns-clause-used g c).After-drop_volume in
    let t = c.args.tm.now in
    let d = g.D.Disk.state c.args.disk.now in
    let u = c.replace.new.tm in
    let d1 = g.D.Disk.state c.replace.new.disk in
    let old = some_entry geo t d c.args.root _ now h.trees c.args.device c.device_entry-entry.ensures.below some in
    let over : in_use u ≤ in_use t = over_in_use geo t d c.args.root c.args.volume slots now h c.args.device c.device_entry-entry.ensures.below none_held old.0 old.1 u d1 (same_commit _ _ _ _ d d1 c.in_ok-done.ensures.ran) c.in_ok-done.done
    (swapped g a honest geo slots now h old.0 old.1) in
    let dropped : in_use c.drop_volume.new.tm ≤ in_use u =
    c.in_ok-drop_volume.ensures.used (subst IsTrue (sym c.in_ok-done.ensures.ran.same_disk.is_honest) honest) geo _ _ (put g a honest geo slots now h some) in
    omega (arith, over, dropped)
