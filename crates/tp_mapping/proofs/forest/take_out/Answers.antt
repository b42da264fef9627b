use Rattle.std.proofs.Common.{rules, ◌≡◌, ◌++◌, ◌≤◌, [], Err, IsTrue, Some, arith, subst, sym}
use Rattle.std.specs.Prelude.{◌^◌, IsSome}
use Rattle.std.proofs.lemmas.Result.{err_from_is_err_and}
use Rattle.tp_counts.specs.declared.error.StoreError.TheVariants.{Damaged}
use Rattle.tp_model.specs.Geometry.{Geometry}
use Rattle.tp_layout.specs.declared.entry.Entry.{Entry}
use Rattle.tp_layout.specs.declared.kind.TreeKind.TheVariants.{Device}
use Rattle.tp_layout.specs.Entries.{found}
use Rattle.tp_sharing.specs.Forest.{content, held_refs}
use Rattle.tp_sharing.specs.Volumes.{Volumes, device_of, without_device}
use Rattle.tp_stored.specs.Commit.{fixed_blocks}
use Rattle.tp_btree.specs.Inserts.{Ran}
use Rattle.tp_btree.specs.Removes.{CanRemove, WasRemoved}
use Rattle.tp_counts.proofs.Refusing.{fault_is}
use Rattle.tp_btree.proofs.Running.{ran_then}
use Rattle.tp_mapping.specs.Held.{HoldTrees, HoldsOld, in_use}
use Rattle.tp_mapping.proofs.Holding.{height, same_commit}
use Rattle.tp_mapping.proofs.Putting.{may_take, some_entry, taken_in_use, was_taken}
use Rattle.tp_mapping.proofs.forest.take_out.Given.{Over}
use Rattle.tp_mapping.proofs.forest.take_out.Goals as goal
use Rattle.tp_mapping.proofs.forest.take_out.Goals.{After-drop_volume, After-remove}

ready : (g : Over) (c : After-remove g) → (geo : Geometry) (now : Volumes) → (h : HoldTrees geo c.args.tm.now (g.D.Disk.state c.args.disk.now) c.args.root [] now) → (old : Entry)
    → found c.args.device (content 5 h.store c.args.root) ≡ Some old
    → CanRemove c.args.tm.now (g.D.Disk.state c.args.disk.now) Device [] (held_refs c.args.tm.now.held_root ++ fixed_blocks geo) h.store (height 5 h.store c.args.root) 0 (2 ^ 24) c.args.root c.number-key.result old
ready g c geo now h old there =
    let t = c.args.tm.now in
    let d = g.D.Disk.state c.args.disk.now in
    subst (λ x. CanRemove t d Device [] (held_refs t.held_root ++ fixed_blocks geo) h.store (height 5 h.store c.args.root) 0 (2 ^ 24) c.args.root x old) (sym c.number-key.ensures.value)
    (may_take geo t d c.args.root now h c.args.device (omega (arith, c.number-key.ensures.below)) old there)

pub returns-in_err-done-clause-changed : goal.returns-in_err-done-clause-changed
returns-in_err-done-clause-changed g c = record {
  made = search rules;
  damaged = λ e honest geo now h some.
      let f : c.remove.result ≡ Err Damaged = search (rules, e) in
      let old = some_entry geo c.args.tm.now (g.D.Disk.state c.args.disk.now) c.args.root _ now h c.args.device (omega (arith, c.number-key.ensures.below)) some in
      c.remove.ensures.damaged f honest _ _ _ _ _ _ (ready g (goal.at.returns-in_err-done-clause-changed g c).After-remove geo now h old.0 old.1);
  ran = search rules;
}

taken : (g : Over) (c : After-drop_volume g) → IsTrue (g.D.Disk.state c.args.disk.now).is_honest → (geo : Geometry) (now : Volumes) → HoldTrees geo c.args.tm.now (g.D.Disk.state c.args.disk.now) c.args.root [] now
    → IsSome (device_of c.args.device now) → HoldsOld geo c.remove.new.tm (g.D.Disk.state c.remove.new.disk) c.in_ok-done.done.root c.in_ok-done.done.was.value (without_device c.args.device now)
taken g c honest geo now h some =
    let t = c.args.tm.now in
    let d = g.D.Disk.state c.args.disk.now in
    let u = c.remove.new.tm in
    let d1 = g.D.Disk.state c.remove.new.disk in
    let k = height 5 h.store c.args.root in
    let old = some_entry geo t d c.args.root _ now h c.args.device (omega (arith, c.number-key.ensures.below)) some in
    was_taken geo t d c.args.root now h c.args.device (omega (arith, c.number-key.ensures.below)) old.0 old.1 u d1 (same_commit _ _ _ _ d d1 c.in_ok-done.ensures.ran) c.in_ok-done.done
    (subst (λ x. WasRemoved t.geometry.metadata_blocks h.store u d1 Device [] (held_refs t.held_root ++ fixed_blocks geo) k (2 ^ 24) c.args.root x old.0 c.in_ok-done.done) c.number-key.ensures.value
    (c.in_ok-done.ensures.removed honest _ _ _ _ _ _ (ready g (goal.at.After-drop_volume g c).After-remove geo now h old.0 old.1)))

pub returns-in_err-drop_volume-clause-changed : goal.returns-in_err-drop_volume-clause-changed
returns-in_err-drop_volume-clause-changed g c = record {
  made = search rules;
  damaged = λ e honest geo now h some.
      let f : c.drop_volume.result ≡ Err Damaged = search (rules, e) in
      c.drop_volume.ensures.damaged f (subst IsTrue (sym c.in_ok-done.ensures.ran.same_disk.is_honest) honest) geo _ _ (taken g (goal.at.returns-in_err-drop_volume-clause-changed g c).After-drop_volume honest geo now h some);
  ran =
      let p = err_from_is_err_and c.from_residual-in_err-drop_volume.result c.from_residual-in_err-drop_volume.ensures.1 in
      let d = g.D.Disk.state c.args.disk.now in
      let d1 = g.D.Disk.state c.remove.new.disk in
      let d2 = g.D.Disk.state c.drop_volume.new.disk in
      subst (λ b. Ran 5 b c.args.tm.now c.drop_volume.new.tm d d2) (sym (fault_is c.from_residual-in_err-drop_volume.result p.0 c.in_err-drop_volume.field-0.0 p.1 p.2))
      (ran_then 5 0 5 _ c.args.tm.now c.remove.new.tm c.drop_volume.new.tm d d1 d2 (omega arith) c.in_ok-done.ensures.ran c.in_err-drop_volume.ensures.ran);
}

pub returns-clause-changed : goal.returns-clause-changed
returns-clause-changed g c = record {
  made = λ honest geo now h some.
      c.in_ok-drop_volume.ensures.dropped (subst IsTrue (sym c.in_ok-done.ensures.ran.same_disk.is_honest) honest) geo _ _ (taken g (goal.at.returns-clause-changed g c).After-drop_volume honest geo now h some);
  damaged = search rules;
  ran =
      ran_then 5 0 5 _ c.args.tm.now c.remove.new.tm c.drop_volume.new.tm (g.D.Disk.state c.args.disk.now) (g.D.Disk.state c.remove.new.disk) (g.D.Disk.state c.drop_volume.new.disk) (omega arith) c.in_ok-done.ensures.ran c.in_ok-drop_volume.ensures.ran;
}

removed_in_use : (g : Over) (c : After-drop_volume g) → c.args.tm.now.held_root ≡ 0 → IsTrue (g.D.Disk.state c.args.disk.now).is_honest → (geo : Geometry) (now : Volumes) → HoldTrees geo c.args.tm.now (g.D.Disk.state c.args.disk.now) c.args.root [] now
    → IsSome (device_of c.args.device now) → in_use c.remove.new.tm ≤ in_use c.args.tm.now
removed_in_use g c none_held honest geo now h some =
    let t = c.args.tm.now in
    let d = g.D.Disk.state c.args.disk.now in
    let u = c.remove.new.tm in
    let d1 = g.D.Disk.state c.remove.new.disk in
    let k = height 5 h.store c.args.root in
    let old = some_entry geo t d c.args.root _ now h c.args.device (omega (arith, c.number-key.ensures.below)) some in
    taken_in_use geo t d c.args.root now h c.args.device (omega (arith, c.number-key.ensures.below)) old.0 old.1 none_held u d1 (same_commit _ _ _ _ d d1 c.in_ok-done.ensures.ran) c.in_ok-done.done
    (subst (λ x. WasRemoved t.geometry.metadata_blocks h.store u d1 Device [] (held_refs t.held_root ++ fixed_blocks geo) k (2 ^ 24) c.args.root x old.0 c.in_ok-done.done) c.number-key.ensures.value
    (c.in_ok-done.ensures.removed honest _ _ _ _ _ _ (ready g (goal.at.After-drop_volume g c).After-remove geo now h old.0 old.1)))

pub returns-clause-used : goal.returns-clause-used
returns-clause-used g c none_held honest geo now h some =
    let a = (goal.at.returns-clause-used g c).After-drop_volume in
    let first : in_use c.remove.new.tm ≤ in_use c.args.tm.now = removed_in_use g a none_held honest geo now h some in
    let second : in_use c.drop_volume.new.tm ≤ in_use c.remove.new.tm =
    c.in_ok-drop_volume.ensures.used (subst IsTrue (sym c.in_ok-done.ensures.ran.same_disk.is_honest) honest) geo _ _ (taken g a honest geo now h some) in
    omega (arith, first, second)
