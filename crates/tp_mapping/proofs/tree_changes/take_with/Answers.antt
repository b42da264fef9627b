use Rattle.std.proofs.Common.{rules, ◌≡◌, ◌+◌, ◌∷◌, ◌<◌, ◌∙◌, ℕ, List, [], Err, IsTrue, Some, ap, sym, subst, arith}
use Rattle.std.specs.Prelude.{◌^◌, IsSome}
use Rattle.std.proofs.lemmas.Result.{err_from_is_err_and}
use Rattle.tp_counts.specs.declared.error.StoreError.TheVariants.{Damaged}
use Rattle.tp_model.specs.Geometry.{Geometry}
use Rattle.tp_model.specs.Told.{told_blocks}
use Rattle.tp_sharing.specs.Volumes.{BlockSlot, Volumes, device_of, size_of, with_device}
use Rattle.tp_stored.specs.Commit.{held_by}
use Rattle.tp_btree.specs.Inserts.{Ran}
use Rattle.tp_counts.proofs.Refusing.{fault_is}
use Rattle.tp_btree.proofs.Running.{ran_then}
use Rattle.tp_mapping.specs.Held.{HoldBeside, HoldTrees, HoldsSlots}
use Rattle.tp_mapping.proofs.Between.{is_there, some_there}
use Rattle.tp_mapping.proofs.Taking.{volume_slots, volume_with}
use Rattle.tp_mapping.proofs.Holding.{same_commit, told_most}
use Rattle.tp_mapping.proofs.tree_changes.take_with.Given.{Over}
use Rattle.tp_mapping.proofs.tree_changes.take_with.Goals as goal
use Rattle.tp_mapping.proofs.tree_changes.take_with.Goals.{After-with_slot}

-- the volume that was taken out
taken : (g : Over) (c : After-with_slot g) → IsTrue (g.D.Disk.state c.args.disk.now).is_honest → (geo : Geometry) (now : Volumes) → HoldTrees geo c.args.tm.now (g.D.Disk.state c.args.disk.now) c.args.root ((geo.metadata_blocks + c.args.place) ∷ []) now
    → (slots : List BlockSlot) → device_of c.args.device now ≡ Some slots
    → HoldBeside geo c.take_volume.new.tm (g.D.Disk.state c.take_volume.new.disk) c.in_ok-taken.taken.root ((geo.metadata_blocks + c.args.place) ∷ []) c.in_ok-taken.taken.volume slots (with_device (record { id = c.args.device; size = 0; slots = [] }) now)
taken g c honest geo now h slots is = c.in_ok-taken.ensures.taken honest geo _ now (omega arith) h slots is

-- and its size
told : (g : Over) (c : After-with_slot g) → IsTrue (g.D.Disk.state c.args.disk.now).is_honest → (geo : Geometry) (now : Volumes) → HoldTrees geo c.args.tm.now (g.D.Disk.state c.args.disk.now) c.args.root ((geo.metadata_blocks + c.args.place) ∷ []) now
    → IsSome (device_of c.args.device now) → size_of c.args.device now ≡ Some c.in_ok-taken.taken.volume.size
told g c honest geo now h some = c.in_ok-taken.ensures.told honest geo _ now (omega arith) h some

-- the block is one of the volume's
below : (g : Over) (c : After-with_slot g) → (honest : IsTrue (g.D.Disk.state c.args.disk.now).is_honest) → (geo : Geometry) (now : Volumes) → (h : HoldTrees geo c.args.tm.now (g.D.Disk.state c.args.disk.now) c.args.root ((geo.metadata_blocks + c.args.place) ∷ []) now)
    → (some : IsSome (device_of c.args.device now)) → ((size : ℕ) → size_of c.args.device now ≡ Some size → c.args.block < told_blocks geo size) → c.args.block < 2 ^ 24
below g c honest geo now h some inside =
    let size = c.in_ok-taken.taken.volume.size in
    let is = told g c honest geo now h some in
    let most = told_most geo size h.limits (h.sizes.told c.args.device size is) in
    omega (arith, inside size is, most)

-- it can be changed
ready : (g : Over) (c : After-with_slot g) → (honest : IsTrue (g.D.Disk.state c.args.disk.now).is_honest) → (geo : Geometry) (now : Volumes) → (h : HoldTrees geo c.args.tm.now (g.D.Disk.state c.args.disk.now) c.args.root ((geo.metadata_blocks + c.args.place) ∷ []) now)
    → (slots : List BlockSlot) → (is : device_of c.args.device now ≡ Some slots)
    → HoldsSlots c.take_volume.new.tm (g.D.Disk.state c.take_volume.new.disk) [] ((c.take_volume.new.tm.geometry.metadata_blocks + c.args.place) ∷ held_by geo c.in_ok-taken.taken.root c.take_volume.new.tm.held_root) (taken g c honest geo now h slots is).trees.store (2 ^ 24) c.in_ok-taken.taken.volume
ready g c honest geo now h slots is =
    let b = taken g c honest geo now h slots is in
    subst (λ (n : ℕ). HoldsSlots c.take_volume.new.tm (g.D.Disk.state c.take_volume.new.disk) [] ((n + c.args.place) ∷ held_by geo c.in_ok-taken.taken.root c.take_volume.new.tm.held_root) b.trees.store (2 ^ 24) c.in_ok-taken.taken.volume)
    (sym (ap (λ (z : Geometry). z.metadata_blocks) b.trees.geometry))
    (volume_slots geo c.take_volume.new.tm (g.D.Disk.state c.take_volume.new.disk) c.in_ok-taken.taken.root ((geo.metadata_blocks + c.args.place) ∷ []) c.in_ok-taken.taken.volume slots (with_device (record { id = c.args.device; size = 0; slots = [] }) now) b (omega arith))

pub returns-in_err-taken-clause-damaged : goal.returns-in_err-taken-clause-damaged
returns-in_err-taken-clause-damaged g c e honest geo now h some inside =
    let f : c.take_volume.result ≡ Err Damaged = search (rules, e) in
    c.take_volume.ensures.damaged f honest geo _ now (omega arith) h some

pub returns-in_err-volume-clause-damaged : goal.returns-in_err-volume-clause-damaged
returns-in_err-volume-clause-damaged g c e honest geo now h some inside =
    let f : c.with_slot.result ≡ Err Damaged = search (rules, e) in
    let o = some_there (device_of c.args.device now) some in
    c.with_slot.ensures.damaged f (subst IsTrue (sym c.in_ok-taken.ensures.ran.same_disk.is_honest) honest) _ _ _ _
    (ready g (goal.at.returns-in_err-volume-clause-damaged g c).After-with_slot honest geo now h o.0 o.1)
    (below g (goal.at.returns-in_err-volume-clause-damaged g c).After-with_slot honest geo now h some inside)

pub returns-clause-changed : goal.returns-clause-changed
returns-clause-changed g c honest geo now h slots is inside =
    let a = (goal.at.returns-clause-changed g c).After-with_slot in
    let u = c.take_volume.new.tm in
    let d1 = g.D.Disk.state c.take_volume.new.disk in
    let d2 = g.D.Disk.state c.with_slot.new.disk in
    volume_with geo u d1 c.in_ok-taken.taken.root _ c.in_ok-taken.taken.volume slots _ (taken g a honest geo now h slots is) c.with_slot.new.tm d2
    (same_commit _ _ _ _ d1 d2 c.in_ok-volume.ensures.ran) c.in_ok-volume.volume c.args.block c.args.place c.in_ok-volume.ensures.size (inside c.in_ok-taken.taken.volume.size (told g a honest geo now h (is_there _ slots is)))
    (c.in_ok-volume.ensures.changed (subst IsTrue (sym c.in_ok-taken.ensures.ran.same_disk.is_honest) honest) _ _ _ _ (ready g a honest geo now h slots is) (below g a honest geo now h (is_there _ slots is) inside))

pub returns-in_err-volume-clause-ran : goal.returns-in_err-volume-clause-ran
returns-in_err-volume-clause-ran g c =
    let p = err_from_is_err_and c.from_residual-in_err-volume.result c.from_residual-in_err-volume.ensures.1 in
    let d = g.D.Disk.state c.args.disk.now in
    let d1 = g.D.Disk.state c.take_volume.new.disk in
    let d2 = g.D.Disk.state c.with_slot.new.disk in
    subst (λ b. Ran 13 b c.args.tm.now c.with_slot.new.tm d d2) (sym (fault_is c.from_residual-in_err-volume.result p.0 c.in_err-volume.field-0.0 p.1 p.2))
    (ran_then 4 9 13 _ c.args.tm.now c.take_volume.new.tm c.with_slot.new.tm d d1 d2 (omega arith) c.in_ok-taken.ensures.ran c.in_err-volume.ensures.ran)

pub returns-clause-ran : goal.returns-clause-ran
returns-clause-ran g c =
    let d = g.D.Disk.state c.args.disk.now in
    let d1 = g.D.Disk.state c.take_volume.new.disk in
    let d2 = g.D.Disk.state c.with_slot.new.disk in
    ran_then 4 9 13 _ c.args.tm.now c.take_volume.new.tm c.with_slot.new.tm d d1 d2 (omega arith) c.in_ok-taken.ensures.ran c.in_ok-volume.ensures.ran

pub returns-clause-told : goal.returns-clause-told
returns-clause-told g c honest geo now h some = told g (goal.at.returns-clause-told g c).After-with_slot honest geo now h some ∙ ap Some (sym c.in_ok-volume.ensures.size)
