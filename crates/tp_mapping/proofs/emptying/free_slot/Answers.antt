use Rattle.std.proofs.Common.{rules, ◌≡◌, ℕ, List, [], Err, IsTrue, Some, None, false, refl, sym, subst, arith}
use Rattle.std.specs.Prelude.{◌^◌, Option}
use Rattle.tp_counts.specs.declared.error.StoreError.TheVariants.{Damaged}
use Rattle.tp_model.specs.Disk.{DiskState}
use Rattle.tp_model.specs.Geometry.{Geometry}
use Rattle.tp_layout.specs.declared.kind.TreeKind.TheVariants.{Mapping}
use Rattle.tp_layout.specs.Entries.{found}
use Rattle.tp_trees.specs.Tree.{is_shared_path}
use Rattle.tp_sharing.specs.Forest.{content}
use Rattle.tp_sharing.specs.Volumes.{BlockSlot, Volumes, without_place}
use Rattle.tp_stored.specs.Commit.{held_by}
use Rattle.tp_tm.specs.Tm.{Tm}
use Rattle.tp_btree.specs.declared.look_up.Found.{Found}
use Rattle.tp_btree.specs.Trees.{Told}
use Rattle.tp_btree.proofs.Running.{ran_read}
use Rattle.tp_mapping.specs.declared.volume.Volume.{Volume}
use Rattle.tp_mapping.specs.Held.{HoldVolume, HoldsSlots}
use Rattle.tp_mapping.proofs.Between.{if_ok_two}
use Rattle.tp_mapping.proofs.Holding.{height, same_commit}
use Rattle.tp_mapping.proofs.Slotting.{slots_stand}
use Rattle.tp_mapping.proofs.Taking.{volume_slots, volume_without}
use Rattle.tp_mapping.proofs.WithoutRuns.{slot_absent, without_absent}
use Rattle.tp_mapping.proofs.emptying.free_slot.Given.{Over}
use Rattle.tp_mapping.proofs.emptying.free_slot.Goals as goal
use Rattle.tp_mapping.proofs.emptying.free_slot.Goals.{In_ok-lookup}

-- the volume's tree
ready : (geo : Geometry) (t : Tm) (d : DiskState) (root : ℕ) (v : Volume) (slots : List BlockSlot) (now : Volumes) → (h : HoldVolume geo t d root v slots now)
    → HoldsSlots t d [] (held_by geo root t.held_root) h.trees.store (2 ^ 24) v
ready geo t d root v slots now h = volume_slots geo t d root [] v slots now h (omega arith)

pub returns-in_err-lookup-clause-damaged : goal.returns-in_err-lookup-clause-damaged
returns-in_err-lookup-clause-damaged g c e honest geo root slots now h =
    let t = c.args.tm.now in
    let d = g.D.Disk.state c.args.disk.now in
    let v = c.args.volume in
    let f : c.lookup.result ≡ Err Damaged = search (rules, e) in
    c.lookup.ensures.damaged f honest _ _ h.trees.store _ _ (slots_stand t d [] (held_by geo root t.held_root) h.trees.store (2 ^ 24) v (ready geo t d root v slots now h))
    (omega (arith, c.number-key.ensures.below, c.number-key.ensures.value))

-- what the tree has there
there : (g : Over) (c : In_ok-lookup g) → IsTrue (g.D.Disk.state c.args.disk.now).is_honest → (geo : Geometry) (root : ℕ) (slots : List BlockSlot) (now : Volumes)
    → (h : HoldVolume geo c.args.tm.now (g.D.Disk.state c.args.disk.now) root c.args.volume slots now) → (o : Option Found) → c.in_ok-lookup.field-0 ≡ o
    → Told c.args.tm.now.geometry.metadata_blocks Mapping (found c.args.block (content 1 h.trees.store c.args.volume.root))
    (is_shared_path (height 1 h.trees.store c.args.volume.root) h.trees.store c.args.block c.args.volume.root) o
there g c honest geo root slots now h o is =
    let t = c.args.tm.now in
    let d = g.D.Disk.state c.args.disk.now in
    let s = h.trees.store in
    let v = c.args.volume.root in
    subst (Told t.geometry.metadata_blocks Mapping (found c.args.block (content 1 s v)) (is_shared_path (height 1 s v) s c.args.block v)) is
    (subst (λ k. Told t.geometry.metadata_blocks Mapping (found k (content 1 s v)) (is_shared_path (height 1 s v) s k v) c.in_ok-lookup.field-0) c.number-key.ensures.value
    (c.in_ok-lookup.ensures.told honest _ _ s _ _ (slots_stand t d [] (held_by geo root t.held_root) s (2 ^ 24) c.args.volume (ready geo t d root c.args.volume slots now h))
    (omega (arith, c.number-key.ensures.below, c.number-key.ensures.value))))

pub returns-in-Some-clause-changed : goal.returns-in-Some-clause-changed
returns-in-Some-clause-changed g c = if_ok_two c.without_slot.result
    (λ changed f size honest geo root slots now h.
    let t = c.args.tm.now in
    let d = g.D.Disk.state c.args.disk.now in
    let d1 = g.D.Disk.state c.lookup.new.disk in
    let d2 = g.D.Disk.state c.without_slot.new.disk in
    let w = there g (goal.at.returns-in-Some-clause-changed g c).In_ok-lookup honest geo root slots now h (Some _) c.in-Some.is in
    volume_without geo t d root [] c.args.volume slots now h c.without_slot.new.tm d2 (same_commit _ _ _ _ d1 d2 c.without_slot.ensures.ran) changed c.args.block size
    (f (subst (λ (z : DiskState). IsTrue z.is_honest) (sym c.in_ok-lookup.ensures.state) honest) [] (held_by geo root t.held_root) h.trees.store (2 ^ 24)
    (subst (λ (z : DiskState). HoldsSlots t z [] (held_by geo root t.held_root) h.trees.store (2 ^ 24) c.args.volume) (sym c.in_ok-lookup.ensures.state) (ready geo t d root c.args.volume slots now h)) _ w.0))
    c.without_slot.ensures.changed c.without_slot.ensures.size

pub returns-in-Some-clause-damaged : goal.returns-in-Some-clause-damaged
returns-in-Some-clause-damaged g c e honest geo root slots now h =
    let t = c.args.tm.now in
    let d = g.D.Disk.state c.args.disk.now in
    let w = there g (goal.at.returns-in-Some-clause-damaged g c).In_ok-lookup honest geo root slots now h (Some _) c.in-Some.is in
    c.without_slot.ensures.damaged e (subst (λ (z : DiskState). IsTrue z.is_honest) (sym c.in_ok-lookup.ensures.state) honest) [] (held_by geo root t.held_root) h.trees.store (2 ^ 24)
    (subst (λ (z : DiskState). HoldsSlots t z [] (held_by geo root t.held_root) h.trees.store (2 ^ 24) c.args.volume) (sym c.in_ok-lookup.ensures.state) (ready geo t d root c.args.volume slots now h)) _ w.0

pub returns-in-None-clause-changed : goal.returns-in-None-clause-changed
returns-in-None-clause-changed g c honest geo root slots now h =
    let t = c.args.tm.now in
    let d = g.D.Disk.state c.args.disk.now in
    let none = there g (goal.at.returns-in-None-clause-changed g c).In_ok-lookup honest geo root slots now h None c.in-None.is in
    let same = without_absent c.args.block slots (slot_absent geo t d root [] c.args.volume slots now h c.args.block none) in
    subst (λ (z : DiskState). HoldVolume geo t z root c.args.volume (without_place c.args.block slots) now) (sym c.in_ok-lookup.ensures.state)
    (subst (λ (ys : List BlockSlot). HoldVolume geo t d root c.args.volume ys now) (sym same) h)

pub returns-in-None-clause-ran : goal.returns-in-None-clause-ran
returns-in-None-clause-ran g c =
    ran_read 7 false c.args.tm.now c.args.tm.now (g.D.Disk.state c.args.disk.now) (g.D.Disk.state c.lookup.new.disk) refl refl refl refl (omega arith) (omega arith) c.in_ok-lookup.ensures.state
