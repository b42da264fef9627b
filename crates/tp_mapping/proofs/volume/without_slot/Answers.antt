use Rattle.std.proofs.Common.{rules, ◌≡◌, ◌+◌, ◌∷◌, ℕ, List, Err, IsTrue, Some, ◌-◌, ◌∙◌, sym, subst, arith}
use Rattle.std.proofs.lemmas.Result.{err_from_is_err_and}
use Rattle.tp_counts.specs.declared.error.StoreError.TheVariants.{Damaged}
use Rattle.tp_layout.specs.declared.entry.Entry.{Entry}
use Rattle.tp_layout.specs.declared.kind.TreeKind.TheVariants.{Mapping}
use Rattle.tp_layout.specs.Entries.{found}
use Rattle.tp_refs.specs.Store.{Store}
use Rattle.tp_sharing.specs.Forest.{content}
use Rattle.tp_tm.specs.Holds.{Holds}
use Rattle.tp_btree.specs.Inserts.{Ran}
use Rattle.tp_btree.specs.Removes.{CanRemove, WasRemoved}
use Rattle.tp_counts.proofs.Refusing.{fault_is}
use Rattle.tp_btree.proofs.Running.{ran_then}
use Rattle.tp_mapping.specs.Held.{HoldsSlots}
use Rattle.tp_mapping.proofs.Holding.{height}
use Rattle.tp_mapping.proofs.Slotting.{freed_holds, mapped_some, may_remove, swapped_order, was_removed}
use Rattle.tp_mapping.proofs.volume.without_slot.Given.{Over}
use Rattle.tp_mapping.proofs.volume.without_slot.Goals as goal
use Rattle.tp_mapping.proofs.volume.without_slot.Goals.{After-release_number, After-remove}

pub returns-then-mapped-eq0-clause-damaged : goal.returns-then-mapped-eq0-clause-damaged
returns-then-mapped-eq0-clause-damaged g c e honest opens held s top h old there =
    omega (arith, mapped_some c.args.tm.now (g.D.Disk.state c.args.disk.now) opens held s top c.args.volume c.args.block h old there, c.if-mapped-eq0.true)

ready : (g : Over) (c : After-remove g) (opens held : List ℕ) (s : Store) (top : ℕ) → HoldsSlots c.args.tm.now (g.D.Disk.state c.args.disk.now) opens held s top c.args.volume → (old : Entry) → found c.args.block (content 1 s c.args.volume.root) ≡ Some old
    → CanRemove c.args.tm.now (g.D.Disk.state c.args.disk.now) Mapping opens held s (height 1 s c.args.volume.root) 0 top c.args.volume.root c.number-key.result old
ready g c opens held s top h old there =
    let t = c.args.tm.now in
    let d = g.D.Disk.state c.args.disk.now in
    subst (λ y. CanRemove t d Mapping opens held s (height 1 s c.args.volume.root) 0 top c.args.volume.root y old) (sym c.number-key.ensures.value)
    (may_remove t d opens held s top c.args.volume c.args.block h old there)

pub returns-in_err-done-clause-damaged : goal.returns-in_err-done-clause-damaged
returns-in_err-done-clause-damaged g c e honest opens held s top h old there =
    let f : c.remove.result ≡ Err Damaged = search (rules, e) in
    c.remove.ensures.damaged f honest _ _ _ _ _ _ (ready g (goal.at.returns-in_err-done-clause-damaged g c).After-remove opens held s top h old there)

-- what stands then
removed : (g : Over) (c : After-release_number g) → IsTrue (g.D.Disk.state c.args.disk.now).is_honest → (opens held : List ℕ) (s : Store) (top : ℕ)
    → HoldsSlots c.args.tm.now (g.D.Disk.state c.args.disk.now) opens held s top c.args.volume → (old : Entry) → found c.args.block (content 1 s c.args.volume.root) ≡ Some old
    → WasRemoved c.args.tm.now.geometry.metadata_blocks s c.remove.new.tm (g.D.Disk.state c.remove.new.disk) Mapping opens held (height 1 s c.args.volume.root) top c.args.volume.root c.args.block old c.in_ok-done.done
removed g c honest opens held s top h old there =
    subst (λ y. WasRemoved c.args.tm.now.geometry.metadata_blocks s c.remove.new.tm (g.D.Disk.state c.remove.new.disk) Mapping opens held (height 1 s c.args.volume.root) top c.args.volume.root y old c.in_ok-done.done) c.number-key.ensures.value
    (c.in_ok-done.ensures.removed honest _ _ _ _ _ _ (ready g (goal.at.After-release_number g c).After-remove opens held s top h old there))

-- the reference to the data block that the slot had
held_old : (g : Over) (c : After-release_number g) → (honest : IsTrue (g.D.Disk.state c.args.disk.now).is_honest) → (opens held : List ℕ) (s : Store) (top : ℕ)
    → (h : HoldsSlots c.args.tm.now (g.D.Disk.state c.args.disk.now) opens held s top c.args.volume) → (old : Entry) → (there : found c.args.block (content 1 s c.args.volume.root) ≡ Some old)
    → Holds c.remove.new.tm (g.D.Disk.state c.remove.new.disk) opens ((c.remove.new.tm.geometry.metadata_blocks + c.in_ok-done.done.was.value) ∷ c.in_ok-done.done.root ∷ held) (removed g c honest opens held s top h old there).after
held_old g c honest opens held s top h old there =
    let r = removed g c honest opens held s top h old there in
    swapped_order c.args.tm.now c.remove.new.tm (g.D.Disk.state c.remove.new.disk) opens held r.after c.in_ok-done.done old c.in_ok-done.ensures.ran.geometry r.told r.holds

pub returns-in_err-release_number-clause-damaged : goal.returns-in_err-release_number-clause-damaged
returns-in_err-release_number-clause-damaged g c e honest opens held s top h old there =
    let f : c.release_number.result ≡ Err Damaged = search (rules, e) in
    c.release_number.ensures.damaged f _ _ _ _ (held_old g (goal.at.returns-in_err-release_number-clause-damaged g c).After-release_number honest opens held s top h old there)

pub returns-in_err-release_number-clause-ran : goal.returns-in_err-release_number-clause-ran
returns-in_err-release_number-clause-ran g c =
    let p = err_from_is_err_and c.from_residual-in_err-release_number.result c.from_residual-in_err-release_number.ensures.1 in
    let d = g.D.Disk.state c.args.disk.now in
    let d1 = g.D.Disk.state c.remove.new.disk in
    subst (λ b. Ran 7 b c.args.tm.now c.release_number.new.tm d d1) (sym (fault_is c.from_residual-in_err-release_number.result p.0 c.in_err-release_number.field-0.0 p.1 p.2))
    (ran_then 7 0 7 _ c.args.tm.now c.remove.new.tm c.release_number.new.tm d d1 d1 (omega arith) c.in_ok-done.ensures.ran (c.in_err-release_number.ensures.ran d1))

pub returns-clause-changed : goal.returns-clause-changed
returns-clause-changed g c honest opens held s top h old there =
    let a = (goal.at.returns-clause-changed g c).After-release_number in
    let t = c.args.tm.now in
    let d = g.D.Disk.state c.args.disk.now in
    let u = c.remove.new.tm in
    let d1 = g.D.Disk.state c.remove.new.disk in
    let w = c.release_number.new.tm in
    let r = removed g a honest opens held s top h old there in
    was_removed t d opens held s top c.args.volume c.args.block h old there (c.args.volume.mapped - 1) (omega (arith, c.if-mapped-eq0.false)) u d1 c.in_ok-done.done r w ((c.in_ok-release_number.ensures.ran d1).geometry ∙ c.in_ok-done.ensures.ran.geometry)
    (freed_holds t u d1 opens held r.after c.in_ok-done.done old c.in_ok-done.ensures.ran.geometry r.told w
    (c.in_ok-release_number.ensures.released d1 _ _ r.after (held_old g a honest opens held s top h old there)))

pub returns-clause-ran : goal.returns-clause-ran
returns-clause-ran g c =
    let d = g.D.Disk.state c.args.disk.now in
    let d1 = g.D.Disk.state c.remove.new.disk in
    ran_then 7 0 7 _ c.args.tm.now c.remove.new.tm c.release_number.new.tm d d1 d1 (omega arith) c.in_ok-done.ensures.ran (c.in_ok-release_number.ensures.ran d1)
