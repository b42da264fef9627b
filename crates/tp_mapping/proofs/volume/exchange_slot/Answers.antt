use Rattle.std.proofs.Common.{rules, ◌≡◌, ◌+◌, ◌<◌, ◌∷◌, ℕ, List, Err, IsTrue, Some, ◌∙◌, sym, subst, arith}
use Rattle.std.proofs.lemmas.Result.{err_from_is_err_and}
use Rattle.tp_counts.specs.declared.error.StoreError.TheVariants.{Damaged}
use Rattle.tp_layout.specs.declared.entry.Entry.{Entry}
use Rattle.tp_layout.specs.declared.kind.TreeKind.TheVariants.{Mapping}
use Rattle.tp_layout.specs.Entries.{found}
use Rattle.tp_refs.specs.Store.{Store, first_named, moved_by}
use Rattle.tp_sharing.specs.Forest.{content}
use Rattle.tp_tm.specs.Holds.{Holds}
use Rattle.tp_btree.specs.Inserts.{Ran}
use Rattle.tp_btree.specs.Replaces.{CanReplace, Swapped}
use Rattle.tp_counts.proofs.Refusing.{fault_is}
use Rattle.tp_btree.proofs.Running.{ran_then}
use Rattle.tp_mapping.specs.Held.{HoldsSlots, slot_at}
use Rattle.tp_mapping.proofs.Holding.{height}
use Rattle.tp_mapping.proofs.Slotting.{freed_holds, may_replace, swapped_order, was_replaced}
use Rattle.tp_mapping.proofs.volume.exchange_slot.Given.{Over}
use Rattle.tp_mapping.proofs.volume.exchange_slot.Goals as goal
use Rattle.tp_mapping.proofs.volume.exchange_slot.Goals.{After-release_number, After-replace}

-- the volume and what is to be put in
abbrev Premise : (g : Over) (c : After-replace g) → List ℕ → List ℕ → Store → ℕ → Type 0
Premise g c opens held s top = HoldsSlots c.args.tm.now (g.D.Disk.state c.args.disk.now) opens ((c.args.tm.now.geometry.metadata_blocks + c.args.place) ∷ held) s top c.args.volume

ready : (g : Over) (c : After-replace g) (opens held : List ℕ) (s : Store) (top : ℕ) → Premise g c opens held s top → c.args.block < top → (old : Entry) → found c.args.block (content 1 s c.args.volume.root) ≡ Some old
    → CanReplace c.args.tm.now (g.D.Disk.state c.args.disk.now) Mapping opens held s (height 1 s c.args.volume.root) 0 top c.args.volume.root (moved_by (first_named c.args.tm.now.geometry.metadata_blocks Mapping 0) c.slot_entry.result) old
ready g c opens held s top h inside old there =
    let t = c.args.tm.now in
    let d = g.D.Disk.state c.args.disk.now in
    subst (λ (y : Entry). CanReplace t d Mapping opens held s (height 1 s c.args.volume.root) 0 top c.args.volume.root (moved_by (first_named t.geometry.metadata_blocks Mapping 0) y) old) (sym c.slot_entry.ensures.value)
    (may_replace t d opens held s top c.args.volume c.args.place c.args.block h inside old there)

pub returns-in_err-done-clause-damaged : goal.returns-in_err-done-clause-damaged
returns-in_err-done-clause-damaged g c e honest opens held s top h inside old there =
    let f : c.replace.result ≡ Err Damaged = search (rules, e) in
    c.replace.ensures.damaged f honest _ _ _ _ _ _ (ready g (goal.at.returns-in_err-done-clause-damaged g c).After-replace opens held s top h inside old there)

-- what stands then
swapped : (g : Over) (c : After-release_number g) → IsTrue (g.D.Disk.state c.args.disk.now).is_honest → (opens held : List ℕ) (s : Store) (top : ℕ)
    → HoldsSlots c.args.tm.now (g.D.Disk.state c.args.disk.now) opens ((c.args.tm.now.geometry.metadata_blocks + c.args.place) ∷ held) s top c.args.volume → c.args.block < top → (old : Entry) → found c.args.block (content 1 s c.args.volume.root) ≡ Some old
    → Swapped c.args.tm.now.geometry.metadata_blocks s c.replace.new.tm (g.D.Disk.state c.replace.new.disk) Mapping opens held (height 1 s c.args.volume.root) 0 top c.args.volume.root (slot_at c.args.tm.now.geometry.metadata_blocks c.args.block c.args.place) old c.in_ok-done.done
swapped g c honest opens held s top h inside old there =
    let m = c.args.tm.now.geometry.metadata_blocks in
    subst (λ (y : Entry). Swapped m s c.replace.new.tm (g.D.Disk.state c.replace.new.disk) Mapping opens held (height 1 s c.args.volume.root) 0 top c.args.volume.root (moved_by (first_named m Mapping 0) y) old c.in_ok-done.done) c.slot_entry.ensures.value
    (c.in_ok-done.ensures.replaced honest _ _ _ _ _ _ (ready g (goal.at.After-release_number g c).After-replace opens held s top h inside old there))

-- the reference to the data block that the slot had
held_old : (g : Over) (c : After-release_number g) → (honest : IsTrue (g.D.Disk.state c.args.disk.now).is_honest) → (opens held : List ℕ) (s : Store) (top : ℕ)
    → (h : HoldsSlots c.args.tm.now (g.D.Disk.state c.args.disk.now) opens ((c.args.tm.now.geometry.metadata_blocks + c.args.place) ∷ held) s top c.args.volume) → (inside : c.args.block < top) → (old : Entry) → (there : found c.args.block (content 1 s c.args.volume.root) ≡ Some old)
    → Holds c.replace.new.tm (g.D.Disk.state c.replace.new.disk) opens ((c.replace.new.tm.geometry.metadata_blocks + c.in_ok-done.done.was.value) ∷ c.in_ok-done.done.root ∷ held) (swapped g c honest opens held s top h inside old there).after
held_old g c honest opens held s top h inside old there =
    let r = swapped g c honest opens held s top h inside old there in
    swapped_order c.args.tm.now c.replace.new.tm (g.D.Disk.state c.replace.new.disk) opens held r.after c.in_ok-done.done old c.in_ok-done.ensures.ran.geometry r.told r.holds

pub returns-in_err-release_number-clause-damaged : goal.returns-in_err-release_number-clause-damaged
returns-in_err-release_number-clause-damaged g c e honest opens held s top h inside old there =
    let f : c.release_number.result ≡ Err Damaged = search (rules, e) in
    c.release_number.ensures.damaged f _ _ _ _ (held_old g (goal.at.returns-in_err-release_number-clause-damaged g c).After-release_number honest opens held s top h inside old there)

pub returns-in_err-release_number-clause-ran : goal.returns-in_err-release_number-clause-ran
returns-in_err-release_number-clause-ran g c =
    let p = err_from_is_err_and c.from_residual-in_err-release_number.result c.from_residual-in_err-release_number.ensures.1 in
    let d = g.D.Disk.state c.args.disk.now in
    let d1 = g.D.Disk.state c.replace.new.disk in
    subst (λ b. Ran 4 b c.args.tm.now c.release_number.new.tm d d1) (sym (fault_is c.from_residual-in_err-release_number.result p.0 c.in_err-release_number.field-0.0 p.1 p.2))
    (ran_then 4 0 4 _ c.args.tm.now c.replace.new.tm c.release_number.new.tm d d1 d1 (omega arith) c.in_ok-done.ensures.ran (c.in_err-release_number.ensures.ran d1))

pub returns-clause-changed : goal.returns-clause-changed
returns-clause-changed g c honest opens held s top h inside old there =
    let a = (goal.at.returns-clause-changed g c).After-release_number in
    let t = c.args.tm.now in
    let d = g.D.Disk.state c.args.disk.now in
    let u = c.replace.new.tm in
    let d1 = g.D.Disk.state c.replace.new.disk in
    let w = c.release_number.new.tm in
    let r = swapped g a honest opens held s top h inside old there in
    was_replaced t d opens held s top c.args.volume c.args.place c.args.block h inside old there u d1 c.in_ok-done.done r w ((c.in_ok-release_number.ensures.ran d1).geometry ∙ c.in_ok-done.ensures.ran.geometry)
    (freed_holds t u d1 opens held r.after c.in_ok-done.done old c.in_ok-done.ensures.ran.geometry r.told w
    (c.in_ok-release_number.ensures.released d1 _ _ r.after (held_old g a honest opens held s top h inside old there)))

pub returns-clause-ran : goal.returns-clause-ran
returns-clause-ran g c =
    let d = g.D.Disk.state c.args.disk.now in
    let d1 = g.D.Disk.state c.replace.new.disk in
    ran_then 4 0 4 _ c.args.tm.now c.replace.new.tm c.release_number.new.tm d d1 d1 (omega arith) c.in_ok-done.ensures.ran (c.in_ok-release_number.ensures.ran d1)
