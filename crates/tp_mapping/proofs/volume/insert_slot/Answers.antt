use Rattle.std.proofs.Common.{rules, ◌≡◌, ◌+◌, ◌<◌, ◌∷◌, ℕ, List, Err, None, sym, subst}
use Rattle.tp_counts.specs.declared.error.StoreError.TheVariants.{Damaged}
use Rattle.tp_layout.specs.declared.entry.Entry.{Entry}
use Rattle.tp_layout.specs.declared.kind.TreeKind.TheVariants.{Mapping}
use Rattle.tp_layout.specs.Entries.{found}
use Rattle.tp_refs.specs.Store.{Store, first_named, moved_by}
use Rattle.tp_sharing.specs.Forest.{content}
use Rattle.tp_btree.specs.Inserts.{Insertable, InsertedAt}
use Rattle.tp_mapping.specs.Held.{HoldsSlots}
use Rattle.tp_mapping.proofs.Holding.{height}
use Rattle.tp_mapping.proofs.Slotting.{may_insert, was_inserted}
use Rattle.tp_mapping.proofs.volume.insert_slot.Given.{Over}
use Rattle.tp_mapping.proofs.volume.insert_slot.Goals as goal
use Rattle.tp_mapping.proofs.volume.insert_slot.Goals.{After-insert}

ready : (g : Over) (c : After-insert g) (opens held : List ℕ) (s : Store) (top : ℕ)
    → HoldsSlots c.args.tm.now (g.D.Disk.state c.args.disk.now) opens ((c.args.tm.now.geometry.metadata_blocks + c.args.place) ∷ held) s top c.args.volume → c.args.block < top → found c.args.block (content 1 s c.args.volume.root) ≡ None
    → Insertable c.args.tm.now (g.D.Disk.state c.args.disk.now) Mapping opens held s (height 1 s c.args.volume.root) top c.args.volume.root (moved_by (first_named c.args.tm.now.geometry.metadata_blocks Mapping 0) c.slot_entry.result)
ready g c opens held s top h inside none =
    let t = c.args.tm.now in
    let d = g.D.Disk.state c.args.disk.now in
    subst (λ (y : Entry). Insertable t d Mapping opens held s (height 1 s c.args.volume.root) top c.args.volume.root (moved_by (first_named t.geometry.metadata_blocks Mapping 0) y)) (sym c.slot_entry.ensures.value)
    (may_insert t d opens held s top c.args.volume c.args.place c.args.block h inside none)

pub returns-in_err-top-clause-damaged : goal.returns-in_err-top-clause-damaged
returns-in_err-top-clause-damaged g c e honest opens held s top h inside none =
    let f : c.insert.result ≡ Err Damaged = search (rules, e) in
    c.insert.ensures.damaged f honest _ _ _ _ _ (ready g (goal.at.returns-in_err-top-clause-damaged g c).After-insert opens held s top h inside none)

pub returns-clause-changed : goal.returns-clause-changed
returns-clause-changed g c honest opens held s top h inside none =
    let t = c.args.tm.now in
    let d = g.D.Disk.state c.args.disk.now in
    let u = c.insert.new.tm in
    let d1 = g.D.Disk.state c.insert.new.disk in
    was_inserted t d opens held s top c.args.volume c.args.place c.args.block h inside none u d1 c.in_ok-top.ensures.ran.geometry c.in_ok-top.top
    (subst (λ (y : Entry). InsertedAt s u d1 Mapping opens held (height 1 s c.args.volume.root) top c.args.volume.root (moved_by (first_named t.geometry.metadata_blocks Mapping 0) y) c.in_ok-top.top) c.slot_entry.ensures.value
    (c.in_ok-top.ensures.inserted honest _ _ _ _ _ (ready g (goal.at.returns-clause-changed g c).After-insert opens held s top h inside none)))
