use Rattle.std.proofs.Common.{rules, ◌≡◌, ◌+◌, ◌<◌, ◌∷◌, ℕ, List, Err, IsTrue, Some, None, sym, subst, arith}
use Rattle.std.specs.Prelude.{Option}
use Rattle.std.proofs.lemmas.Result.{IfOk-weaker}
use Rattle.tp_counts.specs.declared.error.StoreError.TheVariants.{Damaged}
use Rattle.tp_model.specs.Disk.{DiskState}
use Rattle.tp_layout.specs.declared.kind.TreeKind.TheVariants.{Mapping}
use Rattle.tp_layout.specs.Entries.{found}
use Rattle.tp_refs.specs.Store.{Store}
use Rattle.tp_trees.specs.Tree.{is_shared_path}
use Rattle.tp_sharing.specs.Forest.{content}
use Rattle.tp_btree.specs.declared.look_up.Found.{Found}
use Rattle.tp_btree.specs.Trees.{Told}
use Rattle.tp_mapping.specs.Held.{HoldsSlots}
use Rattle.tp_mapping.proofs.Holding.{height}
use Rattle.tp_mapping.proofs.Slotting.{slots_stand}
use Rattle.tp_mapping.proofs.volume.with_slot.Given.{Over}
use Rattle.tp_mapping.proofs.volume.with_slot.Goals as goal
use Rattle.tp_mapping.proofs.volume.with_slot.Goals.{In_ok-lookup}

pub returns-in_err-lookup-clause-damaged : goal.returns-in_err-lookup-clause-damaged
returns-in_err-lookup-clause-damaged g c e honest opens held s top h inside =
    let f : c.lookup.result ≡ Err Damaged = search (rules, e) in
    c.lookup.ensures.damaged f honest _ _ s _ _ (slots_stand c.args.tm.now (g.D.Disk.state c.args.disk.now) opens _ s top c.args.volume h) (omega (arith, inside, c.number-key.ensures.value))

-- what the tree has there
there : (g : Over) (c : In_ok-lookup g) → IsTrue (g.D.Disk.state c.args.disk.now).is_honest → (opens held : List ℕ) (s : Store) (top : ℕ)
    → HoldsSlots c.args.tm.now (g.D.Disk.state c.args.disk.now) opens ((c.args.tm.now.geometry.metadata_blocks + c.args.place) ∷ held) s top c.args.volume → c.args.block < top → (o : Option Found) → c.in_ok-lookup.field-0 ≡ o
    → Told c.args.tm.now.geometry.metadata_blocks Mapping (found c.args.block (content 1 s c.args.volume.root)) (is_shared_path (height 1 s c.args.volume.root) s c.args.block c.args.volume.root) o
there g c honest opens held s top h inside o is =
    let t = c.args.tm.now in
    let v = c.args.volume.root in
    subst (Told t.geometry.metadata_blocks Mapping (found c.args.block (content 1 s v)) (is_shared_path (height 1 s v) s c.args.block v)) is
    (subst (λ k. Told t.geometry.metadata_blocks Mapping (found k (content 1 s v)) (is_shared_path (height 1 s v) s k v) c.in_ok-lookup.field-0) c.number-key.ensures.value
    (c.in_ok-lookup.ensures.told honest _ _ s _ _ (slots_stand t (g.D.Disk.state c.args.disk.now) opens _ s top c.args.volume h) (omega (arith, inside, c.number-key.ensures.value))))

pub returns-in-Some-clause-changed : goal.returns-in-Some-clause-changed
returns-in-Some-clause-changed g c = IfOk-weaker c.exchange_slot.result _ _
    (λ changed f honest opens held s top h inside.
    let w = there g (goal.at.returns-in-Some-clause-changed g c).In_ok-lookup honest opens held s top h inside (Some _) c.in-Some.is in
    f (subst (λ (z : DiskState). IsTrue z.is_honest) (sym c.in_ok-lookup.ensures.state) honest) opens held s top
    (subst (λ (z : DiskState). HoldsSlots c.args.tm.now z opens ((c.args.tm.now.geometry.metadata_blocks + c.args.place) ∷ held) s top c.args.volume) (sym c.in_ok-lookup.ensures.state) h) inside _ w.0) c.exchange_slot.ensures.changed

pub returns-in-Some-clause-damaged : goal.returns-in-Some-clause-damaged
returns-in-Some-clause-damaged g c e honest opens held s top h inside =
    let w = there g (goal.at.returns-in-Some-clause-damaged g c).In_ok-lookup honest opens held s top h inside (Some _) c.in-Some.is in
    c.exchange_slot.ensures.damaged e (subst (λ (z : DiskState). IsTrue z.is_honest) (sym c.in_ok-lookup.ensures.state) honest) opens held s top
    (subst (λ (z : DiskState). HoldsSlots c.args.tm.now z opens ((c.args.tm.now.geometry.metadata_blocks + c.args.place) ∷ held) s top c.args.volume) (sym c.in_ok-lookup.ensures.state) h) inside _ w.0

pub returns-in-None-clause-changed : goal.returns-in-None-clause-changed
returns-in-None-clause-changed g c = IfOk-weaker c.insert_slot.result _ _
    (λ changed f honest opens held s top h inside.
    f (subst (λ (z : DiskState). IsTrue z.is_honest) (sym c.in_ok-lookup.ensures.state) honest) opens held s top
    (subst (λ (z : DiskState). HoldsSlots c.args.tm.now z opens ((c.args.tm.now.geometry.metadata_blocks + c.args.place) ∷ held) s top c.args.volume) (sym c.in_ok-lookup.ensures.state) h) inside
    (there g (goal.at.returns-in-None-clause-changed g c).In_ok-lookup honest opens held s top h inside None c.in-None.is)) c.insert_slot.ensures.changed

pub returns-in-None-clause-damaged : goal.returns-in-None-clause-damaged
returns-in-None-clause-damaged g c e honest opens held s top h inside =
    c.insert_slot.ensures.damaged e (subst (λ (z : DiskState). IsTrue z.is_honest) (sym c.in_ok-lookup.ensures.state) honest) opens held s top
    (subst (λ (z : DiskState). HoldsSlots c.args.tm.now z opens ((c.args.tm.now.geometry.metadata_blocks + c.args.place) ∷ held) s top c.args.volume) (sym c.in_ok-lookup.ensures.state) h) inside
    (there g (goal.at.returns-in-None-clause-damaged g c).In_ok-lookup honest opens held s top h inside None c.in-None.is)
