use Rattle.std.proofs.Common.{◌≡◌, ◌∙◌, ◌+◌, ◌≤◌, ◌∷◌, ◌++◌, ℕ, List, suc, Err, get_or, drop, take, ap, sym, subst, arith}
use Rattle.std.specs.Prelude.{IsTrue}
use Rattle.std.proofs.lemmas.Result.{err_from_is_err_and, on_ok_weaker}
use Rattle.tp_counts.specs.declared.error.StoreError.{StoreError}
use Rattle.tp_counts.specs.declared.error.StoreError.TheVariants.{Damaged}
use Rattle.tp_layout.specs.Node.{NodeValue}
use Rattle.tp_layout.specs.Value.{node_value}
use Rattle.tp_refs.specs.Store.{Store, node_at, node_from, values}
use Rattle.tp_trees.specs.Tree.{blank}
use Rattle.tp_tm.specs.Holds.{Holds, IsRankOf}
use Rattle.tp_btree.specs.Trees.{base_of}
use Rattle.tp_btree.specs.Inserts.{Ran, grown}
use Rattle.tp_btree.specs.Replaces.{Opened}
use Rattle.tp_btree.specs.Removes.{CanMend, CanRefit}
use Rattle.tp_btree.proofs.Refits.{few_of, upper_ascends, upper_between, upper_holds, upper_inside, upper_levels, upper_low, upper_ranked, upper_refit, upper_room}
use Rattle.tp_counts.proofs.Refusing.{fault_is, not_fault, refusal_is}
use Rattle.tp_btree.proofs.Running.{ran_then}
use Rattle.tp_btree.proofs.refit.refit_upper.Given.{Over}
use Rattle.tp_btree.proofs.refit.refit_upper.Goals as goal
use Rattle.tp_btree.proofs.refit.refit_upper.Goals.{In_ok-child, In_ok-left, In_ok-parts}

pub returns-in_err-child-clause-damaged : goal.returns-in_err-child-clause-damaged
returns-in_err-child-clause-damaged g c e honest opens held s k low high cr =
    let tm = c.args.tm.now in
    let m = tm.geometry.metadata_blocks in
    let d0 = g.D.Disk.state c.args.disk.now in
    let kind = c.args.node.now.kind in
    let es = c.args.node.now.entries.items in
    let part = node_value c.args.part in
    let few = few_of (node_value c.args.node.now) c.requires.good in
    omega (arith, upper_inside m tm d0 kind es c.args.index part opens held s k low high cr c.requires.part few, c.in_err-child.ensures.err.1, ap (λ xs. (get_or xs c.args.index blank).value) c.deref.ensures.0)

child_is : (g : Over) (c : In_ok-child g) → c.in_ok-child.child ≡ (get_or c.args.node.now.entries.items c.args.index blank).value
child_is g c = c.in_ok-child.ensures.inside.0 ∙ ap (λ xs. (get_or xs c.args.index blank).value) c.deref.ensures.0

pub returns-in_err-left-clause-damaged : goal.returns-in_err-left-clause-damaged
returns-in_err-left-clause-damaged g c e honest opens held s k low high cr =
    let tm = c.args.tm.now in
    let m = tm.geometry.metadata_blocks in
    let d0 = g.D.Disk.state c.args.disk.now in
    let kind = c.args.node.now.kind in
    let es = c.args.node.now.entries.items in
    let part = node_value c.args.part in
    let few = few_of (node_value c.args.node.now) c.requires.good in
    let at = child_is g (goal.at.returns-in_err-left-clause-damaged g c).In_ok-child in
    let p = err_from_is_err_and c.from_residual-in_err-left.result c.from_residual-in_err-left.ensures.1 in
    c.in_err-left.ensures.damaged (ap (λ (z : StoreError). Err z) (refusal_is c.from_residual-in_err-left.result p.0 c.in_err-left.field-0.0 Damaged p.1 p.2 e)) honest (part.own ∷ opens) (values (node_from m part).entries ++ (values (take c.args.index es) ++ (values (drop (suc (suc c.args.index)) es) ++ held))) s
    (subst (λ b. Holds tm d0 (part.own ∷ opens) (b ∷ (values (node_from m part).entries ++ (values (take c.args.index es) ++ (values (drop (suc (suc c.args.index)) es) ++ held)))) s) (sym at) (upper_holds m tm d0 kind es c.args.index part opens held s k low high cr c.requires.part few))
    (subst (λ b. IsRankOf kind (node_at s b).rank) (sym at) (upper_ranked m tm d0 kind es c.args.index part opens held s k low high cr c.requires.part few)) (upper_room m tm d0 kind es c.args.index part opens held s k low high cr c.requires.part few)
    (subst (λ b. (node_at s b).rank ≤ base_of kind + part.level) (sym at) (upper_low m tm d0 kind es c.args.index part opens held s k low high cr c.requires.part few c.requires.kind))

size_is : (g : Over) (c : In_ok-left g) → c.open.new.tm.geometry.metadata_blocks ≡ c.args.tm.now.geometry.metadata_blocks
size_is g c = ap (λ z. z.metadata_blocks) c.in_ok-left.ensures.ran.geometry

was_opened : (g : Over) (c : In_ok-left g) → (child : In_ok-child g) → c.in_ok-child.child ≡ (get_or c.args.node.now.entries.items c.args.index blank).value → IsTrue (g.D.Disk.state c.args.disk.now).is_honest → (opens held : List ℕ) (s : Store) (k low high : ℕ)
    → CanRefit c.args.tm.now.geometry.metadata_blocks c.args.tm.now (g.D.Disk.state c.args.disk.now) c.args.node.now.kind c.args.node.now.entries.items (suc c.args.index) (node_value c.args.part) opens held s k low high
    → Opened c.args.tm.now.geometry.metadata_blocks s c.open.new.tm (g.D.Disk.state c.open.new.disk) (get_or c.args.node.now.entries.items c.args.index blank).value (node_value c.in_ok-left.left) ((node_value c.args.part).own ∷ opens)
    (values (node_from c.args.tm.now.geometry.metadata_blocks (node_value c.args.part)).entries ++ (values (take c.args.index c.args.node.now.entries.items) ++ (values (drop (suc (suc c.args.index)) c.args.node.now.entries.items) ++ held)))
was_opened g c child at honest opens held s k low high cr =
    let tm = c.args.tm.now in
    let m = tm.geometry.metadata_blocks in
    let d0 = g.D.Disk.state c.args.disk.now in
    let kind = c.args.node.now.kind in
    let es = c.args.node.now.entries.items in
    let part = node_value c.args.part in
    let few = few_of (node_value c.args.node.now) c.requires.good in
    let op = c.in_ok-left.ensures.opened honest (part.own ∷ opens) (values (node_from m part).entries ++ (values (take c.args.index es) ++ (values (drop (suc (suc c.args.index)) es) ++ held))) s
    (subst (λ b. Holds tm d0 (part.own ∷ opens) (b ∷ (values (node_from m part).entries ++ (values (take c.args.index es) ++ (values (drop (suc (suc c.args.index)) es) ++ held)))) s) (sym at) (upper_holds m tm d0 kind es c.args.index part opens held s k low high cr c.requires.part few))
    (subst (λ b. IsRankOf kind (node_at s b).rank) (sym at) (upper_ranked m tm d0 kind es c.args.index part opens held s k low high cr c.requires.part few)) (upper_room m tm d0 kind es c.args.index part opens held s k low high cr c.requires.part few) in
    subst (λ b. Opened m s c.open.new.tm (g.D.Disk.state c.open.new.disk) b (node_value c.in_ok-left.left) (part.own ∷ opens) (values (node_from m part).entries ++ (values (take c.args.index es) ++ (values (drop (suc (suc c.args.index)) es) ++ held)))) at op

pub returns-in_err-parts-clause-damaged : goal.returns-in_err-parts-clause-damaged
returns-in_err-parts-clause-damaged g c e honest opens held s k low high cr =
    let tm = c.args.tm.now in
    let m = tm.geometry.metadata_blocks in
    let d0 = g.D.Disk.state c.args.disk.now in
    let kind = c.args.node.now.kind in
    let es = c.args.node.now.entries.items in
    let part = node_value c.args.part in
    let few = few_of (node_value c.args.node.now) c.requires.good in
    let l = goal.at.returns-in_err-parts-clause-damaged g c in
    let op = was_opened g l.In_ok-left l.In_ok-child (child_is g l.In_ok-child) honest opens held s k low high cr in
    let n = node_value c.in_ok-left.left in
    let p = err_from_is_err_and c.from_residual-in_err-parts.result c.from_residual-in_err-parts.ensures.1 in
    c.in_err-parts.ensures.damaged (ap (λ (z : StoreError). Err z) (refusal_is c.from_residual-in_err-parts.result p.0 c.in_err-parts.field-0.0 Damaged p.1 p.2 e))
    (upper_levels m tm d0 kind es c.args.index part opens held s k low high cr c.requires.part few c.open.new.tm (g.D.Disk.state c.open.new.disk) n op c.in_ok-left.ensures.kind c.requires.kind)
    (upper_ascends m tm d0 kind es c.args.index part opens held s k low high cr c.requires.part few c.open.new.tm (g.D.Disk.state c.open.new.disk) n op c.in_ok-left.ensures.kind c.requires.kind) (part.own ∷ opens) _ op.after op.holds

pub returns-in_err-parts-clause-ran : goal.returns-in_err-parts-clause-ran
returns-in_err-parts-clause-ran g c =
    let p = err_from_is_err_and c.from_residual-in_err-parts.result c.from_residual-in_err-parts.ensures.1 in
    let d0 = g.D.Disk.state c.args.disk.now in
    let d1 = g.D.Disk.state c.open.new.disk in
    let d2 = g.D.Disk.state c.mend.new.disk in
    subst (λ b. Ran 1 b c.args.tm.now c.mend.new.tm d0 d2) (sym (fault_is c.from_residual-in_err-parts.result p.0 c.in_err-parts.field-0.0 p.1 p.2))
    (ran_then 1 0 1 _ c.args.tm.now c.open.new.tm c.mend.new.tm d0 d1 d2 (omega arith) c.in_ok-left.ensures.ran c.in_err-parts.ensures.ran)

pub returns-clause-refitted : goal.returns-clause-refitted
returns-clause-refitted g c = on_ok_weaker c.rename.result
    (λ named honest opens held s k low high cr.
    let tm = c.args.tm.now in
    let m = tm.geometry.metadata_blocks in
    let d0 = g.D.Disk.state c.args.disk.now in
    let kind = c.args.node.now.kind in
    let es = c.args.node.now.entries.items in
    let part = node_value c.args.part in
    let few = few_of (node_value c.args.node.now) c.requires.good in
    let l = goal.at.returns-clause-refitted g c in
    let op = was_opened g l.In_ok-left l.In_ok-child (child_is g l.In_ok-child) honest opens held s k low high cr in
    let n = node_value c.in_ok-left.left in
    let t1 = c.open.new.tm in
    let d1 = g.D.Disk.state c.open.new.disk in
    let u = c.mend.new.tm in
    let d2 = g.D.Disk.state c.mend.new.disk in
    let can = subst (λ z. CanMend z t1 d1 u d2 (record n { own = part.own }) (record part { own = n.own }) (grown c.in_ok-parts.parts)) (size_is g l.In_ok-left) c.in_ok-parts.ensures.mended in
    upper_refit m tm d0 kind es c.args.index part opens held s k low high cr c.requires.part few t1 d1 n op c.in_ok-left.ensures.kind c.requires.kind u d2 (grown c.in_ok-parts.parts) can c.rename.new.node.entries.items
    (ap (λ (x : NodeValue). x.entries) (named (upper_between m tm d0 kind es c.args.index part opens held s k low high cr c.requires.part few t1 d1 n op c.in_ok-left.ensures.kind c.requires.kind u d2 (grown c.in_ok-parts.parts) can))))
    c.rename.ensures.renamed

pub returns-clause-damaged : goal.returns-clause-damaged
returns-clause-damaged g c e honest opens held s k low high cr =
    let tm = c.args.tm.now in
    let m = tm.geometry.metadata_blocks in
    let d0 = g.D.Disk.state c.args.disk.now in
    let kind = c.args.node.now.kind in
    let es = c.args.node.now.entries.items in
    let part = node_value c.args.part in
    let few = few_of (node_value c.args.node.now) c.requires.good in
    let l = goal.at.returns-clause-damaged g c in
    let op = was_opened g l.In_ok-left l.In_ok-child (child_is g l.In_ok-child) honest opens held s k low high cr in
    let n = node_value c.in_ok-left.left in
    let t1 = c.open.new.tm in
    let d1 = g.D.Disk.state c.open.new.disk in
    let u = c.mend.new.tm in
    let d2 = g.D.Disk.state c.mend.new.disk in
    let can = subst (λ z. CanMend z t1 d1 u d2 (record n { own = part.own }) (record part { own = n.own }) (grown c.in_ok-parts.parts)) (size_is g l.In_ok-left) c.in_ok-parts.ensures.mended in
    c.rename.ensures.damaged e (upper_between m tm d0 kind es c.args.index part opens held s k low high cr c.requires.part few t1 d1 n op c.in_ok-left.ensures.kind c.requires.kind u d2 (grown c.in_ok-parts.parts) can)

pub returns-clause-ran : goal.returns-clause-ran
returns-clause-ran g c =
    let d0 = g.D.Disk.state c.args.disk.now in
    let d1 = g.D.Disk.state c.open.new.disk in
    let d2 = g.D.Disk.state c.mend.new.disk in
    subst (λ b. Ran 1 b c.args.tm.now c.mend.new.tm d0 d2) (sym (not_fault c.rename.result c.rename.ensures.only))
    (ran_then 1 0 1 _ c.args.tm.now c.open.new.tm c.mend.new.tm d0 d1 d2 (omega arith) c.in_ok-left.ensures.ran c.in_ok-parts.ensures.ran)
