use Rattle.std.proofs.Common.{rules, ◌≡◌, ◌∙◌, ◌+◌, ◌*◌, ◌<◌, ◌∷◌, IsTrue, ap, sym, subst, arith, false}
use Rattle.std.proofs.lemmas.Result.{IfOk-weaker}
use Rattle.tp_counts.specs.StoreErrors.{is_fault}
use Rattle.tp_layout.specs.Node.{most_level}
use Rattle.tp_btree.proofs.Running.{ran_more, ran_then}
use Rattle.tp_refs.specs.Store.{first_named, moved_by, node_at}
use Rattle.tp_trees.specs.Growth.{Two}
use Rattle.tp_trees.proofs.Trees.{tree_rank}
use Rattle.tp_tm.specs.Holds.{Holds}
use Rattle.tp_btree.specs.Trees.{base_of}
use Rattle.tp_btree.specs.Inserts.{AreInside, Crowned, Grew, InsertedAt, Ran, grown}
use Rattle.tp_btree.proofs.Crowning.{halves_inserted, not_highest, wanted, whole_inserted}
use Rattle.std.proofs.lemmas.Result.{err_from_is_err_and}
use Rattle.tp_counts.proofs.Refusing.{fault_is}
use Rattle.tp_btree.proofs.insertion.insert.Goals as goal

pub overflow_cast-block : goal.overflow_cast-block
overflow_cast-block g c = let p = subst (AreInside c.args.tm.now.geometry.metadata_blocks) c.in-Whole.is c.in_ok-block.ensures.inside in let small : c.in-Whole.block < 65536 = p.1 in search (rules, small)

pub new-requires : goal.new-requires
new-requires g c = let p = subst (AreInside c.args.tm.now.geometry.metadata_blocks) c.in-Whole.is c.in_ok-block.ensures.inside in p.1

pub overflow_cast-lower : goal.overflow_cast-lower
overflow_cast-lower g c = let p = subst (AreInside c.args.tm.now.geometry.metadata_blocks) c.in-Halves.is c.in_ok-block.ensures.inside in let small : c.in-Halves.lower < 65536 = p.1 in search (rules, small)

pub new-requires-in-Halves : goal.new-requires-in-Halves
new-requires-in-Halves g c = let p = subst (AreInside c.args.tm.now.geometry.metadata_blocks) c.in-Halves.is c.in_ok-block.ensures.inside in p.1

pub returns-in-Whole-clause-inserted : goal.returns-in-Whole-clause-inserted
returns-in-Whole-clause-inserted g c honest opens held s k high a =
    let tm = c.args.tm.now in
    let d = g.D.Disk.state c.args.disk.now in
    let u = c.add.new.tm in
    let d1 = g.D.Disk.state c.add.new.disk in
    let x = moved_by (first_named tm.geometry.metadata_blocks c.args.kind 0) c.args.entry in
    let w = wanted tm d c.args.kind opens held s k high c.args.root x a in
    let gr = subst (λ p. Grew s u d1 c.args.kind opens held k 0 high c.args.root x (grown p)) c.in-Whole.is (c.in_ok-block.ensures.grew honest opens held s k 0 high w (omega (arith, a.levels, c.most_level.ensures))) in
    subst (λ b. InsertedAt s u d1 c.args.kind opens held k high c.args.root x b) (sym c.new.ensures) (whole_inserted tm d c.args.kind opens held s k high c.args.root x a u d1 c.in-Whole.block gr)

pub returns-in-Halves-clause-inserted : goal.returns-in-Halves-clause-inserted
returns-in-Halves-clause-inserted g c = IfOk-weaker c.crown.result _ _
    (λ top crowned honest opens held s k high a.
    let tm = c.args.tm.now in
    let d = g.D.Disk.state c.args.disk.now in
    let u = c.add.new.tm in
    let d1 = g.D.Disk.state c.add.new.disk in
    let d2 = g.D.Disk.state c.crown.new.disk in
    let kind = c.args.kind in
    let x = moved_by (first_named tm.geometry.metadata_blocks c.args.kind 0) c.args.entry in
    let w = wanted tm d c.args.kind opens held s k high c.args.root x a in
    let gr : Grew s c.add.new.tm (g.D.Disk.state c.add.new.disk) c.args.kind opens held k 0 high c.args.root x (Two c.in-Halves.lower c.in-Halves.middle c.in-Halves.upper) =
    subst (λ p. Grew s u d1 kind opens held k 0 high c.args.root x (grown p)) c.in-Halves.is (c.in_ok-block.ensures.grew honest opens held s k 0 high w (omega (arith, a.levels, c.most_level.ensures))) in
    let still = subst IsTrue (sym c.in_ok-block.ensures.ran.same_disk.is_honest) honest in
    let h = subst (λ b. Holds u d1 opens (b ∷ c.in-Halves.upper ∷ held) gr.after) (sym c.new-in-Halves.ensures) gr.holds in
    let rank : (node_at gr.after c.new-in-Halves.result).rank ≡ base_of c.args.kind + k =
    ap (λ b. (node_at gr.after b).rank) c.new-in-Halves.ensures ∙ tree_rank (base_of kind) k gr.after 0 c.in-Halves.middle c.in-Halves.lower gr.added.grows.left in
    halves_inserted tm d kind opens held s k high c.args.root x a u d1 c.in-Halves.lower c.in-Halves.middle c.in-Halves.upper gr c.crown.new.tm d2 top
    (subst (λ b. Crowned gr.after c.crown.new.tm d2 kind opens held k b c.in-Halves.middle c.in-Halves.upper top) c.new-in-Halves.ensures (crowned still opens held gr.after k h rank a.levels gr.added.grows.lower)))
    c.crown.ensures.crowned

pub returns-in-Halves-clause-damaged : goal.returns-in-Halves-clause-damaged
returns-in-Halves-clause-damaged g c e honest opens held s k high a =
    let tm = c.args.tm.now in
    let d = g.D.Disk.state c.args.disk.now in
    let u = c.add.new.tm in
    let d1 = g.D.Disk.state c.add.new.disk in
    let kind = c.args.kind in
    let x = moved_by (first_named tm.geometry.metadata_blocks c.args.kind 0) c.args.entry in
    let w = wanted tm d c.args.kind opens held s k high c.args.root x a in
    let gr : Grew s c.add.new.tm (g.D.Disk.state c.add.new.disk) c.args.kind opens held k 0 high c.args.root x (Two c.in-Halves.lower c.in-Halves.middle c.in-Halves.upper) =
    subst (λ p. Grew s u d1 kind opens held k 0 high c.args.root x (grown p)) c.in-Halves.is (c.in_ok-block.ensures.grew honest opens held s k 0 high w (omega (arith, a.levels, c.most_level.ensures))) in
    let still = subst IsTrue (sym c.in_ok-block.ensures.ran.same_disk.is_honest) honest in
    let h = subst (λ b. Holds u d1 opens (b ∷ c.in-Halves.upper ∷ held) gr.after) (sym c.new-in-Halves.ensures) gr.holds in
    let rank : (node_at gr.after c.new-in-Halves.result).rank ≡ base_of c.args.kind + k =
    ap (λ b. (node_at gr.after b).rank) c.new-in-Halves.ensures ∙ tree_rank (base_of kind) k gr.after 0 c.in-Halves.middle c.in-Halves.lower gr.added.grows.left in
    not_highest tm d kind opens held s k high c.args.root x a u d1 c.in-Halves.lower c.in-Halves.middle c.in-Halves.upper gr (c.crown.ensures.damaged e still opens held gr.after k h rank a.levels gr.added.grows.lower)

pub returns-in-Halves-clause-ran : goal.returns-in-Halves-clause-ran
returns-in-Halves-clause-ran g c =
    ran_then (2 * (c.most_level.result + 1)) 1 (2 * (most_level c.args.kind + 1) + 1) (is_fault c.crown.result) c.args.tm.now c.add.new.tm c.crown.new.tm (g.D.Disk.state c.args.disk.now) (g.D.Disk.state c.add.new.disk) (g.D.Disk.state c.crown.new.disk)
    (omega (arith, c.most_level.ensures)) c.in_ok-block.ensures.ran c.crown.ensures.ran

pub returns-in_err-block-clause-ran : goal.returns-in_err-block-clause-ran
returns-in_err-block-clause-ran g c =
    let p = err_from_is_err_and c.from_residual.result c.from_residual.ensures.1 in
    let d0 = g.D.Disk.state c.args.disk.now in
    let d1 = g.D.Disk.state c.add.new.disk in
    subst (λ b. Ran (2 * (most_level c.args.kind + 1) + 1) b c.args.tm.now c.add.new.tm d0 d1) (sym (fault_is c.from_residual.result p.0 c.in_err-block.field-0.0 p.1 p.2))
    (ran_more (2 * (c.most_level.result + 1)) (2 * (most_level c.args.kind + 1) + 1) _ c.args.tm.now c.add.new.tm d0 d1 (omega (arith, c.most_level.ensures)) c.in_err-block.ensures.ran)

pub returns-in-Whole-clause-ran : goal.returns-in-Whole-clause-ran
returns-in-Whole-clause-ran g c =
    ran_more (2 * (c.most_level.result + 1)) (2 * (most_level c.args.kind + 1) + 1) false c.args.tm.now c.add.new.tm (g.D.Disk.state c.args.disk.now) (g.D.Disk.state c.add.new.disk)
    (omega (arith, c.most_level.ensures)) c.in_ok-block.ensures.ran
