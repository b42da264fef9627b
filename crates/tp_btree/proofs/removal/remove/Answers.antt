use Rattle.std.proofs.Common.{◌+◌, ◌*◌, Err, false, ap, sym, subst, arith}
use Rattle.std.proofs.lemmas.Result.{err_from_is_err_and}
use Rattle.tp_counts.specs.declared.error.StoreError.{StoreError}
use Rattle.tp_counts.specs.declared.error.StoreError.TheVariants.{Damaged}
use Rattle.tp_layout.specs.Node.{most_level}
use Rattle.tp_layout.specs.Value.{node_value}
use Rattle.tp_btree.specs.Inserts.{Ran}
use Rattle.tp_btree.specs.Removes.{Cutout, Settled}
use Rattle.tp_counts.proofs.Refusing.{fault_is, refusal_is}
use Rattle.tp_btree.proofs.Running.{ran_then}
use Rattle.tp_btree.proofs.removal.remove.Goals as goal

pub returns-in_err-root-clause-damaged : goal.returns-in_err-root-clause-damaged
returns-in_err-root-clause-damaged g c e honest opens held s k high was r =
    let tm = c.args.tm.now in
    let u = c.take_below.new.tm in
    let d1 = g.D.Disk.state c.take_below.new.disk in
    let cut = c.in_ok-node.ensures.taken honest opens held s k 0 high was r (omega (arith, r.levels, c.most_level.ensures)) in
    let p = err_from_is_err_and c.from_residual-in_err-root.result c.from_residual-in_err-root.ensures.1 in
    let sized = subst (λ z. Cutout z s u d1 c.args.kind opens held k 0 high c.args.root c.args.key was (node_value c.in_ok-node.field-0.node) c.in_ok-node.field-0.was) (sym (ap (λ z. z.metadata_blocks) c.in_ok-node.ensures.ran.geometry)) cut in
    let kinds = c.in_ok-node.ensures.kind in
    c.in_err-root.ensures.damaged (ap (λ (z : StoreError). Err z) (refusal_is c.from_residual-in_err-root.result p.0 c.in_err-root.field-0.0 Damaged p.1 p.2 e)) opens held s k high c.args.root c.args.key was c.in_ok-node.field-0.was
    (subst (λ j. Cutout u.geometry.metadata_blocks s u d1 j opens held k 0 high c.args.root c.args.key was (node_value c.in_ok-node.field-0.node) c.in_ok-node.field-0.was) (sym kinds) sized)

pub returns-in_err-root-clause-ran : goal.returns-in_err-root-clause-ran
returns-in_err-root-clause-ran g c =
    let p = err_from_is_err_and c.from_residual-in_err-root.result c.from_residual-in_err-root.ensures.1 in
    let d0 = g.D.Disk.state c.args.disk.now in
    let d1 = g.D.Disk.state c.take_below.new.disk in
    let d2 = g.D.Disk.state c.settle.new.disk in
    subst (λ b. Ran (2 * most_level c.args.kind + 1) b c.args.tm.now c.settle.new.tm d0 d2) (sym (fault_is c.from_residual-in_err-root.result p.0 c.in_err-root.field-0.0 p.1 p.2))
    (ran_then (2 * c.most_level.result + 1) 0 (2 * most_level c.args.kind + 1) _ c.args.tm.now c.take_below.new.tm c.settle.new.tm d0 d1 d2 (omega (arith, c.most_level.ensures)) c.in_ok-node.ensures.ran c.in_err-root.ensures.ran)

pub returns-clause-removed : goal.returns-clause-removed
returns-clause-removed g c honest opens held s k high was r =
    let tm = c.args.tm.now in
    let u = c.take_below.new.tm in
    let d1 = g.D.Disk.state c.take_below.new.disk in
    let u2 = c.settle.new.tm in
    let d2 = g.D.Disk.state c.settle.new.disk in
    let cut = c.in_ok-node.ensures.taken honest opens held s k 0 high was r (omega (arith, r.levels, c.most_level.ensures)) in
    let sized = subst (λ z. Cutout z s u d1 c.args.kind opens held k 0 high c.args.root c.args.key was (node_value c.in_ok-node.field-0.node) c.in_ok-node.field-0.was) (sym (ap (λ z. z.metadata_blocks) c.in_ok-node.ensures.ran.geometry)) cut in
    let kinds = c.in_ok-node.ensures.kind in
    let done = c.in_ok-root.ensures.settled opens held s k high c.args.root c.args.key was c.in_ok-node.field-0.was
    (subst (λ j. Cutout u.geometry.metadata_blocks s u d1 j opens held k 0 high c.args.root c.args.key was (node_value c.in_ok-node.field-0.node) c.in_ok-node.field-0.was) (sym kinds) sized) r.removing.branches in
    let made = subst (λ j. Settled s u2 d2 j opens held k high c.args.root c.args.key was c.in_ok-root.root) kinds done in
    record { after = made.after; holds = made.holds; removed = made.removed; told = cut.told_is }

pub returns-clause-ran : goal.returns-clause-ran
returns-clause-ran g c =
    let d0 = g.D.Disk.state c.args.disk.now in
    let d1 = g.D.Disk.state c.take_below.new.disk in
    let d2 = g.D.Disk.state c.settle.new.disk in
    ran_then (2 * c.most_level.result + 1) 0 (2 * most_level c.args.kind + 1) false c.args.tm.now c.take_below.new.tm c.settle.new.tm d0 d1 d2 (omega (arith, c.most_level.ensures)) c.in_ok-node.ensures.ran c.in_ok-root.ensures.ran
