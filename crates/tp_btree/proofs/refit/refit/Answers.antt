use Rattle.std.proofs.Common.{◌≡◌, ◌-◌, suc, sym, subst, arith}
use Rattle.std.proofs.lemmas.Result.{on_ok_weaker}
use Rattle.tp_layout.specs.Value.{node_value}
use Rattle.tp_btree.specs.Removes.{CanRefit, Refit}
use Rattle.tp_btree.proofs.refit.refit.Goals as goal

pub returns-then-index-gt0-clause-refitted : goal.returns-then-index-gt0-clause-refitted
returns-then-index-gt0-clause-refitted g c = on_ok_weaker c.refit_upper.result
    (λ made honest opens held s k low high cr.
    let tm = c.args.tm.now in
    let m = tm.geometry.metadata_blocks in
    let kind = c.args.node.now.kind in
    let es = c.args.node.now.entries.items in
    let part = node_value c.args.part in
    let is : suc (c.args.index - 1) ≡ c.args.index = omega (arith, c.if-index-gt0.true) in
    subst (λ i. Refit m s c.refit_upper.new.tm (g.D.Disk.state c.refit_upper.new.disk) kind es i part opens held k low high c.refit_upper.new.node.entries.items) is
    (made honest opens held s k low high (subst (λ i. CanRefit m tm (g.D.Disk.state c.args.disk.now) kind es i part opens held s k low high) (sym is) cr)))
    c.refit_upper.ensures.refitted

pub returns-then-index-gt0-clause-damaged : goal.returns-then-index-gt0-clause-damaged
returns-then-index-gt0-clause-damaged g c e honest opens held s k low high cr =
    let tm = c.args.tm.now in
    let is : suc (c.args.index - 1) ≡ c.args.index = omega (arith, c.if-index-gt0.true) in
    c.refit_upper.ensures.damaged e honest opens held s k low high
    (subst (λ i. CanRefit tm.geometry.metadata_blocks tm (g.D.Disk.state c.args.disk.now) c.args.node.now.kind c.args.node.now.entries.items i (node_value c.args.part) opens held s k low high) (sym is) cr)

pub returns-clause-refitted : goal.returns-clause-refitted
returns-clause-refitted g c = on_ok_weaker c.refit_first.result
    (λ made honest opens held s k low high cr.
    let tm = c.args.tm.now in
    let m = tm.geometry.metadata_blocks in
    let kind = c.args.node.now.kind in
    let es = c.args.node.now.entries.items in
    let part = node_value c.args.part in
    let is : 0 ≡ c.args.index = omega (arith, c.if-index-gt0.false) in
    subst (λ i. Refit m s c.refit_first.new.tm (g.D.Disk.state c.refit_first.new.disk) kind es i part opens held k low high c.refit_first.new.node.entries.items) is
    (made honest opens held s k low high (subst (λ i. CanRefit m tm (g.D.Disk.state c.args.disk.now) kind es i part opens held s k low high) (sym is) cr)))
    c.refit_first.ensures.refitted
