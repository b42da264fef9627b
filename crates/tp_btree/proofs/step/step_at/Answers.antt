use Rattle.std.proofs.Common.{◌∙◌}
use Rattle.tp_btree.proofs.Steps.{standing, step_is}
use Rattle.tp_btree.proofs.step.step_at.Goals as goal

pub returns-clause-step : goal.returns-clause-step
returns-clause-step g c honest opens held s h live closed ranked =
    let disk = g.D.Disk.state c.args.disk.now in
    let r = standing c.args.tm.now disk c.args.kind opens held s c.args.block h live closed ranked in
    let e = c.step_in-step.ensures r.node r.there.good r.kind_is (c.in_ok-read.ensures.found honest ∙ r.there.bytes) in
    step_is c.args.tm.now.geometry.metadata_blocks c.args.kind s c.args.key c.args.block c.step_in-step.result r.node r.kind_is r.same e.0 e.1
