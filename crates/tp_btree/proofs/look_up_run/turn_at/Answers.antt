use Rattle.std.proofs.Common.{◌∙◌}
use Rattle.tp_btree.proofs.Steps.{standing, step_is}
use Rattle.tp_btree.proofs.look_up_run.turn_at.Goals as goal

pub returns-clause-step : goal.returns-clause-step
returns-clause-step g c honest opens held s h live closed ranked next le lt =
    let disk = g.D.Disk.state c.args.disk.now in
    let r = standing c.args.tm.now disk c.args.kind opens held s c.args.block h live closed ranked in
    let bytes = c.in_ok-read.ensures.found honest ∙ r.there.bytes in
    step_is c.args.tm.now.geometry.metadata_blocks c.args.kind s next c.args.block c.turn_in-turn.result.step r.node r.kind_is r.same (c.turn_in-turn.ensures.level r.node r.there.good r.kind_is bytes)
    (c.turn_in-turn.ensures.entry r.node r.there.good r.kind_is bytes next le lt)
