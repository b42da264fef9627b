use Rattle.std.proofs.Common.{false, slice_index_or, arith}
use Rattle.tp_crowd.proofs.Framing.{one_at_most, set_next}
use Rattle.tp_crowd.proofs.crowd.count_set.Goals as goal

pub loop-number-preserved : goal.loop-number-preserved
loop-number-preserved c =
    let least = one_at_most (slice_index_or c.args.refused.now c.from.result false) in
    (set_next c.args.refused.now c.loop-number.number c.loop-number.count c.from.result (omega (arith, c.loop-number-test.true, c.requires, c.told-refused)) c.from.ensures c.loop-number.invariant.0, omega (arith, c.loop-number.invariant.1, least))
