use Rattle.std.proofs.Common.{arith}
use Rattle.tp_meta.proofs.Counting.{counts_one_more}
use Rattle.tp_meta.proofs.formatting.fresh_metadata.Goals as goal

pub loop-block-preserved : goal.loop-block-preserved
loop-block-preserved c =
    counts_one_more c.args.geometry c.loop-block.block c.loop-block.counts c.inc.new.self (omega (arith, c.fixed_part-block-end.ensures.value, c.fixed_part-block-end.ensures.within.metadata_least, c.loop-block-test.true)) c.loop-block.invariant c.inc.ensures
