use Rattle.tp_cache.proofs.Outs.{run_more}
use Rattle.tp_cache.proofs.writing_out.gather.Goals as goal

pub loop-count-preserved : goal.loop-count-preserved
loop-count-preserved c =
    let more = c.if-not-append.ensures in
    run_more c.args.index.now c.args.slots.now c.args.block c.loop-count.count c.loop-count.run.items c.append.new.run.items c.loop-count.invariant more.dirty more.bytes more.long
