use Rattle.tp_cache.specs.Table.{IsRun}
use Rattle.tp_cache.proofs.writing_out.gather.Given as goal

abbrev pub invariant-loop-count : goal.invariant-loop-count
invariant-loop-count l = IsRun l.index l.slots l.block l.count l.run.items
