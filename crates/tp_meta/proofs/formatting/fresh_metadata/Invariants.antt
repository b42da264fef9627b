use Rattle.std.proofs.Common.{◌≡◌}
use Rattle.tp_meta.proofs.Counting.{counted_so_far}
use Rattle.tp_meta.proofs.formatting.fresh_metadata.Given as goal

abbrev pub invariant-loop-block : goal.invariant-loop-block
invariant-loop-block l = l.counts ≡ counted_so_far l.fn.geometry l.block
