use Rattle.std.proofs.Common.{◌≡◌}
use Rattle.tp_counts.specs.Counts.{used_in}
use Rattle.tp_counts.proofs.used_among.Given as goal

abbrev pub invariant-loop-count : goal.invariant-loop-count
invariant-loop-count l = l.used ≡ used_in l.count-index l.counts
