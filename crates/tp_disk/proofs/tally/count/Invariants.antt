use Rattle.std.proofs.Common.{◌-◌}
use Rattle.tp_disk.specs.Tally.{Counted}
use Rattle.tp_disk.proofs.tally.count.Given as goal

abbrev pub invariant-loop-sector : goal.invariant-loop-sector
invariant-loop-sector l = Counted l.at (l.sector - l.at) l.fn.counts.items l.counts.items
