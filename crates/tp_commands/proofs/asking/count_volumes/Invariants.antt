use Rattle.std.proofs.Common.{◌≡◌}
use Rattle.tp_model.specs.DiskStops.{moment}
use Rattle.tp_served.specs.Served.{disk_of}
use Rattle.tp_commands.proofs.asking.count_volumes.Given as goal

abbrev pub invariant-loop-count : goal.invariant-loop-count
invariant-loop-count g l = moment (disk_of l.pool) ≡ moment (disk_of l.fn.pool)
