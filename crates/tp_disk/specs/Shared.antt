-- Internal: what contracts see of a disk at which many look.
use Rattle.std.specs.Prelude.{◌+◌}
use Rattle.tp_model.specs.Disk.{DiskState}

-- a disk for one of its readers, with what failed for that one beside what failed of the disk
abbrev pub for_reader : DiskState → DiskState → DiskState
for_reader disk own = record disk { failures = own.failures + disk.failures; flushes = own.flushes + disk.flushes }
