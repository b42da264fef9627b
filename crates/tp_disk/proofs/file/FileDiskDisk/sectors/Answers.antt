use Rattle.std.proofs.Common.{rules}
use Rattle.tp_disk.proofs.file.FileDiskDisk.sectors.Goals as goal

pub returns : goal.returns
returns g c = search rules
