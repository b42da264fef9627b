use Rattle.std.proofs.Common.{rules}
use Rattle.tp_disk.proofs.Unclaimed.{unclaimed_promises}
use Rattle.tp_disk.proofs.file.FileDiskDisk.read.Goals as goal

pub returns-then-ok-clause-bytes : goal.returns-then-ok-clause-bytes
returns-then-ok-clause-bytes g c = unclaimed_promises c.args.self.now.shadow.state.is_honest c.args.self.now.unclaimed

pub returns-then-ok-clause-state : goal.returns-then-ok-clause-state
returns-then-ok-clause-state g c = search rules
