use Rattle.tp_disk.proofs.Unclaimed.{unclaimed_promises}
use Rattle.tp_disk.proofs.file.FileDiskSharedDisk.read_shared.Goals as goal

pub returns-in-Ok : goal.returns-in-Ok
returns-in-Ok g c ok = unclaimed_promises c.args.self.now.shadow.state.is_honest c.args.self.now.unclaimed
