use Rattle.tp_disk.specs.Memory.{mem_state}
use Rattle.tp_disk.specs.Picks.{picked}
use Rattle.tp_users.proofs.OnDisk.{stopped_disk}
use Rattle.tp_users.proofs.lives.stopped.Goals as goal

pub returns-in-Ok-clause-stopped : goal.returns-in-Ok-clause-stopped
returns-in-Ok-clause-stopped c =
    let old = mem_state c.args.disk.now in
    stopped_disk old (mem_state c.in-Ok.left) (picked old.cells c.args.picks.now) c.in-Ok.ensures.0 (c.picks_are_stops.ensures.may old.cells c.args.picks.now)
