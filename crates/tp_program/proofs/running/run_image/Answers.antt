use denote.Param.Send.{sendable}
use Rattle.std.proofs.Common.{Err, ap, inl, inr}
use Rattle.tp_commands.proofs.Deeds.{done_on}
use Rattle.tp_program.proofs.running.run_image.Goals as goal

pub run_disk-disk-requires : goal.run_disk-disk-requires
run_disk-disk-requires g c =
    let out = c.in-Ok.ensures in
    (search sendable depth 20, (search sendable depth 20, (search sendable depth 20, (search sendable depth 20, out.handed_out))))

pub returns-in-Ok : goal.returns-in-Ok
returns-in-Ok g c = inr (done_on _ c.in-Ok.ensures c.close.ensures c.run_disk-disk.ensures)

pub returns-in-Err : goal.returns-in-Err
returns-in-Err g c = inl (c.in-Err.ensures, ap Err c.unopened.ensures)
