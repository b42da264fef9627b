use Rattle.std.proofs.Common.{ap, inl, inr, refl, Err}
use Rattle.tp_commands.specs.Images.{FormatsOver}
use Rattle.tp_failures.specs.Failures.{number_of}
use Rattle.tp_commands.proofs.Deeds.{done_on}
use Rattle.tp_commands.proofs.devices.format_device.Goals as goal

pub returns-in-Ok : goal.returns-in-Ok
returns-in-Ok g c =
    let calls = g.S.Stream.calls in
    inr (done_on (FormatsOver c.args.overwrites c.args.geometry (calls c.args.stream.now) (calls c.format_over-disk.new.stream) (number_of c.format_over-disk.result.1)) c.in-Ok.ensures c.close.ensures
    c.format_over-disk.ensures)

pub returns-in-Err : goal.returns-in-Err
returns-in-Err g c = inl (c.in-Err.ensures, ap Err c.unopened.ensures, refl)
