use Rattle.std.proofs.Common.{inr, Err, ap, refl}
use Rattle.tp_commands.proofs.Cleared.{checked_first}
use Rattle.tp_commands.proofs.clearing.tell_cleared.Goals as goal

pub returns-in-Ok : goal.returns-in-Ok
returns-in-Ok g c =
    checked_first (g.D.Disk.state c.check.new.disk) (g.D.Disk.state c.args.disk.now) (g.D.Disk.state c.print_cleared.new.disk) (g.S.Stream.calls c.args.stream.now)
    (g.S.Stream.calls c.print_cleared.new.stream) c.print_cleared.result c.in-Ok.ensures.state c.in-Ok.ensures.clean c.print_cleared.ensures

pub returns-in-Err : goal.returns-in-Err
returns-in-Err g c =
    let told = c.in-Err.ensures in
    inr (c.in-Err.error, ap Err c.refusal.ensures, record { clean = told.clean; fault = told.fault; accepted = told.accepted; state = told.state; cause = told.cause }, refl)
