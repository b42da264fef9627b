use Rattle.std.proofs.Common.{ap, inl, inr, refl, Err}
use Rattle.tp_failures.specs.Failures.{number_of}
use Rattle.tp_commands.specs.Reporting.{ReportsOn}
use Rattle.tp_commands.proofs.Deeds.{done_on}
use Rattle.tp_commands.proofs.reports.report_of_image.Goals as goal

pub report_on-disk-requires : goal.report_on-disk-requires
report_on-disk-requires g c = let out = c.in-Ok.ensures in out.handed_out

pub returns-in-Ok : goal.returns-in-Ok
returns-in-Ok g c =
    let calls = g.S.Stream.calls in
    inr (done_on (ReportsOn c.args.report c.args.is_json (calls c.args.stream.now) (calls c.report_on-disk.new.stream) (number_of c.report_on-disk.result.1)) c.in-Ok.ensures c.close.ensures c.report_on-disk.ensures)

pub returns-in-Err : goal.returns-in-Err
returns-in-Err g c = inl (c.in-Err.ensures, ap Err c.unopened.ensures, refl)
