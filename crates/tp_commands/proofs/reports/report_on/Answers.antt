use Rattle.std.proofs.Common.{ap, subst, sym}
use Rattle.tp_model.specs.Disk.{DiskState}
use Rattle.tp_disk.specs.HandedOut.{IsHandedOut}
use Rattle.tp_failures.specs.Failures.{number_of}
use Rattle.tp_commands.specs.Reporting.{ReportsOn}
use Rattle.tp_commands.proofs.reports.report_on.Goals as goal

pub report_disk-followed-requires : goal.report_disk-followed-requires
report_disk-followed-requires g c = subst (λ (d : DiskState). IsHandedOut d) (sym (ap g.D.Disk.state c.new.ensures)) c.requires

pub returns : goal.returns
returns g c =
    let calls = g.S.Stream.calls in
    let state = g.D.Disk.state in
    let did = c.report_disk-followed in
    subst (λ (d : DiskState). ReportsOn c.args.report c.args.is_json (calls c.args.stream.now) (calls did.new.stream) (number_of did.result.1) d (state c.into_disk.result)) (ap state c.new.ensures)
    (subst (λ (d : DiskState). ReportsOn c.args.report c.args.is_json (calls c.args.stream.now) (calls did.new.stream) (number_of did.result.1) (state c.new.result.disk) d) (sym (ap state c.into_disk.ensures)) did.ensures)
