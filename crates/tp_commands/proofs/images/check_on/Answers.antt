use Rattle.std.proofs.Common.{ap, subst, sym}
use Rattle.tp_model.specs.Disk.{DiskState}
use Rattle.tp_failures.specs.Failures.{number_of}
use Rattle.tp_commands.specs.Images.{PrintsCheck}
use Rattle.tp_commands.proofs.images.check_on.Goals as goal

pub returns : goal.returns
returns g c =
    let calls = g.S.Stream.calls in
    let state = g.D.Disk.state in
    let did = c.check_disk-followed in
    subst (λ (d : DiskState). PrintsCheck (calls c.args.stream.now) (calls did.new.stream) (number_of did.result.1) d (state c.into_disk.result)) (ap state c.new.ensures)
    (subst (λ (d : DiskState). PrintsCheck (calls c.args.stream.now) (calls did.new.stream) (number_of did.result.1) (state c.new.result.disk) d) (sym (ap state c.into_disk.ensures)) did.ensures)
