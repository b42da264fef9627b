use Rattle.std.proofs.Common.{◌≤◌, inr, subst, arith}
use Rattle.tp_model.specs.Disk.{DiskState}
use Rattle.tp_model.specs.Geometry.{sectors_of_image}
use Rattle.tp_failures.specs.Failures.{number_of}
use Rattle.tp_commands.specs.Images.{FormatsOn}
use Rattle.tp_commands.proofs.Taking.{is_so}
use Rattle.tp_commands.proofs.devices.format_over.Goals as goal

pub returns-then-may : goal.returns-then-may
returns-then-may g c =
    let calls = g.S.Stream.calls in
    let state = g.D.Disk.state in
    let large : sectors_of_image c.args.geometry ≤ (state c.args.disk).size = omega (arith, c.if-sectors-wanted.false, c.sectors-sectors.ensures, c.image_sectors-wanted.ensures) in
    inr (inr (
      large,
      is_so _ _ c.in-Ok.may c.if-may.true c.in-Ok.ensures.found,
      subst (λ (d : DiskState). FormatsOn c.args.geometry (calls c.args.stream.now) (calls c.format_on.new.stream) (number_of c.format_on.result.1) d (state c.format_on.result.0)) c.in-Ok.ensures.state
          c.format_on.ensures,
    ))
