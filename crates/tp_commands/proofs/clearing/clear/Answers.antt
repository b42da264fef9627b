use Rattle.tp_commands.proofs.Cleared.{clears}
use Rattle.tp_commands.proofs.clearing.clear.Goals as goal

pub returns : goal.returns
returns g c = λ clean.
    let said = c.clear_needs_check.ensures in
    clears c.clean_images_are_commits.ensures.stands (g.D.Disk.state c.args.disk.now) (g.D.Disk.state c.clear_needs_check.new.disk) c.clear_needs_check.result clean
    said.cleared said.settled said.any_moment said.refused said.untouched said.same_disk said.cause
