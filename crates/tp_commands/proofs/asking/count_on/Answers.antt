use Rattle.std.proofs.Common.{◌∙◌, ap}
use Rattle.tp_model.specs.DiskStops.{moment}
use Rattle.tp_commands.proofs.asking.count_on.Goals as goal

pub returns-in-Ok : goal.returns-in-Ok
returns-in-Ok g c = let opened = c.in-Ok.ensures.opened in ap moment c.into_disk.ensures ∙ c.count_volumes-count.ensures ∙ ap moment opened.disk_is

pub returns-in-Err : goal.returns-in-Err
returns-in-Err g c = let refused = c.in-Err.ensures.refused in ap moment refused.state
