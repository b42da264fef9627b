use Rattle.std.proofs.Common.{◌∙◌, ap, refl, sym}
use Rattle.std.specs.Prelude.{is_some}
use Rattle.tp_sharing.specs.Volumes.{size_of}
use Rattle.tp_sharing.proofs.Told.{size_changes}
use Rattle.tp_list_mapping.specs.List.{volumes}
use Rattle.tp_list_mapping.proofs.Changing.{found_size}
use Rattle.tp_mapping.proofs.WithoutRuns.{none_when}
use Rattle.tp_list_mapping.proofs.device.size_of.Goals as goal

pub returns-in-Some : goal.returns-in-Some
returns-in-Some c = sym (found_size c.args.id c.in-Some.at c.args.devices.now c.args.devices.now refl c.in-Some.ensures.inside c.in-Some.ensures.found c.in-Some.ensures.first c.index-devices-at.result)

pub returns-in-None : goal.returns-in-None
returns-in-None c = sym (none_when (size_of c.args.id (volumes c.args.devices.now)) (size_changes.told c.args.id (volumes c.args.devices.now) ∙ ap is_some c.in-None.ensures.found))
