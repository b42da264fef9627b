use Rattle.std.proofs.Common.{refl}
use Rattle.tp_list_mapping.proofs.Changing.{found_size}
use Rattle.tp_list_mapping.proofs.device.copy_of.Goals as goal

pub returns-in-Ok-clause-size : goal.returns-in-Ok-clause-size
returns-in-Ok-clause-size c = found_size c.args.origin c.in-Some.at c.args.devices.now c.args.devices.now refl c.in-Some.ensures.inside c.in-Some.ensures.found c.in-Some.ensures.first c.index-devices-at.result
