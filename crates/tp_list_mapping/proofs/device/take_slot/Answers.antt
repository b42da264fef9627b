use Rattle.std.proofs.lemmas.Result.{on_ok_weaker}
use Rattle.tp_sharing.specs.Volumes.{without_place}
use Rattle.tp_list_mapping.proofs.Changing.{found_changed, found_roomy}
use Rattle.tp_list_mapping.proofs.device.take_slot.Goals as goal

pub returns-in-Some-clause-value : goal.returns-in-Some-clause-value
returns-in-Some-clause-value c =
    on_ok_weaker c.take_at.result (found_changed c.args.id c.in-Some.at c.deref.result.now c.args.devices.now.items c.deref.ensures.value (without_place c.args.block) c.take_at.new.devices.items c.in-Some.ensures.inside
    c.in-Some.ensures.found c.in-Some.ensures.first) c.take_at.ensures.value

pub returns-in-Some-clause-room : goal.returns-in-Some-clause-room
returns-in-Some-clause-room c =
    on_ok_weaker c.take_at.result (found_roomy c.args.id c.in-Some.at c.deref.result.now c.args.devices.now.items c.deref.ensures.value (without_place c.args.block) c.take_at.new.devices.items c.in-Some.ensures.inside)
    c.take_at.ensures.value
