use Rattle.std.proofs.lemmas.Result.{on_ok_weaker}
use Rattle.tp_sharing.specs.Volumes.{with_place}
use Rattle.tp_list_mapping.proofs.Changing.{found_changed, found_roomy}
use Rattle.tp_list_mapping.proofs.device.put_slot.Goals as goal

pub returns-in-Some-clause-value : goal.returns-in-Some-clause-value
returns-in-Some-clause-value c =
    on_ok_weaker c.put_at.result (found_changed c.args.id c.in-Some.at c.deref.result.now c.args.devices.now.items c.deref.ensures.value (with_place c.args.slot) c.put_at.new.devices.items c.in-Some.ensures.inside
    c.in-Some.ensures.found c.in-Some.ensures.first) c.put_at.ensures.value

pub returns-in-Some-clause-room : goal.returns-in-Some-clause-room
returns-in-Some-clause-room c =
    on_ok_weaker c.put_at.result (found_roomy c.args.id c.in-Some.at c.deref.result.now c.args.devices.now.items c.deref.ensures.value (with_place c.args.slot) c.put_at.new.devices.items c.in-Some.ensures.inside)
    c.put_at.ensures.value
