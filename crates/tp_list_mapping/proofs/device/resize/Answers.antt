use Rattle.std.proofs.Common.{refl}
use Rattle.tp_list_mapping.proofs.Changing.{found_resized}
use Rattle.tp_list_mapping.proofs.device.resize.Goals as goal

pub returns-in-Some-clause-value : goal.returns-in-Some-clause-value
returns-in-Some-clause-value c =
    found_resized c.args.id c.in-Some.at c.deref.result.now c.args.devices.now.items c.deref.ensures.value c.args.size
    (record { id = c.index_mut.result.now.id; size = c.args.size; slots = c.index_mut.result.now.slots }) c.index_mut.result.now c.in-Some.ensures.inside c.in-Some.ensures.found c.in-Some.ensures.first
    c.index_mut.ensures.value refl refl refl
