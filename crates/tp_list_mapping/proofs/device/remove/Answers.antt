use Rattle.tp_list_mapping.proofs.Changing.{removed, roomy_fewer, roomy_taken}
use Rattle.std.proofs.Common.{◌<◌, length, subst}
use Rattle.tp_list_mapping.proofs.device.remove.Goals as goal

pub returns-in-Some-clause-value : goal.returns-in-Some-clause-value
returns-in-Some-clause-value c =
    removed c.deref.result.now c.args.devices.now.items c.deref.ensures.value c.args.id c.remove.result c.remove.new.self.items c.in-Some.at c.in-Some.ensures.inside c.in-Some.ensures.found c.in-Some.ensures.first
    c.remove.ensures.items

pub returns-in-Some-clause-room : goal.returns-in-Some-clause-room
returns-in-Some-clause-room c =
    let inside : c.in-Some.at < length c.args.devices.now.items = subst (λ l. c.in-Some.at < length l) c.deref.ensures.value c.in-Some.ensures.inside in
    λ n all. (
      roomy_taken n c.in-Some.at c.remove.result c.args.devices.now.items c.remove.ensures.value inside all,
      roomy_fewer n c.in-Some.at c.args.devices.now.items c.remove.new.self.items c.remove.ensures.items all,
    )
