use Rattle.std.proofs.lemmas.Result.{IfOk-weaker}
use Rattle.tp_sizing.proofs.Fitting.{few_devices, has_room}
use Rattle.tp_sizing.proofs.users.volumes_have_room.Goals as goal

pub returns-clause-room : goal.returns-clause-room
returns-clause-room c = IfOk-weaker c.sizes_for.result _ _ (λ g sized s is few each. has_room c.args.wanted.now g s sized is few each) c.sizes_for.ensures.sized

pub returns-clause-devices : goal.returns-clause-devices
returns-clause-devices c = IfOk-weaker c.sizes_for.result _ _ (λ g sized. few_devices c.args.wanted.now g sized) c.sizes_for.ensures.sized
