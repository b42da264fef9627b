use Rattle.std.proofs.Common.{◌∷◌, [], refl, take}
use Rattle.tp_model.specs.Calls as calls
use Rattle.tp_hub.specs.Told.{Lines, Refuses}
use Rattle.tp_hub.proofs.orders.tell_volume.Goals as goal

pub returns-in-Ok : goal.returns-in-Ok
returns-in-Ok g c = (calls.Line (take c.in-Ok.len c.thin_status.new.out), Lines (take c.in-Ok.len c.thin_status.new.out) ∷ [], c.in-Ok.ensures.met, refl, c.tell_line.ensures)

pub returns-in-Err : goal.returns-in-Err
returns-in-Err g c = (calls.Refused c.in-Err.reason, Refuses c.in-Err.reason ∷ [], c.in-Err.ensures.met, refl, c.note.ensures)
