use Rattle.std.proofs.Common.{◌∷◌, [], refl}
use Rattle.tp_model.specs.Calls as calls
use Rattle.tp_hub.specs.Told.{Accepts, Refuses}
use Rattle.tp_hub.proofs.orders.keep.Goals as goal

pub returns-in-Ok : goal.returns-in-Ok
returns-in-Ok g c = (calls.Done, Accepts ∷ [], c.in-Ok.ensures, refl, c.note.ensures)

pub returns-in-Err : goal.returns-in-Err
returns-in-Err g c = (calls.Refused c.in-Err.reason, Refuses c.in-Err.reason ∷ [], c.in-Err.ensures, refl, c.note-in-Err.ensures)
