use Rattle.std.specs.Prelude.{Err, Ok}
use Rattle.tp_hub.proofs.orders.tell_delta.Goals as goal

pub returns-in-Ok : goal.returns-in-Ok
returns-in-Ok g c = let m = c.in-Ok.ensures in (m.0, Ok c.delta_line.new.line.bytes, m.1, m.2, c.tell_text.ensures)

pub returns-in-Err : goal.returns-in-Err
returns-in-Err g c = let m = c.in-Err.ensures in (m.0, Err c.in-Err.reason, m.1, m.2, c.note.ensures)
