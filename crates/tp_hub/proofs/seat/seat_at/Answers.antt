use Rattle.std.proofs.Common.{◌∙◌, ap, sym}
use Rattle.tp_hub.specs.Seats.{seat_of}
use Rattle.tp_hub.proofs.Least.{read_at}
use Rattle.tp_hub.proofs.seat.seat_at.Goals as goal

pub returns : goal.returns
returns c = c.seat_of.ensures ∙ (ap seat_of (sym c.index-sessions-from.is) ∙ sym (ap seat_of (read_at c.args.sessions.now c.from.result c.args.number c.index-sessions-from.result c.from.ensures c.requires.number c.requires.count c.index-sessions-from.is)))
