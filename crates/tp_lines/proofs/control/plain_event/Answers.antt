use Rattle.tp_lines.proofs.Controlling.{no_line}
use Rattle.tp_lines.proofs.control.plain_event.Goals as goal

pub returns-in-None : goal.returns-in-None
returns-in-None c = no_line c.args.line.now _ c.message_of.ensures c.in-None.ensures
