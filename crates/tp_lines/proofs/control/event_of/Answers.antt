use Rattle.tp_hub.specs.Runs.{incoming}
use Rattle.tp_lines.proofs.Controlling.{plain_control}
use Rattle.tp_lines.proofs.control.event_of.Goals as goal

pub returns-in-None : goal.returns-in-None
returns-in-None c = plain_control c.args.line.now (incoming c.plain_event.result) c.in-None.ensures c.plain_event.ensures
