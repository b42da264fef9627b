use Rattle.tp_hub.specs.Runs.{incoming}
use Rattle.tp_lines.proofs.Controlling.{line_asked}
use Rattle.tp_lines.proofs.control.ask_line.Goals as goal

pub returns-clause-answered : goal.returns-clause-answered
returns-clause-answered g c = line_asked g.D.Desk.asks c.args.line.now (incoming c.event_of.result) c.ask.result.events c.ask.result.bytes c.args.desk.now c.ask.new.self c.args.out.now c.ask.new.out (g.S.Stream.calls c.args.stream.now) (g.S.Stream.calls c.tell-is_told.new.stream) c.tell-is_told.result c.requires.some c.event_of.ensures c.requires.empty c.requires.fits c.ask.ensures c.tell-is_told.ensures
