use Rattle.std.proofs.Common.{arith}
use Rattle.tp_hub.specs.Runs.{incoming}
use Rattle.tp_lines.proofs.Playing.{event_done, event_lost, event_short, not_false, not_true}
use Rattle.tp_lines.proofs.play.ask_event.Goals as goal

pub returns-then-not-asked-clause-asked : goal.returns-then-not-asked-clause-asked
returns-then-not-asked-clause-asked g c = event_lost g.D.Desk.asks (incoming c.args.event) c.args.desk.now c.ask_once-asked.new.desk (g.S.Stream.calls c.args.stream.now) (g.S.Stream.calls c.ask_once-asked.new.stream) c.ask_once-asked.result.ran.events c.ask_once-asked.result.ran.bytes c.ask_once-asked.result.is_told c.requires.whole c.ask_once-asked.ensures.asked (not_false c.ask_once-asked.result.is_told c.if-not-asked.true)

pub returns-then-asked-eq0-clause-asked : goal.returns-then-asked-eq0-clause-asked
returns-then-asked-eq0-clause-asked g c = event_short g.D.Desk.asks (incoming c.args.event) c.args.desk.now c.ask_once-asked.new.desk (g.S.Stream.calls c.args.stream.now) (g.S.Stream.calls c.ask_once-asked.new.stream) c.ask_once-asked.result.ran.events c.ask_once-asked.result.ran.bytes c.ask_once-asked.result.is_told c.requires.whole c.ask_once-asked.ensures.asked (not_true c.ask_once-asked.result.is_told c.if-not-asked.false) c.if-asked-eq0.true

pub returns-clause-asked : goal.returns-clause-asked
returns-clause-asked g c = event_done g.D.Desk.asks (incoming c.args.event) c.args.desk.now c.ask_once-asked.new.desk (g.S.Stream.calls c.args.stream.now) (g.S.Stream.calls c.ask_once-asked.new.stream) c.ask_once-asked.result.ran.events c.ask_once-asked.result.ran.bytes c.ask_once-asked.result.is_told c.requires.whole c.ask_once-asked.ensures.asked (not_true c.ask_once-asked.result.is_told c.if-not-asked.false) (omega (arith, c.if-asked-eq0.false))
