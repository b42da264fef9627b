use Rattle.std.proofs.Common.{sym, ◌∙◌}
use Rattle.tp_lines.proofs.Controlling.{empty_is, line_empty}
use Rattle.tp_lines.proofs.control.answer_line.Goals as goal

pub returns-then-is_empty-clause-answered : goal.returns-then-is_empty-clause-answered
returns-then-is_empty-clause-answered g c = line_empty g.D.Desk.asks c.args.line.now c.args.desk.now (g.S.Stream.calls c.args.stream.now) (empty_is c.args.line.now (sym c.is_empty.ensures ∙ c.if-is_empty.true))
