use Rattle.std.proofs.Common.{[], ◌∷◌}
use Rattle.std.specs.Prelude.{Ok}
use Rattle.tp_lines.specs.Controls.{AnswersOrEnds}
use Rattle.tp_lines.proofs.Doing.{leads_as, leads_none}
use Rattle.tp_lines.proofs.Controlling.{DoneSo, held_so, line_so}
use Rattle.tp_lines.proofs.control.answer_byte.Goals as goal

pub returns-then-byte-eq10-clause-answered : goal.returns-then-byte-eq10-clause-answered
returns-then-byte-eq10-clause-answered g c = leads_as g.D.Desk.asks (λ asks did. AnswersOrEnds c.args.line.now asks did c.end_line.result) (DoneSo c.args.line.now (c.args.byte ∷ []) c.end_line.result) c.args.desk.now c.end_line.new.desk (g.S.Stream.calls c.args.stream.now) (g.S.Stream.calls c.end_line.new.stream) c.end_line.ensures.answered (λ xs ds p. line_so c.args.line.now c.args.byte c.end_line.result xs ds c.if-byte-eq10.true p)

pub returns-clause-answered : goal.returns-clause-answered
returns-clause-answered g c = leads_none g.D.Desk.asks (DoneSo c.args.line.now (c.args.byte ∷ []) (Ok (tt {0}))) c.args.desk.now (g.S.Stream.calls c.args.stream.now) (held_so c.args.line.now c.args.byte c.if-byte-eq10.false)
