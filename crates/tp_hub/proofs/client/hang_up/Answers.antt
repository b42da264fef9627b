use Rattle.std.proofs.Common.{◌∙◌, arith, sym}
use Rattle.tp_hub.proofs.Carrying.{left_not, left_so}
use Rattle.tp_hub.proofs.client.hang_up.Goals as goal

pub returns-then-was_over-clause-left : goal.returns-then-was_over-clause-left
returns-then-was_over-clause-left g c = left_not g.D.Desk.asks c.args.number c.args.desk.now c.args.ending (sym c.was_over.ensures ∙ c.if-was_over.true)

pub returns-clause-left : goal.returns-clause-left
returns-clause-left g c = left_so g.D.Desk.asks c.args.number c.args.desk.now _ _ _ _ _ c.args.ending (sym c.was_over.ensures ∙ c.if-was_over.false) c.requires.fits c.ask.ensures

pub returns-clause-wide : goal.returns-clause-wide
returns-clause-wide g c = let a = c.ask.ensures.adds in record { room = omega (arith, a.room.room, c.clear.ensures.room); most = c.clear.ensures.most ∙ a.room.most }

pub returns-clause-long : goal.returns-clause-long
returns-clause-long g c = let a = c.ask.ensures.adds in omega (arith, a.marks, c.clear.ensures.marks)
