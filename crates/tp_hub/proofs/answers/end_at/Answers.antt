use Rattle.std.proofs.Common.{arith}
use Rattle.tp_hub.proofs.Ending.{ended_there, makes_none}
use Rattle.tp_hub.proofs.answers.end_at.Goals as goal

pub returns-clause-ended : goal.returns-clause-ended
returns-clause-ended g c =
    let e = c.end_flush.ensures in
    ended_there g.V.Volumes.view c.end_flush.result c.args.session.now c.end_flush.new.self c.args.geometry.now c.args.answer c.args.piece.now c.args.at c.args.bytes.now c.end_flush.new.out _ (omega (arith, c.requires.room)) e.steps e.open e.fits

pub returns-clause-none : goal.returns-clause-none
returns-clause-none g c none = makes_none c.args.session.now c.args.piece.now (c.end_flush.ensures.none_at none) (c.end_flush.ensures.none_left none)
