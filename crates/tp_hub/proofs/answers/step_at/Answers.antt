use Rattle.std.proofs.Common.{arith}
use Rattle.tp_hub.proofs.Sharing.{stepped_there}
use Rattle.tp_hub.proofs.answers.step_at.Goals as goal

pub returns-clause-steps : goal.returns-clause-steps
returns-clause-steps g c =
    let e = c.step_into.ensures in
    stepped_there g.V.Volumes.view c.step_into.result c.args.session.now c.step_into.new.self c.args.pool.now c.step_into.new.pool c.args.piece.now c.args.at c.args.bytes.now c.step_into.new.out _ (omega (arith, c.requires.room)) e.steps e.fits
