use Rattle.nbd_session.proofs.Flushing.{flushed_front}
use Rattle.nbd_session.proofs.flushes.flushed_frame.Goals as goal

pub returns-in-Some-clause-steps : goal.returns-in-Some-clause-steps
returns-in-Some-clause-steps g c = λ p q met.
    let some = c.in-Some.ensures.some in
    flushed_front g.V.Volumes.view c.args.volume c.args.size c.args.manner p q c.args.piece.now c.in-Some.flush.len c.in-Some.flush.cookie c.args.answer _ some.1 some.0 some.2 c.put_answer-sent.ensures.reply met
