use Rattle.tp_hub.proofs.Ending.{makes_free, session_ends}
use Rattle.tp_hub.proofs.flushed.flush_session.Goals as goal

pub returns : goal.returns
returns g c = λ p ready is_open met.
    session_ends g.V.Volumes.view c.args.number c.args.session.now c.end_flush.new.session c.args.pool.now c.geometry-geometry.result c.args.piece.now c.args.answer c.in-Some.taken c.args.out.now c.end_flush.new.self c.geometry-geometry.ensures
    (makes_free c.args.session.now c.args.piece.now c.requires.makes) c.in-Some.ensures.inside.1 c.in-Some.ensures.ended c.ran_of.result.events c.ran_of.result.bytes c.ran_of.ensures p ready is_open met
