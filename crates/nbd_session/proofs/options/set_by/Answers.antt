use Rattle.std.proofs.Common.{[], refl, take}
use Rattle.nbd_session.specs.declared.phase.Phase.TheVariants.{Ended}
use Rattle.nbd_session.specs.Session.{set_context}
use Rattle.nbd_session.proofs.options.set_by.Goals as goal

pub returns-in-Ok-clause-answer : goal.returns-in-Ok-clause-answer
returns-in-Ok-clause-answer g c =
    c.in-Ok.ensures (set_context c.args.terms c.args.is_asked) c.args.name.now (take c.set_of.result.1 c.set_of.new.out) c.set_of.result.0 c.set_of.new.pool refl c.set_of.ensures.answer

pub returns-in-Err-clause-answer : goal.returns-in-Err-clause-answer
returns-in-Err-clause-answer g c = c.in-Err.ensures (set_context c.args.terms c.args.is_asked) c.args.name.now [] Ended c.seek.new.pool refl (refl, refl, refl)
