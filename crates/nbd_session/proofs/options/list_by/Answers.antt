use Rattle.std.proofs.Common.{[], refl, take}
use Rattle.nbd_session.specs.declared.phase.Phase.TheVariants.{Ended}
use Rattle.nbd_session.specs.Session.{list_context}
use Rattle.nbd_session.proofs.options.list_by.Goals as goal

pub returns-in-Ok-clause-answer : goal.returns-in-Ok-clause-answer
returns-in-Ok-clause-answer g c =
    c.in-Ok.ensures (list_context c.args.terms c.args.is_listed) c.args.name.now (take c.list_of.result.1 c.list_of.new.out) c.list_of.result.0 c.list_of.new.pool refl c.list_of.ensures.answer

pub returns-in-Err-clause-answer : goal.returns-in-Err-clause-answer
returns-in-Err-clause-answer g c = c.in-Err.ensures (list_context c.args.terms c.args.is_listed) c.args.name.now [] Ended c.seek.new.pool refl (refl, refl, refl)
