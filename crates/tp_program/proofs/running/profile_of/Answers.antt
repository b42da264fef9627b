use Rattle.std.proofs.Common.{sym, ◌∙◌}
use Rattle.tp_program.proofs.running.profile_of.Goals as goal

pub returns-then-service-clause-extended : goal.returns-then-service-clause-extended
returns-then-service-clause-extended c = c.writing_through.ensures.extended ∙ c.offered_to-profile.ensures.extended

pub returns-then-service-clause-through : goal.returns-then-service-clause-through
returns-then-service-clause-through c = c.writing_through.ensures.through ∙ (c.offered_to-profile.ensures.extended ∙ sym c.if-service.true)

pub returns-then-service-clause-clones : goal.returns-then-service-clause-clones
returns-then-service-clause-clones c = c.writing_through.ensures.clones ∙ c.offered_to-profile.ensures.clones

pub returns-then-service-clause-default : goal.returns-then-service-clause-default
returns-then-service-clause-default c = c.writing_through.ensures.default ∙ c.offered_to-profile.ensures.default

pub returns-else-service-clause-through : goal.returns-else-service-clause-through
returns-else-service-clause-through c = c.offered_to-profile.ensures.buffered ∙ sym c.if-service.false
