use Rattle.std.proofs.Common.{sym, ◌∙◌}
use Rattle.nbd_session.specs.Session.{default_of}
use Rattle.tp_program.specs.Staying.{default_for}
use Rattle.tp_program.proofs.Offering.{with_clones, without_clones}
use Rattle.tp_program.proofs.running.offered_to.Goals as goal

pub returns-then-service-clause-clones : goal.returns-then-service-clause-clones
returns-then-service-clause-clones c = c.cloning.ensures.clones ∙ sym c.if-service.true

pub returns-then-service-clause-default : goal.returns-then-service-clause-default
returns-then-service-clause-default c =
    with_clones c.args.service.now.has_clones c.default_for-default.result (default_for c.args.service.now.default) (default_of c.cloning.result) c.if-service.true c.default_for-default.ensures c.cloning.ensures.default

pub returns-else-service-clause-clones : goal.returns-else-service-clause-clones
returns-else-service-clause-clones c = c.extended.ensures.clones ∙ sym c.if-service.false

pub returns-else-service-clause-default : goal.returns-else-service-clause-default
returns-else-service-clause-default c =
    without_clones c.args.service.now.has_clones c.default_for-default.result (default_for c.args.service.now.default) (default_of c.extended.result) c.if-service.false c.default_for-default.ensures c.extended.ensures.default
