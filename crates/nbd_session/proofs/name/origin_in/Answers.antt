use Rattle.std.proofs.Common.{sym, ◌∙◌}
use Rattle.nbd_session.specs.Session.{has_clones}
use Rattle.nbd_session.proofs.Names.{clone_in, no_clone_in, no_clones}
use Rattle.nbd_session.proofs.name.origin_in.Goals as goal

pub returns-then-has_clones-clause-found : goal.returns-then-has_clones-clause-found
returns-then-has_clones-clause-found c = clone_in (has_clones c.args.profile) c.args.name.now c.origin_of.result (sym c.has_clones.ensures ∙ c.if-has_clones.true) c.origin_of.ensures.found

pub returns-then-has_clones-clause-none : goal.returns-then-has_clones-clause-none
returns-then-has_clones-clause-none c = no_clone_in (has_clones c.args.profile) c.args.name.now c.origin_of.result (sym c.has_clones.ensures ∙ c.if-has_clones.true) c.origin_of.ensures.none

pub returns-else-has_clones-clause-none : goal.returns-else-has_clones-clause-none
returns-else-has_clones-clause-none c = no_clones (has_clones c.args.profile) c.args.name.now (sym c.has_clones.ensures ∙ c.if-has_clones.false)
