use Rattle.std.proofs.Common.{refl}
use Rattle.std.proofs.lemmas.Result.{on_ok_weaker}
use Rattle.tp_listings.proofs.Runs.{longer_left, more_left}
use Rattle.tp_listings.proofs.extents.push_block.Goals as goal

pub returns-then-goes_on-clause-pushed : goal.returns-then-goes_on-clause-pushed
returns-then-goes_on-clause-pushed c =
    on_ok_weaker c.push_run-then-goes_on.result
    (longer_left c.args.block c.args.extents.now.items c.pop.new.self.items c.push_run-then-goes_on.new.extents.items c.in-Some.last _ c.goes_on.result c.goes_on.ensures c.if-goes_on.true refl refl
    c.in-Some.ensures.items) c.push_run-then-goes_on.ensures.pushed

pub returns-clause-pushed : goal.returns-clause-pushed
returns-clause-pushed c =
    on_ok_weaker c.push_run-3.result
    (more_left c.args.block c.args.extents.now.items c.pop.new.self.items c.push_run-2.new.extents.items c.push_run-3.new.extents.items c.in-Some.last _ c.goes_on.result c.goes_on.ensures c.if-goes_on.false
    refl refl c.in-Some.ensures.items c.in_ok-push_run.ensures.pushed) c.push_run-3.ensures.pushed
