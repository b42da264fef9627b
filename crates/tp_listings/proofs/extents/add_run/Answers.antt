use Rattle.std.proofs.lemmas.Result.{on_ok_weaker}
use Rattle.tp_listings.proofs.Joining.{joined_longer, joined_more}
use Rattle.tp_listings.proofs.extents.add_run.Goals as goal

pub returns-then-goes_on-clause-added : goal.returns-then-goes_on-clause-added
returns-then-goes_on-clause-added c =
    on_ok_weaker c.push_run-then-goes_on.result
    (joined_longer c.args.extents.now.items c.pop.new.self.items c.push_run-then-goes_on.new.extents.items c.in-Some.last c.args.run c.goes_on.result c.goes_on.ensures c.if-goes_on.true c.in-Some.ensures.items)
    c.push_run-then-goes_on.ensures.pushed

pub returns-clause-added : goal.returns-clause-added
returns-clause-added c =
    on_ok_weaker c.push_run-3.result
    (joined_more c.args.extents.now.items c.pop.new.self.items c.push_run-2.new.extents.items c.push_run-3.new.extents.items c.in-Some.last c.args.run c.goes_on.result c.goes_on.ensures c.if-goes_on.false
    c.in-Some.ensures.items c.in_ok-push_run.ensures.pushed) c.push_run-3.ensures.pushed
