use Rattle.tp_listings.proofs.Paging.{len_taken, none_taken, some_taken}
use Rattle.tp_listings.proofs.pages.take_last.Goals as goal

pub returns-clause-some : goal.returns-clause-some
returns-clause-some c = some_taken c.args.runs.now.items c.pop.new.self.items c.pop.result c.pop.ensures.items

pub returns-clause-len : goal.returns-clause-len
returns-clause-len c = len_taken c.args.runs.now.items c.pop.new.self.items c.pop.result c.pop.ensures.items

pub returns-clause-none : goal.returns-clause-none
returns-clause-none c is = none_taken c.args.runs.now.items c.pop.new.self.items c.pop.result c.pop.ensures.items c.pop.ensures.variant is
