use Rattle.nbd_session.proofs.Names.{found_below, none_below}
use Rattle.nbd_session.proofs.name.named_below.Goals as goal

pub returns-in-Some-clause-found : goal.returns-in-Some-clause-found
returns-in-Some-clause-found c = found_below c.args.name.now c.in-Some.id c.args.limit c.below.result c.in-Some.ensures.found c.below.ensures

pub returns-in-Some-clause-none : goal.returns-in-Some-clause-none
returns-in-Some-clause-none c = none_below c.args.name.now c.in-Some.id c.args.limit c.below.result c.in-Some.ensures.found c.below.ensures
