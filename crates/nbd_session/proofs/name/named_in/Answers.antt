use Rattle.nbd_session.specs.Session.{limit_of}
use Rattle.nbd_session.proofs.Names.{found_under, none_under}
use Rattle.nbd_session.proofs.name.named_in.Goals as goal

pub returns-clause-found : goal.returns-clause-found
returns-clause-found c = found_under c.limit_of.result (limit_of c.args.profile) c.args.name.now c.named_below.result c.limit_of.ensures.value c.named_below.ensures.found

pub returns-clause-none : goal.returns-clause-none
returns-clause-none c = none_under c.limit_of.result (limit_of c.args.profile) c.args.name.now c.named_below.result c.limit_of.ensures.value c.named_below.ensures.none
