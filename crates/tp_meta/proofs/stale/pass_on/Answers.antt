use Rattle.tp_meta.proofs.Areas.{no_parts}
use Rattle.tp_meta.proofs.stale.pass_on.Goals as goal

pub returns-clause-here : goal.returns-clause-here
returns-clause-here c = no_parts c.none.result c.none.ensures.metadata c.none.ensures.others
