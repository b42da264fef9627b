use Rattle.tp_places.proofs.Lines.{no_text}
use Rattle.tp_places.proofs.groups.number_in.Goals as goal

pub returns-in_default : goal.returns-in_default
returns-in_default c = no_text c.args.bytes.now c.in_default.ensures.cases.0
