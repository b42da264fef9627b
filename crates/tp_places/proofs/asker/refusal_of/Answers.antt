use Rattle.std.proofs.Common.{◌∙◌}
use Rattle.tp_places.proofs.Numbers.{found_by_number}
use Rattle.tp_places.proofs.asker.refusal_of.Goals as goal

pub returns-clause-found : goal.returns-clause-found
returns-clause-found c = λ refusal is. c.numbered_in.ensures ∙ found_by_number refusal c.args.number is
