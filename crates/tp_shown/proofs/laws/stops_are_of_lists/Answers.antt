use Rattle.tp_shown.proofs.Partly.{partly_reopens, values_are_listed}
use Rattle.tp_shown.proofs.laws.stops_are_of_lists.Goals as goal

pub returns-clause-reopens : goal.returns-clause-reopens
returns-clause-reopens c = partly_reopens

pub returns-clause-values : goal.returns-clause-values
returns-clause-values c = values_are_listed
