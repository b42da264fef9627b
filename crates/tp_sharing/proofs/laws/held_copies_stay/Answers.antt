use Rattle.tp_sharing.proofs.Held.{copies_stay, forests_of_both, held_stays}
use Rattle.tp_sharing.proofs.laws.held_copies_stay.Goals as goal

pub returns-clause-both : goal.returns-clause-both
returns-clause-both c = forests_of_both

pub returns-clause-stays : goal.returns-clause-stays
returns-clause-stays c = held_stays

pub returns-clause-copies : goal.returns-clause-copies
returns-clause-copies c = copies_stay
