use Rattle.tp_shown.proofs.Ordered.{highest_is_last, slots_are_entries}
use Rattle.tp_shown.proofs.Tests.{copy_is_listed, count_is_listed, exists_is_listed, need_is_wanted, need_zeroes, used_fits, used_is_listed}
use Rattle.tp_shown.proofs.laws.tests_are_of_lists.Goals as goal

pub returns-clause-used : goal.returns-clause-used
returns-clause-used c = used_is_listed

pub returns-clause-exists : goal.returns-clause-exists
returns-clause-exists c = exists_is_listed

pub returns-clause-copy : goal.returns-clause-copy
returns-clause-copy c = copy_is_listed

pub returns-clause-count : goal.returns-clause-count
returns-clause-count c = count_is_listed

pub returns-clause-need : goal.returns-clause-need
returns-clause-need c = need_is_wanted

pub returns-clause-fits : goal.returns-clause-fits
returns-clause-fits c = used_fits

pub returns-clause-slots : goal.returns-clause-slots
returns-clause-slots c = slots_are_entries

pub returns-clause-highest : goal.returns-clause-highest
returns-clause-highest c = highest_is_last

pub returns-clause-zeroes : goal.returns-clause-zeroes
returns-clause-zeroes c = need_zeroes
