use Rattle.tp_shown.proofs.Mapped.{mapped_is_listed, pool_is_bounded}
use Rattle.tp_shown.proofs.laws.bounds_are_of_lists.Goals as goal

pub returns-clause-mapped : goal.returns-clause-mapped
returns-clause-mapped c = mapped_is_listed

pub returns-clause-bounded : goal.returns-clause-bounded
returns-clause-bounded c = pool_is_bounded
