use Rattle.tp_sharing.proofs.InUse.{shared_is_other, slots_are_within}
use Rattle.tp_sharing.proofs.Copies.{copies_are_listed, lists_ascend}
use Rattle.tp_sharing.proofs.Slots.{lookups_are_listed, mapped_is_told, slots_are_listed}
use Rattle.tp_sharing.proofs.laws.trees_stand_for_lists.Goals as goal

pub returns-clause-slots : goal.returns-clause-slots
returns-clause-slots c = slots_are_listed

pub returns-clause-ascend : goal.returns-clause-ascend
returns-clause-ascend c = lists_ascend

pub returns-clause-shared : goal.returns-clause-shared
returns-clause-shared c = shared_is_other

pub returns-clause-mapped : goal.returns-clause-mapped
returns-clause-mapped c = mapped_is_told

pub returns-clause-lookups : goal.returns-clause-lookups
returns-clause-lookups c = lookups_are_listed

pub returns-clause-within : goal.returns-clause-within
returns-clause-within c = slots_are_within

pub returns-clause-copies : goal.returns-clause-copies
returns-clause-copies c = copies_are_listed
