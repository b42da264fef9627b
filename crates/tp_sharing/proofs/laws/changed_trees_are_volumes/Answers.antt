use Rattle.tp_sharing.proofs.Later.{content_is_pairs, empty_forest, new_volume, volume_with_entry, volume_without_entry}
use Rattle.tp_sharing.proofs.laws.changed_trees_are_volumes.Goals as goal

pub returns-clause-content : goal.returns-clause-content
returns-clause-content c = content_is_pairs

pub returns-clause-new : goal.returns-clause-new
returns-clause-new c = new_volume

pub returns-clause-with_entry : goal.returns-clause-with_entry
returns-clause-with_entry c = volume_with_entry

pub returns-clause-without_entry : goal.returns-clause-without_entry
returns-clause-without_entry c = volume_without_entry

pub returns-clause-empty : goal.returns-clause-empty
returns-clause-empty c = empty_forest
