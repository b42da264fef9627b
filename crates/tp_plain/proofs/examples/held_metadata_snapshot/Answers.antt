use Rattle.tp_plain.proofs.ExampleSteps.{reserves, reserved_line, writes_since, read_since, held_since, used_since, not_in_place, copy_is_left, releases, used_released}
use Rattle.tp_plain.proofs.examples.held_metadata_snapshot.Goals as goal

pub returns-clause-reserves : goal.returns-clause-reserves
returns-clause-reserves c = reserves

pub returns-clause-line : goal.returns-clause-line
returns-clause-line c = reserved_line

pub returns-clause-writes : goal.returns-clause-writes
returns-clause-writes c = writes_since

pub returns-clause-read : goal.returns-clause-read
returns-clause-read c = read_since

pub returns-clause-held : goal.returns-clause-held
returns-clause-held c = held_since

pub returns-clause-both_used : goal.returns-clause-both_used
returns-clause-both_used c = used_since

pub returns-clause-not_in_place : goal.returns-clause-not_in_place
returns-clause-not_in_place c = not_in_place

pub returns-clause-left : goal.returns-clause-left
returns-clause-left c = copy_is_left

pub returns-clause-releases : goal.returns-clause-releases
returns-clause-releases c = releases

pub returns-clause-one_used : goal.returns-clause-one_used
returns-clause-one_used c = used_released
