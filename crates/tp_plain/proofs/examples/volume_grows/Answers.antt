use Rattle.tp_plain.proofs.ExampleSteps.{grows, four_blocks, grown_read, grown_line, no_old_data, same_size_takes_none}
use Rattle.tp_plain.proofs.examples.volume_grows.Goals as goal

pub returns-clause-grown : goal.returns-clause-grown
returns-clause-grown c = grows

pub returns-clause-blocks : goal.returns-clause-blocks
returns-clause-blocks c = four_blocks

pub returns-clause-read : goal.returns-clause-read
returns-clause-read c = grown_read

pub returns-clause-line : goal.returns-clause-line
returns-clause-line c = grown_line

pub returns-clause-no_old_data : goal.returns-clause-no_old_data
returns-clause-no_old_data c = no_old_data

pub returns-clause-same_size : goal.returns-clause-same_size
returns-clause-same_size c = same_size_takes_none
