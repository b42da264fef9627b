use Rattle.tp_plain.proofs.ExampleSteps.{across_need, across_step, across_read, across_line, across_volume_line}
use Rattle.tp_plain.proofs.examples.write_across_blocks.Goals as goal

pub returns-clause-need : goal.returns-clause-need
returns-clause-need c = across_need

pub returns-clause-written : goal.returns-clause-written
returns-clause-written c = across_step

pub returns-clause-read : goal.returns-clause-read
returns-clause-read c = across_read

pub returns-clause-line : goal.returns-clause-line
returns-clause-line c = across_line

pub returns-clause-volume_line : goal.returns-clause-volume_line
returns-clause-volume_line c = across_volume_line
