use Rattle.tp_plain.proofs.ExampleSteps.{no_metadata_room, now_read_only, enough_metadata_room}
use Rattle.tp_plain.proofs.examples.metadata_runs_out.Goals as goal

pub returns-clause-refused : goal.returns-clause-refused
returns-clause-refused c = no_metadata_room

pub returns-clause-line : goal.returns-clause-line
returns-clause-line c = now_read_only

pub returns-clause-enough : goal.returns-clause-enough
returns-clause-enough c = enough_metadata_room
