use Rattle.tp_plain.proofs.ExampleSteps.{creates, thin_line, thin_volume_line, snaps_thin, snapped_line}
use Rattle.tp_plain.proofs.examples.create_and_snapshot_status.Goals as goal

pub returns-clause-created : goal.returns-clause-created
returns-clause-created c = creates

pub returns-clause-line : goal.returns-clause-line
returns-clause-line c = thin_line

pub returns-clause-volume_line : goal.returns-clause-volume_line
returns-clause-volume_line c = thin_volume_line

pub returns-clause-snapped : goal.returns-clause-snapped
returns-clause-snapped c = snaps_thin

pub returns-clause-same_line : goal.returns-clause-same_line
returns-clause-same_line c = snapped_line
