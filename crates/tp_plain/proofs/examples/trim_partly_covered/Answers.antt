use Rattle.tp_plain.proofs.ExampleSteps.{trims, trimmed_volume_line}
use Rattle.tp_plain.proofs.examples.trim_partly_covered.Goals as goal

pub returns-clause-trimmed : goal.returns-clause-trimmed
returns-clause-trimmed c = trims

pub returns-clause-volume_line : goal.returns-clause-volume_line
returns-clause-volume_line c = trimmed_volume_line
