use Rattle.tp_plain.proofs.ExampleSteps.{formatted_line}
use Rattle.tp_plain.proofs.examples.fresh_status.Goals as goal

pub returns : goal.returns
returns c = formatted_line
