use Rattle.std.proofs.Common.{◌∙◌}
use Rattle.tp_plain.proofs.Testing.{refusal_by-true}
use Rattle.tp_plain.proofs.tests_of_calls.refusal_of.Goals as goal

pub returns : goal.returns
returns c p id call asks facts = c.refusal_of_facts.ensures ∙ refusal_by-true c.args.facts.now c.args.asked p id call asks facts
