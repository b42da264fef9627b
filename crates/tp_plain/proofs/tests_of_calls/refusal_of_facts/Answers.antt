use Rattle.std.proofs.Common.{rules}
use Rattle.tp_plain.proofs.tests_of_calls.refusal_of_facts.Goals as goal

pub returns-after-current-facts : goal.returns-after-current-facts
returns-after-current-facts c = search rules
