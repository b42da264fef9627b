use Rattle.tp_sizing.proofs.Determined.{one_answer}
use Rattle.tp_sizing.proofs.Fitting.{few_fit, three_fit}
use Rattle.tp_sizing.proofs.laws.sizes_are_determined.Goals as goal

pub returns-clause-answer : goal.returns-clause-answer
returns-clause-answer c = one_answer

pub returns-clause-fit : goal.returns-clause-fit
returns-clause-fit c = λ w fit much. (three_fit w much.2.0 fit much.2.1 much.2.3, few_fit w much.2.0 fit much.2.1 much.2.3)
