use Rattle.tp_tasks.proofs.Letters.{all_digits}
use Rattle.tp_tasks.proofs.creating.digits_of.Goals as goal

pub returns-in-None : goal.returns-in-None
returns-in-None c is = all_digits c.args.text.now c.args.letter is c.in-None.ensures.cases
