use Rattle.tp_model.proofs.CopiesKept.{copy_is_kept}
use Rattle.tp_model.proofs.laws.copies_are_as_kept.Goals as goal

pub returns : goal.returns
returns c = copy_is_kept
