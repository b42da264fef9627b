use Rattle.tp_model.proofs.PoolStopLaws.{kept_is_left_since}
use Rattle.tp_model.proofs.Found.{MayReopen-nothing}
use Rattle.tp_model.proofs.laws.kept_answers_are_found.Goals as goal

pub returns : goal.returns
returns c start first e P k h = MayReopen-nothing e.made P (kept_is_left_since start first e P k h)
