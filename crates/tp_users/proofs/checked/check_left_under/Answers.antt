use Rattle.tp_users.proofs.Stopped.{clean_told}
use Rattle.tp_users.proofs.checked.check_left_under.Goals as goal

pub returns-clause-answers : goal.returns-clause-answers
returns-clause-answers g c = λ honest left. clean_told _ c.check.ensures.accepted honest (c.stops_under_caches_leave_clean_images.ensures _ left)
