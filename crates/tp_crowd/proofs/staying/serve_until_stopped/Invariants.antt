use Rattle.std.proofs.Common.{◌≡◌}
use Rattle.tp_crowd.proofs.staying.serve_until_stopped.Given as goal

-- The start is the hub that was given.
abbrev pub ghosts-stay_since : goal.ghosts-stay_since
ghosts-stay_since g a = record { is_start = λ hub. hub ≡ a.hub }
