use Rattle.std.proofs.Common.{◌≡◌}
use Rattle.tp_crowd.proofs.listening.serve_listener.Given as goal

-- The start is the hub that was given.
abbrev pub ghosts-serve_since : goal.ghosts-serve_since
ghosts-serve_since g a = record { is_start = λ hub. hub ≡ a.hub }
