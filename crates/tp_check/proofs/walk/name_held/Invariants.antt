use Rattle.std.proofs.Common.{ℕ, ◌≡◌}
use Rattle.std.specs.Prelude.{if◌then◌else◌, nat_lt, slice_index}
use Rattle.tp_check.proofs.walk.name_held.Given as goal

-- the blocks so far are named, and no others
abbrev pub invariant-loop-place : goal.invariant-loop-place
invariant-loop-place l = (b : ℕ) → slice_index l.names b ≡ (if nat_lt b l.place then 1 else 0)
