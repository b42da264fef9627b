use Rattle.std.proofs.Common.{ℕ, ◌+◌, ◌-◌, ◌<◌, ◌≤◌, length, get_or}
use Rattle.tp_counts.proofs.least_free.Given as goal

-- none so far is free
abbrev pub invariant-loop-b : goal.invariant-loop-b
invariant-loop-b l = (k : ℕ) → l.from ≤ k → k < l.b → k < length l.now → 0 < get_or l.now k 0 + get_or l.kept k 0

abbrev pub decreases-loop-b : goal.decreases-loop-b
decreases-loop-b l = length l.now - l.b
