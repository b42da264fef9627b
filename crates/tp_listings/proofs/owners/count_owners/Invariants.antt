use Rattle.std.proofs.Common.{◌≡◌, ◌<◌, ◌+◌, ◌==◌, ℕ, length}
use Rattle.std.specs.Prelude.{slice_index}
use Rattle.std.specs.List.{count_by, range_with_len}
use Rattle.tp_listings.specs.Owned.{usage_at}
use Rattle.tp_listings.proofs.owners.count_owners.Given as goal

-- the data blocks so far are counted
abbrev pub invariant-loop-i : goal.invariant-loop-i
invariant-loop-i l = (j : ℕ) → j < length l.fn.usages → usage_at l.usages j ≡ record (usage_at l.fn.usages j) { exclusive = count_by (λ place. slice_index l.owners place == j + 2) (range_with_len 0 l.i) }
