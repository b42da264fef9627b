use Rattle.std.proofs.Common.{◌≡◌, ℕ, ◌<◌, None, length, slice_get, slice_index_or}
use Rattle.tp_disk.proofs.memory.all_picks.Given as goal

abbrev pub invariant-loop-i : goal.invariant-loop-i
invariant-loop-i l = (length l.left.items ≡ l.i) × ((j : ℕ) → j < l.i → slice_index_or l.left.items j None ≡ slice_get l.picks j)
