use Rattle.std.proofs.Common.{ℕ, ◌≡◌, ◌<◌, ◌≤◌, Some}
use Rattle.std.specs.Prelude.{slice_get}
use Rattle.tp_layout.specs.declared.entry.Entry.{Entry}
use Rattle.tp_check.proofs.node.are_in_range.Given as goal

-- the values so far lie in the range
abbrev pub invariant-loop-i : goal.invariant-loop-i
invariant-loop-i l = (k : ℕ) (e : Entry) → k < l.i → slice_get l.node.entries k ≡ Some e → (l.from ≤ e.value) × (e.value < l.to)
