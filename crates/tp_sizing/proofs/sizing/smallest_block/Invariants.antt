use Rattle.std.proofs.Common.{ℕ, ◌≤◌, ◌-◌}
use Rattle.tp_sizing.specs.Sizing.{IsAllowed, Suits}
use Rattle.tp_sizing.proofs.sizing.smallest_block.Given as goal

abbrev pub invariant-loop-smallest : goal.invariant-loop-smallest
invariant-loop-smallest l = IsAllowed l.wanted l.sectors × ((n : ℕ) → IsAllowed l.wanted n → Suits l.wanted n → l.sectors ≤ n)

abbrev pub decreases-loop-smallest : goal.decreases-loop-smallest
decreases-loop-smallest l = 2048 - l.sectors
