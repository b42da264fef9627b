use Rattle.std.proofs.Common.{ℕ, ◌-◌, ◌<◌, ◌≤◌, length, get_or}
use Rattle.tp_layout.specs.Node.{keys}
use Rattle.tp_nodes.proofs.lookup.rank_in.Given as goal

-- the keys before `low` are at most this one, those from `high` on are above it
abbrev pub invariant-loop-low : goal.invariant-loop-low
invariant-loop-low l = record {
  ordered : l.low ≤ l.high;
  within : l.high ≤ length l.entries;
  below : (k : ℕ) → k < l.low → get_or (keys l.entries) k 0 ≤ l.key;
  above : (k : ℕ) → l.high ≤ k → k < length l.entries → l.key < get_or (keys l.entries) k 0;
}

abbrev pub decreases-loop-low : goal.decreases-loop-low
decreases-loop-low l = l.high - l.low
