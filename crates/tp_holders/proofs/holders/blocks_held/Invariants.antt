use Rattle.std.proofs.Common.{◌≢◌, ℕ, ◌<◌}
use Rattle.tp_holders.proofs.Rows.{volume_at}
use Rattle.tp_holders.proofs.holders.blocks_held.Given as goal

abbrev pub invariant-loop-i : goal.invariant-loop-i
invariant-loop-i l = (j : ℕ) → j < l.i → volume_at l.holders j ≢ l.volume
