use Rattle.std.proofs.Common.{◌≡◌, ◌+◌, ◌*◌, ◌≤◌, length, min}
use Rattle.tp_counts.proofs.Touching.{free_to}
use Rattle.tp_counts.proofs.unused_in_run.Given as goal

abbrev pub invariant-loop-b : goal.invariant-loop-b
invariant-loop-b l = (1024 * l.fn.run ≤ l.b) × (l.b ≤ min (length l.counts) (1024 * l.fn.run + 1024)) × (l.unused ≡ free_to l.counts l.fn.run l.b)
