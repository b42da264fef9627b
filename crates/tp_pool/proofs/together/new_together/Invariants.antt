use Rattle.std.proofs.Common.{ℕ, ◌≡◌, ◌⊎◌, ◌+◌, ◌-◌, ◌<◌, ◌≤◌, None, length}
use Rattle.std.specs.Prelude.{slice_index_or}
use Rattle.tp_pool.specs.Writing.{own_place}
use Rattle.tp_pool.proofs.together.new_together.Given as goal

abbrev pub invariant-loop-run : goal.invariant-loop-run
invariant-loop-run l = record {
  some : 0 < l.run;
  most : l.index + l.run ≤ length l.homes;
  whole : (l.run ≡ 1) ⊎ (l.index + l.run ≤ l.end);
  new : (i : ℕ) → i < l.run → own_place (slice_index_or l.homes (l.index + i) None) ≡ None;
}

abbrev pub decreases-loop-run : goal.decreases-loop-run
decreases-loop-run l = l.end - l.run
