use Rattle.std.proofs.Common.{ℕ, ◌≡◌, ◌+◌, ◌-◌, ◌<◌, ◌≤◌, None, Some, length}
use Rattle.std.specs.Prelude.{slice_index_or}
use Rattle.tp_pool.specs.Reading.{place_for}
use Rattle.tp_pool.proofs.together.run_of.Given as goal

abbrev pub invariant-loop-run : goal.invariant-loop-run
invariant-loop-run l = record {
  some : 0 < l.run;
  most : l.index + l.run ≤ length l.homes;
  run_is : (i : ℕ) → i < l.run → place_for l.purpose (slice_index_or l.homes (l.index + i) None) ≡ Some (l.place + i);
}

abbrev pub decreases-loop-run : goal.decreases-loop-run
decreases-loop-run l = length l.homes - l.run
