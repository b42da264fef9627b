use Rattle.std.proofs.Common.{◌≡◌, ◌<◌, ℕ, None, length}
use Rattle.std.specs.Prelude.{slice_index_or}
use Rattle.tp_pool.specs.Reading.{copied_home}
use Rattle.tp_pool.proofs.reading.copied_homes.Given as goal

abbrev pub invariant-loop-i : goal.invariant-loop-i
invariant-loop-i l = record {
  sized : length l.homes ≡ length l.fn.homes;
  value : (i : ℕ) → i < l.i → slice_index_or l.homes i None ≡ copied_home (slice_index_or l.places i None);
}
