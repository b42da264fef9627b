use Rattle.std.proofs.Common.{◌≡◌, ◌<◌, ℕ, None, length}
use Rattle.std.specs.Prelude.{slice_index_or}
use Rattle.tp_meta.specs.Metadata.{home_of}
use Rattle.tp_meta.proofs.homes.homes_in.Given as goal

abbrev pub invariant-loop-i : goal.invariant-loop-i
invariant-loop-i l = record {
  sized : length l.homes ≡ length l.fn.homes;
  value : (i : ℕ) → i < l.i → slice_index_or l.homes i None ≡ home_of l.marks (slice_index_or l.places i None);
}
