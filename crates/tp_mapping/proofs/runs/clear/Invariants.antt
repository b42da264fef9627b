use Rattle.std.proofs.Common.{◌≡◌, ◌<◌, ℕ, None, length}
use Rattle.std.specs.Prelude.{slice_index_or}
use Rattle.tp_mapping.proofs.runs.clear.Given as goal

abbrev pub invariant-loop-i : goal.invariant-loop-i
invariant-loop-i l = record {
  sized : length l.places ≡ length l.fn.places;
  none : (i : ℕ) → i < l.i → slice_index_or l.places i None ≡ None;
}
