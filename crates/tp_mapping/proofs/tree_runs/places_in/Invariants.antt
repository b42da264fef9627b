use Rattle.std.proofs.Common.{◌≡◌, ◌<◌, ℕ, None, length}
use Rattle.std.specs.Prelude.{slice_index_or}
use Rattle.tp_mapping.specs.Mapping.{AreInside}
use Rattle.tp_mapping.specs.Telling.{IsMappedOf}
use Rattle.tp_mapping.proofs.tree_runs.places_in.Given as goal

abbrev pub invariant-loop-i : goal.invariant-loop-i
invariant-loop-i l = record {
  sized : length l.places ≡ length l.fn.places;
  value : (i : ℕ) → i < l.i → IsMappedOf l.is_shared (slice_index_or l.found i None) (slice_index_or l.places i None);
  inside : AreInside l.tm.geometry.data_blocks l.i l.places;
}
