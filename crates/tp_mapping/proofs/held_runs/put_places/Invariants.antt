use Rattle.std.proofs.Common.{◌≡◌, ◌<◌, ℕ, None, length}
use Rattle.std.specs.Prelude.{slice_index_or}
use Rattle.std.specs.Option.{option_map}
use Rattle.tp_mapping.specs.declared.mapped.Mapped.{Mapped}
use Rattle.tp_mapping.proofs.held_runs.put_places.Given as goal

abbrev pub invariant-loop-i : goal.invariant-loop-i
invariant-loop-i l = record {
  sized : length l.places ≡ length l.fn.places;
  value : (i : ℕ) → i < l.i → slice_index_or l.places i None ≡ option_map (λ (at : Mapped). at.place) (slice_index_or l.told i None);
}
