use Rattle.std.proofs.Common.{◌≡◌, ◌≤◌, ℕ, Bool, List, length}
use Rattle.tp_model.specs.Geometry.{Geometry}
use Rattle.tp_sharing.specs.Volumes.{Volumes}
use Rattle.tp_mapping.specs.Mapping.{IsWithin}
use Rattle.tp_shown.specs.Shown.{blocks_wanted}
use Rattle.tp_meta.specs.Metadata.{AreTold}
use Rattle.tp_pool.specs.Writing.{blocks_taken}
use Rattle.tp_pool.proofs.room.survey.Given as goal

abbrev pub invariant-loop-i : goal.invariant-loop-i
invariant-loop-i l = record {
  few_wanted : l.wanted ≤ l.i;
  few_taken : l.taken ≤ l.i;
  told : (g : Geometry) (id first : ℕ) (volumes : Volumes) (marks : List Bool) → IsWithin g volumes → AreTold id first volumes marks (length l.homes) l.homes
      → (l.wanted ≡ blocks_wanted id volumes first l.i) × (l.taken ≡ blocks_taken id volumes marks first l.i);
}
