use Rattle.std.proofs.Common.{◌≡◌, ◌/◌, ◌≤◌, ℕ, Bool, List, length}
use Rattle.tp_model.specs.Calls.{WriteZeroes}
use Rattle.tp_sharing.specs.Volumes.{Volumes}
use Rattle.tp_mapping.specs.Mapping.{IsWithin}
use Rattle.tp_shown.specs.Shown.{blocks_wanted_by}
use Rattle.tp_meta.specs.Metadata.{AreTold}
use Rattle.tp_pool.specs.Writing.{blocks_taken_by}
use Rattle.tp_pool.proofs.room.survey_zeroes.Given as goal

abbrev pub invariant-loop-i : goal.invariant-loop-i
invariant-loop-i l = record {
  few_wanted : l.wanted ≤ l.i;
  few_taken : l.taken ≤ l.i;
  told : (fua : Bool) (id : ℕ) (volumes : Volumes) (marks : List Bool) → IsWithin l.fn.geometry volumes → AreTold id (l.fn.sector / l.fn.geometry.block_sectors) volumes marks (length l.homes) l.homes
      → (l.wanted ≡ blocks_wanted_by l.fn.geometry (WriteZeroes id l.fn.sector l.fn.count l.no_hole fua) id volumes (l.fn.sector / l.fn.geometry.block_sectors) l.i)
      × (l.taken ≡ blocks_taken_by l.fn.geometry (WriteZeroes id l.fn.sector l.fn.count l.no_hole fua) id volumes marks (l.fn.sector / l.fn.geometry.block_sectors) l.i);
}
