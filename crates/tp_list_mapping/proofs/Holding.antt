-- The size that a list's device tells stands for no more blocks than a device may have.
use Rattle.std.proofs.Common.{ℕ, ◌≤◌, ◌==◌, Bool, true, false}
use Rattle.std.specs.Prelude.{if◌then◌else◌}
use Rattle.tp_model.specs.Geometry.{Geometry}
use Rattle.tp_model.specs.Told.{told_blocks}
use Rattle.tp_mapping.specs.Mapping.{size_for}
use Rattle.tp_mapping.proofs.Holding.{if_most}

pub for_most : (g : Geometry) (blocks most : ℕ) → g.virtual_blocks ≤ most → blocks ≤ most → told_blocks g (size_for g blocks) ≤ most
for_most g blocks most own le = go (blocks == g.virtual_blocks) where
  go : (b : Bool) → told_blocks g (if b then 0 else blocks) ≤ most
  go true = own
  go false = if_most (blocks == 0) g.virtual_blocks blocks most own le
