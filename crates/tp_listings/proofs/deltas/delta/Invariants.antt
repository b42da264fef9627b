use Rattle.std.proofs.Common.{◌≡◌, ◌≢◌, ◌-◌, ◌<◌, ◌≤◌}
use Rattle.std.specs.Prelude.{Ok}
use Rattle.tp_model.specs.Pool.{PlainPool, slot_at}
use Rattle.tp_model.specs.Calls.{volume_blocks}
use Rattle.tp_listings.specs.Listings.{AreRunsOf}
use Rattle.tp_listings.specs.Looks.{LooksOver, ShowsStill}
use Rattle.tp_listings.specs.Seeking.{Reads}
use Rattle.tp_listings.proofs.deltas.delta.Given as goal

-- the blocks before this one in which they differ are listed
abbrev pub invariant-loop-from : goal.invariant-loop-from
invariant-loop-from g l = record {
  looks : LooksOver g.V.Volumes.view l.fn.pool l.pool {A = Unit {0}} (Ok (tt {0}));
  still : ShowsStill g.V.Volumes.view l.fn.pool l.pool;
  most : l.from ≤ l.blocks;
  few : l.blocks ≤ 16777216;
  sized : (s : PlainPool) → g.V.Volumes.view.shows l.fn.pool s → l.blocks ≡ volume_blocks s l.fn.new;
  one : l.one.id ≡ l.fn.old;
  other : l.other.id ≡ l.fn.new;
  exact : (s : PlainPool) → g.V.Volumes.view.shows l.fn.pool s
      → Reads s l.fn.old l.from l.one.slots.items l.one.at × Reads s l.fn.new l.from l.other.slots.items l.other.at
      × AreRunsOf l.extents.items (λ block. (block < l.from) × (slot_at s l.fn.new block ≢ slot_at s l.fn.old block));
}

abbrev pub decreases-loop-from : goal.decreases-loop-from
decreases-loop-from g l = l.blocks - l.from
