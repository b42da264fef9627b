use Rattle.std.proofs.Common.{◌≡◌, ◌-◌, ◌<◌, ◌≤◌, IsSome}
use Rattle.std.specs.Prelude.{Ok}
use Rattle.tp_model.specs.Pool.{PlainPool, slot_at}
use Rattle.tp_listings.specs.Listings.{AreRunsOf}
use Rattle.tp_listings.specs.Looks.{LooksOver, ShowsStill}
use Rattle.tp_listings.specs.Seeking.{Reads}
use Rattle.tp_listings.proofs.maps.map.Given as goal

-- the mapped blocks before this one are listed
abbrev pub invariant-loop-from : goal.invariant-loop-from
invariant-loop-from g l = record {
  looks : LooksOver g.V.Volumes.view l.fn.pool l.pool {A = Unit {0}} (Ok (tt {0}));
  still : ShowsStill g.V.Volumes.view l.fn.pool l.pool;
  most : l.from ≤ 16777216;
  id : l.volume.id ≡ l.fn.id;
  exact : (s : PlainPool) → g.V.Volumes.view.shows l.fn.pool s
      → Reads s l.fn.id l.from l.volume.slots.items l.volume.at × AreRunsOf l.extents.items (λ block. (block < l.from) × IsSome (slot_at s l.fn.id block));
}

abbrev pub decreases-loop-from : goal.decreases-loop-from
decreases-loop-from g l = 16777216 - l.from
