use Rattle.std.proofs.Common.{◌≤◌, ◌*◌, ◌-◌}
use Rattle.std.specs.Prelude.{Ok}
use Rattle.std.specs.FinMap.{entries}
use Rattle.tp_model.specs.Pool.{PlainPool, volume_slots}
use Rattle.tp_listings.specs.Owned.{IsLooked}
use Rattle.tp_listings.proofs.Marking.{IsLeft}
use Rattle.tp_listings.proofs.owners.mark_volume.Given as goal

abbrev pub invariant-loop-from : goal.invariant-loop-from
invariant-loop-from g l = record {
  looked : IsLooked g.V.Volumes.view l.fn.pool l.pool {A = Unit {0}} (Ok (tt {0}));
  most : l.from ≤ 16777216;
  few : l.mapped ≤ 252 * l.from;
  left : (s : PlainPool) → g.V.Volumes.view.shows l.fn.pool s → IsLeft (entries (volume_slots s l.id)) l.mine l.from l.mapped l.fn.owners l.owners;
}

abbrev pub decreases-loop-from : goal.decreases-loop-from
decreases-loop-from g l = 16777216 - l.from
