use Rattle.std.proofs.Common.{◌≡◌, ◌-◌, ◌≤◌}
use Rattle.tp_model.specs.Clauses.{PoolCall}
use Rattle.nbd_session.specs.Session.{Passes}
use Rattle.nbd_session.proofs.clones.snapshot.Given as goal

-- volumes have the ids up to here
abbrev pub invariant-loop-passed : goal.invariant-loop-passed
invariant-loop-passed g l =
    let p = g.V.Volumes in
    record {
      most : l.passed ≤ 63;
      passes : Passes p.view.outline (PoolCall p.view) l.fn.origin 8388608 l.passed l.fn.pool l.pool;
      holds : (p.view.outline l.pool).holds ≡ (p.view.outline l.fn.pool).holds;
    }

abbrev pub decreases-loop-passed : goal.decreases-loop-passed
decreases-loop-passed g l = 63 - l.passed
