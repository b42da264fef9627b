use Rattle.std.proofs.Common.{◌≡◌, ◌≤◌, ◌-◌, Some, false, length, take}
use Rattle.nbd_session.specs.Session.{has_ended, is_at_work}
use Rattle.nbd_session.specs.Clauses.{IsReady}
use Rattle.tp_hub.specs.Places.{HearsAnywhere, KeepsServing}
use Rattle.tp_hub.proofs.slot.hear.Given as goal

abbrev pub invariant-loop-at : goal.invariant-loop-at
invariant-loop-at g l =
    let view = g.V.Volumes.view in
    record {
      in_range : l.at ≤ length l.piece;
      ready : IsReady l.session.phase (view.outline l.pool) (view.more l.pool);
      goes_on : has_ended l.session.phase ≡ false;
      idle : is_at_work l.session.phase ≡ false;
      hears : HearsAnywhere view l.fn.number l.fn.session l.fn.pool (take l.at l.piece) l.fn.out l.out l.session l.pool;
      keeps : KeepsServing view l.fn.number (Some l.fn.session) l.fn.pool (Some l.session) l.pool;
    }

abbrev pub decreases-loop-at : goal.decreases-loop-at
decreases-loop-at g l = length l.piece - l.at
