use Rattle.std.proofs.Common.{◌≡◌, [], Some, true, false}
use Rattle.nbd_session.specs.Session.{has_ended, is_at_work, left_in}
use Rattle.nbd_session.specs.Clauses.{IsReady}
use Rattle.tp_hub.specs.Told.{HasRoom}
use Rattle.tp_hub.specs.Places.{HearsAnywhere, KeepsServing}
use Rattle.tp_hub.proofs.slot.work_off.Given as goal

abbrev pub invariant-loop-out : goal.invariant-loop-out
invariant-loop-out g l =
    let view = g.V.Volumes.view in
    record {
      ready : IsReady l.session.phase (view.outline l.pool) (view.more l.pool);
      goes_on : has_ended l.session.phase ≡ false;
      room : is_at_work l.session.phase ≡ true → HasRoom l.out;
      hears : HearsAnywhere view l.fn.number l.fn.session l.fn.pool [] l.fn.out l.out l.session l.pool;
      keeps : KeepsServing view l.fn.number (Some l.fn.session) l.fn.pool (Some l.session) l.pool;
    }

abbrev pub decreases-loop-out : goal.decreases-loop-out
decreases-loop-out g l = left_in l.session.phase
