use Rattle.std.proofs.Common.{◌≡◌, ℕ, ◌<◌, None}
use Rattle.tp_hub.specs.Serving.{LeaveTo, Serves, sessions_of, slot_at}
use Rattle.tp_hub.proofs.hub.leave_all.Given as goal

abbrev pub invariant-loop-i : goal.invariant-loop-i
invariant-loop-i g l =
    let view = g.V.Volumes.view in
    record {
      serves : Serves (view.outline l.pool) (view.more l.pool) l.sessions;
      gone : (n : ℕ) → n < l.i → slot_at l.sessions n ≡ None;
      leaves : LeaveTo view (sessions_of l.fn.sessions) l.fn.pool (sessions_of l.sessions) l.pool;
    }
