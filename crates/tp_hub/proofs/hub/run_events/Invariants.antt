use Rattle.std.proofs.Common.{take}
use Rattle.std.specs.Prelude.{map}
use Rattle.tp_model.specs.Clauses.{PoolCall}
use Rattle.tp_hub.specs.Runs.{Runs, incoming}
use Rattle.tp_hub.specs.Parts.{BringIdle, StayIdle}
use Rattle.tp_hub.specs.Serving.{Serves, sessions_of}
use Rattle.tp_hub.proofs.hub.run_events.Given as goal

abbrev pub invariant-loop-i : goal.invariant-loop-i
invariant-loop-i g l =
    let view = g.V.Volumes.view in
    record {
      runs : Runs view.outline (PoolCall view) (sessions_of l.initial.sessions) l.initial.pool (take l.i (map incoming l.events)) l.initial.out l.out (sessions_of l.sessions) l.pool;
      serves : Serves (view.outline l.pool) (view.more l.pool) l.sessions;
      idle : StayIdle (sessions_of l.initial.sessions) l.events (sessions_of l.sessions);
      made : BringIdle l.events l.i (sessions_of l.sessions);
    }
