use Rattle.std.proofs.Common.{rules}
use Rattle.tp_hub.specs.Serving.{sessions_of}
use Rattle.tp_hub.proofs.Idling.{stay_shown}
use Rattle.tp_hub.proofs.Tracing.{hub_run_goes}
use Rattle.tp_hub.proofs.hub.Hub.run.Goals as goal

pub returns-clause-traced : goal.returns-clause-traced
returns-clause-traced g c = hub_run_goes g.V.Volumes.view g.met.V.Volumes.laws _ c.args.self.now _ c.run_events.new.pool _ c.args.out.now c.run_events.new.out c.self.view_is c.run_events.ensures.runs

pub returns-clause-runs : goal.returns-clause-runs
returns-clause-runs g c = search rules

pub run_events-requires-clause-serves : goal.run_events-requires-clause-serves
run_events-requires-clause-serves g c = c.self.invariant

pub returns-clause-idle : goal.returns-clause-idle
returns-clause-idle g c = stay_shown _ c.args.self.now c.args.events.now (sessions_of c.run_events.new.sessions) c.self.view_is c.run_events.ensures.idle

pub returns-clause-made : goal.returns-clause-made
returns-clause-made g c = c.run_events.ensures.made
