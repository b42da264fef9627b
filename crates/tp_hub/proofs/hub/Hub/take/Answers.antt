use Rattle.std.proofs.Common.{subst}
use Rattle.tp_hub.specs.Desks.{IsAsked, RunsSo}
use Rattle.tp_hub.specs.Runs.{incoming}
use Rattle.tp_hub.specs.Serving.{HubState, sessions_of}
use Rattle.tp_hub.proofs.Idling.{idle_shown}
use Rattle.tp_hub.proofs.Tracing.{asked_goes}
use Rattle.tp_hub.proofs.hub.Hub.take.Goals as goal

pub invariant_of-self : goal.invariant_of-self
invariant_of-self g c = c.take_one.ensures.serves

pub take_one-requires-clause-serves : goal.take_one-requires-clause-serves
take_one-requires-clause-serves g c = c.self.invariant

pub returns-clause-asked : goal.returns-clause-asked
returns-clause-asked g c =
    let t = c.take_one in
    subst (λ (h : HubState _). IsAsked (λ took answers. RunsSo g.V.Volumes.view (sessions_of h.slots) h.pool took answers (sessions_of t.new.sessions) t.new.pool) (incoming c.args.event) t.result.events t.result.bytes c.args.out.now t.new.out) c.self.view_is t.ensures.asked

pub returns-clause-traced : goal.returns-clause-traced
returns-clause-traced g c =
    let t = c.take_one in
    asked_goes g.V.Volumes.view g.met.V.Volumes.laws (sessions_of c.args.self.now.slots) (sessions_of t.new.sessions) c.args.self.now.pool t.new.pool (incoming c.args.event) t.result.events t.result.bytes c.args.out.now t.new.out (returns-clause-asked g c)

pub returns-clause-idle : goal.returns-clause-idle
returns-clause-idle g c n apart idle = c.take_one.ensures.idle n apart (idle_shown _ c.args.self.now n c.self.view_is idle)

pub returns-clause-made : goal.returns-clause-made
returns-clause-made g c = c.take_one.ensures.made
