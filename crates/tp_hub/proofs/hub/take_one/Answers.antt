use Rattle.std.proofs.Common.{refl}
use Rattle.tp_hub.specs.Runs.{incoming}
use Rattle.tp_hub.specs.Serving.{HubState}
use Rattle.tp_hub.proofs.Desking.{asked_one, some_whole}
use Rattle.tp_hub.proofs.hub.take_one.Goals as goal

pub returns-clause-asked : goal.returns-clause-asked
returns-clause-asked g c =
    let t = c.take_event-took in
    let here : HubState _ = record { pool = c.args.pool.now; slots = c.args.sessions.now } in
    asked_one g.V.Volumes.view (incoming c.args.event.now) here here t.new.sessions t.new.pool t.result.whole t.result.bytes c.one_if-events.result c.args.out.now t.new.out refl c.one_if-events.ensures t.ensures.takes

pub returns-clause-idle : goal.returns-clause-idle
returns-clause-idle g c = c.take_event-took.ensures.idle

pub returns-clause-made : goal.returns-clause-made
returns-clause-made g c n apart is some =
    c.take_event-took.ensures.made n apart is (some_whole c.take_event-took.result.whole c.one_if-events.result c.one_if-events.ensures some)
