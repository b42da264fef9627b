use Rattle.std.proofs.Common.{arith}
use Rattle.tp_hub.specs.Serving.{sessions_of}
use Rattle.tp_hub.proofs.Idling.{idle_on, made_on, made_still}
use Rattle.tp_hub.proofs.Taking.{run_goes_on, run_stops}
use Rattle.tp_hub.proofs.hub.run_events.Goals as goal

pub returns-then-not-took-clause-runs : goal.returns-then-not-took-clause-runs
returns-then-not-took-clause-runs g c =
    let t = c.take_event-took in
    (run_stops g.V.Volumes.view (sessions_of c.args.sessions.now) c.args.pool.now c.loop-i.sessions t.new.sessions c.loop-i.pool t.new.pool c.args.events.now c.loop-i.i _ t.result.whole t.result.bytes c.args.out.now c.loop-i.out t.new.out
    c.loop-i-test.true c.if-not-took.true c.loop-i.invariant.runs t.ensures.takes).0

pub returns-then-not-took-clause-part : goal.returns-then-not-took-clause-part
returns-then-not-took-clause-part g c =
    let t = c.take_event-took in
    (run_stops g.V.Volumes.view (sessions_of c.args.sessions.now) c.args.pool.now c.loop-i.sessions t.new.sessions c.loop-i.pool t.new.pool c.args.events.now c.loop-i.i _ t.result.whole t.result.bytes c.args.out.now c.loop-i.out t.new.out
    c.loop-i-test.true c.if-not-took.true c.loop-i.invariant.runs t.ensures.takes).1

pub returns-then-not-took-clause-short : goal.returns-then-not-took-clause-short
returns-then-not-took-clause-short g c =
    let t = c.take_event-took in
    (run_stops g.V.Volumes.view (sessions_of c.args.sessions.now) c.args.pool.now c.loop-i.sessions t.new.sessions c.loop-i.pool t.new.pool c.args.events.now c.loop-i.i _ t.result.whole t.result.bytes c.args.out.now c.loop-i.out t.new.out
    c.loop-i-test.true c.if-not-took.true c.loop-i.invariant.runs t.ensures.takes).2

pub loop-i-preserved : goal.loop-i-preserved
loop-i-preserved g c =
    let t = c.take_event-took in
    record {
      runs = run_goes_on g.V.Volumes.view (sessions_of c.args.sessions.now) c.args.pool.now c.loop-i.sessions t.new.sessions c.loop-i.pool t.new.pool c.args.events.now c.loop-i.i _ t.result.whole t.result.bytes c.args.out.now c.loop-i.out t.new.out
          c.loop-i-test.true c.if-not-took.false c.loop-i.invariant.runs t.ensures.takes;
      serves = t.ensures.takes.serves;
      idle = idle_on c.args.events.now c.loop-i.i _ (sessions_of c.args.sessions.now) (sessions_of c.loop-i.sessions) (sessions_of t.new.sessions) c.loop-i-test.true c.loop-i.invariant.idle t.ensures.idle;
      made = made_on c.args.events.now c.loop-i.i _ t.result.whole (sessions_of c.loop-i.sessions) (sessions_of t.new.sessions) c.loop-i-test.true c.if-not-took.false c.loop-i.invariant.made t.ensures.idle t.ensures.made;
    }

pub returns-then-not-took-clause-idle : goal.returns-then-not-took-clause-idle
returns-then-not-took-clause-idle g c =
    let t = c.take_event-took in
    idle_on c.args.events.now c.loop-i.i _ (sessions_of c.args.sessions.now) (sessions_of c.loop-i.sessions) (sessions_of t.new.sessions) c.loop-i-test.true c.loop-i.invariant.idle t.ensures.idle

pub returns-then-not-took-clause-made : goal.returns-then-not-took-clause-made
returns-then-not-took-clause-made g c =
    let t = c.take_event-took in
    made_still c.args.events.now c.loop-i.i _ (sessions_of c.loop-i.sessions) (sessions_of t.new.sessions) c.loop-i-test.true c.loop-i.invariant.made t.ensures.idle

pub returns-clause-idle : goal.returns-clause-idle
returns-clause-idle g c = c.loop-i.invariant.idle

pub returns-clause-made : goal.returns-clause-made
returns-clause-made g c n later is all some = c.loop-i.invariant.made n later is all (omega (arith, some, c.loop-i-test.false))
