use Rattle.std.proofs.Common.{arith, length-drop}
use Rattle.std.proofs.lemmas.List.{take_rest}
use Rattle.tp_hub.proofs.Streaming.{all_put, begun, put_failed, put_tired, wrote_some}
use Rattle.tp_hub.proofs.stream.write_out.Goals as goal

pub loop-turn-init : goal.loop-turn-init
loop-turn-init g c = record { within = omega arith; writing = begun _ _ }

pub loop-turn-preserved : goal.loop-turn-preserved
loop-turn-preserved g c =
    let told = g.S.Stream.calls in
    let b = rw take_rest at c.in-Some.ensures.bound in
    let w = rw take_rest at c.in-Some.ensures.calls in
    record {
      within = omega (arith, b, length-drop c.loop-turn.at c.args.bytes.now);
      writing = wrote_some _ (told c.loop-turn.stream) _ c.args.bytes.now c.loop-turn.at c.loop-turn.turn c.in-Some.count c.loop-turn.invariant.writing w;
    }

pub returns-then-at-bytes : goal.returns-then-at-bytes
returns-then-at-bytes g c = all_put _ _ c.args.bytes.now c.loop-turn.at c.loop-turn.turn c.loop-turn.invariant.writing (omega (arith, c.if-at-bytes.true))

pub returns-in-None : goal.returns-in-None
returns-in-None g c = put_failed _ (g.S.Stream.calls c.loop-turn.stream) _ c.args.bytes.now c.loop-turn.at c.loop-turn.turn c.loop-turn.invariant.writing c.in-None.ensures.calls

pub returns : goal.returns
returns g c = put_tired _ _ c.args.bytes.now c.loop-turn.at c.loop-turn.turn c.loop-turn.invariant.writing (omega (arith, c.loop-turn-test.false))
