use borrow.Rule.Slice.PartMut.{put_mid}
use Rattle.std.proofs.Common.{◌-◌, refl, drop, length-drop, length-take-le, ◌∙◌, arith}
use Rattle.std.proofs.lemmas.Slice.{take-put_mid_below}
use Rattle.tp_model.proofs.Slices.{length-put_mid}
use Rattle.tp_hub.specs.declared.stream.Received.TheVariants.{Broken}
use Rattle.tp_lines.proofs.Bytes.{consumes_none, keeps_same}
use Rattle.tp_crowd.proofs.Framing.{read_more}
use Rattle.tp_crowd.proofs.Reading.{brings, nothing, read_nothing, took_more, took_none}
use Rattle.tp_crowd.proofs.sockets.read_frames.Goals as goal

pub loop-turn-init : goal.loop-turn-init
loop-turn-init g c =
    let stream = g.T.Read.remaining c.args.stream.now in
    (c.requires, refl, refl, consumes_none stream stream (keeps_same stream))

pub returns-in_default-clause-read : goal.returns-in_default-clause-read
returns-in_default-clause-read g c =
    let k = c.reach-end.result - c.loop-turn.at in
    let part = c.read_some-received.new.buffer in
    let last = c.read_some-received.result in
    let first = g.T.Read.remaining c.args.stream.now in
    let old = g.T.Read.remaining c.loop-turn.stream in
    let new = g.T.Read.remaining c.read_some-received.new.stream in
    let buffer = put_mid c.loop-turn.at k c.loop-turn.buffer part in
    brings first new buffer c.loop-turn.at last c.brought.result
    (took_none first old new c.loop-turn.buffer part c.loop-turn.at k (omega (arith, c.loop-turn.invariant.0)) c.loop-turn.invariant.3 (read_nothing last old new part c.in_default.not-Got c.read_some-received.ensures.read))
    (nothing last buffer c.in_default.not-Got) c.brought.ensures.none c.brought.ensures.some

pub returns-clause-read : goal.returns-clause-read
returns-clause-read g c =
    brings (g.T.Read.remaining c.args.stream.now) (g.T.Read.remaining c.loop-turn.stream) c.loop-turn.buffer c.loop-turn.at Broken c.brought-2.result c.loop-turn.invariant.3 refl c.brought-2.ensures.none c.brought-2.ensures.some

pub returns-then-has_ended-clause-read : goal.returns-then-has_ended-clause-read
returns-then-has_ended-clause-read g c =
    let k = c.reach-end.result - c.loop-turn.at in
    let part = c.read_some-received.new.buffer in
    took_more (g.T.Read.remaining c.args.stream.now) (g.T.Read.remaining c.loop-turn.stream) (g.T.Read.remaining c.read_some-received.new.stream) c.loop-turn.buffer part c.loop-turn.at k (omega (arith, c.loop-turn.invariant.0)) c.loop-turn.invariant.3
    c.in-Got.count (omega (arith, c.in-Got.ensures.some)) c.in-Got.ensures.read

pub returns-then-has_ended-clause-follows : goal.returns-then-has_ended-clause-follows
returns-then-has_ended-clause-follows g c =
    let k = c.reach-end.result - c.loop-turn.at in
    read_more c.args.frames.now c.loop-turn.frames c.pass_read-has_ended.new.self c.loop-turn.buffer (put_mid c.loop-turn.at k c.loop-turn.buffer c.read_some-received.new.buffer) c.loop-turn.at c.in-Got.count _
    (take-put_mid_below c.loop-turn.at k c.loop-turn.buffer c.read_some-received.new.buffer c.loop-turn.at (omega arith) (omega (arith, c.loop-turn.invariant.0))) c.loop-turn.invariant.2 (omega arith) c.pass_read-has_ended.ensures.passed

pub loop-turn-preserved : goal.loop-turn-preserved
loop-turn-preserved g c =
    let k = c.reach-end.result - c.loop-turn.at in
    let part = c.read_some-received.new.buffer in
    let len = length-put_mid c.loop-turn.buffer part c.loop-turn.at k (omega (arith, c.reach-end.ensures.within, c.reach-end.ensures.more))
    (c.read_some-received.ensures.len ∙ length-take-le k (drop c.loop-turn.at c.loop-turn.buffer) (omega (arith, length-drop c.loop-turn.at c.loop-turn.buffer, c.reach-end.ensures.within))) in (
      omega (arith, c.if-at-buffer.false),
      omega (arith, len, c.loop-turn.invariant.1),
      read_more c.args.frames.now c.loop-turn.frames c.pass_read-has_ended.new.self c.loop-turn.buffer (put_mid c.loop-turn.at k c.loop-turn.buffer part) c.loop-turn.at c.in-Got.count _
          (take-put_mid_below c.loop-turn.at k c.loop-turn.buffer part c.loop-turn.at (omega arith) (omega (arith, c.loop-turn.invariant.0))) c.loop-turn.invariant.2 (omega arith) c.pass_read-has_ended.ensures.passed,
      took_more (g.T.Read.remaining c.args.stream.now) (g.T.Read.remaining c.loop-turn.stream) (g.T.Read.remaining c.read_some-received.new.stream) c.loop-turn.buffer part c.loop-turn.at k (omega (arith, c.loop-turn.invariant.0)) c.loop-turn.invariant.3
          c.in-Got.count (omega (arith, c.in-Got.ensures.some)) c.in-Got.ensures.read,
    )
