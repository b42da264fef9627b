use Rattle.std.proofs.Common.{length-drop, arith}
use Rattle.std.proofs.lemmas.List.{take_rest}
use Rattle.tp_crowd.proofs.Framing.{ends_all, ends_more, passed_all, passed_more}
use Rattle.tp_crowd.proofs.frames.Frames.pass.Goals as goal

pub loop-at-preserved : goal.loop-at-preserved
loop-at-preserved c =
    let rest = take_rest c.args.bytes.now c.loop-at.at in (
      omega (arith, c.take-at.ensures.most, length-drop c.loop-at.at c.args.bytes.now, c.loop-at.invariant.0),
      passed_more c.args.self.now c.loop-at.self c.take-at.new.self c.args.bytes.now _ c.loop-at.at c.take-at.result c.loop-at.invariant.1 rest c.take-at.ensures.passed,
      ends_more c.args.self.now c.loop-at.self c.take-at.new.self c.args.bytes.now _ c.loop-at.at c.take-at.result c.loop-at.invariant.1 rest c.loop-at.has_ended c.is_between-has_ended.result c.loop-at.invariant.2 c.is_between-has_ended.ensures c.take-at.ensures.ended,
    )

pub returns-clause-passed : goal.returns-clause-passed
returns-clause-passed c = passed_all c.args.self.now c.loop-at.self c.args.bytes.now c.loop-at.at (omega (arith, c.loop-at-test.false)) c.loop-at.invariant.1

pub returns-clause-ended : goal.returns-clause-ended
returns-clause-ended c = ends_all c.args.self.now c.loop-at.has_ended c.args.bytes.now c.loop-at.at (omega (arith, c.loop-at-test.false)) c.loop-at.invariant.2
