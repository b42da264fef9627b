use Rattle.std.proofs.Common.{arith}
use Rattle.nbd_session.proofs.Holing.{sum_all, sum_more}
use Rattle.nbd_session.proofs.holes.contents_len.Goals as goal

pub loop-span-init : goal.loop-span-init
loop-span-init c = record { whole = omega arith; most = omega arith; inside = omega arith }

pub loop-span-preserved : goal.loop-span-preserved
loop-span-preserved c =
    let l = c.loop-span in
    record {
      whole = sum_more l.span-index _ c.args.spans.now l.sum c.content_len-sum.result _ c.loop-span-test.true c.content_len-sum.ensures.value l.invariant.whole;
      most = omega (arith, l.invariant.most, c.content_len-sum.ensures.most);
      inside = omega (arith, c.loop-span-test.true);
    }

pub returns : goal.returns
returns c = sum_all c.loop-span.span-index c.args.spans.now c.loop-span.sum _ (omega (arith, c.loop-span-test.false)) c.loop-span.invariant.whole
