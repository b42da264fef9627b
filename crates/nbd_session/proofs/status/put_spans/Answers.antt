use Rattle.std.proofs.Common.{arith}
use Rattle.nbd_session.proofs.Spanning.{head_put}
use Rattle.nbd_session.proofs.status.put_spans.Goals as goal

pub loop-span-init : goal.loop-span-init
loop-span-init c =
    let part = c.args.part.now in
    record {
      whole = head_put part.is_last part.context c.args.cookie c.args.start c.args.spans.now c.args.out.now c.put_status_head-at.new.out c.put_status_head-at.result c.put_status_head-at.ensures.bytes;
      at_is = omega (arith, c.put_status_head-at.ensures.end);
      len = c.put_status_head-at.ensures.len;
      inside = omega arith;
    }
