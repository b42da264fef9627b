use Rattle.std.proofs.Common.{drop, take, arith}
use Rattle.nbd_session.specs.Spans.{as_pairs}
use Rattle.nbd_session.proofs.Holing.{in_chunks_is, in_one_is}
use Rattle.nbd_session.proofs.holes.put_shorter.Goals as goal

pub returns-then-bytes-len-clause-text : goal.returns-then-bytes-len-clause-text
returns-then-bytes-len-clause-text c =
    let r = c.args.request.now in
    in_chunks_is r (as_pairs c.args.spans.now) (take r.len (drop 28 c.args.out.now)) _ (omega (arith, c.contents_len-bytes.ensures, c.if-bytes-len.true)) c.put_chunks.ensures.text

pub returns-else-bytes-len-clause-text : goal.returns-else-bytes-len-clause-text
returns-else-bytes-len-clause-text c =
    let r = c.args.request.now in
    in_one_is r (as_pairs c.args.spans.now) (take r.len (drop 28 c.args.out.now)) _ (omega (arith, c.contents_len-bytes.ensures, c.if-bytes-len.false)) c.put_read_chunk_head.ensures.reply
