use Rattle.std.proofs.Common.{arith}
use Rattle.nbd_session.proofs.Serving.{behind_head}
use Rattle.nbd_session.proofs.answer.put_read_chunk_head.Goals as goal

pub returns-clause-reply : goal.returns-clause-reply
returns-clause-reply c =
    let r = c.args.request.now in
    behind_head r.cookie r.offset r.len c.args.out.now c.put_data_head.new.out _ (omega (arith, c.requires.room)) c.put_data_head.ensures.bytes (omega (arith, c.put_data_head.ensures.end))
