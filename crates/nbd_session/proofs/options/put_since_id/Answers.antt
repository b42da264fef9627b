use Rattle.std.proofs.Common.{◌∙◌, arith, take}
use Rattle.nbd_session.proofs.Naming.{name_short}
use Rattle.nbd_session.proofs.Telling.{id_told}
use Rattle.nbd_session.proofs.options.put_since_id.Goals as goal

pub put_since_reply-requires-clause-short : goal.put_since_reply-requires-clause-short
put_since_reply-requires-clause-short c =
    omega (arith, name_short c.args.since c.as_bytes-id.result.now (c.as_bytes-id.ensures.value ∙ c.format.ensures.text) c.requires.id)

pub put_since_reply-requires-clause-room : goal.put_since_reply-requires-clause-room
put_since_reply-requires-clause-room c =
    omega (arith, c.requires.room, name_short c.args.since c.as_bytes-id.result.now (c.as_bytes-id.ensures.value ∙ c.format.ensures.text) c.requires.id)

pub returns-clause-reply : goal.returns-clause-reply
returns-clause-reply c =
    id_told c.args.option c.args.code c.args.since c.as_bytes-id.result.now (take c.args.at c.args.out.now) (take c.put_since_reply.result c.put_since_reply.new.out)
    (c.as_bytes-id.ensures.value ∙ c.format.ensures.text) c.put_since_reply.ensures.bytes.front

pub returns-clause-end : goal.returns-clause-end
returns-clause-end c =
    omega (
      arith,
      c.put_since_reply.ensures.end,
      name_short c.args.since c.as_bytes-id.result.now (c.as_bytes-id.ensures.value ∙ c.format.ensures.text) c.requires.id,
    )
