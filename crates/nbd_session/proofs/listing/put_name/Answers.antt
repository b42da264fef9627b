use Rattle.std.proofs.Common.{ap, ◌∙◌, arith, take}
use Rattle.std.specs.Fmt.{decimal}
use Rattle.nbd_session.proofs.Naming.{name_short, named_by}
use Rattle.nbd_session.proofs.listing.put_name.Goals as goal

pub put_server_reply-requires-clause-room : goal.put_server_reply-requires-clause-room
put_server_reply-requires-clause-room c =
    omega (
      arith,
      c.requires,
      name_short c.args.volume c.as_bytes-name.result.now (c.as_bytes-name.ensures.value ∙ (c.format.ensures.text ∙ ap decimal c.number.ensures.value)) c.number.ensures.below,
    )

pub returns-clause-reply : goal.returns-clause-reply
returns-clause-reply c =
    named_by c.args.volume c.as_bytes-name.result.now (take c.args.at c.args.out.now) (take c.put_server_reply.result c.put_server_reply.new.out)
    (c.as_bytes-name.ensures.value ∙ (c.format.ensures.text ∙ ap decimal c.number.ensures.value)) c.put_server_reply.ensures.bytes.front

pub returns-clause-end : goal.returns-clause-end
returns-clause-end c =
    omega (
      arith,
      c.put_server_reply.ensures.end,
      name_short c.args.volume c.as_bytes-name.result.now (c.as_bytes-name.ensures.value ∙ (c.format.ensures.text ∙ ap decimal c.number.ensures.value)) c.number.ensures.below,
    )
