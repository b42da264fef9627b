use Rattle.std.proofs.Common.{◌≡◌, ◌+◌, ℕ, length, subst, sym}
use Rattle.nbd_wire.specs.declared.TheConstants.{OPTION_LIST}
use Rattle.nbd_wire.specs.declared.writing.ReplyType.TheVariants.{Server}
use Rattle.nbd_wire.specs.Replies.{Puts, option_reply_head, server_data}
use Rattle.nbd_wire.proofs.Puts.{length-server_data, puts_then}
use Rattle.nbd_wire.proofs.writing.put_server_reply.Goals as goal

pub returns-clause-bytes : goal.returns-clause-bytes
returns-clause-bytes c =
    let name = c.args.name.now in
    let long : 4 + length name ≡ length (server_data name) = sym (length-server_data name) in
    puts_then _ _ _ _ _ _ _ _
    (subst (λ (n : ℕ). Puts c.args.out.now c.args.at (option_reply_head OPTION_LIST Server n) c.put_option_reply_head-data.new.out c.put_option_reply_head-data.result) long c.put_option_reply_head-data.ensures.bytes)
    c.put_server_data.ensures.bytes
