use Rattle.std.proofs.Common.{sym, ap, ◌∙◌, append-nil}
use Rattle.tp_hub.specs.Streams.{read_call}
use Rattle.tp_crowd.specs.Guests.{but_ends}
use Rattle.tp_crowd.proofs.Guests.{but_more}
use Rattle.tp_crowd.proofs.guest.read_unless.Goals as goal

pub returns-then-is_over-clause-told : goal.returns-then-is_over-clause-told
returns-then-is_over-clause-told g c = sym (append-nil (but_ends c.args.socket.now.log.calls))

pub returns-clause-told : goal.returns-clause-told
returns-clause-told g c = ap but_ends c.receive.ensures.calls ∙ but_more c.args.socket.now.log.calls (read_call c.receive.result c.receive.new.buffer.items)
