use Rattle.std.proofs.Common.{ap}
use Rattle.tp_holders.specs.Holders.{holds_of}
use Rattle.tp_msg.specs.Asked.{call_of}
use Rattle.tp_msg.proofs.Asking.{message_holds}
use Rattle.tp_pool.specs.Held.{Held}
use Rattle.tp_pool.proofs.Begun.{told_begun}
use Rattle.tp_pool.proofs.managed.PoolManaged.change.Goals as goal

pub returns : goal.returns
returns g c =
    told_begun g.M.Metadata.geometry g.M.Metadata.stands g.M.Metadata.marks g.M.Metadata.room g.M.Metadata.changed c.args.self.now c.change.new.self (call_of c.args.message.now)
    (message_holds c.args.message.now (holds_of c.args.self.now.holders)) c.change.ensures.geometry (ap (λ (h : Held g.row.M.Denot). h.holders) c.change.ensures.held) c.change.result c.change.ensures.begun
