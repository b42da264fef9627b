use Rattle.std.proofs.Common.{◌∙◌, ap, sym}
use Rattle.tp_holders.specs.Holders.{holds_of}
use Rattle.tp_msg.specs.Asked.{call_of}
use Rattle.tp_msg.proofs.Asking.{message_holds}
use Rattle.tp_pool.specs.Held.{Held}
use Rattle.tp_pool.proofs.Begun.{told_begun}
use Rattle.tp_served.specs.Served.{got}
use Rattle.tp_served.proofs.Answered.{begun_under, blocks_same, start_taken, taken}
use Rattle.tp_served.proofs.calls.change_on.Goals as goal

pub begin-pool-requires : goal.begin-pool-requires
begin-pool-requires g c = start_taken c.args.lent.now.inside c.args.lent.now.there c.unwrap-inside.result g.K.Start.start (sym c.take.ensures.value ∙ c.unwrap-inside.ensures) c.requires

pub end-after-requires : goal.end-after-requires
end-after-requires g c =
    blocks_same g.M.Metadata.geometry c.args.lent.now.inside c.args.lent.now.there c.unwrap-inside.result c.begin-pool.result c.change-answer.new.self g.K.Start.start
    (sym c.take.ensures.value ∙ c.unwrap-inside.ensures) c.facts.ensures c.requires c.begin-pool.ensures c.change-answer.ensures.geometry

pub returns : goal.returns
returns g c =
    let lent = c.args.lent.now in
    let old = got lent.inside lent.there in
    let was = taken g.M.Metadata.geometry lent.inside lent.there c.unwrap-inside.result c.begin-pool.result (sym c.take.ensures.value ∙ c.unwrap-inside.ensures) c.facts.ensures c.begin-pool.ensures in
    let before = c.begin-pool.result in
    let after = c.change-answer.new.self in
    let said = c.change-answer.ensures in
    let message = c.args.message.now in
    begun_under g.M.Metadata.geometry g.M.Metadata.stands g.M.Metadata.marks g.M.Metadata.room g.M.Metadata.changed g.met.M.Metadata.left
    old c.end-after.result before after g.K.Start.start message c.change-answer.result
    was.0 c.facts-2.ensures.line c.requires was.1 c.end-after.ensures.pool c.end-after.ensures.since
    (told_begun g.M.Metadata.geometry g.M.Metadata.stands g.M.Metadata.marks g.M.Metadata.room g.M.Metadata.changed before after (call_of message)
    (message_holds message (holds_of before.holders)) said.geometry (ap (λ (h : Held g.row.M.Denot). h.holders) said.held) c.change-answer.result said.begun)
