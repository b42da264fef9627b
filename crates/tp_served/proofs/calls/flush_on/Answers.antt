use Rattle.std.proofs.Common.{◌∙◌, ap, refl, sym}
use Rattle.tp_model.specs.Calls.{Done, Flush}
use Rattle.tp_pool.specs.Held.{Held}
use Rattle.tp_pool.proofs.Meeting.{met_same}
use Rattle.tp_served.proofs.Answered.{blocks_same, met_lent, start_taken}
use Rattle.tp_served.proofs.calls.flush_on.Goals as goal

pub begin-pool-requires : goal.begin-pool-requires
begin-pool-requires g c = start_taken c.args.lent.now.inside c.args.lent.now.there c.unwrap-inside.result g.K.Start.start (sym c.take.ensures.value ∙ c.unwrap-inside.ensures) c.requires

pub end-after-requires : goal.end-after-requires
end-after-requires g c =
    blocks_same g.M.Metadata.geometry c.args.lent.now.inside c.args.lent.now.there c.unwrap-inside.result c.begin-pool.result c.flush-answer.new.self g.K.Start.start
    (sym c.take.ensures.value ∙ c.unwrap-inside.ensures) c.facts.ensures c.requires c.begin-pool.ensures c.flush-answer.ensures.geometry

pub returns : goal.returns
returns g c =
    let before = c.begin-pool.result in
    let after = c.flush-answer.new.self in
    let said = c.flush-answer.ensures in
    met_lent g.M.Metadata.geometry g.M.Metadata.stands g.M.Metadata.marks g.M.Metadata.room g.M.Metadata.changed g.met.M.Metadata.left
    c.args.lent.now.inside c.args.lent.now.there c.unwrap-inside.result c.end-after.result before after g.K.Start.start Flush (λ x. Done) c.flush-answer.result
    (sym c.take.ensures.value ∙ c.unwrap-inside.ensures) c.facts.ensures c.facts-2.ensures.line c.requires c.begin-pool.ensures c.end-after.ensures.pool c.end-after.ensures.since
    (met_same g.M.Metadata.geometry g.M.Metadata.stands g.M.Metadata.marks g.M.Metadata.room g.M.Metadata.changed before after Flush said.geometry
    c.flush-answer.result (λ answer. refl) (ap (λ (h : Held g.row.M.Denot). h.holders) said.held) said.called said.answered said.flushes)
