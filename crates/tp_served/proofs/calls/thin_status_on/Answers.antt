use Rattle.std.proofs.Common.{◌∙◌, ap, refl, sym, take}
use Rattle.tp_model.specs.Calls.{Line, ThinStatus}
use Rattle.tp_pool.specs.Held.{Held}
use Rattle.tp_served.proofs.Answered.{blocks_same, met_lent, met_told, start_taken}
use Rattle.tp_served.proofs.calls.thin_status_on.Goals as goal

pub begin-pool-requires : goal.begin-pool-requires
begin-pool-requires g c = start_taken c.args.lent.now.inside c.args.lent.now.there c.unwrap-inside.result g.K.Start.start (sym c.take.ensures.value ∙ c.unwrap-inside.ensures) c.requires

pub end-after-requires : goal.end-after-requires
end-after-requires g c =
    blocks_same g.M.Metadata.geometry c.args.lent.now.inside c.args.lent.now.there c.unwrap-inside.result c.begin-pool.result c.thin_status-answer.new.self g.K.Start.start
    (sym c.take.ensures.value ∙ c.unwrap-inside.ensures) c.facts.ensures c.requires c.begin-pool.ensures (ap (λ (h : Held g.row.M.Denot). g.M.Metadata.geometry h.metadata) c.thin_status-answer.ensures.held)

pub returns-clause-met : goal.returns-clause-met
returns-clause-met g c =
    let before = c.begin-pool.result in
    let after = c.thin_status-answer.new.self in
    let said = c.thin_status-answer.ensures in
    met_lent g.M.Metadata.geometry g.M.Metadata.stands g.M.Metadata.marks g.M.Metadata.room g.M.Metadata.changed g.met.M.Metadata.left
    c.args.lent.now.inside c.args.lent.now.there c.unwrap-inside.result c.end-after.result before after g.K.Start.start (ThinStatus c.args.id) (λ n. Line (take n c.thin_status-answer.new.out)) c.thin_status-answer.result
    (sym c.take.ensures.value ∙ c.unwrap-inside.ensures) c.facts.ensures c.facts-2.ensures.line c.requires c.begin-pool.ensures c.end-after.ensures.pool c.end-after.ensures.since
    (met_told g.M.Metadata.geometry g.M.Metadata.stands g.M.Metadata.marks g.M.Metadata.room g.M.Metadata.changed before after (ThinStatus c.args.id) (λ n. Line (take n c.thin_status-answer.new.out)) (ap (λ (h : Held g.row.M.Denot). g.M.Metadata.geometry h.metadata) said.held) (λ n. refl)
    (λ answer. refl) (ap (λ (h : Held g.row.M.Denot). h.holders) said.held) c.thin_status-answer.result said.called said.answered said.flushes)
