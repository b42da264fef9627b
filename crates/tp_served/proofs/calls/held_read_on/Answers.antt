use Rattle.std.proofs.Common.{◌+◌, ◌/◌, ◌∙◌, ap, length, refl, sym}
use Rattle.tp_model.specs.Sectors.{sectors_of}
use Rattle.tp_model.specs.Pool.{copy_id}
use Rattle.tp_model.specs.Calls.{Gave, HeldRead}
use Rattle.tp_pool.specs.Held.{Held}
use Rattle.tp_served.proofs.Answered.{blocks_same, ends_lent, met_lent, met_told, start_taken}
use Rattle.tp_served.proofs.calls.held_read_on.Goals as goal

pub begin-pool-requires : goal.begin-pool-requires
begin-pool-requires g c = start_taken c.args.lent.now.inside c.args.lent.now.there c.unwrap-inside.result g.K.Start.start (sym c.take.ensures.value ∙ c.unwrap-inside.ensures) c.requires.now

pub end-after-requires : goal.end-after-requires
end-after-requires g c =
    blocks_same g.M.Metadata.geometry c.args.lent.now.inside c.args.lent.now.there c.unwrap-inside.result c.begin-pool.result c.held_read-answer.new.self g.K.Start.start
    (sym c.take.ensures.value ∙ c.unwrap-inside.ensures) c.facts.ensures c.requires.now c.begin-pool.ensures (ap (λ (h : Held g.row.M.Denot). g.M.Metadata.geometry h.metadata) c.held_read-answer.ensures.held)

pub returns-clause-met : goal.returns-clause-met
returns-clause-met g c =
    let before = c.begin-pool.result in
    let after = c.held_read-answer.new.self in
    let said = c.held_read-answer.ensures in
    let call = HeldRead c.args.id c.args.sector (length c.args.out.now / 512) in
    met_lent g.M.Metadata.geometry g.M.Metadata.stands g.M.Metadata.marks g.M.Metadata.room g.M.Metadata.changed g.met.M.Metadata.left
    c.args.lent.now.inside c.args.lent.now.there c.unwrap-inside.result c.end-after.result before after g.K.Start.start call (λ x. Gave (sectors_of c.held_read-answer.new.out)) c.held_read-answer.result
    (sym c.take.ensures.value ∙ c.unwrap-inside.ensures) c.facts.ensures c.facts-2.ensures.line c.requires.now c.begin-pool.ensures c.end-after.ensures.pool c.end-after.ensures.since
    (met_told g.M.Metadata.geometry g.M.Metadata.stands g.M.Metadata.marks g.M.Metadata.room g.M.Metadata.changed before after call (λ x. Gave (sectors_of c.held_read-answer.new.out)) (ap (λ (h : Held g.row.M.Denot). g.M.Metadata.geometry h.metadata) said.held) (λ x. refl)
    (λ answer. refl) (ap (λ (h : Held g.row.M.Denot). h.holders) said.held) c.held_read-answer.result said.called said.answered said.flushes)

pub held_read-answer-requires-clause-range : goal.held_read-answer-requires-clause-range
held_read-answer-requires-clause-range g c =
    ends_lent g.M.Metadata.geometry g.M.Metadata.stands g.M.Metadata.marks g.M.Metadata.room g.M.Metadata.changed g.met.M.Metadata.left
    c.args.lent.now.inside c.args.lent.now.there c.unwrap-inside.result c.begin-pool.result (copy_id c.args.id) (c.args.sector + length c.args.out.now / 512) (sym c.take.ensures.value ∙ c.unwrap-inside.ensures) c.begin-pool.ensures c.requires.range
