use Rattle.std.proofs.Common.{◌<◌, ◌∙◌, subst, sym}
use Rattle.tp_model.specs.Calls.{Done, Hold}
use Rattle.tp_pool.specs.Held.{Held}
use Rattle.tp_holders.specs.Holders.{holds_of}
use Rattle.tp_model.specs.Pool.{hold_total}
use Rattle.tp_served.proofs.Answered.{blocks_stay, met_lent, start_taken, taken}
use Rattle.tp_served.proofs.calls.hold_on.Goals as goal

pub begin-pool-requires : goal.begin-pool-requires
begin-pool-requires g c = start_taken c.args.lent.now.inside c.args.lent.now.there c.unwrap-inside.result g.K.Start.start (sym c.take.ensures.value ∙ c.unwrap-inside.ensures) c.requires.now

pub hold-answer-requires : goal.hold-answer-requires
hold-answer-requires g c =
    let lent = c.args.lent.now in
    let was = taken g.M.Metadata.geometry lent.inside lent.there c.unwrap-inside.result c.begin-pool.result (sym c.take.ensures.value ∙ c.unwrap-inside.ensures) c.facts.ensures c.begin-pool.ensures in
    subst (λ (h : Held g.row.M.Denot). hold_total (holds_of h.holders) < 128) (sym was.1) c.requires.few

pub end-after-requires : goal.end-after-requires
end-after-requires g c =
    blocks_stay g.M.Metadata.geometry g.M.Metadata.stands g.M.Metadata.marks g.M.Metadata.room g.M.Metadata.changed g.met.M.Metadata.left
    c.args.lent.now.inside c.args.lent.now.there c.unwrap-inside.result c.begin-pool.result c.hold-answer.new.self g.K.Start.start (Hold c.args.id) (λ x. Done) c.hold-answer.result (sym c.take.ensures.value ∙ c.unwrap-inside.ensures) c.facts.ensures c.requires.now c.begin-pool.ensures c.hold-answer.ensures

pub returns : goal.returns
returns g c =
    met_lent g.M.Metadata.geometry g.M.Metadata.stands g.M.Metadata.marks g.M.Metadata.room g.M.Metadata.changed g.met.M.Metadata.left
    c.args.lent.now.inside c.args.lent.now.there c.unwrap-inside.result c.end-after.result c.begin-pool.result c.hold-answer.new.self g.K.Start.start (Hold c.args.id) (λ x. Done) c.hold-answer.result
    (sym c.take.ensures.value ∙ c.unwrap-inside.ensures) c.facts.ensures c.facts-2.ensures.line c.requires.now c.begin-pool.ensures c.end-after.ensures.pool c.end-after.ensures.since c.hold-answer.ensures
