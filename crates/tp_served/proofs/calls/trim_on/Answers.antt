use Rattle.std.proofs.Common.{◌+◌, ◌∙◌, ◌≡◌, ap, refl, sym}
use Rattle.tp_model.specs.Calls.{Done, Trim}
use Rattle.tp_pool.specs.Held.{Held}
use Rattle.tp_pool.proofs.Meeting.{met_same}
use Rattle.tp_served.specs.Served.{got}
use Rattle.tp_served.proofs.Answered.{blocks_same, ends_lent, met_lent, start_taken, taken, unwritten_under}
use Rattle.tp_served.proofs.calls.trim_on.Goals as goal

pub begin-pool-requires : goal.begin-pool-requires
begin-pool-requires g c = start_taken c.args.lent.now.inside c.args.lent.now.there c.unwrap-inside.result g.K.Start.start (sym c.take.ensures.value ∙ c.unwrap-inside.ensures) c.requires.now

pub end-after-requires : goal.end-after-requires
end-after-requires g c =
    blocks_same g.M.Metadata.geometry c.args.lent.now.inside c.args.lent.now.there c.unwrap-inside.result c.begin-pool.result c.trim-answer.new.self g.K.Start.start
    (sym c.take.ensures.value ∙ c.unwrap-inside.ensures) c.facts.ensures c.requires.now c.begin-pool.ensures c.trim-answer.ensures.geometry

pub returns-clause-met : goal.returns-clause-met
returns-clause-met g c =
    let before = c.begin-pool.result in
    let after = c.trim-answer.new.self in
    let said = c.trim-answer.ensures in
    let call = Trim c.args.id c.args.sector c.args.count c.args.fua in
    met_lent g.M.Metadata.geometry g.M.Metadata.stands g.M.Metadata.marks g.M.Metadata.room g.M.Metadata.changed g.met.M.Metadata.left
    c.args.lent.now.inside c.args.lent.now.there c.unwrap-inside.result c.end-after.result before after g.K.Start.start call (λ x. Done) c.trim-answer.result
    (sym c.take.ensures.value ∙ c.unwrap-inside.ensures) c.facts.ensures c.facts-2.ensures.line c.requires.now c.begin-pool.ensures c.end-after.ensures.pool c.end-after.ensures.since
    (met_same g.M.Metadata.geometry g.M.Metadata.stands g.M.Metadata.marks g.M.Metadata.room g.M.Metadata.changed before after call said.geometry
    c.trim-answer.result (λ answer. refl) (ap (λ (h : Held g.row.M.Denot). h.holders) said.held) said.called said.answered said.flushes)

pub returns-clause-read_only : goal.returns-clause-read_only
returns-clause-read_only g c =
    let lent = c.args.lent.now in
    let old = got lent.inside lent.there in
    let was = taken g.M.Metadata.geometry lent.inside lent.there c.unwrap-inside.result c.begin-pool.result (sym c.take.ensures.value ∙ c.unwrap-inside.ensures) c.facts.ensures c.begin-pool.ensures in
    let before = c.begin-pool.result in
    let after = c.trim-answer.new.self in
    let on_cache_writes : before.mode ≡ old.besides.mode = ap (λ (h : Held g.row.M.Denot). h.mode) was.1 in
    λ no_writes. unwritten_under g.M.Metadata.geometry g.M.Metadata.stands g.M.Metadata.marks g.M.Metadata.room g.M.Metadata.changed g.met.M.Metadata.left
    old c.end-after.result before after g.K.Start.start c.trim-answer.result
    was.0 c.facts-2.ensures.line c.requires.now was.1 c.end-after.ensures.pool c.end-after.ensures.since
    (c.trim-answer.ensures.read_only (λ writes. no_writes (sym on_cache_writes ∙ writes)))

pub trim-answer-requires-clause-range : goal.trim-answer-requires-clause-range
trim-answer-requires-clause-range g c =
    ends_lent g.M.Metadata.geometry g.M.Metadata.stands g.M.Metadata.marks g.M.Metadata.room g.M.Metadata.changed g.met.M.Metadata.left
    c.args.lent.now.inside c.args.lent.now.there c.unwrap-inside.result c.begin-pool.result c.args.id (c.args.sector + c.args.count) (sym c.take.ensures.value ∙ c.unwrap-inside.ensures) c.begin-pool.ensures c.requires.range
