use Rattle.std.proofs.Common.{◌∙◌, Ok, refl, sym, take}
use Rattle.tp_model.specs.Calls.{Line, Status}
use Rattle.tp_served.proofs.Answered.{blocks_same, met_lent, met_told, start_taken}
use Rattle.tp_served.proofs.calls.status_on.Goals as goal

pub begin-pool-requires : goal.begin-pool-requires
begin-pool-requires g c = start_taken c.args.lent.now.inside c.args.lent.now.there c.unwrap-inside.result g.K.Start.start (sym c.take.ensures.value ∙ c.unwrap-inside.ensures) c.requires

pub end-after-requires : goal.end-after-requires
end-after-requires g c =
    blocks_same g.M.Metadata.geometry c.args.lent.now.inside c.args.lent.now.there c.unwrap-inside.result c.begin-pool.result c.begin-pool.result g.K.Start.start
    (sym c.take.ensures.value ∙ c.unwrap-inside.ensures) c.facts.ensures c.requires c.begin-pool.ensures refl

pub returns-clause-met : goal.returns-clause-met
returns-clause-met g c =
    let pool = c.begin-pool.result in
    let said = c.status-length.ensures in
    met_lent g.M.Metadata.geometry g.M.Metadata.stands g.M.Metadata.marks g.M.Metadata.room g.M.Metadata.changed g.met.M.Metadata.left
    c.args.lent.now.inside c.args.lent.now.there c.unwrap-inside.result c.end-after.result pool pool g.K.Start.start Status (λ n. Line (take n c.status-length.new.out)) (Ok c.status-length.result)
    (sym c.take.ensures.value ∙ c.unwrap-inside.ensures) c.facts.ensures c.facts-2.ensures.line c.requires c.begin-pool.ensures c.end-after.ensures.pool c.end-after.ensures.since
    (met_told g.M.Metadata.geometry g.M.Metadata.stands g.M.Metadata.marks g.M.Metadata.room g.M.Metadata.changed pool pool Status (λ n. Line (take n c.status-length.new.out)) refl (λ n. refl)
    (λ answer. refl) refl (Ok c.status-length.result) said.called said.answered said.flushes)
