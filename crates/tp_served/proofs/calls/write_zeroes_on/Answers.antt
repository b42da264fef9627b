use Rattle.std.proofs.Common.{◌+◌, ◌∙◌, sym}
use Rattle.tp_model.specs.Calls.{Done, WriteZeroes}
use Rattle.tp_served.proofs.Answered.{blocks_stay, ends_lent, met_lent, start_taken}
use Rattle.tp_served.proofs.calls.write_zeroes_on.Goals as goal

pub begin-pool-requires : goal.begin-pool-requires
begin-pool-requires g c = start_taken c.args.lent.now.inside c.args.lent.now.there c.unwrap-inside.result g.K.Start.start (sym c.take.ensures.value ∙ c.unwrap-inside.ensures) c.requires.now

pub end-after-requires : goal.end-after-requires
end-after-requires g c =
    blocks_stay g.M.Metadata.geometry g.M.Metadata.stands g.M.Metadata.marks g.M.Metadata.room g.M.Metadata.changed g.met.M.Metadata.left
    c.args.lent.now.inside c.args.lent.now.there c.unwrap-inside.result c.begin-pool.result c.write_zeroes-answer.new.self g.K.Start.start (WriteZeroes c.args.id c.args.sector c.args.count c.args.no_hole c.args.fua) (λ x. Done) c.write_zeroes-answer.result (sym c.take.ensures.value ∙ c.unwrap-inside.ensures) c.facts.ensures c.requires.now c.begin-pool.ensures c.write_zeroes-answer.ensures

pub returns : goal.returns
returns g c =
    met_lent g.M.Metadata.geometry g.M.Metadata.stands g.M.Metadata.marks g.M.Metadata.room g.M.Metadata.changed g.met.M.Metadata.left
    c.args.lent.now.inside c.args.lent.now.there c.unwrap-inside.result c.end-after.result c.begin-pool.result c.write_zeroes-answer.new.self g.K.Start.start (WriteZeroes c.args.id c.args.sector c.args.count c.args.no_hole c.args.fua) (λ x. Done) c.write_zeroes-answer.result
    (sym c.take.ensures.value ∙ c.unwrap-inside.ensures) c.facts.ensures c.facts-2.ensures.line c.requires.now c.begin-pool.ensures c.end-after.ensures.pool c.end-after.ensures.since c.write_zeroes-answer.ensures

pub write_zeroes-answer-requires-clause-range : goal.write_zeroes-answer-requires-clause-range
write_zeroes-answer-requires-clause-range g c =
    ends_lent g.M.Metadata.geometry g.M.Metadata.stands g.M.Metadata.marks g.M.Metadata.room g.M.Metadata.changed g.met.M.Metadata.left
    c.args.lent.now.inside c.args.lent.now.there c.unwrap-inside.result c.begin-pool.result c.args.id (c.args.sector + c.args.count) (sym c.take.ensures.value ∙ c.unwrap-inside.ensures) c.begin-pool.ensures c.requires.range
