use Rattle.std.proofs.Common.{◌∙◌, sym}
use Rattle.tp_model.specs.Calls.{Sized, VolumeBlocks}
use Rattle.tp_served.proofs.Answered.{blocks_stay, met_lent, start_taken}
use Rattle.tp_served.proofs.calls.volume_blocks_on.Goals as goal

pub begin-pool-requires : goal.begin-pool-requires
begin-pool-requires g c = start_taken c.args.lent.now.inside c.args.lent.now.there c.unwrap-inside.result g.K.Start.start (sym c.take.ensures.value ∙ c.unwrap-inside.ensures) c.requires

pub end-after-requires : goal.end-after-requires
end-after-requires g c =
    blocks_stay g.M.Metadata.geometry g.M.Metadata.stands g.M.Metadata.marks g.M.Metadata.room g.M.Metadata.changed g.met.M.Metadata.left
    c.args.lent.now.inside c.args.lent.now.there c.unwrap-inside.result c.begin-pool.result c.volume_blocks-answer.new.self g.K.Start.start (VolumeBlocks c.args.id) Sized c.volume_blocks-answer.result (sym c.take.ensures.value ∙ c.unwrap-inside.ensures) c.facts.ensures c.requires c.begin-pool.ensures c.volume_blocks-answer.ensures.told

pub returns-clause-told : goal.returns-clause-told
returns-clause-told g c =
    met_lent g.M.Metadata.geometry g.M.Metadata.stands g.M.Metadata.marks g.M.Metadata.room g.M.Metadata.changed g.met.M.Metadata.left
    c.args.lent.now.inside c.args.lent.now.there c.unwrap-inside.result c.end-after.result c.begin-pool.result c.volume_blocks-answer.new.self g.K.Start.start (VolumeBlocks c.args.id) Sized c.volume_blocks-answer.result
    (sym c.take.ensures.value ∙ c.unwrap-inside.ensures) c.facts.ensures c.facts-2.ensures.line c.requires c.begin-pool.ensures c.end-after.ensures.pool c.end-after.ensures.since c.volume_blocks-answer.ensures.told
