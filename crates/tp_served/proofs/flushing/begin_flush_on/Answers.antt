use Rattle.std.proofs.Common.{false, subst}
use Rattle.tp_pool.specs.Held.{Held}
use Rattle.tp_served.proofs.Parts.{Left, blocks_left, left_under}
use Rattle.tp_served.proofs.flushing.begin_flush_on.Goals as goal

pub end-after-requires : goal.end-after-requires
end-after-requires g c =
    let answer = c.begin_flush-answer.result in
    let q = c.begin_flush-answer.new.self in
    blocks_left g.M.Metadata.geometry g.M.Metadata.stands g.M.Metadata.marks g.M.Metadata.room g.M.Metadata.changed g.met.M.Metadata.left g.M.Metadata.tells g.M.Metadata.midway c.args.inside q c.facts.ensures false g.K.Start.start answer c.requires
    (subst (λ (h : Held g.row.M.Denot). Left g.M.Metadata.geometry g.M.Metadata.stands g.M.Metadata.marks g.M.Metadata.room g.M.Metadata.changed g.met.M.Metadata.left g.M.Metadata.tells g.M.Metadata.midway false h q answer) c.begin-pool.ensures c.begin_flush-answer.ensures)

pub returns : goal.returns
returns g c =
    let answer = c.begin_flush-answer.result in
    let q = c.begin_flush-answer.new.self in
    left_under g.M.Metadata.geometry g.M.Metadata.stands g.M.Metadata.marks g.M.Metadata.room g.M.Metadata.changed g.met.M.Metadata.left g.M.Metadata.tells g.M.Metadata.midway c.args.inside q c.facts.ensures c.end-after.result c.facts-2.ensures.line g.K.Start.start c.requires c.end-after.ensures.pool c.end-after.ensures.since false answer
    (subst (λ (h : Held g.row.M.Denot). Left g.M.Metadata.geometry g.M.Metadata.stands g.M.Metadata.marks g.M.Metadata.room g.M.Metadata.changed g.met.M.Metadata.left g.M.Metadata.tells g.M.Metadata.midway false h q answer) c.begin-pool.ensures c.begin_flush-answer.ensures)
