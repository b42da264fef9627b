use Rattle.std.proofs.Common.{sym, subst}
use Rattle.tp_cache.specs.Table as tables
use Rattle.tp_served.specs.Served.{Cached, on_cache}
use Rattle.tp_served.proofs.Parts.{blocks_flushed, flushed_under, goes_on, mid_flush}
use Rattle.tp_served.proofs.flushing.end_flush_on.Goals as goal

pub resume-pool-requires : goal.resume-pool-requires
resume-pool-requires g c = subst (λ (h : tables.Held). tables.Since h c.args.inside.cache) (sym c.requires.start) c.requires.midway.since

pub end-after-requires : goal.end-after-requires
end-after-requires g c =
    let old : Cached g.row.M.Denot = record { cache = c.args.past.now.held; besides = c.args.inside.besides } in
    let p = c.resume-pool.result in
    let q = c.end_flush-answer.new.self in
    blocks_flushed g.M.Metadata.geometry g.M.Metadata.stands g.M.Metadata.marks g.M.Metadata.room g.M.Metadata.changed g.met.M.Metadata.left g.M.Metadata.tells g.M.Metadata.midway old q c.requires.midway.known g.K.Start.start c.end_flush-answer.result c.requires.start
    (c.end_flush-answer.ensures (on_cache old) (goes_on g.M.Metadata.geometry g.M.Metadata.stands g.M.Metadata.marks g.M.Metadata.room g.M.Metadata.changed g.met.M.Metadata.left g.M.Metadata.tells g.M.Metadata.midway old c.args.inside c.args.is_named c.requires.midway p c.resume-pool.ensures)
    (mid_flush g.M.Metadata.geometry g.M.Metadata.stands g.M.Metadata.marks g.M.Metadata.room g.M.Metadata.changed g.met.M.Metadata.left g.M.Metadata.tells g.M.Metadata.midway old c.args.inside c.args.is_named c.requires.midway p c.resume-pool.ensures))

pub returns : goal.returns
returns g c =
    let old : Cached g.row.M.Denot = record { cache = c.args.past.now.held; besides = c.args.inside.besides } in
    let p = c.resume-pool.result in
    let q = c.end_flush-answer.new.self in
    flushed_under g.M.Metadata.geometry g.M.Metadata.stands g.M.Metadata.marks g.M.Metadata.room g.M.Metadata.changed g.met.M.Metadata.left g.M.Metadata.tells g.M.Metadata.midway old q c.requires.midway.known c.end-after.result c.facts.ensures.line g.K.Start.start c.requires.start c.end-after.ensures.pool c.end-after.ensures.since c.end_flush-answer.result
    (c.end_flush-answer.ensures (on_cache old) (goes_on g.M.Metadata.geometry g.M.Metadata.stands g.M.Metadata.marks g.M.Metadata.room g.M.Metadata.changed g.met.M.Metadata.left g.M.Metadata.tells g.M.Metadata.midway old c.args.inside c.args.is_named c.requires.midway p c.resume-pool.ensures)
    (mid_flush g.M.Metadata.geometry g.M.Metadata.stands g.M.Metadata.marks g.M.Metadata.room g.M.Metadata.changed g.met.M.Metadata.left g.M.Metadata.tells g.M.Metadata.midway old c.args.inside c.args.is_named c.requires.midway p c.resume-pool.ensures))
