use Rattle.std.proofs.Common.{◌∙◌, ap, subst, sym}
use Rattle.tp_served.specs.Served.{Cached, IsKnown, got, on_cache}
use Rattle.tp_served.proofs.Answered.{closed_by, settled_by}
use Rattle.tp_served.proofs.calls.close_on.Goals as goal

pub begin-pool-requires : goal.begin-pool-requires
begin-pool-requires g c = c.requires ∙ ap (λ (i : Cached g.row.M.Denot). i.cache) (sym c.into_inside-inside.ensures)

pub returns-clause-closed : goal.returns-clause-closed
returns-clause-closed g c =
    let same = c.into_inside-inside.ensures in
    let known = subst (λ (i : Cached g.row.M.Denot). IsKnown g.M.Metadata.geometry i) same c.facts.ensures in
    let begun = c.begin-pool.ensures ∙ ap (λ (i : Cached g.row.M.Denot). on_cache i) same in
    closed_by g.M.Metadata.geometry g.M.Metadata.stands g.M.Metadata.marks g.M.Metadata.room g.M.Metadata.changed g.met.M.Metadata.left
    (got c.args.lent.inside c.args.lent.there) c.begin-pool.result g.K.Start.start c.end-cache.result.core c.close-answer.result.1.cache.core.line.outer (g.D.Disk.state c.into_inner.result)
    known c.facts-2.ensures.line c.requires begun c.end-cache.ensures.since (ap (λ n. n.core.line.outer) (sym c.end-cache.ensures.cache)) (sym c.into_inner.ensures.state)
    c.close-answer.result.0 c.close-answer.ensures.closed

pub returns-clause-settled : goal.returns-clause-settled
returns-clause-settled g c =
    let same = c.into_inside-inside.ensures in
    let known = subst (λ (i : Cached g.row.M.Denot). IsKnown g.M.Metadata.geometry i) same c.facts.ensures in
    let begun = c.begin-pool.ensures ∙ ap (λ (i : Cached g.row.M.Denot). on_cache i) same in
    settled_by g.M.Metadata.geometry g.M.Metadata.stands g.M.Metadata.marks g.M.Metadata.room g.M.Metadata.changed g.met.M.Metadata.left
    (got c.args.lent.inside c.args.lent.there) c.begin-pool.result g.K.Start.start c.end-cache.result.core c.close-answer.result.1.cache.core.line.outer (g.D.Disk.state c.into_inner.result)
    known c.facts-2.ensures.line c.requires begun c.end-cache.ensures.since (ap (λ n. n.core.line.outer) (sym c.end-cache.ensures.cache)) (sym c.into_inner.ensures.state)
    c.close-answer.result.0 c.close-answer.ensures.settled
