use Rattle.std.proofs.Common.{◌≡◌, refl, sym, subst}
use Rattle.tp_model.specs.Calls.{HasCause}
use Rattle.tp_model.specs.Clauses.{PoolCall}
use Rattle.nbd_session.proofs.Advancing.{plain_call}
use Rattle.nbd_session.proofs.Turning.{talks_likewise}
use Rattle.tp_users.specs.First.{Counted, CountedCall, counted, outline_of_counted}
use Rattle.tp_users.proofs.first.converse.Goals as goal

pub returns-in-Ok-clause-talks : goal.returns-in-Ok-clause-talks
returns-in-Ok-clause-talks g c s shown =
    let view = g.V.Volumes.view in
    let laws = g.met.V.Volumes.laws in
    let talks = c.in-Ok.ensures.fed.talks in
    let w = talks_likewise view.outline (PoolCall view) outline_of_counted CountedCall (λ d (b : Counted). view.shows d b.pool × (b.failures ≡ view.failures d))
    (λ d b r. laws.shown d b.pool r.0)
    (λ d d' b call answer r h.
    let p = plain_call view laws d d' b.pool call answer r.0 h in
    (counted p.0 (view.failures d'), (p.1, subst (λ n. HasCause n answer (view.failures d')) (sym r.1) h.called.cause), (p.2, refl)))
    (counted s (view.failures c.args.pool.now)) (shown, refl) talks.2 in
    (w.0, (talks.0, talks.1, w.1), w.2.1)
