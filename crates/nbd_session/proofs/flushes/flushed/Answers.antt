use Rattle.std.proofs.Common.{◌≡◌, ◌∙◌, [], ap, subst, sym, take}
use Rattle.std.proofs.lemmas.Option.{IfSome_then}
use Rattle.tp_model.specs.Clauses.{PoolCall}
use Rattle.nbd_session.specs.declared.phase.Course.{Course}
use Rattle.nbd_session.specs.declared.phase.Course.TheVariants.{Works}
use Rattle.nbd_session.specs.declared.phase.Phase.{Phase}
use Rattle.nbd_session.specs.declared.phase.Phase.TheVariants.{Transmission}
use Rattle.nbd_session.specs.Session.{Steps, has_ended, state}
use Rattle.nbd_session.proofs.flushes.flushed.Goals as goal

pub returns-in-Works-clause-steps : goal.returns-in-Works-clause-steps
returns-in-Works-clause-steps g c =
    let view = g.V.Volumes.view in
    let is : c.args.phase ≡ Transmission c.in-Transmission.volume c.in-Transmission.size (Works c.in-Works.manner c.in-Works.rest) =
    c.in-Transmission.is ∙ ap (λ (x : Course). Transmission c.in-Transmission.volume c.in-Transmission.size x) c.in-Works.is in
    IfSome_then c.flushed_rest.result c.flushed_rest.ensures.steps (λ a steps. λ p q same met.
    subst (λ (x : Phase). Steps view.outline (PoolCall view) (state x []) p c.args.piece.now a.taken (take a.sent c.flushed_rest.new.out) (has_ended a.phase) (state a.phase []) q) (sym is) (steps p q c.args.piece.now same met))
