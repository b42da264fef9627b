use Rattle.std.proofs.Common.{◌≡◌, [], Bool, take, refl, sym, ap, subst, ◌∙◌}
use Rattle.std.specs.Prelude.{Result}
use Rattle.tp_model.specs.declared.refusal.Refusal.{Refusal}
use Rattle.tp_model.specs.Calls.{Done, Refused}
use Rattle.tp_model.specs.Flushing.{IsFlushed}
use Rattle.nbd_wire.specs.declared.Request.{Request}
use Rattle.nbd_session.specs.declared.phase.Course.TheVariants.{Listens, Works}
use Rattle.nbd_session.specs.declared.phase.Phase.TheVariants.{Transmission}
use Rattle.nbd_session.specs.Requests.{behind, rest_of}
use Rattle.nbd_session.specs.Session.{IsMade}
use Rattle.nbd_session.proofs.Parting.{ended_by}
use Rattle.nbd_session.proofs.parts.end_flush.Goals as goal

pub returns-in-Err-clause-made : goal.returns-in-Err-clause-made
returns-in-Err-clause-made g c p q same flushed =
    ended_by g.V.Volumes.view c.args.volume c.args.size c.args.manner c.args.rest c.args.geometry.now p q (Refused c.in-Err.reason) _ _ same c.requires.flush
    (subst (λ (a : Result _ Refusal). IsFlushed g.V.Volumes.view p q a) c.in-Err.is flushed) (c.put_refusal.ensures.reply, refl)

pub returns-then-part-clause-made : goal.returns-then-part-clause-made
returns-then-part-clause-made g c p q same flushed =
    let last = sym c.part_of-part.ensures.last ∙ c.if-part.true in
    ended_by g.V.Volumes.view c.args.volume c.args.size c.args.manner c.args.rest c.args.geometry.now p q Done _ _ same c.requires.flush
    (subst (λ (a : Result _ Refusal). IsFlushed g.V.Volumes.view p q a) c.in_default.is flushed)
    (subst (λ (b : Bool). IsMade c.args.volume c.args.size c.args.manner c.args.rest (rest_of c.args.geometry.now c.args.rest) b Done (take c.put_reply.result c.put_reply.new.out) (Transmission c.args.volume c.args.size (Listens c.args.manner))) (sym last) (c.put_reply.ensures.reply, refl))

pub returns-clause-made : goal.returns-clause-made
returns-clause-made g c p q same flushed =
    let sizes = c.args.geometry.now in
    let last = sym c.part_of-part.ensures.last ∙ c.if-part.false in
    let left : c.behind.result ≡ rest_of sizes c.args.rest = c.behind.ensures ∙ ap (behind c.args.rest) (c.part_of-part.ensures.cut c.if-part.false).0 in
    let next = c.at_work.ensures ∙ ap (λ (r : Request). Transmission c.args.volume c.args.size (Works c.args.manner r)) left in
    ended_by g.V.Volumes.view c.args.volume c.args.size c.args.manner c.args.rest sizes p q Done _ _ same c.requires.flush
    (subst (λ (a : Result _ Refusal). IsFlushed g.V.Volumes.view p q a) c.in_default.is flushed)
    (subst (λ (b : Bool). IsMade c.args.volume c.args.size c.args.manner c.args.rest (rest_of sizes c.args.rest) b Done [] c.at_work.result) (sym last) (refl, next))
