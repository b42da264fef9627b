use Rattle.std.proofs.Common.{ℕ, ap, refl, ◌∙◌, take}
use Rattle.tp_model.specs.Clauses.{PoolCall}
use Rattle.nbd_session.specs.declared.phase.ContextOf.TheVariants as contexts
use Rattle.nbd_session.specs.declared.phase.Phase.TheVariants.{Options}
use Rattle.nbd_session.specs.declared.phase.Terms.{Terms}
use Rattle.nbd_session.specs.Session.{in_context, set_context}
use Rattle.nbd_session.proofs.Cloning.{learnt}
use Rattle.nbd_session.proofs.options.tell_set.Goals as goal

pub returns-in-Ok-Some-clause-answer : goal.returns-in-Ok-Some-clause-answer
returns-in-Ok-Some-clause-answer g c =
    let v = g.V.Volumes.view in
    let o = set_context c.args.terms c.args.is_asked c.args.since in
    let next = c.in_context-terms.ensures ∙ ap (λ (n : ℕ). in_context c.args.terms (contexts.Volume n) c.args.is_asked c.args.since) c.number.ensures.value in
    learnt v.outline (PoolCall v) o c.args.volume c.in-Ok-Some.field-0-0 c.in-Ok-Some.field-0 c.args.pool.now c.find.new.pool (take c.put_contexts-sent.result c.put_contexts-sent.new.out) (Options c.in_context-terms.result) refl
    c.in-Ok-Some.ensures c.in-Ok-Some.field-0-is (c.put_contexts-sent.ensures.reply, ap (λ (z : Terms). Options z) next)
