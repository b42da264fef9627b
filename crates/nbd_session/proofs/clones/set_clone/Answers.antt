use Rattle.std.proofs.Common.{ℕ, ap, refl, subst, ◌∙◌, take}
use Rattle.tp_model.specs.Clauses.{PoolCall}
use Rattle.nbd_wire.specs.declared.TheConstants.{OPTION_SET_META_CONTEXT}
use Rattle.nbd_wire.specs.declared.writing.ReplyType.TheVariants.{Unknown}
use Rattle.nbd_session.specs.declared.phase.ContextOf.TheVariants as contexts
use Rattle.nbd_session.specs.declared.phase.Phase.TheVariants.{Options}
use Rattle.nbd_session.specs.declared.phase.Terms.{Terms}
use Rattle.nbd_session.specs.Session.{IsOutcome, in_context, of_clone, option_error, set_context}
use Rattle.nbd_session.proofs.Cloning.{learnt, learnt_none, learnt_nothing}
use Rattle.nbd_session.proofs.clones.set_clone.Goals as goal

pub returns-in-Ok-Some-clause-answer : goal.returns-in-Ok-Some-clause-answer
returns-in-Ok-Some-clause-answer g c =
    let v = g.V.Volumes.view in
    let o = of_clone (set_context c.args.terms c.args.is_asked c.args.since) c.args.origin in
    let next = c.in_context-terms.ensures ∙ ap (λ (n : ℕ). in_context c.args.terms (contexts.Clones n) c.args.is_asked c.args.since) c.number.ensures.value in
    learnt v.outline (PoolCall v) o c.args.origin c.in-Ok-Some.field-0-0 c.in-Ok-Some.field-0 c.args.pool.now c.find.new.pool (take c.put_contexts-sent.result c.put_contexts-sent.new.out) (Options c.in_context-terms.result) refl
    c.in-Ok-Some.ensures c.in-Ok-Some.field-0-is (c.put_contexts-sent.ensures.reply, ap (λ (z : Terms). Options z) next)

pub returns-in-Ok-None-clause-answer : goal.returns-in-Ok-None-clause-answer
returns-in-Ok-None-clause-answer g c =
    let v = g.V.Volumes.view in
    let o = of_clone (set_context c.args.terms c.args.is_asked c.args.since) c.args.origin in
    let sent = take c.answer_error.result.1 c.answer_error.new.out in
    let P : Terms → Type 0 = λ z. IsOutcome (option_error OPTION_SET_META_CONTEXT Unknown z) sent c.answer_error.result.0 in
    learnt_none v.outline (PoolCall v) o c.args.origin c.in-Ok-None.field-0 c.args.pool.now c.find.new.pool sent c.answer_error.result.0 refl c.in-Ok-None.ensures c.in-Ok-None.field-0-is
    (subst P c.without_context-terms.ensures c.answer_error.ensures.refused)

pub returns-in-Err-clause-answer : goal.returns-in-Err-clause-answer
returns-in-Err-clause-answer g c =
    let v = g.V.Volumes.view in
    let o = of_clone (set_context c.args.terms c.args.is_asked c.args.since) c.args.origin in
    learnt_nothing v.outline (PoolCall v) o c.args.origin c.in-Err.field-0 c.args.pool.now c.find.new.pool refl c.in-Err.ensures
