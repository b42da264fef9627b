use Rattle.std.proofs.Common.{ℕ, ap, refl, ◌∙◌, take}
use Rattle.tp_model.specs.Clauses.{PoolCall}
use Rattle.nbd_wire.specs.declared.TheConstants.{OPTION_INFO}
use Rattle.nbd_session.specs.declared.phase.Phase.TheVariants.{Options}
use Rattle.nbd_session.specs.Session.{info, info_reply, of_clone}
use Rattle.nbd_session.proofs.Cloning.{flags_are, learnt, learnt_none, learnt_nothing}
use Rattle.nbd_session.proofs.clones.tell_clone.Goals as goal

pub returns-in-Ok-Some-clause-answer : goal.returns-in-Ok-Some-clause-answer
returns-in-Ok-Some-clause-answer g c =
    let v = g.V.Volumes.view in
    let z = c.args.terms in
    let size = c.in-Ok-Some.size in
    let flags = flags_are z (v.outline c.args.pool.now) c.mode.result c.flags_of.result c.clone_flags-flags.result c.mode.ensures c.flags_of.ensures c.clone_flags-flags.ensures in
    learnt v.outline (PoolCall v) (of_clone (info z) c.args.origin) c.args.origin size c.in-Ok-Some.field-0 c.args.pool.now c.find.new.pool (take c.put_info_reply.result c.put_info_reply.new.out) (Options z) refl
    c.in-Ok-Some.ensures c.in-Ok-Some.field-0-is (c.put_info_reply.ensures.reply ∙ ap (λ (f : ℕ). info_reply OPTION_INFO size f) flags, refl)

pub returns-in-Ok-None-clause-answer : goal.returns-in-Ok-None-clause-answer
returns-in-Ok-None-clause-answer g c =
    let v = g.V.Volumes.view in
    learnt_none v.outline (PoolCall v) (of_clone (info c.args.terms) c.args.origin) c.args.origin c.in-Ok-None.field-0 c.args.pool.now c.find.new.pool (take c.answer_error.result.1 c.answer_error.new.out)
    c.answer_error.result.0 refl c.in-Ok-None.ensures c.in-Ok-None.field-0-is c.answer_error.ensures.refused

pub returns-in-Err-clause-answer : goal.returns-in-Err-clause-answer
returns-in-Err-clause-answer g c =
    let v = g.V.Volumes.view in
    learnt_nothing v.outline (PoolCall v) (of_clone (info c.args.terms) c.args.origin) c.args.origin c.in-Err.field-0 c.args.pool.now c.find.new.pool refl c.in-Err.ensures
