use Rattle.std.proofs.Common.{ℕ, [], ap, refl, ◌∙◌, take}
use Rattle.tp_model.specs.Clauses.{PoolCall}
use Rattle.nbd_wire.specs.declared.TheConstants.{OPTION_GO}
use Rattle.nbd_session.specs.declared.clones.Made.TheVariants.{Held, NotMade, GivenUp}
use Rattle.nbd_session.specs.declared.phase.Phase.TheVariants.{Ended}
use Rattle.nbd_session.specs.Session.{go, info_reply}
use Rattle.nbd_session.proofs.Cloning.{entered, flags_are}
use Rattle.nbd_session.proofs.clones.enter_clone.Goals as goal

pub returns-in-Held-clause-answer : goal.returns-in-Held-clause-answer
returns-in-Held-clause-answer g c =
    let v = g.V.Volumes.view in
    let z = c.args.terms in
    let size = c.in-Held.size in
    let flags = flags_are z (v.outline c.args.pool.now) c.mode.result c.flags_of.result c.clone_flags-flags.result c.mode.ensures c.flags_of.ensures c.clone_flags-flags.ensures in
    entered v.outline (PoolCall v) (go z) c.args.origin c.make_clone.result (Held c.in-Held.id size) c.args.pool.now c.make_clone.new.pool (take c.put_info_reply.result c.put_info_reply.new.out) c.begin_clone.result
    c.in-Held.is c.make_clone.ensures (c.put_info_reply.ensures.reply ∙ ap (λ (f : ℕ). info_reply OPTION_GO size f) flags, c.begin_clone.ensures)

pub returns-in-NotMade-clause-answer : goal.returns-in-NotMade-clause-answer
returns-in-NotMade-clause-answer g c =
    let v = g.V.Volumes.view in
    entered v.outline (PoolCall v) (go c.args.terms) c.args.origin c.make_clone.result (NotMade c.in-NotMade.refusal) c.args.pool.now c.make_clone.new.pool (take c.refuse_clone.result.1 c.refuse_clone.new.out) c.refuse_clone.result.0
    c.in-NotMade.is c.make_clone.ensures c.refuse_clone.ensures.refused

pub returns-in-GivenUp-clause-answer : goal.returns-in-GivenUp-clause-answer
returns-in-GivenUp-clause-answer g c =
    let v = g.V.Volumes.view in
    entered v.outline (PoolCall v) (go c.args.terms) c.args.origin c.make_clone.result GivenUp c.args.pool.now c.make_clone.new.pool [] Ended c.in-GivenUp.is c.make_clone.ensures (refl, refl)
