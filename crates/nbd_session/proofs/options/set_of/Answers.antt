use Rattle.std.proofs.Common.{inl, inr, refl, subst, take}
use Rattle.nbd_wire.specs.declared.TheConstants.{OPTION_SET_META_CONTEXT}
use Rattle.nbd_wire.specs.declared.writing.ReplyType.TheVariants.{Unknown}
use Rattle.nbd_session.specs.declared.phase.Terms.{Terms}
use Rattle.nbd_session.specs.Session.{IsOutcome, option_error}
use Rattle.nbd_session.proofs.options.set_of.Goals as goal

pub returns-in-Some-clause-answer : goal.returns-in-Some-clause-answer
returns-in-Some-clause-answer g c = inr (inl (record { id = c.in-Some.volume; name_is = c.in-Some.ensures.found; asks = c.tell_set.ensures.answer }))

pub returns-in-Some-origin_in-clause-answer : goal.returns-in-Some-origin_in-clause-answer
returns-in-Some-origin_in-clause-answer g c = inr (inr (record { origin = c.in-Some-origin_in.origin; name_is = c.in-Some-origin_in.ensures.found; asks = c.set_clone.ensures.answer }))

pub returns-in-None-origin_in-clause-answer : goal.returns-in-None-origin_in-clause-answer
returns-in-None-origin_in-clause-answer g c =
    let P : Terms → Type 0 = λ z. IsOutcome (option_error OPTION_SET_META_CONTEXT Unknown z) (take c.answer_error.result.1 c.answer_error.new.out) c.answer_error.result.0 in
    let told = subst P c.without_context-terms.ensures c.answer_error.ensures.refused in
    inl (record { no_id = c.in-None.ensures.none; no_clone = c.in-None-origin_in.ensures.none; tells = (told.0, told.1, refl) })
