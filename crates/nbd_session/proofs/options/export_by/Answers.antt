use Rattle.std.proofs.Common.{inl, inr, refl}
use Rattle.nbd_session.proofs.options.export_by.Goals as goal

pub returns-in-Some-clause-answer : goal.returns-in-Some-clause-answer
returns-in-Some-clause-answer g c = inr (inl (record { id = c.in-Some.volume; name_is = c.in-Some.ensures.found; asks = c.export.ensures.answer }))

pub returns-in-Some-origin_in-clause-answer : goal.returns-in-Some-origin_in-clause-answer
returns-in-Some-origin_in-clause-answer g c = inr (inr (record { origin = c.in-Some-origin_in.origin; name_is = c.in-Some-origin_in.ensures.found; asks = c.export_clone.ensures.answer }))

pub returns-in-None-origin_in-clause-answer : goal.returns-in-None-origin_in-clause-answer
returns-in-None-origin_in-clause-answer g c = inl (record { no_id = c.in-None.ensures.none; no_clone = c.in-None-origin_in.ensures.none; tells = (refl, refl, refl) })
