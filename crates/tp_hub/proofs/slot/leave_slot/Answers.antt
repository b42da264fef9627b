use Rattle.std.proofs.Common.{◌∷◌, [], subst, sym, ◌∙◌}
use Rattle.tp_model.specs.declared.refusal.Refusal.TheVariants.{NoSession}
use Rattle.tp_hub.specs.Told.{Closes, Refuses}
use Rattle.tp_hub.specs.Places.{IsReadySlot}
use Rattle.tp_hub.proofs.Turning.{grows_behind}
use Rattle.tp_hub.proofs.Taking.{goes, goes_from_none}
use Rattle.tp_hub.proofs.slot.leave_slot.Goals as goal

pub returns-in-None-clause-takes : goal.returns-in-None-clause-takes
returns-in-None-clause-takes g c =
    goes_from_none g.V.Volumes.view c.args.number c.args.slot.now c.take.new.self c.args.pool.now c.args.out.now c.note.new.self (sym c.take.ensures.value ∙ c.in-None.is) c.take.ensures.after
    (grows_behind c.args.out.now c.make_room.new.self c.note.new.self (Refuses NoSession ∷ []) c.make_room.ensures.list c.make_room.ensures.room c.make_room.ensures.marks c.note.ensures)

pub returns-in-Some-clause-takes : goal.returns-in-Some-clause-takes
returns-in-Some-clause-takes g c =
    let some = sym c.take.ensures.value ∙ c.in-Some.is in
    let ready = subst (λ s. IsReadySlot s (g.V.Volumes.view.outline c.args.pool.now) (g.V.Volumes.view.more c.args.pool.now)) some c.requires in
    goes g.V.Volumes.view c.args.number c.args.slot.now c.take.new.self c.in-Some.session c.args.pool.now c.leave.new.pool c.args.out.now c.note-in-Some.new.self some c.take.ensures.after ready.1 c.leave.ensures
    (grows_behind c.args.out.now c.make_room.new.self c.note-in-Some.new.self (Closes c.args.number ∷ []) c.make_room.ensures.list c.make_room.ensures.room c.make_room.ensures.marks c.note-in-Some.ensures)
