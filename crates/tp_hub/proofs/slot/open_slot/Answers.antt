use Rattle.std.proofs.Common.{◌∷◌, [], subst, ◌∙◌}
use Rattle.tp_model.specs.declared.refusal.Refusal.TheVariants.{SessionInUse}
use Rattle.nbd_wire.specs.Replies.{greeting}
use Rattle.tp_hub.specs.Told.{Refuses, Says}
use Rattle.tp_hub.specs.Places.{IsOpenSlot}
use Rattle.tp_hub.proofs.Turning.{grows_behind}
use Rattle.tp_hub.proofs.Taking.{comes, comes_to_open}
use Rattle.tp_hub.proofs.slot.open_slot.Goals as goal

pub returns-in-Some-clause-takes : goal.returns-in-Some-clause-takes
returns-in-Some-clause-takes g c pool =
    comes_to_open g.V.Volumes.view c.args.number c.args.profile c.args.slot.now c.in-Some.field-0 pool c.args.out.now c.note.new.self c.in-Some.is (subst IsOpenSlot c.in-Some.is c.requires)
    (grows_behind c.args.out.now c.make_room.new.self c.note.new.self (Refuses SessionInUse ∷ []) c.make_room.ensures.list c.make_room.ensures.room c.make_room.ensures.marks c.note.ensures)

pub returns-in-Ok-clause-takes : goal.returns-in-Ok-clause-takes
returns-in-Ok-clause-takes g c pool =
    comes g.V.Volumes.view c.args.number c.args.profile c.args.slot.now c.greet.new.session pool c.args.out.now c.greet.new.out c.in-None.is (c.greet.ensures.same ∙ c.in-Ok.ensures.opened) c.greet.ensures.calm
    (grows_behind c.args.out.now c.make_room.new.self c.greet.new.out (Says c.args.number greeting ∷ []) c.make_room.ensures.list c.make_room.ensures.room c.make_room.ensures.marks c.greet.ensures.says)
