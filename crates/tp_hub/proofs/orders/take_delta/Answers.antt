use Rattle.std.proofs.Common.{◌∷◌, [], ◌∙◌, refl, sym}
use Rattle.tp_hub.specs.Told.{Refuses}
use Rattle.tp_hub.specs.Runs.{AsksDeltaOf}
use Rattle.tp_hub.proofs.Asking.{delta_so, no_delta, not_taken}
use Rattle.tp_hub.proofs.Telling.{on_err}
use Rattle.tp_hub.proofs.Turning.{grows_behind, grows_none}
use Rattle.tp_hub.proofs.orders.take_delta.Goals as goal

pub returns-then-is_err : goal.returns-then-is_err
returns-then-is_err g c = not_taken g.V.Volumes.view (AsksDeltaOf c.args.old c.args.new c.args.first) c.args.pool.now c.args.out.now c.make_room.new.self refl (λ at. (refl, on_err c.make_room.result (sym c.is_err.ensures.value ∙ c.if-is_err.true) c.make_room.ensures.full))
    (grows_none c.args.out.now c.make_room.new.self c.make_room.ensures.list c.make_room.ensures.room c.make_room.ensures.marks)

pub returns-in-Some : goal.returns-in-Some
returns-in-Some g c = no_delta g.V.Volumes.view c.args.old c.args.new c.args.first c.in-Some.reason c.args.pool.now c.args.out.now c.note.new.self c.in-Some.ensures.fault
    (grows_behind c.args.out.now c.make_room.new.self c.note.new.self (Refuses c.in-Some.reason ∷ []) c.make_room.ensures.list c.make_room.ensures.room c.make_room.ensures.marks c.note.ensures)

pub returns-in-None : goal.returns-in-None
returns-in-None g c = delta_so g.V.Volumes.view c.args.old c.new-one.result c.args.new c.new-other.result c.args.first c.new-block.result c.args.pool.now c.tell_delta.new.pool c.args.out.now c.make_room.new.self c.tell_delta.new.out
    c.in-None.ensures.fault c.new-one.ensures c.new-other.ensures c.new-block.ensures c.make_room.ensures.list c.make_room.ensures.room c.make_room.ensures.marks c.tell_delta.ensures
