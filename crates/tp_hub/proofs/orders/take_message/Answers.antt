use Rattle.std.proofs.Common.{◌∷◌, [], ◌∙◌, refl, sym}
use Rattle.tp_hub.specs.Told.{Refuses}
use Rattle.tp_hub.specs.Runs.{Orders}
use Rattle.tp_hub.proofs.Asking.{message_so, no_message, not_taken}
use Rattle.tp_hub.proofs.Telling.{on_err}
use Rattle.tp_hub.proofs.Turning.{grows_behind, grows_none}
use Rattle.tp_hub.proofs.orders.take_message.Goals as goal

pub returns-then-is_err : goal.returns-then-is_err
returns-then-is_err g c = not_taken g.V.Volumes.view (Orders c.args.line.now) c.args.pool.now c.args.out.now c.make_room.new.self refl (λ at. (refl, on_err c.make_room.result (sym c.is_err.ensures.value ∙ c.if-is_err.true) c.make_room.ensures.full))
    (grows_none c.args.out.now c.make_room.new.self c.make_room.ensures.list c.make_room.ensures.room c.make_room.ensures.marks)

pub returns-in-Err : goal.returns-in-Err
returns-in-Err g c = no_message g.V.Volumes.view c.args.line.now c.in-Err.reason c.args.pool.now c.args.out.now c.note.new.self (sym c.in-Err.ensures.reads)
    (grows_behind c.args.out.now c.make_room.new.self c.note.new.self (Refuses c.in-Err.reason ∷ []) c.make_room.ensures.list c.make_room.ensures.room c.make_room.ensures.marks c.note.ensures)

pub returns-in-Ok : goal.returns-in-Ok
returns-in-Ok g c = message_so g.V.Volumes.view c.args.line.now c.in-Ok.message c.args.pool.now c.obey.new.pool c.args.out.now c.make_room.new.self c.obey.new.out (sym c.in-Ok.ensures.reads) c.make_room.ensures.list c.make_room.ensures.room c.make_room.ensures.marks c.obey.ensures
