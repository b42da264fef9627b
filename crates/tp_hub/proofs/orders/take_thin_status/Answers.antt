use Rattle.std.proofs.Common.{◌∷◌, [], ◌<◌, ◌≤◌, ◌∙◌, refl, sym, arith, true≢false}
use Rattle.tp_hub.specs.Told.{Refuses}
use Rattle.tp_hub.specs.Runs.{AsksLineOf}
use Rattle.tp_hub.proofs.Asking.{at_least, no_volume, not_taken, volume_so}
use Rattle.tp_hub.proofs.Telling.{on_err}
use Rattle.tp_hub.proofs.Turning.{grows_behind, grows_none}
use Rattle.tp_hub.proofs.orders.take_thin_status.Goals as goal

pub returns-then-is_err : goal.returns-then-is_err
returns-then-is_err g c = not_taken g.V.Volumes.view (AsksLineOf c.args.volume) c.args.pool.now c.args.out.now c.make_room.new.self refl (λ at. (refl, on_err c.make_room.result (sym c.is_err.ensures.value ∙ c.if-is_err.true) c.make_room.ensures.full))
    (grows_none c.args.out.now c.make_room.new.self c.make_room.ensures.list c.make_room.ensures.room c.make_room.ensures.marks)

pub returns-in-Err : goal.returns-in-Err
returns-in-Err g c = no_volume g.V.Volumes.view c.args.volume c.in-Err.reason c.args.pool.now c.args.out.now c.note.new.self
    (let outside : 16777216 ≤ c.from.result = at_least c.from.result 16777216 (λ lt. true≢false (sym (c.in-Err.ensures.limits.1 lt))) in omega (arith, outside, c.from.ensures)) c.in-Err.ensures.refused
    (grows_behind c.args.out.now c.make_room.new.self c.note.new.self (Refuses c.in-Err.reason ∷ []) c.make_room.ensures.list c.make_room.ensures.room c.make_room.ensures.marks c.note.ensures)

pub returns-in-Ok : goal.returns-in-Ok
returns-in-Ok g c = volume_so g.V.Volumes.view c.args.volume c.in-Ok.id c.args.pool.now c.tell_volume.new.pool c.args.out.now c.make_room.new.self c.tell_volume.new.out (c.in-Ok.ensures.ok ∙ c.from.ensures)
    (let inside : c.from.result < 16777216 = c.in-Ok.ensures.limits.0 refl in omega (arith, inside, c.from.ensures))
    c.make_room.ensures.list c.make_room.ensures.room c.make_room.ensures.marks c.tell_volume.ensures
