use Rattle.std.proofs.Common.{◌∷◌, [], ◌∙◌, refl, sym, take}
use Rattle.tp_hub.specs.Told.{Lines}
use Rattle.tp_hub.specs.Runs.{AsksLine}
use Rattle.tp_hub.proofs.Asking.{line_told, not_taken}
use Rattle.tp_hub.proofs.Telling.{on_err}
use Rattle.tp_hub.proofs.Turning.{grows_behind, grows_none}
use Rattle.tp_hub.proofs.orders.take_status.Goals as goal

pub returns-then-is_err : goal.returns-then-is_err
returns-then-is_err g c = not_taken g.V.Volumes.view AsksLine c.args.pool.now c.args.out.now c.make_room.new.self refl (λ at. (refl, on_err c.make_room.result (sym c.is_err.ensures.value ∙ c.if-is_err.true) c.make_room.ensures.full))
    (grows_none c.args.out.now c.make_room.new.self c.make_room.ensures.list c.make_room.ensures.room c.make_room.ensures.marks)

pub returns : goal.returns
returns g c = line_told g.V.Volumes.view (take c.status-len.result c.status-len.new.out) c.args.pool.now c.status-len.new.self c.args.out.now c.tell_line.new.out c.status-len.ensures.met
    (grows_behind c.args.out.now c.make_room.new.self c.tell_line.new.out (Lines (take c.status-len.result c.status-len.new.out) ∷ []) c.make_room.ensures.list c.make_room.ensures.room c.make_room.ensures.marks c.tell_line.ensures)
