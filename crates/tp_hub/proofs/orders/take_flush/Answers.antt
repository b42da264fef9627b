use Rattle.std.proofs.Common.{◌∙◌, refl, sym}
use Rattle.tp_hub.specs.Runs.{AsksFlush}
use Rattle.tp_hub.proofs.Asking.{flush_so, not_taken}
use Rattle.tp_hub.proofs.Telling.{on_err}
use Rattle.tp_hub.proofs.Turning.{grows_none}
use Rattle.tp_hub.proofs.orders.take_flush.Goals as goal

pub returns-then-is_err : goal.returns-then-is_err
returns-then-is_err g c = not_taken g.V.Volumes.view AsksFlush c.args.pool.now c.args.out.now c.make_room.new.self refl (λ at. (refl, on_err c.make_room.result (sym c.is_err.ensures.value ∙ c.if-is_err.true) c.make_room.ensures.full))
    (grows_none c.args.out.now c.make_room.new.self c.make_room.ensures.list c.make_room.ensures.room c.make_room.ensures.marks)

pub returns : goal.returns
returns g c = flush_so g.V.Volumes.view c.args.pool.now c.keep.new.pool c.args.out.now c.make_room.new.self c.keep.new.out c.make_room.ensures.list c.make_room.ensures.room c.make_room.ensures.marks c.keep.ensures
