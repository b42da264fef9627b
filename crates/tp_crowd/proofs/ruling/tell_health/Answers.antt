use Rattle.std.proofs.Common.{◌∙◌, sym}
use Rattle.tp_crowd.specs.Ruling.{TellsHow}
use Rattle.tp_crowd.proofs.Commanding.{health_told, nothing_told}
use Rattle.tp_crowd.proofs.ruling.tell_health.Goals as goal

pub returns-then-is_err : goal.returns-then-is_err
returns-then-is_err c =
    let e = c.make_room.ensures in
    nothing_told c.args.line.now (TellsHow c.args.health) c.args.out.now c.make_room.new.self c.make_room.result (sym c.is_err.ensures.value ∙ c.if-is_err.true) e.list e.room e.marks e.there
