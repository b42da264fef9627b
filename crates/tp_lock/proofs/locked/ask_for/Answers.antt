use Rattle.tp_lock.proofs.Seeing.{seen_wider}
use Rattle.tp_lock.proofs.locked.ask_for.Goals as goal

pub returns-then-is_err : goal.returns-then-is_err
returns-then-is_err g c =
    let made = c.make_room.ensures in
    seen_wider g.V.Volumes.view c.args.event c.ask_to_change-then-is_err.result c.args.out.now c.make_room.new.self c.ask_to_change-then-is_err.new.out made.list made.room made.marks c.ask_to_change-then-is_err.ensures

pub returns : goal.returns
returns g c =
    let made = c.make_room.ensures in
    seen_wider g.V.Volumes.view c.args.event c.ask_to_keep.result c.args.out.now c.make_room.new.self c.ask_to_keep.new.out made.list made.room made.marks c.ask_to_keep.ensures
