use Rattle.std.proofs.Common.{◌≤◌, Err, length, ap, arith}
use Rattle.tp_hub.proofs.Telling.{full_bytes, full_marks, made_room, room_there}
use Rattle.tp_hub.proofs.answers.Answers.make_room.Goals as goal

pub returns-clause-ok : goal.returns-clause-ok
returns-clause-ok c =
    let inside : c.self.inside.used ≤ length c.reserve.new.bytes.items = omega (arith, c.self.invariant.1, ap length c.reserve.ensures.items) in
    made_room c.self.inside.most c.self.inside.marks.items c.lengthen.new.marks.items c.self.inside.used c.reserve.new.bytes.items c.in-Ok.room _ c.lengthen.result c.self.invariant.0 inside c.lengthen.ensures.items c.lengthen.ensures.ok c.in-Ok.ensures.ok.0

pub returns-clause-there : goal.returns-clause-there
returns-clause-there c room =
    let p = room_there c.args.self.now c.self.inside.marks.items c.self.inside.used c.self.inside.bytes.items _ _ _ c.self.view_is c.self.invariant room in
    c.lengthen.ensures.there p.1

pub returns-clause-full : goal.returns-clause-full
returns-clause-full c = full_marks c.self.inside.most c.lengthen.new.marks.items c.self.inside.used c.reserve.new.bytes.items _ _ c.lengthen.result c.lengthen.ensures.full

pub returns-in-Err-clause-full : goal.returns-in-Err-clause-full
returns-in-Err-clause-full c =
    let inside : c.self.inside.used ≤ length c.reserve.new.bytes.items = omega (arith, c.self.invariant.1, ap length c.reserve.ensures.items) in
    full_bytes c.self.inside.most {A = Unit {0}} c.self.inside.marks.items c.self.inside.used c.reserve.new.bytes.items _ _ (Err c.in-Err.error) c.self.invariant.0 inside c.in-Err.ensures.full

pub returns-in-Err-clause-there : goal.returns-in-Err-clause-there
returns-in-Err-clause-there c room =
    let p = room_there c.args.self.now c.self.inside.marks.items c.self.inside.used c.self.inside.bytes.items _ _ _ c.self.view_is c.self.invariant room in
    let few = c.in-Err.ensures.full in
    absurd (omega (arith, few, p.0))
