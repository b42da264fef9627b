use Rattle.std.proofs.Common.{[], drop, refl, ◌++◌, ◌∙◌}
use Rattle.std.specs.Prelude.{codes}
use Rattle.tp_texts.specs.Json.{delta_items, delta_json}
use Rattle.tp_texts.proofs.Listed.{delta_json_cut, delta_json_over, rest_of}
use Rattle.tp_texts.proofs.Telling.{Telling, told_all, told_lost, told_more}
use Rattle.tp_texts.proofs.part_objects.write_delta_json.Goals as goal

pub returns-then-not-make_room : goal.returns-then-not-make_room
returns-then-not-make_room g c =
    let calls = g.S.Stream.calls in
    told_lost (calls c.args.stream.now) (calls c.loop-extent.stream) (calls c.make_room.new.stream) c.loop-extent.lines.bytes c.make_room.new.lines.bytes
    (rest_of c.loop-extent.is_later (delta_items c.args.unit c.args.end c.loop-extent.from (drop c.loop-extent.extent-index c.args.extents.now))) (delta_json c.args.unit c.args.end c.args.extents.now ++ codes "\n") c.loop-extent.invariant c.if-not-make_room.ensures.wrote

pub loop-extent-preserved : goal.loop-extent-preserved
loop-extent-preserved g c =
    let calls = g.S.Stream.calls in
    rw c.behind-from.ensures.value
    (told_more (calls c.args.stream.now) (calls c.loop-extent.stream) (calls c.make_room.new.stream) c.loop-extent.lines.bytes c.make_room.new.lines.bytes c.put_part_behind.new.lines.bytes _ _ _ _
    (delta_json_cut c.loop-extent.is_later c.args.unit c.args.end c.loop-extent.from c.loop-extent.extent-index _ c.args.extents.now c.loop-extent-test.true) c.loop-extent.invariant c.if-not-make_room.ensures.wrote c.put_part_behind.ensures.text)

pub returns-then-not-make_room-2 : goal.returns-then-not-make_room-2
returns-then-not-make_room-2 g c =
    let calls = g.S.Stream.calls in
    told_lost (calls c.args.stream.now) (calls c.loop-extent.stream) (calls c.make_room-2.new.stream) c.loop-extent.lines.bytes c.make_room-2.new.lines.bytes
    (rest_of c.loop-extent.is_later (delta_items c.args.unit c.args.end c.loop-extent.from (drop c.loop-extent.extent-index c.args.extents.now))) (delta_json c.args.unit c.args.end c.args.extents.now ++ codes "\n") c.loop-extent.invariant c.if-not-make_room-2.ensures.wrote

pub returns : goal.returns
returns g c =
    let calls = g.S.Stream.calls in
    let all = delta_json c.args.unit c.args.end c.args.extents.now ++ codes "\n" in
    let told : Telling (calls c.args.stream.now) (calls c.make_room-2.new.stream) c.put_end.new.lines.bytes [] all =
    told_more (calls c.args.stream.now) (calls c.loop-extent.stream) (calls c.make_room-2.new.stream) c.loop-extent.lines.bytes c.make_room-2.new.lines.bytes c.put_end.new.lines.bytes _ _ _ _
    (delta_json_over c.loop-extent.is_later c.args.unit c.args.end c.loop-extent.from c.loop-extent.extent-index c.args.extents.now c.loop-extent-test.false) c.loop-extent.invariant c.if-not-make_room-2.ensures.wrote c.put_end.ensures in
    told_all (calls c.args.stream.now) (calls c.make_room-2.new.stream) (calls c.send_all.new.stream) c.put_end.new.lines.bytes c.as_bytes.result.now [] all c.send_all.result refl (c.as_bytes.ensures.value ∙ c.as_str.ensures.value) told c.send_all.ensures
