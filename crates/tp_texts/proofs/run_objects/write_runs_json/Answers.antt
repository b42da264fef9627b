use Rattle.std.proofs.Common.{[], drop, refl, ◌++◌, ◌∙◌}
use Rattle.std.specs.Prelude.{codes}
use Rattle.tp_texts.specs.Json.{runs_items, runs_json}
use Rattle.tp_texts.proofs.Listed.{runs_json_cut, runs_json_over, rest_of}
use Rattle.tp_texts.proofs.Telling.{Telling, told_all, told_lost, told_more}
use Rattle.tp_texts.proofs.run_objects.write_runs_json.Goals as goal

pub returns-then-not-make_room : goal.returns-then-not-make_room
returns-then-not-make_room g c =
    let calls = g.S.Stream.calls in
    told_lost (calls c.args.stream.now) (calls c.loop-extent.stream) (calls c.make_room.new.stream) c.loop-extent.lines.bytes c.make_room.new.lines.bytes
    (rest_of c.loop-extent.is_later (runs_items c.args.base c.args.unit (drop c.loop-extent.extent-index c.args.extents.now))) (runs_json c.args.base c.args.unit c.args.extents.now ++ codes "\n") c.loop-extent.invariant c.if-not-make_room.ensures.wrote

pub loop-extent-preserved : goal.loop-extent-preserved
loop-extent-preserved g c =
    let calls = g.S.Stream.calls in
    (told_more (calls c.args.stream.now) (calls c.loop-extent.stream) (calls c.make_room.new.stream) c.loop-extent.lines.bytes c.make_room.new.lines.bytes c.put_next_run.new.lines.bytes _ _ _ _
    (runs_json_cut c.loop-extent.is_later c.args.base c.args.unit c.loop-extent.extent-index _ c.args.extents.now c.loop-extent-test.true) c.loop-extent.invariant c.if-not-make_room.ensures.wrote c.put_next_run.ensures.text)

pub returns-then-not-make_room-2 : goal.returns-then-not-make_room-2
returns-then-not-make_room-2 g c =
    let calls = g.S.Stream.calls in
    told_lost (calls c.args.stream.now) (calls c.loop-extent.stream) (calls c.make_room-2.new.stream) c.loop-extent.lines.bytes c.make_room-2.new.lines.bytes
    (rest_of c.loop-extent.is_later (runs_items c.args.base c.args.unit (drop c.loop-extent.extent-index c.args.extents.now))) (runs_json c.args.base c.args.unit c.args.extents.now ++ codes "\n") c.loop-extent.invariant c.if-not-make_room-2.ensures.wrote

pub returns : goal.returns
returns g c =
    let calls = g.S.Stream.calls in
    let all = runs_json c.args.base c.args.unit c.args.extents.now ++ codes "\n" in
    let told : Telling (calls c.args.stream.now) (calls c.make_room-2.new.stream) c.push_str-2.new.self.bytes [] all =
    told_more (calls c.args.stream.now) (calls c.loop-extent.stream) (calls c.make_room-2.new.stream) c.loop-extent.lines.bytes c.make_room-2.new.lines.bytes c.push_str-2.new.self.bytes _ _ _ _
    (runs_json_over c.loop-extent.is_later c.args.base c.args.unit c.loop-extent.extent-index c.args.extents.now c.loop-extent-test.false) c.loop-extent.invariant c.if-not-make_room-2.ensures.wrote c.push_str-2.ensures.bytes in
    told_all (calls c.args.stream.now) (calls c.make_room-2.new.stream) (calls c.send_all.new.stream) c.push_str-2.new.self.bytes c.as_bytes.result.now [] all c.send_all.result refl (c.as_bytes.ensures.value ∙ c.as_str.ensures.value) told c.send_all.ensures
