use Rattle.std.proofs.Common.{[], drop, refl, ◌++◌, ◌∙◌}
use Rattle.std.specs.Prelude.{codes}
use Rattle.tp_texts.specs.Json.{usages_items, usages_json}
use Rattle.tp_texts.proofs.Listed.{usages_json_cut, usages_json_over, rest_of}
use Rattle.tp_texts.proofs.Telling.{Telling, told_all, told_lost, told_more}
use Rattle.tp_texts.proofs.usage_objects.write_usages_json.Goals as goal

pub returns-then-not-make_room : goal.returns-then-not-make_room
returns-then-not-make_room g c =
    let calls = g.S.Stream.calls in
    told_lost (calls c.args.stream.now) (calls c.loop-usage.stream) (calls c.make_room.new.stream) c.loop-usage.lines.bytes c.make_room.new.lines.bytes
    (rest_of c.loop-usage.is_later (usages_items c.args.unit c.args.is_held (drop c.loop-usage.usage-index c.args.usages.now))) (usages_json c.args.unit c.args.is_held c.args.usages.now ++ codes "\n") c.loop-usage.invariant c.if-not-make_room.ensures.wrote

pub loop-usage-preserved : goal.loop-usage-preserved
loop-usage-preserved g c =
    let calls = g.S.Stream.calls in
    (told_more (calls c.args.stream.now) (calls c.loop-usage.stream) (calls c.make_room.new.stream) c.loop-usage.lines.bytes c.make_room.new.lines.bytes c.put_next_usage.new.lines.bytes _ _ _ _
    (usages_json_cut c.loop-usage.is_later c.args.unit c.args.is_held c.loop-usage.usage-index _ c.args.usages.now c.loop-usage-test.true) c.loop-usage.invariant c.if-not-make_room.ensures.wrote c.put_next_usage.ensures.text)

pub returns-then-not-make_room-2 : goal.returns-then-not-make_room-2
returns-then-not-make_room-2 g c =
    let calls = g.S.Stream.calls in
    told_lost (calls c.args.stream.now) (calls c.loop-usage.stream) (calls c.make_room-2.new.stream) c.loop-usage.lines.bytes c.make_room-2.new.lines.bytes
    (rest_of c.loop-usage.is_later (usages_items c.args.unit c.args.is_held (drop c.loop-usage.usage-index c.args.usages.now))) (usages_json c.args.unit c.args.is_held c.args.usages.now ++ codes "\n") c.loop-usage.invariant c.if-not-make_room-2.ensures.wrote

pub returns : goal.returns
returns g c =
    let calls = g.S.Stream.calls in
    let all = usages_json c.args.unit c.args.is_held c.args.usages.now ++ codes "\n" in
    let told : Telling (calls c.args.stream.now) (calls c.make_room-2.new.stream) c.push_str-2.new.self.bytes [] all =
    told_more (calls c.args.stream.now) (calls c.loop-usage.stream) (calls c.make_room-2.new.stream) c.loop-usage.lines.bytes c.make_room-2.new.lines.bytes c.push_str-2.new.self.bytes _ _ _ _
    (usages_json_over c.loop-usage.is_later c.args.unit c.args.is_held c.loop-usage.usage-index c.args.usages.now c.loop-usage-test.false) c.loop-usage.invariant c.if-not-make_room-2.ensures.wrote c.push_str-2.ensures.bytes in
    told_all (calls c.args.stream.now) (calls c.make_room-2.new.stream) (calls c.send_all.new.stream) c.push_str-2.new.self.bytes c.as_bytes.result.now [] all c.send_all.result refl (c.as_bytes.ensures.value ∙ c.as_str.ensures.value) told c.send_all.ensures
