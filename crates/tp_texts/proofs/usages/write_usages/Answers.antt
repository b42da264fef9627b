use Rattle.std.proofs.Common.{◌∙◌}
use Rattle.tp_texts.proofs.Telling.{told_all, told_lost, told_more, usages_cut, usages_over}
use Rattle.tp_texts.proofs.usages.write_usages.Goals as goal

pub returns-then-not-make_room : goal.returns-then-not-make_room
returns-then-not-make_room g c =
    let calls = g.S.Stream.calls in
    told_lost (calls c.args.stream.now) (calls c.loop-usage.stream) (calls c.make_room.new.stream) c.loop-usage.lines.bytes c.make_room.new.lines.bytes _ _ c.loop-usage.invariant c.if-not-make_room.ensures.wrote

pub loop-usage-preserved : goal.loop-usage-preserved
loop-usage-preserved g c =
    let calls = g.S.Stream.calls in
    told_more (calls c.args.stream.now) (calls c.loop-usage.stream) (calls c.make_room.new.stream) c.loop-usage.lines.bytes c.make_room.new.lines.bytes c.put_usage.new.lines.bytes _ _ _ _
    (usages_cut c.args.unit c.args.is_held c.loop-usage.usage-index _ c.args.usages.now c.loop-usage-test.true) c.loop-usage.invariant c.if-not-make_room.ensures.wrote c.put_usage.ensures.text

pub returns : goal.returns
returns g c =
    let calls = g.S.Stream.calls in
    told_all (calls c.args.stream.now) (calls c.loop-usage.stream) (calls c.send_all.new.stream) c.loop-usage.lines.bytes c.as_bytes.result.now _ _ c.send_all.result
    (usages_over c.args.unit c.args.is_held c.loop-usage.usage-index c.args.usages.now c.loop-usage-test.false) (c.as_bytes.ensures.value ∙ c.as_str.ensures.value) c.loop-usage.invariant c.send_all.ensures
