use Rattle.std.proofs.Common.{◌∙◌}
use Rattle.tp_texts.proofs.Telling.{runs_cut, runs_over, told_all, told_lost, told_more}
use Rattle.tp_texts.proofs.runs.write_runs.Goals as goal

pub returns-then-not-make_room : goal.returns-then-not-make_room
returns-then-not-make_room g c =
    let calls = g.S.Stream.calls in
    told_lost (calls c.args.stream.now) (calls c.loop-extent.stream) (calls c.make_room.new.stream) c.loop-extent.lines.bytes c.make_room.new.lines.bytes _ _ c.loop-extent.invariant c.if-not-make_room.ensures.wrote

pub loop-extent-preserved : goal.loop-extent-preserved
loop-extent-preserved g c =
    let calls = g.S.Stream.calls in
    told_more (calls c.args.stream.now) (calls c.loop-extent.stream) (calls c.make_room.new.stream) c.loop-extent.lines.bytes c.make_room.new.lines.bytes c.put_run_line.new.lines.bytes _ _ _ _
    (runs_cut c.args.base c.args.unit c.loop-extent.extent-index _ c.args.extents.now c.loop-extent-test.true) c.loop-extent.invariant c.if-not-make_room.ensures.wrote c.put_run_line.ensures.text

pub returns : goal.returns
returns g c =
    let calls = g.S.Stream.calls in
    told_all (calls c.args.stream.now) (calls c.loop-extent.stream) (calls c.send_all.new.stream) c.loop-extent.lines.bytes c.as_bytes.result.now _ _ c.send_all.result
    (runs_over c.args.base c.args.unit c.loop-extent.extent-index c.args.extents.now c.loop-extent-test.false) (c.as_bytes.ensures.value ∙ c.as_str.ensures.value) c.loop-extent.invariant c.send_all.ensures
