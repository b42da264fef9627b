use Rattle.tp_lines.proofs.Telling.{tell_lost, tell_more}
use Rattle.tp_lines.proofs.text.tell_marks.Goals as goal

pub returns-then-not-tell_mark : goal.returns-then-not-tell_mark
returns-then-not-tell_mark g c = tell_lost (g.S.Stream.calls c.args.stream.now) (g.S.Stream.calls c.loop-mark.stream) (g.S.Stream.calls c.tell_mark.new.stream) c.loop-mark.at c.loop-mark.mark-index _ c.args.marks.now c.args.bytes.now c.part.result.now _ c.loop-mark-test.true (rw c.len_of-len.ensures at c.part.ensures) c.loop-mark.invariant c.if-not-tell_mark.ensures

pub loop-mark-preserved : goal.loop-mark-preserved
loop-mark-preserved g c = rw c.len_of-len.ensures (tell_more (g.S.Stream.calls c.args.stream.now) (g.S.Stream.calls c.loop-mark.stream) (g.S.Stream.calls c.tell_mark.new.stream) c.loop-mark.at c.loop-mark.mark-index _ c.args.marks.now c.args.bytes.now c.part.result.now _ c.loop-mark-test.true (rw c.len_of-len.ensures at c.part.ensures) c.loop-mark.invariant c.if-not-tell_mark.ensures)
