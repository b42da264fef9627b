use Rattle.tp_lines.specs.Texts.{newline}
use Rattle.tp_hub.proofs.Streaming.{writes_first, writes_then}
use Rattle.tp_lines.proofs.text.put_line.Goals as goal

pub returns-then-not-write_out : goal.returns-then-not-write_out
returns-then-not-write_out g c = writes_first (g.S.Stream.calls c.args.stream.now) (g.S.Stream.calls c.write_out.new.stream) c.args.text.now newline c.if-not-write_out.ensures

pub returns : goal.returns
returns g c = writes_then (g.S.Stream.calls c.args.stream.now) (g.S.Stream.calls c.write_out.new.stream) (g.S.Stream.calls c.write_out-2.new.stream) c.args.text.now newline c.write_out-2.result c.if-not-write_out.ensures c.write_out-2.ensures
