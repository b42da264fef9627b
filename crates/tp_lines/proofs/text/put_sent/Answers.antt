use Rattle.tp_lines.proofs.Telling.{sent_all, sent_head, sent_hex}
use Rattle.tp_lines.proofs.text.put_sent.Goals as goal

pub returns-then-not-write_out : goal.returns-then-not-write_out
returns-then-not-write_out g c = sent_head (g.S.Stream.calls c.args.stream.now) (g.S.Stream.calls c.write_out.new.stream) c.args.session c.args.bytes.now _ _ c.put_word-word.ensures.line c.copy-end.ensures.line c.if-not-write_out.ensures

pub returns-then-not-put_hex : goal.returns-then-not-put_hex
returns-then-not-put_hex g c = sent_hex (g.S.Stream.calls c.args.stream.now) (g.S.Stream.calls c.write_out.new.stream) (g.S.Stream.calls c.put_hex.new.stream) c.args.session c.args.bytes.now _ _ c.put_word-word.ensures.line c.copy-end.ensures.line c.if-not-write_out.ensures c.if-not-put_hex.ensures

pub returns : goal.returns
returns g c = sent_all (g.S.Stream.calls c.args.stream.now) (g.S.Stream.calls c.write_out.new.stream) (g.S.Stream.calls c.put_hex.new.stream) (g.S.Stream.calls c.write_out-2.new.stream) c.args.session c.args.bytes.now _ _ c.write_out-2.result c.put_word-word.ensures.line c.copy-end.ensures.line c.if-not-write_out.ensures c.if-not-put_hex.ensures c.write_out-2.ensures
