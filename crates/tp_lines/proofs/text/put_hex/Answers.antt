use Rattle.std.proofs.Common.{arith}
use Rattle.tp_lines.proofs.Telling.{hex_lost, hex_more}
use Rattle.tp_lines.proofs.text.put_hex.Goals as goal

pub returns-then-not-put_part : goal.returns-then-not-put_part
returns-then-not-put_part g c = hex_lost (g.S.Stream.calls c.args.stream.now) (g.S.Stream.calls c.loop-at.stream) (g.S.Stream.calls c.put_part.new.stream) c.args.bytes.now c.part.result.now c.loop-at.at c.min-len.result c.part.ensures c.loop-at.invariant.wrote c.if-not-put_part.ensures

pub loop-at-preserved : goal.loop-at-preserved
loop-at-preserved g c = record {
  within = omega (arith, c.min-len.ensures, c.loop-at-test.true);
  wrote = hex_more (g.S.Stream.calls c.args.stream.now) (g.S.Stream.calls c.loop-at.stream) (g.S.Stream.calls c.put_part.new.stream) c.args.bytes.now c.part.result.now c.loop-at.at c.min-len.result c.part.ensures c.loop-at.invariant.wrote c.if-not-put_part.ensures;
}
