use Rattle.std.proofs.Common.{arith, refl}
use Rattle.nbd_wire.proofs.Sent.{puts_none, puts_type, puts_types}
use Rattle.nbd_wire.proofs.client.put_types.Goals as goal

pub returns-clause-bytes : goal.returns-clause-bytes
returns-clause-bytes c = puts_types _ _ _ _ c.loop-kind.kind-index _ (omega (arith, c.loop-kind-test.false)) c.loop-kind.invariant.puts

pub loop-kind-init : goal.loop-kind-init
loop-kind-init c = record { puts = puts_none c.args.out.now c.args.at; end_is = omega arith; len = refl; inside = omega arith }

pub loop-kind-preserved : goal.loop-kind-preserved
loop-kind-preserved c = record {
  puts = puts_type _ _ _ _ _ _ _ _ c.loop-kind-test.true c.loop-kind.invariant.puts c.put_u16-end.ensures.bytes;
  end_is = omega (arith, c.put_u16-end.ensures.end, c.loop-kind.invariant.end_is);
  len = omega (arith, c.put_u16-end.ensures.len, c.loop-kind.invariant.len);
  inside = omega (arith, c.loop-kind-test.true);
}
