use Rattle.std.proofs.Common.{arith}
use Rattle.nbd_session.specs.declared.phase.Phase.TheVariants.{Flags}
use Rattle.nbd_session.proofs.Stepping.{wanted_at_start}
use Rattle.nbd_session.proofs.session.Session.open.Goals as goal

pub invariant_of-result : goal.invariant_of-result
invariant_of-result c = record {
  input_room = omega (arith, c.in-Ok.ensures.capacity);
  output_room = omega (arith, c.widen.ensures.capacity, c.in-Ok-with_capacity.ensures.capacity);
  greeted = omega (arith, c.widen.ensures.len);
  output_len = omega (arith, c.widen.ensures.len);
  in_range = omega arith;
  partial = wanted_at_start (Flags c.args.profile);
  sound = tt;
}
