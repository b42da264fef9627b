use Rattle.std.proofs.Common.{arith, ap, length}
use Rattle.tp_hub.proofs.Telling.{greeting_length}
use Rattle.tp_hub.proofs.slot.greet.Goals as goal

pub say-requires-clause-bytes : goal.say-requires-clause-bytes
say-requires-clause-bytes c = let e = ap length c.greeting.follows.holds-at-none.0 in omega (arith, e, greeting_length, c.requires.bytes)
