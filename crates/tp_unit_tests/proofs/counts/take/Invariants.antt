use Rattle.std.proofs.Common.{◌≡◌}
use Rattle.tp_unit_tests.proofs.counts.take.Given as goal

abbrev pub invariant-loop : goal.invariant-loop
invariant-loop l = l.counts.geometry ≡ l.fn.counts.geometry
