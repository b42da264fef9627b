use Rattle.std.proofs.Common.{◌≡◌}
use Rattle.tp_store_tests.proofs.commands.first_difference.Given as goal

abbrev pub invariant-loop-number : goal.invariant-loop-number
invariant-loop-number g l = record { list : g.A.Mapping.geometry l.list ≡ l.geometry; trees : g.B.Mapping.geometry l.trees ≡ l.geometry }
