use Rattle.std.proofs.Common.{◌≡◌}
use Rattle.tp_store_tests.proofs.meta.fill_on.Given as goal

abbrev pub invariant-loop-block : goal.invariant-loop-block
invariant-loop-block g l = g.M.Metadata.geometry l.metadata ≡ l.geometry
