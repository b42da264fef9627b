use Rattle.std.proofs.Common.{◌≡◌}
use Rattle.tp_tests.proofs.listing.snap_all_on.Given as goal

abbrev pub invariant-loop-number : goal.invariant-loop-number
invariant-loop-number g l = g.M.Metadata.geometry l.metadata ≡ l.geometry
