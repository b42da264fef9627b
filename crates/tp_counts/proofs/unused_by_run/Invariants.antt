use Rattle.tp_counts.specs.Tallies.{AreRuns}
use Rattle.tp_counts.proofs.unused_by_run.Given as goal

abbrev pub invariant-loop-b : goal.invariant-loop-b
invariant-loop-b l = AreRuns l.b l.counts l.counts l.runs
