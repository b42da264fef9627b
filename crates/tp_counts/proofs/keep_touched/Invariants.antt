use Rattle.tp_counts.proofs.Touching.{HaveKept}
use Rattle.tp_counts.proofs.keep_touched.Given as goal

abbrev pub invariant-loop-run : goal.invariant-loop-run
invariant-loop-run l = HaveKept l.now l.fn.kept l.fn.free_by_run l.run l.kept l.free_by_run
