use Rattle.tp_counts.proofs.Touching.{HaveMarked}
use Rattle.tp_counts.proofs.changed_among.Given as goal

abbrev pub invariant-loop-run : goal.invariant-loop-run
invariant-loop-run l = HaveMarked l.now l.kept l.run l.changed
