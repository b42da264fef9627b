use Rattle.tp_meta.proofs.Areas.{HaveJoined}
use Rattle.tp_meta.proofs.stale.either.Given as goal

abbrev pub invariant-loop-j : goal.invariant-loop-j
invariant-loop-j l = HaveJoined l.fn.first l.fn.second l.j l.marks
