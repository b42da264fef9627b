use Rattle.tp_check.proofs.Numbering.{AreCounted}
use Rattle.tp_check.proofs.walk.count.Given as goal

-- the names of the entries so far are counted
abbrev pub invariant-loop-i : goal.invariant-loop-i
invariant-loop-i l = AreCounted l.fn.names l.names l.node.entries l.i
