use Rattle.tp_holders.proofs.Rows.{IsLastBelow}
use Rattle.tp_holders.proofs.holders.place_of.Given as goal

abbrev pub invariant-loop-i : goal.invariant-loop-i
invariant-loop-i l = IsLastBelow l.holders l.volume l.i l.place
