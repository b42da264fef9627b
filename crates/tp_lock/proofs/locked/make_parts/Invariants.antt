use Rattle.tp_lock.proofs.Locking.{MadeSoFar}
use Rattle.tp_lock.proofs.locked.make_parts.Given as goal

abbrev pub invariant-loop-part : goal.invariant-loop-part
invariant-loop-part g l = MadeSoFar g.V.Volumes.view l.fn.number l.fn.seen.is_at_work l.left.is_at_work l.fn.out l.out
