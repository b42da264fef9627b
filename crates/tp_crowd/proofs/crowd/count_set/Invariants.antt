use Rattle.std.proofs.Common.{◌≡◌, ◌≤◌, take}
use Rattle.tp_lock.specs.Framing.{set_in}
use Rattle.tp_crowd.proofs.crowd.count_set.Given as goal

abbrev pub invariant-loop-number : goal.invariant-loop-number
invariant-loop-number l = (l.count ≡ set_in (take l.number l.fn.refused)) × (l.count ≤ l.number)
