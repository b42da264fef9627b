use Rattle.std.proofs.Common.{◌≡◌, ◌≤◌, length, take, ◌-◌}
use Rattle.tp_lock.specs.Framing.{ends_in, passed}
use Rattle.tp_crowd.proofs.frames.Frames.pass.Given as goal

abbrev pub invariant-loop-at : goal.invariant-loop-at
invariant-loop-at l = (l.at ≤ length l.bytes) × (l.self ≡ passed l.fn.self (take l.at l.bytes)) × (l.has_ended ≡ ends_in l.fn.self (take l.at l.bytes))

abbrev pub decreases-loop-at : goal.decreases-loop-at
decreases-loop-at l = length l.bytes - l.at
