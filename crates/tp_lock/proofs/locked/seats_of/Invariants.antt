use Rattle.std.proofs.Common.{◌≡◌, length}
use Rattle.tp_hub.specs.Staged.{slots_of}
use Rattle.tp_lock.proofs.Counting.{AreSeen}
use Rattle.tp_lock.proofs.locked.seats_of.Given as goal

-- those that were looked at
abbrev pub invariant-loop-number : goal.invariant-loop-number
invariant-loop-number g l = record {
  count : length l.seats ≡ 64;
  each : AreSeen (slots_of l.hub) l.seats l.number;
}
