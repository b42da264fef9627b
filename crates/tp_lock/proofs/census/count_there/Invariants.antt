use Rattle.std.proofs.Common.{◌≡◌, ◌+◌, ◌≤◌, drop}
use Rattle.tp_lock.specs.Census.{there_in}
use Rattle.tp_lock.proofs.census.count_there.Given as goal

-- those that were counted, and those that are left, are all
abbrev pub invariant-loop-seat : goal.invariant-loop-seat
invariant-loop-seat l = record {
  count : l.count + there_in (drop l.seat-index l.seats) ≡ there_in l.seats;
  few : l.count ≤ l.seat-index;
}
