use Rattle.std.proofs.Common.{◌≡◌, ◌++◌, ◌≤◌, drop, length}
use Rattle.tp_lock.specs.Census.{held_in}
use Rattle.tp_lock.proofs.census.held_ids.Given as goal

-- the ids so far, and those that are left
abbrev pub invariant-loop-seat : goal.invariant-loop-seat
invariant-loop-seat l = record {
  ids : l.ids.items ++ held_in (drop l.seat-index l.seats) ≡ held_in l.seats;
  few : length l.ids.items ≤ l.seat-index;
}
