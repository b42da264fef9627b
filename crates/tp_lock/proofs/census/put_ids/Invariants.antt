use Rattle.std.proofs.Common.{◌≡◌, ◌+◌, ◌*◌, ◌++◌, ◌≤◌, drop, length, take}
use Rattle.tp_lock.specs.Census.{ids_text}
use Rattle.tp_lock.proofs.census.put_ids.Given as goal

-- the text so far, and that of the ids that are left
abbrev pub invariant-loop-id : goal.invariant-loop-id
invariant-loop-id l = record {
  line : take l.end l.out ++ ids_text (drop l.id-index l.ids) ≡ take l.at l.initial.out ++ ids_text l.ids;
  room : l.end ≤ l.at + 21 * l.id-index;
  len : length l.out ≡ length l.initial.out;
}
