use Rattle.std.proofs.Common.{◌≡◌, ◌≢◌, ℕ, ◌<◌, drop, get_or}
use Rattle.tp_sharing.specs.Volumes.{BlockSlot, place_in}
use Rattle.tp_list_mapping.proofs.slots.find.Given as goal

abbrev pub invariant-loop-i : goal.invariant-loop-i
invariant-loop-i l = record {
  rest : place_in l.block l.slots ≡ place_in l.block (drop l.i l.slots);
  before : (d : BlockSlot) (j : ℕ) → j < l.i → (get_or l.slots j d).block ≢ l.block;
}
