use Rattle.std.proofs.Common.{◌≡◌, ◌<◌, ℕ, true}
use Rattle.tp_list_mapping.specs.List.{is_taken, volumes}
use Rattle.tp_list_mapping.proofs.device.find_free.Given as goal

abbrev pub invariant-loop-number : goal.invariant-loop-number
invariant-loop-number l = (other : ℕ) → other < l.number → is_taken (volumes l.devices) l.marks other ≡ true
