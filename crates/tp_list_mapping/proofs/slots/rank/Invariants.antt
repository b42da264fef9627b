use Rattle.std.proofs.Common.{◌≡◌, ◌+◌, drop}
use Rattle.tp_list_mapping.specs.Slots.{rank_in}
use Rattle.tp_list_mapping.proofs.slots.rank.Given as goal

abbrev pub invariant-loop-i : goal.invariant-loop-i
invariant-loop-i l = rank_in l.block l.slots ≡ l.i + rank_in l.block (drop l.i l.slots)
