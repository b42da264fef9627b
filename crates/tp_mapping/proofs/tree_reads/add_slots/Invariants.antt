use Rattle.std.proofs.Common.{◌≡◌, ◌++◌, map, take}
use Rattle.tp_mapping.specs.Mapping.{IsLonger}
use Rattle.tp_mapping.specs.Telling.{as_slot}
use Rattle.tp_mapping.proofs.tree_reads.add_slots.Given as goal

abbrev pub invariant-loop-i : goal.invariant-loop-i
invariant-loop-i l = record {
  value : l.slots.items ≡ take 252 (l.fn.slots.items ++ map as_slot (take l.i l.fn.entries));
  longer : IsLonger l.fn.slots.items l.slots.items;
}
