use Rattle.std.proofs.Common.{◌≡◌, ◌++◌, take}
use Rattle.tp_mapping.specs.Mapping.{IsLonger, from_block}
use Rattle.tp_list_mapping.proofs.slots.add_all.Given as goal

abbrev pub invariant-loop-i : goal.invariant-loop-i
invariant-loop-i l = record {
  value : l.out.items ≡ take 252 (l.fn.out.items ++ from_block l.fn.from (take l.i l.fn.slots));
  longer : IsLonger l.fn.out.items l.out.items;
}
