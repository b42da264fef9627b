use Rattle.std.proofs.Common.{◌≡◌, ◌++◌, length, take}
use Rattle.tp_btree.specs.Walks.{IsLonger, from_key}
use Rattle.tp_btree.proofs.walks.add_leaf.Given as goal

abbrev pub invariant-loop-i : goal.invariant-loop-i
invariant-loop-i l = record {
  value : l.entries.items ≡ take 252 (l.fn.entries.items ++ from_key l.fn.from (take l.i l.fn.node.entries));
  longer : IsLonger l.fn.entries.items l.entries.items;
  end : l.i-end ≡ length l.fn.node.entries;
}
