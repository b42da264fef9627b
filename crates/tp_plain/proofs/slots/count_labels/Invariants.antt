use Rattle.std.proofs.Common.{◌≡◌, ◌+◌, ◌≤◌, drop}
use Rattle.tp_model.specs.Pool.{different}
use Rattle.tp_plain.proofs.slots.count_labels.Given as goal

abbrev pub invariant-loop-i : goal.invariant-loop-i
invariant-loop-i l = record {
  bound : l.count ≤ l.i;
  total : l.count + different (drop l.i l.labels) ≡ different l.labels;
}
