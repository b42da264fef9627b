use Rattle.std.proofs.Common.{◌≡◌, ◌≤◌, ◌<◌, ◌+◌, ℕ, None, length}
use Rattle.std.specs.Prelude.{slice_index_or}
use Rattle.tp_btree.specs.Runs.{LeafTells}
use Rattle.tp_btree.proofs.look_up_run.tell_keys.Given as goal

abbrev pub invariant-loop-i : goal.invariant-loop-i
invariant-loop-i l = record {
  sized : length l.out ≡ length l.fn.out;
  from : l.from ≤ l.i;
  told : (i : ℕ) → l.from ≤ i → i < l.i → LeafTells l.tm l.kind (l.first + i) l.bytes l.is_shared (slice_index_or l.out i None);
  other : (i : ℕ) → i < l.from → slice_index_or l.out i None ≡ slice_index_or l.fn.out i None;
}
