use Rattle.std.proofs.Common.{◌≡◌, ◌<◌, ℕ, false, get_or, length}
use Rattle.tp_mapping.specs.List.{is_used}
use Rattle.tp_list_mapping.specs.List.{volumes}
use Rattle.tp_list_mapping.proofs.device.mark.Given as goal

abbrev pub invariant-loop-place : goal.invariant-loop-place
invariant-loop-place l = record {
  sized : length l.marks.items ≡ length l.fn.marks.items;
  below : (place : ℕ) → place < l.place → get_or l.marks.items place false ≡ is_used place (volumes l.fn.devices);
}
