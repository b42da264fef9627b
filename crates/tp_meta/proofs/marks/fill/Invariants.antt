use Rattle.std.proofs.Common.{◌≡◌, ◌≤◌, ◌<◌, ℕ, length}
use Rattle.std.specs.Prelude.{vec_capacity}
use Rattle.tp_meta.specs.Marking.{IsOneOf}
use Rattle.tp_meta.proofs.marks.fill.Given as goal

abbrev pub invariant-loop-i : goal.invariant-loop-i
invariant-loop-i l = record {
  long : length l.places.items ≡ l.i;
  each : (n : ℕ) → n < l.i → IsOneOf n l.places.items;
  capacity : 4096 ≤ vec_capacity l.places;
}
