use Rattle.std.proofs.Common.{◌≡◌, ◌*◌, ◌++◌, length, take, drop}
use Rattle.tp_lines.specs.Texts.{hexed}
use Rattle.tp_lines.proofs.text.hex.Given as goal

-- the digits so far, and those that are left
abbrev pub invariant-loop-i : goal.invariant-loop-i
invariant-loop-i l = record {
  digits : take (2 * l.i) l.out ++ hexed (drop l.i l.bytes) ≡ hexed l.bytes;
  len : length l.out ≡ length l.initial.out;
}
