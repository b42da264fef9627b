use Rattle.std.proofs.Common.{◌≡◌, ◌*◌, ◌++◌, length, take, drop}
use Rattle.tp_lines.specs.Lines.{bytes_of}
use Rattle.tp_lines.proofs.hex.unhex.Given as goal

-- the bytes so far, and those that are left
abbrev pub invariant-loop-i : goal.invariant-loop-i
invariant-loop-i l = record {
  bytes : take l.i l.out ++ bytes_of (drop (2 * l.i) l.digits) ≡ bytes_of l.digits;
  len : length l.out ≡ length l.initial.out;
}
