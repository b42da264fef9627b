use Rattle.std.proofs.Common.{◌≡◌, drop}
use Rattle.tp_lines.specs.Lines.{are_hex_digits}
use Rattle.tp_lines.proofs.line.are_hex_digits.Given as goal

-- what is left decides
abbrev pub invariant-loop-byte : goal.invariant-loop-byte
invariant-loop-byte l = record { left : are_hex_digits l.text ≡ are_hex_digits (drop l.byte-index l.text) }
