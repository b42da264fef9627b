use Rattle.std.proofs.Common.{◌≡◌, true, take}
use Rattle.std.specs.Str.{all_ascii_digits}
use Rattle.tp_msg.proofs.numeral.all_digits.Given as goal

abbrev pub invariant-loop-digit : goal.invariant-loop-digit
invariant-loop-digit l = record { digits : all_ascii_digits (take l.digit-index l.text) ≡ true }
