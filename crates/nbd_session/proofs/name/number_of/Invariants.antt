use Rattle.std.proofs.Common.{◌≡◌, true, take}
use Rattle.std.specs.Str.{all_ascii_digits}
use Rattle.tp_model.specs.Digits.{number_after}
use Rattle.nbd_session.proofs.name.number_of.Given as goal

-- the digits so far, and their number
abbrev pub invariant-loop-digit : goal.invariant-loop-digit
invariant-loop-digit l = record {
  digits : all_ascii_digits (take l.digit-index l.text) ≡ true;
  value : l.number ≡ number_after 0 (take l.digit-index l.text);
}
