use Rattle.std.proofs.Common.{◌≡◌, take}
use Rattle.tp_model.specs.Digits.{number_after}
use Rattle.tp_msg.proofs.numeral.number_of.Given as goal

abbrev pub invariant-loop-digit : goal.invariant-loop-digit
invariant-loop-digit l = record { value : l.number ≡ number_after 0 (take l.digit-index l.digits) }
