use Rattle.std.proofs.Common.{◌≡◌, ◌+◌, ◌++◌, ◌∷◌, [], true, take, get_or, sym, ◌∙◌}
use Rattle.std.specs.Char.{is_ascii_digit}
use Rattle.std.proofs.lemmas.List.{take_more}
use Rattle.tp_model.proofs.Digits.{digits-more, not_digits}
use Rattle.tp_msg.proofs.numeral.all_digits.Goals as goal

pub returns-then-not-is_ascii_digit : goal.returns-then-not-is_ascii_digit
returns-then-not-is_ascii_digit c =
    sym (not_digits c.args.text.now c.loop-digit.digit-index c.loop-digit-test.true (sym c.is_ascii_digit.ensures.value ∙ c.if-not-is_ascii_digit.true))

pub loop-digit-preserved : goal.loop-digit-preserved
loop-digit-preserved c =
    let text = c.args.text.now in
    let i = c.loop-digit.digit-index in
    let more : take (i + 1) text ≡ take i text ++ (get_or text i 0 ∷ []) = take_more text i 0 c.loop-digit-test.true in
    let here : is_ascii_digit (get_or text i 0) ≡ true = sym c.is_ascii_digit.ensures.value ∙ c.if-not-is_ascii_digit.false in
    record { digits = rw more (digits-more (take i text) (get_or text i 0) c.loop-digit.invariant.digits here) }
