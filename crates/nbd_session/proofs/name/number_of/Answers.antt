use Rattle.std.proofs.Common.{◌≡◌, ◌+◌, ◌++◌, ◌∷◌, [], refl, true, take, get_or, sym, ◌∙◌, arith}
use Rattle.std.specs.Char.{is_ascii_digit}
use Rattle.std.proofs.lemmas.List.{take_more, length-take}
use Rattle.tp_model.proofs.Digits.{digits-more, not_digits, number_after-more, number_small}
use Rattle.nbd_session.proofs.name.number_of.Goals as goal

pub returns-then-not-is_ascii_digit : goal.returns-then-not-is_ascii_digit
returns-then-not-is_ascii_digit c = not_digits c.args.text.now c.loop-digit.digit-index c.loop-digit-test.true (sym c.is_ascii_digit.ensures.value ∙ c.if-not-is_ascii_digit.true)

pub overflow_mul-number : goal.overflow_mul-number
overflow_mul-number c =
    let n = number_small (take c.loop-digit.digit-index c.args.text.now) 7 c.loop-digit.invariant.digits (omega (arith, length-take c.loop-digit.digit-index c.args.text.now)) in
    omega arith

pub overflow_add-number : goal.overflow_add-number
overflow_add-number c =
    let n = number_small (take c.loop-digit.digit-index c.args.text.now) 7 c.loop-digit.invariant.digits (omega (arith, length-take c.loop-digit.digit-index c.args.text.now)) in
    omega arith

pub loop-digit-preserved : goal.loop-digit-preserved
loop-digit-preserved c =
    let text = c.args.text.now in
    let i = c.loop-digit.digit-index in
    let more : take (i + 1) text ≡ take i text ++ (get_or text i 0 ∷ []) = take_more text i 0 c.loop-digit-test.true in
    let here : is_ascii_digit (get_or text i 0) ≡ true = sym c.is_ascii_digit.ensures.value ∙ c.if-not-is_ascii_digit.false in
    record {
      digits = rw more (digits-more (take i text) (get_or text i 0) c.loop-digit.invariant.digits here);
      value = rw (more, number_after-more 0 (take i text) (get_or text i 0), ← c.loop-digit.invariant.value) refl;
    }
