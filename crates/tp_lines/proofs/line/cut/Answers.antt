use Rattle.std.proofs.Common.{◌∙◌, ◌++◌, List, ℕ, ap, arith, take}
use Rattle.std.proofs.lemmas.List.{append-nil, drop_all, take_all}
use Rattle.tp_msg.specs.Messages.{first_word}
use Rattle.tp_lines.proofs.Splitting.{no_space}
use Rattle.tp_lines.proofs.line.cut.Goals as goal

pub returns : goal.returns
returns c =
    let text = c.args.text.now in
    let place = c.loop-place.place in
    no_space text (c.loop-place.invariant.word ∙ (ap (λ (l : List ℕ). take place text ++ first_word l) (drop_all place text (omega (arith, c.loop-place-test.false)))
    ∙ (append-nil (take place text) ∙ take_all place text (omega (arith, c.loop-place-test.false)))))
