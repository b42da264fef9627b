use Rattle.std.proofs.Common.{sym, arith, ◌∙◌}
use Rattle.std.specs.Prelude.{Err}
use Rattle.tp_model.specs.declared.refusal.Refusal.TheVariants.{BadSyntax}
use Rattle.tp_msg.proofs.Spelled.{accepted, refused, reading_long, reading_words}
use Rattle.tp_msg.proofs.reading.read_message.Goals as goal

pub returns-then-line-gt-MAX_LINE-clause-refused : goal.returns-then-line-gt-MAX_LINE-clause-refused
returns-then-line-gt-MAX_LINE-clause-refused c = refused c.args.line.now (Err BadSyntax) (reading_long c.args.line.now c.if-line-gt-MAX_LINE.true)

pub returns-clause-spelled : goal.returns-clause-spelled
returns-clause-spelled c =
    accepted c.args.line.now c.by_word.result
    (reading_words c.args.line.now _ _ c.by_word.result (omega (arith, c.if-line-gt-MAX_LINE.false)) (sym c.in_default.is ∙ c.one_word.ensures)
    c.cut.ensures.word c.cut.ensures.rest c.by_word.ensures)

pub returns-clause-refused : goal.returns-clause-refused
returns-clause-refused c =
    refused c.args.line.now c.by_word.result
    (reading_words c.args.line.now _ _ c.by_word.result (omega (arith, c.if-line-gt-MAX_LINE.false)) (sym c.in_default.is ∙ c.one_word.ensures)
    c.cut.ensures.word c.cut.ensures.rest c.by_word.ensures)
