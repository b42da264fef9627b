use Rattle.std.proofs.Common.{refl, ◌∙◌}
use Rattle.tp_msg.proofs.Lines.{open_line_is}
use Rattle.tp_msg.proofs.status.put_open_line.Goals as goal

pub returns-clause-line : goal.returns-clause-line
returns-clause-line c =
    open_line_is c.args.status.now _ _ _ _ _ _ _ _ _ c.as_bytes.result.now c.as_bytes-2.result.now
    c.put_figures-after_figures.ensures.line c.put-held.ensures.line c.put_held-after_held.ensures.line refl
    c.put-mode.ensures.line
    c.put-after_mode.ensures.line (c.as_bytes.ensures.value ∙ c.mode_word_of.ensures.word)
    c.put-check.ensures.line
    c.put-after_check.ensures.line (c.as_bytes-2.ensures.value ∙ c.check_word_of.ensures.word)
    c.put.ensures.line
