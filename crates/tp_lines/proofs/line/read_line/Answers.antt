use Rattle.tp_lines.proofs.Splitting.{one_word, not_empty, not_text}
use Rattle.tp_lines.proofs.line.read_line.Goals as goal

pub returns-in_default : goal.returns-in_default
returns-in_default c = one_word c.args.text.now (not_empty c.args.text.now c.if-is_empty.ensures) (not_text c.args.text.now c.as_slice.result.now _ c.if-eq.ensures c.as_slice.ensures) c.in_default.ensures
