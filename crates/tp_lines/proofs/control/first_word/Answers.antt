use Rattle.std.proofs.Common.{sym}
use Rattle.tp_lines.proofs.Splitting.{whole_word}
use Rattle.tp_lines.proofs.control.first_word.Goals as goal

pub returns-in-None : goal.returns-in-None
returns-in-None c = sym (whole_word c.args.text.now c.in-None.ensures)
