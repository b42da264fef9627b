use Rattle.tp_lines.proofs.Paging.{one_word_page}
use Rattle.tp_lines.proofs.pages.read_page.Goals as goal

pub returns-in_default : goal.returns-in_default
returns-in_default c = one_word_page c.args.text.now c.in_default.ensures
