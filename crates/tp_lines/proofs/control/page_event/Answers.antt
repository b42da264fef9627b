use Rattle.std.proofs.Common.{◌∙◌, ap}
use Rattle.tp_lines.specs.Pages.{page_spelling}
use Rattle.tp_lines.proofs.control.page_event.Goals as goal

pub returns-in-Size : goal.returns-in-Size
returns-in-Size c = let good = rw c.in-Size.is at c.requires.good in (good, c.requires.spelled ∙ ap page_spelling c.in-Size.is)

pub returns-in-Map : goal.returns-in-Map
returns-in-Map c = let good = rw c.in-Map.is at c.requires.good in (good, c.requires.spelled ∙ ap page_spelling c.in-Map.is)

pub returns-in-Delta : goal.returns-in-Delta
returns-in-Delta c = let good = rw c.in-Delta.is at c.requires.good in (good, c.requires.spelled ∙ ap page_spelling c.in-Delta.is)
