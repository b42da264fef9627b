use Rattle.std.proofs.Common.{◌∙◌, ◌||◌, Bool, List, Option, ap, ap₂, subst}
use Rattle.clap.specs.Words.{Row, Text}
use Rattle.tp_tasks.specs.CommandLine.{IsTaskOf, LacksTaskOf, is_explained_after}
use Rattle.tp_words.proofs.command_line.asked_in.Goals as goal

pub returns-in-Some : goal.returns-in-Some
returns-in-Some c words none rows flag = (
  none,
  subst (λ (o : Option (Text × List Row)). IsTaskOf o c.in-Some.task) rows c.in-Some.ensures,
  ap₂ (λ (x y : Bool). x || y) flag (c.is_explained_after-after.ensures ∙ ap is_explained_after rows),
)

pub returns-in-None : goal.returns-in-None
returns-in-None c words none rows flag = c.misused.ensures words none (subst LacksTaskOf rows c.in-None.ensures)
