use Rattle.std.specs.Prelude.{codes}
use Rattle.clap.specs.Words.{new_app}
use Rattle.tp_tasks.specs.CommandLine.{text_rule}
use Rattle.tp_words.proofs.command_line.of_image.Goals as goal

pub returns : goal.returns
returns c = c.add_argument.ensures (new_app c.args.name.now) (text_rule (codes "IMAGE")) (c.named-command.ensures.app, c.named-command.ensures.local) (c.text.ensures.rule, c.text.ensures.local)
