use Rattle.std.specs.Prelude.{codes}
use Rattle.tp_tasks.specs.CommandLine.{image_app, text_rule}
use Rattle.tp_words.proofs.command_line.message_command.Goals as goal

pub returns : goal.returns
returns c =
    c.with.ensures (image_app (codes "message")) (text_rule (codes "LINE")) c.of_image-made.ensures (c.text.ensures.rule, c.text.ensures.local)
