use Rattle.std.specs.Prelude.{codes}
use Rattle.tp_tasks.specs.CommandLine.{image_app, optional_number_rule}
use Rattle.tp_words.proofs.command_line.status_command.Goals as goal

pub returns : goal.returns
returns c =
    c.with.ensures (image_app (codes "status")) (optional_number_rule (codes "ID")) c.of_image-made.ensures (c.optional_number.ensures.rule, c.optional_number.ensures.local)
