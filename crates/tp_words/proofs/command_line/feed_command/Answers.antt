use Rattle.std.specs.Prelude.{codes}
use Rattle.tp_tasks.specs.CommandLine.{extended_rule, image_app}
use Rattle.tp_words.proofs.command_line.feed_command.Goals as goal

pub returns : goal.returns
returns c =
    c.with.ensures (image_app (codes "feed")) (extended_rule) c.of_image-made.ensures (c.extended.ensures.rule, c.extended.ensures.local)
