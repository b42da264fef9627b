use Rattle.std.specs.Prelude.{codes}
use Rattle.clap.specs.Words.{with_rule}
use Rattle.tp_tasks.specs.CommandLine.{extended_rule, image_app, text_rule}
use Rattle.tp_words.proofs.command_line.play_command.Goals as goal

pub returns : goal.returns
returns c =
    let one = with_rule (image_app (codes "play")) (text_rule (codes "SCRIPT")) in
    c.with.ensures one (extended_rule)
    (c.with-made.ensures (image_app (codes "play")) (text_rule (codes "SCRIPT")) c.of_image-made.ensures (c.text.ensures.rule, c.text.ensures.local))
    (c.extended.ensures.rule, c.extended.ensures.local)
