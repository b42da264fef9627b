use Rattle.std.specs.Prelude.{codes}
use Rattle.clap.specs.Words.{with_rule}
use Rattle.tp_tasks.specs.CommandLine.{image_app, number_rule, option_rule, text_rule}
use Rattle.tp_words.proofs.command_line.serve_command.Goals as goal

pub returns : goal.returns
returns c =
    let one = with_rule (image_app (codes "serve")) (text_rule (codes "ADDR")) in
    let two = with_rule one (number_rule (codes "COUNT")) in
    c.with.ensures two (option_rule (codes "CONTROL") (codes "control"))
    (c.with-made-2.ensures one (number_rule (codes "COUNT"))
    (c.with-made.ensures (image_app (codes "serve")) (text_rule (codes "ADDR")) c.of_image-made.ensures (c.text.ensures.rule, c.text.ensures.local))
    (c.number.ensures.rule, c.number.ensures.local))
    (c.option.ensures.rule, c.option.ensures.local)
