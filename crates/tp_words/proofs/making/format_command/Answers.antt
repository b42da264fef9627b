use Rattle.std.specs.Prelude.{codes}
use Rattle.clap.specs.Words.{with_rule}
use Rattle.tp_tasks.specs.CommandLine.{flag_rule, image_app, number_rule}
use Rattle.tp_words.proofs.making.format_command.Goals as goal

pub returns : goal.returns
returns c =
    let one = with_rule (image_app (codes "format")) (number_rule (codes "BLOCK_SECTORS")) in
    let two = with_rule one (number_rule (codes "VIRTUAL_BLOCKS")) in
    let three = with_rule two (number_rule (codes "METADATA_BLOCKS")) in
    let four = with_rule three (number_rule (codes "DATA_BLOCKS")) in
    c.with.ensures four (flag_rule (codes "OVERWRITE") (codes "overwrite"))
    (c.with-made-4.ensures three (number_rule (codes "DATA_BLOCKS"))
    (c.with-made-3.ensures two (number_rule (codes "METADATA_BLOCKS"))
    (c.with-made-2.ensures one (number_rule (codes "VIRTUAL_BLOCKS"))
    (c.with-made.ensures (image_app (codes "format")) (number_rule (codes "BLOCK_SECTORS")) c.of_image-made.ensures (c.number.ensures.rule, c.number.ensures.local))
    (c.number-2.ensures.rule, c.number-2.ensures.local))
    (c.number-3.ensures.rule, c.number-3.ensures.local))
    (c.number-4.ensures.rule, c.number-4.ensures.local))
    (c.flag.ensures.rule, c.flag.ensures.local)
