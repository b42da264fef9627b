use Rattle.std.specs.Prelude.{codes}
use Rattle.clap.specs.Words.{with_rule}
use Rattle.tp_tasks.specs.CommandLine.{flag_rule, image_app, option_rule, wanted_number_rule, wanted_rule}
use Rattle.tp_words.proofs.making.create_command.Goals as goal

pub returns : goal.returns
returns c =
    let one = with_rule (image_app (codes "create")) (wanted_rule (codes "SIZE") (codes "size")) in
    let two = with_rule one (wanted_rule (codes "VOLUME_SIZE") (codes "volume-size")) in
    let three = with_rule two (wanted_number_rule (codes "VOLUMES") (codes "volumes")) in
    let four = with_rule three (option_rule (codes "BLOCK_SIZE") (codes "block-size")) in
    c.with.ensures four (flag_rule (codes "OVERWRITE") (codes "overwrite"))
    (c.with-made-4.ensures three (option_rule (codes "BLOCK_SIZE") (codes "block-size"))
    (c.with-made-3.ensures two (wanted_number_rule (codes "VOLUMES") (codes "volumes"))
    (c.with-made-2.ensures one (wanted_rule (codes "VOLUME_SIZE") (codes "volume-size"))
    (c.with-made.ensures (image_app (codes "create")) (wanted_rule (codes "SIZE") (codes "size")) c.of_image-made.ensures (c.wanted.ensures.rule, c.wanted.ensures.local))
    (c.wanted-2.ensures.rule, c.wanted-2.ensures.local))
    (c.wanted_number.ensures.rule, c.wanted_number.ensures.local))
    (c.option.ensures.rule, c.option.ensures.local))
    (c.flag.ensures.rule, c.flag.ensures.local)
