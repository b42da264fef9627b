use Rattle.std.specs.Prelude.{codes}
use Rattle.clap.specs.Words.{with_rule}
use Rattle.tp_tasks.specs.CommandLine.{image_app, json_rule, number_rule}
use Rattle.tp_words.proofs.listing.map_command.Goals as goal

pub returns : goal.returns
returns c =
    let one = with_rule (image_app (codes "map")) (number_rule (codes "ID")) in
    c.with.ensures one json_rule
    (c.with-made.ensures (image_app (codes "map")) (number_rule (codes "ID")) c.of_image-made.ensures (c.number.ensures.rule, c.number.ensures.local))
    (c.json.ensures.rule, c.json.ensures.local)
