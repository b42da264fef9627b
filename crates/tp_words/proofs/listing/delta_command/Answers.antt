use Rattle.std.specs.Prelude.{codes}
use Rattle.clap.specs.Words.{with_rule}
use Rattle.tp_tasks.specs.CommandLine.{at_rule, image_app, json_rule, number_rule}
use Rattle.tp_words.proofs.listing.delta_command.Goals as goal

pub returns : goal.returns
returns c =
    let one = with_rule (image_app (codes "delta")) (number_rule (codes "OLD")) in
    let two = with_rule one (number_rule (codes "NEW")) in
    let three = with_rule two json_rule in
    c.with.ensures three at_rule
    (c.with-made-3.ensures two json_rule
    (c.with-made-2.ensures one (number_rule (codes "NEW"))
    (c.with-made.ensures (image_app (codes "delta")) (number_rule (codes "OLD")) c.of_image-made.ensures (c.number.ensures.rule, c.number.ensures.local))
    (c.number-2.ensures.rule, c.number-2.ensures.local))
    (c.json.ensures.rule, c.json.ensures.local))
    (c.in_use.ensures.rule, c.in_use.ensures.local)
