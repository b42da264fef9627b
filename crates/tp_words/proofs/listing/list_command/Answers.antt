use Rattle.std.specs.Prelude.{codes}
use Rattle.tp_tasks.specs.CommandLine.{image_app, json_rule}
use Rattle.tp_words.proofs.listing.list_command.Goals as goal

pub returns : goal.returns
returns c = c.with.ensures (image_app (codes "ls")) json_rule c.of_image-made.ensures (c.json.ensures.rule, c.json.ensures.local)
