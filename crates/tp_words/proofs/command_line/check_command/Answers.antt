use Rattle.std.specs.Prelude.{codes}
use Rattle.tp_tasks.specs.CommandLine.{flag_rule, image_app}
use Rattle.tp_words.proofs.command_line.check_command.Goals as goal

pub returns : goal.returns
returns c =
    c.with.ensures (image_app (codes "check")) (flag_rule (codes "CLEAR") (codes "clear-needs-check-flag")) c.of_image-made.ensures (c.flag.ensures.rule, c.flag.ensures.local)
