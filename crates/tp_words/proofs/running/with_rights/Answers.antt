use Rattle.std.specs.Prelude.{codes}
use Rattle.clap.specs.Words.{with_rule}
use Rattle.tp_tasks.specs.CommandLine.{option_rule}
use Rattle.tp_words.proofs.running.with_rights.Goals as goal

pub returns : goal.returns
returns c before is =
    let mode = option_rule (codes "SOCKET_MODE") (codes "socket-mode") in
    c.with.ensures (with_rule before mode) (option_rule (codes "SOCKET_GROUP") (codes "socket-group"))
    (c.with-made.ensures before mode is (c.option.ensures.rule, c.option.ensures.local)) (c.option-2.ensures.rule, c.option-2.ensures.local)
