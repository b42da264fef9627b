use Rattle.std.proofs.Common.{rules}
use Rattle.clap.specs.Words.{found_of, rows_of}
use Rattle.tp_tasks.proofs.Arguments.{no_size}
use Rattle.tp_tasks.proofs.creating.size_of.Goals as goal

pub returns-in_err-size : goal.returns-in_err-size
returns-in_err-size c =
    let lacks = no_size c.args.id.now (rows_of (found_of c.args.arguments.now)) c.in_ok-text.text.now c.in_ok-text.ensures c.in_err-size.ensures in
    search (rules, lacks)
