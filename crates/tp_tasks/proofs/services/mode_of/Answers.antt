use Rattle.std.proofs.Common.{rules}
use Rattle.clap.specs.Words.{found_of, rows_of}
use Rattle.tp_tasks.proofs.Arguments.{no_mode}
use Rattle.tp_tasks.proofs.services.mode_of.Goals as goal

pub returns-in_err-mode : goal.returns-in_err-mode
returns-in_err-mode c =
    let lacks = no_mode c.args.id.now (rows_of (found_of c.args.arguments.now)) c.in_ok-text.text.now c.in_ok-text.ensures c.in_err-mode.ensures in
    search (rules, lacks)
