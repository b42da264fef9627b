use Rattle.std.proofs.Common.{rules}
use Rattle.clap.specs.Words.{found_of, rows_of}
use Rattle.tp_tasks.proofs.Arguments.{no_number, no_text}
use Rattle.tp_tasks.proofs.tasks.number_of.Goals as goal

pub returns-in_err-text : goal.returns-in_err-text
returns-in_err-text c =
    let lacks = no_text c.args.id.now (rows_of (found_of c.args.arguments.now)) c.in_err-text.ensures in
    search (rules, lacks)

pub returns-in_err-number : goal.returns-in_err-number
returns-in_err-number c =
    let lacks = no_number c.args.id.now (rows_of (found_of c.args.arguments.now)) c.in_ok-text.text.now c.in_ok-text.ensures c.in_err-number.ensures in
    search (rules, lacks)

pub returns : goal.returns
returns c = (c.in_ok-text.text.now, c.in_ok-text.ensures, c.in_ok-number.ensures)
