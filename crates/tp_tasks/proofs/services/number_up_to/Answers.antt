use Rattle.std.proofs.Common.{rules}
use Rattle.clap.specs.Words.{found_of, rows_of}
use Rattle.tp_tasks.proofs.Arguments.{no_number_up_to, up_to_among}
use Rattle.tp_tasks.proofs.services.number_up_to.Goals as goal

pub returns-in_err-number : goal.returns-in_err-number
returns-in_err-number c =
    let lacks = no_number_up_to c.args.most c.args.id.now (rows_of (found_of c.args.arguments.now)) c.in_err-number.ensures in
    search (rules, lacks)

pub returns : goal.returns
returns c = up_to_among c.args.most c.args.id.now (rows_of (found_of c.args.arguments.now)) c.in_ok-number.number c.up_to.result c.in_ok-number.ensures c.up_to.ensures
