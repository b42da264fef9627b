use Rattle.std.proofs.Common.{rules}
use Rattle.clap.specs.Words.{found_of, rows_of}
use Rattle.tp_tasks.proofs.Arguments.{clients_among, no_clients}
use Rattle.tp_tasks.proofs.tasks.clients_of.Goals as goal

pub returns-in_err-count : goal.returns-in_err-count
returns-in_err-count c =
    let lacks = no_clients (rows_of (found_of c.args.arguments.now)) c.in_err-count.ensures in
    search (rules, lacks)

pub returns : goal.returns
returns c = clients_among (rows_of (found_of c.args.arguments.now)) c.in_ok-count.count c.few_enough.result c.in_ok-count.ensures c.few_enough.ensures
