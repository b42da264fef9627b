use Rattle.std.proofs.Common.{List, Option, sym, subst}
use Rattle.std.specs.Prelude.{MatchOption}
use Rattle.std.specs.Box.{box_value}
use Rattle.clap.specs.Words.{Row, Text, found_of, rows_of}
use Rattle.clap.specs.declared.parser.matches.ArgMatches.TheViews.{out-ArgMatches, out-SubCommand}
use Rattle.tp_tasks.specs.CommandLine.{IsTaskOf, LacksTaskOf}
use Rattle.tp_tasks.proofs.Arguments.{both_parts}
use Rattle.tp_tasks.proofs.tasks.task_of.Goals as goal

pub returns : goal.returns
returns c =
    let found = both_parts (out-ArgMatches c.args.matches.now).subcommand (λ b. (out-SubCommand (box_value b)).name.now) (λ b. rows_of (found_of (out-SubCommand (box_value b)).matches))
    c.in_ok-name.name.now (rows_of (found_of c.in_ok-name.arguments.now)) c.in_ok-name.ensures.name c.in_ok-name.ensures.rows in
    subst (λ (o : Option (Text × List Row)). MatchOption c.task_named.result (LacksTaskOf o) (λ task. IsTaskOf o task)) (sym found) c.task_named.ensures
