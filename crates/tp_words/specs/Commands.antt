-- Internal: what the functions that make the commands answer.
use Rattle.std.specs.Prelude.{◌≡◌, false}
use Rattle.clap.specs.Words.{App, Rule, app_of, rule_of}
use Rattle.clap.specs.declared.builder.arg.Arg.{Arg}
use Rattle.clap.specs.declared.builder.command.Command.{Command}
use Rattle.clap.specs.declared.builder.command.Command.TheViews.{out-Command}

-- a command of this shape, of which no argument is for its subcommands too
abbrev pub IsMade : App → Command → Type 0
IsMade app command = (app_of command ≡ app) × ((out-Command command).has_globals ≡ false)

-- an argument of this rule, for its command alone
abbrev pub IsRuled : Rule → Arg → Type 0
IsRuled rule arg = (rule_of arg ≡ rule) × (arg.global ≡ false)
