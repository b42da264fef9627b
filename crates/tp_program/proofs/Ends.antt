-- How a program ends that did what its words name.
use Rattle.std.proofs.Common.{inl, inr, List, Result, Ok, Err}
use Rattle.std.specs.Prelude.{IfErr}
use Rattle.tp_tasks.specs.CommandLine.{AskFor, IsScript, Text}
use Rattle.tp_tasks.specs.declared.task.Asked.{Asked}
use Rattle.tp_commands.specs.declared.scripts.Unplayed.{Unplayed}
use Rattle.tp_commands.specs.declared.scripts.Unplayed.TheVariants.{Refused, BadLine}
use Rattle.tp_commands.specs.Scripts.{IsBadLine}
use Rattle.tp_program.specs.Statuses.{EndsBy, status_after}

pub ends_so : (words : List Text) (asked : Asked) (done : Result (Unit {0}) Unplayed) → AskFor words asked → IfErr done (λ why. IsBadLine why → IsScript asked.task) → EndsBy words (status_after done)
ends_so words asked (Ok x) (none, names, flag) script = inl (asked.task, none, names)
ends_so words asked (Err (Refused reason)) names script = tt
ends_so words asked (Err (BadLine n)) (none, names, flag) script = inr (asked.task, none, names, script tt)
