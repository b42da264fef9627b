-- Trusted reading: how a program ends.
use Rattle.std.specs.Prelude.{◌⊎◌, ℕ, List, Result, Ok, Err, ⊤}
use Rattle.tp_model.specs.declared.refusal.Refusal.{Refusal}
use Rattle.tp_tasks.specs.CommandLine.{AreWrong, AskHelp, NameScript, NameTask, Text}
use Rattle.tp_words.specs.declared.reading.NoWords.{NoWords}
use Rattle.tp_words.specs.declared.reading.NoWords.TheVariants.{NotUtf8, Memory}
use Rattle.tp_commands.specs.declared.scripts.Unplayed.{Unplayed}
use Rattle.tp_commands.specs.declared.scripts.Unplayed.TheVariants as why
use Rattle.tp_program.specs.declared.programs.Status.{Status}
use Rattle.tp_program.specs.declared.programs.Status.TheVariants.{Done, Refused, Misused}

abbrev pub status_code : Status → ℕ
status_code Done = 0
status_code Refused = 1
status_code Misused = 2

abbrev pub status_of : {A : Type 0} → Result A Refusal → Status
status_of (Ok x) = Done
status_of (Err reason) = Refused

-- of a task, where a script may have a bad line
abbrev pub status_after : Result (Unit {0}) Unplayed → Status
status_after (Ok x) = Done
status_after (Err (why.Refused reason)) = Refused
status_after (Err (why.BadLine n)) = Misused

-- where there are no words
abbrev pub status_without : NoWords → Status
status_without (NotUtf8 number) = Misused
status_without Memory = Refused

-- All was done only where the words name a task or ask for help; and they are a mistake only where they are wrong, or name a script, which may be.
abbrev pub EndsBy : List Text → Status → Type 0
EndsBy words Done = NameTask words ⊎ AskHelp words
EndsBy words Refused = ⊤
EndsBy words Misused = AreWrong words ⊎ NameScript words
