-- How a task that was done is told, and what is done where the words name one.
use Rattle.std.proofs.Common.{◌≡◌, inl, ℕ, Bool, List, [], Option, None, Some, Result, Ok, Err, refl, subst, sym}
use Rattle.std.specs.Prelude.{IfErr}
use Rattle.std.specs.Io.KnownBytes.{Keeps}
use Rattle.tp_hub.specs.Streams.{StreamCall}
use Rattle.tp_images.specs.Deeds.{Deed}
use Rattle.tp_lines.specs.Pipes.{IsPiped}
use Rattle.tp_tasks.specs.CommandLine.{AskFor, IsScript, Text}
use Rattle.tp_tasks.specs.declared.task.Asked.{Asked}
use Rattle.tp_tasks.specs.declared.task.Task.{Task}
use Rattle.tp_tasks.specs.declared.task.Task.TheVariants.{Format, Create, Message, Status, Check, Report, DeltaAt, Feed, Serve, Play, Run, Ask}
use Rattle.tp_failures.specs.declared.failure.Failure.{Failure}
use Rattle.tp_commands.specs.declared.scripts.Unplayed.{Unplayed}
use Rattle.tp_commands.specs.Scripts.{IsBadLine}
use Rattle.tp_program.specs.Statuses.{EndsBy, status_after}
use Rattle.tp_program.specs.Tasks.{Does, DoesOn, Performs, plain_of}
use Rattle.tp_program.proofs.Ends.{ends_so}

-- nothing is read or written
pub keeps_same : (bytes : Option (List ℕ)) → Keeps bytes bytes
keeps_same None = tt
keeps_same (Some xs) = refl

plain_is_good : (result : Result (Unit {0}) Unplayed) (done : Result (Unit {0}) Failure) → result ≡ plain_of done → IfErr result (λ why. IsBadLine why → ⊥)
plain_is_good result (Ok x) e = subst (λ (r : Result (Unit {0}) Unplayed). IfErr r (λ why. IsBadLine why → ⊥)) (sym e) tt
plain_is_good result (Err why) e = subst (λ (r : Result (Unit {0}) Unplayed). IfErr r (λ why. IsBadLine why → ⊥)) (sym e) (λ bad. bad)

script_may : (result : Result (Unit {0}) Unplayed) → IfErr result (λ why. IsBadLine why → Unit {0})
script_may (Ok x) = tt
script_may (Err why) = λ bad. tt

module _ (asks : Bool) (old new : List Deed) (left left' told told' : Option (List ℕ)) (result : Result (Unit {0}) Unplayed) where
  -- a task that has no script is done on a stream
  pub does_streamed : (task : Task) → (IsScript task → ⊥) → ((did : List StreamCall) × IsPiped left left' told told' did × DoesOn asks task old new [] did result) → Does asks task old new left left' told told' result
  does_streamed (Format image sizes overwrites) none done = done
  does_streamed (Create image wanted overwrites) none done = done
  does_streamed (Message image line) none done = done
  does_streamed (Status image id) none done = done
  does_streamed (Check image clears) none done = done
  does_streamed (Report image listing is_json) none done = done
  does_streamed (DeltaAt place one other is_json) none done = done
  does_streamed (Feed image is_extended) none done = done
  does_streamed (Serve image address clients control) none done = done
  does_streamed (Play image script is_extended) none done = absurd (none tt)
  does_streamed (Run image service) none done = done
  does_streamed (Ask place lines) none done = done

  -- only a script has a bad line
  pub bad_line_is_script : (task : Task) → Does asks task old new left left' told told' result → IfErr result (λ why. IsBadLine why → IsScript task)
  bad_line_is_script (Format image sizes overwrites) done = plain_is_good result done.2.0 done.2.1
  bad_line_is_script (Create image wanted overwrites) done = plain_is_good result done.2.0 done.2.1
  bad_line_is_script (Message image line) done = plain_is_good result done.2.0 done.2.1
  bad_line_is_script (Status image id) done = plain_is_good result done.2.0 done.2.1
  bad_line_is_script (Check image clears) done = plain_is_good result done.2.0 done.2.1
  bad_line_is_script (Report image listing is_json) done = plain_is_good result done.2.0 done.2.1
  bad_line_is_script (DeltaAt place one other is_json) done = plain_is_good result done.2.0 done.2.1
  bad_line_is_script (Feed image is_extended) done = plain_is_good result done.2.0 done.2.1
  bad_line_is_script (Serve image address clients control) done = plain_is_good result done.2.0 done.2.1
  bad_line_is_script (Play image script is_extended) done = script_may result
  bad_line_is_script (Run image service) done = plain_is_good result done.2.0 done.2.1
  bad_line_is_script (Ask place lines) done = plain_is_good result done.2.0 done.2.1

  pub ended : (words : List Text) (asked : Asked) → AskFor words asked → Does asks asked.task old new left left' told told' result → EndsBy words (status_after result)
  ended words asked names done = ends_so words asked result names (bad_line_is_script asked.task done)

  pub performed : (words : List Text) (asked : Asked) → AskFor words asked → Does asks asked.task old new left left' told told' result → Performs asks words old new left left' told told' (status_after result)
  performed words asked (none, names, flag) done = inl (asked.task, none, names, result, done, refl)
