-- Trusted reading: what is done where the words of a command line name a task (own).
use Rattle.std.specs.Prelude.{◌≡◌, ◌⊎◌, ◌≤◌, ℕ, Bool, List, [], Option, Some, Result, Ok, Err, MatchBool, MatchResult, if◌then◌else◌}
use Rattle.std.specs.Io.KnownBytes.{Keeps}
use Rattle.tp_model.specs.declared.refusal.Refusal.{Refusal}
use Rattle.tp_model.specs.declared.refusal.Refusal.TheVariants.{BadDeviceId, Fault}
use Rattle.nbd_session.specs.declared.phase.Profile.{Profile}
use Rattle.nbd_session.specs.declared.phase.Profile.TheVariants.{Strict, Extended}
use Rattle.tp_hub.specs.Streams.{StreamCall}
use Rattle.tp_images.specs.Deeds.{Deed}
use Rattle.tp_lines.specs.Pipes.{IsPiped}
use Rattle.tp_tasks.specs.CommandLine.{AreWrong, AskHelp, Name, Text, mistakes}
use Rattle.tp_tasks.specs.declared.task.Image.{Image}
use Rattle.tp_tasks.specs.declared.task.Image.TheVariants as kept
use Rattle.tp_tasks.specs.declared.task.Task.{Task}
use Rattle.tp_tasks.specs.declared.task.Task.TheVariants.{Format, Create, Message, Status, Check, Report, DeltaAt, Feed, Serve, Play, Run, Ask}
use Rattle.tp_failures.specs.declared.failure.Failure.{Failure}
use Rattle.tp_program.specs.declared.programs.Status as ends
use Rattle.tp_program.specs.declared.programs.Status.TheVariants as ending
use Rattle.tp_commands.specs.declared.scripts.Unplayed.{Unplayed}
use Rattle.tp_commands.specs.declared.scripts.Unplayed.TheVariants.{Refused}
use Rattle.tp_failures.specs.Failures.{number_of}
use Rattle.tp_commands.specs.Asking.{FormatsAsked}
use Rattle.tp_commands.specs.Creating.{Creates}
use Rattle.tp_commands.specs.Reporting.{AsksReport}
use Rattle.tp_commands.specs.Images.{IsChecked, IsCleared, IsFormatted, IsMessageGiven, IsStatusTold, IsTried}
use Rattle.tp_commands.specs.Scripts.{PlaysFirst, PlaysImage}
use Rattle.tp_commands.specs.Serving.{FeedsFirst, FeedsImage, ServesImage}
use Rattle.tp_program.specs.Statuses.{status_after}
use Rattle.tp_program.specs.Staying.{StaysImage}

-- ---- a status

-- A number that is no volume's id is refused before the image is asked for.
abbrev pub AsksStatus : List ℕ → Option ℕ → List Deed → List Deed → List StreamCall → List StreamCall → Result (Unit {0}) Refusal → Type 0
AsksStatus name id old new calls calls' result =
    ((number : ℕ) × (id ≡ Some number) × (16777216 ≤ number) × (result ≡ Err BadDeviceId) × (new ≡ old) × (calls' ≡ calls))
    ⊎ IsStatusTold name id old new calls calls' result

-- ---- a task

-- where no line of a script is told
abbrev pub plain_of : Result (Unit {0}) Failure → Result (Unit {0}) Unplayed
plain_of (Ok done) = Ok (tt {0})
plain_of (Err why) = Err (Refused why)

-- it is done so, and its refusal is told by its number
abbrev pub Plainly : Result (Unit {0}) Unplayed → (Result (Unit {0}) Refusal → Type 0) → Type 0
Plainly result IsDone = (done : Result (Unit {0}) Failure) × (result ≡ plain_of done) × IsDone (number_of done)

-- what is offered to the clients of standard input and of a script
abbrev pub offered : Bool → Profile
offered is_extended = if is_extended then Extended else Strict

-- a pool in memory, or that of an image
abbrev pub Feeds : Profile → Image → List Deed → List Deed → List StreamCall → List StreamCall → Result (Unit {0}) Refusal → Type 0
Feeds profile kept.Memory old new calls calls' result = (new ≡ old) × FeedsFirst profile calls calls' result
Feeds profile (kept.File name) old new calls calls' result = FeedsImage profile name.now old new calls calls' result

abbrev pub Plays : Profile → Image → List Deed → List Deed → List StreamCall → List StreamCall → Result (Unit {0}) Unplayed → Type 0
Plays profile kept.Memory old new calls calls' result = (new ≡ old) × PlaysFirst profile calls calls' result
Plays profile (kept.File name) old new calls calls' result = PlaysImage profile name.now old new calls calls' result

-- A task that has no script, by the number of its refusal. It reads and writes one stream, if any. asks: whether who wants to format is asked first.
abbrev pub DoesPlain : Bool → Task → List Deed → List Deed → List StreamCall → List StreamCall → Result (Unit {0}) Refusal → Type 0
DoesPlain asks (Format image sizes overwrites) old new calls calls' result =
    MatchBool asks (FormatsAsked image.now sizes overwrites old new calls calls' result) (IsFormatted image.now sizes overwrites old new calls calls' result)
DoesPlain asks (Create image wanted overwrites) old new calls calls' result = Creates asks image.now wanted overwrites old new calls calls' result
DoesPlain asks (Message image line) old new calls calls' result = IsMessageGiven image.now line.now old new calls calls' result
DoesPlain asks (Status image id) old new calls calls' result = AsksStatus image.now id old new calls calls' result
DoesPlain asks (Check image clears) old new calls calls' result = MatchBool clears (IsCleared image.now old new calls calls' result) (IsChecked image.now old new calls calls' result)
DoesPlain asks (Report image listing is_json) old new calls calls' result = AsksReport image.now listing is_json old new calls calls' result
DoesPlain asks (DeltaAt place one other is_json) old new calls calls' result = new ≡ old
DoesPlain asks (Feed image is_extended) old new calls calls' result = Feeds (offered is_extended) image old new calls calls' result
DoesPlain asks (Serve image address clients control) old new calls calls' result = (calls' ≡ calls) × ServesImage image.now clients old new result
DoesPlain asks (Play image script is_extended) old new calls calls' result = ⊥
DoesPlain asks (Run image service) old new calls calls' result = (calls' ≡ calls) × StaysImage image.now old new result
DoesPlain asks (Ask place lines) old new calls calls' result = new ≡ old

abbrev pub DoesOn : Bool → Task → List Deed → List Deed → List StreamCall → List StreamCall → Result (Unit {0}) Unplayed → Type 0
DoesOn asks task old new calls calls' result = Plainly result (DoesPlain asks task old new calls calls')

-- Why a script that was not opened is not played: the image's pool was not opened, which is told first, or that of the script, a fault.
abbrev pub LacksScript : Image → List Deed → List Deed → Failure → Type 0
LacksScript kept.Memory old new why = (new ≡ old) × (why.refusal ≡ Fault)
LacksScript (kept.File name) old new why =
    (tried : Result (Unit {0}) Refusal) × IsTried name.now old new tried × MatchResult tried (λ _. why.refusal ≡ Fault) (λ reason. why.refusal ≡ reason)

-- The script was not opened, and nothing was done but that the image's pool was opened and let go; or its lines were read from it, and their answers written to the output.
abbrev pub PlaysFile : Profile → Image → List Deed → List Deed → Option (List ℕ) → Option (List ℕ) → Result (Unit {0}) Unplayed → Type 0
PlaysFile profile image old new told told' result =
    ((why : Failure) × (result ≡ Err (Refused why)) × LacksScript image old new why × Keeps told told')
    ⊎ ((lines : Option (List ℕ)) × (lines' : Option (List ℕ)) × (did : List StreamCall) × IsPiped lines lines' told told' did × Plays profile image old new [] did result)

-- The task is done to images, of which these deeds stand before and behind it. left: what the input has left. told: what the output holds.
abbrev pub Does : Bool → Task → List Deed → List Deed → Option (List ℕ) → Option (List ℕ) → Option (List ℕ) → Option (List ℕ) → Result (Unit {0}) Unplayed → Type 0
Does asks (Play image script is_extended) old new left left' told told' result = Keeps left left' × PlaysFile (offered is_extended) image old new told told' result
Does asks task old new left left' told told' result = (did : List StreamCall) × IsPiped left left' told told' did × DoesOn asks task old new [] did result

-- ---- the program

-- The words name no task: they ask for help, which is told; or they are wrong; or there was no memory to read them.
abbrev pub NamesNothing : List Text → Option (List ℕ) → Option (List ℕ) → ends.Status → Type 0
NamesNothing words told told' status =
    (AskHelp words × ((status ≡ ending.Done) ⊎ (status ≡ ending.Refused)))
    ⊎ (AreWrong words × (status ≡ ending.Misused) × Keeps told told')
    ⊎ ((status ≡ ending.Refused) × Keeps told told')

-- The words name a task, which is done; or they name none, and no image is touched and nothing read.
abbrev pub Performs : Bool → List Text → List Deed → List Deed → Option (List ℕ) → Option (List ℕ) → Option (List ℕ) → Option (List ℕ) → ends.Status → Type 0
Performs asks words old new left left' told told' status =
    ((task : Task) × (mistakes words ≡ []) × Name words task × (result : Result (Unit {0}) Unplayed) × Does asks task old new left left' told told' result × (status ≡ status_after result))
    ⊎ ((new ≡ old) × Keeps left left' × NamesNothing words told told' status)
