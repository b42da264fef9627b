-- Trusted reading: what playing a script over the pool of a disk does, and what is told of it (own).
use Rattle.std.specs.Prelude.{◌≡◌, ◌⊎◌, ℕ, Bool, true, false, List, ◌∷◌, MatchBool, None, Some, Result, Ok, Err}
use Rattle.tp_model.specs.declared.refusal.Refusal.{Refusal}
use Rattle.tp_model.specs.declared.refusal.Refusal.TheVariants as refusals
use Rattle.tp_model.specs.Disk.{DiskState}
use Rattle.nbd_session.specs.declared.phase.Profile.{Profile}
use Rattle.tp_hub.specs.Desks.{Exchange}
use Rattle.tp_hub.specs.Streams.{Makes, StreamCall}
use Rattle.tp_images.specs.Deeds.{Deed, OnImage, Refuses}
use Rattle.tp_images.specs.declared.way.Way.TheVariants.{ToWrite}
use Rattle.tp_lines.specs.declared.play.Stopped.{Stopped}
use Rattle.tp_lines.specs.declared.play.Stopped.TheVariants as stopped
use Rattle.tp_lines.specs.Plays.{PlaysScript}
use Rattle.tp_lines.specs.ReadLines.{one_more}
use Rattle.tp_failures.specs.declared.failure.Failure.{Failure}
use Rattle.tp_commands.specs.declared.scripts.Unplayed.{Unplayed}
use Rattle.tp_commands.specs.declared.scripts.Unplayed.TheVariants.{Refused, BadLine}
use Rattle.tp_commands.specs.Lives.{IsFirstLife, IsLifeOn, closing_of}
use Rattle.tp_commands.specs.Opening.{IsRefusedOn}

-- ---- what is told

abbrev pub IsBadLine : Unplayed → Type 0
IsBadLine (Refused why) = ⊥
IsBadLine (BadLine n) = Unit {0}

-- a line is none
abbrev pub is_bad : Result (Unit {0}) Stopped → Bool
is_bad (Ok done) = false
is_bad (Err stopped.BadLine) = true
is_bad (Err stopped.Memory) = false
is_bad (Err stopped.Output) = false
is_bad (Err stopped.Script) = false

-- it is refused by this number
abbrev pub IsRefusedBy : Refusal → Result (Unit {0}) Unplayed → Type 0
IsRefusedBy reason result = (why : Failure) × (result ≡ Err (Refused why)) × (why.refusal ≡ reason)

-- What is told behind closing: that it is refused first. All was done where the script was played to its end, and its answers were written.
abbrev pub IsTold : Result (Unit {0}) Stopped → Result (Unit {0}) Refusal → Result (Unit {0}) Unplayed → Type 0
IsTold ended (Err reason) result = IsRefusedBy reason result
IsTold (Ok done) (Ok closed) result = result ≡ Ok (tt {0})
IsTold (Err stopped.BadLine) (Ok closed) result = ⊥
IsTold (Err stopped.Memory) (Ok closed) result = IsRefusedBy refusals.Memory result
IsTold (Err stopped.Output) (Ok closed) result = IsRefusedBy refusals.Fault result
IsTold (Err stopped.Script) (Ok closed) result = IsRefusedBy refusals.Fault result

-- ---- what is done

-- profile: what is offered to each client. The pool of a disk was opened, and a hub over it was asked what the lines of a script are, which was read from the stream to which the answers were written; then it was closed. At
-- a line that is none it was let go without that, and the line is told by its number. Or the pool was not opened, and nothing was read or written.
abbrev pub PlaysOn : Profile → List StreamCall → List StreamCall → Result (Unit {0}) Unplayed → DiskState → DiskState → Type 0
PlaysOn profile calls calls' result before after =
    ((why : Failure) × (result ≡ Err (Refused why)) × IsRefusedOn before after why.refusal × (calls' ≡ calls))
    ⊎ ((asks : List Exchange) × (played : ℕ) × (ended : Result (Unit {0}) Stopped) × Makes calls calls' (λ did. PlaysScript profile asks did played ended)
    × MatchBool (is_bad ended)
    ((result ≡ Err (BadLine (one_more played))) × IsLifeOn before after asks None)
    ((closing : Result (Unit {0}) Refusal) × IsTold ended closing result × IsLifeOn before after asks (Some (closing_of closing))))

-- The same of the image of a name, which was opened to write; or it was not, which is a fault, and nothing was read or written.
abbrev pub PlaysImage : Profile → List ℕ → List Deed → List Deed → List StreamCall → List StreamCall → Result (Unit {0}) Unplayed → Type 0
PlaysImage profile name old new calls calls' result =
    ((new ≡ Refuses ToWrite name ∷ old) × IsRefusedBy refusals.Fault result × (calls' ≡ calls)) ⊎ OnImage ToWrite name old new (PlaysOn profile calls calls' result)

-- The same of the pool in memory; or it was not made.
abbrev pub PlaysFirst : Profile → List StreamCall → List StreamCall → Result (Unit {0}) Unplayed → Type 0
PlaysFirst profile calls calls' result =
    ((why : Failure) × (result ≡ Err (Refused why)) × (calls' ≡ calls))
    ⊎ ((asks : List Exchange) × (played : ℕ) × (ended : Result (Unit {0}) Stopped) × Makes calls calls' (λ did. PlaysScript profile asks did played ended)
    × MatchBool (is_bad ended)
    ((result ≡ Err (BadLine (one_more played))) × IsFirstLife asks None)
    ((closing : Result (Unit {0}) Refusal) × IsTold ended closing result × IsFirstLife asks (Some (closing_of closing))))
