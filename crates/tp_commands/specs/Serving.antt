-- Trusted reading: what serving one client over the pool of a disk is, and many; and how it is told (own).
use Rattle.std.specs.Prelude.{◌≡◌, ◌⊎◌, ℕ, ◌≤◌, nat_lt, if◌then◌else◌, List, [], ◌∷◌, Some, Result, Ok, Err}
use Rattle.tp_model.specs.declared.refusal.Refusal.{Refusal}
use Rattle.tp_model.specs.declared.refusal.Refusal.TheVariants.{Fault, Memory, SessionInUse}
use Rattle.tp_model.specs.Disk.{DiskState}
use Rattle.tp_hub.specs.declared.answers.TheConstants.{MOST_BYTES}
use Rattle.tp_hub.specs.Told.{Told}
use Rattle.tp_hub.specs.Desks.{Exchange}
use Rattle.nbd_session.specs.declared.phase.Profile.{Profile}
use Rattle.tp_hub.specs.Carrying.{IsCarried}
use Rattle.tp_hub.specs.Streams.{Makes, StreamCall}
use Rattle.tp_hub.specs.declared.client.Carried.{Carried}
use Rattle.tp_hub.specs.declared.client.Carried.TheVariants.{EndOfInput, InUse, InputFailed, LastLost, NoMemory, OutputFailed, SessionOver}
use Rattle.tp_images.specs.Deeds.{Deed, OnImage, Refuses}
use Rattle.tp_images.specs.declared.way.Way.TheVariants.{ToWrite}
use Rattle.tp_commands.specs.Lives.{IsFirstLife, IsLifeOn, closing_of}
use Rattle.tp_commands.specs.Opening.{IsRefusedOn}

-- ---- how it is told

-- how a client ended
abbrev pub told_of : Carried → Result (Unit {0}) Refusal
told_of NoMemory = Err Memory
told_of InUse = Err SessionInUse
told_of SessionOver = Ok (tt {0})
told_of LastLost = Err Fault
told_of EndOfInput = Ok (tt {0})
told_of InputFailed = Ok (tt {0})
told_of OutputFailed = Err Fault

-- so many clients were wanted, so many came, and so many of them were refused memory or a thread
abbrev pub told_of_clients : ℕ → ℕ → ℕ → Result (Unit {0}) Refusal
told_of_clients wanted came refused = if nat_lt came wanted then Err Fault else (if nat_lt 0 refused then Err Memory else Ok (tt {0}))

-- that closing is refused is told first
abbrev pub told_behind : Result (Unit {0}) Refusal → Result (Unit {0}) Refusal → Result (Unit {0}) Refusal
told_behind (Ok done) told = told
told_behind (Err reason) told = Err reason

-- ---- one client

-- There was no memory for what is read, and nothing was asked, read or written; or the client of the stream was carried by a hub as its session 0, and offered this, over a buffer that takes the answers of a turn.
abbrev pub IsFed : Profile → List Exchange → List StreamCall → List StreamCall → Carried → Type 0
IsFed profile asks calls calls' ending =
    ((asks ≡ []) × (calls' ≡ calls) × (ending ≡ NoMemory)) ⊎ ((out : Told) × (out.most ≡ MOST_BYTES) × Makes calls calls' (λ did. IsCarried 0 profile out asks did ending))

-- The pool of a disk was opened, one client was served by a hub of its own over it, and it was closed; or it was not opened, and nothing was read or written.
abbrev pub FeedsOn : Profile → List StreamCall → List StreamCall → Result (Unit {0}) Refusal → DiskState → DiskState → Type 0
FeedsOn profile calls calls' result before after =
    ((reason : Refusal) × (result ≡ Err reason) × IsRefusedOn before after reason × (calls' ≡ calls))
    ⊎ ((asks : List Exchange) × (ending : Carried) × (closing : Result (Unit {0}) Refusal) × IsFed profile asks calls calls' ending
    × (result ≡ told_behind closing (told_of ending)) × IsLifeOn before after asks (Some (closing_of closing)))

-- The same of the image of a name, which was opened to write; or it was not, which is a fault, and nothing was read or written.
abbrev pub FeedsImage : Profile → List ℕ → List Deed → List Deed → List StreamCall → List StreamCall → Result (Unit {0}) Refusal → Type 0
FeedsImage profile name old new calls calls' result =
    ((new ≡ Refuses ToWrite name ∷ old) × (result ≡ Err Fault) × (calls' ≡ calls)) ⊎ OnImage ToWrite name old new (FeedsOn profile calls calls' result)

-- The same of the pool in memory; or it was not made.
abbrev pub FeedsFirst : Profile → List StreamCall → List StreamCall → Result (Unit {0}) Refusal → Type 0
FeedsFirst profile calls calls' result =
    ((reason : Refusal) × (result ≡ Err reason) × (calls' ≡ calls))
    ⊎ ((asks : List Exchange) × (ending : Carried) × (closing : Result (Unit {0}) Refusal) × IsFed profile asks calls calls' ending
    × (result ≡ told_behind closing (told_of ending)) × IsFirstLife asks (Some (closing_of closing)))

-- ---- many clients

-- The pool of a disk was opened, a hub over it was asked by clients and control lines, and it was closed; or it was opened, but its clients could not be waited for, which is a
-- fault, and the disk is as it was; or it was not opened. No more came than were wanted, and that all was done is told only where as many came, and none of them was refused.
abbrev pub ServesOn : ℕ → Result (Unit {0}) Refusal → DiskState → DiskState → Type 0
ServesOn wanted result before after =
    ((reason : Refusal) × (result ≡ Err reason) × IsRefusedOn before after reason)
    ⊎ ((result ≡ Err Fault) × (after ≡ before))
    ⊎ ((asks : List Exchange) × (came : ℕ) × (refused : ℕ) × (closing : Result (Unit {0}) Refusal) × (came ≤ wanted) × (refused ≤ came)
    × (result ≡ told_behind closing (told_of_clients wanted came refused)) × IsLifeOn before after asks (Some (closing_of closing)))

-- The same of the image of a name, which was opened to write; or it was not, which is a fault.
abbrev pub ServesImage : List ℕ → ℕ → List Deed → List Deed → Result (Unit {0}) Refusal → Type 0
ServesImage name wanted old new result = ((new ≡ Refuses ToWrite name ∷ old) × (result ≡ Err Fault)) ⊎ OnImage ToWrite name old new (ServesOn wanted result)
