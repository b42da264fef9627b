-- Internal: a client whose stream may be told to be at its end before it is, and what is made of its socket (own).
use Rattle.std.specs.Prelude.{◌≡◌, ℕ, Bool, true, false, List, [], ◌∷◌, ◌++◌, ◌⊎◌}
use Rattle.tp_model.specs.Clauses.{View}
use Rattle.nbd_session.specs.declared.phase.Profile.{Profile}
use Rattle.tp_hub.specs.declared.answers.TheConstants.{MOST_BYTES}
use Rattle.tp_hub.specs.Told.{Told}
use Rattle.tp_hub.specs.Desks.{Exchange}
use Rattle.tp_hub.specs.Streams.{Flushes, Gave, GaveAgain, GaveEnd, GaveNone, StreamCall, Took, TookAgain, TookNone}
use Rattle.tp_hub.specs.Carrying.{IsCarried}
use Rattle.tp_hub.specs.declared.client.Carried.{Carried}
use Rattle.tp_hub.specs.declared.client.Carried.TheVariants.{EndOfInput, InUse, InputFailed, LastLost, NoMemory, OutputFailed, SessionOver}
use Rattle.tp_lines.specs.ReadLines.{Leads}
use Rattle.tp_lock.specs.Locked.{SomeRuns}

-- a call, but that a read came to the end
abbrev pub but_end : StreamCall → List StreamCall
but_end (Gave bytes) = Gave bytes ∷ []
but_end GaveAgain = GaveAgain ∷ []
but_end GaveEnd = []
but_end GaveNone = GaveNone ∷ []
but_end (Took bytes) = Took bytes ∷ []
but_end TookAgain = TookAgain ∷ []
but_end TookNone = TookNone ∷ []
but_end (Flushes done) = Flushes done ∷ []

-- All calls of a stream, in order, but the reads that came to the end.
abbrev pub but_ends : List StreamCall → List StreamCall
but_ends [] = []
but_ends (call ∷ calls) = but_end call ++ but_ends calls

-- there was memory for its session and for its answers
abbrev pub has_memory : Carried → Bool
has_memory NoMemory = false
has_memory InUse = true
has_memory SessionOver = true
has_memory LastLost = true
has_memory EndOfInput = true
has_memory InputFailed = true
has_memory OutputFailed = true

-- A client was carried to its end over a buffer that takes the answers of a turn; or there was no memory for the bytes that are read of it, and nothing was asked, read or written. carried: whether there was memory for it.
abbrev pub IsVisit : ℕ → Profile → List Exchange → List StreamCall → Bool → Type 0
IsVisit n profile asks calls carried = ((asks ≡ []) × (calls ≡ []) × (carried ≡ false)) ⊎ ((out : Told) × (ending : Carried) × (out.most ≡ MOST_BYTES) × IsCarried n profile out asks calls ending × (carried ≡ has_memory ending))

-- The same of a stream that may be told to be at its end: these calls were made of it, but for its ends.
abbrev pub IsGuest : ℕ → Profile → List Exchange → List StreamCall → Type 0
IsGuest n profile asks did = (calls : List StreamCall) × (carried : Bool) × (did ≡ but_ends calls) × IsVisit n profile asks calls carried

-- A client of a hub behind a lock was carried so; what becomes of the hub between two asks is not said. made: the calls of its socket.
abbrev pub CarriesGuest : {D : Type 0} → View D → ℕ → Profile → List StreamCall → List StreamCall → Type 0
CarriesGuest view n profile made made' = Leads {D = Unit {0}} (λ at took answers at'. SomeRuns view took answers) (λ asks did. IsGuest n profile asks did) tt tt (but_ends made) (but_ends made')
