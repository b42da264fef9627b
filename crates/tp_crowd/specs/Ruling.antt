-- Internal: how control lines are answered beside clients, and by those who serve without end (own).
use Rattle.std.specs.Prelude.{◌≡◌, ◌⊎◌, ℕ, List, [], ◌∷◌, codes}
use Rattle.tp_model.specs.declared.refusal.Refusal.TheVariants.{Memory}
use Rattle.tp_model.specs.Clauses.{View}
use Rattle.tp_hub.specs.declared.seat.Seat.{Seat}
use Rattle.tp_hub.specs.Told.{Accepts, Answer, Grows, Lines, Refuses, Told}
use Rattle.tp_hub.specs.Runs.{AsksFlush, Incoming, Orders}
use Rattle.tp_hub.specs.Serving.{Slots}
use Rattle.tp_hub.specs.Streams.{StreamCall}
use Rattle.tp_lines.specs.declared.control.LinesEnd.{LinesEnd}
use Rattle.tp_lines.specs.Controls.{AttendsLines}
use Rattle.tp_lines.specs.ReadLines.{Leads}
use Rattle.tp_crowd.specs.declared.ruling.Command.{Command}
use Rattle.tp_crowd.specs.declared.ruling.Command.TheVariants.{Stop, StopNow, Flush, Clients, Health}
use Rattle.tp_lock.specs.Census.{AreSeats, IsCensus}
use Rattle.tp_lock.specs.Health.{IsHealth}
use Rattle.tp_lock.specs.declared.health.Health as health
use Rattle.tp_lock.specs.Locked.{SomeRuns}

-- Control lines are read from a stream, and each is asked for once and answered; what becomes of the hub between two of them is not said. told: the calls of the stream.
abbrev pub AnswersControl : {D : Type 0} → View D → List StreamCall → List StreamCall → LinesEnd → Type 0
AnswersControl view told told' ending = Leads {D = Unit {0}} (λ at took answers at'. SomeRuns view took answers) (λ asks did. AttendsLines asks did ending) tt tt told told'

-- the lines that are no message to the pool
abbrev pub IsCommand : List ℕ → Command → Type 0
IsCommand line Stop = line ≡ codes "stop"
IsCommand line StopNow = line ≡ codes "stop now"
IsCommand line Flush = line ≡ codes "flush"
IsCommand line Clients = line ≡ codes "clients"
IsCommand line Health = line ≡ codes "health"

-- what is told of who is served: of some hub; or there was no memory for it
abbrev pub TellsWho : List Answer → Type 0
TellsWho answers = ((slots : Slots) × (seats : List Seat) × (line : List ℕ) × AreSeats slots seats × IsCensus seats line × (answers ≡ Lines line ∷ [])) ⊎ (answers ≡ Refuses Memory ∷ [])

-- what is told of this record of a pool: `failed` if the record says that it has failed
abbrev pub TellsHow : health.Health → List Answer → Type 0
TellsHow how answers = (line : List ℕ) × IsHealth how line × (answers ≡ Lines line ∷ [])

-- of this record, behind what was told before
abbrev pub IsToldHow : health.Health → Told → Told → Type 0
IsToldHow how before after = (line : List ℕ) × Grows before after (Lines line ∷ []) × IsHealth how line

-- of these, behind what was told before
abbrev pub IsToldOf : List Seat → Told → Told → Type 0
IsToldOf seats before after = (answer : Answer) × Grows before after (answer ∷ []) × (((line : List ℕ) × IsCensus seats line × (answer ≡ Lines line)) ⊎ (answer ≡ Refuses Memory))

-- What is answered: a flush is one of the pool, and its answer; how the pool is, of some record of it. No clause knows what an atomic holds, so none says that the record is right.
abbrev pub Obeys : {D : Type 0} → View D → Command → List Answer → Type 0
Obeys view Stop answers = answers ≡ Accepts ∷ []
Obeys view StopNow answers = answers ≡ Accepts ∷ []
Obeys view Flush answers = SomeRuns view (AsksFlush ∷ []) answers
Obeys view Clients answers = TellsWho answers
Obeys view Health answers = (how : health.Health) × TellsHow how answers

-- A line is answered so; or there was no memory for that, and nothing is told.
abbrev pub TellsSo : List ℕ → (List Answer → Type 0) → List Incoming → List Answer → Type 0
TellsSo line Are took answers = ((took ≡ []) × (answers ≡ [])) ⊎ ((took ≡ Orders line ∷ []) × Are answers)

-- Some sessions over some pool take these events, and give these answers; or it is a command.
abbrev pub IsRuled : {D : Type 0} → View D → List Incoming → List Answer → Type 0
IsRuled view took answers = SomeRuns view took answers ⊎ ((line : List ℕ) × (command : Command) × IsCommand line command × TellsSo line (Obeys view command) took answers)

-- Control lines are read from a stream, and each is asked for once and answered; what becomes of the hub between two of them is not said. told: the calls of the stream.
abbrev pub AnswersRulers : {D : Type 0} → View D → List StreamCall → List StreamCall → LinesEnd → Type 0
AnswersRulers view told told' ending = Leads {D = Unit {0}} (λ at took answers at'. IsRuled view took answers) (λ asks did. AttendsLines asks did ending) tt tt told told'
