-- Trusted reading: what is known of a hub that many ask (own).
use Rattle.std.specs.Prelude.{◌≡◌, ℕ, Bool, true, false, List, [], ◌∷◌, ◌++◌, Option, None, Some, ◌⊎◌}
use Rattle.tp_model.specs.Clauses.{View}
use Rattle.nbd_session.specs.Session.{is_at_work}
use Rattle.nbd_session.specs.Turns.{Sessions}
use Rattle.tp_hub.specs.Told.{Answer, Grows, IsFull, Told}
use Rattle.tp_hub.specs.Runs.{AsksDeltaOf, AsksFlush, AsksLine, AsksLineOf, AsksMapOf, AsksSizeOf, Brings, Comes, Goes, Incoming, Orders}
use Rattle.tp_hub.specs.Serving.{HubState}
use Rattle.tp_hub.specs.Desks.{AreAsked, Exchange, IsAsked, RunsSo}
use Rattle.tp_hub.specs.Serve.{HubRuns}
pub use Rattle.tp_hub.specs.Staged.{IsFrom}

-- One hub came of another by asks one behind the other, each of which was one run of it.
abbrev pub CameOf : {D : Type 0} → View D → HubState D → HubState D → Type 0
CameOf view old new = (xs : List Exchange) × AreAsked (HubRuns view) old xs new

-- Some sessions over some pool take these events, and give these answers.
abbrev pub SomeRun : {D : Type 0} → View D → List Incoming → List Answer → Type 0
SomeRun {D} view took answers = (at : Sessions) × (p : D) × (at' : Sessions) × (p' : D) × RunsSo view at p took answers at' p'

-- the session of an event that brings bytes
abbrev pub hearer_in : Incoming → Option ℕ
hearer_in (Brings session piece) = Some session
hearer_in (Comes session profile) = None
hearer_in (Goes session) = None
hearer_in (Orders line) = None
hearer_in AsksLine = None
hearer_in (AsksLineOf volume) = None
hearer_in (AsksSizeOf volume) = None
hearer_in (AsksMapOf volume from) = None
hearer_in (AsksDeltaOf old new from) = None
hearer_in AsksFlush = None

-- whether parts of a request of this session are left
abbrev pub has_left : Sessions → Option ℕ → Bool
has_left at None = false
has_left at (Some n) = is_at_work (at n).phase

-- Such a run, and whether parts of a request of this session are left behind it.
abbrev pub SomeRunTo : {D : Type 0} → View D → Option ℕ → Bool → List Incoming → List Answer → Type 0
SomeRunTo {D} view session left took answers = (at : Sessions) × (p : D) × (at' : Sessions) × (p' : D) × RunsSo view at p took answers at' p' × (has_left at' session ≡ left)

-- all answers, one list behind the other
abbrev pub all_of : List (List Answer) → List Answer
all_of [] = []
all_of (answers ∷ later) = answers ++ all_of later

-- Such asks of a session one behind the other, each without text, and each since parts of a request were left behind the one before: it makes some of them. left, last:
-- whether there were any before the first ask, and behind the last one.
abbrev pub ArePartRuns : {D : Type 0} → View D → ℕ → Bool → List (List Answer) → Bool → Type 0
ArePartRuns view n left [] last = last ≡ left
ArePartRuns view n left (answers ∷ later) last = (left ≡ true) × (more : Bool) × SomeRunTo view (Some n) more (Brings n [] ∷ []) answers × ArePartRuns view n more later last

-- No part is left, or one longest answer more does not fit in the room that there was first. last: whether parts are left.
abbrev pub AreAllMade : Told → Bool → Told → Type 0
AreAllMade first last after = (last ≡ false) ⊎ IsFull (record { list = after.list; room = first.room; marks = first.marks; most = first.most })

-- Parts are made so, and their answers were added. left: whether there were any.
abbrev pub MakesParts : {D : Type 0} → View D → ℕ → Bool → Told → Told → Type 0
MakesParts view n left before after = (parts : List (List Answer)) × (last : Bool) × ArePartRuns view n left parts last × Grows before after (all_of parts) × AreAllMade before last after

-- Some sessions over some pool take these events, and behind them the parts are made of a long request that they end with, between which others may ask. The
-- answers are those of all. last: whether parts are left behind the last ask.
pub record RunsInParts {D : Type 0} (view : View D) (last : Bool) (took : List Incoming) (answers : List Answer) : Type 0 where
  pub session : ℕ
  pub first : List Answer
  pub left : Bool
  pub run : SomeRunTo view (Some session) left took first
  pub is_its : (took ≡ []) ⊎ ((piece : List ℕ) × (took ≡ Brings session piece ∷ []))
  pub parts : List (List Answer)
  pub are : ArePartRuns view session left parts last
  pub answers_are : answers ≡ first ++ all_of parts

-- A piece is asked so, up to the last part.
abbrev pub AsksInParts : {D : Type 0} → View D → ℕ → List ℕ → ℕ → ℕ → Told → Told → Type 0
AsksInParts view n piece events bytes before after =
    (last : Bool) × IsAsked (λ took answers. RunsInParts view last took answers) (Brings n piece) events bytes before after × AreAllMade before last after

-- What is known of one ask.
abbrev pub SomeRuns : {D : Type 0} → View D → List Incoming → List Answer → Type 0
SomeRuns view took answers = SomeRun view took answers ⊎ ((last : Bool) × RunsInParts view last took answers)
