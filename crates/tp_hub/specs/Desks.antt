-- Trusted reading: what is asked of a desk, ask after ask (own).
use Rattle.std.specs.Prelude.{◌≡◌, ℕ, zero, suc, ◌+◌, ◌<◌, List, [], ◌∷◌, length, ◌⊎◌}
use Rattle.tp_model.specs.Pool.{Outline}
use Rattle.tp_model.specs.Calls.{Call}
use Rattle.tp_model.specs.Calls as calls
use Rattle.tp_model.specs.Clauses.{PoolCall, View}
use Rattle.nbd_session.specs.Turns.{Sessions}
use Rattle.tp_hub.specs.Told.{Answer, Grows, HasRoom, Told}
use Rattle.tp_hub.specs.Runs.{AsksDeltaOf, AsksFlush, AsksLine, AsksLineOf, AsksMapOf, AsksSizeOf, Brings, Comes, Goes, Incoming, Orders, Runs, taken_of}

-- so much of one event: it was taken whole, or fewer bytes than it has
abbrev pub IsCut : Incoming → ℕ → ℕ → Type 0
IsCut event (suc n) bytes = (n ≡ 0) × (bytes ≡ 0)
IsCut (Brings session piece) zero bytes = (bytes ≡ 0) ⊎ (bytes < length piece)
IsCut (Comes session profile) zero bytes = bytes ≡ 0
IsCut (Goes session) zero bytes = bytes ≡ 0
IsCut (Orders line) zero bytes = bytes ≡ 0
IsCut AsksLine zero bytes = bytes ≡ 0
IsCut (AsksLineOf volume) zero bytes = bytes ≡ 0
IsCut (AsksSizeOf volume) zero bytes = bytes ≡ 0
IsCut (AsksMapOf volume from) zero bytes = bytes ≡ 0
IsCut (AsksDeltaOf old new from) zero bytes = bytes ≡ 0
IsCut AsksFlush zero bytes = bytes ≡ 0

-- something of it was taken; a client that comes may also want for memory of its own
abbrev pub IsBegun : Incoming → ℕ → ℕ → Type 0
IsBegun (Brings session piece) events bytes = 0 < events + bytes
IsBegun (Goes session) events bytes = 0 < events
IsBegun (Orders line) events bytes = 0 < events
IsBegun AsksLine events bytes = 0 < events
IsBegun (AsksLineOf volume) events bytes = 0 < events
IsBegun (AsksSizeOf volume) events bytes = 0 < events
IsBegun (AsksMapOf volume from) events bytes = 0 < events
IsBegun (AsksDeltaOf old new from) events bytes = 0 < events
IsBegun AsksFlush events bytes = 0 < events
IsBegun (Comes session profile) events bytes = Unit {0}

-- One event was asked: so much of it was taken, and these answers were added. Where nothing was taken nothing is answered, and where one longest
-- answer fits something is taken.
pub record IsAsked (Did : List Incoming → List Answer → Type 0) (event : Incoming) (events bytes : ℕ) (before after : Told) : Type 0 where
  pub answers : List Answer
  pub did : Did (taken_of (event ∷ []) events bytes) answers
  pub adds : Grows before after answers
  pub cut : IsCut event events bytes
  pub silent : events ≡ 0 → bytes ≡ 0 → answers ≡ []
  pub begun : HasRoom before → IsBegun event events bytes

-- one ask: what was taken, and what was answered
pub record Exchange : Type 0 where
  pub took : List Incoming
  pub answers : List Answer

-- asks one after another, of any kind of desk
abbrev pub AreAsked : {D : Type 0} → (D → List Incoming → List Answer → D → Type 0) → D → List Exchange → D → Type 0
AreAsked Did old [] new = new ≡ old
AreAsked {D} Did old (x ∷ xs) new = (mid : D) × Did old x.took x.answers mid × AreAsked Did mid xs new

-- What a hub does where it is the desk: a run, with these answers. S: pools of any kind. outline: a pool's geometry, mode and holds. Calls: that a call of a
-- pool is given an answer, and leaves another pool.
abbrev pub RanSo : {S : Type 0} → (S → Outline) → (S → Call → calls.Answer → S → Type 0) → Sessions → S → List Incoming → List Answer → Sessions → S → Type 0
RanSo outline Calls at p events answers at' p' = (before : Told) × (after : Told) × Runs outline Calls at p events before after at' p' × Grows before after answers

-- the same over a pool that serves
abbrev pub RunsSo : {D : Type 0} → View D → Sessions → D → List Incoming → List Answer → Sessions → D → Type 0
RunsSo view = RanSo view.outline (PoolCall view)
