-- Trusted reading: that all parts of a long request are made (own).
use Rattle.std.specs.Prelude.{◌≡◌, ◌==◌, ◌<◌, ◌≤◌, ◌⊎◌, ℕ, zero, suc, Bool, false, List, [], ◌∷◌, ◌++◌, All, length, map, ⊤}
use Rattle.tp_model.specs.Pool.{Outline}
use Rattle.tp_model.specs.Calls.{Call}
use Rattle.tp_model.specs.Calls as calls
use Rattle.nbd_wire.specs.declared.Request.{Request}
use Rattle.nbd_session.specs.declared.phase.Course.TheVariants.{Listens, Works}
use Rattle.nbd_session.specs.declared.phase.Manner.{Manner}
use Rattle.nbd_session.specs.declared.phase.Phase.TheVariants.{Transmission}
use Rattle.nbd_session.specs.Batches.{IsBatchOf}
use Rattle.nbd_session.specs.Requests.{rest_of}
use Rattle.nbd_session.specs.Session.{MakesPart, is_at_work}
use Rattle.nbd_session.specs.Turns.{Happened, Hears, Sessions, pool_after}
use Rattle.tp_hub.specs.declared.event.Event.{Event}
use Rattle.tp_hub.specs.declared.event.Event.TheVariants as kinds
use Rattle.tp_hub.specs.Runs.{Brings, Incoming, answers_in, incoming}

-- an event by which this session is to stop where a long request begins, or to make one part of it
abbrev pub is_parted_to : ℕ → Event → Bool
is_parted_to n (kinds.Open session profile) = false
is_parted_to n (kinds.Bytes session piece) = false
is_parted_to n (kinds.Parted session piece) = session == n
is_parted_to n (kinds.Hangup session) = false
is_parted_to n (kinds.Message line) = false
is_parted_to n kinds.Status = false
is_parted_to n (kinds.ThinStatus volume) = false
is_parted_to n (kinds.Size volume) = false
is_parted_to n (kinds.Map volume from) = false
is_parted_to n (kinds.Delta old new from) = false
is_parted_to n kinds.Flush = false

-- how many bytes of a piece were taken, with so many events and so many bytes of the next
abbrev pub taken_len : List ℕ → ℕ → ℕ → ℕ
taken_len piece zero bytes = bytes
taken_len piece (suc n) bytes = length piece

-- of a piece that came to this session and may be parted, no more than a batch was taken
abbrev pub TakesBatch : Sessions → ℕ → List ℕ → ℕ → ℕ → Type 0
TakesBatch at n piece events bytes = (len : ℕ) × IsBatchOf (at n) piece len × (taken_len piece events bytes ≤ len)

abbrev pub IsInBatch : Sessions → Event → ℕ → ℕ → Type 0
IsInBatch at (kinds.Parted session piece) events bytes = TakesBatch at session piece.now events bytes
IsInBatch at (kinds.Open session profile) events bytes = ⊤
IsInBatch at (kinds.Bytes session piece) events bytes = ⊤
IsInBatch at (kinds.Hangup session) events bytes = ⊤
IsInBatch at (kinds.Message line) events bytes = ⊤
IsInBatch at kinds.Status events bytes = ⊤
IsInBatch at (kinds.ThinStatus volume) events bytes = ⊤
IsInBatch at (kinds.Size volume) events bytes = ⊤
IsInBatch at (kinds.Map volume from) events bytes = ⊤
IsInBatch at (kinds.Delta old new from) events bytes = ⊤
IsInBatch at kinds.Flush events bytes = ⊤

-- no part of a request of this session is left
abbrev pub IsIdle : Sessions → ℕ → Type 0
IsIdle at n = is_at_work (at n).phase ≡ false

-- A session that had no parts left has none behind these events, unless one of them was `Parted` to it: all parts of each request that came were made.
abbrev pub StayIdle : Sessions → List Event → Sessions → Type 0
StayIdle at events at' = (n : ℕ) → All (λ e. is_parted_to n e ≡ false) events → IsIdle at n → IsIdle at' n

-- `Bytes` without text makes all parts that its session has left: where it was the first event and was taken, none is left, unless a later one was `Parted` to it.
abbrev pub BringIdle : List Event → ℕ → Sessions → Type 0
BringIdle events taken at' =
    (n : ℕ) (later : List Incoming) → map incoming events ≡ Brings n [] ∷ later → All (λ e. is_parted_to n e ≡ false) events → 0 < taken → IsIdle at' n

-- S: pools. outline: a pool's geometry, mode and holds. Calls: that a call of a pool is given an answer, and leaves another pool.
module _ {S : Type 0} (outline : S → Outline) (Calls : S → Call → calls.Answer → S → Type 0) where
  -- Parts of what is left of a session's request, each in a turn that takes no bytes, up to the last one or the first that is refused, which answers the request.
  abbrev pub AreParts : ℕ → ℕ → ℕ → Manner → Request → S → List (Happened S) → Type 0
  AreParts n id size manner r p [] = ⊥
  AreParts n id size manner r p (h ∷ hs) =
      (sent : List ℕ) × (h.turn ≡ Hears n [] 0 sent false) × MakesPart outline Calls id size manner r p sent (h.sessions n).phase h.pool
      × (((hs ≡ []) × ((h.sessions n).phase ≡ Transmission id size (Listens manner)))
      ⊎ (((h.sessions n).phase ≡ Transmission id size (Works manner (rest_of (outline p).geometry r))) × AreParts n id size manner (rest_of (outline p).geometry r) h.pool hs))

  -- The request is taken, which answers nothing and asks the pool nothing, and then all its parts are made.
  pub record IsMadeWhole (n id size : ℕ) (manner : Manner) (r : Request) (p : S) (turns : List (Happened S)) : Type 0 where
    pub heard : List (Happened S)
    pub parts : List (Happened S)
    pub turns_are : turns ≡ heard ++ parts
    pub silent : answers_in heard ≡ []
    pub quiet : pool_after p heard ≡ p
    pub made : AreParts n id size manner r p parts
