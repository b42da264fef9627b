-- Trusted reading: two clients in turn over one pool (own).
use Rattle.std.specs.Prelude.{◌≡◌, ℕ, List, [], ◌∷◌, ◌++◌}
use Rattle.tp_model.specs.Pool.{Outline}
use Rattle.tp_model.specs.Calls.{Call}
use Rattle.tp_model.specs.Calls as calls
use Rattle.nbd_wire.specs.Replies.{greeting}
use Rattle.nbd_session.specs.declared.phase.Phase.TheVariants.{Flags}
use Rattle.nbd_session.specs.declared.phase.Profile.{Profile}
use Rattle.nbd_session.specs.Session.{state}
use Rattle.nbd_session.specs.Turns.{AreTurns, Happened, Sessions, pool_after, sessions_after}
use Rattle.tp_hub.specs.Told.{Grows, Says, Told}
use Rattle.tp_hub.specs.Runs.{TakesPiece, answers_in}

-- S: pools. outline: a pool's geometry, mode and holds. Calls: that a call of a pool is given an answer, and leaves another pool.
module _ {S : Type 0} (outline : S → Outline) (Calls : S → Call → calls.Answer → S → Type 0) (one two : Profile) where
  -- Two clients are greeted, which leaves the pool as it is. The first sends a text; then the second, over the pool that the first left.
  pub record InTurn (p : S) (first second : List ℕ) (before after : Told) (at' : Sessions) (p' : S) : Type 0 where
    pub greeted : Sessions
    pub greets : (greeted 0 ≡ state (Flags one) []) × (greeted 1 ≡ state (Flags two) [])
    pub ones : List (Happened S)
    pub twos : List (Happened S)
    pub are_ones : AreTurns outline Calls greeted p ones
    pub takes_first : TakesPiece greeted 0 first ones
    pub waits : sessions_after greeted ones 1 ≡ state (Flags two) []
    pub are_twos : AreTurns outline Calls (sessions_after greeted ones) (pool_after p ones) twos
    pub takes_second : TakesPiece (sessions_after greeted ones) 1 second twos
    pub sessions_are : sessions_after (sessions_after greeted ones) twos ≡ at'
    pub pool_is : pool_after (pool_after p ones) twos ≡ p'
    pub adds : Grows before after (Says 0 greeting ∷ Says 1 greeting ∷ (answers_in ones ++ answers_in twos))
