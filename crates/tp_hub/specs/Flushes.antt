-- Trusted reading: a flush that a hub makes in parts (own).
use Rattle.std.specs.Prelude.{◌≡◌, [], ◌∷◌, Err, Ok, Result}
use Rattle.tp_model.specs.declared.refusal.Refusal.{Refusal}
use Rattle.tp_model.specs.Clauses.{View}
use Rattle.tp_model.specs.Flushing.{IsFlushed}
use Rattle.tp_hub.specs.Told.{Accepts, Answer, Refuses}
use Rattle.tp_hub.specs.Runs.{AsksFlush}
use Rattle.tp_hub.specs.Serve.{HubRuns}
use Rattle.tp_hub.specs.Serving.{HubState}

-- what would be told of it
abbrev pub flush_told : Result (Unit {0}) Refusal → Answer
flush_told (Ok done) = Accepts
flush_told (Err reason) = Refuses reason

module _ {D : Type 0} (view : View D) where
  -- One run of the hub by a flush: one call of its pool. The sessions stay as they are.
  pub record IsHubFlushed (old new : HubState D) (result : Result (Unit {0}) Refusal) : Type 0 where
    pub run : HubRuns view old (AsksFlush ∷ []) (flush_told result ∷ []) new
    pub pool : IsFlushed view old.pool new.pool result
    pub slots : new.slots ≡ old.slots
