-- Trusted reading: a message that a hub keeps in parts (own).
use Rattle.std.specs.Prelude.{◌≡◌, ℕ, List, [], ◌∷◌, Ok, Result}
use Rattle.tp_model.specs.declared.refusal.Refusal.{Refusal}
use Rattle.tp_model.specs.Clauses.{Unkept, View}
use Rattle.tp_msg.specs.declared.message.Message.{Message}
use Rattle.tp_msg.specs.Asked.{call_of}
use Rattle.tp_msg.specs.Messages.{reading}
use Rattle.tp_hub.specs.Flushes.{flush_told}
use Rattle.tp_hub.specs.Runs.{Orders}
use Rattle.tp_hub.specs.Serve.{HubRuns}
use Rattle.tp_hub.specs.Serving.{HubState}

module _ {D : Type 0} (view : View D) where
  -- One run of the hub by any line that is this message, with this answer.
  abbrev pub IsHubOrdered : HubState D → Message → HubState D → Result (Unit {0}) Refusal → Type 0
  IsHubOrdered old message new result = (line : List ℕ) → reading line ≡ Ok message → HubRuns view old (Orders line ∷ []) (flush_told result ∷ []) new

  -- The pool has made what the message asks for, and nothing of it is kept yet. The sessions are as they were.
  pub record IsUnkept (old : HubState D) (message : Message) (now : HubState D) : Type 0 where
    pub pool : Unkept view old.pool now.pool (call_of message)
    pub slots : now.slots ≡ old.slots
