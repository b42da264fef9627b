-- Trusted reading: a whole conversation: frame after frame of one text.
use Rattle.std.specs.Prelude.{◌≡◌, ℕ, List, [], ◌++◌, Some}
use Rattle.tp_model.specs.Pool.{Outline}
use Rattle.tp_model.specs.Calls.{Call, Answer}
use Rattle.nbd_wire.specs.declared.Kind.{Kind}
use Rattle.nbd_wire.specs.Grammar.{Message, IsFrame, IsPartial}
use Rattle.nbd_wire.specs.declared.Request.{Request}
use Rattle.nbd_session.specs.declared.phase.Course.TheVariants.{Works}
use Rattle.nbd_session.specs.declared.phase.Manner.{Manner}
use Rattle.nbd_session.specs.declared.phase.Phase.{Phase}
use Rattle.nbd_session.specs.declared.phase.Phase.TheVariants.{Ended, Transmission}
use Rattle.nbd_session.specs.Session.{State, state, kind_of, Answers, MakesPart}

module _ {S : Type 0} (outline : S → Outline) (Calls : S → Call → Answer → S → Type 0) where
  -- From a phase and a pool, a text is answered so: the bytes that are sent, the session after it, and the pool after
  -- it. The text alone counts, and not how it was cut.
  pub data Talks : Phase → List ℕ → S → List ℕ → State → S → Type 0 where
    -- no frame begins what is left: it is held
    waits : {phase : Phase} {text : List ℕ} {p : S} (kind : Kind) → kind_of phase ≡ Some kind → IsPartial kind text
        → Talks phase text p [] (state phase text) p
    -- the rest of the text after an end is dropped
    over : {text : List ℕ} {p : S} → Talks Ended text p [] (state Ended []) p
    -- parts of a request are left, and nothing of the text is
    stops : {volume size : ℕ} {m : Manner} {r : Request} {p : S} → Talks (Transmission volume size (Works m r)) [] p [] (state (Transmission volume size (Works m r)) []) p
    -- the next part of a request is made, and then the rest
    works : {text sent : List ℕ} {p p' : S} {new : State} (volume size : ℕ) (m : Manner) (r : Request) (first others : List ℕ) (mid : Phase) (q : S)
        → MakesPart outline Calls volume size m r p first mid q → Talks mid text q others new p' → sent ≡ first ++ others
        → Talks (Transmission volume size (Works m r)) text p sent new p'
    -- the first frame is answered, and then the rest
    goes : {phase : Phase} {text sent : List ℕ} {p p' : S} {new : State} (kind : Kind) (message : Message) (frame rest first others : List ℕ) (mid : Phase) (q : S)
        → kind_of phase ≡ Some kind → IsFrame kind message frame → text ≡ frame ++ rest
        → Answers outline Calls phase message p first mid q → Talks mid rest q others new p' → sent ≡ first ++ others
        → Talks phase text p sent new p'

  -- what is sent for a piece is added to what was sent before
  abbrev pub Converses : State → List ℕ → S → List ℕ → List ℕ → State → S → Type 0
  Converses old piece p before after new p' = (sent : List ℕ) × (after ≡ before ++ sent) × Talks old.phase (old.held ++ piece) p sent new p'
