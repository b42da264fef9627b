-- Internal: an event that is answered by a flush which was made for it.
use Rattle.std.specs.Prelude.{◌≡◌, ℕ, false, List, Option, Result}
use Rattle.tp_model.specs.declared.refusal.Refusal.{Refusal}
use Rattle.tp_model.specs.Geometry.{Geometry}
use Rattle.tp_model.specs.Clauses.{View}
use Rattle.tp_model.specs.Flushing.{IsFlushed}
use Rattle.nbd_session.specs.Session.{State}
use Rattle.nbd_session.specs.Clauses.{Advances, IsReady}
use Rattle.nbd_session.specs.Turns.{Sessions}
use Rattle.tp_hub.specs.Told.{Told}
use Rattle.tp_hub.specs.Runs.{Brings}
use Rattle.tp_hub.specs.Desks.{IsAsked, RunsSo}
use Rattle.tp_hub.specs.Places.{KeepsServing, put}
use Rattle.tp_hub.specs.Serving.{shown}

module _ {D : Type 0} (view : View D) where
  -- A session takes a step that a flush of a pool of these sizes answers, whichever pool it was.
  abbrev pub EndsFlush : Geometry → Result (Unit {0}) Refusal → State → List ℕ → ℕ → List ℕ → State → Type 0
  EndsFlush sizes answer old piece taken sent new =
      (p q : D) → (view.outline p).geometry ≡ sizes → IsReady old.phase (view.outline p) (view.more p) → IsFlushed view p q answer → Advances view old p piece taken sent false new q

  -- So much of a piece was taken, at the place of its session.
  pub record TakesFlushed (n : ℕ) (piece : List ℕ) (old : Option State) (p : D) (events bytes : ℕ) (before after : Told) (new : Option State) (p' : D) : Type 0 where
    pub asked : (at : Sessions) → at n ≡ shown old → IsAsked (λ took answers. RunsSo view at p took answers (put at n (shown new)) p') (Brings n piece) events bytes before after
    pub keeps : KeepsServing view n old p new p'
