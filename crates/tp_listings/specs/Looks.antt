-- Trusted reading: what is done to a pool that is listed: calls that write nothing, one behind the other (own).
use Rattle.std.specs.Prelude.{◌≡◌, ◌⊎◌, false, List, [], ◌∷◌, ◌++◌, Result, MatchResult}
use Rattle.tp_model.specs.declared.refusal.Refusal.{Refusal}
use Rattle.tp_model.specs.declared.refusal.Refusal.TheVariants.{Memory}
use Rattle.tp_model.specs.Pool.{PlainPool}
use Rattle.tp_model.specs.Calls.{Refused, is_writing}
use Rattle.tp_model.specs.Clauses.{AreCalls, Asked, PoolCall, View, last_of}

-- none of the calls writes
abbrev pub AreLooks : {S : Type 0} → List (Asked S) → Type 0
AreLooks [] = Unit {0}
AreLooks (c ∷ cs) = (is_writing c.call ≡ false) × AreLooks cs

-- the last of the calls was refused so
abbrev pub EndsRefused : {S : Type 0} → List (Asked S) → Refusal → Type 0
EndsRefused made reason = (before : List (Asked _)) × (c : Asked _) × (made ≡ before ++ c ∷ []) × (c.answer ≡ Refused reason)

-- A pool was looked at: it is done, or the last call was refused, or there was no memory for the list.
pub record LooksOver {D : Type 0} (view : View D) (old new : D) {A : Type 0} (result : Result A Refusal) : Type 0 where
  pub made : List (Asked D)
  pub are : AreCalls (PoolCall view) old made
  pub last : last_of old made ≡ new
  pub look : AreLooks made
  pub refused : MatchResult result (λ _. Unit {0}) (λ reason. (reason ≡ Memory) ⊎ EndsRefused made reason)

-- what was shown before is shown behind it
abbrev pub ShowsStill : {D : Type 0} → View D → D → D → Type 0
ShowsStill view old new = (s : PlainPool) → view.shows old s → view.shows new s
