-- Trusted reading: a flush that is made in parts (own).
use Rattle.std.specs.Prelude.{◌≡◌, ◌<◌, ℕ, Result, MatchResult}
use Rattle.tp_model.specs.Calls.{Done, Flush, Refused}
use Rattle.tp_model.specs.Clauses.{Meets, View}
use Rattle.tp_model.specs.declared.refusal.Refusal.{Refusal}
use Rattle.tp_model.specs.declared.volumes.Flushing.{Flushing}
use Rattle.tp_model.specs.declared.volumes.Flushing.TheVariants as flushing

-- It is done, or fewer parts than so many are left behind this one. left: how many are left at most of one in the middle of it.
abbrev pub LeavesFewer : {D M : Type 0} → (M → ℕ) → ℕ → Flushing D M → Type 0
LeavesFewer left most (flushing.Done new result) = Unit {0}
LeavesFewer left most (flushing.Midway m) = left m < most

module _ {D : Type 0} (v : View D) where
  -- One flush, with this answer.
  abbrev pub IsFlushed : D → D → Result (Unit {0}) Refusal → Type 0
  IsFlushed old new result = MatchResult result (λ _. Meets v old new Flush Done) (λ reason. Meets v old new Flush (Refused reason))

  -- It is done; or parts of it are left, and then all reads are still those of the pool before it. of: the pool whose flush one in the middle of it is.
  abbrev pub IsFlushing : {M : Type 0} → (M → D) → D → Flushing D M → Type 0
  IsFlushing of old (flushing.Done new result) = IsFlushed old new result
  IsFlushing of old (flushing.Midway m) = of m ≡ old
