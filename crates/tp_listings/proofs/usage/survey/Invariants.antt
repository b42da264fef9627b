use Rattle.std.proofs.Common.{◌≡◌, ◌<◌, ◌≤◌, ◌-◌, ℕ, false, length}
use Rattle.std.specs.Prelude.{Ok}
use Rattle.tp_model.specs.Pool.{PlainPool}
use Rattle.tp_model.specs.Calls.{is_failed}
use Rattle.tp_listings.specs.Owned.{IsLooked, IsSurvey, usage_at}
use Rattle.tp_listings.proofs.usage.survey.Given as goal

-- the volumes with ids below this one were walked
abbrev pub invariant-loop-from : goal.invariant-loop-from
invariant-loop-from g l = record {
  looked : IsLooked g.V.Volumes.view l.fn.pool l.pool {A = Unit {0}} (Ok (tt {0}));
  most : l.from ≤ 16777216;
  few : length l.usages.items ≤ l.from;
  blank : (j : ℕ) → j < length l.usages.items → (usage_at l.usages.items j).exclusive ≡ 0;
  survey : (s : PlainPool) → g.V.Volumes.view.shows l.fn.pool s → IsSurvey s l.from l.usages.items l.owners;
  works : (s : PlainPool) → g.V.Volumes.view.shows l.fn.pool s → 0 < l.from → is_failed s.mode ≡ false;
}

abbrev pub decreases-loop-from : goal.decreases-loop-from
decreases-loop-from g l = 16777216 - l.from
