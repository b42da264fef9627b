use Rattle.std.proofs.Common.{ℕ, ◌<◌}
use Rattle.std.specs.Prelude.{IsSome}
use Rattle.tp_hub.specs.Serving.{slot_at}
use Rattle.tp_hub.proofs.hub.least_free.Given as goal

abbrev pub invariant-loop-number : goal.invariant-loop-number
invariant-loop-number l = (k : ℕ) → k < l.number → IsSome (slot_at l.sessions k)
