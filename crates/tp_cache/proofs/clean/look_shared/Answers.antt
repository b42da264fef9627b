use Rattle.std.proofs.Common.{List, ℕ, Some, sym, ◌∙◌, ap}
use Rattle.tp_cache.proofs.clean.look_shared.Goals as goal

pub returns-in-Some-clause-hit : goal.returns-in-Some-clause-hit
returns-in-Some-clause-hit c = sym c.in-Some.ensures ∙ ap (λ (bytes : List ℕ). Some bytes) (sym c.copy_from_slice.ensures.after)
