use Rattle.std.proofs.Common.{ℕ, ap, sym, ◌∙◌}
use Rattle.std.specs.Prelude.{None, Option, Some, nat_lt, if◌then◌else◌}
use Rattle.nbd_session.specs.Session.{below}
use Rattle.nbd_session.proofs.phase.Profile.cloning.Goals as goal

pub returns-in-Some-clause-default : goal.returns-in-Some-clause-default
returns-in-Some-clause-default c = ap {B = Option ℕ} (λ (n : ℕ). if nat_lt n 8388608 then Some n else None) c.number.ensures.value ∙ sym (ap (below 8388608) c.in-Some.is)
