use Rattle.std.proofs.Common.{Result, subst}
use Rattle.std.specs.Prelude.{OnOk}
use Rattle.tp_model.specs.declared.refusal.Refusal.{Refusal}
use Rattle.tp_users.specs.Users.{IsKept}
use Rattle.tp_users.proofs.OnCaches.{closed_kept_there}
use Rattle.tp_users.proofs.served.closed.Goals as goal

pub returns-in-Ok-default : goal.returns-in-Ok-default
returns-in-Ok-default g c = λ s shown works.
    subst (λ (r : Result (Unit {0}) Refusal). OnOk r (IsKept s (g.D.Disk.state c.close.result.1))) c.in-Ok-default.is-0
    (closed_kept_there c.close.result.0 c.args.pool (g.D.Disk.state c.close.result.1) s c.close.ensures.closed c.close.ensures.settled shown works)
