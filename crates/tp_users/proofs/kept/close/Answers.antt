use Rattle.std.proofs.Common.{Result, subst}
use Rattle.std.specs.Prelude.{OnOk}
use Rattle.tp_model.specs.declared.refusal.Refusal.{Refusal}
use Rattle.tp_disk.specs.Memory.{mem_state}
use Rattle.tp_users.specs.Users.{IsKept}
use Rattle.tp_users.proofs.Given.{close_kept}
use Rattle.tp_users.proofs.kept.close.Goals as goal

pub returns-in-Ok-default-clause-kept : goal.returns-in-Ok-default-clause-kept
returns-in-Ok-default-clause-kept c = λ s shown works.
    subst (λ (r : Result (Unit {0}) Refusal). OnOk r (IsKept s (mem_state c.close.result.1))) c.in-Ok-default.is-0
    (close_kept c.close.result.0 c.args.pool (mem_state c.close.result.1) s c.close.ensures.closed c.close.ensures.settled shown works)
