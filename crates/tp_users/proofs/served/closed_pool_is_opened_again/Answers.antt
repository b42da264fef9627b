use Rattle.std.proofs.lemmas.Result.{IfOk-weaker}
use Rattle.tp_model.specs.PoolStops.{reopened}
use Rattle.tp_users.proofs.served.closed_pool_is_opened_again.Goals as goal

pub returns-in-Ok : goal.returns-in-Ok
returns-in-Ok g c =
    IfOk-weaker c.open.result _ _
    (λ again opened s shown works. let kept = c.in-Ok.ensures s shown works in (opened kept.honest kept.settled).shows (reopened s) (kept.is_pool, kept.stands))
    c.open.ensures.opened
