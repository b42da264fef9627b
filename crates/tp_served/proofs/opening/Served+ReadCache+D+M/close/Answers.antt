use Rattle.std.proofs.Common.{◌≡◌, subst, sym}
use Rattle.std.specs.Prelude.{OnOk}
use Rattle.tp_model.specs.Disk.{IsSettled}
use Rattle.tp_model.specs.Pool.{PlainPool}
use Rattle.tp_pool.specs.Held.{shows}
use Rattle.tp_served.specs.Served.{on_cache}
use Rattle.tp_served.proofs.opening.Served+ReadCache+D+M.close.Goals as goal

pub returns-clause-settled : goal.returns-clause-settled
returns-clause-settled g c =
    subst (λ (d : g.row.D.Denot). OnOk c.end-answer.result.0 ((s : PlainPool) → shows g.M.Metadata.geometry g.M.Metadata.stands (on_cache c.args.self) s → IsSettled (g.D.Disk.state d).cells))
    (sym c.into_inner.ensures) c.end-answer.ensures.settled
