use Rattle.std.proofs.Common.{◌≡◌, subst}
use Rattle.std.specs.Prelude.{OnOk}
use Rattle.tp_model.specs.Disk.{IsSettled}
use Rattle.tp_model.specs.Pool.{PlainPool}
use Rattle.tp_pool.specs.Held.{shows}
use Rattle.tp_served.specs.Served.{Cached, on_cache}
use Rattle.tp_served.proofs.served.Served.end.Goals as goal

pub returns-clause-settled : goal.returns-clause-settled
returns-clause-settled g c =
    subst (λ (i : Cached g.row.M.Denot). OnOk c.close_on.result.0 ((s : PlainPool) → shows g.M.Metadata.geometry g.M.Metadata.stands (on_cache i) s → IsSettled (g.D.Disk.state c.close_on.result.1).cells))
    c.self.view_is c.close_on.ensures.settled
