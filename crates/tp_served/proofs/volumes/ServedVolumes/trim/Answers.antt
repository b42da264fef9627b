use Rattle.std.proofs.Common.{◌≢◌, subst}
use Rattle.tp_model.specs.declared.mode.Mode.TheVariants as mode
use Rattle.tp_served.specs.Served.{Cached, IsUnwritten, got}
use Rattle.tp_served.proofs.volumes.ServedVolumes.trim.Goals as goal

pub returns-clause-read_only : goal.returns-clause-read_only
returns-clause-read_only g c =
    subst (λ (i : Cached g.row.M.Denot). i.besides.mode ≢ mode.Writable → IsUnwritten i (got c.trim_on.new.lent.inside c.trim_on.new.lent.there) c.trim_on.result)
    c.self.view_is c.trim_on.ensures.read_only
