use Rattle.std.proofs.Common.{◌≢◌, subst}
use Rattle.tp_model.specs.declared.mode.Mode.TheVariants as mode
use Rattle.std.specs.Prelude.{OnOk}
use Rattle.tp_model.specs.Sectors.{sectors_of}
use Rattle.tp_model.specs.Calls.{Write}
use Rattle.tp_served.specs.Served.{Cached, IsUnwritten, StaysInPlace, got}
use Rattle.tp_served.proofs.volumes.ServedVolumes.write.Goals as goal

pub returns-clause-in_place : goal.returns-clause-in_place
returns-clause-in_place g c =
    subst (λ (i : Cached g.row.M.Denot). OnOk c.write_on.result (StaysInPlace g.M.Metadata.geometry g.M.Metadata.stands g.M.Metadata.marks g.M.Metadata.room g.M.Metadata.changed i (got c.write_on.new.lent.inside c.write_on.new.lent.there) (Write c.args.id c.args.sector (sectors_of c.args.bytes.now) c.args.fua)))
    c.self.view_is c.write_on.ensures.in_place

pub returns-clause-read_only : goal.returns-clause-read_only
returns-clause-read_only g c =
    subst (λ (i : Cached g.row.M.Denot). i.besides.mode ≢ mode.Writable → IsUnwritten i (got c.write_on.new.lent.inside c.write_on.new.lent.there) c.write_on.result)
    c.self.view_is c.write_on.ensures.read_only
