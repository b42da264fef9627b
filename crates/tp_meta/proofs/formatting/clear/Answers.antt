use Rattle.std.specs.Prelude.{is_ok}
use Rattle.tp_model.proofs.DiskStopLaws.{goes_on_flush}
use Rattle.tp_meta.proofs.Clearing.{flushed, zeros_after, zeros_are, zeros_written}
use Rattle.tp_meta.proofs.formatting.clear.Goals as goal

pub returns-in_err-write-clause-any_moment : goal.returns-in_err-write-clause-any_moment
returns-in_err-write-clause-any_moment g c =
    zeros_written c.args.slot c.sector.result _ (g.D.Disk.state c.args.disk.now) (g.D.Disk.state c.write.new.self) c.sector.ensures zeros_are c.write.ensures.any

pub returns-clause-any_moment : goal.returns-clause-any_moment
returns-clause-any_moment g c =
    goes_on_flush (is_ok c.flush.result)
    (zeros_written c.args.slot c.sector.result _ (g.D.Disk.state c.args.disk.now) (g.D.Disk.state c.write.new.self) c.sector.ensures zeros_are c.write.ensures.any) c.flush.ensures

pub returns-clause-ok : goal.returns-clause-ok
returns-clause-ok g c =
    flushed c.flush.result _ (g.D.Disk.state c.write.new.self) (g.D.Disk.state c.flush.new.self)
    (zeros_after c.args.slot c.sector.result _ (g.D.Disk.state c.args.disk.now) (g.D.Disk.state c.write.new.self) c.sector.ensures zeros_are c.in_ok-write.ensures.ok) c.flush.ensures
