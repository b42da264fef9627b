use Rattle.std.proofs.Common.{arith, subst}
use Rattle.std.proofs.lemmas.Result.{on_ok_weaker}
use Rattle.tp_tm.specs.Tm.{Tm}
use Rattle.tp_btree.specs.Inserts.{IsWritten}
use Rattle.tp_counts.specs.StoreErrors.{is_fault}
use Rattle.tp_layout.specs.Value.{node_value}
use Rattle.tp_btree.proofs.Running.{ran_then}
use Rattle.tp_btree.proofs.Splitting.{two_written}
use Rattle.tp_btree.proofs.split.write_two.Goals as goal

pub returns-clause-written : goal.returns-clause-written
returns-clause-written g c = on_ok_weaker c.write-2.result
    (λ w. two_written c.args.tm.now.geometry.metadata_blocks c.args.tm.now c.write.new.tm (g.D.Disk.state c.args.disk.now) (g.D.Disk.state c.write.new.disk) c.write-2.new.tm (g.D.Disk.state c.write-2.new.disk)
    (node_value c.args.lower.now) (node_value c.args.upper.now) c.in_ok-write.ensures.written
    (subst (λ (z : Tm). IsWritten z.geometry.metadata_blocks c.write.new.tm (g.D.Disk.state c.write.new.disk) c.write-2.new.tm (g.D.Disk.state c.write-2.new.disk) (node_value c.args.lower.now)) c.in_ok-write.ensures.unchanged w))
    c.write-2.ensures.written

pub returns-clause-ran : goal.returns-clause-ran
returns-clause-ran g c =
    ran_then 0 0 0 (is_fault c.write-2.result) c.args.tm.now c.write.new.tm c.write-2.new.tm (g.D.Disk.state c.args.disk.now) (g.D.Disk.state c.write.new.disk) (g.D.Disk.state c.write-2.new.disk) (omega arith) c.in_ok-write.ensures.ran c.write-2.ensures.ran
