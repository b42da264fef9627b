use Rattle.std.proofs.Common.{length}
use Rattle.tp_model.specs.Geometry.{count_blocks}
use Rattle.tp_counts.proofs.Writing.{HaveWritten}
use Rattle.tp_counts.proofs.area.write_marked.Given as goal

abbrev pub invariant-loop-j : goal.invariant-loop-j
invariant-loop-j g l = HaveWritten l.first (count_blocks (length l.counts)) l.counts l.fn.marks l.j (g.D.Disk.state l.fn.disk) (g.D.Disk.state l.disk)
