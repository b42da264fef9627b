use Rattle.std.proofs.Common.{◌-◌, ◌/◌, length}
use Rattle.tp_model.specs.Sectors.{sectors_of}
use Rattle.tp_pool.proofs.NewRun.{IsMapping}
use Rattle.tp_pool.proofs.writing.put_new_run.Given as goal

abbrev pub invariant-loop-mapped : goal.invariant-loop-mapped
invariant-loop-mapped g l =
    let M = g.M.Metadata in
    IsMapping M.geometry M.stands M.marks M.room l.fn.id l.fn.sector (sectors_of l.fn.bytes) (length l.fn.bytes / 512 / (M.geometry l.fn.metadata).block_sectors) l.fn.metadata (g.D.Disk.state l.fn.disk)
    l.start l.written l.mapped l.metadata (g.D.Disk.state l.disk)

abbrev pub decreases-loop-mapped : goal.decreases-loop-mapped
decreases-loop-mapped g l = l.count - l.mapped
