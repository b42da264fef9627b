use Rattle.std.proofs.Common.{◌≡◌, ◌⊎◌, ℕ, ◌+◌, ◌-◌, ◌*◌, ◌%◌, ◌<◌, ◌≤◌, None, false, length}
use Rattle.std.specs.Prelude.{slice_index_or}
use Rattle.tp_model.specs.Sectors.{sectors_of}
use Rattle.tp_stored.specs.Contents.{Contents}
use Rattle.tp_shown.specs.Shown.{blocks_touched}
use Rattle.tp_meta.specs.Metadata.{Ran}
use Rattle.tp_pool.specs.Writing.{LeavesHalf, Reaches, told_taken}
use Rattle.tp_pool.proofs.Looping.{IsBegun}
use Rattle.tp_pool.proofs.writing.put_blocks.Given as goal

abbrev pub invariant-loop-done : goal.invariant-loop-done
invariant-loop-done g l = record {
  blocks : l.blocks ≡ l.fn.blocks;
  most : l.done ≤ l.count;
  ends : (l.done ≡ 0) ⊎ (l.done ≡ l.count) ⊎ ((l.sector + l.done) % (g.M.Metadata.geometry l.fn.metadata).block_sectors ≡ 0);
  few : blocks_touched (g.M.Metadata.geometry l.fn.metadata) l.sector l.done ≤ 17;
  ran : Ran (16 * blocks_touched (g.M.Metadata.geometry l.fn.metadata) l.sector l.done) false (g.M.Metadata.room l.fn.metadata) (g.M.Metadata.room l.metadata)
      (g.M.Metadata.geometry l.fn.metadata) (g.M.Metadata.geometry l.metadata) (g.D.Disk.state l.fn.disk) (g.D.Disk.state l.disk);
  left : LeavesHalf g.M.Metadata.geometry g.M.Metadata.stands g.M.Metadata.marks l.id l.sector (sectors_of l.bytes) l.fn.metadata (g.D.Disk.state l.fn.disk) (g.D.Disk.state l.disk);
  stays : ((j : ℕ) → j < length l.homes → told_taken (slice_index_or l.homes j None) ≡ false) → l.metadata ≡ l.fn.metadata;
  begun : (now kept : Contents) → g.M.Metadata.stands l.fn.metadata (g.D.Disk.state l.fn.disk) now kept → Reaches (g.M.Metadata.geometry l.fn.metadata) l.id (l.sector + length (sectors_of l.bytes)) now.volumes
      → IsBegun g.M.Metadata.geometry g.M.Metadata.stands g.M.Metadata.marks l.id l.sector (sectors_of l.bytes) l.count l.done l.fn.metadata l.metadata
      (g.D.Disk.state l.fn.disk) (g.D.Disk.state l.disk) now kept;
}

abbrev pub decreases-loop-done : goal.decreases-loop-done
decreases-loop-done g l = l.count - l.done
