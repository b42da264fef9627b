use Rattle.std.proofs.Common.{◌-◌, ◌≡◌, ◌*◌, ◌/◌, ◌<◌, ◌≤◌, length, take, true}
use Rattle.std.specs.List.{concat}
use Rattle.std.specs.Option.{is_some}
use Rattle.tp_model.specs.Geometry.{IsWithinLimits}
use Rattle.tp_model.specs.Disk.{seen}
use Rattle.tp_sharing.specs.Volumes.{device_of}
use Rattle.tp_stored.specs.Contents.{Contents}
use Rattle.tp_shown.specs.Shown.{blocks_touched, values_at}
use Rattle.tp_meta.specs.Metadata.{AreInside}
use Rattle.tp_pool.specs.Reading.{ArePlaced, id_read}
use Rattle.tp_pool.proofs.reading.read_piece.Given as goal

abbrev pub invariant-loop-done : goal.invariant-loop-done
invariant-loop-done g l = record {
  counted : l.count ≡ length l.fn.out / 512;
  within : l.done ≤ l.count;
  sizes : l.geometry ≡ g.M.Metadata.geometry l.metadata;
  limits : IsWithinLimits (g.M.Metadata.geometry l.metadata);
  long : length l.out ≡ length l.fn.out;
  few : length l.homes ≤ 17;
  touched : length l.homes ≡ blocks_touched (g.M.Metadata.geometry l.metadata) l.sector l.count;
  state : g.D.Disk.state l.disk ≡ g.D.Disk.state l.fn.disk;
  there : (now kept : Contents) → g.M.Metadata.tells l.metadata (g.D.Disk.state l.fn.disk) now kept → true ≡ is_some (device_of (id_read l.fn.is_copy l.fn.id) now.volumes);
  told : 0 < l.count → (now kept : Contents) → g.M.Metadata.tells l.metadata (g.D.Disk.state l.fn.disk) now kept
      → ArePlaced (id_read l.fn.is_copy l.fn.id) (l.sector / (g.M.Metadata.geometry l.metadata).block_sectors) now.volumes (length l.homes) l.homes;
  inside : AreInside (g.M.Metadata.geometry l.metadata).data_blocks (length l.homes) l.homes;
  bytes : (now kept : Contents) → g.M.Metadata.tells l.metadata (g.D.Disk.state l.fn.disk) now kept
      → take (512 * l.done) l.out ≡ concat (values_at (g.M.Metadata.geometry l.metadata) now.volumes (seen (g.D.Disk.state l.fn.disk).cells) (id_read l.fn.is_copy l.fn.id) l.sector l.done);
}

abbrev pub decreases-loop-done : goal.decreases-loop-done
decreases-loop-done g l = l.count - l.done
