use Rattle.std.proofs.Common.{◌-◌, ◌≡◌, ◌*◌, ◌/◌, ◌≤◌, length, take, true}
use Rattle.std.specs.List.{concat}
use Rattle.std.specs.Option.{is_some}
use Rattle.tp_model.specs.Disk.{seen}
use Rattle.tp_sharing.specs.Volumes.{device_of}
use Rattle.tp_stored.specs.Contents.{Contents}
use Rattle.tp_shown.specs.Shown.{values_at}
use Rattle.tp_pool.specs.Reading.{id_read}
use Rattle.tp_pool.proofs.reading.read_told.Given as goal

abbrev pub invariant-loop-is_there : goal.invariant-loop-is_there
invariant-loop-is_there g l = record {
  counted : l.count ≡ length l.fn.out / 512;
  within : l.done ≤ l.count;
  long : length l.out ≡ length l.fn.out;
  state : g.D.Disk.state l.disk ≡ g.D.Disk.state l.fn.disk;
  there : (now kept : Contents) → g.M.Metadata.tells l.metadata (g.D.Disk.state l.fn.disk) now kept → l.is_there ≡ is_some (device_of (id_read l.is_copy l.id) now.volumes);
  bytes : l.is_there ≡ true → (now kept : Contents) → g.M.Metadata.tells l.metadata (g.D.Disk.state l.fn.disk) now kept
      → take (512 * l.done) l.out ≡ concat (values_at (g.M.Metadata.geometry l.metadata) now.volumes (seen (g.D.Disk.state l.fn.disk).cells) (id_read l.is_copy l.id) l.sector l.done);
}

abbrev pub decreases-loop-is_there : goal.decreases-loop-is_there
decreases-loop-is_there g l = l.count - l.done
