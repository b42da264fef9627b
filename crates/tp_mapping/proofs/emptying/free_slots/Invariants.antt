use Rattle.std.proofs.Common.{◌≡◌, ◌*◌, ◌-◌, ◌<◌, ◌≤◌, ℕ, List, false, IsTrue}
use Rattle.std.specs.Prelude.{◌^◌}
use Rattle.tp_model.specs.Geometry.{Geometry}
use Rattle.tp_sharing.specs.Volumes.{BlockSlot, Volumes}
use Rattle.tp_btree.specs.Inserts.{Ran}
use Rattle.tp_mapping.specs.Held.{HoldVolume}
use Rattle.tp_mapping.specs.Runs.{without_places}
use Rattle.tp_mapping.proofs.emptying.free_slots.Given as goal

-- the blocks up to here have lost their data blocks
abbrev pub invariant-loop-done : goal.invariant-loop-done
invariant-loop-done g l = record {
  most : l.done ≤ l.count;
  inside : l.left.root < l.fn.tm.geometry.metadata_blocks;
  mapped : l.left.mapped ≤ 2 ^ 24;
  size : l.left.size ≡ l.fn.volume.size;
  ran : Ran (7 * l.done) false l.fn.tm l.tm (g.D.Disk.state l.fn.disk) (g.D.Disk.state l.disk);
  changed : IsTrue (g.D.Disk.state l.fn.disk).is_honest → (geo : Geometry) (root : ℕ) (slots : List BlockSlot) (now : Volumes)
      → HoldVolume geo l.fn.tm (g.D.Disk.state l.fn.disk) root l.fn.volume slots now
      → HoldVolume geo l.tm (g.D.Disk.state l.disk) root l.left (without_places l.first l.done slots) now;
}

abbrev pub decreases-loop-done : goal.decreases-loop-done
decreases-loop-done g l = l.count - l.done
