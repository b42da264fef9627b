use Rattle.std.proofs.Common.{◌≡◌, ◌-◌, IsTrue}
use Rattle.tp_sharing.specs.Volumes.{Volumes}
use Rattle.tp_mapping.specs.Mapping.{from_block, slots_of}
use Rattle.tp_mapping.specs.Trees.{StandForVolumes}
use Rattle.tp_meta.specs.Metadata.{marked_all}
use Rattle.tp_meta.proofs.marking.mark_device.Given as goal

-- the slots before this virtual block are marked
abbrev pub invariant-loop-from : goal.invariant-loop-from
invariant-loop-from g l = record {
  state : g.D.Disk.state l.disk ≡ g.D.Disk.state l.fn.disk;
  marked : IsTrue (g.D.Disk.state l.fn.disk).is_honest → (now kept : Volumes) → StandForVolumes l.mapping (g.D.Disk.state l.fn.disk) now kept
      → marked_all (slots_of l.device now) l.fn.marks ≡ marked_all (from_block l.from (slots_of l.device now)) l.marks;
}

abbrev pub decreases-loop-from : goal.decreases-loop-from
decreases-loop-from g l = 16777216 - l.from
