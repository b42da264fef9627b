-- Trusted reading: what contracts see of a `MemDisk`.
use Rattle.std.specs.Prelude.{ℕ, List}
use Rattle.tp_model.specs.Disk.{DiskState}
use Rattle.tp_disk.specs.declared.calls.Calls.{Calls}
use Rattle.tp_disk.specs.declared.watch.Watch.{Watch}
use Rattle.tp_disk.specs.declared.memory.MemDisk.{MemDisk}

abbrev pub mem_state : MemDisk → DiskState
mem_state disk = disk.shadow.state

abbrev pub calls_of : MemDisk → Calls
calls_of disk = disk.calls

abbrev pub watch_of : MemDisk → Watch
watch_of disk = disk.watch

-- for each sector the number of reads that had it
abbrev pub reads_of : MemDisk → List ℕ
reads_of disk = disk.read_counts.items

-- for each sector the number of writes that had it
abbrev pub writes_of : MemDisk → List ℕ
writes_of disk = disk.write_counts.items
