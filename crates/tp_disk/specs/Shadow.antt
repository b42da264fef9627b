-- Internal: what a disk's state is after a step.
use Rattle.std.specs.Prelude.{ℕ, Bool, false, List, [], replicate}
use Rattle.tp_model.specs.Sectors.{zero_sector, chopped, sectors_of}
use Rattle.tp_model.specs.Disk.{DiskState, settled, fresh, after_read, after_write, after_flush}
use Rattle.tp_disk.specs.declared.shadow.Step.{Step}
use Rattle.tp_disk.specs.declared.shadow.Step.TheVariants.{Unclaimed, Image, NoChange, Write, Flush}

-- a disk of which nothing is claimed
abbrev pub unclaimed : ℕ → DiskState
unclaimed size = record { size = size; is_honest = false; cells = settled (replicate size zero_sector); past = []; failures = 0; flushes = 0 }

-- after a write that succeeded, or one that failed and whose values are yet the newest
abbrev pub after_newest : ℕ → List (List ℕ) → Bool → DiskState → DiskState
after_newest at values ok disk = after_read ok (after_write at values disk)

abbrev pub after_step : Step → List ℕ → DiskState → DiskState
after_step (Unclaimed size) bytes disk = unclaimed size
after_step (Image size) bytes disk = fresh (chopped size bytes)
after_step (NoChange ok) bytes disk = after_read ok disk
after_step (Write at ok) bytes disk = after_newest at (sectors_of bytes) ok disk
after_step (Flush ok) bytes disk = after_flush ok disk
