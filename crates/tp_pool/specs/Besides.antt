-- Trusted reading: what a pool has besides its disk (own).
use Rattle.std.specs.Prelude.{List}
use Rattle.tp_model.specs.declared.mode.Mode.{Mode}
use Rattle.tp_model.specs.Disk.{DiskState}
use Rattle.tp_holders.specs.Holders.{Holding}
use Rattle.tp_pool.specs.Held.{Held}

pub record Besides (M : Type 0) : Type 0 where
  pub metadata : M
  pub holders : List Holding  -- the volumes that sessions hold, each once for each hold
  pub mode : Mode

-- a pool of that on this disk
abbrev pub pool_on : {M : Type 0} → DiskState → Besides M → Held M
pool_on disk b = record { disk = disk; metadata = b.metadata; holders = b.holders; mode = b.mode }

abbrev pub besides_of : {M : Type 0} → Held M → Besides M
besides_of h = record { metadata = h.metadata; holders = h.holders; mode = h.mode }
