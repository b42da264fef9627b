-- Internal: what a trim of the pool makes of its contents (own).
use Rattle.std.specs.Prelude.{◌≡◌, ℕ, Bool, List}
use Rattle.tp_model.specs.Geometry.{Geometry}
use Rattle.tp_model.specs.Disk.{DiskState}
use Rattle.tp_sharing.specs.Volumes.{Volumes, slot_of}
use Rattle.tp_stored.specs.Contents.{Contents}
use Rattle.tp_shown.specs.Shown.{HasLost}

module _ {M : Type 0} (geometry : M → Geometry) (stands : M → DiskState → Contents → Contents → Type 0) (marks : M → List Bool) where
  -- Of a device n virtual blocks from this one on have lost their data blocks, where they had one.
  pub record HasUnmapped (id first n : ℕ) (after : M) (new : DiskState) (now kept : Contents) : Type 0 where
    pub volumes : Volumes
    pub meta_used : ℕ
    pub standing : stands after new (record now { volumes = volumes; meta_used = meta_used }) kept
    pub lost : HasLost id first n now.volumes volumes
    -- where no slot has changed, no node has
    pub untouched : ((block : ℕ) → slot_of id block volumes ≡ slot_of id block now.volumes) → meta_used ≡ now.meta_used
