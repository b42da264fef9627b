-- Internal: what a stop leaves while a disk with a pool is formatted, in words of commits (own).
use Rattle.std.specs.Prelude.{◌⊎◌, List}
use Rattle.tp_model.specs.Geometry.{Geometry}
use Rattle.tp_model.specs.Sectors.{Sector}
use Rattle.tp_model.specs.Disk.{Cell}
use Rattle.tp_layout.specs.declared.superblock.Superblock.{Superblock}
use Rattle.tp_image.specs.Fresh.{IsFreshOf}
use Rattle.tp_refs.specs.Store.{Store}
use Rattle.tp_stored.specs.Contents.{HoldsContents}
use Rattle.tp_meta.specs.Committing.{IsStillCommit}
use Rattle.tp_meta.specs.Format.{IsNoPool}
use Rattle.tp_meta.specs.Standing.{fresh_contents}

-- the old commit whole, with data blocks that a stop might have left before; no pool; or the first commit of the new one
abbrev pub IsReformatting : Superblock → Store → Geometry → List Cell → List Sector → Type 0
IsReformatting last kept g cells image =
    IsStillCommit last kept cells image ⊎ IsNoPool image ⊎ (IsFreshOf g image × HoldsContents g (fresh_contents g) image)
