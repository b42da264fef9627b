-- Shared reads of a pool on a cache, in words of the disk under it.
use Rattle.std.proofs.Common.{ℕ, Bool, List, refl}
use Rattle.tp_model.specs.Geometry.{Geometry}
use Rattle.tp_model.specs.Sectors.{Sector}
use Rattle.tp_model.specs.Calls.{Gave, Listed, Read, Walk}
use Rattle.tp_model.specs.Clauses.{Meets}
use Rattle.tp_model.specs.Disk.{DiskState}
use Rattle.tp_cache.specs.Table as tables
use Rattle.tp_cache.proofs.Lives.{kept_begins, kept_since}
use Rattle.tp_stored.specs.Contents.{Contents}
use Rattle.tp_pool.specs.Shared.{IsSharedCall, IsSharedRead}
use Rattle.tp_pool.proofs.Looking.{met_shared}
use Rattle.tp_pool.proofs.Pieces.{met_walk}
use Rattle.tp_served.specs.Served.{Cached, IsKnown, cached, on_cache}
use Rattle.tp_served.proofs.Inner.{LeftLaw, meets_under}

-- A cache is one since now.
since_now : (h : tables.Held) → tables.Since h h
since_now h =
    let k = kept_begins h h refl in
    kept_since h h k.time k.flushed k.along k.blocks

module _ {M : Type 0} (geometry : M → Geometry) (stands : M → DiskState → Contents → Contents → Type 0) (marks : M → List Bool) (room : M → ℕ) (changed : M → Bool)
    (left : LeftLaw geometry stands marks room changed) where
  pub shared_under : (c : Cached M) (id sector n : ℕ) (sectors : List Sector) → IsKnown geometry c → IsSharedRead geometry stands marks room changed (on_cache c) id sector n sectors
      → Meets (cached geometry stands marks room changed) c c (Read id sector n) (Gave sectors)
  shared_under c id sector n sectors known read =
      meets_under geometry stands marks room changed left c c known known.line (since_now c.cache) (Read id sector n) (Gave sectors)
      (met_shared geometry stands marks room changed (on_cache c) id sector n sectors read)

  pub walk_under : (c : Cached M) (id from : ℕ) (slots : List (ℕ × ℕ)) → IsKnown geometry c → IsSharedCall geometry stands marks room changed (on_cache c) (Walk id from) (Listed slots)
      → Meets (cached geometry stands marks room changed) c c (Walk id from) (Listed slots)
  walk_under c id from slots known walk =
      meets_under geometry stands marks room changed left c c known known.line (since_now c.cache) (Walk id from) (Listed slots)
      (met_walk geometry stands marks room changed (on_cache c) id from slots walk)
