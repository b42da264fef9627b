-- Sectors of a volume that are written in place.
use Rattle.std.proofs.Common.{◌≡◌, ℕ, ◌+◌, ◌*◌, ◌/◌, ◌%◌, ◌<◌, ◌≤◌, Bool, List, length, refl, sym, ◌∙◌, ap, subst, arith}
use Rattle.tp_model.specs.Geometry.{Geometry, data_sector, sectors_of_image}
use Rattle.tp_model.specs.Sectors.{Sector, overlaid}
use Rattle.tp_model.specs.Disk.{DiskState, IsWellFormed, Writes, after_write, seen}
use Rattle.tp_model.specs.DiskStops.{Leaves, LeavesOnly}
use Rattle.tp_model.proofs.DiskLaws.{seen-written}
use Rattle.tp_stored.specs.Contents.{Contents, HoldsContents}
use Rattle.tp_mapping.specs.Mapping.{IsWithin}
use Rattle.tp_meta.specs.Metadata.{IsTracked, KeepsMetadata}
use Rattle.tp_shown.specs.Shown.{Overwrites}
use Rattle.tp_pool.specs.Writing.{HasWrittenPart, IsHalfWritten, IsOwnRun}
use Rattle.tp_pool.proofs.Following.{left_in_place, overwrites_in_place}
use Rattle.tp_pool.proofs.Halves.{keeps_writes}
use Rattle.tp_pool.proofs.NewBlock.{on_disk}

-- the place of a write, by other names of it
module _ (g h : Geometry) (n m place : ℕ) (values : List Sector) (a b c : DiskState) (same : g ≡ h) (shift : n ≡ m) (read : b ≡ a) where
  pub writes_same : Writes (data_sector g place + n) values b c → Writes (data_sector h place + m) values a c
  writes_same w =
      subst (λ (d : DiskState). Writes (data_sector h place + m) values d c) read
      (subst (λ (x : Geometry). Writes (data_sector x place + m) values b c) same (subst (λ k. Writes (data_sector g place + k) values b c) shift w))

  pub after_same : c ≡ after_write (data_sector g place + n) values b → c ≡ after_write (data_sector h place + m) values a
  after_same e = e ∙ (λ i. after_write (data_sector (same i) place + shift i) values (read i))

module _ {M : Type 0} (geometry : M → Geometry) (stands : M → DiskState → Contents → Contents → Type 0) (marks : M → List Bool) (id sector place : ℕ) (sectors : List Sector)
    (metadata : M) (old new : DiskState) (now kept : Contents) where
  abbrev g : Geometry
  g = geometry metadata

  abbrev block : ℕ
  block = sector / g.block_sectors

  module _ (pos : 0 < g.block_sectors) (own : IsOwnRun g id sector (length sectors) now.volumes (marks metadata) place) (writes : Writes (data_sector g place + sector % g.block_sectors) sectors old new) where
    pub half_in_place : IsTracked now.volumes kept.volumes (marks metadata) → Leaves (HoldsContents g kept) old.cells → LeavesOnly old new (IsHalfWritten g id sector sectors kept old.cells)
    half_in_place tracked left = left_in_place g pos id sector sectors now.volumes (marks metadata) place own kept tracked old new left writes

    pub written_in_place : (n : ℕ) (taken : Bool) → ((c : Contents) (a b : DiskState) → KeepsMetadata g a b → stands metadata a c kept → stands metadata b c kept) → stands metadata old now kept
        → new ≡ after_write (data_sector g place + sector % g.block_sectors) sectors old → IsWithin g now.volumes
        → IsWellFormed old.size old.cells → sectors_of_image g ≤ old.size
        → HasWrittenPart geometry stands marks id block n sector sectors taken metadata metadata old new now kept
    written_in_place n taken frame stood is within formed room =
        let at = data_sector g place + sector % g.block_sectors in
        let high : 8 * g.metadata_blocks ≤ at = omega arith in
        let cells : seen new.cells ≡ overlaid at sectors (seen old.cells) = ap (λ (d : DiskState). seen d.cells) is ∙ seen-written at sectors old.cells in
        record {
          volumes = now.volumes;
          meta_used = now.meta_used;
          standing = frame now old new (keeps_writes g at (length sectors) high sectors old new writes (omega arith)) stood;
          overwrites =
              subst (Overwrites g id sector sectors now.volumes now.volumes (seen old.cells)) (sym cells)
              (overwrites_in_place g pos id sector sectors now.volumes (marks metadata) place own (seen old.cells) (λ b p e. on_disk g old p (within.slots id b p e).1 formed room));
          in_place = λ same. (refl, refl);
          still = λ none. (refl, refl);
          others = λ other far t. t;
          free = omega arith;
        }
