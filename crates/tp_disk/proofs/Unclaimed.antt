-- The state of a disk of which nothing is claimed stays well formed, and promises nothing of contents.
use Rattle.std.proofs.Common.{◌≡◌, ℕ, zero, suc, ◌≤◌, ◌^◌, Bool, true, false, List, length, replicate, refl, sym, ◌∙◌, ap, subst, true≢false}
use Rattle.std.proofs.lemmas.List.{length-replicate}
use Rattle.std.specs.Prelude.{◌%◌, IsTrue}
use Rattle.std.specs.List.{AllByRecursion}
use Rattle.tp_model.specs.Sectors.{zero_sector, sectors_of}
use Rattle.tp_model.specs.Disk.{DiskState, IsSettled, IsWellFormed, seen, settled, after_flush}
use Rattle.tp_model.proofs.DiskLaws.{seen-settled, IsWellFormed-flushed, IsWellFormed-written, IsWellFormed-settled, whole-sectors_of}
use Rattle.tp_disk.specs.HandedOut.{IsHandedOut}
use Rattle.tp_disk.specs.Shadow.{after_newest, unclaimed}

-- the same size, no more claimed, and well formed
pub record Kept (old new : DiskState) : Type 0 where
  pub size_is : new.size ≡ old.size
  pub claim_is : new.is_honest ≡ old.is_honest
  pub well_formed : IsWellFormed new.size new.cells

kept_by : (ok : Bool) (old : DiskState) → IsWellFormed old.size old.cells → Kept old (after_flush ok old)
kept_by true old well = record { size_is = refl; claim_is = refl; well_formed = IsWellFormed-flushed well }
kept_by false old well = record { size_is = refl; claim_is = refl; well_formed = well }

pub kept_flush : (ok : Bool) (old new : DiskState) → IsWellFormed old.size old.cells → new ≡ after_flush ok old → Kept old new
kept_flush ok old new well e = subst (Kept old) (sym e) (kept_by ok old well)

pub kept_write : (at : ℕ) (bytes : List ℕ) (ok : Bool) (old new : DiskState) → IsWellFormed old.size old.cells → length bytes % 512 ≡ 0 → new ≡ after_newest at (sectors_of bytes) ok old → Kept old new
kept_write at bytes ok old new well whole e =
    subst (Kept old) (sym e) (record { size_is = refl; claim_is = refl; well_formed = IsWellFormed-written at (sectors_of bytes) (whole-sectors_of bytes whole) well })

length-zero_sector : length zero_sector ≡ 512
unfolding zero_sector
length-zero_sector = length-replicate {A = ℕ} 512 0

zeros_whole : (n : ℕ) → AllByRecursion (λ value. length value ≡ 512) (replicate n zero_sector)
zeros_whole zero = tt
zeros_whole (suc n) = (length-zero_sector, zeros_whole n)

pub zeros_well : (size : ℕ) → size ≤ 2 ^ 54 → IsWellFormed size (settled (replicate size zero_sector))
zeros_well size fits = IsWellFormed-settled size (replicate size zero_sector) fits (length-replicate size zero_sector) (zeros_whole size)

pub unclaimed_promises : {P : Type 0} (b : Bool) → b ≡ false → IsTrue b → P
unclaimed_promises b e h = absurd (true≢false (sym h ∙ e))

pub unclaimed_is_handed_out : (size : ℕ) (state : DiskState) → state ≡ unclaimed size → IsHandedOut state
unclaimed_is_handed_out size state e =
    subst IsHandedOut (sym e) (record { past = refl; failures = refl; flushes = refl; settled = λ honest. unclaimed_promises {P = IsSettled (unclaimed size).cells} false refl honest })

-- A disk whose cells were settled at some time is settled: what is seen of them is what they were settled as.
settled_settled : (image : List (List ℕ)) → IsSettled (settled image)
settled_settled image = ap settled (sym (seen-settled image))

pub unclaimed_is_settled : (size : ℕ) (state : DiskState) → state ≡ unclaimed size → IsSettled state.cells
unclaimed_is_settled size state e = subst (λ (d : DiskState). IsSettled d.cells) (sym e) (settled_settled (replicate size zero_sector))

pub flushed_is_settled : (old new : DiskState) → new ≡ after_flush true old → IsSettled new.cells
flushed_is_settled old new e = subst (λ (d : DiskState). IsSettled d.cells) (sym e) (settled_settled (seen old.cells))

pub unflushed_is_settled : (old new : DiskState) → new ≡ after_flush false old → IsSettled old.cells → IsSettled new.cells
unflushed_is_settled old new e settled = subst (λ (d : DiskState). IsSettled d.cells) (sym e) settled
