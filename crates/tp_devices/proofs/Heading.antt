-- What a head is found to be.
use Rattle.std.proofs.Common.{◌≡◌, ◌≢◌, ◌<◌, ◌+◌, ◌⊎◌, inl, inr, ⊎_elim, ℕ, suc, Bool, true, false, List, ◌∷◌, [], refl, sym, ap, subst, ◌∙◌, arith, Result, Ok, Err, true≢false}
use Rattle.std.specs.Prelude.{bytes_eq, is_ok, length}
use Rattle.std.proofs.lemmas.Bool.{cases_lt}
use Rattle.std.proofs.lemmas.Slice.Eq.{bytes_eq-Decides}
use Rattle.tp_model.specs.Sectors.{Sector, sector_at, sectors_of, zero_sector}
use Rattle.tp_model.specs.declared.refusal.Refusal.{Refusal}
use Rattle.tp_model.specs.Disk.{DiskState, after_read}
use Rattle.tp_model.proofs.DiskLaws.{sectors_of-one}
use Rattle.tp_layout.specs.declared.superblock.Superblock.{Superblock}
use Rattle.tp_image.specs.Slots.{Chooses}
use Rattle.tp_disk.specs.declared.disk.Fault.{Fault}
use Rattle.tp_devices.specs.Heads.{IsFree}

-- one sector more is zero
pub zero_so_far : (image : List Sector) (n m : ℕ) → ((k : ℕ) → k < n → sector_at image k ≡ zero_sector) → true ≡ bytes_eq (sector_at image n) zero_sector → m ≡ n + 1
    → (k : ℕ) → k < m → sector_at image k ≡ zero_sector
zero_so_far image n m before here e k lt =
    ⊎_elim (λ less. before k less)
    (λ least.
    let same : k ≡ n = omega (arith, lt, e, least) in
    subst (λ (i : ℕ). sector_at image i ≡ zero_sector) (sym same) ((bytes_eq-Decides (sector_at image n) zero_sector).0 (sym here)))
    (cases_lt k n)

-- a sector that is not zero
pub other_one : (sector : Sector) → false ≡ bytes_eq sector zero_sector → sector ≢ zero_sector
other_one sector differs e = true≢false (sym ((bytes_eq-Decides sector zero_sector).1 e) ∙ sym differs)

-- the bytes of one sector that is zero
pub zero_bytes : (bytes : List ℕ) → length bytes ≡ 512 → sectors_of bytes ≡ zero_sector ∷ [] → bytes ≡ zero_sector
zero_bytes bytes long are = first (sym (sectors_of-one bytes long) ∙ are)
  where
    first : {a b : Sector} → ◌≡◌ {A = List Sector} (a ∷ []) (b ∷ []) → a ≡ b
    first e = cc

-- what is said where a read failed
pub failed_state : (result : Result Bool Fault) (y : Fault) (old mid new : DiskState) → result ≡ Err y → new ≡ after_read false mid → mid ≡ old → new ≡ after_read (is_ok result) old
failed_state result y old mid new is state was = subst (λ (r : Result Bool Fault). new ≡ after_read (is_ok r) old) (sym is) (state ∙ ap (after_read false) was)

-- a superblock is a pool's
pub pool_there : (image : List Sector) (s : Superblock) → Chooses image (Ok s) → IsFree image
pool_there image s is = inl (Ok s, is, λ e. true≢false (ap (λ (r : Result Superblock Refusal). is_ok r) e))
