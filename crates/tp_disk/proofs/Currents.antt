-- The bytes beside a disk's state are what its reads give.
use Rattle.std.proofs.Common.{◌≡◌, ℕ, zero, suc, ◌+◌, ◌-◌, ◌*◌, ◌/◌, ◌≤◌, List, ◌∷◌, ◌++◌, length, take, drop, replicate, refl, sym, ap, ◌∙◌, subst, arith}
use Rattle.std.specs.Prelude.{◌%◌}
use Rattle.std.specs.List.{concat}
use Rattle.std.proofs.lemmas.List.{take-replicate, drop-replicate}
use Rattle.tp_model.specs.Sectors.{zero_sector, chopped, sectors_of, bytes_at}
use Rattle.tp_model.specs.Disk.{Cell, IsWellFormed, seen, written}
use Rattle.tp_model.proofs.DiskLaws.{IsWellFormed-written, whole-sectors_of, whole-seen, length-seen, length-concat, seen-written, concat-overlaid, bytes_at-is}

-- the bytes are the image of these cells
pub record IsCurrent (size : ℕ) (cells : List Cell) (bytes : List ℕ) : Type 0 where
  pub well : IsWellFormed size cells
  pub current : bytes ≡ concat (seen cells)
  pub long : length bytes ≡ 512 * size

pub long_if_current : (size : ℕ) (cells : List Cell) (bytes : List ℕ) → IsWellFormed size cells → bytes ≡ concat (seen cells) → length bytes ≡ 512 * size
long_if_current size cells bytes well current = omega (arith, ap length current, length-concat (seen cells) (whole-seen well), length-seen well)

pub current_after_write : (size at : ℕ) (bytes newest newest' : List ℕ) (cells cells' : List Cell) → IsWellFormed size cells → newest ≡ concat (seen cells) → length bytes % 512 ≡ 0 → at + length bytes / 512 ≤ size
    → cells' ≡ written at (sectors_of bytes) cells → newest' ≡ take (512 * at) newest ++ bytes ++ drop (512 * at + length bytes) newest → IsCurrent size cells' newest'
current_after_write size at bytes newest newest' cells cells' well current whole fits e put =
    let well' : IsWellFormed size cells' = subst (IsWellFormed size) (sym e) (IsWellFormed-written at (sectors_of bytes) (whole-sectors_of bytes whole) well) in
    let overlay = concat-overlaid at bytes (seen cells) (whole-seen well) whole (omega (arith, fits, length-seen well)) in
    let current' : newest' ≡ concat (seen cells') =
    put ∙ ap (λ l. take (512 * at) l ++ bytes ++ drop (512 * at + length bytes) l) current ∙ sym overlay ∙ sym (ap concat (seen-written at (sectors_of bytes) cells))
    ∙ sym (ap (λ (l : List Cell). concat (seen l)) e) in
    record { well = well'; current = current'; long = long_if_current size cells' newest' well' current' }

pub read_of_current : (size at : ℕ) (out newest : List ℕ) (cells : List Cell) (n : ℕ) → IsWellFormed size cells → newest ≡ concat (seen cells) → n ≡ 512 * (n / 512)
    → out ≡ take n (drop (512 * at) newest) → out ≡ bytes_at (seen cells) at (n / 512)
read_of_current size at out newest cells n well current whole read =
    read ∙ ap (λ l. take n (drop (512 * at) l)) current ∙ ap (λ k. take k (drop (512 * at) (concat (seen cells)))) whole
    ∙ sym (bytes_at-is (seen cells) at (n / 512) (whole-seen well))

pub chopped-zeros : (n m : ℕ) → m ≡ 512 * n → chopped n (replicate m 0) ≡ replicate n zero_sector
unfolding chopped zero_sector
chopped-zeros zero m e = refl
chopped-zeros (suc n) m e =
    ap (λ l. l ∷ chopped n (drop 512 (replicate m 0))) (take-replicate 512 m 0 (omega (arith, e)))
    ∙ ap (λ l. replicate 512 0 ∷ chopped n l) (drop-replicate 512 m 0)
    ∙ ap (λ (l : List (List ℕ)). replicate 512 0 ∷ l) (chopped-zeros n (m - 512) (omega (arith, e)))
