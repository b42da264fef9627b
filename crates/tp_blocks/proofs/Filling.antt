-- A block that is filled as a whole.
use Rattle.std.proofs.Common.{◌≡◌, ℕ, zero, suc, ◌+◌, ◌-◌, ◌*◌, ◌/◌, ◌<◌, ◌≤◌, List, [], ◌++◌, length, take, drop, replicate, Option, None, Some, false, refl, subst, sym, ap, ◌∙◌, arith, append_assoc}
use Rattle.std.specs.Prelude.{◌%◌, IsTrue}
use Rattle.std.specs.List.{concat, AllByRecursion}
use Rattle.std.proofs.lemmas.List.{length-replicate, length-take-le, length-drop, drop-take, drop-drop, drop-replicate, take-replicate, take-take, take_all, drop_all, append-nil}
use Rattle.tp_model.specs.Geometry.{Geometry, data_sector, sectors_of_image}
use Rattle.tp_model.specs.Sectors.{Sector, zero_sector, bytes_at, overlaid, sectors_of}
use Rattle.tp_model.specs.Disk.{Cell, DiskState, IsWellFormed, Writes, seen, after_read, after_write}
use Rattle.tp_model.proofs.DiskLaws.{bytes_at-is, concat-overlaid, concat-zeros, drop-concat, length-concat, sectors_of-concat, take-concat, whole-overlaid, whole-take, whole-drop, whole-seen, length-seen, whole-sectors_of, length-sectors_of, length-overlaid, Writes-none}
use Rattle.tp_blocks.specs.Filled.{block_of, Fills, IsKnown, IsPlaceOf, MayFill, base_of}

abbrev AreWhole : List Sector → Type 0
AreWhole = AllByRecursion (λ value. length value ≡ 512)

zero_sector_whole : length zero_sector ≡ 512
unfolding zero_sector
zero_sector_whole = length-replicate {A = ℕ} 512 0

whole_zeros : (n : ℕ) → AreWhole (replicate n zero_sector)
whole_zeros zero = tt
whole_zeros (suc n) = (zero_sector_whole, whole_zeros n)

-- the last sector of a data block lies on the disk
block_end : (g : Geometry) (p : ℕ) → p < g.data_blocks → data_sector g p + g.block_sectors ≤ sectors_of_image g
block_end g p lt = grind arith

module _ (g : Geometry) (cells : List Cell) (size : ℕ) (formed : IsWellFormed size cells) (room : sectors_of_image g ≤ size) where
  whole_base : (from : Option ℕ) → AreWhole (base_of g (seen cells) from)
  whole_base None = whole_zeros g.block_sectors
  whole_base (Some p) = whole-take g.block_sectors (drop (data_sector g p) (seen cells)) (whole-drop (data_sector g p) (seen cells) (whole-seen formed))

  length_base : (from : Option ℕ) → IsPlaceOf g from → length (base_of g (seen cells) from) ≡ g.block_sectors
  length_base None place = length-replicate {A = Sector} g.block_sectors zero_sector
  length_base (Some p) place =
      let end = block_end g p place in
      length-take-le g.block_sectors (drop (data_sector g p) (seen cells)) (omega (arith, end, length-drop (data_sector g p) (seen cells), length-seen formed))

-- the bytes of a part of a block are those of the image there
part_of_block : (long first at n : ℕ) (image : List Sector) → AreWhole image → at + n ≤ long
    → bytes_at image (first + at) n ≡ take (512 * n) (drop (512 * at) (concat (take long (drop first image))))
part_of_block long first at n image whole fits =
    let bytes = concat image in
    let rest : List ℕ = drop (512 * first) bytes in
    let more : ℕ = 512 * (long - at) in
    let e : 512 * long ≡ 512 * at + more = omega arith in
    let d : 512 * first + 512 * at ≡ 512 * (first + at) = omega arith in
    let block : concat (take long (drop first image)) ≡ take (512 * at + more) rest =
    take-concat long (512 * long) (drop first image) refl (whole-drop first image whole)
    ∙ ap (λ (l : List ℕ). take (512 * long) l) (drop-concat first (512 * first) image refl whole)
    ∙ ap (λ (k : ℕ). take k rest) e in
    let back : take (512 * n) (drop (512 * at) (concat (take long (drop first image)))) ≡ take (512 * n) (drop (512 * at) rest) =
    ap (λ (l : List ℕ). take (512 * n) (drop (512 * at) l)) block
    ∙ ap (λ (l : List ℕ). take (512 * n) l) (drop-take (512 * at) more rest)
    ∙ take-take (512 * n) more (drop (512 * at) rest) (omega arith) in
    bytes_at-is image (first + at) n whole
    ∙ ap (λ (l : List ℕ). take (512 * n) l) (sym (drop-drop (512 * at) (512 * first) bytes ∙ ap (λ (k : ℕ). drop k bytes) d))
    ∙ sym back

-- the bytes that a part of a block has to hold
abbrev part_of : Geometry → List Cell → Option ℕ → ℕ → ℕ → List ℕ
part_of g cells from sector n = take n (drop (512 * sector) (concat (base_of g (seen cells) from)))

-- they were read
pub copied : (g : Geometry) (old : DiskState) (formed : IsWellFormed old.size old.cells) (from : Option ℕ) (p sector at n : ℕ) (new : List ℕ) → from ≡ Some p
    → at ≡ data_sector g p → n % 512 ≡ 0 → sector + n / 512 ≤ g.block_sectors
    → (IsTrue old.is_honest → new ≡ bytes_at (seen old.cells) (at + sector) (n / 512))
    → IsKnown from old.is_honest → new ≡ part_of g old.cells from sector n
copied g old formed from p sector at n new some there ok fits read =
    subst (λ (o : Option ℕ). IsKnown o old.is_honest → new ≡ part_of g old.cells o sector n) (sym some)
    (λ known.
    let e : 512 * (n / 512) ≡ n = omega arith in
    read known ∙ ap (λ (k : ℕ). bytes_at (seen old.cells) (k + sector) (n / 512)) there
    ∙ part_of_block g.block_sectors (data_sector g p) sector (n / 512) (seen old.cells) (whole-seen formed) fits
    ∙ ap (λ (k : ℕ). take k (drop (512 * sector) (concat (block_of g (seen old.cells) p)))) e)

-- they are zeros
pub zeroed : (g : Geometry) (cells : List Cell) (from : Option ℕ) (sector n : ℕ) (new : List ℕ) → from ≡ None → n % 512 ≡ 0 → sector + n / 512 ≤ g.block_sectors
    → new ≡ replicate n 0 → new ≡ part_of g cells from sector n
zeroed g cells from sector n new none ok fits e =
    subst (λ (o : Option ℕ). new ≡ part_of g cells o sector n) (sym none)
    (e ∙ sym (take-replicate n (512 * g.block_sectors - 512 * sector) 0 (omega arith))
    ∙ ap (λ (l : List ℕ). take n l) (sym (drop-replicate (512 * sector) (512 * g.block_sectors) 0))
    ∙ ap (λ (l : List ℕ). take n (drop (512 * sector) l)) (sym (concat-zeros g.block_sectors (512 * g.block_sectors) refl)))

-- the bytes of a block with these over them
abbrev pub block_over : List Cell → Option ℕ → ℕ → List ℕ → Geometry → List ℕ
block_over cells from sector bytes g =
    take (512 * sector) (concat (base_of g (seen cells) from)) ++ bytes ++ drop (512 * sector + length bytes) (concat (base_of g (seen cells) from))

-- three parts of a row, the second one new
parts_over : (row bytes head middle tail : List ℕ) (at end n : ℕ) → head ≡ take at row → middle ≡ bytes → tail ≡ take n (drop end row) → end ≡ at + length bytes
    → length row ≤ end + n → head ++ (middle ++ tail) ≡ take at row ++ bytes ++ drop (at + length bytes) row
parts_over row bytes head middle tail at end n first second third e long =
    (λ i. first i ++ (second i ++ third i))
    ∙ ap (λ (l : List ℕ). take at row ++ (bytes ++ l)) (take_all n (drop end row) (omega (arith, length-drop end row)) ∙ ap (λ (k : ℕ). drop k row) e)
    ∙ sym (append_assoc (take at row) bytes (drop (at + length bytes) row))

-- bytes over a part of the bytes of whole sectors
sectors_over : (n sector : ℕ) (bytes buffer : List ℕ) (base : List Sector) → AreWhole base → length base ≡ n → length bytes % 512 ≡ 0 → sector + length bytes / 512 ≤ n
    → buffer ≡ take (512 * sector) (concat base) ++ bytes ++ drop (512 * sector + length bytes) (concat base) → sectors_of buffer ≡ overlaid sector (sectors_of bytes) base
sectors_over n sector bytes buffer base whole long ok fits is =
    let inside : sector + length bytes / 512 ≤ length base = omega arith in
    ap sectors_of (is ∙ sym (concat-overlaid sector bytes base whole ok inside))
    ∙ sectors_of-concat (overlaid sector (sectors_of bytes) base) (whole-overlaid sector (sectors_of bytes) base (whole-sectors_of bytes ok) whole)

module _ (g : Geometry) (block sector : ℕ) (bytes : List ℕ) (from : Option ℕ) (old : DiskState) (formed : IsWellFormed old.size old.cells)
    (room : sectors_of_image g ≤ old.size) (place : IsPlaceOf g from) (ok : length bytes % 512 ≡ 0) (fits : sector + length bytes / 512 ≤ g.block_sectors) where
  abbrev base : List Sector
  base = base_of g (seen old.cells) from

  base_long : length base ≡ g.block_sectors
  base_long = length_base g old.cells old.size formed room from place

  -- the bytes of the whole block, by its parts
  pub composed : (head middle tail : List ℕ) (n k at : ℕ) (mid : DiskState) → mid ≡ old → n ≡ 512 * sector → k + length bytes + n ≡ 512 * g.block_sectors
      → at ≡ sector + length bytes / 512 → (IsKnown from old.is_honest → head ≡ part_of g old.cells from 0 n) → middle ≡ bytes
      → (IsKnown from mid.is_honest → tail ≡ part_of g mid.cells from at k) → IsKnown from old.is_honest
      → head ++ (middle ++ tail) ≡ take (512 * sector) (concat base) ++ bytes ++ drop (512 * sector + length bytes) (concat base)
  composed head middle tail n k at mid same first_long last_long there first second third known =
      let last : IsKnown from old.is_honest → tail ≡ part_of g old.cells from at k = subst (λ (d : DiskState). IsKnown from d.is_honest → tail ≡ part_of g d.cells from at k) same third in
      let start : head ≡ take (512 * sector) (concat base) = first known ∙ ap (λ (m : ℕ). take m (concat base)) first_long in
      let whole : length (concat base) ≡ 512 * length base = length-concat base (whole_base g old.cells old.size formed room from) in
      parts_over (concat base) bytes head middle tail (512 * sector) (512 * at) k start second (last known) (omega (arith, ok)) (omega (arith, whole, base_long))

  -- bytes as many as those of a block are all of it
  pub covers : length bytes ≡ 512 * g.block_sectors → bytes ≡ take (512 * sector) (concat base) ++ bytes ++ drop (512 * sector + length bytes) (concat base)
  covers all =
      let first : 512 * sector ≡ 0 = omega (arith, all) in
      let long : length (concat base) ≡ 512 * length base = length-concat base (whole_base g old.cells old.size formed room from) in
      let none : drop (512 * sector + length bytes) (concat base) ≡ [] = drop_all (512 * sector + length bytes) (concat base) (omega (arith, long, base_long, all)) in
      sym (append-nil bytes) ∙ (λ i. take (sym first i) (concat base) ++ bytes ++ sym none i)

  module _ (buffer : List ℕ) (long : length buffer ≡ 512 * g.block_sectors)
      (is : IsKnown from old.is_honest → buffer ≡ take (512 * sector) (concat base) ++ bytes ++ drop (512 * sector + length bytes) (concat base)) where
    values_long : length (sectors_of buffer) ≡ g.block_sectors
    values_long = omega (arith, length-sectors_of buffer, long)

    values_are : IsKnown from old.is_honest → sectors_of buffer ≡ overlaid sector (sectors_of bytes) base
    values_are k =
        sectors_over g.block_sectors sector bytes buffer base (whole_base g old.cells old.size formed room from) base_long ok fits
        (is k)

    pub fills : (at : ℕ) → at ≡ data_sector g block → (mid new : DiskState) → mid ≡ old → new ≡ after_write at (sectors_of buffer) mid
        → Fills g block sector bytes from old new
    fills at there mid new same written =
        record { values = sectors_of buffer; whole = values_long; are = values_are; written = written ∙ (λ i. after_write (there i) (sectors_of buffer) (same i)) }

    -- the block was written, or a part of it
    pub may_fill : (at : ℕ) → at ≡ data_sector g block → (mid new : DiskState) → mid ≡ old → Writes at (sectors_of buffer) mid new
        → MayFill g block sector bytes from old new
    may_fill at there mid new same writes = record {
      values = sectors_of buffer;
      whole = values_long;
      are = values_are;
      writes = subst (λ (d : DiskState). Writes (data_sector g block) (sectors_of buffer) d new) same (subst (λ (n : ℕ). Writes n (sectors_of buffer) mid new) there writes);
    }

  -- nothing was written
  pub may_fill_none : (new : DiskState) → new ≡ after_read false old → MayFill g block sector bytes from old new
  may_fill_none new e = record {
    values = overlaid sector (sectors_of bytes) base;
    whole = length-overlaid sector (sectors_of bytes) base ∙ base_long;
    are = λ k. refl;
    writes = Writes-none (data_sector g block) (overlaid sector (sectors_of bytes) base) old new false e;
  }
