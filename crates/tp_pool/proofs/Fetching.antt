-- What reading a range of sectors of a volume gives.
use Rattle.std.proofs.Common.{◌≡◌, true, ℕ, zero, suc, ◌+◌, ◌-◌, ◌*◌, ◌/◌, ◌%◌, ◌<◌, ◌≤◌, ◌^◌, None, Some, Option, List, [], ◌∷◌, ◌++◌, length, map, take, drop, replicate, refl, sym, ap, ◌∙◌, arith}
use Rattle.std.specs.List.{AllByRecursion, concat, range_with_len}
use Rattle.std.proofs.Math.Nat.{mod-lt}
use Rattle.std.proofs.lemmas.List.{get_or-take, get_or-drop, get_or-replicate, length-take-le, length-drop, length-replicate, ext_get_or}
use Rattle.std.proofs.lemmas.List.FromFn.{get_or-map-range_with_len, length-map-range_with_len}
use Rattle.std.proofs.lemmas.Slice.{take-put_mid}
use borrow.Rule.Slice.PartMut.{put_mid}
use Rattle.tp_model.proofs.Slices.{length-put_mid}
use Rattle.tp_model.specs.Geometry.{Geometry, IsWithinLimits, data_sector, sectors_of_image}
use Rattle.tp_model.specs.Calls.{touches}
use Rattle.tp_model.specs.Sectors.{Sector, sector_at, bytes_at, zero_sector}
use Rattle.tp_model.proofs.DiskLaws.{concat-append, concat-zeros, length-sector_at}
use Rattle.tp_sharing.specs.Volumes.{Volumes, slot_of}
use Rattle.tp_mapping.specs.Mapping.{IsWithin}
use Rattle.tp_shown.specs.Shown.{value_of, value_at, values_at}
use Rattle.tp_pool.specs.Held.{most_sectors}
use Rattle.tp_pool.specs.Reading.{IsRun}
use Rattle.tp_pool.proofs.Following.{lies_behind}
use Rattle.tp_pool.proofs.Joining.{touched_by, within}

-- the last sector of a data block lies on the disk
pub block_end : (g : Geometry) (p : ℕ) → p < g.data_blocks → data_sector g p + g.block_sectors ≤ sectors_of_image g
block_end g p lt = grind arith

-- a volume has less than 2 ^ 36 sectors
pub volume_small : (g : Geometry) → IsWithinLimits g → most_sectors g ≤ 2 ^ 36
volume_small g limits = omega (arith, limits.block_most)

module _ (g : Geometry) (volumes : Volumes) (image : List Sector) (id sector n : ℕ) (pos : 0 < g.block_sectors) where
  abbrev bs : ℕ
  bs = g.block_sectors

  is_touched : (j : ℕ) → j < n → touches g sector n ((sector + j) / bs) ≡ true
  is_touched j lt = touched_by g sector n (sector + j) pos (within sector n (sector + j) (omega arith) (omega (arith, lt)))

  values_long : length (values_at g volumes image id sector n) ≡ n
  values_long = length-map-range_with_len (value_at g volumes image id) sector n

  values_are : (j : ℕ) → j < n → sector_at (values_at g volumes image id sector n) j ≡ value_at g volumes image id (sector + j)
  values_are j lt = get_or-map-range_with_len (value_at g volumes image id) sector n j (sector + j) [] lt (omega arith)

  pub reads_none : (len : ℕ) → len ≡ 512 * n → IsRun g id sector n volumes None → replicate len 0 ≡ concat (values_at g volumes image id sector n)
  reads_none len e none =
      let blank : List Sector = replicate n zero_sector in
      let long : length blank ≡ n = length-replicate {A = Sector} n zero_sector in
      sym (concat-zeros n len e)
      ∙ ap concat (ext_get_or [] blank (values_at g volumes image id sector n) (long ∙ sym values_long)
      (λ j lt.
      let low : j < n = omega (arith, lt, long) in
      get_or-replicate n j zero_sector [] low ∙ sym (values_are j low ∙ ap (λ o. value_of g image o ((sector + j) % bs)) (none ((sector + j) / bs) (is_touched j low)))))

  pub reads_run : (p : ℕ) → IsRun g id sector n volumes (Some p) → data_sector g p + sector % bs + n ≤ length image → bytes_at image (data_sector g p + sector % bs) n ≡ concat (values_at g volumes image id sector n)
  reads_run p follow room =
      let at = data_sector g p + sector % bs in
      let long : length (take n (drop at image)) ≡ n = length-take-le n (drop at image) (omega (arith, length-drop at image, room)) in
      ap concat (ext_get_or [] (take n (drop at image)) (values_at g volumes image id sector n) (long ∙ sym values_long)
      (λ j lt.
      let low : j < n = omega (arith, lt, long) in
      get_or-take n (drop at image) j [] low ∙ get_or-drop at image j [] ∙ ap (sector_at image) (sym (lies_behind g pos sector p j))
      ∙ sym (values_are j low ∙ ap (λ o. value_of g image o ((sector + j) % bs)) (follow ((sector + j) / bs) (is_touched j low)))))

-- ---- a range that is read part by part

map-range-more : {X : Type 0} (f : ℕ → X) (a n m : ℕ) → map f (range_with_len a (n + m)) ≡ map f (range_with_len a n) ++ map f (range_with_len (a + n) m)
map-range-more f a zero m =
    let z : 0 + m ≡ m = omega arith in
    let y : a ≡ a + 0 = omega arith in
    (λ i. map f (range_with_len (y i) (z i)))
map-range-more f a (suc n) m =
    let s : suc n + m ≡ suc (n + m) = omega arith in
    let t : a + 1 + n ≡ a + suc n = omega arith in
    ap (λ k. map f (range_with_len a k)) s ∙ ap (λ l. f a ∷ l) (map-range-more f (a + 1) n m ∙ ap (λ k. map f (range_with_len (a + 1) n) ++ map f (range_with_len k m)) t)

-- as many sectors as the part has
pub part_is : (bytes : List ℕ) (done part : ℕ) → done + part ≤ length bytes / 512 → length (take (512 * (done + part) - 512 * done) (drop (512 * done) bytes)) / 512 ≡ part
part_is bytes done part fits =
    let is = length-take-le (512 * (done + part) - 512 * done) (drop (512 * done) bytes) (omega (arith, length-drop (512 * done) bytes, fits)) in
    omega (arith, is)

module _ (bytes these : List ℕ) (done part : ℕ) (fits : done + part ≤ length bytes / 512) (long : length these ≡ length (take (512 * (done + part) - 512 * done) (drop (512 * done) bytes))) where
  abbrev a : ℕ
  a = 512 * done

  abbrev k : ℕ
  k = 512 * (done + part) - 512 * done

  exactly : length these ≡ k
  exactly = long ∙ length-take-le k (drop a bytes) (omega (arith, length-drop a bytes))

  pub same_length : length (put_mid a k bytes these) ≡ length bytes
  same_length = length-put_mid bytes these a k (omega arith) exactly

  pub read_more : (g : Geometry) (volumes : Volumes) (image : List Sector) (id sector : ℕ) → take a bytes ≡ concat (values_at g volumes image id sector done)
      → these ≡ concat (values_at g volumes image id (sector + done) (length (take k (drop a bytes)) / 512))
      → take (512 * (done + part)) (put_mid a k bytes these) ≡ concat (values_at g volumes image id sector (done + part))
  read_more g volumes image id sector so_far more =
      let n : length (take k (drop a bytes)) / 512 ≡ part = omega (arith, exactly, long) in
      let last : these ≡ concat (values_at g volumes image id (sector + done) part) = more ∙ ap (λ m. concat (values_at g volumes image id (sector + done) m)) n in
      take-put_mid a k bytes these (512 * (done + part)) (omega (arith, exactly)) (omega arith)
      ∙ (λ i. so_far i ++ last i)
      ∙ sym (ap concat (map-range-more (value_at g volumes image id) sector done part) ∙ concat-append (values_at g volumes image id sector done) (values_at g volumes image id (sector + done) part))

-- ---- whole sectors

map_whole : (f : ℕ → Sector) (a n : ℕ) → ((j : ℕ) → a ≤ j → j < a + n → length (f j) ≡ 512) → AllByRecursion (λ value. length value ≡ 512) (map f (range_with_len a n))
map_whole f a zero each = tt
map_whole f a (suc n) each = (each a (omega arith) (omega arith), map_whole f (a + 1) n (λ j low high. each j (omega (arith, low)) (omega (arith, high))))

zero_is_whole : length zero_sector ≡ 512
unfolding zero_sector
zero_is_whole = length-replicate {A = ℕ} 512 0

value_whole : (g : Geometry) (image : List Sector) (o : Option ℕ) (offset : ℕ) → AllByRecursion (λ value. length value ≡ 512) image → ((p : ℕ) → o ≡ Some p → data_sector g p + offset < length image) → length (value_of g image o offset) ≡ 512
value_whole g image None offset whole fits = zero_is_whole
value_whole g image (Some p) offset whole fits = length-sector_at image (data_sector g p + offset) whole (fits p refl)

pub values_whole : (g : Geometry) (volumes : Volumes) (image : List Sector) (id sector n : ℕ) → IsWithinLimits g → IsWithin g volumes → AllByRecursion (λ value. length value ≡ 512) image → sectors_of_image g ≤ length image
    → AllByRecursion (λ value. length value ≡ 512) (values_at g volumes image id sector n)
values_whole g volumes image id sector n limits within whole room =
    map_whole (value_at g volumes image id) sector n (λ k low high.
    value_whole g image (slot_of id (k / g.block_sectors) volumes) (k % g.block_sectors) whole (λ p e.
    let lt = (within.slots id (k / g.block_sectors) p e).1 in
    let end = block_end g p lt in
    let rest : k % g.block_sectors < g.block_sectors = mod-lt k (omega (arith, limits.block_least)) in
    omega (arith, end, rest, room)))
