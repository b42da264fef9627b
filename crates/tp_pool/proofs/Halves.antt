-- What a stop leaves while a request is done.
use Rattle.std.proofs.Common.{◌≡◌, ◌≢◌, ◌⊎◌, inl, inr, ℕ, zero, suc, ◌+◌, ◌-◌, ◌*◌, ◌/◌, ◌%◌, ◌<◌, ◌≤◌, Bool, false, Option, None, Some, List, [], ◌∷◌, length, take, drop, refl, sym, ◌∙◌, ap, subst, arith}
use Rattle.std.specs.Prelude.{slice_get, slice_index_or}
use Rattle.std.proofs.Math.Nat.{div-lt_iff_lt-mul, mod-lt}
use Rattle.std.proofs.lemmas.Bool.{cases_eq, cases_lt, false≢true}
use Rattle.std.proofs.lemmas.Nat.{div-add-mod'}
use Rattle.std.proofs.lemmas.Option.{none-some, same_Some, slice_get-get_or}
use Rattle.tp_model.specs.Geometry.{Geometry, data_sector}
use Rattle.tp_model.specs.Sectors.{Sector, sector_at}
use Rattle.tp_model.specs.Calls.{Call, Write}
use Rattle.tp_model.specs.Disk.{Cell, DiskState, IsSameDisk, Writes, seen}
use Rattle.tp_model.specs.DiskStops.{AfterStop, Leaves, LeavesOnly, LeavesOutside, SameOutside}
use Rattle.tp_model.proofs.DiskStopLaws.{SameOutside-writes, goes_on_outside, joins, now, starts, starts_outside, weakens, weakens_outside}
use Rattle.tp_sharing.specs.Volumes.{OtherSlot, Unused, Volumes, slot_of}
use Rattle.tp_stored.specs.Contents.{Contents, HoldsContents, IsStill, SameData, SameMetadata}
use Rattle.tp_stored.proofs.Metadata.{commits_are_metadata}
use Rattle.tp_meta.specs.Metadata.{IsTracked, KeepsMetadata}
use Rattle.tp_shown.specs.Shown.{GivesValue, IsGiven, IsPartlyDone, IsUnnamed}
use Rattle.tp_shown.proofs.Values.{one_place}
use Rattle.tp_pool.specs.Writing.{IsHalf, IsHalfWritten}

abbrev Image : Type 0
Image = List Sector

-- ---- the metadata blocks

module _ (g : Geometry) (at n : ℕ) (high : 8 * g.metadata_blocks ≤ at) where
  pub outside_is_metadata : (before image : Image) → SameOutside at n before image → SameMetadata g before image
  outside_is_metadata before image s = record { same_length = s.same_length; same = λ i low. s.below i (omega (arith, low, high)) }

  -- a write behind them keeps them
  pub keeps_outside : (old new : DiskState) → IsSameDisk old new → LeavesOutside at n old new → SameOutside at n (seen old.cells) (seen new.cells) → KeepsMetadata g old new
  keeps_outside old new same left s = record {
    same_disk = same;
    seen_same = outside_is_metadata (seen old.cells) (seen new.cells) s;
    left = λ image stop. let f = now left image stop in (f.0, f.1, outside_is_metadata f.0 image f.2);
  }

  pub keeps_writes : (values : Image) (old new : DiskState) → Writes at values old new → length values ≤ n → KeepsMetadata g old new
  keeps_writes values old new w fits =
      let low : at ≤ at = omega arith in
      let within : at + length values ≤ at + n = omega (arith, fits) in
      keeps_outside old new (record { size = w.size; is_honest = w.is_honest }) (goes_on_outside (starts_outside at n old) w low within) (SameOutside-writes at n w low within)

-- ---- images in which a request was partly done

pub same_data_partly : (g : Geometry) (call : Call) (id : ℕ) (volumes kept : Volumes) (before image : Image) → SameData g before image → IsPartlyDone g call id volumes kept before image
same_data_partly g call id volumes kept before image same = record { same_length = same.same_length; each = λ i high. inl (same.same i high) }

module _ (g : Geometry) (call : Call) (id : ℕ) (volumes kept : Volumes) where
  given_still : (before image : Image) (i : ℕ) → sector_at image i ≡ sector_at before i → IsGiven g call id volumes kept before i → IsGiven g call id volumes kept image i
  given_still before image i e w = record {
    block = w.block;
    place = w.place;
    offset = w.offset;
    inside = w.inside;
    slot = w.slot;
    alone = w.alone;
    is_there = w.is_there;
    value = subst (λ x. GivesValue g call id volumes (w.block * g.block_sectors + w.offset) x) (sym e) w.value;
  }

  each_then : (before mid image : Image) (i : ℕ)
      → ((sector_at mid i ≡ sector_at before i) ⊎ IsUnnamed g kept i ⊎ IsGiven g call id volumes kept mid i)
      → ((sector_at image i ≡ sector_at mid i) ⊎ IsUnnamed g kept i ⊎ IsGiven g call id volumes kept image i)
      → (sector_at image i ≡ sector_at before i) ⊎ IsUnnamed g kept i ⊎ IsGiven g call id volumes kept image i
  each_then before mid image i (inl a) (inl b) = inl (b ∙ a)
  each_then before mid image i (inr (inl a)) (inl b) = inr (inl a)
  each_then before mid image i (inr (inr a)) (inl b) = inr (inr (given_still mid image i b a))
  each_then before mid image i a (inr b) = inr b

  pub partly_then : (before mid image : Image) → IsPartlyDone g call id volumes kept before mid → IsPartlyDone g call id volumes kept mid image → IsPartlyDone g call id volumes kept before image
  partly_then before mid image a b = record {
    same_length = b.same_length ∙ a.same_length;
    each = λ i high. each_then before mid image i (a.each i high) (b.each i high);
  }

-- ---- runs

module _ (g : Geometry) (call : Call) (id : ℕ) (volumes : Volumes) (kept : Contents) where
  pub still_half : (cells : List Cell) (image : Image) → IsStill g kept cells image → IsHalf g call id volumes kept cells image
  still_half cells image s = (s.0, s.1, s.2, same_data_partly g call id volumes kept.volumes s.0 image s.3)

  -- while the metadata are changed
  pub half_changing : (a b : DiskState) → LeavesOnly a b (IsStill g kept a.cells) → LeavesOnly a b (IsHalf g call id volumes kept a.cells)
  half_changing a b r = weakens {Q = IsHalf g call id volumes kept a.cells} (still_half a.cells) r

  pub half_then : (cells mid : List Cell) (image : Image) → Leaves (IsHalf g call id volumes kept cells) mid → IsHalf g call id volumes kept mid image → IsHalf g call id volumes kept cells image
  half_then cells mid image left h =
      let w = left h.0 h.1 in
      (w.0, w.1, h.2, partly_then g call id volumes kept.volumes w.0 h.0 image w.3 h.3)

  pub half_goes_on : (a b c : DiskState) → LeavesOnly a b (IsHalf g call id volumes kept a.cells) → LeavesOnly b c (IsHalf g call id volumes kept b.cells) → LeavesOnly a c (IsHalf g call id volumes kept a.cells)
  half_goes_on a b c r s = joins r (weakens {Q = IsHalf g call id volumes kept a.cells} (λ image h. half_then a.cells b.cells image (now r) h) s)

  -- a stop leaves what the last commit kept
  pub half_starts : (d : DiskState) → Leaves (HoldsContents g kept) d.cells → LeavesOnly d d (IsHalf g call id volumes kept d.cells)
  half_starts d left =
      starts {P = IsHalf g call id volumes kept d.cells} d
      (λ image stop. (image, stop, left image stop, same_data_partly g call id volumes kept.volumes image image (record { same_length = refl; same = λ i high. refl })))

-- ---- what one request gives, and another one gives too

module _ (g : Geometry) (call other : Call) (id : ℕ) (volumes others : Volumes) (kept : Contents)
    (gives : (image : Image) (i : ℕ) → IsGiven g call id volumes kept.volumes image i → IsGiven g other id others kept.volumes image i) where
  each_as : (before image : Image) (i : ℕ) → ((sector_at image i ≡ sector_at before i) ⊎ IsUnnamed g kept.volumes i ⊎ IsGiven g call id volumes kept.volumes image i)
      → (sector_at image i ≡ sector_at before i) ⊎ IsUnnamed g kept.volumes i ⊎ IsGiven g other id others kept.volumes image i
  each_as before image i (inl a) = inl a
  each_as before image i (inr (inl a)) = inr (inl a)
  each_as before image i (inr (inr a)) = inr (inr (gives image i a))

  partly_as : (before image : Image) → IsPartlyDone g call id volumes kept.volumes before image → IsPartlyDone g other id others kept.volumes before image
  partly_as before image w = record { same_length = w.same_length; each = λ i high. each_as before image i (w.each i high) }

  pub half_as : (a b : DiskState) → LeavesOnly a b (IsHalf g call id volumes kept a.cells) → LeavesOnly a b (IsHalf g other id others kept a.cells)
  half_as a b r = weakens {Q = IsHalf g other id others kept a.cells} (λ image h. (h.0, h.1, h.2, partly_as h.0 image h.3)) r

-- by the values of a block
pub given_as : (g : Geometry) (call other : Call) (id : ℕ) (volumes others kept : Volumes)
    → ((block offset : ℕ) (x : Sector) → offset < g.block_sectors → GivesValue g call id volumes (block * g.block_sectors + offset) x → GivesValue g other id others (block * g.block_sectors + offset) x)
    → (image : Image) (i : ℕ) → IsGiven g call id volumes kept image i → IsGiven g other id others kept image i
given_as g call other id volumes others kept values image i w = record {
  block = w.block;
  place = w.place;
  offset = w.offset;
  inside = w.inside;
  slot = w.slot;
  alone = w.alone;
  is_there = w.is_there;
  value = values w.block w.offset (sector_at image i) w.inside w.value;
}

-- ---- sectors that are written part after part

-- what a part of the sectors gives, all of them give
module _ (g : Geometry) (id sector : ℕ) (sectors : List Sector) (n : ℕ) (part : List Sector) (is_part : (k : ℕ) (x : Sector) → slice_get part k ≡ Some x → slice_get sectors (n + k) ≡ Some x) where
  abbrev all : Call
  all = Write id sector sectors false

  abbrev some : Call
  some = Write id (sector + n) part false

  pub given_of_part : (kept : Volumes) (image : Image) (i : ℕ) → IsGiven g some id [] kept image i → IsGiven g all id [] kept image i
  given_of_part kept image i w =
      let k = w.block * g.block_sectors + w.offset in
      let here : sector + n ≤ k = w.value.0 in
      let e : n + (k - (sector + n)) ≡ k - sector = omega (arith, here) in
      record {
        block = w.block;
        place = w.place;
        offset = w.offset;
        inside = w.inside;
        slot = w.slot;
        alone = w.alone;
        is_there = w.is_there;
        value = (omega (arith, here), ap (slice_get sectors) (sym e) ∙ is_part (k - (sector + n)) (sector_at image i) w.value.1);
      }

  pub half_of_part : (kept : Contents) (a b : DiskState) → LeavesOnly a b (IsHalfWritten g id (sector + n) part kept a.cells) → LeavesOnly a b (IsHalfWritten g id sector sectors kept a.cells)
  half_of_part kept a b r = half_as g some all id [] [] kept (given_of_part kept.volumes) a b r

of_drop : (n : ℕ) (xs : List Sector) (k : ℕ) (x : Sector) → slice_get (drop n xs) k ≡ Some x → slice_get xs (n + k) ≡ Some x
of_drop zero xs k x e = let z : k ≡ zero + k = omega arith in subst (λ j. slice_get xs j ≡ Some x) z e
of_drop (suc n) [] k x e = absurd (none-some x e)
of_drop (suc n) (y ∷ xs) k x e = let s : suc (n + k) ≡ suc n + k = omega arith in subst (λ j. slice_get (y ∷ xs) j ≡ Some x) s (of_drop n xs k x e)

of_take : (m : ℕ) (xs : List Sector) (k : ℕ) (x : Sector) → slice_get (take m xs) k ≡ Some x → slice_get xs k ≡ Some x
of_take zero xs k x e = absurd (none-some x e)
of_take (suc m) [] k x e = absurd (none-some x e)
of_take (suc m) (y ∷ xs) zero x e = e
of_take (suc m) (y ∷ xs) (suc k) x e = of_take m xs k x e

-- what stands in a part of a list stands in the list
pub part_of_list : (xs : List Sector) (n m k : ℕ) (x : Sector) → slice_get (take m (drop n xs)) k ≡ Some x → slice_get xs (n + k) ≡ Some x
part_of_list xs n m k x e = of_drop n xs k x (of_take m (drop n xs) k x e)

-- ---- where the sectors of a block lie

-- data blocks that follow one another: where a sector of theirs lies
pub lies_in : (g : Geometry) (place k i : ℕ) → data_sector g place ≤ i → i < data_sector g place + k * g.block_sectors
    → (j offset : ℕ) × (j < k) × (offset < g.block_sectors) × (i ≡ data_sector g (place + j) + offset)
lies_in g place k i low high =
    let r = i - data_sector g place in
    let small : r < k * g.block_sectors = omega (arith, low, high) in
    let pos : 0 < g.block_sectors = elim (cases_eq g.block_sectors 0) [
      | inl none ↦ let e : k * g.block_sectors ≡ k * 0 = ap (λ n. k * n) none in absurd (omega (arith, e, small))
      | inr some ↦ omega (arith, some)
    ] in
    let parts : r / g.block_sectors * g.block_sectors + r % g.block_sectors ≡ r = div-add-mod' r g.block_sectors in
    let below = let w = div-lt_iff_lt-mul {k = g.block_sectors} {x = r} {y = k} pos in w.1 small in
    let more : (place + r / g.block_sectors) * g.block_sectors ≡ place * g.block_sectors + r / g.block_sectors * g.block_sectors = omega arith in
    (r / g.block_sectors, r % g.block_sectors, below, mod-lt r pos, omega (arith, low, parts, more))

-- data blocks are written that were free at the last commit
module _ (g : Geometry) (call : Call) (id : ℕ) (volumes kept : Volumes) (place k : ℕ) (unused : (j : ℕ) → j < k → Unused (place + j) kept) where
  unnamed_new : (i : ℕ) → data_sector g place ≤ i → i < data_sector g place + k * g.block_sectors → IsUnnamed g kept i
  unnamed_new i low high other block p offset slot inside e =
      let w = lies_in g place k i low high in
      let same : p * g.block_sectors + offset ≡ (place + w.0) * g.block_sectors + w.1 = omega (arith, w.4, e) in
      unused w.0 w.2 other block (slot ∙ ap Some (one_place g.block_sectors p (place + w.0) offset w.1 inside w.3 same).0)

  pub partly_new : (before image : Image) → SameOutside (data_sector g place) (k * g.block_sectors) before image → IsPartlyDone g call id volumes kept before image
  partly_new before image s = record {
    same_length = s.same_length;
    each = λ i high. elim (cases_lt i (data_sector g place)) [
      | inl lt ↦ inl (s.below i lt)
      | inr ge ↦ elim (cases_lt i (data_sector g place + k * g.block_sectors)) [
        | inl lt ↦ inr (inl (unnamed_new i ge lt))
        | inr past ↦ inl (s.above i past)
      ]
    ];
  }

-- a block is written in place
module _ (g : Geometry) (id sector : ℕ) (sectors : List Sector) (now kept : Volumes) (marks : List Bool) (place : ℕ) (mine : slot_of id (sector / g.block_sectors) now ≡ Some place)
    (alone : OtherSlot id (sector / g.block_sectors) place now → ⊥) (cold : slice_index_or marks place false ≡ false) (tracked : IsTracked now kept marks)
    (fits : sector % g.block_sectors + length sectors ≤ g.block_sectors) where
  abbrev block : ℕ
  block = sector / g.block_sectors

  abbrev at : ℕ
  at = data_sector g place + sector % g.block_sectors

  -- a slot of the last commit with the data block is this one
  is_mine : (other b : ℕ) → slot_of other b kept ≡ Some place → (other ≡ id) × (b ≡ block)
  is_mine other b e = elim (tracked other b place e) [
    | inl still ↦ both still (cases_eq other id) (cases_eq b block)
    | inr hot ↦ absurd (false≢true (sym cold ∙ hot))
  ]
    where
      both : slot_of other b now ≡ Some place → (other ≡ id) ⊎ (other ≢ id) → (b ≡ block) ⊎ (b ≢ block) → (other ≡ id) × (b ≡ block)
      both still (inl x) (inl y) = (x, y)
      both still (inr n) y = absurd (alone (other, b, still, λ q. n q.0))
      both still (inl x) (inr n) = absurd (alone (other, b, still, λ q. n q.1))

  alone_kept : OtherSlot id block place kept → ⊥
  alone_kept o = o.3 (is_mine o.0 o.1 o.2)

  start : block * g.block_sectors + sector % g.block_sectors ≡ sector
  start = div-add-mod' sector g.block_sectors

  -- where the last commit has not this data block there, no slot of it has
  unnamed_by : (k : ℕ) → k < length sectors → (slot_of id block kept ≡ Some place → ⊥) → IsUnnamed g kept (at + k)
  unnamed_by k lt none other b p offset slot inside e =
      let small : sector % g.block_sectors + k < g.block_sectors = omega (arith, lt, fits) in
      let same : place * g.block_sectors + (sector % g.block_sectors + k) ≡ p * g.block_sectors + offset = omega (arith, e) in
      let here : slot_of other b kept ≡ Some place = slot ∙ ap Some (sym (one_place g.block_sectors place p (sector % g.block_sectors + k) offset small inside same).0) in
      let w = is_mine other b here in
      none (sym (λ t. slot_of (w.0 t) (w.1 t) kept) ∙ here)

  given_by : (image : Image) (k : ℕ) → k < length sectors → slot_of id block kept ≡ Some place → sector_at image (at + k) ≡ sector_at sectors k → IsGiven g (Write id sector sectors false) id [] kept image (at + k)
  given_by image k lt e v =
      let j : block * g.block_sectors + (sector % g.block_sectors + k) - sector ≡ k = omega (arith, start) in
      record {
        block = block;
        place = place;
        offset = sector % g.block_sectors + k;
        inside = omega (arith, lt, fits);
        slot = e;
        alone = alone_kept;
        is_there = omega arith;
        value = (omega (arith, start), ap (slice_get sectors) j ∙ (slice_get-get_or sectors k [] lt ∙ ap Some (sym v)));
      }

  pub written_by : (image : Image) (k : ℕ) → k < length sectors → sector_at image (at + k) ≡ sector_at sectors k → (o : Option ℕ) → slot_of id block kept ≡ o → IsUnnamed g kept (at + k) ⊎ IsGiven g (Write id sector sectors false) id [] kept image (at + k)
  written_by image k lt v None e = inl (unnamed_by k lt (λ f. none-some place (sym e ∙ f)))
  written_by image k lt v (Some p) e = elim (cases_eq p place) [
    | inl same ↦ inr (given_by image k lt (e ∙ ap Some same) v)
    | inr other ↦ inl (unnamed_by k lt (λ f. other (same_Some p place (sym e ∙ f))))
  ]

-- ---- what a write leaves

pub left_run : (g : Geometry) (call : Call) (id : ℕ) (volumes : Volumes) (kept : Contents) (place k : ℕ) → ((j : ℕ) → j < k → Unused (place + j) kept.volumes) → (old mid new : DiskState)
    → LeavesOnly old mid (IsHalf g call id volumes kept old.cells) → LeavesOutside (data_sector g place) (k * g.block_sectors) mid new → LeavesOnly old new (IsHalf g call id volumes kept old.cells)
left_run g call id volumes kept place k unused old mid new r left =
    let high : 8 * g.metadata_blocks ≤ data_sector g place = omega arith in
    half_goes_on g call id volumes kept old mid new r
    (weakens_outside (λ before. AfterStop mid.cells before × HoldsContents g kept before) (IsHalf g call id volumes kept mid.cells) left
    (λ image stop. (stop, (now r image stop).2))
    (λ before image was s. (
      before,
      was.0,
      commits_are_metadata g kept before image (outside_is_metadata g (data_sector g place) (k * g.block_sectors) high before image s) was.1,
      partly_new g call id volumes kept.volumes place k unused before image s,
    )))

pub left_new : (g : Geometry) (call : Call) (id : ℕ) (volumes : Volumes) (kept : Contents) (place : ℕ) → Unused place kept.volumes → (old mid new : DiskState) → LeavesOnly old mid (IsStill g kept old.cells)
    → LeavesOutside (data_sector g place) g.block_sectors mid new → LeavesOnly old new (IsHalf g call id volumes kept old.cells)
left_new g call id volumes kept place unused old mid new changing left =
    let one : g.block_sectors ≡ 1 * g.block_sectors = omega arith in
    left_run g call id volumes kept place 1 (λ j lt. let z : place ≡ place + j = omega (arith, lt) in subst (λ p. Unused p kept.volumes) z unused) old mid new
    (half_changing g call id volumes kept old mid changing) (subst (λ n. LeavesOutside (data_sector g place) n mid new) one left)
