-- Sectors that are written in place, to blocks whose data blocks follow one another.
use Rattle.std.proofs.Common.{◌≡◌, ◌⊎◌, inl, inr, ℕ, zero, suc, ◌+◌, ◌-◌, ◌*◌, ◌/◌, ◌%◌, ◌<◌, ◌≤◌, Bool, true, false, Some, List, [], ◌∷◌, length, refl, sym, ◌∙◌, ap, subst, arith}
use Rattle.std.specs.Prelude.{IsTrue, slice_get}
use Rattle.std.proofs.Math.Nat.{mod-lt}
use Rattle.std.proofs.lemmas.Bool.{and_parts, cases_lt, leb-true, ltb-true}
use Rattle.std.proofs.lemmas.Nat.{div-add-mod'}
use Rattle.std.proofs.lemmas.Option.{none-some, same_Some, slice_get-get_or}
use Rattle.tp_model.specs.Geometry.{Geometry, data_sector}
use Rattle.tp_model.specs.Sectors.{Sector, overlaid, sector_at}
use Rattle.tp_model.specs.Calls.{Write, touches}
use Rattle.tp_model.specs.Disk.{DiskState, Writes}
use Rattle.tp_model.specs.DiskStops.{AfterStop, Leaves, LeavesOnly, PartlyOverlaid}
use Rattle.tp_model.proofs.DiskLaws.{sector_at-overlaid_above, sector_at-overlaid_below}
use Rattle.tp_model.proofs.DiskStopLaws.{SameOutside-partly, goes_on_write}
use Rattle.tp_model.proofs.Editing.{touched}
use Rattle.tp_sharing.specs.Volumes.{Volumes, slot_of}
use Rattle.tp_stored.specs.Contents.{Contents, HoldsContents}
use Rattle.tp_stored.proofs.Metadata.{commits_are_metadata}
use Rattle.tp_meta.specs.Metadata.{IsTracked}
use Rattle.tp_shown.specs.Shown.{IsGiven, IsPartlyDone, IsUnnamed, Overwrites, value_of}
use Rattle.tp_shown.proofs.Blocks.{quotients_ascend}
use Rattle.tp_shown.proofs.Overwritten.{overwrites_by, written_at}
use Rattle.tp_shown.proofs.Values.{one_place}
use Rattle.tp_pool.specs.Writing.{IsHalfWritten, IsOwnRun}
use Rattle.tp_pool.proofs.Halves.{given_of_part, half_starts, outside_is_metadata, written_by}
use Rattle.tp_pool.proofs.Joining.{touched_by, within}
use Rattle.tp_pool.proofs.Overwriting.{overlaid_is_written}
use Rattle.tp_pool.proofs.Rounds.{below}
use Rattle.tp_pool.proofs.Taken.{own_from}

abbrev Image : Type 0
Image = List Sector

-- one of some sectors
one_of : (sectors : List Sector) (k : ℕ) → k < length sectors → (j : ℕ) (x : Sector) → slice_get (sector_at sectors k ∷ []) j ≡ Some x → slice_get sectors (k + j) ≡ Some x
one_of sectors k lt zero x e =
    let z : k ≡ k + zero = omega arith in
    ap (slice_get sectors) (sym z) ∙ (slice_get-get_or sectors k [] lt ∙ e)
one_of sectors k lt (suc j) x e = absurd (none-some x e)

-- what a range touches is not before its first block
pub from_first : (g : Geometry) → 0 < g.block_sectors → (sector n block : ℕ) → touches g sector n block ≡ true → sector / g.block_sectors ≤ block
from_first g pos sector n block t =
    let w = touched g sector n block pos t in
    let low = leb-true sector w.0 (and_parts _ _ w.1).0 in
    let up = quotients_ascend g.block_sectors sector w.0 pos low in
    omega (arith, up, w.2)

-- nor behind its last one
pub up_to_last : (g : Geometry) → 0 < g.block_sectors → (sector n run block : ℕ) → sector % g.block_sectors + n ≤ run * g.block_sectors → touches g sector n block ≡ true → block < sector / g.block_sectors + run
up_to_last g pos sector n run block fits t =
    let w = touched g sector n block pos t in
    let high : w.0 < sector + n = ltb-true w.0 (sector + n) (and_parts _ _ w.1).1 in
    let start : sector / g.block_sectors * g.block_sectors + sector % g.block_sectors ≡ sector = div-add-mod' sector g.block_sectors in
    let more : (sector / g.block_sectors + run) * g.block_sectors ≡ sector / g.block_sectors * g.block_sectors + run * g.block_sectors = omega arith in
    let lt = below w.0 (sector / g.block_sectors + run) g.block_sectors pos (omega (arith, high, start, more, fits)) in
    omega (arith, lt, w.2)

-- a sector of a run of blocks lies as far behind the first one on the disk as in the volume
pub lies_behind : (g : Geometry) → 0 < g.block_sectors → (sector place k : ℕ)
    → data_sector g (place + ((sector + k) / g.block_sectors - sector / g.block_sectors)) + (sector + k) % g.block_sectors ≡ data_sector g place + sector % g.block_sectors + k
lies_behind g pos sector place k =
    let bs = g.block_sectors in
    let first = sector / bs in
    let b = (sector + k) / bs in
    let low = quotients_ascend bs sector (sector + k) pos (omega arith) in
    let j = b - first in
    let e : b ≡ first + j = omega (arith, low) in
    let f : b * bs ≡ (first + j) * bs = ap (λ m. m * bs) e in
    let more : (first + j) * bs ≡ first * bs + j * bs = omega arith in
    let of_home : (place + j) * bs ≡ place * bs + j * bs = omega arith in
    let start : first * bs + sector % bs ≡ sector = div-add-mod' sector bs in
    let here : b * bs + (sector + k) % bs ≡ sector + k = div-add-mod' (sector + k) bs in
    omega (arith, f, more, of_home, here, start)

module _ (g : Geometry) (pos : 0 < g.block_sectors) (id sector : ℕ) (sectors : List Sector) (now : Volumes) (marks : List Bool) (place : ℕ)
    (own : IsOwnRun g id sector (length sectors) now marks place) where
  abbrev first : ℕ
  first = sector / g.block_sectors

  abbrev at : ℕ
  at = data_sector g place + sector % g.block_sectors

  -- the data block of a block
  abbrev home : ℕ → ℕ
  home b = place + (b - first)

  start : first * g.block_sectors + sector % g.block_sectors ≡ sector
  start = div-add-mod' sector g.block_sectors

  -- where a block lies from the first one on
  stands : (b : ℕ) → first ≤ b → (b * g.block_sectors ≡ first * g.block_sectors + (b - first) * g.block_sectors) × (home b * g.block_sectors ≡ place * g.block_sectors + (b - first) * g.block_sectors)
  stands b low =
      let j = b - first in
      let e : b ≡ first + j = omega (arith, low) in
      let f : b * g.block_sectors ≡ (first + j) * g.block_sectors = ap (λ k. k * g.block_sectors) e in
      let more : (first + j) * g.block_sectors ≡ first * g.block_sectors + j * g.block_sectors = omega arith in
      let of_home : (place + j) * g.block_sectors ≡ place * g.block_sectors + j * g.block_sectors = omega arith in
      (f ∙ more, of_home)

  -- the block of a sector that is written, and where the sector lies
  abbrev block : ℕ → ℕ
  block k = (sector + k) / g.block_sectors

  is_touched : (k : ℕ) → k < length sectors → touches g sector (length sectors) (block k) ≡ true
  is_touched k lt = touched_by g sector (length sectors) (sector + k) pos (within sector (length sectors) (sector + k) (omega arith) (omega (arith, lt)))

  lies : (k : ℕ) → data_sector g (home (block k)) + (sector + k) % g.block_sectors ≡ at + k
  lies k = lies_behind g pos sector place k

  module _ (image : Image) (long : (b p : ℕ) → slot_of id b now ≡ Some p → data_sector g p + g.block_sectors ≤ length image) where
    abbrev after : Image
    after = overlaid at sectors image

    -- a sector of another slot is not written
    not_inside : (i b p offset k : ℕ) → (((i ≡ id) × IsTrue (touches g sector (length sectors) b)) → ⊥) → slot_of i b now ≡ Some p → offset < g.block_sectors → k < length sectors → data_sector g p + offset ≡ at + k → ⊥
    not_inside i b p offset k none e small lt same =
        let t = is_touched k lt in
        let here = lies k in
        let r = (sector + k) % g.block_sectors in
        let inside : r < g.block_sectors = mod-lt (sector + k) pos in
        let equal : p * g.block_sectors + offset ≡ home (block k) * g.block_sectors + r = omega (arith, same, here) in
        let is = (one_place g.block_sectors p (home (block k)) offset r small inside equal).0 in
        (own_from id (block k) now marks (home (block k)) (own (block k) t).0 (own (block k) t).1).alone (i, b, e ∙ ap Some is, λ q. none (q.0, ap (touches g sector (length sectors)) q.1 ∙ t))

    other_data : (i b p offset : ℕ) → (((i ≡ id) × IsTrue (touches g sector (length sectors) b)) → ⊥) → slot_of i b now ≡ Some p → offset < g.block_sectors
        → sector_at after (data_sector g p + offset) ≡ sector_at image (data_sector g p + offset)
    other_data i b p offset none e small = elim (cases_lt (data_sector g p + offset) at) [
      | inl lt ↦ sector_at-overlaid_below at sectors image (data_sector g p + offset) lt
      | inr ge ↦ elim (cases_lt (data_sector g p + offset) (at + length sectors)) [
        | inl lt ↦
            let k = data_sector g p + offset - at in
            let small_k : k < length sectors = omega (arith, ge, lt) in
            let there : data_sector g p + offset ≡ at + k = omega (arith, ge) in
            absurd (not_inside i b p offset k none e small small_k there)
        | inr past ↦ sector_at-overlaid_above at sectors image (data_sector g p + offset) past
      ]
    ]

    own_data : (b p offset : ℕ) → IsTrue (touches g sector (length sectors) b) → slot_of id b now ≡ Some p → offset < g.block_sectors
        → sector_at after (data_sector g p + offset) ≡ written_at sector sectors (b * g.block_sectors + offset) (value_of g image (slot_of id b now) offset)
    own_data b p offset t e small =
        let mine = (own b t).0 in
        let same : p ≡ home b = same_Some p (home b) (sym e ∙ mine) in
        let w = stands b (from_first g pos sector (length sectors) b t) in
        let shift : b * g.block_sectors + offset + at ≡ data_sector g (home b) + offset + sector = omega (arith, w.0, w.1, start) in
        let end = long b (home b) mine in
        let inside : data_sector g (home b) + offset < length image = omega (arith, end, small) in
        ap (λ q. sector_at after (data_sector g q + offset)) same
        ∙ (overlaid_is_written at sector (data_sector g (home b) + offset) (b * g.block_sectors + offset) sectors image shift inside
        ∙ ap (λ o. written_at sector sectors (b * g.block_sectors + offset) (value_of g image o offset)) (sym mine))

    pub overwrites_in_place : Overwrites g id sector sectors now now image after
    overwrites_in_place = overwrites_by g id sector sectors now now image after (record {
      devices = λ i s. s;
      still = λ i s. s;
      sizes = λ i. refl;
      others = λ i b n. refl;
      own = λ b t. (home b, (own b t).0, (own_from id b now marks (home b) (own b t).0 (own b t).1).alone);
      other_data = other_data;
      own_data = own_data;
    })

  -- ---- what a stop leaves

  module _ (kept : Volumes) (tracked : IsTracked now kept marks) where
    each_in_place : (before image : Image) (k : ℕ) → k < length sectors → ((sector_at image (at + k) ≡ sector_at before (at + k)) ⊎ (sector_at image (at + k) ≡ sector_at sectors k))
        → (sector_at image (at + k) ≡ sector_at before (at + k)) ⊎ IsUnnamed g kept (at + k) ⊎ IsGiven g (Write id sector sectors false) id [] kept image (at + k)
    each_in_place before image k lt (inl e) = inl e
    each_in_place before image k lt (inr e) =
        let b = block k in
        let x = sector_at sectors k in
        let t = is_touched k lt in
        let is_own = own_from id b now marks (home b) (own b t).0 (own b t).1 in
        let rest : (sector + k) % g.block_sectors < g.block_sectors = mod-lt (sector + k) pos in
        let small : (sector + k) % g.block_sectors + length (x ∷ []) ≤ g.block_sectors = one_fits ((sector + k) % g.block_sectors) g.block_sectors x rest in
        let there : data_sector g (home b) + (sector + k) % g.block_sectors + 0 ≡ at + k = omega (arith, lies k) in
        let one : 0 < length (x ∷ []) = one_there x in
        let value : sector_at image (data_sector g (home b) + (sector + k) % g.block_sectors + 0) ≡ sector_at (x ∷ []) 0 = ap (sector_at image) there ∙ e in
        let w = written_by g id (sector + k) (x ∷ []) now kept marks (home b) is_own.mine is_own.alone is_own.cold tracked small image 0 one value (slot_of id b kept) refl in
        inr (subst (λ i. IsUnnamed g kept i ⊎ IsGiven g (Write id sector sectors false) id [] kept image i) there
        (elim w [
          | inl none ↦ inl none
          | inr given ↦ inr (given_of_part g id sector sectors k (x ∷ []) (one_of sectors k lt) kept image (data_sector g (home b) + (sector + k) % g.block_sectors + 0) given)
        ]))
      where
        one_fits : (a n : ℕ) (y : Sector) → a < n → a + length (y ∷ []) ≤ n
        one_fits a n y lt = omega (arith, lt)

        one_there : (y : Sector) → 0 < length (y ∷ [])
        one_there y = omega arith

    partly_in_place : (before image : Image) → PartlyOverlaid at sectors before image → IsPartlyDone g (Write id sector sectors false) id [] kept before image
    partly_in_place before image over = record {
      same_length = over.same_length;
      each = λ i high. elim (cases_lt i at) [
        | inl lt ↦ inl (over.below i lt)
        | inr ge ↦ elim (cases_lt i (at + length sectors)) [
          | inl lt ↦
              let k = i - at in
              let small : k < length sectors = omega (arith, ge, lt) in
              let e : at + k ≡ i = omega (arith, ge) in
              subst (λ j. (sector_at image j ≡ sector_at before j) ⊎ IsUnnamed g kept j ⊎ IsGiven g (Write id sector sectors false) id [] kept image j) e (each_in_place before image k small (over.inside k small))
          | inr past ↦ inl (over.above i past)
        ]
      ];
    }

  pub left_in_place : (kept : Contents) → IsTracked now kept.volumes marks → (old new : DiskState) → Leaves (HoldsContents g kept) old.cells → Writes at sectors old new
      → LeavesOnly old new (IsHalfWritten g id sector sectors kept old.cells)
  left_in_place kept tracked old new left writes =
      let high : 8 * g.metadata_blocks ≤ at = omega arith in
      let low : at ≤ at = omega arith in
      let fits : at + length sectors ≤ at + length sectors = omega arith in
      goes_on_write {P = IsHalfWritten g id sector sectors kept old.cells} {Q = λ before. AfterStop old.cells before × HoldsContents g kept before} (half_starts g (Write id sector sectors false) id [] kept old left) writes
      (λ image stop. (stop, left image stop))
      (λ before image was over. (
        before,
        was.0,
        commits_are_metadata g kept before image (outside_is_metadata g at (length sectors) high before image (SameOutside-partly at (length sectors) over low fits)) was.1,
        partly_in_place kept.volumes tracked before image over,
      ))
