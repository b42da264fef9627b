-- What a request leaves at a sector and at a slot.
use Rattle.std.proofs.Common.{◌≡◌, ◌≢◌, ℕ, zero, suc, ◌+◌, ◌-◌, ◌*◌, ◌/◌, ◌<◌, ◌≤◌, Bool, true, false, cond, ◌&&◌, List, [], ◌∷◌, Option, Some, None, ◌⊎◌, inl, inr, refl, sym, ap, ◌∙◌, length, arith, add-zero}
use Rattle.std.specs.Prelude.{nat_lt, nat_le, slice_get}
use Rattle.std.specs.Option.{is_some, option_map, option_map_or}
use Rattle.std.specs.List.{enumerate_from}
use Rattle.std.specs.FinMap.{get, empty}
use Rattle.std.proofs.Math.Nat.{div-mul-le_self, lt-div-mul-add}
use Rattle.std.proofs.lemmas.Bool.{and_parts, and_from, cases_Bool, ltb-true, leb-true, lt-ltb, le-leb, true≢false, false≢true, cases_lt}
use Rattle.std.proofs.lemmas.Nat.{div-mul-add}
use Rattle.std.proofs.lemmas.Option.{slice_get-map}
use Rattle.tp_model.specs.Geometry.{Geometry}
use Rattle.tp_model.specs.Sectors.{Sector, zero_sector}
use Rattle.tp_model.specs.Pool.{PlainPool, volume_sectors, volume_sector, slot_at}
use Rattle.tp_model.specs.Calls.{Call, Read, Write, Trim, WriteZeroes, Flush, CreateThin, CreateSnap, Delete, SetTransactionId, Grow, Hold, LetGo, Status, ThinStatus, NextId, VolumeBlocks, Walk, Close, HeldRead, ReserveMetadataSnap, ReleaseMetadataSnap, SlotEffect, Keeps, Loses, Owns, is_within, touches, covers, sector_after, slot_effect, Edits}

-- a block that a range does not touch has no sector of it
pub not_touched : (g : Geometry) (at n k : ℕ) → 0 < g.block_sectors → touches g at n (k / g.block_sectors) ≡ false → is_within at n k ≡ false
not_touched g at n k some h =
    elim (cases_Bool (is_within at n k)) [
      | inr f ↦ f
      | inl t ↦
          let parts = and_parts (nat_le at k) (nat_lt k (at + n)) t in
          let low : at ≤ k = leb-true at k parts.0 in
          let high : k < at + n = ltb-true k (at + n) parts.1 in
          let down : k / g.block_sectors * g.block_sectors ≤ k = div-mul-le_self k g.block_sectors in
          let up : k < k / g.block_sectors * g.block_sectors + g.block_sectors = lt-div-mul-add some in
          let one : at < (k / g.block_sectors + 1) * g.block_sectors = omega arith in
          let two : k / g.block_sectors * g.block_sectors < at + n = omega arith in
          let many : 0 < n = omega arith in
          absurd (true≢false (sym (and_from _ _ (and_from _ _ (lt-ltb _ _ many) (lt-ltb _ _ one)) (lt-ltb _ _ two)) ∙ h))
    ]

-- a number of sectors past a block's first one, and below its size, stays in the block
in_block : (n block k : ℕ) → block * n ≤ k → k < (block + 1) * n → k / n ≡ block
in_block n block k low high =
    let e : k ≡ block * n + (k - block * n) = omega arith in
    let small : k - block * n < n = omega arith in
    ap (λ x. x / n) e ∙ div-mul-add block n (k - block * n) small

-- a block that a range touches has a sector of it
pub touched : (g : Geometry) (at n block : ℕ) → 0 < g.block_sectors → touches g at n block ≡ true → (k : ℕ) × (is_within at n k ≡ true) × (k / g.block_sectors ≡ block)
touched g at n block some h =
    let outer = and_parts (nat_lt 0 n && nat_lt at ((block + 1) * g.block_sectors)) (nat_lt (block * g.block_sectors) (at + n)) h in
    let inner = and_parts (nat_lt 0 n) (nat_lt at ((block + 1) * g.block_sectors)) outer.0 in
    let many : 0 < n = ltb-true _ _ inner.0 in
    let left : at < (block + 1) * g.block_sectors = ltb-true _ _ inner.1 in
    let right : block * g.block_sectors < at + n = ltb-true _ _ outer.1 in
    elim (cases_lt at (block * g.block_sectors)) [
      | inl lt ↦
          let low : at ≤ block * g.block_sectors = omega arith in
          let own : block * g.block_sectors ≤ block * g.block_sectors = omega arith in
          let next : block * g.block_sectors < (block + 1) * g.block_sectors = omega arith in
          (block * g.block_sectors, and_from _ _ (le-leb _ _ low) (lt-ltb _ _ right), in_block g.block_sectors block _ own next)
      | inr ge ↦
          let low : at ≤ at = omega arith in
          let high : at < at + n = omega arith in
          (at, and_from _ _ (le-leb _ _ low) (lt-ltb _ _ high), in_block g.block_sectors block at ge left)
    ]

-- a range that holds each sector of a block covers it
pub covers_from : (g : Geometry) (at n block : ℕ) → 0 < g.block_sectors → ((k : ℕ) → k / g.block_sectors ≡ block → is_within at n k ≡ true) → covers g at n block ≡ true
covers_from g at n block some h =
    let b = block * g.block_sectors in
    let own : b ≤ b = omega arith in
    let next : b < (block + 1) * g.block_sectors = omega arith in
    let last = b + (g.block_sectors - 1) in
    let low : b ≤ last = omega arith in
    let high : last < (block + 1) * g.block_sectors = omega arith in
    let first_in = and_parts (nat_le at b) (nat_lt b (at + n)) (h b (in_block g.block_sectors block b own next)) in
    let last_in = and_parts (nat_le at last) (nat_lt last (at + n)) (h last (in_block g.block_sectors block last low high)) in
    let starts : at ≤ b = leb-true _ _ first_in.0 in
    let ends : last < at + n = ltb-true _ _ last_in.1 in
    let whole : (block + 1) * g.block_sectors ≤ at + n = omega arith in
    and_from _ _ (le-leb _ _ starts) (le-leb _ _ whole)

-- each sector of a block that a range covers is in it
pub covered : (g : Geometry) (at n k : ℕ) → 0 < g.block_sectors → covers g at n (k / g.block_sectors) ≡ true → is_within at n k ≡ true
covered g at n k some h =
    let parts = and_parts (nat_le at (k / g.block_sectors * g.block_sectors)) (nat_le ((k / g.block_sectors + 1) * g.block_sectors) (at + n)) h in
    let low : at ≤ k / g.block_sectors * g.block_sectors = leb-true _ _ parts.0 in
    let high : (k / g.block_sectors + 1) * g.block_sectors ≤ at + n = leb-true _ _ parts.1 in
    let down : k / g.block_sectors * g.block_sectors ≤ k = div-mul-le_self k g.block_sectors in
    let up : k < k / g.block_sectors * g.block_sectors + g.block_sectors = lt-div-mul-add some in
    let one : at ≤ k = omega arith in
    let two : k < at + n = omega arith in
    and_from _ _ (le-leb _ _ one) (lt-ltb _ _ two)

-- what a sector is after a call, by what the call does to the slot of its block
abbrev pub Fits : SlotEffect → Sector → Sector → Option ℕ → Type 0
Fits Keeps new old slot = (new ≡ old) ⊎ ((new ≡ zero_sector) × (slot ≡ None))
Fits Loses new old slot = new ≡ zero_sector
Fits Owns new old slot = Unit {0}

written : (t w : Bool) (new old : Sector) (slot : Option ℕ) → (t ≡ false → w ≡ false) → Fits (cond t Owns Keeps) (cond w new old) old slot
written true w new old slot f = tt
written false true new old slot f = absurd (true≢false (f refl))
written false false new old slot f = inl refl

trimmed : (c : Bool) (old : Sector) (slot : Option ℕ) → Fits (cond c Loses Keeps) (cond c zero_sector old) old slot
trimmed true old slot = refl
trimmed false old slot = inl refl

zeroed : (c t w : Bool) (old : Sector) (slot : Option ℕ) → (c ≡ true → w ≡ true) → (t ≡ false → w ≡ false) → Fits (cond c Loses (cond (t && is_some slot) Owns Keeps)) (cond w zero_sector old) old slot
zeroed true t true old slot f h = refl
zeroed true t false old slot f h = absurd (false≢true (f refl))
zeroed false true w old (Some l) f h = tt
zeroed false true true old None f h = inr (refl, refl)
zeroed false true false old None f h = inl refl
zeroed false false true old slot f h = absurd (true≢false (h refl))
zeroed false false false old slot f h = inl refl

pub effect_fits : (g : Geometry) (call : Call) (k : ℕ) (old : Sector) (slot : Option ℕ) → 0 < g.block_sectors → Fits (slot_effect g call (k / g.block_sectors) slot) (sector_after g call k old) old slot
effect_fits g (Write id at xs fua) k old slot some = written _ _ _ old slot (not_touched g at (length xs) k some)
effect_fits g (Trim id at n fua) k old slot some = trimmed _ old slot
effect_fits g (WriteZeroes id at n true fua) k old slot some = written _ _ _ old slot (not_touched g at n k some)
effect_fits g (WriteZeroes id at n false fua) k old slot some = zeroed _ _ _ old slot (covered g at n k some) (not_touched g at n k some)
effect_fits g (Read id at n) k old slot some = inl refl
effect_fits g Flush k old slot some = inl refl
effect_fits g (CreateThin id) k old slot some = inl refl
effect_fits g (CreateSnap id origin) k old slot some = inl refl
effect_fits g (Delete id) k old slot some = inl refl
effect_fits g (SetTransactionId current next) k old slot some = inl refl
effect_fits g (Grow id blocks) k old slot some = inl refl
effect_fits g (Hold id) k old slot some = inl refl
effect_fits g (LetGo id) k old slot some = inl refl
effect_fits g Status k old slot some = inl refl
effect_fits g (ThinStatus id) k old slot some = inl refl
effect_fits g (NextId id) k old slot some = inl refl
effect_fits g (VolumeBlocks id) k old slot some = inl refl
effect_fits g (Walk id from) k old slot some = inl refl
effect_fits g Close k old slot some = inl refl
effect_fits g (HeldRead id sector count) k old slot some = inl refl
effect_fits g ReserveMetadataSnap k old slot some = inl refl
effect_fits g ReleaseMetadataSnap k old slot some = inl refl

-- ---- the volume that is edited, and the others

pub slice_get-enumerate_from : {X : Type 0} (n : ℕ) (xs : List X) (k : ℕ) → slice_get (enumerate_from n xs) k ≡ option_map (λ x. (n + k, x)) (slice_get xs k)
slice_get-enumerate_from n [] k = refl
slice_get-enumerate_from n (x ∷ xs) zero = ap (λ m. Some (m, x)) (sym (add-zero n))
slice_get-enumerate_from n (x ∷ xs) (suc k) =
    let e : n + 1 + k ≡ n + suc k = omega arith in
    slice_get-enumerate_from (n + 1) xs k ∙ ap (λ m. option_map (λ x. (m, x)) (slice_get xs k)) e

pub option_map-map : {A B C : Type 0} (f : A → B) (h : B → C) (o : Option A) → option_map h (option_map f o) ≡ option_map (λ x. h (f x)) o
option_map-map f h None = refl
option_map-map f h (Some x) = refl

module _ (p : PlainPool) (call : Call) (id : ℕ) (q : PlainPool) (e : Edits p call id q) where
  pub volume_sector-edited : (k : ℕ) → volume_sector q id k ≡ option_map (sector_after p.geometry call k) (volume_sector p id k)
  volume_sector-edited k =
      let f : ℕ × Sector → Sector = λ s. sector_after p.geometry call s.0 s.1 in
      let xs = volume_sectors p id in
      let n : 0 + k ≡ k = omega arith in
      ap (λ o. slice_get (option_map_or (λ v. v.sectors) o []) k) e.volume
      ∙ slice_get-map f (enumerate_from 0 xs) k
      ∙ ap (option_map f) (slice_get-enumerate_from 0 xs k)
      ∙ option_map-map (λ x. (0 + k, x)) f (slice_get xs k)
      ∙ ap (λ m. option_map (λ x. sector_after p.geometry call m x) (slice_get xs k)) n

  pub volume_sector-other : (i k : ℕ) → i ≢ id → volume_sector q i k ≡ volume_sector p i k
  volume_sector-other i k apart = ap (λ o. slice_get (option_map_or (λ v. v.sectors) o []) k) (e.others i apart)

  pub slot_at-other : (i b : ℕ) → i ≢ id → slot_at q i b ≡ slot_at p i b
  slot_at-other i b apart = ap (λ o. get (option_map_or (λ v. v.slots) o empty) b) (e.others i apart)
