-- Each call that is allowed leaves the volumes in shape.
use Rattle.std.proofs.Common.{MatchBool, not, ◌&&◌, nat_lt, ◌≡◌, ℕ, zero, suc, ◌+◌, ◌-◌, ◌*◌, ◌<◌, ◌≤◌, ◌==◌, Bool, true, false, cond, ◌&&◌, List, [], ◌∷◌, map, Option, Some, None, ◌⊎◌, inl, inr, refl, sym, ap, subst, ◌∙◌, length, replicate, arith}
use Rattle.std.proofs.lemmas.List.{length-map, length-replicate}
use Rattle.std.specs.Prelude.{nat_lt, slice_get, slice_index_or}
use Rattle.std.specs.Option.{is_some, option_map, option_map_or}
use Rattle.std.specs.List.{enumerate_from}
use Rattle.std.specs.Ordering.{nat_cmp}
use Rattle.std.specs.FinMap.{FinMap, contains_key, get, empty, insert, remove, retain_keys}
use Rattle.std.proofs.Math.Nat.{mul-le-mul_right}
use Rattle.std.proofs.lemmas.Bool.{false≢true, cases_eq, cases_lt, and_parts, ltb-true}
use Rattle.std.proofs.lemmas.List.FromFn.{length-enumerate_from}
use Rattle.std.proofs.lemmas.Option.{none-some, same_Some, slice_get-map, MatchOption-at_none, MatchOption-at_some}
use Rattle.tp_model.specs.declared.refusal.Refusal.{Refusal}
use Rattle.tp_model.specs.Geometry.{Geometry}
use Rattle.tp_model.specs.Sectors.{Sector, zero_sector}
use Rattle.tp_model.specs.Pool.{Volume, PlainPool, is_now, volume_sectors, volume_slots, volume_sector, slot_at, IsShapedVolume, IsShaped, IsSound}
use Rattle.tp_model.specs.declared.mode.Mode.TheVariants as mode
use Rattle.tp_model.specs.declared.refusal.Refusal.TheVariants.{Failed, NoSuchDevice, ReadOnly, NoMetadataSpace, NoDataSpace}
use Rattle.tp_model.specs.Calls.{is_writing, Takes, exists, is_failed, is_read_only, has_metadata_room, IsRange, first_failed, refusal_of_request, Call, Read, Write, Trim, WriteZeroes, Flush, CreateThin, CreateSnap, Delete, SetTransactionId, Grow, Hold, LetGo, Status, ThinStatus, NextId, VolumeBlocks, Walk, Close, HeldRead, ReserveMetadataSnap, ReleaseMetadataSnap, held_of, Reserves, Answer, SlotEffect, Keeps, Loses, Owns, touches, sector_after, slot_effect, SlotAfter, effect_at, Edits, Makes, Step, refusal_of, grown, new_volume, volume_of, IsAllowed}
use Rattle.tp_model.proofs.Maps.{get_insert, get_empty, get_remove, get_retain}
use Rattle.tp_model.proofs.Editing.{slice_get-enumerate_from, option_map-map}
use Rattle.tp_model.specs.PoolStops.{GivenBy, Event, Given, MayReopen}
use Rattle.tp_model.proofs.LawfulCalls.{refusal_volumes, Step-IsLawful}
use Rattle.tp_model.proofs.Found.{MayReopen-IsLawful}
use Rattle.tp_model.proofs.Growing.{grown_shaped, no_less, shaped_at}

pub length-zero_sector : length zero_sector ≡ 512
unfolding zero_sector
length-zero_sector = length-replicate {A = ℕ} 512 0

all_blank : (n k : ℕ) (s : Sector) → slice_get (replicate n zero_sector) k ≡ Some s → length s ≡ 512
all_blank zero k s h = absurd (none-some s h)
all_blank (suc n) zero s h = ap length (sym (same_Some zero_sector s h)) ∙ length-zero_sector
all_blank (suc n) (suc k) s h = all_blank n k s h

new_shaped : (g : Geometry) → IsShapedVolume g.block_sectors (new_volume g)
new_shaped g = record {
  whole = (g.virtual_blocks, length-replicate (g.virtual_blocks * g.block_sectors) zero_sector);
  inside = λ b l f. absurd (none-some l (sym (get_empty b) ∙ f));
  bytes = λ k s h. all_blank (g.virtual_blocks * g.block_sectors) k s h;
}

-- the end of a request's range
abbrev pub end_of : Call → ℕ
end_of (Write id at xs fua) = at + length xs
end_of (Trim id at n fua) = at + n
end_of (WriteZeroes id at n no_hole fua) = at + n
end_of call = 0

if_touched : (g : Geometry) (at n block : ℕ) (t : Bool) → touches g at n block ≡ t → cond t Owns Keeps ≡ Owns → block * g.block_sectors < at + n
if_touched g at n block true h e = ltb-true (block * g.block_sectors) (at + n) (and_parts (nat_lt 0 n && nat_lt at ((block + 1) * g.block_sectors)) (nat_lt (block * g.block_sectors) (at + n)) h).1
if_touched g at n block false h e = cc

if_zeroed : (g : Geometry) (at n block : ℕ) (c t : Bool) (slot : Option ℕ) → touches g at n block ≡ t → cond c Loses (cond (t && is_some slot) Owns Keeps) ≡ Owns → block * g.block_sectors < at + n
if_zeroed g at n block true t slot h e = cc
if_zeroed g at n block false true slot h e = if_touched g at n block true h refl
if_zeroed g at n block false false slot h e = cc

if_trimmed : (c : Bool) → cond c Loses Keeps ≡ Owns → ⊥
if_trimmed true e = cc
if_trimmed false e = cc

-- a block that gets a data block lies before the end of the range
owned_before_end : (g : Geometry) (call : Call) (block : ℕ) (slot : Option ℕ) → slot_effect g call block slot ≡ Owns → block * g.block_sectors < end_of call
owned_before_end g (Write id at xs fua) block slot e = if_touched g at (length xs) block _ refl e
owned_before_end g (Trim id at n fua) block slot e = absurd (if_trimmed _ e)
owned_before_end g (WriteZeroes id at n true fua) block slot e = if_touched g at n block _ refl e
owned_before_end g (WriteZeroes id at n false fua) block slot e = if_zeroed g at n block _ _ slot refl e
owned_before_end g (Read id at n) block slot e = cc
owned_before_end g Flush block slot e = cc
owned_before_end g (CreateThin id) block slot e = cc
owned_before_end g (CreateSnap id origin) block slot e = cc
owned_before_end g (Delete id) block slot e = cc
owned_before_end g (SetTransactionId current next) block slot e = cc
owned_before_end g (Grow id blocks) block slot e = cc
owned_before_end g (Hold id) block slot e = cc
owned_before_end g (LetGo id) block slot e = cc
owned_before_end g Status block slot e = cc
owned_before_end g (ThinStatus id) block slot e = cc
owned_before_end g (NextId id) block slot e = cc
owned_before_end g (VolumeBlocks id) block slot e = cc
owned_before_end g (Walk id from) block slot e = cc
owned_before_end g Close block slot e = cc
owned_before_end g (HeldRead id sector count) block slot e = cc
owned_before_end g ReserveMetadataSnap block slot e = cc
owned_before_end g ReleaseMetadataSnap block slot e = cc

whole_block : (n block blocks size : ℕ) → size ≡ blocks * n → block * n < size → (b : (block < blocks) ⊎ (blocks ≤ block)) → (block + 1) * n ≤ size
whole_block n block blocks size e lt (inl l) =
    let m : (block + 1) * n ≤ blocks * n = mul-le-mul_right n (omega arith) in omega arith
whole_block n block blocks size e lt (inr l) =
    let m : blocks * n ≤ block * n = mul-le-mul_right n l in absurd (omega arith)

-- ---- the bytes of a sector

one_of : (xs : List Sector) (k : ℕ) (old : Sector) → ((k : ℕ) (s : Sector) → slice_get xs k ≡ Some s → length s ≡ 512) → length old ≡ 512 → length (slice_index_or xs k old) ≡ 512
one_of [] k old h o = o
one_of (x ∷ xs) zero old h o = h 0 x refl
one_of (x ∷ xs) (suc k) old h o = one_of xs k old (λ j s f. h (suc j) s f) o

one_or : (t : Bool) (x y : Sector) → length x ≡ 512 → length y ≡ 512 → length (cond t x y) ≡ 512
one_or true x y a b = a
one_or false x y a b = b

bytes_after : (p : PlainPool) (call : Call) (k : ℕ) (old : Sector) → IsAllowed p call → length old ≡ 512 → length (sector_after p.geometry call k old) ≡ 512
bytes_after p (Write id at xs fua) k old a o = one_or _ _ _ (one_of xs (k - at) old a.1 o) o
bytes_after p (Trim id at n fua) k old a o = one_or _ _ _ length-zero_sector o
bytes_after p (WriteZeroes id at n no_hole fua) k old a o = one_or _ _ _ length-zero_sector o
bytes_after p (Read id at n) k old a o = o
bytes_after p Flush k old a o = o
bytes_after p (CreateThin id) k old a o = o
bytes_after p (CreateSnap id origin) k old a o = o
bytes_after p (Delete id) k old a o = o
bytes_after p (SetTransactionId current next) k old a o = o
bytes_after p (Grow id blocks) k old a o = o
bytes_after p (Hold id) k old a o = o
bytes_after p (LetGo id) k old a o = o
bytes_after p Status k old a o = o
bytes_after p (ThinStatus id) k old a o = o
bytes_after p (NextId id) k old a o = o
bytes_after p (VolumeBlocks id) k old a o = o
bytes_after p (Walk id from) k old a o = o
bytes_after p Close k old a o = o
bytes_after p (HeldRead id sector count) k old a o = o
bytes_after p ReserveMetadataSnap k old a o = o
bytes_after p ReleaseMetadataSnap k old a o = o

-- ---- the volume that is edited

mapped_from : (f : Sector → Sector) (o : Option Sector) (s : Sector) → option_map f o ≡ Some s → (x : Sector) × (o ≡ Some x) × (f x ≡ s)
mapped_from f None s h = absurd (none-some s h)
mapped_from f (Some x) s h = (x, refl, same_Some (f x) s h)

module _ (p : PlainPool) (call : Call) (id : ℕ) (q : PlainPool) (e : Edits p call id q) (shaped : IsShaped p) (allowed : IsAllowed p call) (fits : end_of call ≤ length (volume_sectors p id)) where
  same_length : length (map (λ s. sector_after p.geometry call s.0 s.1) (enumerate_from 0 (volume_sectors p id))) ≡ length (volume_sectors p id)
  same_length = length-map (enumerate_from 0 (volume_sectors p id)) (λ s. sector_after p.geometry call s.0 s.1) ∙ length-enumerate_from 0 (volume_sectors p id)

  inside_after : (block label : ℕ) (effect : SlotEffect) → effect_at p call id block ≡ effect → SlotAfter effect p q id block → slot_at q id block ≡ Some label → (block + 1) * p.geometry.block_sectors ≤ length (volume_sectors p id)
  inside_after block label Keeps is after f = (shaped_at p shaped id).inside block label (sym after ∙ f)
  inside_after block label Loses is after f = absurd (none-some label (sym after ∙ f))
  inside_after block label Owns is after f =
      let w = (shaped_at p shaped id).whole in
      let lt : block * p.geometry.block_sectors < end_of call = owned_before_end p.geometry call block (slot_at p id block) is in
      let lies : block * p.geometry.block_sectors < length (volume_sectors p id) = omega arith in
      whole_block p.geometry.block_sectors block w.0 (length (volume_sectors p id)) w.1 lies (cases_lt block w.0)

  edited_shaped : IsShapedVolume p.geometry.block_sectors (record { sectors = map (λ s. sector_after p.geometry call s.0 s.1) (enumerate_from 0 (volume_sectors p id)); slots = volume_slots q id })
  edited_shaped = record {
    whole = let w = (shaped_at p shaped id).whole in (w.0, same_length ∙ w.1);
    inside = λ block label f. subst (λ (n : ℕ). (block + 1) * p.geometry.block_sectors ≤ n) (sym same_length) (inside_after block label (effect_at p call id block) refl (e.slots block) f);
    bytes = λ k s f.
        let g : ℕ × Sector → Sector = λ s. sector_after p.geometry call s.0 s.1 in
        let xs = volume_sectors p id in
        let moved : option_map g (option_map (λ x. (0 + k, x)) (slice_get xs k)) ≡ Some s
        = sym (slice_get-map g (enumerate_from 0 xs) k ∙ ap (option_map g) (slice_get-enumerate_from 0 xs k)) ∙ f in
        let w = mapped_from (λ x. g (0 + k, x)) (slice_get xs k) s (sym (option_map-map (λ x. (0 + k, x)) g (slice_get xs k)) ∙ moved) in
        ap length (sym w.2) ∙ bytes_after p call (0 + k) w.0 allowed ((shaped_at p shaped id).bytes k w.0 w.1);
  }

  Edits-IsShaped : IsShaped q
  Edits-IsShaped i v f = elim (cases_eq i id) [
    | inl s ↦
        let is = same_Some v _ (sym f ∙ ap (λ (x : ℕ). get q.volumes x) s ∙ e.volume) in
        subst (λ (g : Geometry). IsShapedVolume g.block_sectors v) (sym (ap (λ r. r.geometry) e.rest)) (subst (IsShapedVolume p.geometry.block_sectors) (sym is) edited_shaped)
    | inr s ↦
        subst (λ (g : Geometry). IsShapedVolume g.block_sectors v) (sym (ap (λ r. r.geometry) e.rest)) (shaped i v (sym (e.others i s) ∙ f))
  ]

-- ---- the other calls

same_shaped : (p q : PlainPool) → q.geometry ≡ p.geometry → q.volumes ≡ p.volumes → IsShaped p → IsShaped q
same_shaped p q g e shaped i v f =
    subst (λ (x : Geometry). IsShapedVolume x.block_sectors v) (sym g) (shaped i v (ap (λ (m : FinMap nat_cmp Volume). get m i) (sym e) ∙ f))

inserted_shaped : (p q : PlainPool) (id : ℕ) (w : Volume) → q.geometry ≡ p.geometry → q.volumes ≡ insert p.volumes id w → IsShaped p → IsShapedVolume p.geometry.block_sectors w → IsShaped q
inserted_shaped p q id w g e shaped new i v f =
    let at : cond (i == id) (Some w) (get p.volumes i) ≡ Some v = sym (ap (λ (m : FinMap nat_cmp Volume). get m i) e ∙ get_insert p.volumes id w i) ∙ f in
    subst (λ (x : Geometry). IsShapedVolume x.block_sectors v) (sym g) (by_id (i == id) at)
  where
    by_id : (t : Bool) → cond t (Some w) (get p.volumes i) ≡ Some v → IsShapedVolume p.geometry.block_sectors v
    by_id true h = subst (IsShapedVolume p.geometry.block_sectors) (same_Some w v h) new
    by_id false h = shaped i v h

removed_shaped : (p q : PlainPool) (id : ℕ) → q.geometry ≡ p.geometry → q.volumes ≡ remove p.volumes id → IsShaped p → IsShaped q
removed_shaped p q id g e shaped i v f =
    let at : cond (i == id) None (get p.volumes i) ≡ Some v = sym (ap (λ (m : FinMap nat_cmp Volume). get m i) e ∙ get_remove p.volumes id i) ∙ f in
    subst (λ (x : Geometry). IsShapedVolume x.block_sectors v) (sym g) (by_id (i == id) at)
  where
    by_id : (t : Bool) → cond t None (get p.volumes i) ≡ Some v → IsShapedVolume p.geometry.block_sectors v
    by_id true h = absurd (none-some v h)
    by_id false h = shaped i v h

reserved_shaped : (p q : PlainPool) → Reserves p q → IsShaped p → IsShaped q
reserved_shaped p q r shaped i v f =
    subst (λ (x : Geometry). IsShapedVolume x.block_sectors v) (sym (ap (λ x. x.geometry) r.rest)) (shaped (held_of i) v (sym (r.volumes i) ∙ f))

released_shaped : (p q : PlainPool) → q.geometry ≡ p.geometry → q.volumes ≡ retain_keys p.volumes is_now → IsShaped p → IsShaped q
released_shaped p q g e shaped i v f =
    let at : cond (is_now i) (get p.volumes i) None ≡ Some v = sym (ap (λ (m : FinMap nat_cmp Volume). get m i) e ∙ get_retain p.volumes is_now i) ∙ f in
    subst (λ (x : Geometry). IsShapedVolume x.block_sectors v) (sym g) (by_test (is_now i) at)
  where
    by_test : (t : Bool) → cond t (get p.volumes i) None ≡ Some v → IsShapedVolume p.geometry.block_sectors v
    by_test true h = shaped i v h
    by_test false h = absurd (none-some v h)

second_passes : {A : Type 0} (t u : Bool) (x y : A) (tests : List (Bool × A)) → first_failed ((t, x) ∷ (u, y) ∷ tests) ≡ None → u ≡ false
second_passes true u x y tests h = absurd (none-some x (sym h))
second_passes false true x y tests h = absurd (none-some y (sym h))
second_passes false false x y tests h = refl

second_of : (a b : Bool) → not (a && b) ≡ false → not b ≡ false
second_of true b h = h
second_of false b h = absurd (false≢true (sym h))

size_of_some : (o : Option Volume) → not (is_some o) ≡ false → option_map (λ (v : Volume). length v.sectors) o ≡ Some (length (option_map_or (λ (v : Volume). v.sectors) o []))
size_of_some None h = absurd (false≢true (sym h))
size_of_some (Some v) h = refl

-- a request that no test refuses ends in its volume
fits_in : (p : PlainPool) (id at n least : ℕ) (has_room : Bool) → refusal_of_request p id n least has_room ≡ None → IsRange p id at n → at + n ≤ length (volume_sectors p id)
fits_in p id at n least has_room none range =
    let there : not (exists p id) ≡ false = second_passes (is_failed p.mode) (not (exists p id)) Failed NoSuchDevice
    ((is_read_only p.mode, ReadOnly) ∷ (nat_lt 0 n && not (has_metadata_room p least), NoMetadataSpace) ∷ (not has_room, NoDataSpace) ∷ []) none in
    range.inside (length (volume_sectors p id)) (size_of_some (get p.volumes id) (second_of (is_now id) (contains_key p.volumes id) there))

-- an accepted call that is allowed leaves the volumes in shape
pub Makes-IsShaped : (p : PlainPool) (call : Call) (q : PlainPool) → refusal_of p call ≡ None → IsAllowed p call → IsShaped p → Makes p call q → IsShaped q
Makes-IsShaped p (Write id at xs fua) q none a shaped h = Edits-IsShaped p (Write id at xs fua) id q h shaped a (fits_in p id at (length xs) 512 _ none a.0)
Makes-IsShaped p (Trim id at n fua) q none a shaped h = Edits-IsShaped p (Trim id at n fua) id q h shaped a (fits_in p id at n 256 true none a)
Makes-IsShaped p (WriteZeroes id at n no_hole fua) q none a shaped h = Edits-IsShaped p (WriteZeroes id at n no_hole fua) id q h shaped a (fits_in p id at n 512 _ none a)
Makes-IsShaped p (CreateThin id) q none a shaped h = inserted_shaped p q id (new_volume p.geometry) (ap (λ r. r.geometry) h.is) (ap (λ r. r.volumes) h.is) shaped (new_shaped p.geometry)
Makes-IsShaped p (CreateSnap id origin) q none a shaped h = inserted_shaped p q id (volume_of p origin) (ap (λ r. r.geometry) h.is) (ap (λ r. r.volumes) h.is) shaped (shaped_at p shaped origin)
Makes-IsShaped p (Delete id) q none a shaped h = removed_shaped p q id (ap (λ r. r.geometry) h.is) (ap (λ r. r.volumes) h.is) shaped
Makes-IsShaped p (SetTransactionId current next) q none a shaped h = same_shaped p q (ap (λ r. r.geometry) h) (ap (λ r. r.volumes) h) shaped
Makes-IsShaped p (Grow id blocks) q none a shaped h =
    inserted_shaped p q id (grown p.geometry blocks (volume_of p id)) (ap (λ r. r.geometry) h.is) (ap (λ r. r.volumes) h.is) shaped (grown_shaped p id blocks shaped (no_less p id blocks none) length-zero_sector)
Makes-IsShaped p (Hold id) q none a shaped h = same_shaped p q (ap (λ r. r.geometry) h) (ap (λ r. r.volumes) h) shaped
Makes-IsShaped p (LetGo id) q none a shaped h = same_shaped p q (ap (λ r. r.geometry) h) (ap (λ r. r.volumes) h) shaped
Makes-IsShaped p (Read id at n) q none a shaped h = same_shaped p q (ap (λ r. r.geometry) h) (ap (λ r. r.volumes) h) shaped
Makes-IsShaped p Flush q none a shaped h = same_shaped p q (ap (λ r. r.geometry) h) (ap (λ r. r.volumes) h) shaped
Makes-IsShaped p Status q none a shaped h = same_shaped p q (ap (λ r. r.geometry) h) (ap (λ r. r.volumes) h) shaped
Makes-IsShaped p (ThinStatus id) q none a shaped h = same_shaped p q (ap (λ r. r.geometry) h) (ap (λ r. r.volumes) h) shaped
Makes-IsShaped p (NextId id) q none a shaped h = same_shaped p q (ap (λ r. r.geometry) h) (ap (λ r. r.volumes) h) shaped
Makes-IsShaped p (VolumeBlocks id) q none a shaped h = same_shaped p q (ap (λ r. r.geometry) h) (ap (λ r. r.volumes) h) shaped
Makes-IsShaped p (Walk id from) q none a shaped h = same_shaped p q (ap (λ r. r.geometry) h) (ap (λ r. r.volumes) h) shaped
Makes-IsShaped p Close q none a shaped h = same_shaped p q (ap (λ r. r.geometry) h) (ap (λ r. r.volumes) h) shaped
Makes-IsShaped p (HeldRead id at n) q none a shaped h = same_shaped p q (ap (λ r. r.geometry) h) (ap (λ r. r.volumes) h) shaped
Makes-IsShaped p ReserveMetadataSnap q none a shaped h = reserved_shaped p q h shaped
Makes-IsShaped p ReleaseMetadataSnap q none a shaped h = released_shaped p q (ap (λ r. r.geometry) h.is) (ap (λ r. r.volumes) h.is) shaped

step_by : (p : PlainPool) (call : Call) (answer : Answer) (q : PlainPool) → IsAllowed p call → IsShaped p → (o : Option Refusal) → refusal_of p call ≡ o → Step p call answer q → IsShaped q
step_by p call answer q a shaped None is h = Makes-IsShaped p call q is a shaped (MatchOption-at_none _ _ is h).1
step_by p call answer q a shaped (Some r) is h =
    let e = (MatchOption-at_some _ _ r is h).1 in
    let same = refusal_volumes r p in
    same_shaped p q (ap (λ x. x.geometry) e ∙ same.1) (ap (λ x. x.volumes) e ∙ same.0) shaped

-- Each call that is allowed leaves the volumes in shape, whatever the answer.
pub Step-IsShaped : (p : PlainPool) (call : Call) (answer : Answer) (q : PlainPool) → IsAllowed p call → IsShaped p → Step p call answer q → IsShaped q
Step-IsShaped p call answer q a shaped h = step_by p call answer q a shaped (refusal_of p call) refl h

-- ---- the shape and the laws together

step_geometry : (p : PlainPool) (call : Call) (q : PlainPool) → Makes p call q → q.geometry ≡ p.geometry
step_geometry p (Write id at xs fua) q h = ap (λ r. r.geometry) h.rest
step_geometry p (Trim id at n fua) q h = ap (λ r. r.geometry) h.rest
step_geometry p (WriteZeroes id at n no_hole fua) q h = ap (λ r. r.geometry) h.rest
step_geometry p (CreateThin id) q h = ap (λ r. r.geometry) h.is
step_geometry p (CreateSnap id origin) q h = ap (λ r. r.geometry) h.is
step_geometry p (Delete id) q h = ap (λ r. r.geometry) h.is
step_geometry p (SetTransactionId current next) q h = ap (λ r. r.geometry) h
step_geometry p (Grow id blocks) q h = ap (λ r. r.geometry) h.is
step_geometry p (Hold id) q h = ap (λ r. r.geometry) h
step_geometry p (LetGo id) q h = ap (λ r. r.geometry) h
step_geometry p (Read id at n) q h = ap (λ r. r.geometry) h
step_geometry p Flush q h = ap (λ r. r.geometry) h
step_geometry p Status q h = ap (λ r. r.geometry) h
step_geometry p (ThinStatus id) q h = ap (λ r. r.geometry) h
step_geometry p (NextId id) q h = ap (λ r. r.geometry) h
step_geometry p (VolumeBlocks id) q h = ap (λ r. r.geometry) h
step_geometry p (Walk id from) q h = ap (λ r. r.geometry) h
step_geometry p Close q h = ap (λ r. r.geometry) h
step_geometry p (HeldRead id at n) q h = ap (λ r. r.geometry) h
step_geometry p ReserveMetadataSnap q h = ap (λ r. r.geometry) h.rest
step_geometry p ReleaseMetadataSnap q h = ap (λ r. r.geometry) h.is

geometry_by : (p : PlainPool) (call : Call) (answer : Answer) (q : PlainPool) → (o : Option Refusal) → refusal_of p call ≡ o → Step p call answer q → q.geometry ≡ p.geometry
geometry_by p call answer q None is h = step_geometry p call q (MatchOption-at_none _ _ is h).1
geometry_by p call answer q (Some r) is h = ap (λ x. x.geometry) (MatchOption-at_some _ _ r is h).1 ∙ (refusal_volumes r p).1

-- Each call that is allowed leaves a sound pool sound, whatever the answer.
pub Step-IsSound : (p : PlainPool) (call : Call) (answer : Answer) (q : PlainPool) → IsAllowed p call → IsSound p → Step p call answer q → IsSound q
Step-IsSound p call answer q a sound h = record {
  block_sectors = subst (λ (g : Geometry). 0 < g.block_sectors) (sym (geometry_by p call answer q (refusal_of p call) refl h)) sound.block_sectors;
  shaped = Step-IsShaped p call answer q a sound.shaped h;
  lawful = Step-IsLawful p call answer q sound.block_sectors sound.shaped sound.lawful h;
}

-- what is found after a stop is sound
some_size : (v : Volume) (o : Option Volume) → option_map (λ v. length v.sectors) (Some v) ≡ option_map (λ v. length v.sectors) o → (w : Volume) × (o ≡ Some w) × (length v.sectors ≡ length w.sectors)
some_size v None e = absurd (none-some _ (sym e))
some_size v (Some w) e = (w, refl, same_Some _ _ e)

module _ (S P : PlainPool) (given : ℕ → ℕ → Sector → Type 0) (h : MayReopen S given P) (sectors : (id k : ℕ) (x : Sector) → given id k x → length x ≡ 512) where
  found_shaped : IsShaped S → (id : ℕ) (v : Volume) → get P.volumes id ≡ Some v → IsShapedVolume S.geometry.block_sectors v
  found_shaped shaped id v is =
      let m = some_size v (get S.volumes id) (sym (ap (option_map (λ v. length v.sectors)) is) ∙ h.ids_and_sizes id) in
      let at = shaped id m.0 m.1 in
      let slot_here : (b : ℕ) → get v.slots b ≡ get m.0.slots b
      = λ b. sym (ap (λ o. get (option_map_or (λ v. v.slots) o empty) b) is) ∙ h.slots id b ∙ ap (λ o. get (option_map_or (λ v. v.slots) o empty) b) m.1 in
      record {
        whole = (at.whole.0, m.2 ∙ at.whole.1);
        inside = λ b l f. subst (λ (n : ℕ). (b + 1) * S.geometry.block_sectors ≤ n) (sym m.2) (at.inside b l (sym (slot_here b) ∙ f));
        bytes = λ k s f.
            let there : volume_sector P id k ≡ Some s = ap (λ o. slice_get (option_map_or (λ v. v.sectors) o []) k) is ∙ f in
            elim (h.sectors id k) [
              | inl same ↦ at.bytes k s (sym (ap (λ o. slice_get (option_map_or (λ v. v.sectors) o []) k) m.1) ∙ sym same ∙ there)
              | inr w ↦ ap length (same_Some s w.0 (sym there ∙ w.2)) ∙ sectors id k w.0 w.3
            ];
      }

  pub MayReopen-IsSound : IsSound S → IsSound P
  MayReopen-IsSound sound =
      let same : S.geometry.block_sectors ≡ P.geometry.block_sectors = ap (λ g. g.block_sectors) (sym h.geometry) in
      record {
        block_sectors = subst (λ (n : ℕ). 0 < n) same sound.block_sectors;
        shaped = λ id v is. subst (λ (n : ℕ). IsShapedVolume n v) same (found_shaped sound.shaped id v is);
        lawful = MayReopen-IsLawful S P given h sound.lawful;
      }

-- the values of a call that is allowed are whole sectors
pub length-Given : (p : PlainPool) (call : Call) (id k : ℕ) (x : Sector) → IsAllowed p call → Given p call id k x → length x ≡ 512
length-Given p (Write i sector xs fua) id k x a g = a.1 (k - sector) x g.2
length-Given p (WriteZeroes i sector n no_hole fua) id k x a g = ap length g.2 ∙ length-zero_sector
length-Given p (Read i sector n) id k x a g = absurd g
length-Given p (Trim i sector n fua) id k x a g = absurd g
length-Given p Flush id k x a g = absurd g
length-Given p (CreateThin i) id k x a g = absurd g
length-Given p (CreateSnap i origin) id k x a g = absurd g
length-Given p (Delete i) id k x a g = absurd g
length-Given p (SetTransactionId current next) id k x a g = absurd g
length-Given p (Grow i blocks) id k x a g = absurd g
length-Given p (Hold i) id k x a g = absurd g
length-Given p (LetGo i) id k x a g = absurd g
length-Given p Status id k x a g = absurd g
length-Given p (ThinStatus i) id k x a g = absurd g
length-Given p (NextId i) id k x a g = absurd g
length-Given p (VolumeBlocks i) id k x a g = absurd g
length-Given p (Walk i from) id k x a g = absurd g
length-Given p Close id k x a g = absurd g
length-Given p (HeldRead i sector count) id k x a g = absurd g
length-Given p ReserveMetadataSnap id k x a g = absurd g
length-Given p ReleaseMetadataSnap id k x a g = absurd g

-- what a stop may leave of a sound pool, by a call that is allowed, is sound
pub found_by_call-IsSound : (S P : PlainPool) (e : Event) → IsSound S → IsAllowed e.before e.call → MayReopen S (GivenBy e) P → IsSound P
found_by_call-IsSound S P e sound a h = MayReopen-IsSound S P (GivenBy e) h (λ id k x g. length-Given e.before e.call id k x a g.1) sound

failed_is_sound : (p q : PlainPool) → q ≡ record p { mode = mode.Failed } → IsSound p → IsSound q
failed_is_sound p q e sound = subst IsSound (sym e) (record {
  block_sectors = sound.block_sectors;
  shaped = sound.shaped;
  lawful = record { unmapped = sound.lawful.unmapped; shared = sound.lawful.shared };
})

-- where the disk fails in a call that is allowed, sound pools come of a sound one too
after_fault-IsSound : (s made after : PlainPool) (call : Call) (b : Bool) → IsAllowed s call → IsSound s
    → MatchBool b (((meant : Answer) × Step s call meant made) × (after ≡ record made { mode = mode.Failed })) ((made ≡ s) × (after ≡ s)) → IsSound made × IsSound after
after_fault-IsSound s made after call true a sound h =
    let m = Step-IsSound s call h.0.0 made a sound h.0.1 in (m, failed_is_sound made after h.1 m)
after_fault-IsSound s made after call false a sound h = (subst IsSound (sym h.0) sound, subst IsSound (sym h.1) sound)

pub Takes-IsSound : (s : PlainPool) (call : Call) (answer : Answer) (made after : PlainPool) → IsAllowed s call → IsSound s → Takes s call answer made after → IsSound made × IsSound after
Takes-IsSound s call answer made after a sound (inl h) =
    let n = Step-IsSound s call answer after a sound h.0 in (subst IsSound (sym h.1) n, n)
Takes-IsSound s call answer made after a sound (inr h) = after_fault-IsSound s made after call (is_writing call) a sound h.1
