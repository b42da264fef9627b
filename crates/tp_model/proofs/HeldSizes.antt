-- A volume that is held keeps its size over each call.
use Rattle.std.proofs.Common.{◌≡◌, ◌≢◌, ℕ, ◌<◌, Bool, true, false, cond, List, [], ◌∷◌, length, map, Option, Some, None, inl, inr, refl, sym, ap, subst, ◌∙◌, arith}
use Rattle.std.specs.Prelude.{not, nat_le, nat_lt, ◌-◌, ◌^◌, ◌||◌}
use Rattle.std.specs.Bool.{MatchBool}
use Rattle.std.specs.Option.{is_some, option_map, option_map_or}
use Rattle.std.specs.Ordering.{nat_cmp}
use Rattle.std.specs.FinMap.{FinMap, contains_key, get, insert, remove, retain_keys}
use Rattle.std.specs.List.{enumerate_from}
use Rattle.std.proofs.lemmas.Bool.{and_parts, cases_eq, cases_lt, lt-ltb, ne_eqb, true≢false}
use Rattle.std.proofs.lemmas.List.{length-map}
use Rattle.std.proofs.lemmas.List.FromFn.{length-enumerate_from}
use Rattle.std.proofs.lemmas.Option.{none-some, MatchOption-at_none, MatchOption-at_some}
use Rattle.tp_model.specs.declared.mode.Mode.TheVariants as mode
use Rattle.tp_model.specs.declared.refusal.Refusal.{Refusal}
use Rattle.tp_model.specs.declared.refusal.Refusal.TheVariants.{BadSize, Busy, Exists, Failed, NoMetadataSpace, NoSuchDevice, ReadOnly, TooManyDevices}
use Rattle.tp_model.specs.Pool.{FindsHeld, PlainPool, Volume, device_count, hold_count, is_now, volume_sectors, volume_size}
use Rattle.tp_model.specs.Calls.{Answer, Call, Read, Write, Trim, WriteZeroes, Flush, CreateThin, CreateSnap, Delete, SetTransactionId, Grow, Hold, LetGo, Status, ThinStatus, NextId, VolumeBlocks, Walk, Close, HeldRead, ReserveMetadataSnap, ReleaseMetadataSnap, Reserves, Edits, Makes, Step, Takes, after_refusal, exists, first_failed, grown, has_metadata_room, is_failed, is_read_only, is_writing, new_volume, refusal_of, sector_after, volume_blocks, volume_of}
use Rattle.tp_model.proofs.Holds.{fourth_passes, not_held}
use Rattle.tp_model.proofs.Maps.{get_remove, get_retain}
use Rattle.tp_model.proofs.Steps.{other_of_insert}

abbrev SameSizes : PlainPool → PlainPool → Type 0
SameSizes p q = (i : ℕ) → 0 < hold_count p.holds i → volume_size q i ≡ volume_size p i

abbrev size_in : ℕ → FinMap nat_cmp Volume → Option ℕ
size_in i m = option_map (λ (v : Volume). length v.sectors) (get m i)

same_volumes : (p q : PlainPool) → q.volumes ≡ p.volumes → SameSizes p q
same_volumes p q volumes i held = ap (size_in i) volumes

-- ---- changes of one volume

size_there : (o : Option Volume) → is_some o ≡ true → Some (length (option_map_or (λ (v : Volume). v.sectors) o [])) ≡ option_map (λ (v : Volume). length v.sectors) o
size_there (Some v) there = refl
size_there None there = absurd (true≢false (sym there))

edited : (p : PlainPool) (call : Call) (id : ℕ) (q : PlainPool) → Edits p call id q → FindsHeld p → SameSizes p q
edited p call id q e found i held = elim (cases_eq i id) [
  | inl same ↦
      let there : contains_key p.volumes id ≡ true = (and_parts (is_now id) (contains_key p.volumes id) (found id (subst (λ j. 0 < hold_count p.holds j) same held))).1 in
      let long : length (map (λ s. sector_after p.geometry call s.0 s.1) (enumerate_from 0 (volume_sectors p id))) ≡ length (volume_sectors p id) =
      length-map (enumerate_from 0 (volume_sectors p id)) (λ s. sector_after p.geometry call s.0 s.1) ∙ length-enumerate_from 0 (volume_sectors p id) in
      ap (volume_size q) same
      ∙ (ap (option_map (λ (v : Volume). length v.sectors)) e.volume ∙ (ap Some long ∙ (size_there (get p.volumes id) there ∙ sym (ap (volume_size p) same))))
  | inr apart ↦ ap (option_map (λ (v : Volume). length v.sectors)) (e.others i apart)
]

-- of one that nobody holds
abbrev IsFree : PlainPool → ℕ → Type 0
IsFree p id = (i : ℕ) → 0 < hold_count p.holds i → i ≢ id

inserted : (p q : PlainPool) (id : ℕ) (v : Volume) → q.volumes ≡ insert p.volumes id v → IsFree p id → SameSizes p q
inserted p q id v volumes free i held = ap (size_in i) volumes ∙ ap (option_map (λ (v : Volume). length v.sectors)) (other_of_insert p.volumes id v i (free i held))

removed : (p q : PlainPool) (id : ℕ) → q.volumes ≡ remove p.volumes id → IsFree p id → SameSizes p q
removed p q id volumes free i held =
    ap (size_in i) volumes
    ∙ ap (option_map (λ (v : Volume). length v.sectors)) (get_remove p.volumes id i ∙ ap (λ b. cond b None (get p.volumes i)) (ne_eqb i id (free i held)))

-- held copies stand beside the volumes, and change none
reserved : (p q : PlainPool) → Reserves p q → FindsHeld p → SameSizes p q
reserved p q r found i held =
    let here : is_now i ≡ true = (and_parts (is_now i) (contains_key p.volumes i) (found i held)).0 in
    ap (option_map (λ (v : Volume). length v.sectors)) (r.volumes i ∙ ap (λ b. get p.volumes (cond b i (i - 2 ^ 24))) here)

let_go_copies : (p q : PlainPool) → q.volumes ≡ retain_keys p.volumes is_now → FindsHeld p → SameSizes p q
let_go_copies p q volumes found i held =
    let here : is_now i ≡ true = (and_parts (is_now i) (contains_key p.volumes i) (found i held)).0 in
    ap (size_in i) volumes ∙ ap (option_map (λ (v : Volume). length v.sectors)) (get_retain p.volumes is_now i ∙ ap (λ b. cond b (get p.volumes i) None) here)

-- ---- what the tests say

pub none_holds : (p : PlainPool) (id : ℕ) → hold_count p.holds id ≡ 0 → IsFree p id
none_holds p id none i held same = omega (arith, held, none, ap (hold_count p.holds) same)

pub not_there : (p : PlainPool) (id : ℕ) → FindsHeld p → exists p id ≡ false → IsFree p id
not_there p id found none i held same = true≢false (sym (found i held) ∙ (ap (exists p) same ∙ none))

third_passes : {A : Type 0} (a b c : Bool) (x y z : A) (tests : List (Bool × A)) → first_failed ((a, x) ∷ (b, y) ∷ (c, z) ∷ tests) ≡ None → c ≡ false
third_passes true b c x y z tests h = absurd (none-some x (sym h))
third_passes false true c x y z tests h = absurd (none-some y (sym h))
third_passes false false true x y z tests h = absurd (none-some z (sym h))
third_passes false false false x y z tests h = refl

pub new_thin : (p : PlainPool) (id : ℕ) → refusal_of p (CreateThin id) ≡ None → exists p id ≡ false
new_thin p id none =
    third_passes (is_failed p.mode) (is_read_only p.mode) (exists p id) Failed ReadOnly Exists
    ((nat_le 65536 (device_count p), TooManyDevices) ∷ (not (has_metadata_room p 512), NoMetadataSpace) ∷ []) none

pub new_snap : (p : PlainPool) (id origin : ℕ) → refusal_of p (CreateSnap id origin) ≡ None → exists p id ≡ false
new_snap p id origin none =
    fourth_passes (is_failed p.mode) (is_read_only p.mode) (not (exists p origin)) (exists p id) Failed ReadOnly NoSuchDevice Exists
    ((nat_le 65536 (device_count p), TooManyDevices) ∷ (not (has_metadata_room p 512), NoMetadataSpace) ∷ []) none

pub not_busy : (p : PlainPool) (id blocks : ℕ) → refusal_of p (Grow id blocks) ≡ None → hold_count p.holds id ≡ 0
not_busy p id blocks none =
    let free = fourth_passes (is_failed p.mode) (is_read_only p.mode) (not (exists p id)) (nat_lt 0 (hold_count p.holds id)) Failed ReadOnly NoSuchDevice Busy
    ((nat_lt blocks (volume_blocks p id) || nat_lt 16777216 blocks, BadSize) ∷ (not (has_metadata_room p 512), NoMetadataSpace) ∷ []) none in
    elim (cases_lt 0 (hold_count p.holds id)) [
      | inl lt ↦ absurd (true≢false (sym (lt-ltb 0 (hold_count p.holds id) lt) ∙ free))
      | inr le ↦ omega (arith, le)
    ]

-- ---- one call

pub Makes-keeps_sizes : (p : PlainPool) (call : Call) (q : PlainPool) → refusal_of p call ≡ None → Makes p call q → FindsHeld p → SameSizes p q
Makes-keeps_sizes p (Write id at xs fua) q none h found = edited p (Write id at xs fua) id q h found
Makes-keeps_sizes p (Trim id at n fua) q none h found = edited p (Trim id at n fua) id q h found
Makes-keeps_sizes p (WriteZeroes id at n no_hole fua) q none h found = edited p (WriteZeroes id at n no_hole fua) id q h found
Makes-keeps_sizes p (CreateThin id) q none h found = inserted p q id (new_volume p.geometry) (ap (λ r. r.volumes) h.is) (not_there p id found (new_thin p id none))
Makes-keeps_sizes p (CreateSnap id origin) q none h found = inserted p q id (volume_of p origin) (ap (λ r. r.volumes) h.is) (not_there p id found (new_snap p id origin none))
Makes-keeps_sizes p (Delete id) q none h found = removed p q id (ap (λ r. r.volumes) h.is) (none_holds p id (not_held p id none))
Makes-keeps_sizes p (SetTransactionId current next) q none h found = same_volumes p q (ap (λ r. r.volumes) h)
Makes-keeps_sizes p (Grow id blocks) q none h found =
    inserted p q id (grown p.geometry blocks (volume_of p id)) (ap (λ r. r.volumes) h.is) (none_holds p id (not_busy p id blocks none))
Makes-keeps_sizes p (Hold id) q none h found = same_volumes p q (ap (λ r. r.volumes) h)
Makes-keeps_sizes p (LetGo id) q none h found = same_volumes p q (ap (λ r. r.volumes) h)
Makes-keeps_sizes p (Read id at n) q none h found = same_volumes p q (ap (λ r. r.volumes) h)
Makes-keeps_sizes p Flush q none h found = same_volumes p q (ap (λ r. r.volumes) h)
Makes-keeps_sizes p Status q none h found = same_volumes p q (ap (λ r. r.volumes) h)
Makes-keeps_sizes p (ThinStatus id) q none h found = same_volumes p q (ap (λ r. r.volumes) h)
Makes-keeps_sizes p (NextId id) q none h found = same_volumes p q (ap (λ r. r.volumes) h)
Makes-keeps_sizes p (VolumeBlocks id) q none h found = same_volumes p q (ap (λ r. r.volumes) h)
Makes-keeps_sizes p (Walk id from) q none h found = same_volumes p q (ap (λ r. r.volumes) h)
Makes-keeps_sizes p Close q none h found = same_volumes p q (ap (λ r. r.volumes) h)
Makes-keeps_sizes p (HeldRead id at n) q none h found = same_volumes p q (ap (λ r. r.volumes) h)
Makes-keeps_sizes p ReserveMetadataSnap q none h found = reserved p q h found
Makes-keeps_sizes p ReleaseMetadataSnap q none h found = let_go_copies p q (ap (λ r. r.volumes) h.is) found

-- ---- and one that is refused, or in which the disk fails

after_refusal-keeps : (reason : Refusal) (p : PlainPool) → SameSizes p (after_refusal reason p)
after_refusal-keeps NoMetadataSpace p i held = refl
after_refusal-keeps reason p i held = refl

Step-keeps : (p : PlainPool) (call : Call) (answer : Answer) (q : PlainPool) (o : Option Refusal) → refusal_of p call ≡ o → Step p call answer q → FindsHeld p → SameSizes p q
Step-keeps p call answer q None is h found = Makes-keeps_sizes p call q is (MatchOption-at_none _ _ is h).1 found
Step-keeps p call answer q (Some r) is h found = subst (SameSizes p) (sym (MatchOption-at_some _ _ r is h).1) (after_refusal-keeps r p)

failed_by : (p : PlainPool) (call : Call) (made after : PlainPool) (writes : Bool)
    → MatchBool writes (((meant : Answer) × Step p call meant made) × (after ≡ record made { mode = mode.Failed })) ((made ≡ p) × (after ≡ p)) → FindsHeld p → SameSizes p after
failed_by p call made after true h found = subst (SameSizes p) (sym h.1) (Step-keeps p call h.0.0 made (refusal_of p call) refl h.0.1 found)
failed_by p call made after false h found = subst (SameSizes p) (sym h.1) (λ i held. refl)

pub Takes-keeps_sizes : (p : PlainPool) (call : Call) (answer : Answer) (made after : PlainPool) → Takes p call answer made after → FindsHeld p → SameSizes p after
Takes-keeps_sizes p call answer made after (inl step) = Step-keeps p call answer after (refusal_of p call) refl step.0
Takes-keeps_sizes p call answer made after (inr fault) = failed_by p call made after (is_writing call) fault.1
