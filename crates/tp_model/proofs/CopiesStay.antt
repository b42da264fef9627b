-- Each call but those that hold the mapping and give it up leaves what is held as it was.
use Rattle.std.proofs.Common.{◌≡◌, ◌≢◌, ℕ, ◌==◌, Bool, true, false, cond, List, [], ◌∷◌, Option, Some, None, inl, inr, refl, sym, ap, subst, ◌∙◌, arith}
use Rattle.std.specs.Prelude.{◌^◌, ◌&&◌, ◌||◌, length, not, nat_lt}
use Rattle.std.specs.Bool.{MatchBool}
use Rattle.std.specs.Ordering.{nat_cmp}
use Rattle.std.specs.FinMap.{FinMap, contains_key, get, insert, remove}
use Rattle.std.proofs.lemmas.Bool.{and_parts, le-ltb, ne_eqb, true≢false}
use Rattle.std.proofs.lemmas.Option.{none-some, MatchOption-at_none, MatchOption-at_some}
use Rattle.tp_model.specs.declared.mode.Mode.TheVariants as mode
use Rattle.tp_model.specs.declared.refusal.Refusal.{Refusal}
use Rattle.tp_model.specs.declared.refusal.Refusal.TheVariants.{BadSize, Busy, Failed, NoMetadataSpace, NoSuchDevice, ReadOnly}
use Rattle.tp_model.specs.Pool.{PlainPool, Volume, copy_id, hold_count, is_now}
use Rattle.tp_model.specs.Calls.{Answer, Call, Read, Write, Trim, WriteZeroes, Flush, CreateThin, CreateSnap, Delete, SetTransactionId, Grow, Hold, LetGo, Status, ThinStatus, NextId, VolumeBlocks, Walk, Close, HeldRead, ReserveMetadataSnap, ReleaseMetadataSnap, Edits, IsAllowed, Makes, Step, Takes, after_refusal, exists, first_failed, grown, has_data_room, has_metadata_room, is_failed, is_read_only, is_writing, new_volume, refusal_of, volume_blocks, volume_of}
use Rattle.tp_model.proofs.CopiesKept.{second_passes}
use Rattle.tp_model.proofs.Maps.{get_remove}
use Rattle.tp_model.proofs.Steps.{other_of_insert}

abbrev SameCopies : PlainPool → PlainPool → Type 0
SameCopies p q = (q.held_root ≡ p.held_root) × ((id : ℕ) → get q.volumes (copy_id id) ≡ get p.volumes (copy_id id))

-- ---- an id of a volume is that of no copy

apart : (i id : ℕ) → is_now i ≡ true → copy_id id ≢ i
apart i id now same = true≢false (sym now ∙ le-ltb i (2 ^ 24) (omega (arith, same)))

there : (p : PlainPool) (i id : ℕ) → exists p i ≡ true → copy_id id ≢ i
there p i id e = apart i id (and_parts (is_now i) (contains_key p.volumes i) e).0

third_passes : {A : Type 0} (a b c : Bool) (x y z : A) (tests : List (Bool × A)) → first_failed ((a, x) ∷ (b, y) ∷ (not c, z) ∷ tests) ≡ None → c ≡ true
third_passes true b c x y z tests h = absurd (none-some x (sym h))
third_passes false true c x y z tests h = absurd (none-some y (sym h))
third_passes false false true x y z tests h = refl
third_passes false false false x y z tests h = absurd (none-some z (sym h))

deleted_there : (p : PlainPool) (id : ℕ) → refusal_of p (Delete id) ≡ None → exists p id ≡ true
deleted_there p id none =
    third_passes (is_failed p.mode) (is_read_only p.mode) (exists p id) Failed ReadOnly NoSuchDevice
    ((nat_lt 0 (hold_count p.holds id), Busy) ∷ (not (p.held_root == 0) && not (has_metadata_room p 256), NoMetadataSpace) ∷ []) none

grown_there : (p : PlainPool) (id blocks : ℕ) → refusal_of p (Grow id blocks) ≡ None → exists p id ≡ true
grown_there p id blocks none =
    third_passes (is_failed p.mode) (is_read_only p.mode) (exists p id) Failed ReadOnly NoSuchDevice
    ((nat_lt 0 (hold_count p.holds id), Busy) ∷ (nat_lt blocks (volume_blocks p id) || nat_lt 16777216 blocks, BadSize) ∷ (not (has_metadata_room p 512), NoMetadataSpace) ∷ []) none

-- ---- what becomes of volumes

same_pool : (p q : PlainPool) → q ≡ p → SameCopies p q
same_pool p q e = (ap (λ r. r.held_root) e, λ id. ap (λ (r : PlainPool). get r.volumes (copy_id id)) e)

same_volumes : (p q : PlainPool) → q.held_root ≡ p.held_root → q.volumes ≡ p.volumes → SameCopies p q
same_volumes p q root volumes = (root, λ id. ap (λ (m : FinMap nat_cmp Volume). get m (copy_id id)) volumes)

inserted : (p q : PlainPool) (i : ℕ) (v : Volume) → q.held_root ≡ p.held_root → q.volumes ≡ insert p.volumes i v → ((id : ℕ) → copy_id id ≢ i) → SameCopies p q
inserted p q i v root volumes off =
    (root, λ id. ap (λ (m : FinMap nat_cmp Volume). get m (copy_id id)) volumes ∙ other_of_insert p.volumes i v (copy_id id) (off id))

removed : (p q : PlainPool) (i : ℕ) → q.held_root ≡ p.held_root → q.volumes ≡ remove p.volumes i → ((id : ℕ) → copy_id id ≢ i) → SameCopies p q
removed p q i root volumes off = (
  root,
  λ id. ap (λ (m : FinMap nat_cmp Volume). get m (copy_id id)) volumes
      ∙ (get_remove p.volumes i (copy_id id) ∙ ap (λ b. cond b None (get p.volumes (copy_id id))) (ne_eqb (copy_id id) i (off id))),
)

edited : (p : PlainPool) (call : Call) (i : ℕ) (q : PlainPool) → Edits p call i q → ((id : ℕ) → copy_id id ≢ i) → SameCopies p q
edited p call i q e off = (ap (λ r. r.held_root) e.rest, λ id. e.others (copy_id id) (off id))

-- ---- one call

made_keeps : (p : PlainPool) (call : Call) (q : PlainPool) → IsAllowed p call → refusal_of p call ≡ None → call ≢ ReserveMetadataSnap → call ≢ ReleaseMetadataSnap → Makes p call q → SameCopies p q
made_keeps p (Write i at xs fua) q a none not_res not_rel h =
    edited p (Write i at xs fua) i q h (λ id. there p i id (second_passes p i (length xs) 512 (has_data_room p (Write i at xs fua) i) none))
made_keeps p (Trim i at n fua) q a none not_res not_rel h = edited p (Trim i at n fua) i q h (λ id. there p i id (second_passes p i n 256 true none))
made_keeps p (WriteZeroes i at n no_hole fua) q a none not_res not_rel h =
    edited p (WriteZeroes i at n no_hole fua) i q h (λ id. there p i id (second_passes p i n 512 (has_data_room p (WriteZeroes i at n no_hole fua) i) none))
made_keeps p (CreateThin i) q a none not_res not_rel h =
    inserted p q i (new_volume p.geometry) (ap (λ r. r.held_root) h.is) (ap (λ r. r.volumes) h.is) (λ id. apart i id a)
made_keeps p (CreateSnap i origin) q a none not_res not_rel h =
    inserted p q i (volume_of p origin) (ap (λ r. r.held_root) h.is) (ap (λ r. r.volumes) h.is) (λ id. apart i id a)
made_keeps p (Delete i) q a none not_res not_rel h =
    removed p q i (ap (λ r. r.held_root) h.is) (ap (λ r. r.volumes) h.is) (λ id. there p i id (deleted_there p i none))
made_keeps p (SetTransactionId current next) q a none not_res not_rel h = same_volumes p q (ap (λ r. r.held_root) h) (ap (λ r. r.volumes) h)
made_keeps p (Grow i blocks) q a none not_res not_rel h =
    inserted p q i (grown p.geometry blocks (volume_of p i)) (ap (λ r. r.held_root) h.is) (ap (λ r. r.volumes) h.is)
    (λ id. there p i id (grown_there p i blocks none))
made_keeps p (Hold i) q a none not_res not_rel h = same_volumes p q (ap (λ r. r.held_root) h) (ap (λ r. r.volumes) h)
made_keeps p (LetGo i) q a none not_res not_rel h = same_volumes p q (ap (λ r. r.held_root) h) (ap (λ r. r.volumes) h)
made_keeps p (Read i at n) q a none not_res not_rel h = same_pool p q h
made_keeps p Flush q a none not_res not_rel h = same_pool p q h
made_keeps p Status q a none not_res not_rel h = same_pool p q h
made_keeps p (ThinStatus i) q a none not_res not_rel h = same_pool p q h
made_keeps p (NextId i) q a none not_res not_rel h = same_pool p q h
made_keeps p (VolumeBlocks i) q a none not_res not_rel h = same_pool p q h
made_keeps p (Walk i from) q a none not_res not_rel h = same_pool p q h
made_keeps p Close q a none not_res not_rel h = same_pool p q h
made_keeps p (HeldRead i at n) q a none not_res not_rel h = same_pool p q h
made_keeps p ReserveMetadataSnap q a none not_res not_rel h = absurd (not_res refl)
made_keeps p ReleaseMetadataSnap q a none not_res not_rel h = absurd (not_rel refl)

-- ---- whatever is answered

refusal_keeps : (reason : Refusal) (p : PlainPool) → SameCopies p (after_refusal reason p)
refusal_keeps NoMetadataSpace p = (refl, λ id. refl)
refusal_keeps reason p = (refl, λ id. refl)

step_keeps : (p : PlainPool) (call : Call) (answer : Answer) (q : PlainPool) → IsAllowed p call → call ≢ ReserveMetadataSnap → call ≢ ReleaseMetadataSnap
    → (o : Option Refusal) → refusal_of p call ≡ o → Step p call answer q → SameCopies p q
step_keeps p call answer q a not_res not_rel None is h = made_keeps p call q a is not_res not_rel (MatchOption-at_none _ _ is h).1
step_keeps p call answer q a not_res not_rel (Some r) is h = subst (SameCopies p) (sym (MatchOption-at_some _ _ r is h).1) (refusal_keeps r p)

fault_keeps : (p : PlainPool) (call : Call) (made after : PlainPool) → IsAllowed p call → call ≢ ReserveMetadataSnap → call ≢ ReleaseMetadataSnap → (writes : Bool)
    → MatchBool writes (((meant : Answer) × Step p call meant made) × (after ≡ record made { mode = mode.Failed })) ((made ≡ p) × (after ≡ p)) → SameCopies p after
fault_keeps p call made after a not_res not_rel true h =
    subst (SameCopies p) (sym h.1) (step_keeps p call h.0.0 made a not_res not_rel (refusal_of p call) refl h.0.1)
fault_keeps p call made after a not_res not_rel false h = same_pool p after h.1

pub copies_stay : (p : PlainPool) (call : Call) (answer : Answer) (made after : PlainPool) → IsAllowed p call → Takes p call answer made after
    → call ≢ ReserveMetadataSnap → call ≢ ReleaseMetadataSnap → SameCopies p after
copies_stay p call answer made after a (inl step) not_res not_rel = step_keeps p call answer after a not_res not_rel (refusal_of p call) refl step.0
copies_stay p call answer made after a (inr fault) not_res not_rel = fault_keeps p call made after a not_res not_rel (is_writing call) fault.1
