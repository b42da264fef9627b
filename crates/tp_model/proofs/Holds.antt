-- Who holds a volume finds it after each call.
use Rattle.std.proofs.Common.{◌≡◌, ◌≢◌, ℕ, ◌-◌, ◌+◌, ◌<◌, ◌≤◌, ◌==◌, Bool, true, false, cond, List, [], ◌∷◌, Option, Some, None, ◌⊎◌, inl, inr, refl, sym, ap, subst, ◌∙◌, arith}
use Rattle.std.specs.Prelude.{◌^◌, ◌&&◌, not, nat_le, nat_lt}
use Rattle.std.specs.Bool.{MatchBool}
use Rattle.std.specs.Option.{is_some, unwrap_or}
use Rattle.std.specs.Ordering.{nat_cmp}
use Rattle.std.specs.FinMap.{FinMap, contains_key, get, insert, remove, retain_keys}
use Rattle.std.proofs.lemmas.Bool.{and_from, and_parts, cases_eq, cases_lt, eq-eqb, lt-ltb, ne_eqb, true≢false}
use Rattle.std.proofs.lemmas.Option.{none-some, MatchOption-at_none, MatchOption-at_some}
use Rattle.tp_model.specs.declared.mode.Mode.TheVariants as mode
use Rattle.tp_model.specs.declared.refusal.Refusal.{Refusal}
use Rattle.tp_model.specs.declared.refusal.Refusal.TheVariants.{Busy, Failed, NoMetadataSpace, NoSuchDevice, ReadOnly}
use Rattle.tp_model.specs.Pool.{FindsHeld, PlainPool, Volume, hold_count, is_now}
use Rattle.tp_model.specs.Calls.{Answer, Call, Read, Write, Trim, WriteZeroes, Flush, CreateThin, CreateSnap, Delete, SetTransactionId, Grow, Hold, LetGo, Status, ThinStatus, NextId, VolumeBlocks, Walk, Close, HeldRead, ReserveMetadataSnap, ReleaseMetadataSnap, Reserves, has_metadata_room, Edits, Makes, Step, Takes, after_refusal, exists, first_failed, is_failed, is_read_only, grown, is_writing, new_volume, refusal_of, released, volume_of}
use Rattle.tp_model.proofs.Maps.{get_insert, get_remove, get_retain}
use Rattle.tp_model.proofs.Steps.{other_of_insert}

-- ---- counts of holds

-- another one's holds are as before
count_insert : (holds : FinMap nat_cmp ℕ) (id n i : ℕ) → i ≢ id → hold_count (insert holds id n) i ≡ hold_count holds i
count_insert holds id n i apart = ap (λ (x : Option ℕ). unwrap_or x 0) (other_of_insert holds id n i apart)

count_here : (holds : FinMap nat_cmp ℕ) (id n : ℕ) → hold_count (insert holds id n) id ≡ n
count_here holds id n = ap (λ (x : Option ℕ). unwrap_or x 0) (get_insert holds id n id ∙ ap (λ b. cond b (Some n) (get holds id)) (eq-eqb id id refl))

count_remove : (holds : FinMap nat_cmp ℕ) (id i : ℕ) → hold_count (remove holds id) i ≤ hold_count holds i
count_remove holds id i = by_key (i == id) (ap (λ (x : Option ℕ). unwrap_or x 0) (get_remove holds id i))
  where
    by_key : (b : Bool) → hold_count (remove holds id) i ≡ unwrap_or (cond b None (get holds i)) 0 → hold_count (remove holds id) i ≤ hold_count holds i
    by_key true is = omega (arith, is)
    by_key false is = omega (arith, is)

-- letting go leaves no one more holds
count_released : (holds : FinMap nat_cmp ℕ) (id i : ℕ) → hold_count (released holds id) i ≤ hold_count holds i
count_released holds id i = by_test (nat_le (hold_count holds id) 1) refl (cases_eq i id)
  where
    by_test : (b : Bool) → nat_le (hold_count holds id) 1 ≡ b → (i ≡ id) ⊎ (i ≢ id) → hold_count (cond b (remove holds id) (insert holds id (hold_count holds id - 1))) i ≤ hold_count holds i
    by_test true is place = count_remove holds id i
    by_test false is (inr apart) = omega (arith, count_insert holds id (hold_count holds id - 1) i apart)
    by_test false is (inl same) =
        let here : hold_count (insert holds id (hold_count holds id - 1)) i ≡ hold_count holds i - 1 =
        ap (λ j. hold_count (insert holds id (hold_count holds id - 1)) j) same ∙ (count_here holds id (hold_count holds id - 1) ∙ ap (λ j. hold_count holds j - 1) (sym same)) in
        omega (arith, here)

-- ---- volumes

-- a device that was found is there where the map has it still
still : (p q : PlainPool) (id : ℕ) → exists p id ≡ true → (contains_key p.volumes id ≡ true → contains_key q.volumes id ≡ true) → exists q id ≡ true
still p q id was there =
    let both = and_parts (is_now id) (contains_key p.volumes id) was in
    and_from (is_now id) (contains_key q.volumes id) both.0 (there both.1)

same_volumes : (p q : PlainPool) → q.volumes ≡ p.volumes → q.holds ≡ p.holds → FindsHeld p → FindsHeld q
same_volumes p q volumes holds found id some =
    still p q id (found id (subst (λ (h : FinMap nat_cmp ℕ). 0 < hold_count h id) holds some)) (λ t. ap (λ (m : FinMap nat_cmp Volume). is_some (get m id)) volumes ∙ t)

edited : (p : PlainPool) (call : Call) (id : ℕ) (q : PlainPool) → Edits p call id q → FindsHeld p → FindsHeld q
edited p call id q e found i some =
    still p q i (found i (subst (λ (h : FinMap nat_cmp ℕ). 0 < hold_count h i) (ap (λ r. r.holds) e.rest) some))
    (λ t. elim (cases_eq i id) [
      | inl same ↦ ap (λ j. is_some (get q.volumes j)) same ∙ ap is_some e.volume
      | inr apart ↦ ap is_some (e.others i apart) ∙ t
    ])

added : (p q : PlainPool) (id : ℕ) (v : Volume) → q.volumes ≡ insert p.volumes id v → q.holds ≡ p.holds → FindsHeld p → FindsHeld q
added p q id v volumes holds found i some =
    still p q i (found i (subst (λ (h : FinMap nat_cmp ℕ). 0 < hold_count h i) holds some))
    (λ t. elim (cases_eq i id) [
      | inl same ↦ ap (λ (m : FinMap nat_cmp Volume). is_some (get m i)) volumes ∙ ap is_some (get_insert p.volumes id v i ∙ ap (λ b. cond b (Some v) (get p.volumes i)) (eq-eqb i id same))
      | inr apart ↦ ap (λ (m : FinMap nat_cmp Volume). is_some (get m i)) volumes ∙ (ap is_some (other_of_insert p.volumes id v i apart) ∙ t)
    ])

-- a held copy changes nothing of what is there
reserved : (p q : PlainPool) → Reserves p q → FindsHeld p → FindsHeld q
reserved p q r found i some =
    let was = found i (subst (λ (h : FinMap nat_cmp ℕ). 0 < hold_count h i) (ap (λ x. x.holds) r.rest) some) in
    let here : is_now i ≡ true = (and_parts (is_now i) (contains_key p.volumes i) was).0 in
    still p q i was (λ t. ap is_some (r.volumes i ∙ ap (λ b. get p.volumes (cond b i (i - 2 ^ 24))) here) ∙ t)

let_go_copies : (p q : PlainPool) → q.volumes ≡ retain_keys p.volumes is_now → q.holds ≡ p.holds → FindsHeld p → FindsHeld q
let_go_copies p q volumes holds found i some =
    let was = found i (subst (λ (h : FinMap nat_cmp ℕ). 0 < hold_count h i) holds some) in
    let here : is_now i ≡ true = (and_parts (is_now i) (contains_key p.volumes i) was).0 in
    still p q i was (λ t. ap (λ (m : FinMap nat_cmp Volume). is_some (get m i)) volumes ∙ (ap is_some (get_retain p.volumes is_now i ∙ ap (λ b. cond b (get p.volumes i) None) here) ∙ t))

-- ---- what the tests say

pub fourth_passes : {A : Type 0} (a b c d : Bool) (w x y z : A) (tests : List (Bool × A)) → first_failed ((a, w) ∷ (b, x) ∷ (c, y) ∷ (d, z) ∷ tests) ≡ None → d ≡ false
fourth_passes true b c d w x y z tests h = absurd (none-some w (sym h))
fourth_passes false true c d w x y z tests h = absurd (none-some x (sym h))
fourth_passes false false true d w x y z tests h = absurd (none-some y (sym h))
fourth_passes false false false true w x y z tests h = absurd (none-some z (sym h))
fourth_passes false false false false w x y z tests h = refl

second_passes : {A : Type 0} (a b : Bool) (x y : A) → first_failed ((a, x) ∷ (not b, y) ∷ []) ≡ None → b ≡ true
second_passes true b x y h = absurd (none-some x (sym h))
second_passes false true x y h = refl
second_passes false false x y h = absurd (none-some y (sym h))

pub not_held : (p : PlainPool) (id : ℕ) → refusal_of p (Delete id) ≡ None → hold_count p.holds id ≡ 0
not_held p id none =
    let free = fourth_passes (is_failed p.mode) (is_read_only p.mode) (not (exists p id)) (nat_lt 0 (hold_count p.holds id)) Failed ReadOnly NoSuchDevice Busy ((not (p.held_root == 0) && not (has_metadata_room p 256), NoMetadataSpace) ∷ []) none in
    elim (cases_lt 0 (hold_count p.holds id)) [
      | inl lt ↦ absurd (true≢false (sym (lt-ltb 0 (hold_count p.holds id) lt) ∙ free))
      | inr le ↦ omega (arith, le)
    ]

deleted : (p q : PlainPool) (id : ℕ) → hold_count p.holds id ≡ 0 → q.volumes ≡ remove p.volumes id → q.holds ≡ p.holds → FindsHeld p → FindsHeld q
deleted p q id free volumes holds found i some =
    let held : 0 < hold_count p.holds i = subst (λ (h : FinMap nat_cmp ℕ). 0 < hold_count h i) holds some in
    elim (cases_eq i id) [
      | inl same ↦ absurd (omega (arith, held, free, ap (hold_count p.holds) same))
      | inr apart ↦ still p q i (found i held) (λ t. ap (λ (m : FinMap nat_cmp Volume). is_some (get m i)) volumes
          ∙ (ap is_some (get_remove p.volumes id i ∙ ap (λ b. cond b None (get p.volumes i)) (ne_eqb i id apart)) ∙ t))
    ]

held : (p q : PlainPool) (id : ℕ) → exists p id ≡ true → q.volumes ≡ p.volumes → q.holds ≡ insert p.holds id (hold_count p.holds id + 1) → FindsHeld p → FindsHeld q
held p q id is volumes holds found i some =
    still p q i (elim (cases_eq i id) [
      | inl same ↦ ap (exists p) same ∙ is
      | inr apart ↦ found i (subst (λ n. 0 < n) (ap (λ h. hold_count h i) holds ∙ count_insert p.holds id (hold_count p.holds id + 1) i apart) some)
    ])
    (λ t. ap (λ (m : FinMap nat_cmp Volume). is_some (get m i)) volumes ∙ t)

let_go : (p q : PlainPool) (id : ℕ) → q.volumes ≡ p.volumes → q.holds ≡ released p.holds id → FindsHeld p → FindsHeld q
let_go p q id volumes holds found i some =
    still p q i (found i (omega (arith, some, ap (λ h. hold_count h i) holds, count_released p.holds id i))) (λ t. ap (λ (m : FinMap nat_cmp Volume). is_some (get m i)) volumes ∙ t)

pub Makes-FindsHeld : (p : PlainPool) (call : Call) (q : PlainPool) → refusal_of p call ≡ None → Makes p call q → FindsHeld p → FindsHeld q
Makes-FindsHeld p (Write id at xs fua) q none h = edited p (Write id at xs fua) id q h
Makes-FindsHeld p (Trim id at n fua) q none h = edited p (Trim id at n fua) id q h
Makes-FindsHeld p (WriteZeroes id at n no_hole fua) q none h = edited p (WriteZeroes id at n no_hole fua) id q h
Makes-FindsHeld p (CreateThin id) q none h = added p q id (new_volume p.geometry) (ap (λ r. r.volumes) h.is) (ap (λ r. r.holds) h.is)
Makes-FindsHeld p (CreateSnap id origin) q none h = added p q id (volume_of p origin) (ap (λ r. r.volumes) h.is) (ap (λ r. r.holds) h.is)
Makes-FindsHeld p (Delete id) q none h = deleted p q id (not_held p id none) (ap (λ r. r.volumes) h.is) (ap (λ r. r.holds) h.is)
Makes-FindsHeld p (SetTransactionId current next) q none h = same_volumes p q (ap (λ r. r.volumes) h) (ap (λ r. r.holds) h)
Makes-FindsHeld p (Grow id blocks) q none h = added p q id (grown p.geometry blocks (volume_of p id)) (ap (λ r. r.volumes) h.is) (ap (λ r. r.holds) h.is)
Makes-FindsHeld p (Hold id) q none h =
    held p q id (second_passes (is_failed p.mode) (exists p id) Failed NoSuchDevice none) (ap (λ r. r.volumes) h) (ap (λ r. r.holds) h)
Makes-FindsHeld p (LetGo id) q none h = let_go p q id (ap (λ r. r.volumes) h) (ap (λ r. r.holds) h)
Makes-FindsHeld p (Read id at n) q none h = same_volumes p q (ap (λ r. r.volumes) h) (ap (λ r. r.holds) h)
Makes-FindsHeld p Flush q none h = same_volumes p q (ap (λ r. r.volumes) h) (ap (λ r. r.holds) h)
Makes-FindsHeld p Status q none h = same_volumes p q (ap (λ r. r.volumes) h) (ap (λ r. r.holds) h)
Makes-FindsHeld p (ThinStatus id) q none h = same_volumes p q (ap (λ r. r.volumes) h) (ap (λ r. r.holds) h)
Makes-FindsHeld p (NextId id) q none h = same_volumes p q (ap (λ r. r.volumes) h) (ap (λ r. r.holds) h)
Makes-FindsHeld p (VolumeBlocks id) q none h = same_volumes p q (ap (λ r. r.volumes) h) (ap (λ r. r.holds) h)
Makes-FindsHeld p (Walk id from) q none h = same_volumes p q (ap (λ r. r.volumes) h) (ap (λ r. r.holds) h)
Makes-FindsHeld p Close q none h = same_volumes p q (ap (λ r. r.volumes) h) (ap (λ r. r.holds) h)
Makes-FindsHeld p (HeldRead id at n) q none h = same_volumes p q (ap (λ r. r.volumes) h) (ap (λ r. r.holds) h)
Makes-FindsHeld p ReserveMetadataSnap q none h = reserved p q h
Makes-FindsHeld p ReleaseMetadataSnap q none h = let_go_copies p q (ap (λ r. r.volumes) h.is) (ap (λ r. r.holds) h.is)

-- ---- whatever is answered

after_refusal-FindsHeld : (reason : Refusal) (p : PlainPool) → FindsHeld p → FindsHeld (after_refusal reason p)
after_refusal-FindsHeld NoMetadataSpace p found = found
after_refusal-FindsHeld reason p found = found

Step-FindsHeld : (p : PlainPool) (call : Call) (answer : Answer) (q : PlainPool) (o : Option Refusal) → refusal_of p call ≡ o → Step p call answer q → FindsHeld p → FindsHeld q
Step-FindsHeld p call answer q None is h found = Makes-FindsHeld p call q is (MatchOption-at_none _ _ is h).1 found
Step-FindsHeld p call answer q (Some r) is h found = subst FindsHeld (sym (MatchOption-at_some _ _ r is h).1) (after_refusal-FindsHeld r p found)

failed_by : (p : PlainPool) (call : Call) (made after : PlainPool) (writes : Bool)
    → MatchBool writes (((meant : Answer) × Step p call meant made) × (after ≡ record made { mode = mode.Failed })) ((made ≡ p) × (after ≡ p)) → FindsHeld p → FindsHeld after
failed_by p call made after true h found = subst FindsHeld (sym h.1) (Step-FindsHeld p call h.0.0 made (refusal_of p call) refl h.0.1 found)
failed_by p call made after false h found = subst FindsHeld (sym h.1) found

pub Takes-FindsHeld : (p : PlainPool) (call : Call) (answer : Answer) (made after : PlainPool) → Takes p call answer made after → FindsHeld p → FindsHeld after
Takes-FindsHeld p call answer made after (inl step) = Step-FindsHeld p call answer after (refusal_of p call) refl step.0
Takes-FindsHeld p call answer made after (inr fault) = failed_by p call made after (is_writing call) fault.1
