-- Each call can be made: on every pool there is one that an accepted call makes of it.
use Rattle.std.proofs.Common.{◌≡◌, ℕ, zero, suc, ◌+◌, ◌-◌, ◌*◌, ◌^◌, ◌<◌, ◌≤◌, ◌==◌, Bool, true, false, cond, List, [], ◌∷◌, map, Option, Some, None, ◌⊎◌, inl, inr, refl, sym, ap, subst, ◌∙◌, length, arith}
use Rattle.std.specs.Prelude.{nat_lt}
use Rattle.std.specs.Option.{IsSome, option_map_or}
use Rattle.std.specs.List.{list_all, enumerate_from}
use Rattle.std.specs.Ordering.{nat_cmp}
use Rattle.std.specs.FinMap.{FinMap, get, get-entries, entries, find, insert, remove, retain_keys, empty}
use Rattle.std.specs.Ordering.{eq_by_cmp}
use Rattle.std.specs.Cmp.{unsigned_tied}
use Rattle.std.proofs.Math.Nat.{le-mul_of_pos_right}
use Rattle.std.proofs.lemmas.Bool.{and_from, cases_eq, cases_lt, eq-eqb, ne_eqb, ltb-true, le-ltb, lt-ltb}
use Rattle.std.proofs.lemmas.Option.{none-some, same_Some}
use Rattle.tp_model.specs.declared.refusal.Refusal.{Refusal}
use Rattle.tp_model.specs.Geometry.{Geometry}
use Rattle.tp_model.specs.Pool.{Volume, PlainPool, copy_id, is_now, volume_sectors, volume_slots, slot_at, all_slots}
use Rattle.tp_model.specs.Calls.{Call, Read, Write, Trim, WriteZeroes, Flush, CreateThin, CreateSnap, Delete, SetTransactionId, Grow, Hold, LetGo, Status, ThinStatus, NextId, VolumeBlocks, Walk, Close, HeldRead, ReserveMetadataSnap, ReleaseMetadataSnap, held_of, Answer, Done, Refused, SlotEffect, Keeps, Loses, Owns, SlotAfter, sector_after, slot_effect, effect_at, Edits, Makes, Step, reply, refusal_of, after_refusal, grown, new_volume, volume_of, holds_after}
use Rattle.tp_model.proofs.Maps.{get_insert, get_remove, get_retain}
use Rattle.tp_model.proofs.Sharing.{all_slots_pass}
use Rattle.tp_model.proofs.Steps.{step_accepted, step_refused, not_touched_past, not_covered_past, other_of_insert}
use Rattle.tp_model.proofs.Shape.{end_of}

-- ---- a label that is free

-- more than each label of some slots
abbrev label_bound : List (ℕ × ℕ × ℕ) → ℕ
label_bound [] = 0
label_bound (s ∷ slots) = s.2 + 1 + label_bound slots

below_bound : (slots : List (ℕ × ℕ × ℕ)) (n : ℕ) → label_bound slots ≤ n → list_all (λ s. nat_lt s.2 n) slots ≡ true
below_bound [] n h = refl
below_bound (s ∷ slots) n h = and_from _ _ (lt-ltb s.2 n (omega arith)) (below_bound slots n (omega arith))

-- the first label past those of the pool
abbrev first_free : PlainPool → ℕ
first_free p = label_bound (all_slots p)

label_below : (p : PlainPool) (id block label : ℕ) → slot_at p id block ≡ Some label → label < first_free p
label_below p id block label h =
    let own : first_free p ≤ first_free p = omega arith in
    ltb-true label (first_free p) (all_slots_pass (λ s. nat_lt s.2 (first_free p)) p (below_bound (all_slots p) (first_free p) own) id block label h)

-- ---- slots by their effects

abbrev slot_made : SlotEffect → ℕ → Option ℕ → Option ℕ
slot_made Keeps label slot = slot
slot_made Loses label slot = None
slot_made Owns label slot = Some label

abbrev put_slot : SlotEffect → ℕ → ℕ → FinMap nat_cmp ℕ → FinMap nat_cmp ℕ
put_slot Keeps block label slots = slots
put_slot Loses block label slots = remove slots block
put_slot Owns block label slots = insert slots block label

-- of the blocks before this one; block b has label first + b, where it gets one
abbrev put_slots : (ℕ → SlotEffect) → ℕ → FinMap nat_cmp ℕ → ℕ → FinMap nat_cmp ℕ
put_slots effect first slots zero = slots
put_slots effect first slots (suc n) = put_slot (effect n) n (first + n) (put_slots effect first slots n)

either_way : (t : Bool) (slot : Option ℕ) → slot ≡ cond t slot slot
either_way true slot = refl
either_way false slot = refl

get_put_slot : (e : SlotEffect) (block label : ℕ) (slots : FinMap nat_cmp ℕ) (b : ℕ) → get (put_slot e block label slots) b ≡ cond (b == block) (slot_made e label (get slots b)) (get slots b)
get_put_slot Keeps block label slots b = either_way (b == block) (get slots b)
get_put_slot Loses block label slots b = get_remove slots block b
get_put_slot Owns block label slots b = get_insert slots block label b

module _ (effect : ℕ → SlotEffect) (first : ℕ) (slots : FinMap nat_cmp ℕ) where
  put_past : (n b : ℕ) → n ≤ b → get (put_slots effect first slots n) b ≡ get slots b
  put_past zero b h = refl
  put_past (suc n) b h =
      let so_far = put_slots effect first slots n in
      let apart : (b == n) ≡ false = ne_eqb b n (λ s. omega arith) in
      get_put_slot (effect n) n (first + n) so_far b
      ∙ ap (λ t. cond t (slot_made (effect n) (first + n) (get so_far b)) (get so_far b)) apart
      ∙ put_past n b (omega arith)

  put_last : (n : ℕ) → get (put_slots effect first slots (suc n)) n ≡ slot_made (effect n) (first + n) (get slots n)
  put_last n =
      let so_far = put_slots effect first slots n in
      let own : n ≤ n = omega arith in
      get_put_slot (effect n) n (first + n) so_far n
      ∙ ap (λ t. cond t (slot_made (effect n) (first + n) (get so_far n)) (get so_far n)) (eq-eqb n n refl)
      ∙ ap (slot_made (effect n) (first + n)) (put_past n n own)

  put_within : (n b : ℕ) → b < n → get (put_slots effect first slots n) b ≡ slot_made (effect b) (first + b) (get slots b)
  put_within zero b h = absurd (omega arith)
  put_within (suc n) b h = elim (cases_eq b n) [
    | inl s ↦ subst (λ (x : ℕ). get (put_slots effect first slots (suc n)) x ≡ slot_made (effect x) (first + x) (get slots x)) (sym s) (put_last n)
    | inr s ↦
        let so_far = put_slots effect first slots n in
        get_put_slot (effect n) n (first + n) so_far b
        ∙ ap (λ t. cond t (slot_made (effect n) (first + n) (get so_far b)) (get so_far b)) (ne_eqb b n s)
        ∙ put_within n b (omega arith)
  ]

-- a request keeps the slot of each block past its range
module _ (g : Geometry) (some : 0 < g.block_sectors) where
  starts_past : (n block : ℕ) → n ≤ block → n ≤ block * g.block_sectors
  starts_past n block h = let m : block ≤ block * g.block_sectors = le-mul_of_pos_right block some in omega arith

  ends_past : (n block : ℕ) → n ≤ block → n < (block + 1) * g.block_sectors
  ends_past n block h = let m : n ≤ block * g.block_sectors = starts_past n block h in omega arith

  kept_past_end : (call : Call) (block : ℕ) (slot : Option ℕ) → end_of call ≤ block → slot_effect g call block slot ≡ Keeps
  kept_past_end (Write id at xs fua) block slot h = simp (not_touched_past g at (length xs) block (starts_past _ block h))
  kept_past_end (Trim id at n fua) block slot h = simp (not_covered_past g at n block (ends_past _ block h))
  kept_past_end (WriteZeroes id at n true fua) block slot h = simp (not_touched_past g at n block (starts_past _ block h))
  kept_past_end (WriteZeroes id at n false fua) block slot h = simp (not_covered_past g at n block (ends_past _ block h), not_touched_past g at n block (starts_past _ block h))
  kept_past_end (Read id at n) block slot h = refl
  kept_past_end Flush block slot h = refl
  kept_past_end (CreateThin id) block slot h = refl
  kept_past_end (CreateSnap id origin) block slot h = refl
  kept_past_end (Delete id) block slot h = refl
  kept_past_end (SetTransactionId current next) block slot h = refl
  kept_past_end (Grow id blocks) block slot h = refl
  kept_past_end (Hold id) block slot h = refl
  kept_past_end (LetGo id) block slot h = refl
  kept_past_end Status block slot h = refl
  kept_past_end (ThinStatus id) block slot h = refl
  kept_past_end (NextId id) block slot h = refl
  kept_past_end (VolumeBlocks id) block slot h = refl
  kept_past_end (Walk id from) block slot h = refl
  kept_past_end Close block slot h = refl
  kept_past_end (HeldRead id sector count) block slot h = refl
  kept_past_end ReserveMetadataSnap block slot h = refl
  kept_past_end ReleaseMetadataSnap block slot h = refl

-- ---- the pool that a request makes

-- Each block that gets a data block gets one under a label of its own, past those of the pool.
abbrev edited_slots : PlainPool → Call → ℕ → FinMap nat_cmp ℕ
edited_slots p call id = put_slots (effect_at p call id) (first_free p) (volume_slots p id) (end_of call)

abbrev edited_volume : PlainPool → Call → ℕ → Volume
edited_volume p call id = record { sectors = map (λ e. sector_after p.geometry call e.0 e.1) (enumerate_from 0 (volume_sectors p id)); slots = edited_slots p call id }

abbrev edited_pool : PlainPool → Call → ℕ → PlainPool
edited_pool p call id = record p { volumes = insert p.volumes id (edited_volume p call id) }

module _ (p : PlainPool) (call : Call) (id : ℕ) (some : 0 < p.geometry.block_sectors) where
  volume_here : get (edited_pool p call id).volumes id ≡ Some (edited_volume p call id)
  volume_here =
      get_insert p.volumes id (edited_volume p call id) id
      ∙ ap (λ t. cond t (Some (edited_volume p call id)) (get p.volumes id)) (eq-eqb id id refl)

  slots_here : volume_slots (edited_pool p call id) id ≡ edited_slots p call id
  slots_here = ap (λ (o : Option Volume). option_map_or (λ v. v.slots) o empty) volume_here

  slot_elsewhere : (i b : ℕ) → (i ≡ id → ⊥) → slot_at (edited_pool p call id) i b ≡ slot_at p i b
  slot_elsewhere i b apart = ap (λ (o : Option Volume). get (option_map_or (λ v. v.slots) o empty) b) (other_of_insert p.volumes id (edited_volume p call id) i apart)

  slot_here : (b : ℕ) → slot_at (edited_pool p call id) id b ≡ slot_made (effect_at p call id b) (first_free p + b) (slot_at p id b)
  slot_here b = ap (λ (m : FinMap nat_cmp ℕ). get m b) slots_here ∙ by_place (cases_lt b (end_of call))
    where
      by_place : (b < end_of call) ⊎ (end_of call ≤ b) → get (edited_slots p call id) b ≡ slot_made (effect_at p call id b) (first_free p + b) (slot_at p id b)
      by_place (inl within) = put_within (effect_at p call id) (first_free p) (volume_slots p id) (end_of call) b within
      by_place (inr past) =
          put_past (effect_at p call id) (first_free p) (volume_slots p id) (end_of call) b past
          ∙ sym (ap (λ e. slot_made e (first_free p + b) (slot_at p id b)) (kept_past_end p.geometry some call b (slot_at p id b) past))

  -- no slot but that of the block has the label that it got
  own_label : (block i b : ℕ) → (slot_at p i b ≡ Some (first_free p + block)) → ⊥
  own_label block i b h = let small : first_free p + block < first_free p = label_below p i b (first_free p + block) h in omega arith

  owner_here : (block b : ℕ) (e : SlotEffect) → slot_made e (first_free p + b) (slot_at p id b) ≡ Some (first_free p + block) → b ≡ block
  owner_here block b Keeps h = absurd (own_label block id b h)
  owner_here block b Loses h = absurd (none-some _ h)
  owner_here block b Owns h = let same : first_free p + b ≡ first_free p + block = same_Some _ _ h in omega arith

  owner : (block i b : ℕ) → slot_at (edited_pool p call id) i b ≡ Some (first_free p + block) → (i ≡ id) ⊎ (i ≡ id → ⊥) → (i ≡ id) × (b ≡ block)
  owner block i b h (inl s) =
      let there = sym (slot_here b) ∙ ap (λ j. slot_at (edited_pool p call id) j b) (sym s) ∙ h in
      (s, owner_here block b (effect_at p call id b) there)
  owner block i b h (inr s) = absurd (own_label block i b (sym (slot_elsewhere i b s) ∙ h))

  slot_by : (block : ℕ) (e : SlotEffect) → slot_at (edited_pool p call id) id block ≡ slot_made e (first_free p + block) (slot_at p id block) → SlotAfter e p (edited_pool p call id) id block
  slot_by block Keeps h = h
  slot_by block Loses h = h
  slot_by block Owns h = record {
    mapped = subst (λ (o : Option ℕ). IsSome o) (sym h) refl;
    alone = λ i b same. owner block i b (same ∙ h) (cases_eq i id);
  }

  edited : Edits p call id (edited_pool p call id)
  edited = record {
    rest = refl;
    others = λ i apart. other_of_insert p.volumes id (edited_volume p call id) i apart;
    volume = volume_here ∙ ap (λ (m : FinMap nat_cmp ℕ). Some (record { sectors = (edited_volume p call id).sectors; slots = m })) (sym slots_here);
    slots = λ block. slot_by block (effect_at p call id block) (slot_here block);
    untouched = λ keeps. refl;
  }

  -- what a request says of a volume can be done, on every pool
  pub Edits-possible : (q : PlainPool) × Edits p call id q
  Edits-possible = (edited_pool p call id, edited)

-- ---- the pool with a held copy

-- the volumes of these ids, and behind them the copies
abbrev copies_of : List (ℕ × Volume) → FinMap nat_cmp Volume → FinMap nat_cmp Volume
copies_of [] m = m
copies_of (e ∷ es) m = insert (copies_of es m) (copy_id e.0) e.1

same_test : (id k : ℕ) → 2 ^ 24 ≤ id → (id == copy_id k) ≡ (id - 2 ^ 24 == k)
same_test id k l = elim (cases_eq id (copy_id k)) [
  | inl e ↦ eq-eqb id (copy_id k) e ∙ sym (eq-eqb (id - 2 ^ 24) k (omega (arith, e)))
  | inr n ↦ ne_eqb id (copy_id k) n ∙ sym (ne_eqb (id - 2 ^ 24) k (λ e. n (omega (arith, e, l))))
]

-- an id of a device finds what was there, and one of a copy the volume that is held
copies_low : (es : List (ℕ × Volume)) (m : FinMap nat_cmp Volume) (id : ℕ) → id < 2 ^ 24 → get (copies_of es m) id ≡ get m id
copies_low [] m id l = refl
copies_low (e ∷ es) m id l = other_of_insert (copies_of es m) (copy_id e.0) e.1 id (λ q. absurd (omega (arith, q, l))) ∙ copies_low es m id l

copies_high : (es : List (ℕ × Volume)) (m : FinMap nat_cmp Volume) (id : ℕ) → 2 ^ 24 ≤ id → get m id ≡ None → get (copies_of es m) id ≡ find nat_cmp (id - 2 ^ 24) es
copies_high [] m id l none = none
copies_high (e ∷ es) m id l none =
    get_insert (copies_of es m) (copy_id e.0) e.1 id
    ∙ (ap (λ t. cond t (Some e.1) (get (copies_of es m) id)) (same_test id e.0 l ∙ sym (unsigned_tied (id - 2 ^ 24) e.0))
    ∙ ap (λ o. cond (eq_by_cmp nat_cmp (id - 2 ^ 24) e.0) (Some e.1) o) (copies_high es m id l none))

abbrev reserved_pool : PlainPool → PlainPool
reserved_pool p = record p { volumes = copies_of (entries p.volumes) (retain_keys p.volumes is_now); held_root = 1 }

get_copies : (m : FinMap nat_cmp Volume) (id : ℕ) → get (copies_of (entries m) (retain_keys m is_now)) id ≡ get m (held_of id)
get_copies m id = elim (cases_lt id (2 ^ 24)) [
  | inl l ↦
      copies_low (entries m) (retain_keys m is_now) id l
      ∙ (get_retain m is_now id ∙ (ap (λ t. cond t (get m id) None) (lt-ltb id (2 ^ 24) l) ∙ sym (ap (λ t. get m (cond t id (id - 2 ^ 24))) (lt-ltb id (2 ^ 24) l))))
  | inr g ↦
      let off : is_now id ≡ false = le-ltb id (2 ^ 24) (omega (arith, g)) in
      copies_high (entries m) (retain_keys m is_now) id (omega (arith, g)) (get_retain m is_now id ∙ ap (λ t. cond t (get m id) None) off)
      ∙ (sym (get-entries m (id - 2 ^ 24)) ∙ sym (ap (λ t. get m (cond t id (id - 2 ^ 24))) off))
]

-- what a call makes of a pool where it is accepted can be made, on every pool
pub Makes-possible : (p : PlainPool) (call : Call) → 0 < p.geometry.block_sectors → (q : PlainPool) × Makes p call q
Makes-possible p (Write id at xs fua) some = Edits-possible p (Write id at xs fua) id some
Makes-possible p (Trim id at n fua) some = Edits-possible p (Trim id at n fua) id some
Makes-possible p (WriteZeroes id at n no_hole fua) some = Edits-possible p (WriteZeroes id at n no_hole fua) id some
Makes-possible p (CreateThin id) some =
    (record p { volumes = insert p.volumes id (new_volume p.geometry) }, record { is = refl; taken = omega arith })
Makes-possible p (CreateSnap id origin) some =
    (record p { volumes = insert p.volumes id (volume_of p origin) }, record { is = refl; taken = λ _. omega arith })
Makes-possible p (Delete id) some = (record p { volumes = remove p.volumes id }, record { is = refl; taken = λ _. omega arith })
Makes-possible p (SetTransactionId current next) some = (record p { transaction_id = next }, refl)
Makes-possible p (Grow id blocks) some =
    (record p { volumes = insert p.volumes id (grown p.geometry blocks (volume_of p id)) }, record { is = refl; taken = λ _. omega arith; untouched = λ _. refl })
Makes-possible p (Hold id) some = (record p { holds = holds_after p.holds (Hold id) Done }, refl)
Makes-possible p (LetGo id) some = (record p { holds = holds_after p.holds (LetGo id) Done }, refl)
Makes-possible p (Read id at n) some = (p, refl)
Makes-possible p Flush some = (p, refl)
Makes-possible p Status some = (p, refl)
Makes-possible p (ThinStatus id) some = (p, refl)
Makes-possible p (NextId id) some = (p, refl)
Makes-possible p (VolumeBlocks id) some = (p, refl)
Makes-possible p (Walk id from) some = (p, refl)
Makes-possible p Close some = (p, refl)
Makes-possible p (HeldRead id at n) some = (p, refl)
Makes-possible p ReserveMetadataSnap some = (reserved_pool p, record { rest = refl; held = omega arith; volumes = λ id. get_copies p.volumes id })
Makes-possible p ReleaseMetadataSnap some =
    (record p { volumes = retain_keys p.volumes is_now; held_root = 0 }, record { is = refl; taken = omega arith })

step_by : (p : PlainPool) (call : Call) → 0 < p.geometry.block_sectors → (o : Option Refusal) → refusal_of p call ≡ o → (answer : Answer) × (q : PlainPool) × Step p call answer q
step_by p call some None is = let m = Makes-possible p call some in (reply p call, m.0, step_accepted p call m.0 is m.1)
step_by p call some (Some r) is = (Refused r, after_refusal r p, step_refused p call r is)

-- from every pool each call has an answer
pub Step-possible : (p : PlainPool) (call : Call) → 0 < p.geometry.block_sectors → (answer : Answer) × (q : PlainPool) × Step p call answer q
Step-possible p call some = step_by p call some (refusal_of p call) refl
