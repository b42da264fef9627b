-- Sectors of a volume that are overwritten part after part.
use Rattle.std.proofs.Common.{◌≡◌, ◌⊎◌, inl, inr, ℕ, ◌+◌, ◌*◌, ◌/◌, ◌<◌, ◌≤◌, Bool, false, true, Option, None, Some, List, ◌++◌, length, refl, sym, ◌∙◌, ap, arith, length-append}
use Rattle.std.specs.Prelude.{IsTrue}
use Rattle.std.proofs.lemmas.Bool.{and_from, and_parts, cases_Bool, cases_eq, cases_lt, le-leb, leb-true, lt-ltb, ltb-true, true≢false}
use Rattle.std.proofs.lemmas.Nat.{div-mul-add}
use Rattle.std.proofs.lemmas.Option.{same_Some}
use Rattle.tp_model.specs.Geometry.{Geometry, data_sector}
use Rattle.tp_model.specs.Sectors.{Sector, sector_at}
use Rattle.tp_model.specs.Calls.{is_within, touches}
use Rattle.tp_model.proofs.Editing.{not_touched, touched}
use Rattle.tp_sharing.specs.Volumes.{OtherSlot, Volumes, slot_of}
use Rattle.tp_shown.specs.Shown.{Overwrites, value_of}
use Rattle.tp_shown.proofs.Overwritten.{Overwritten, by_blocks, overwrites_by, written_at}
use Rattle.tp_pool.proofs.Overwriting.{written_not, written_twice}

pub within : (at n k : ℕ) → at ≤ k → k < at + n → is_within at n k ≡ true
within at n k low high = and_from _ _ (le-leb at k low) (lt-ltb k (at + n) high)

-- a range touches the block of each of its sectors
pub touched_by : (g : Geometry) (at n k : ℕ) → 0 < g.block_sectors → is_within at n k ≡ true → touches g at n (k / g.block_sectors) ≡ true
touched_by g at n k pos w = elim (cases_Bool (touches g at n (k / g.block_sectors))) [
  | inl t ↦ t
  | inr f ↦ absurd (true≢false (sym w ∙ not_touched g at n k pos f))
]

-- what a part touches all touch
more_touched : (g : Geometry) (at n from m block : ℕ) → 0 < g.block_sectors → at ≤ from → from + m ≤ at + n → touches g from m block ≡ true → touches g at n block ≡ true
more_touched g at n from m block pos low high t =
    let w = touched g from m block pos t in
    let parts = and_parts _ _ w.1 in
    let a = leb-true from w.0 parts.0 in
    let b = ltb-true w.0 (from + m) parts.1 in
    ap (touches g at n) (sym w.2) ∙ touched_by g at n w.0 pos (within at n w.0 (omega (arith, low, a)) (omega (arith, high, b)))

-- and the other way round
part_touched : (g : Geometry) (at n m block : ℕ) → 0 < g.block_sectors → touches g at (n + m) block ≡ true → (touches g at n block ≡ true) ⊎ (touches g (at + n) m block ≡ true)
part_touched g at n m block pos t =
    let w = touched g at (n + m) block pos t in
    let parts = and_parts _ _ w.1 in
    let a = leb-true at w.0 parts.0 in
    let b = ltb-true w.0 (at + (n + m)) parts.1 in
    elim (cases_lt w.0 (at + n)) [
      | inl lt ↦ inl (ap (touches g at n) (sym w.2) ∙ touched_by g at n w.0 pos (within at n w.0 a lt))
      | inr ge ↦ inr (ap (touches g (at + n) m) (sym w.2) ∙ touched_by g (at + n) m w.0 pos (within (at + n) m w.0 ge (omega (arith, b))))
    ]

module _ (g : Geometry) (pos : 0 < g.block_sectors) (id sector : ℕ) (xs ys : List Sector) (now mid after : Volumes) (a b c : List Sector)
    (first : Overwritten g id sector xs now mid a b) (second : Overwritten g id (sector + length xs) ys mid after b c) where
  abbrev is_first : ℕ → Bool
  is_first block = touches g sector (length xs) block

  abbrev is_second : ℕ → Bool
  is_second block = touches g (sector + length xs) (length ys) block

  abbrev is_touched : ℕ → Bool
  is_touched block = touches g sector (length (xs ++ ys)) block

  first_all : (block : ℕ) → is_first block ≡ true → is_touched block ≡ true
  first_all block t = more_touched g sector (length (xs ++ ys)) sector (length xs) block pos (omega arith) (omega (arith, length-append xs ys)) t

  second_all : (block : ℕ) → is_second block ≡ true → is_touched block ≡ true
  second_all block t = more_touched g sector (length (xs ++ ys)) (sector + length xs) (length ys) block pos (omega arith) (omega (arith, length-append xs ys)) t

  not_first : (i block : ℕ) → (((i ≡ id) × IsTrue (is_touched block)) → ⊥) → ((i ≡ id) × IsTrue (is_first block)) → ⊥
  not_first i block none q = none (q.0, first_all block q.1)

  not_second : (i block : ℕ) → (((i ≡ id) × IsTrue (is_touched block)) → ⊥) → ((i ≡ id) × IsTrue (is_second block)) → ⊥
  not_second i block none q = none (q.0, second_all block q.1)

  -- ---- slots

  -- whether the second part has the slot
  is_seconds : (i block : ℕ) → ((i ≡ id) × IsTrue (is_second block)) ⊎ (((i ≡ id) × IsTrue (is_second block)) → ⊥)
  is_seconds i block = elim (cases_eq i id) [
    | inr n ↦ inr (λ q. n q.0)
    | inl e ↦ elim (cases_Bool (is_second block)) [
      | inl t ↦ inl (e, t)
      | inr f ↦ inr (λ q. true≢false (sym q.1 ∙ f))
    ]
  ]

  alone_by : (block place : ℕ) → (OtherSlot id block place mid → ⊥) → slot_of id block after ≡ Some place → OtherSlot id block place after → ⊥
  alone_by block place none here o = elim (is_seconds o.0 o.1) [
    | inl s ↦
        let w = second.own o.1 s.1 in
        let same : place ≡ w.0 = same_Some place w.0 (sym o.2 ∙ (ap (λ i. slot_of i o.1 after) s.0 ∙ w.1)) in
        w.2 (id, block, here ∙ ap Some same, λ q. o.3 (s.0, sym q.1))
    | inr n ↦ none (o.0, o.1, sym (second.others o.0 o.1 n) ∙ o.2, o.3)
  ]

  own_by : (block : ℕ) → (t : Bool) → is_second block ≡ t → IsTrue (is_touched block) → (place : ℕ) × (slot_of id block after ≡ Some place) × (OtherSlot id block place after → ⊥)
  own_by block true e t = second.own block e
  own_by block false e t =
      let there : is_first block ≡ true = in_first (part_touched g sector (length xs) (length ys) block pos (sym (ap (λ n. touches g sector n block) (length-append xs ys)) ∙ t)) in
      let w = first.own block there in
      let here = second.others id block (λ q. true≢false (sym q.1 ∙ e)) ∙ w.1 in
      (w.0, here, alone_by block w.0 w.2 here)
    where
      in_first : ((is_first block ≡ true) ⊎ (is_second block ≡ true)) → is_first block ≡ true
      in_first (inl s) = s
      in_first (inr s) = absurd (true≢false (sym s ∙ e))

  -- ---- data

  module _ (block offset : ℕ) (small : offset < g.block_sectors) where
    abbrev k : ℕ
    k = block * g.block_sectors + offset

    k_is_there : k / g.block_sectors ≡ block
    k_is_there = div-mul-add block g.block_sectors offset small

    -- a part that does not touch the block leaves its sectors
    stays : (at : ℕ) (part : List Sector) (old : Sector) → touches g at (length part) block ≡ false → written_at at part k old ≡ old
    stays at part old f = written_not at part k old (λ t. true≢false (sym t ∙ not_touched g at (length part) k pos (ap (touches g at (length part)) k_is_there ∙ f)))

    same_value : (o : Option ℕ) → slot_of id block now ≡ o → is_first block ≡ false → value_of g b o offset ≡ value_of g a o offset
    same_value None e f = refl
    same_value (Some place) e f = first.other_data id block place offset (λ q. true≢false (sym q.1 ∙ f)) e small

    value_by : (t : Bool) → is_first block ≡ t → value_of g b (slot_of id block mid) offset ≡ written_at sector xs k (value_of g a (slot_of id block now) offset)
    value_by true e =
        let w = first.own block e in
        ap (λ o. value_of g b o offset) w.1 ∙ first.own_data block w.0 offset e w.1 small
    value_by false e =
        ap (λ o. value_of g b o offset) (first.others id block (λ q. true≢false (sym q.1 ∙ e)))
        ∙ (same_value (slot_of id block now) refl e ∙ sym (stays sector xs (value_of g a (slot_of id block now) offset) e))

    mid_value : value_of g b (slot_of id block mid) offset ≡ written_at sector xs k (value_of g a (slot_of id block now) offset)
    mid_value = value_by (is_first block) refl

    own_data_by : (place : ℕ) → (t : Bool) → is_second block ≡ t → slot_of id block after ≡ Some place → sector_at c (data_sector g place + offset) ≡ written_at sector (xs ++ ys) k (value_of g a (slot_of id block now) offset)
    own_data_by place true t e =
        second.own_data block place offset t e small
        ∙ (ap (written_at (sector + length xs) ys k) mid_value ∙ written_twice sector xs ys k (value_of g a (slot_of id block now) offset))
    own_data_by place false t e =
        let was : slot_of id block mid ≡ Some place = sym (second.others id block (λ q. true≢false (sym q.1 ∙ t))) ∙ e in
        let old = value_of g a (slot_of id block now) offset in
        second.other_data id block place offset (λ q. true≢false (sym q.1 ∙ t)) was small
        ∙ (ap (λ o. value_of g b o offset) (sym was)
        ∙ (mid_value ∙ (sym (stays (sector + length xs) ys (written_at sector xs k old) t) ∙ written_twice sector xs ys k old)))

  other_data_by : (i block place offset : ℕ) → (((i ≡ id) × IsTrue (is_touched block)) → ⊥) → slot_of i block now ≡ Some place → offset < g.block_sectors
      → sector_at c (data_sector g place + offset) ≡ sector_at a (data_sector g place + offset)
  other_data_by i block place offset n e small =
      second.other_data i block place offset (not_second i block n) (first.others i block (not_first i block n) ∙ e) small
      ∙ first.other_data i block place offset (not_first i block n) e small

  both : Overwritten g id sector (xs ++ ys) now after a c
  both = record {
    devices = λ i s. first.devices i (second.devices i s);
    still = λ i s. second.still i (first.still i s);
    sizes = λ i. second.sizes i ∙ first.sizes i;
    others = λ i block n. second.others i block (not_second i block n) ∙ first.others i block (not_first i block n);
    own = λ block t. own_by block (is_second block) refl t;
    other_data = other_data_by;
    own_data = λ block place offset t e small. own_data_by block offset small place (is_second block) refl e;
  }

pub overwrites_then : (g : Geometry) → 0 < g.block_sectors → (id sector : ℕ) (xs ys : List Sector) (now mid after : Volumes) (a b c : List Sector)
    → Overwrites g id sector xs now mid a b → Overwrites g id (sector + length xs) ys mid after b c → Overwrites g id sector (xs ++ ys) now after a c
overwrites_then g pos id sector xs ys now mid after a b c first second =
    overwrites_by g id sector (xs ++ ys) now after a c
    (both g pos id sector xs ys now mid after a b c (by_blocks g id sector xs now mid a b first) (by_blocks g id (sector + length xs) ys mid after b c second))
