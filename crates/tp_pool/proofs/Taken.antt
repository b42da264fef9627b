-- Which virtual blocks take a data block, and how many data blocks are free.
use Rattle.std.proofs.Common.{◌≡◌, ◌≢◌, ◌⊎◌, inl, inr, ℕ, zero, suc, ◌+◌, ◌<◌, ◌≤◌, Bool, false, true, cond, not, ◌||◌, Option, None, Some, List, refl, sym, ◌∙◌, ap, subst, arith}
use Rattle.std.specs.Prelude.{IsTrue, slice_index_or, if◌then◌else◌}
use Rattle.std.specs.Option.{option_map_or}
use Rattle.std.specs.List.{count_by, range_with_len}
use Rattle.std.proofs.lemmas.Bool.{cases_Bool, cases_eq, false≢true, or_left, or_right, true≢false}
use Rattle.std.proofs.lemmas.List.{get_or-set_other}
use Rattle.std.proofs.lemmas.Option.{none-some, same_Some}
use Rattle.tp_model.specs.Geometry.{Geometry}
use Rattle.tp_model.proofs.Counting.{count_first, count_last, count_more}
use Rattle.tp_sharing.specs.Volumes.{DevicesAscend, OtherSlot, Unused, Volumes, slot_of}
use Rattle.tp_mapping.specs.List.{is_used_elsewhere}
use Rattle.tp_mapping.specs.Mapping.{NoneIsFree, free_places}
use Rattle.tp_mapping.specs.Slots.{is_used}
use Rattle.tp_mapping.proofs.Uses.{elsewhere_from_slot, slot_from_elsewhere, slot_from_used, used_from_slot}
use Rattle.tp_meta.specs.Metadata.{IsTold, marked}
use Rattle.tp_meta.specs.declared.metadata.Home.{Home}
use Rattle.tp_pool.specs.Writing.{blocks_taken, old_place, own_place, takes_block, told_taken}

-- ---- counts

one_at_most : (b : Bool) → cond b 1 0 ≤ 1
one_at_most true = omega arith
one_at_most false = omega arith

one_le : (b c : Bool) → (b ≡ true → c ≡ true) → cond b 1 0 ≤ cond c 1 0
one_le true true h = omega arith
one_le true false h = absurd (false≢true (h refl))
one_le false c h = omega arith

-- what passes one test passes another one
pub count_le : (p q : ℕ → Bool) (a n : ℕ) → ((k : ℕ) → a ≤ k → k < a + n → p k ≡ true → q k ≡ true) → count_by p (range_with_len a n) ≤ count_by q (range_with_len a n)
count_le p q a zero h = omega arith
count_le p q a (suc n) h =
    let e : n + 1 ≡ suc n = omega arith in
    let last = one_le (p (a + n)) (q (a + n)) (h (a + n) (omega arith) (omega arith)) in
    let rest = count_le p q a n (λ k low high. h k low (omega (arith, high))) in
    subst (λ m. count_by p (range_with_len a m) ≤ count_by q (range_with_len a m)) e (omega (arith, count_last p a n, count_last q a n, last, rest))

-- but for one number
pub count_le_but_one : (p q : ℕ → Bool) (x n : ℕ) → ((k : ℕ) → k ≢ x → p k ≡ true → q k ≡ true) → count_by p (range_with_len 0 n) ≤ count_by q (range_with_len 0 n) + 1
count_le_but_one p q x zero h = omega arith
count_le_but_one p q x (suc n) h =
    let e : n + 1 ≡ suc n = omega arith in
    subst (λ m. count_by p (range_with_len 0 m) ≤ count_by q (range_with_len 0 m) + 1) e
    (elim (cases_eq n x) [
      | inl here ↦
          let below = count_le p q 0 n (λ k low high. h k (λ same. absurd (omega (arith, high, same, here)))) in
          omega (arith, count_more p n, count_more q n, below, one_at_most (p n))
      | inr other ↦
          let last = one_le (p n) (q n) (h n other) in
          omega (arith, count_more p n, count_more q n, last, count_le_but_one p q x n h)
    ])

pub count_none : (p : ℕ → Bool) (n : ℕ) → ((k : ℕ) → k < n → p k ≡ false) → count_by p (range_with_len 0 n) ≡ 0
count_none p zero h = refl
count_none p (suc n) h =
    let e : n + 1 ≡ suc n = omega arith in
    let rest = count_none p n (λ k lt. h k (omega (arith, lt))) in
    let last : ◌≡◌ {A = ℕ} (cond (p n) 1 0) 0 = ap (λ b. cond b 1 0) (h n (omega arith)) in
    subst (λ m. count_by p (range_with_len 0 m) ≡ 0) e (omega (arith, count_more p n, rest, last))

-- where none passes, one of them does not
pub none_passes : (p : ℕ → Bool) (a n j : ℕ) → count_by p (range_with_len a n) ≡ 0 → j < n → p (a + j) ≡ false
none_passes p a zero j none lt = absurd (omega (arith, lt))
none_passes p a (suc n) j none lt = elim (cases_eq j n) [
  | inl here ↦ ap (λ k. p (a + k)) here ∙ not_one (p (a + n)) (omega (arith, all, none))
  | inr other ↦ none_passes p a n j (omega (arith, all, none)) (omega (arith, lt, other))
]
  where
    all : count_by p (range_with_len a (suc n)) ≡ count_by p (range_with_len a n) + cond (p (a + n)) 1 0
    all = let e : suc n ≡ n + 1 = omega arith in ap (λ m. count_by p (range_with_len a m)) e ∙ count_last p a n

    not_one : (b : Bool) → ◌≡◌ {A = ℕ} (cond b 1 0) 0 → b ≡ false
    not_one true h = absurd (omega (arith, h))
    not_one false h = refl

-- ---- data blocks that are free

not_true : (b : Bool) → not b ≡ true → b ≡ false
not_true true e = absurd (false≢true e)
not_true false e = refl

neither : (a b : Bool) → (a || b) ≡ false → (a ≡ false) × (b ≡ false)
neither true b e = absurd (true≢false e)
neither false b e = (refl, e)

none_of : (a b : Bool) → a ≡ false → b ≡ false → not (a || b) ≡ true
none_of true b e f = absurd (true≢false e)
none_of false true e f = absurd (true≢false f)
none_of false false e f = refl

either : (a b : Bool) → (a || b) ≡ true → (a ≡ true) ⊎ (b ≡ true)
either true b h = inl refl
either false b h = inr h

not_used : (place : ℕ) (ds : Volumes) → is_used place ds ≡ false → Unused place ds
not_used place ds e id block s = true≢false (sym (used_from_slot id block place ds s) ∙ e)

pub none_free : (g : Geometry) (now kept : Volumes) → NoneIsFree g now kept → free_places g now kept ≡ 0
none_free g now kept none = count_none (λ place. not (is_used place now || is_used place kept)) g.data_blocks (λ k lt.
    elim (cases_Bool (not (is_used k now || is_used k kept))) [
      | inl t ↦
          let w = neither (is_used k now) (is_used k kept) (not_true (is_used k now || is_used k kept) t) in
          absurd (none k lt (not_used k now w.0, not_used k kept w.1))
      | inr f ↦ f
    ])

-- ---- a virtual block that is given a new data block

module _ (id block : ℕ) (now after : Volumes) (place : ℕ) (here : slot_of id block after ≡ Some place)
    (others : (i b : ℕ) → (((i ≡ id) × (b ≡ block)) → ⊥) → slot_of i b after ≡ slot_of i b now) (ascend : DevicesAscend 0 after) (unused : Unused place now) where
  is_it : (i b : ℕ) → ((i ≡ id) × (b ≡ block)) ⊎ (((i ≡ id) × (b ≡ block)) → ⊥)
  is_it i b = elim (cases_eq i id) [
    | inr n ↦ inr (λ q. n q.0)
    | inl e ↦ elim (cases_eq b block) [ inl f ↦ inl (e, f) | inr n ↦ inr (λ q. n q.1) ]
  ]

  -- a slot of another data block was there before
  was_there : (i b p : ℕ) → p ≢ place → slot_of i b after ≡ Some p → slot_of i b now ≡ Some p
  was_there i b p other e = elim (is_it i b) [
    | inl q ↦ absurd (other (same_Some p place (sym e ∙ ((λ t. slot_of (q.0 t) (q.1 t) after) ∙ here))))
    | inr n ↦ sym (others i b n) ∙ e
  ]

  not_used_after : (p : ℕ) → p ≢ place → is_used p now ≡ false → is_used p after ≡ false
  not_used_after p other f = elim (cases_Bool (is_used p after)) [
    | inl t ↦
        let w = slot_from_used p after ascend t in
        absurd (true≢false (sym (used_from_slot w.0 w.1 p now (was_there w.0 w.1 p other w.2)) ∙ f))
    | inr g ↦ g
  ]

  -- one data block less is free at most
  pub free_after : (g : Geometry) (kept : Volumes) → free_places g now kept ≤ free_places g after kept + 1
  free_after g kept =
      count_le_but_one (λ p. not (is_used p now || is_used p kept)) (λ p. not (is_used p after || is_used p kept)) place g.data_blocks
      (λ p other t.
      let w = neither (is_used p now) (is_used p kept) (not_true (is_used p now || is_used p kept) t) in
      none_of (is_used p after) (is_used p kept) (not_used_after p other w.0) w.1)

  module _ (marks : List Bool) (other : ℕ) (apart : other ≢ block) where
    elsewhere_before : (p : ℕ) → slot_of id other now ≡ Some p → is_used_elsewhere id other p after ≡ true → is_used_elsewhere id other p now ≡ true
    elsewhere_before p e t =
        let w = slot_from_elsewhere id other p after ascend t in
        elsewhere_from_slot id other w.0 w.1 p now (was_there w.0 w.1 p (λ same. unused id other (e ∙ ap Some same)) w.2) w.3

    -- a data block that is marked now was so, or the block that lost it had it too
    marked_before : (p : ℕ) (o : Option ℕ) → slot_of id block now ≡ o → slice_index_or (marked o marks) p false ≡ true → (slice_index_or marks p false ≡ true) ⊎ (is_used_elsewhere id other p now ≡ true)
    marked_before p None e t = inl t
    marked_before p (Some q) e t = elim (cases_eq p q) [
      | inl same ↦ inr (elsewhere_from_slot id other id block p now (e ∙ ap Some (sym same)) (λ w. apart (sym w.1)))
      | inr n ↦ inl (sym (get_or-set_other marks q p true false n) ∙ t)
    ]

    taken_by : (o : Option ℕ) → slot_of id other now ≡ o
        → IsTrue (option_map_or (λ p. is_used_elsewhere id other p after || slice_index_or (marked (slot_of id block now) marks) p false) o true)
        → IsTrue (option_map_or (λ p. is_used_elsewhere id other p now || slice_index_or marks p false) o true)
    taken_by None e t = refl
    taken_by (Some p) e t = elim (either (is_used_elsewhere id other p after) (slice_index_or (marked (slot_of id block now) marks) p false) t) [
      | inl u ↦ or_left (is_used_elsewhere id other p now) (slice_index_or marks p false) (elsewhere_before p e u)
      | inr m ↦ elim (marked_before p (slot_of id block now) refl m) [
        | inl was ↦ or_right (is_used_elsewhere id other p now) (slice_index_or marks p false) was
        | inr u ↦ or_left (is_used_elsewhere id other p now) (slice_index_or marks p false) u
      ]
    ]

    -- no other block has to take one that had not
    pub taken_before : IsTrue (takes_block id after (marked (slot_of id block now) marks) other) → IsTrue (takes_block id now marks other)
    taken_before t =
        taken_by (slot_of id other now) refl
        (subst (λ o. IsTrue (option_map_or (λ p. is_used_elsewhere id other p after || slice_index_or (marked (slot_of id block now) marks) p false) o true)) (others id other (λ q. apart q.1)) t)

-- ---- what is told

module _ (id block : ℕ) (volumes : Volumes) (marks : List Bool) where
  -- Its data block may be written in place.
  pub record IsOwn (place : ℕ) : Type 0 where
    pub mine : slot_of id block volumes ≡ Some place
    pub alone : OtherSlot id block place volumes → ⊥
    pub cold : slice_index_or marks place false ≡ false

  pub own_from : (place : ℕ) → slot_of id block volumes ≡ Some place → takes_block id volumes marks block ≡ false → IsOwn place
  own_from place mine stays =
      let takes = sym (ap (λ o. option_map_or (λ p. is_used_elsewhere id block p volumes || slice_index_or marks p false) o true) mine) ∙ stays in
      let w = neither (is_used_elsewhere id block place volumes) (slice_index_or marks place false) takes in
      record {
        mine = mine;
        alone = λ o. true≢false (sym (elsewhere_from_slot id block o.0 o.1 place volumes o.2 o.3) ∙ w.0);
        cold = w.1;
      }

  pub old_is_slot : (home : Option Home) → IsTold id block volumes marks home → old_place home ≡ slot_of id block volumes
  old_is_slot None told = sym told
  old_is_slot (Some h) told = sym told.0

-- a block that may not be written in place takes one
told_by : (h : Home) (taken : Bool) → ◌≡◌ {A = Option ℕ} (if taken then None else Some h.place) None → taken ≡ true
told_by h true e = refl
told_by h false e = absurd (none-some h.place (sym e))

pub told_if_not_own : (home : Option Home) → own_place home ≡ None → told_taken home ≡ true
told_if_not_own None e = refl
told_if_not_own (Some h) e = told_by h (told_taken (Some h)) e

-- nor may one be that takes one
pub not_own_if_told : (home : Option Home) → told_taken home ≡ true → own_place home ≡ None
not_own_if_told None e = refl
not_own_if_told (Some h) e = ap (λ (t : Bool). if t then None else Some h.place) e

-- and one that may takes none
own_by : (h : Home) (place : ℕ) (taken : Bool) → (if taken then None else Some h.place) ≡ Some place → (taken ≡ false) × (Some h.place ≡ Some place)
own_by h place true e = absurd (none-some place e)
own_by h place false e = (refl, e)

pub told_if_own : (home : Option Home) (place : ℕ) → own_place home ≡ Some place → (told_taken home ≡ false) × (old_place home ≡ Some place)
told_if_own None place e = absurd (none-some place e)
told_if_own (Some h) place e = own_by h place (told_taken (Some h)) e

-- ---- the blocks of a range, one after another

-- the first one is taken, if it has to be
pub first_taken : (id : ℕ) (volumes : Volumes) (marks : List Bool) (first n : ℕ) → blocks_taken id volumes marks first (n + 1) ≡ cond (takes_block id volumes marks first) 1 0 + blocks_taken id volumes marks (first + 1) n
first_taken id volumes marks first n = count_first (takes_block id volumes marks) first n

-- those of its end are among them
pub last_taken : (id : ℕ) (volumes : Volumes) (marks : List Bool) (first n k : ℕ) → blocks_taken id volumes marks (first + k) n ≤ blocks_taken id volumes marks first (n + k)
last_taken id volumes marks first n zero =
    let a : first + zero ≡ first = omega arith in
    let b : n + zero ≡ n = omega arith in
    let here = ap (λ m. blocks_taken id volumes marks m n) a in
    let all = ap (blocks_taken id volumes marks first) b in
    omega (arith, here, all)
last_taken id volumes marks first n (suc k) =
    let a : first + 1 + k ≡ first + suc k = omega arith in
    let b : n + k + 1 ≡ n + suc k = omega arith in
    let rest = last_taken id volumes marks (first + 1) n k in
    let here = ap (λ m. blocks_taken id volumes marks m n) a in
    let all = ap (blocks_taken id volumes marks first) b in
    omega (arith, rest, here, all, first_taken id volumes marks first (n + k))

-- where all of the first ones are taken, they are as many
pub all_taken : (id : ℕ) (volumes : Volumes) (marks : List Bool) (first n k : ℕ) → ((j : ℕ) → j < k → takes_block id volumes marks (first + j) ≡ true)
    → blocks_taken id volumes marks first (n + k) ≡ k + blocks_taken id volumes marks (first + k) n
all_taken id volumes marks first n zero all =
    let a : first + zero ≡ first = omega arith in
    let b : n + zero ≡ n = omega arith in
    let here = ap (λ m. blocks_taken id volumes marks m n) a in
    let more = ap (blocks_taken id volumes marks first) b in
    omega (arith, here, more)
all_taken id volumes marks first n (suc k) all =
    let a : first + 1 + k ≡ first + suc k = omega arith in
    let b : n + k + 1 ≡ n + suc k = omega arith in
    let z : first + 0 ≡ first = omega arith in
    let rest = all_taken id volumes marks (first + 1) n k (λ j lt. let next : first + suc j ≡ first + 1 + j = omega arith in sym (ap (takes_block id volumes marks) next) ∙ all (suc j) (omega (arith, lt))) in
    let it : ◌≡◌ {A = ℕ} (cond (takes_block id volumes marks first) 1 0) 1 = ap (λ t. cond t 1 0) (sym (ap (takes_block id volumes marks) z) ∙ all 0 (omega arith)) in
    let here = ap (λ m. blocks_taken id volumes marks m n) a in
    let more = ap (blocks_taken id volumes marks first) b in
    omega (arith, rest, it, here, more, first_taken id volumes marks first (n + k))
