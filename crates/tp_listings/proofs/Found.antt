-- The first slot from a block on, as it is found in a piece.
use Rattle.std.proofs.Common.{◌≡◌, inl, inr, ℕ, zero, suc, ◌<◌, ◌≤◌, ◌==◌, Bool, true, false, cond, Option, None, Some, List, [], ◌∷◌, length, take, refl, sym, ap, subst, ◌∙◌, arith}
use Rattle.std.specs.Prelude.{IsSome, T, is_some, not, ◌&&◌, slice_get, nat_le, nat_lt, if◌then◌else◌}
use Rattle.std.specs.declared.cmp.Ordering.TheVariants.{Less, Equal, Greater}
use Rattle.std.specs.Option.{option_map}
use Rattle.std.specs.Ordering.{is_lt, nat_cmp}
use Rattle.std.specs.Cmp.{unsigned_tied}
use Rattle.std.specs.FinMap.{contains_key, entries, find, get, is_sorted}
use Rattle.std.specs.FinMap.Entries.{below_all}
use Rattle.std.proofs.lemmas.Bool.{and_from, and_parts, cases_eq, cases_lt, eq-eqb, le-leb, ne_eqb, true≢false}
use Rattle.std.proofs.lemmas.Bool.Decides.{nat_tests}
use Rattle.std.proofs.lemmas.Option.{none-some, same_Some}
use Rattle.tp_model.specs.Pool.{PlainPool, Volume, is_now, slot_at, volume_size, volume_slots}
use Rattle.tp_model.specs.Calls.{Listed, Walk, exists, piece_from, slots_from}
use Rattle.tp_model.specs.Clauses.{Meets, View}
use Rattle.tp_model.specs.Slots.{BlockSlot, listed}
use Rattle.tp_model.proofs.Maps.{both_hold}
use Rattle.tp_model.proofs.Walking.{piece_full, piece_onward, piece_ordered, piece_short}
use Rattle.tp_listings.specs.Seeking.{IsFirst, Reads, told}
use Rattle.tp_listings.proofs.Looked.{walked}

-- ---- lists in the order of their keys

found_at : (q : ℕ) (x : ℕ × ℕ) (xs : List (ℕ × ℕ)) → q ≡ x.0 → find nat_cmp q (x ∷ xs) ≡ Some x.1
found_at q x xs e = ap (λ b. cond b (Some x.1) (find nat_cmp q xs)) (unsigned_tied q x.0 ∙ eq-eqb q x.0 e)

found_behind : (q : ℕ) (x : ℕ × ℕ) (xs : List (ℕ × ℕ)) → (q ≡ x.0 → ⊥) → find nat_cmp q (x ∷ xs) ≡ find nat_cmp q xs
found_behind q x xs n = ap (λ b. cond b (Some x.1) (find nat_cmp q xs)) (unsigned_tied q x.0 ∙ ne_eqb q x.0 n)

less_from : (a b : ℕ) → T (is_lt (nat_cmp a b)) → a < b
less_from a b p =
    elim (cases_lt a b) [
      | inl l ↦ l
      | inr g ↦
          let no : nat_lt a b ≡ false = grind (arith, nat_tests) in
          absurd (never (a == b) (subst T (ap (λ t. is_lt (cond t Less (cond (a == b) Equal Greater))) no) p))
    ]
  where
    never : (b : Bool) → T (is_lt (cond b Equal Greater)) → ⊥
    never true p = p
    never false p = p

-- what is before the keys of a list is not found in it
none_before : (k q : ℕ) (xs : List (ℕ × ℕ)) → T (below_all nat_cmp k xs) → q < k → find nat_cmp q xs ≡ None
none_before k q [] h lt = refl
none_before k q (x ∷ xs) h lt =
    let parts = both_hold (is_lt (nat_cmp k x.0)) (below_all nat_cmp k xs) h in
    let more : k < x.0 = less_from k x.0 parts.0 in
    found_behind q x xs (λ e. omega (arith, e, more, lt)) ∙ none_before k q xs parts.1 lt

-- nor what is behind them
pub none_behind : (q : ℕ) (xs : List (ℕ × ℕ)) → ((i : ℕ) (x : ℕ × ℕ) → slice_get xs i ≡ Some x → x.0 < q) → find nat_cmp q xs ≡ None
none_behind q [] h = refl
none_behind q (x ∷ xs) h = let l = h 0 x refl in found_behind q x xs (λ e. omega (arith, e, l)) ∙ none_behind q xs (λ i y e. h (suc i) y e)

-- behind the keys that are before it the next one is found where it is the same
pub found_next : (i q : ℕ) (xs : List (ℕ × ℕ)) (x : ℕ × ℕ) → T (is_sorted nat_cmp xs) → ((j : ℕ) (y : ℕ × ℕ) → j < i → slice_get xs j ≡ Some y → y.0 < q) → slice_get xs i ≡ Some x → q ≤ x.0
    → find nat_cmp q xs ≡ (if x.0 == q then Some x.1 else None)
found_next i q [] x s before e h = absurd (none-some x e)
found_next zero q (y ∷ ys) x s before e h =
    let parts = both_hold (below_all nat_cmp y.0 ys) (is_sorted nat_cmp ys) s in
    let same : y ≡ x = same_Some y x e in
    let key : y.0 ≡ x.0 = ap (λ (z : ℕ × ℕ). z.0) same in
    elim (cases_eq x.0 q) [
      | inl is ↦
          found_at q y ys (sym is ∙ sym key)
          ∙ (ap (λ (z : ℕ × ℕ). Some z.1) same ∙ sym (ap (λ b. if b then Some x.1 else None) (eq-eqb x.0 q is)))
      | inr not ↦
          found_behind q y ys (λ f. not (sym (f ∙ key)))
          ∙ (none_before y.0 q ys parts.0 (omega (arith, h, key, not)) ∙ sym (ap (λ b. if b then Some x.1 else None) (ne_eqb x.0 q not)))
    ]
found_next (suc i) q (y ∷ ys) x s before e h =
    let parts = both_hold (below_all nat_cmp y.0 ys) (is_sorted nat_cmp ys) s in
    let l : y.0 < q = before 0 y (omega arith) refl in
    found_behind q y ys (λ f. omega (arith, f, l)) ∙ found_next i q ys x parts.1 (λ j z lt f. before (suc j) z (omega (arith, lt)) f) e h

-- the keys ascend
above : (k : ℕ) (xs : List (ℕ × ℕ)) (j : ℕ) (y : ℕ × ℕ) → T (below_all nat_cmp k xs) → slice_get xs j ≡ Some y → k < y.0
above k [] j y h e = absurd (none-some y e)
above k (x ∷ xs) zero y h e =
    let parts = both_hold (is_lt (nat_cmp k x.0)) (below_all nat_cmp k xs) h in subst (λ (z : ℕ × ℕ). k < z.0) (same_Some x y e) (less_from k x.0 parts.0)
above k (x ∷ xs) (suc j) y h e = let parts = both_hold (is_lt (nat_cmp k x.0)) (below_all nat_cmp k xs) h in above k xs j y parts.1 e

ascends : (xs : List (ℕ × ℕ)) (i j : ℕ) (x y : ℕ × ℕ) → T (is_sorted nat_cmp xs) → slice_get xs i ≡ Some x → slice_get xs j ≡ Some y → i ≤ j → x.0 ≤ y.0
ascends [] i j x y s e f le = absurd (none-some x e)
ascends (z ∷ zs) zero zero x y s e f le = let same = ap (λ (w : ℕ × ℕ). w.0) (sym (same_Some z x e) ∙ same_Some z y f) in omega (arith, same)
ascends (z ∷ zs) zero (suc j) x y s e f le =
    let parts = both_hold (below_all nat_cmp z.0 zs) (is_sorted nat_cmp zs) s in
    let l = above z.0 zs j y parts.0 f in
    let same = ap (λ (w : ℕ × ℕ). w.0) (same_Some z x e) in
    omega (arith, l, same)
ascends (z ∷ zs) (suc i) zero x y s e f le = absurd (omega (arith, le))
ascends (z ∷ zs) (suc i) (suc j) x y s e f le =
    let parts = both_hold (below_all nat_cmp z.0 zs) (is_sorted nat_cmp zs) s in ascends zs i j x y parts.1 e f (omega (arith, le))

-- there is one at each place
at_place : {A : Type 0} (xs : List A) (i : ℕ) → i < length xs → (x : A) × (slice_get xs i ≡ Some x)
at_place [] i lt = absurd (omega (arith, lt))
at_place (x ∷ xs) zero lt = (x, refl)
at_place (x ∷ xs) (suc i) lt = at_place xs i (omega (arith, lt))

pub no_place : {A : Type 0} (xs : List A) (i : ℕ) → slice_get xs i ≡ None → length xs ≤ i
no_place [] i e = omega arith
no_place (x ∷ xs) zero e = absurd (none-some x (sym e))
no_place (x ∷ xs) (suc i) e = let l = no_place xs i e in omega (arith, l)

pub inside : {A : Type 0} (xs : List A) (i : ℕ) (x : A) → slice_get xs i ≡ Some x → i < length xs
inside [] i x e = absurd (none-some x e)
inside (y ∷ ys) zero x e = omega arith
inside (y ∷ ys) (suc i) x e = let l = inside ys i x e in omega (arith, l)

taken_most : {A : Type 0} (n : ℕ) (xs : List A) → length (take n xs) ≤ n
taken_most zero xs = omega arith
taken_most (suc n) [] = omega arith
taken_most (suc n) (x ∷ xs) = let l = taken_most n xs in omega (arith, l)

-- ---- slots as they are listed

pub listed_length : (xs : List BlockSlot) → length (listed xs) ≡ length xs
listed_length [] = refl
listed_length (x ∷ xs) = let e = listed_length xs in omega (arith, e)

pub listed_at : (xs : List BlockSlot) (i : ℕ) (x : BlockSlot) → slice_get xs i ≡ Some x → slice_get (listed xs) i ≡ Some (x.block, x.place)
listed_at [] i x e = absurd (none-some x e)
listed_at (y ∷ ys) zero x e = ap (λ (z : BlockSlot). Some (z.block, z.place)) (same_Some y x e)
listed_at (y ∷ ys) (suc i) x e = listed_at ys i x e

pub from_listed : (xs : List BlockSlot) (i : ℕ) (y : ℕ × ℕ) → slice_get (listed xs) i ≡ Some y → (x : BlockSlot) × (slice_get xs i ≡ Some x) × (x.block ≡ y.0)
from_listed [] i y e = absurd (none-some y e)
from_listed (x ∷ xs) zero y e = (x, refl, ap (λ (z : ℕ × ℕ). z.0) (same_Some (x.block, x.place) y e))
from_listed (x ∷ xs) (suc i) y e = from_listed xs i y e

-- ---- the first slot from a block on

module _ (s : PlainPool) (id from : ℕ) (slots : List BlockSlot) (at : ℕ) (r : Reads s id from slots at) where
  sorted : T (is_sorted nat_cmp (listed slots))
  sorted = subst (λ (l : List (ℕ × ℕ)). T (is_sorted nat_cmp l)) (sym r.is) (subst T (sym (piece_ordered s id r.start)) tt)

  passed : (q : ℕ) → from ≤ q → (j : ℕ) (y : ℕ × ℕ) → j < at → slice_get (listed slots) j ≡ Some y → y.0 < q
  passed q le j y lt e =
      let x = from_listed slots j y e in
      let l = r.below j x.0 lt x.1 in
      let same = x.2 in
      omega (arith, l, same, le)

  short_tells : (q : ℕ) → from ≤ q → length slots < 252 → find nat_cmp q (listed slots) ≡ slot_at s id q
  short_tells q le lt =
      let begun = r.begun in
      let few : length (piece_from r.start (entries (volume_slots s id))) < 252 = subst (λ (n : ℕ). n < 252) (sym (listed_length slots) ∙ ap length r.is) lt in
      ap (find nat_cmp q) r.is ∙ piece_short s id r.start q few (omega (arith, begun, le))

  full_tells : (q i : ℕ) (x : ℕ × ℕ) → from ≤ q → slice_get (listed slots) i ≡ Some x → q ≤ x.0 → i ≤ 251 → 252 ≤ length slots → find nat_cmp q (listed slots) ≡ slot_at s id q
  full_tells q i x le e h last many =
      let begun = r.begun in
      let long = listed_length slots in
      let y = at_place (listed slots) 251 (omega (arith, many, long)) in
      let up = ascends (listed slots) i 251 x y.0 sorted e y.1 last in
      ap (find nat_cmp q) r.is
      ∙ piece_full s id r.start q y.0.0 y.0.1 (ap (λ (l : List (ℕ × ℕ)). slice_get l 251) (sym r.is) ∙ y.1) (omega (arith, begun, le)) (omega (arith, h, up))

  at_most : length slots ≤ 252
  at_most = let l = taken_most 252 (slots_from r.start (entries (volume_slots s id))) in let e = ap length r.is in let f = listed_length slots in omega (arith, l, e, f)

  tells_some : (x : BlockSlot) → slice_get slots at ≡ Some x → (q : ℕ) → from ≤ q → q ≤ x.block → slot_at s id q ≡ told (Some x) q
  tells_some x e q le h =
      let y : slice_get (listed slots) at ≡ Some (x.block, x.place) = listed_at slots at x e in
      let is = found_next at q (listed slots) (x.block, x.place) sorted (passed q le) y h in
      elim (cases_lt (length slots) 252) [
        | inl few ↦ sym (short_tells q le few) ∙ is
        | inr many ↦
            let l = inside slots at x e in
            let all = at_most in
            sym (full_tells q at (x.block, x.place) le y h (omega (arith, l, all)) (omega (arith, many))) ∙ is
      ]

  tells_none : length slots ≤ at → length slots < 252 → (q : ℕ) → from ≤ q → slot_at s id q ≡ None
  tells_none over few q le =
      sym (short_tells q le few)
      ∙ none_behind q (listed slots) (λ i y e.
      let l = inside (listed slots) i y e in
      let n = listed_length slots in
      passed q le i y (omega (arith, l, n, over)) e)

  by_found : (o : Option BlockSlot) → slice_get slots at ≡ o → ((x : BlockSlot) → o ≡ Some x → from ≤ x.block) → (length slots ≤ at → length slots < 252) → IsFirst s id from o
  by_found (Some x) e later end = record { later = later x refl; tells = λ q le h. tells_some x e q le h }
  by_found None e later end =
      let over = no_place slots at e in record { later = tt; tells = λ q le h. tells_none over (end over) q le }

  -- what stands at the place is the first slot
  pub first_is : ((x : BlockSlot) → slice_get slots at ≡ Some x → from ≤ x.block) → (length slots ≤ at → length slots < 252) → IsFirst s id from (slice_get slots at)
  first_is later end = by_found (slice_get slots at) refl later end

-- a piece that begins here is not passed as a whole where it is full
fresh_short : (s : PlainPool) (id from : ℕ) (slots : List BlockSlot) (past : ℕ) → listed slots ≡ piece_from from (entries (volume_slots s id))
    → ((i : ℕ) (x : BlockSlot) → i < past → slice_get slots i ≡ Some x → x.block < from) → length slots ≤ past → length slots < 252
fresh_short s id from slots past is below over =
    elim (cases_lt (length slots) 252) [
      | inl l ↦ l
      | inr many ↦
          let n = listed_length slots in
          let y = at_place (listed slots) 0 (omega (arith, many, n)) in
          let x = from_listed slots 0 y.0 y.1 in
          let l = below 0 x.0 (omega (arith, many, over)) x.1 in
          let same = x.2 in
          let g = piece_onward s id from 0 y.0.0 y.0.1 (ap (λ (l : List (ℕ × ℕ)). slice_get l 0) (sym is) ∙ y.1) in
          absurd (omega (arith, l, g, same))
    ]

-- what was read stays so, and more of it was passed
pub goes_on : (s : PlainPool) (id low from : ℕ) (slots : List BlockSlot) (at past : ℕ) → low ≤ from → Reads s id low slots at
    → ((i : ℕ) (x : BlockSlot) → at ≤ i → i < past → slice_get slots i ≡ Some x → x.block < from) → Reads s id from slots past
goes_on s id low from slots at past le r below =
    let begun = r.begun in
    record {
      works = r.works;
      there = r.there;
      start = r.start;
      begun = omega (arith, begun, le);
      is = r.is;
      below = λ i x lt e. elim (cases_lt i at) [
        | inl l ↦ let b = r.below i x l e in omega (arith, b, le)
        | inr g ↦ below i x g lt e
      ];
    }

size_there : (o : Option Volume) → is_some o ≡ true → is_some (option_map (λ (v : Volume). length v.sectors) o) ≡ true
size_there None h = h
size_there (Some v) h = refl

true_of : (b : Bool) → not b ≡ false → b ≡ true
true_of true h = refl
true_of false h = absurd (true≢false h)

is_there : (s : PlainPool) (id : ℕ) → not (exists s id) ≡ false → IsSome (volume_size s id)
is_there s id h = size_there (get s.volumes id) (and_parts (is_now id) (contains_key s.volumes id) (true_of (exists s id) h)).1

-- a piece that was read now
pub fresh : {D : Type 0} (view : View D) (old new : D) (s : PlainPool) (id from : ℕ) (xs : List BlockSlot) (past : ℕ) → view.shows old s → Meets view old new (Walk id from) (Listed (listed xs))
    → ((i : ℕ) (x : BlockSlot) → i < past → slice_get xs i ≡ Some x → x.block < from) → Reads s id from xs past
fresh view old new s id from xs past shown met below =
    let w = walked view old new s id from (listed xs) shown met in
    record { works = w.0; there = is_there s id w.1; start = from; begun = omega arith; is = w.2; below = below }

-- ---- what the first slot from a block on is, by the calls that find it

not_used_up : (n at : ℕ) (test : Bool) → test ≡ (nat_le 252 n && nat_le n at) → test ≡ false → n ≤ at → n < 252
not_used_up n at test is not over =
    elim (cases_lt n 252) [
      | inl l ↦ l
      | inr g ↦ absurd (true≢false (sym (and_from (nat_le 252 n) (nat_le n at) (le-leb 252 n g) (le-leb n at over)) ∙ (sym is ∙ not)))
    ]

pub after_skip : (s : PlainPool) (id low from : ℕ) (slots : List BlockSlot) (at past : ℕ) (test : Bool) (found : Option BlockSlot) (one two three : List BlockSlot)
    → low ≤ from → Reads s id low slots at → one ≡ slots → two ≡ slots → three ≡ slots
    → ((i : ℕ) (x : BlockSlot) → at ≤ i → i < past → slice_get one i ≡ Some x → x.block < from)
    → ((x : BlockSlot) → slice_get one past ≡ Some x → from ≤ x.block)
    → test ≡ (nat_le 252 (length two) && nat_le (length two) past) → test ≡ false → found ≡ slice_get three past
    → IsFirst s id from found × Reads s id from slots past
after_skip s id low from slots at past test found one two three le reads a b d below later is holds stands =
    let now = goes_on s id low from slots at past le reads (subst (λ (l : List BlockSlot). (i : ℕ) (x : BlockSlot) → at ≤ i → i < past → slice_get l i ≡ Some x → x.block < from) a below) in
    let first = first_is s id from slots past now
    (subst (λ (l : List BlockSlot). (x : BlockSlot) → slice_get l past ≡ Some x → from ≤ x.block) a later)
    (not_used_up (length slots) past test (is ∙ ap (λ (l : List BlockSlot). nat_le 252 (length l) && nat_le (length l) past) b) holds) in
    (subst (λ (o : Option BlockSlot). IsFirst s id from o) (sym (stands ∙ ap (λ (l : List BlockSlot). slice_get l past) d)) first, now)

pub after_walk : {D : Type 0} (view : View D) (old new : D) (s : PlainPool) (id from vb : ℕ) (slots : List BlockSlot) (past : ℕ) (found : Option BlockSlot) (one two : List BlockSlot)
    → view.shows old s → vb ≡ from → Meets view old new (Walk id vb) (Listed (listed slots)) → one ≡ slots → two ≡ slots
    → ((i : ℕ) (x : BlockSlot) → 0 ≤ i → i < past → slice_get one i ≡ Some x → x.block < from)
    → ((x : BlockSlot) → slice_get one past ≡ Some x → from ≤ x.block)
    → found ≡ slice_get two past
    → IsFirst s id from found × Reads s id from slots past
after_walk view old new s id from vb slots past found one two shown same met a b below later stands =
    let under : (i : ℕ) (x : BlockSlot) → i < past → slice_get slots i ≡ Some x → x.block < from =
    λ i x lt e. below i x (omega arith) lt (ap (λ (l : List BlockSlot). slice_get l i) a ∙ e) in
    let now = fresh view old new s id from slots past shown (subst (λ (k : ℕ). Meets view old new (Walk id k) (Listed (listed slots))) same met) under in
    let first = first_is s id from slots past now
    (subst (λ (l : List BlockSlot). (x : BlockSlot) → slice_get l past ≡ Some x → from ≤ x.block) a later)
    (fresh_short s id from slots past (walked view old new s id from (listed slots) shown (subst (λ (k : ℕ). Meets view old new (Walk id k) (Listed (listed slots))) same met)).2 under) in
    (subst (λ (o : Option BlockSlot). IsFirst s id from o) (sym (stands ∙ ap (λ (l : List BlockSlot). slice_get l past) b)) first, now)
