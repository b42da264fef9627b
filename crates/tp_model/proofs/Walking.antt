-- What a call of a walk lists of a volume, and what two volumes with one label have.
use Rattle.std.proofs.Common.{◌≡◌, ℕ, zero, suc, ◌+◌, ◌*◌, ◌/◌, ◌<◌, ◌≤◌, ◌==◌, Bool, true, false, cond, inl, inr, List, [], ◌∷◌, length, take, Option, Some, None, refl, sym, ap, subst, ◌∙◌, arith}
use Rattle.std.specs.Prelude.{IsSome, T, is_some, slice_get, ◌-◌, ◌&&◌, nat_lt}
use Rattle.std.specs.declared.cmp.Ordering.TheVariants.{Less, Equal, Greater}
use Rattle.std.specs.Ordering.{is_eq, is_lt, nat_cmp}
use Rattle.std.specs.Cmp.{unsigned_tied}
use Rattle.std.specs.FinMap.{entries, entries_sorted, find, get-entries, is_sorted}
use Rattle.std.specs.FinMap.Entries.{below_all}
use Rattle.std.proofs.lemmas.Bool.{cases_eq, cases_lt, eq-eqb, ne_eqb}
use Rattle.std.proofs.lemmas.Bool.Decides.{nat_tests}
use Rattle.std.proofs.Math.Nat.{div-mul-le_self, lt-div-mul-add}
use Rattle.std.proofs.lemmas.Option.{none-some, same_Some}
use Rattle.tp_model.specs.Sectors.{Sector}
use Rattle.tp_model.specs.Pool.{IsLawful, PlainPool, slot_at, volume_sector, volume_slots}
use Rattle.tp_model.specs.Calls.{piece_from, slots_from}
use Rattle.tp_model.proofs.Maps.{both_hold}

-- ---- lists in the order of their keys

found_at : (q : ℕ) (x : ℕ × ℕ) (xs : List (ℕ × ℕ)) → q ≡ x.0 → find nat_cmp q (x ∷ xs) ≡ Some x.1
found_at q x xs e = ap (λ b. cond b (Some x.1) (find nat_cmp q xs)) (unsigned_tied q x.0 ∙ eq-eqb q x.0 e)

found_behind : (q : ℕ) (x : ℕ × ℕ) (xs : List (ℕ × ℕ)) → (q ≡ x.0 → ⊥) → find nat_cmp q (x ∷ xs) ≡ find nat_cmp q xs
found_behind q x xs n = ap (λ b. cond b (Some x.1) (find nat_cmp q xs)) (unsigned_tied q x.0 ∙ ne_eqb q x.0 n)

pub from_here : (q : ℕ) (x : ℕ × ℕ) (xs : List (ℕ × ℕ)) → q ≤ x.0 → slots_from q (x ∷ xs) ≡ x ∷ slots_from q xs
from_here q x xs h = grind (arith, nat_tests)

pub from_later : (q : ℕ) (x : ℕ × ℕ) (xs : List (ℕ × ℕ)) → x.0 < q → slots_from q (x ∷ xs) ≡ slots_from q xs
from_later q x xs h = grind (arith, nat_tests)

-- from a block on the same is found
found_from : (low q : ℕ) (xs : List (ℕ × ℕ)) → low ≤ q → find nat_cmp q (slots_from low xs) ≡ find nat_cmp q xs
found_from low q [] h = refl
found_from low q (x ∷ xs) h =
    elim (cases_lt x.0 low) [
      | inl l ↦
          ap (find nat_cmp q) (from_later low x xs l)
          ∙ (found_from low q xs h ∙ sym (found_behind q x xs (λ e. omega (arith, l, h, e))))
      | inr g ↦
          ap (find nat_cmp q) (from_here low x xs g)
          ∙ ap (λ (o : Option ℕ). cond (is_eq (nat_cmp q x.0)) (Some x.1) o) (found_from low q xs h)
    ]

-- each is from that block on
first_or_later : (low : ℕ) (y : ℕ × ℕ) (ys : List (ℕ × ℕ)) (x : ℕ × ℕ) (i : ℕ) → low ≤ y.0 → ((k : ℕ) → slice_get ys k ≡ Some x → low ≤ x.0) → slice_get (y ∷ ys) i ≡ Some x → low ≤ x.0
first_or_later low y ys x zero g later e = subst (λ (z : ℕ × ℕ). low ≤ z.0) (same_Some y x e) g
first_or_later low y ys x (suc i) g later e = later i e

each_from : (low i : ℕ) (xs : List (ℕ × ℕ)) (x : ℕ × ℕ) → slice_get (slots_from low xs) i ≡ Some x → low ≤ x.0
each_from low i [] x e = absurd (none-some x e)
each_from low i (y ∷ ys) x e =
    elim (cases_lt y.0 low) [
      | inl l ↦ each_from low i ys x (ap (λ (l : List (ℕ × ℕ)). slice_get l i) (sym (from_later low y ys l)) ∙ e)
      | inr g ↦
          first_or_later low y (slots_from low ys) x i g (λ k f. each_from low k ys x f)
          (ap (λ (l : List (ℕ × ℕ)). slice_get l i) (sym (from_here low y ys g)) ∙ e)
    ]

join : (a b : Bool) → T a → T b → T (a && b)
join true b p q = q
join false b p q = p

-- the order stays
below_from : (k low : ℕ) (xs : List (ℕ × ℕ)) → T (below_all nat_cmp k xs) → T (below_all nat_cmp k (slots_from low xs))
below_from k low [] h = h
below_from k low (x ∷ xs) h =
    let parts = both_hold _ (below_all nat_cmp k xs) h in
    elim (cases_lt x.0 low) [
      | inl l ↦ subst (λ (l : List (ℕ × ℕ)). T (below_all nat_cmp k l)) (sym (from_later low x xs l)) (below_from k low xs parts.1)
      | inr g ↦ subst (λ (l : List (ℕ × ℕ)). T (below_all nat_cmp k l)) (sym (from_here low x xs g)) (join _ _ parts.0 (below_from k low xs parts.1))
    ]

sorted_from : (low : ℕ) (xs : List (ℕ × ℕ)) → T (is_sorted nat_cmp xs) → T (is_sorted nat_cmp (slots_from low xs))
sorted_from low [] h = h
sorted_from low (x ∷ xs) h =
    let parts = both_hold (below_all nat_cmp x.0 xs) (is_sorted nat_cmp xs) h in
    elim (cases_lt x.0 low) [
      | inl l ↦ subst (λ (l : List (ℕ × ℕ)). T (is_sorted nat_cmp l)) (sym (from_later low x xs l)) (sorted_from low xs parts.1)
      | inr g ↦
          subst (λ (l : List (ℕ × ℕ)). T (is_sorted nat_cmp l)) (sym (from_here low x xs g))
          (join _ _ (below_from x.0 low xs parts.0) (sorted_from low xs parts.1))
    ]

less_from : (a b : ℕ) → T (is_lt (nat_cmp a b)) → a < b
less_from a b p =
    elim (cases_lt a b) [
      | inl l ↦ l
      | inr g ↦
          let no : nat_lt a b ≡ false = grind (arith, nat_tests) in
          absurd (never (a == b) (subst T (ap (λ t. is_lt (cond t Less (cond (a == b) Equal Greater))) no) p))
    ]
  where
    never : (b : Bool) → T (is_lt (cond b Equal Greater)) → ⊥
    never true p = p
    never false p = p

-- what is before the keys of a list is not found in it
none_before : (k q : ℕ) (xs : List (ℕ × ℕ)) → T (below_all nat_cmp k xs) → q < k → find nat_cmp q xs ≡ None
none_before k q [] h lt = refl
none_before k q (x ∷ xs) h lt =
    let parts = both_hold (is_lt (nat_cmp k x.0)) (below_all nat_cmp k xs) h in
    let more : k < x.0 = less_from k x.0 parts.0 in
    found_behind q x xs (λ e. omega (arith, e, more, lt)) ∙ none_before k q xs parts.1 lt

-- ---- a piece of such a list

-- up to the last one of a piece the same is found in it
found_until : (n q : ℕ) (xs : List (ℕ × ℕ)) (x : ℕ × ℕ) → T (is_sorted nat_cmp xs) → slice_get (take (suc n) xs) n ≡ Some x → q ≤ x.0
    → find nat_cmp q (take (suc n) xs) ≡ find nat_cmp q xs
found_until n q [] x s e h = refl
found_until zero q (y ∷ ys) x s e h =
    let parts = both_hold (below_all nat_cmp y.0 ys) (is_sorted nat_cmp ys) s in
    let same : x.0 ≡ y.0 = ap (λ (z : ℕ × ℕ). z.0) (sym (same_Some y x e)) in
    elim (cases_eq q y.0) [
      | inl is ↦ found_at q y [] is ∙ sym (found_at q y ys is)
      | inr not ↦
          found_behind q y [] not
          ∙ (sym (none_before y.0 q ys parts.0 (omega (arith, h, same, not))) ∙ sym (found_behind q y ys not))
    ]
found_until (suc n) q (y ∷ ys) x s e h =
    let parts = both_hold (below_all nat_cmp y.0 ys) (is_sorted nat_cmp ys) s in
    ap (λ (o : Option ℕ). cond (is_eq (nat_cmp q y.0)) (Some y.1) o) (found_until n q ys x parts.1 e h)

all_taken : (n : ℕ) (xs : List (ℕ × ℕ)) → length (take n xs) < n → take n xs ≡ xs
all_taken zero xs h = absurd (omega (arith, h))
all_taken (suc n) [] h = refl
all_taken (suc n) (x ∷ xs) h = ap (λ l. x ∷ l) (all_taken n xs (omega (arith, h)))

found_short : (n q : ℕ) (xs : List (ℕ × ℕ)) → length (take n xs) < n → find nat_cmp q (take n xs) ≡ find nat_cmp q xs
found_short n q xs h = ap (find nat_cmp q) (all_taken n xs h)

taken_at : (n i : ℕ) (xs : List (ℕ × ℕ)) (x : ℕ × ℕ) → slice_get (take n xs) i ≡ Some x → slice_get xs i ≡ Some x
taken_at zero i xs x e = absurd (none-some x e)
taken_at (suc n) i [] x e = e
taken_at (suc n) zero (y ∷ ys) x e = e
taken_at (suc n) (suc i) (y ∷ ys) x e = taken_at n i ys x e

below_taken : (k n : ℕ) (xs : List (ℕ × ℕ)) → T (below_all nat_cmp k xs) → T (below_all nat_cmp k (take n xs))
below_taken k zero xs h = tt
below_taken k (suc n) [] h = h
below_taken k (suc n) (x ∷ xs) h = let parts = both_hold (is_lt (nat_cmp k x.0)) (below_all nat_cmp k xs) h in join _ _ parts.0 (below_taken k n xs parts.1)

sorted_taken : (n : ℕ) (xs : List (ℕ × ℕ)) → T (is_sorted nat_cmp xs) → T (is_sorted nat_cmp (take n xs))
sorted_taken zero xs h = tt
sorted_taken (suc n) [] h = h
sorted_taken (suc n) (x ∷ xs) h =
    let parts = both_hold (below_all nat_cmp x.0 xs) (is_sorted nat_cmp xs) h in join _ _ (below_taken x.0 n xs parts.0) (sorted_taken n xs parts.1)

-- ---- of a volume

found_is : (p : PlainPool) (id from block : ℕ) → from ≤ block → find nat_cmp block (slots_from from (entries (volume_slots p id))) ≡ slot_at p id block
found_is p id from block h = found_from from block (entries (volume_slots p id)) h ∙ sym (get-entries (volume_slots p id) block)

pub piece_short : (p : PlainPool) (id from block : ℕ) → length (piece_from from (entries (volume_slots p id))) < 252 → from ≤ block
    → find nat_cmp block (piece_from from (entries (volume_slots p id))) ≡ slot_at p id block
piece_short p id from block short h = found_short 252 block (slots_from from (entries (volume_slots p id))) short ∙ found_is p id from block h

pub piece_full : (p : PlainPool) (id from block last label : ℕ) → slice_get (piece_from from (entries (volume_slots p id))) 251 ≡ Some (last, label) → from ≤ block → block ≤ last
    → find nat_cmp block (piece_from from (entries (volume_slots p id))) ≡ slot_at p id block
piece_full p id from block last label e h le =
    let all = entries (volume_slots p id) in
    found_until 251 block (slots_from from all) (last, label) (sorted_from from all (entries_sorted (volume_slots p id))) e le ∙ found_is p id from block h

pub piece_onward : (p : PlainPool) (id from i block label : ℕ) → slice_get (piece_from from (entries (volume_slots p id))) i ≡ Some (block, label) → from ≤ block
piece_onward p id from i block label e =
    let all = entries (volume_slots p id) in each_from from i all (block, label) (taken_at 252 i (slots_from from all) (block, label) e)

is_true : (b : Bool) → T b → b ≡ true
is_true true h = refl
is_true false h = absurd h

pub piece_ordered : (p : PlainPool) (id from : ℕ) → is_sorted nat_cmp (piece_from from (entries (volume_slots p id))) ≡ true
piece_ordered p id from =
    let all = entries (volume_slots p id) in
    is_true _ (sorted_taken 252 (slots_from from all) (sorted_from from all (entries_sorted (volume_slots p id))))

-- ---- whether a block has a slot, by the first that is listed from it on

abbrev pub begins : ℕ → List (ℕ × ℕ) → Bool
begins block [] = false
begins block (x ∷ xs) = x.0 == block

begins_so : (q n : ℕ) (xs : List (ℕ × ℕ)) → T (is_sorted nat_cmp xs) → ((x : ℕ × ℕ) → slice_get xs 0 ≡ Some x → q ≤ x.0) → begins q (take (suc n) xs) ≡ is_some (find nat_cmp q xs)
begins_so q n [] s from = refl
begins_so q n (y ∷ ys) s from =
    let parts = both_hold (below_all nat_cmp y.0 ys) (is_sorted nat_cmp ys) s in
    elim (cases_eq q y.0) [
      | inl is ↦ eq-eqb y.0 q (sym is) ∙ sym (ap (λ (o : Option ℕ). is_some o) (found_at q y ys is))
      | inr not ↦
          ne_eqb y.0 q (λ e. not (sym e))
          ∙ sym (ap (λ (o : Option ℕ). is_some o) (found_behind q y ys not ∙ none_before y.0 q ys parts.0 (omega (arith, not, from y refl))))
    ]

pub first_is : (p : PlainPool) (id from : ℕ) (xs : List (ℕ × ℕ)) → xs ≡ piece_from from (entries (volume_slots p id)) → begins from xs ≡ is_some (slot_at p id from)
first_is p id from xs is =
    let all = entries (volume_slots p id) in
    ap (begins from) is
    ∙ (begins_so from 251 (slots_from from all) (sorted_from from all (entries_sorted (volume_slots p id))) (λ x e. each_from from 0 all x e)
    ∙ ap (λ (o : Option ℕ). is_some o) (found_is p id from from (omega arith)))

-- ---- equal slots

-- where two volumes have no data block, or one and the same, they have equal sectors
pub equal_sectors : (p : PlainPool) (i j k : ℕ) (x y : Sector) → IsLawful p → 0 < p.geometry.block_sectors
    → slot_at p i (k / p.geometry.block_sectors) ≡ slot_at p j (k / p.geometry.block_sectors) → volume_sector p i k ≡ Some x → volume_sector p j k ≡ Some y → x ≡ y
equal_sectors p i j k x y law some same here there = by (slot_at p i (k / p.geometry.block_sectors)) refl
  where
    up : k < k / p.geometry.block_sectors * p.geometry.block_sectors + p.geometry.block_sectors
    up = lt-div-mul-add some

    down : k / p.geometry.block_sectors * p.geometry.block_sectors ≤ k
    down = div-mul-le_self k p.geometry.block_sectors

    by : (o : Option ℕ) → slot_at p i (k / p.geometry.block_sectors) ≡ o → x ≡ y
    by None e = law.unmapped i k x e here ∙ sym (law.unmapped j k y (sym same ∙ e) there)
    by (Some label) e =
        let b = k / p.geometry.block_sectors in
        let o = k - b * p.geometry.block_sectors in
        let whole : b * p.geometry.block_sectors + o ≡ k = omega (arith, down) in
        let equal = law.shared i b j b o (omega (arith, up, down)) (subst IsSome (sym e) refl) same in
        same_Some x y (sym here ∙ (ap (volume_sector p i) (sym whole) ∙ (equal ∙ (ap (volume_sector p j) whole ∙ there))))
