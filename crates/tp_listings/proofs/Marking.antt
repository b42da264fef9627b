-- The slots of a volume, marked piece by piece.
use Rattle.std.proofs.Common.{◌≡◌, ℕ, suc, zero, ◌+◌, ◌<◌, ◌≤◌, ◌&&◌, Bool, true, false, cond, inl, inr, List, [], ◌∷◌, ◌++◌, append-nil, length, drop, take, get_or, set, None, Some, refl, sym, ap, subst, ◌∙◌, arith}
use Rattle.std.specs.Prelude.{T, slice_get, slice_index}
use Rattle.std.specs.Ordering.{is_lt, nat_cmp}
use Rattle.std.specs.FinMap.{FinMap, entries, entries_sorted, find, get, get-entries, is_sorted}
use Rattle.std.specs.FinMap.Entries.{below_all}
use Rattle.std.specs.Cmp.{unsigned_tied}
use Rattle.std.proofs.lemmas.Bool.{cases_lt, ne_eqb}
use Rattle.std.proofs.lemmas.List.{at_drop_more, length-append, length-map, map_more, take-append-drop}
use Rattle.std.proofs.lemmas.Option.{none-some, same_Some, slice_get-map, slice_get_read}
use Rattle.std.specs.Option.{option_map}
use Rattle.tp_model.specs.Pool.{PlainPool, slot_at, volume_slots}
use Rattle.tp_model.specs.Calls.{piece_from, slots_from}
use Rattle.tp_model.specs.Slots.{BlockSlot, listed}
use Rattle.tp_model.proofs.Maps.{both_hold, found_first}
use Rattle.tp_model.proofs.Walking.{from_here, from_later, piece_onward}
use Rattle.tp_listings.specs.Owned.{AreBelow, IsMarked, marked, owned}

-- ---- slots from a block on

found_behind : (q : ℕ) (x : ℕ × ℕ) (xs : List (ℕ × ℕ)) → (q ≡ x.0 → ⊥) → find nat_cmp q (x ∷ xs) ≡ find nat_cmp q xs
found_behind q x xs n = ap (λ b. cond b (Some x.1) (find nat_cmp q xs)) (unsigned_tied q x.0 ∙ ne_eqb q x.0 n)

none_in : (low : ℕ) (xs : List (ℕ × ℕ)) → ((q : ℕ) → low ≤ q → find nat_cmp q xs ≡ None) → slots_from low xs ≡ []
none_in low [] h = refl
none_in low (x ∷ xs) h =
    elim (cases_lt x.0 low) [
      | inl l ↦ from_later low x xs l ∙ none_in low xs (λ q le. sym (found_behind q x xs (λ e. omega (arith, e, l, le))) ∙ h q le)
      | inr g ↦ absurd (none-some x.1 (sym (h x.0 g) ∙ found_first x xs))
    ]

none_from : (low : ℕ) (m : FinMap nat_cmp ℕ) → ((q : ℕ) → low ≤ q → get m q ≡ None) → slots_from low (entries m) ≡ []
none_from low m h = none_in low (entries m) (λ q le. sym (get-entries m q) ∙ h q le)

all_from_start : (xs : List (ℕ × ℕ)) → slots_from 0 xs ≡ xs
all_from_start [] = refl
all_from_start (x ∷ xs) = from_here 0 x xs (omega arith) ∙ ap (λ l. x ∷ l) (all_from_start xs)

from_twice : (low high : ℕ) (xs : List (ℕ × ℕ)) → low ≤ high → slots_from high (slots_from low xs) ≡ slots_from high xs
from_twice low high [] le = refl
from_twice low high (x ∷ xs) le =
    elim (cases_lt x.0 low) [
      | inl l ↦ ap (slots_from high) (from_later low x xs l) ∙ (from_twice low high xs le ∙ sym (from_later high x xs (omega (arith, l, le))))
      | inr g ↦ ap (slots_from high) (from_here low x xs g) ∙ elim (cases_lt x.0 high) [
        | inl l ↦ from_later high x (slots_from low xs) l ∙ (from_twice low high xs le ∙ sym (from_later high x xs l))
        | inr h ↦ from_here high x (slots_from low xs) h ∙ (ap (λ l. x ∷ l) (from_twice low high xs le) ∙ sym (from_here high x xs h))
      ]
    ]

less : (a b : ℕ) → T (is_lt (nat_cmp a b)) → a < b
less a b h = grind (arith, h)

-- behind the keys of which all are later nothing is left out
all_later : (k : ℕ) (xs : List (ℕ × ℕ)) → T (below_all nat_cmp k xs) → slots_from (k + 1) xs ≡ xs
all_later k [] h = refl
all_later k (x ∷ xs) h =
    let parts = both_hold (is_lt (nat_cmp k x.0)) (below_all nat_cmp k xs) h in
    let lt : k < x.0 = less k x.0 parts.0 in
    from_here (k + 1) x xs (omega (arith, lt)) ∙ ap (λ l. x ∷ l) (all_later k xs parts.1)

below_at : (k n : ℕ) (xs : List (ℕ × ℕ)) (y : ℕ × ℕ) → T (below_all nat_cmp k xs) → slice_get xs n ≡ Some y → k < y.0
below_at k n [] y h e = absurd (none-some y e)
below_at k zero (x ∷ xs) y h e =
    let parts = both_hold (is_lt (nat_cmp k x.0)) (below_all nat_cmp k xs) h in subst (λ (z : ℕ × ℕ). k < z.0) (same_Some x y e) (less k x.0 parts.0)
below_at k (suc n) (x ∷ xs) y h e = below_at k n xs y (both_hold (is_lt (nat_cmp k x.0)) (below_all nat_cmp k xs) h).1 e

-- those behind the one at a place
dropped : (n : ℕ) (xs : List (ℕ × ℕ)) (y : ℕ × ℕ) → T (is_sorted nat_cmp xs) → slice_get xs n ≡ Some y → slots_from (y.0 + 1) xs ≡ drop (n + 1) xs
dropped n [] y s e = absurd (none-some y e)
dropped zero (x ∷ xs) y s e =
    let parts = both_hold (below_all nat_cmp x.0 xs) (is_sorted nat_cmp xs) s in
    let same : x.0 ≡ y.0 = ap (λ (z : ℕ × ℕ). z.0) (same_Some x y e) in
    from_later (y.0 + 1) x xs (omega (arith, same)) ∙ (ap (λ k. slots_from (k + 1) xs) (sym same) ∙ all_later x.0 xs parts.0)
dropped (suc n) (x ∷ xs) y s e =
    let parts = both_hold (below_all nat_cmp x.0 xs) (is_sorted nat_cmp xs) s in
    let lt : x.0 < y.0 = below_at x.0 n xs y parts.0 e in
    let next : suc n + 1 ≡ suc (n + 1) = omega arith in
    from_later (y.0 + 1) x xs (omega (arith, lt)) ∙ (dropped n xs y parts.1 e ∙ sym (ap (λ m. drop m (x ∷ xs)) next))

all_taken : (n : ℕ) (xs : List (ℕ × ℕ)) → length (take n xs) < n → take n xs ≡ xs
all_taken zero xs h = absurd (omega (arith, h))
all_taken (suc n) [] h = refl
all_taken (suc n) (x ∷ xs) h = ap (λ l. x ∷ l) (all_taken n xs (omega (arith, h)))

taken_at : (n i : ℕ) (xs : List (ℕ × ℕ)) (x : ℕ × ℕ) → slice_get (take n xs) i ≡ Some x → slice_get xs i ≡ Some x
taken_at zero i xs x e = absurd (none-some x e)
taken_at (suc n) i [] x e = e
taken_at (suc n) zero (y ∷ ys) x e = e
taken_at (suc n) (suc i) (y ∷ ys) x e = taken_at n i ys x e

join : (a b : Bool) → T a → T b → T (a && b)
join true b p q = q
join false b p q = p

below_from : (k low : ℕ) (xs : List (ℕ × ℕ)) → T (below_all nat_cmp k xs) → T (below_all nat_cmp k (slots_from low xs))
below_from k low [] h = h
below_from k low (x ∷ xs) h =
    let parts = both_hold (is_lt (nat_cmp k x.0)) (below_all nat_cmp k xs) h in
    elim (cases_lt x.0 low) [
      | inl l ↦ subst (λ (l : List (ℕ × ℕ)). T (below_all nat_cmp k l)) (sym (from_later low x xs l)) (below_from k low xs parts.1)
      | inr g ↦ subst (λ (l : List (ℕ × ℕ)). T (below_all nat_cmp k l)) (sym (from_here low x xs g)) (join _ _ parts.0 (below_from k low xs parts.1))
    ]

sorted_from : (low : ℕ) (xs : List (ℕ × ℕ)) → T (is_sorted nat_cmp xs) → T (is_sorted nat_cmp (slots_from low xs))
sorted_from low [] h = h
sorted_from low (x ∷ xs) h =
    let parts = both_hold (below_all nat_cmp x.0 xs) (is_sorted nat_cmp xs) h in
    elim (cases_lt x.0 low) [
      | inl l ↦ subst (λ (l : List (ℕ × ℕ)). T (is_sorted nat_cmp l)) (sym (from_later low x xs l)) (sorted_from low xs parts.1)
      | inr g ↦
          subst (λ (l : List (ℕ × ℕ)). T (is_sorted nat_cmp l)) (sym (from_here low x xs g))
          (join _ _ (below_from x.0 low xs parts.0) (sorted_from low xs parts.1))
    ]

-- ---- one piece of a volume

length_listed : (xs : List BlockSlot) → length (listed xs) ≡ length xs
length_listed xs = length-map xs (λ (x : BlockSlot). (x.block, x.place))

-- a piece that is not full ends the volume
pub rest_short : (s : PlainPool) (id from : ℕ) (xs : List BlockSlot) → length xs < 252 → ((block : ℕ) → 16777216 ≤ block → slot_at s id block ≡ None) → listed xs ≡ piece_from from (entries (volume_slots s id))
    → slots_from from (entries (volume_slots s id)) ≡ listed xs ++ slots_from 16777216 (entries (volume_slots s id))
rest_short s id from xs few beyond is =
    let all = entries (volume_slots s id) in
    let long = length_listed xs in
    let same : length (listed xs) ≡ length (take 252 (slots_from from all)) = ap (λ (l : List (ℕ × ℕ)). length l) is in
    let none : slots_from 16777216 all ≡ [] = none_from 16777216 (volume_slots s id) beyond in
    sym (is ∙ all_taken 252 (slots_from from all) (omega (arith, few, long, same))) ∙ (sym (append-nil (listed xs)) ∙ ap (λ l. listed xs ++ l) (sym none))

listed_at : (xs : List BlockSlot) (i : ℕ) (x : BlockSlot) → i < length xs → x ≡ get_or xs i x → slice_get (listed xs) i ≡ Some (x.block, x.place)
listed_at xs i x lt e = slice_get-map (λ (x : BlockSlot). (x.block, x.place)) xs i ∙ ap (option_map (λ (x : BlockSlot). (x.block, x.place))) (slice_get_read xs (length xs) i x refl lt e)

-- behind a full one it goes on with the block behind its last
pub rest_full : (s : PlainPool) (id from next : ℕ) (xs : List BlockSlot) (x : BlockSlot) → 251 < length xs → x ≡ get_or xs 251 x → (from ≤ x.block → next ≡ x.block + 1) → listed xs ≡ piece_from from (entries (volume_slots s id))
    → slots_from from (entries (volume_slots s id)) ≡ listed xs ++ slots_from next (entries (volume_slots s id))
rest_full s id from next xs x lt e behind is =
    let all = entries (volume_slots s id) in
    let part = slots_from from all in
    let last : slice_get (take 252 part) 251 ≡ Some (x.block, x.place) = ap (λ (l : List (ℕ × ℕ)). slice_get l 251) (sym is) ∙ listed_at xs 251 x lt e in
    let low : from ≤ x.block = piece_onward s id from 251 x.block x.place last in
    let at : slice_get part 251 ≡ Some (x.block, x.place) = taken_at 252 251 part (x.block, x.place) last in
    let left : slots_from next all ≡ drop 252 part
    = ap (λ n. slots_from n all) (behind low) ∙ (sym (from_twice from (x.block + 1) all (omega (arith, low))) ∙ dropped 251 part (x.block, x.place) (sorted_from from all (entries_sorted (volume_slots s id))) at) in
    sym (take-append-drop 252 part) ∙ ((λ i. sym is i ++ sym left i))

-- ---- marking

marked-append : (mine : ℕ) (xs ys : List (ℕ × ℕ)) (owners : List ℕ) → marked mine (xs ++ ys) owners ≡ marked mine ys (marked mine xs owners)
marked-append mine [] ys owners = refl
marked-append mine (x ∷ xs) ys owners = marked-append mine xs ys (set owners x.1 (owned (slice_index owners x.1) mine))

below-append : (places : ℕ) (xs ys : List (ℕ × ℕ)) → AreBelow places xs → AreBelow places ys → AreBelow places (xs ++ ys)
below-append places [] ys a b = b
below-append places (x ∷ xs) ys a b = (a.0, below-append places xs ys a.1 b)

below_wider : (few places : ℕ) (xs : List (ℕ × ℕ)) → few ≤ places → AreBelow few xs → AreBelow places xs
below_wider few places [] le h = tt
below_wider few places (x ∷ xs) le h = (let lt = h.0 in omega (arith, lt, le), below_wider few places xs le h.1)

-- one slot more
pub marks_next : (mine i : ℕ) (slots : List BlockSlot) (x : BlockSlot) (owners next done : List ℕ) (place : ℕ) → i < length slots → x ≡ get_or slots i x → place ≡ x.place
    → next ≡ set owners place (owned (slice_index owners place) mine) → marked mine (listed (drop i slots)) owners ≡ done → marked mine (listed (drop (i + 1) slots)) next ≡ done
marks_next mine i slots x owners next done place lt e same is h =
    let whole : marked mine (listed (drop i slots)) owners ≡ marked mine (listed (x ∷ drop (i + 1) slots)) owners
    = at_drop_more (λ (l : List BlockSlot). marked mine (listed l) owners) slots i x lt ∙ ap (λ (y : BlockSlot). marked mine (listed (y ∷ drop (i + 1) slots)) owners) (sym e) in
    ap (marked mine (listed (drop (i + 1) slots))) (is ∙ ap (λ p. set owners p (owned (slice_index owners p) mine)) same) ∙ (sym whole ∙ h)

pub below_next : (i : ℕ) (slots : List BlockSlot) (x : BlockSlot) → i < length slots → x ≡ get_or slots i x → x.place < 1048576 → AreBelow 1048576 (listed (take i slots)) → AreBelow 1048576 (listed (take (i + 1) slots))
below_next i slots x lt e low h =
    let pair : BlockSlot → ℕ × ℕ = λ (y : BlockSlot). (y.block, y.place) in
    subst (λ (l : List (ℕ × ℕ)). AreBelow 1048576 l) (sym (map_more pair slots i x lt ∙ ap (λ (y : BlockSlot). listed (take i slots) ++ (y.block, y.place) ∷ []) (sym e)))
    (below-append 1048576 (listed (take i slots)) ((x.block, x.place) ∷ []) h (low, tt))

-- Of the slots of a volume those from a block on are left.
pub record IsLeft (slots : List (ℕ × ℕ)) (mine from mapped : ℕ) (old new : List ℕ) : Type 0 where
  pub marks : marked mine (slots_from from slots) new ≡ marked mine slots old
  pub count : mapped + length (slots_from from slots) ≡ length slots
  pub below : AreBelow (length old) (slots_from from slots) → AreBelow (length old) slots
  pub done : 16777216 ≤ from → slots_from from slots ≡ []

pub left_first : (slots : List (ℕ × ℕ)) (mine : ℕ) (owners : List ℕ) → IsLeft slots mine 0 0 owners owners
left_first slots mine owners = record {
  marks = ap (λ l. marked mine l owners) (all_from_start slots);
  count = let l : length (slots_from 0 slots) ≡ length slots = ap (λ (l : List (ℕ × ℕ)). length l) (all_from_start slots) in omega (arith, l);
  below = subst (λ (l : List (ℕ × ℕ)). AreBelow (length owners) l) (all_from_start slots);
  done = λ h. absurd (omega (arith, h));
}

pub left_next : (slots xs : List (ℕ × ℕ)) (mine from next mapped more : ℕ) (old now new : List ℕ) → 1048576 ≤ length old → slots_from from slots ≡ xs ++ slots_from next slots → (16777216 ≤ next → slots_from next slots ≡ [])
    → new ≡ marked mine xs now → AreBelow 1048576 xs → more ≡ mapped + length xs → IsLeft slots mine from mapped old now → IsLeft slots mine next more old new
left_next slots xs mine from next mapped more old now new wide rest ends is inside sum left = record {
  marks = ap (marked mine (slots_from next slots)) is ∙ (sym (marked-append mine xs (slots_from next slots) now) ∙ (ap (λ l. marked mine l now) (sym rest) ∙ left.marks));
  count = let c = left.count in
      let l : length (slots_from from slots) ≡ length xs + length (slots_from next slots) = ap (λ (l : List (ℕ × ℕ)). length l) rest ∙ length-append xs (slots_from next slots) in
      omega (arith, c, l, sum);
  below = λ h. left.below (subst (λ (l : List (ℕ × ℕ)). AreBelow (length old) l) (sym rest) (below-append (length old) xs (slots_from next slots) (below_wider 1048576 (length old) xs wide inside) h));
  done = ends;
}

pub left_none : (slots : List (ℕ × ℕ)) (mine from mapped : ℕ) (old new : List ℕ) → 16777216 ≤ from → IsLeft slots mine from mapped old new → IsMarked slots mine mapped old new
left_none slots mine from mapped old new end left =
    let none = left.done end in
    record {
      marks = sym (ap (λ l. marked mine l new) none) ∙ left.marks;
      count = let c = left.count in let l : length (slots_from from slots) ≡ 0 = ap (λ (l : List (ℕ × ℕ)). length l) none in omega (arith, c, l);
      below = left.below (subst (λ (l : List (ℕ × ℕ)). AreBelow (length old) l) (sym none) tt);
    }

-- a piece of them was walked
pub left_walked : (s : PlainPool) (id : ℕ) (slots one two : List BlockSlot) (mine from asked next mapped more : ℕ) (old now new : List ℕ) → 1048576 ≤ length old → one ≡ slots → two ≡ slots → asked ≡ from
    → ((block : ℕ) → 16777216 ≤ block → slot_at s id block ≡ None) → listed slots ≡ piece_from asked (entries (volume_slots s id))
    → ((s : PlainPool) (id : ℕ) → ((block : ℕ) → 16777216 ≤ block → slot_at s id block ≡ None) → listed two ≡ piece_from from (entries (volume_slots s id))
    → slots_from from (entries (volume_slots s id)) ≡ listed two ++ slots_from next (entries (volume_slots s id)))
    → new ≡ marked mine (listed one) now → AreBelow 1048576 (listed one) → more ≡ mapped + length slots → next ≤ 16777216
    → IsLeft (entries (volume_slots s id)) mine from mapped old now → IsLeft (entries (volume_slots s id)) mine next more old new
left_walked s id slots one two mine from asked next mapped more old now new wide a b c beyond is rest marks low sum most left =
    let all = entries (volume_slots s id) in
    let long = length_listed slots in
    left_next all (listed slots) mine from next mapped more old now new wide
    (subst (λ (l : List BlockSlot). slots_from from all ≡ listed l ++ slots_from next all) b (rest s id beyond (ap listed b ∙ (is ∙ ap (λ n. piece_from n all) c))))
    (λ end. none_from next (volume_slots s id) (λ block le. beyond block (omega (arith, le, end)))) (marks ∙ ap (λ (l : List BlockSlot). marked mine (listed l) now) a)
    (subst (λ (l : List BlockSlot). AreBelow 1048576 (listed l)) a low) (omega (arith, sum, long)) left
