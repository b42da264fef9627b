-- The slots of a device, read in pieces.
use Rattle.std.proofs.Common.{◌≡◌, ℕ, zero, suc, ◌+◌, ◌<◌, ◌≤◌, List, [], ◌∷◌, ◌++◌, Option, None, Some, drop, get_or, length, take, refl, sym, ap, subst, ◌∙◌, arith, inl, inr, Bool}
use Rattle.std.proofs.Math.ListN.{drop_of_length-le}
use Rattle.std.proofs.lemmas.Bool.{cases_lt}
use Rattle.std.proofs.lemmas.List.{get_or-take, length-take-le, take-append-drop, take_all}
use Rattle.std.proofs.lemmas.Option.{none-some}
use Rattle.std.specs.Prelude.{◌^◌}
use Rattle.tp_model.specs.Geometry.{Geometry}
use Rattle.tp_sharing.specs.Volumes.{BlockSlot, SlotsAscend, Volumes, device_of, place_in, place_or_none}
use Rattle.tp_sharing.proofs.Changes.{place_below}
use Rattle.tp_sharing.proofs.Slots.{place_here, place_later}
use Rattle.tp_mapping.specs.Mapping.{AreWithin, from_block, slots_of, slots_or_none}
use Rattle.tp_mapping.proofs.Filling.{from_no, from_yes}
use Rattle.tp_mapping.proofs.Within.{slots_ascend}
use Rattle.tp_meta.specs.Marking.{AreCutAt, AreOrdered, IsPiece}
use Rattle.tp_meta.specs.Metadata.{marked_all}

-- ---- the slots from a virtual block on

-- all of them, where they ascend from there
from_all : (q low : ℕ) (xs : List BlockSlot) → q ≤ low → SlotsAscend low xs → from_block q xs ≡ xs
from_all q low [] h a = refl
from_all q low (x ∷ xs) h a =
    from_yes q x xs (omega (arith, h, a.0)) ∙ ap (λ l. x ∷ l) (from_all q (suc x.block) xs (omega (arith, h, a.0)) a.1)

from_ascends : (q low : ℕ) (xs : List BlockSlot) → SlotsAscend low xs → SlotsAscend q (from_block q xs)
from_ascends q low [] a = tt
from_ascends q low (x ∷ xs) a =
    elim (cases_lt x.block q) [
      | inl l ↦ subst (SlotsAscend q) (sym (from_no q x xs l)) (from_ascends q (suc x.block) xs a.1)
      | inr g ↦
          subst (SlotsAscend q) (sym (from_yes q x xs g))
          (g, subst (SlotsAscend (suc x.block)) (sym (from_all q (suc x.block) xs (omega (arith, g)) a.1)) a.1)
    ]

from_later : (p q : ℕ) (xs : List BlockSlot) → p ≤ q → from_block q (from_block p xs) ≡ from_block q xs
from_later p q [] h = refl
from_later p q (x ∷ xs) h =
    elim (cases_lt x.block p) [
      | inl l ↦ ap (from_block q) (from_no p x xs l) ∙ (from_later p q xs h ∙ sym (from_no q x xs (omega (arith, l, h))))
      | inr g ↦
          ap (from_block q) (from_yes p x xs g)
          ∙ elim (cases_lt x.block q) [
            | inl l ↦ from_no q x (from_block p xs) l ∙ (from_later p q xs h ∙ sym (from_no q x xs l))
            | inr k ↦ from_yes q x (from_block p xs) k ∙ (ap (λ l. x ∷ l) (from_later p q xs h) ∙ sym (from_yes q x xs k))
          ]
    ]

at_least : (d : BlockSlot) (low n : ℕ) (xs : List BlockSlot) → SlotsAscend low xs → n < length xs → low ≤ (get_or xs n d).block
at_least d low n [] a h = absurd (omega (arith, h))
at_least d low zero (x ∷ xs) a h = a.0
at_least d low (suc n) (x ∷ xs) a h = omega (arith, a.0, at_least d (suc x.block) n xs a.1 (omega (arith, h)))

behind_slot : (d : BlockSlot) (low n : ℕ) (xs : List BlockSlot) → SlotsAscend low xs → n < length xs → from_block (suc (get_or xs n d).block) xs ≡ drop (suc n) xs
behind_slot d low n [] a h = absurd (omega (arith, h))
behind_slot d low zero (x ∷ xs) a h = from_no (suc x.block) x xs (omega arith) ∙ from_all (suc x.block) (suc x.block) xs (omega arith) a.1
behind_slot d low (suc n) (x ∷ xs) a h =
    let inside : n < length xs = omega (arith, h) in
    from_no (suc (get_or xs n d).block) x xs (omega (arith, at_least d (suc x.block) n xs a.1 inside)) ∙ behind_slot d (suc x.block) n xs a.1 inside

none_above : (top low : ℕ) (xs : List BlockSlot) → SlotsAscend low xs → ((block place : ℕ) → place_in block xs ≡ Some place → block < top) → from_block top xs ≡ []
none_above top low [] a below = refl
none_above top low (x ∷ xs) a below =
    from_no top x xs (below x.block x.place (place_here x.block x xs refl))
    ∙ none_above top (suc x.block) xs a.1
    (λ block place e. below block place
    (place_later block x xs (λ same. none-some place (sym (place_below (suc x.block) block xs a.1 (omega (arith, same))) ∙ e)) ∙ e))

pub from_first : (slots : List BlockSlot) → AreOrdered slots → from_block 0 slots ≡ slots
from_first slots o = from_all 0 0 slots (omega arith) o.ascend

-- none is left behind all virtual blocks
pub none_left : (from : ℕ) (slots : List BlockSlot) → AreOrdered slots → 2 ^ 24 ≤ from → from_block from slots ≡ []
none_left from slots o h =
    let none = none_above (2 ^ 24) 0 slots o.ascend o.below in
    sym (from_later (2 ^ 24) from slots h) ∙ ap (from_block from) none

-- ---- pieces

cut_by : (n from next : ℕ) (slots piece : List BlockSlot) → piece ≡ take n (from_block from slots) → from_block next slots ≡ drop n (from_block from slots)
    → AreCutAt from next slots piece
cut_by n from next slots piece is rest =
    sym (take-append-drop n (from_block from slots)) ∙ (ap (λ l. l ++ drop n (from_block from slots)) (sym is) ∙ ap (λ l. piece ++ l) (sym rest))

short : {A : Type 0} (n : ℕ) (xs : List A) → length (take n xs) < n → length xs ≤ n
short n xs h =
    elim (cases_lt (length xs) n) [
      | inl l ↦ omega (arith, l)
      | inr g ↦ absurd (omega (arith, h, length-take-le n xs g))
    ]

long : {A : Type 0} (n : ℕ) (xs : List A) → n ≤ length (take n xs) → n ≤ length xs
long n xs h =
    elim (cases_lt (length xs) n) [
      | inl l ↦ let same : length (take n xs) ≡ length xs = ap length (take_all n xs (omega (arith, l))) in omega (arith, h, same)
      | inr g ↦ g
    ]

-- the last piece has room
pub cut_last : (from : ℕ) (slots piece : List BlockSlot) → AreOrdered slots → IsPiece from slots piece → length piece < 252 → AreCutAt from (2 ^ 24) slots piece
cut_last from slots piece o is h =
    let few : length (from_block from slots) ≤ 252 = short 252 (from_block from slots) (omega (arith, h, ap length is)) in
    cut_by 252 from (2 ^ 24) slots piece is (none_left (2 ^ 24) slots o (omega arith) ∙ sym (drop_of_length-le (from_block from slots) few))

module _ (from : ℕ) (slots piece : List BlockSlot) (o : AreOrdered slots) (is : IsPiece from slots piece) (d : BlockSlot) (full : 252 ≤ length piece) where
  many : 251 < length (from_block from slots)
  many = omega (arith, long 252 (from_block from slots) (omega (arith, full, ap length is)))

  last_is : get_or piece 251 d ≡ get_or (from_block from slots) 251 d
  last_is = ap (λ l. get_or l 251 d) is ∙ get_or-take 252 (from_block from slots) 251 d (omega arith)

  -- the last slot of a full piece is not before the piece
  pub last_within : from ≤ (get_or piece 251 d).block
  last_within =
      subst (λ (x : BlockSlot). from ≤ x.block) (sym last_is) (at_least d from 251 (from_block from slots) (from_ascends from 0 slots o.ascend) many)

  pub cut_full : AreCutAt from ((get_or piece 251 d).block + 1) slots piece
  cut_full =
      let next = (get_or piece 251 d).block + 1 in
      let behind : suc (get_or (from_block from slots) 251 d).block ≡ next = omega (arith, ap (λ (x : BlockSlot). x.block) last_is) in
      cut_by 252 from next slots piece is
      (sym (from_later from next slots (omega (arith, last_within)))
      ∙ (ap (λ n. from_block n (from_block from slots)) (sym behind)
      ∙ behind_slot d from 251 (from_block from slots) (from_ascends from 0 slots o.ascend) many))

-- ---- the slots of a device

pub own_place : (block : ℕ) (o : Option (List BlockSlot)) → place_or_none block o ≡ place_in block (slots_or_none o)
own_place block None = refl
own_place block (Some xs) = refl

pub are_ordered : (g : Geometry) (counts : List ℕ) (now kept : Volumes) → AreWithin g counts now kept → (id : ℕ) → AreOrdered (slots_of id now)
are_ordered g counts now kept w id = record {
  ascend = ascend (device_of id now) refl;
  below = λ block place e. (w.volumes_now.slots id block place (own_place block (device_of id now) ∙ e)).0;
}
  where
    ascend : (o : Option (List BlockSlot)) → device_of id now ≡ o → SlotsAscend 0 (slots_or_none o)
    ascend None e = tt
    ascend (Some xs) e = slots_ascend 0 id now xs w.volumes_now.ascend e

-- ---- marks

pub marked_append : (xs ys : List BlockSlot) (marks : List Bool) → marked_all (xs ++ ys) marks ≡ marked_all ys (marked_all xs marks)
marked_append [] ys marks = refl
marked_append (x ∷ xs) ys marks = marked_append xs ys (marked_all (x ∷ []) marks)

-- a piece is marked, and the slots behind it are left
pub piece_marked : (from next : ℕ) (slots piece : List BlockSlot) (old new : List Bool) → AreCutAt from next slots piece → new ≡ marked_all piece old
    → marked_all (from_block from slots) old ≡ marked_all (from_block next slots) new
piece_marked from next slots piece old new cut is =
    ap (λ l. marked_all l old) cut ∙ (marked_append piece (from_block next slots) old ∙ ap (marked_all (from_block next slots)) (sym is))
