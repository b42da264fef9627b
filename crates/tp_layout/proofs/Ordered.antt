-- Entries in the order of their keys: parts, look-ups and changes.
use Rattle.std.proofs.Common.{◌≡◌, ◌≢◌, ℕ, zero, suc, ◌+◌, ◌<◌, ◌≤◌, List, [], ◌∷◌, ◌++◌, length, get_or, set, All, refl, sym, ap, subst, ◌∙◌, arith, inl, inr, Some, None}
use Rattle.std.specs.Prelude.{insert}
use Rattle.std.specs.List.{remove}
use Rattle.std.specs.List.Sorted.{IsStrictlyIncreasing}
use Rattle.std.proofs.lemmas.Bool.{cases_lt, cases_eq}
use Rattle.std.proofs.lemmas.Bool.Decides.{nat_tests}
use Rattle.std.proofs.lemmas.List.{get_or-map, length-map, length-set}
use Rattle.std.proofs.lemmas.List.Edits.{length-insert, length-remove}
use Rattle.std.proofs.lemmas.List.Kept.{AllPairs-from_increasing}
use Rattle.tp_layout.specs.declared.entry.Entry.{Entry}
use Rattle.tp_layout.specs.Node.{keys}
use Rattle.tp_layout.specs.Entries.{rank_of, found, with_entry, without_key, first_key, Ascend}

-- the steps of the words above, by the order of two keys
pub rank_of_yes : (q : ℕ) (e : Entry) (es : List Entry) → e.key ≤ q → rank_of q (e ∷ es) ≡ suc (rank_of q es)
rank_of_yes q e es h = grind (arith, nat_tests)

pub rank_of_no : (q : ℕ) (e : Entry) (es : List Entry) → q < e.key → rank_of q (e ∷ es) ≡ 0
rank_of_no q e es h = grind (arith, nat_tests)

pub found_here : (q : ℕ) (e : Entry) (es : List Entry) → e.key ≡ q → found q (e ∷ es) ≡ Some e
found_here q e es h = grind (arith, nat_tests)

pub found_later : (q : ℕ) (e : Entry) (es : List Entry) → e.key ≢ q → found q (e ∷ es) ≡ found q es
found_later q e es h = grind (arith, nat_tests)

pub with_entry_first : (x e : Entry) (es : List Entry) → x.key < e.key → with_entry x (e ∷ es) ≡ x ∷ (e ∷ es)
with_entry_first x e es h = grind (arith, nat_tests)

pub with_entry_here : (x e : Entry) (es : List Entry) → e.key ≡ x.key → with_entry x (e ∷ es) ≡ x ∷ es
with_entry_here x e es h = grind (arith, nat_tests)

pub with_entry_later : (x e : Entry) (es : List Entry) → e.key < x.key → with_entry x (e ∷ es) ≡ e ∷ with_entry x es
with_entry_later x e es h = grind (arith, nat_tests)

pub without_key_here : (q : ℕ) (e : Entry) (es : List Entry) → e.key ≡ q → without_key q (e ∷ es) ≡ es
without_key_here q e es h = grind (arith, nat_tests)

pub without_key_later : (q : ℕ) (e : Entry) (es : List Entry) → e.key ≢ q → without_key q (e ∷ es) ≡ e ∷ without_key q es
without_key_later q e es h = grind (arith, nat_tests)

-- ---- intervals

pub ascend_ends : (low high : ℕ) (es : List Entry) → Ascend low high es → low ≤ high
ascend_ends low high [] h = h
ascend_ends low high (e ∷ es) h = omega (arith, ascend_ends (suc e.key) high es h.1, h.0)

pub ascend_wider : (low lower high : ℕ) (es : List Entry) → lower ≤ low → Ascend low high es → Ascend lower high es
ascend_wider low lower high [] l h = omega arith
ascend_wider low lower high (e ∷ es) l h = (omega (arith, h.0), h.1)

pub ascend_higher : (low high higher : ℕ) (es : List Entry) → high ≤ higher → Ascend low high es → Ascend low higher es
ascend_higher low high higher [] l h = omega arith
ascend_higher low high higher (e ∷ es) l h = (h.0, ascend_higher (suc e.key) high higher es l h.1)

pub ascend-append : (low mid high : ℕ) (es fs : List Entry) → Ascend low mid es → Ascend mid high fs → Ascend low high (es ++ fs)
ascend-append low mid high [] fs h k = ascend_wider mid low high fs h k
ascend-append low mid high (e ∷ es) fs h k = (h.0, ascend-append (suc e.key) mid high es fs h.1 k)

-- the part in front lies below the first key of the part behind, and that from there on
pub ascend_left : (low high : ℕ) (es fs : List Entry) → Ascend low high (es ++ fs) → Ascend low (first_key fs high) es
ascend_left low high [] [] h = h
ascend_left low high [] (f ∷ fs) h = h.0
ascend_left low high (e ∷ es) fs h = (h.0, ascend_left (suc e.key) high es fs h.1)

pub ascend_right : (low high : ℕ) (es fs : List Entry) → Ascend low high (es ++ fs) → Ascend (first_key fs high) high fs
ascend_right low high [] [] h = omega arith
ascend_right low high [] (f ∷ fs) h = (omega arith, h.1)
ascend_right low high (e ∷ es) fs h = ascend_right (suc e.key) high es fs h.1

-- where the part behind has no entries, its first key is the end
pub ascend_right_wide : (low high : ℕ) (es fs : List Entry) → Ascend low high (es ++ fs) → Ascend low high fs
ascend_right_wide low high [] fs h = h
ascend_right_wide low high (e ∷ es) fs h = let r = ascend_right_wide (suc e.key) high es fs h.1 in ascend_wider (suc e.key) low high fs (omega (arith, h.0)) r

ascend_all : (low high : ℕ) (es : List Entry) → Ascend low high es → (k : ℕ) (d : Entry) → k < length es → (low ≤ (get_or es k d).key) × ((get_or es k d).key < high)
ascend_all low high [] h k d lt = absurd (omega arith)
ascend_all low high (e ∷ es) h zero d lt = (h.0, omega (arith, ascend_ends (suc e.key) high es h.1))
ascend_all low high (e ∷ es) h (suc k) d lt = let r = ascend_all (suc e.key) high es h.1 k d (omega arith) in (omega (arith, r.0, h.0), r.1)

-- all keys lie in the interval
pub within_from_ascend : (low high : ℕ) (es : List Entry) → Ascend low high es → All (λ e. (low ≤ e.key) × (e.key < high)) es
within_from_ascend low high es h k d lt = ascend_all low high es h k d lt

pub get_or-keys : (es : List Entry) (k : ℕ) (d : Entry) → k < length es → get_or (keys es) k 0 ≡ (get_or es k d).key
get_or-keys es k d lt = get_or-map (λ e. e.key) es k d 0 lt

-- the order of neighbours, at `suc k` in place of `k + 1`
from_steps : (xs : List ℕ) → ((k : ℕ) → suc k < length xs → get_or xs k 0 < get_or xs (suc k) 0) → IsStrictlyIncreasing xs
from_steps xs h k lt = let e : suc k ≡ k + 1 = omega arith in subst (λ n. get_or xs k 0 < get_or xs n 0) e (h k (omega arith))

steps : (xs : List ℕ) → IsStrictlyIncreasing xs → (k : ℕ) → suc k < length xs → get_or xs k 0 < get_or xs (suc k) 0
steps xs h k lt = let e : k + 1 ≡ suc k = omega arith in subst (λ n. get_or xs k 0 < get_or xs n 0) e (h k (omega arith))

steps_from_ascend : (low high : ℕ) (es : List Entry) → Ascend low high es → (k : ℕ) → suc k < length (keys es) → get_or (keys es) k 0 < get_or (keys es) (suc k) 0
steps_from_ascend low high [] h k lt = absurd (omega arith)
steps_from_ascend low high (e ∷ []) h k lt = absurd (omega arith)
steps_from_ascend low high (e ∷ f ∷ es) h zero lt = omega (arith, h.1.0)
steps_from_ascend low high (e ∷ f ∷ es) h (suc k) lt = steps_from_ascend (suc e.key) high (f ∷ es) h.1 k (omega arith)

-- the keys ascend as the rules of a node say it
pub increasing_from_ascend : (low high : ℕ) (es : List Entry) → Ascend low high es → IsStrictlyIncreasing (keys es)
increasing_from_ascend low high es h = from_steps (keys es) (steps_from_ascend low high es h)

increasing_tail : (e : Entry) (es : List Entry) → IsStrictlyIncreasing (keys (e ∷ es)) → IsStrictlyIncreasing (keys es)
increasing_tail e es up = from_steps (keys es) (λ k lt. steps (keys (e ∷ es)) up (suc k) (omega arith))

pub ascend_from_increasing : (low high : ℕ) (es : List Entry) → low ≤ high → IsStrictlyIncreasing (keys es) → All (λ e. (low ≤ e.key) × (e.key < high)) es → Ascend low high es
ascend_from_increasing low high [] le up all = le
ascend_from_increasing low high (e ∷ []) le up all = let here = all 0 e (omega arith) in (here.0, omega (arith, here.1))
ascend_from_increasing low high (e ∷ f ∷ es) le up all =
    let here = all 0 e (omega arith) in
    let rest : (k : ℕ) (d : Entry) → k < length (f ∷ es) → (suc e.key ≤ (get_or (f ∷ es) k d).key) × ((get_or (f ∷ es) k d).key < high) =
    λ k d lt. (omega (arith, apart k d lt), (all (suc k) d (omega arith)).1) in
    (here.0, ascend_from_increasing (suc e.key) high (f ∷ es) (omega (arith, here.1)) (increasing_tail e (f ∷ es) up) rest)
  where
    apart : (k : ℕ) (d : Entry) → k < length (f ∷ es) → e.key < (get_or (f ∷ es) k d).key
    apart k d lt =
        let pair = AllPairs-from_increasing (keys (e ∷ f ∷ es)) up 0 (suc k) 0 (omega arith) (omega (arith, length-map es (λ (x : Entry). x.key))) in
        omega (arith, pair, get_or-keys (f ∷ es) k d lt)

-- ---- look-ups

-- a key outside the ends
pub found_below : (low high q : ℕ) (es : List Entry) → Ascend low high es → q < low → found q es ≡ None
found_below low high q [] h l = refl
found_below low high q (e ∷ es) h l = found_later q e es (λ p. absurd (omega (arith, h.0))) ∙ found_below (suc e.key) high q es h.1 (omega (arith, h.0))

pub found_above : (low high q : ℕ) (es : List Entry) → Ascend low high es → high ≤ q → found q es ≡ None
found_above low high q [] h l = refl
found_above low high q (e ∷ es) h l = found_later q e es (λ p. absurd (omega (arith, ascend_ends (suc e.key) high es h.1))) ∙ found_above (suc e.key) high q es h.1 l

-- a look-up in two parts
pub found_right : (q : ℕ) (es fs : List Entry) → found q es ≡ None → found q (es ++ fs) ≡ found q fs
found_right q [] fs h = refl
found_right q (e ∷ es) fs h =
    elim (cases_eq e.key q) [
      | inl p ↦ let d : Some e ≡ None = sym (found_here q e es p) ∙ h in absurd (cc)
      | inr d ↦ found_later q e (es ++ fs) d ∙ found_right q es fs (sym (found_later q e es d) ∙ h)
    ]

pub found_left : (q : ℕ) (es fs : List Entry) → found q fs ≡ None → found q (es ++ fs) ≡ found q es
found_left q [] fs h = h
found_left q (e ∷ es) fs h =
    elim (cases_eq e.key q) [
      | inl p ↦ found_here q e (es ++ fs) p ∙ sym (found_here q e es p)
      | inr d ↦ found_later q e (es ++ fs) d ∙ (found_left q es fs h ∙ sym (found_later q e es d))
    ]

-- what is found has the key
pub found_key : (q : ℕ) (v : Entry) (es : List Entry) → found q es ≡ Some v → v.key ≡ q
found_key q v [] h = absurd (cc)
found_key q v (e ∷ es) h =
    elim (cases_eq e.key q) [
      | inl p ↦ let x : Some e ≡ Some v = sym (found_here q e es p) ∙ h in let y : e ≡ v = cc in ap (λ (a : Entry). a.key) (sym y) ∙ p
      | inr d ↦ found_key q v es (sym (found_later q e es d) ∙ h)
    ]

-- ---- places

pub rank_of_le : (q : ℕ) (es : List Entry) → rank_of q es ≤ length es
rank_of_le q [] = omega arith
rank_of_le q (e ∷ es) =
    elim (cases_lt q e.key) [
      | inl l ↦ omega (arith, rank_of_no q e es l)
      | inr g ↦ omega (arith, rank_of_yes q e es g, rank_of_le q es)
    ]

-- a place with all keys up to this one before it and none behind it
pub rank_of_from_bounds : (q r : ℕ) (es : List Entry) → r ≤ length es → ((i : ℕ) → i < r → get_or (keys es) i 0 ≤ q)
    → ((i : ℕ) → r ≤ i → i < length es → q < get_or (keys es) i 0) → rank_of q es ≡ r
rank_of_from_bounds q r [] le below above = omega arith
rank_of_from_bounds q zero (e ∷ es) le below above = rank_of_no q e es (above 0 (omega arith) (omega arith))
rank_of_from_bounds q (suc r) (e ∷ es) le below above =
    rank_of_yes q e es (below 0 (omega arith))
    ∙ ap suc (rank_of_from_bounds q r es (omega arith) (λ i lt. below (suc i) (omega arith)) (λ i h lt. above (suc i) (omega arith) (omega arith)))

rank_of_below : (low high q : ℕ) (es : List Entry) → Ascend low high es → q < low → rank_of q es ≡ 0
rank_of_below low high q [] h l = refl
rank_of_below low high q (e ∷ es) h l = rank_of_no q e es (omega (arith, h.0))

-- no entry stands at or before the key
pub found_none_first : (low high q : ℕ) (es : List Entry) → Ascend low high es → rank_of q es ≡ 0 → found q es ≡ None
found_none_first low high q [] h r = refl
found_none_first low high q (e ∷ es) h r =
    elim (cases_lt q e.key) [
      | inl l ↦ found_later q e es (λ p. absurd (omega arith)) ∙ found_below (suc e.key) high q es h.1 (omega arith)
      | inr g ↦ absurd (omega (arith, r, rank_of_yes q e es g))
    ]

-- the last entry with a key up to this one decides
pub found_at_rank : (low high q i : ℕ) (d : Entry) (es : List Entry) → Ascend low high es → rank_of q es ≡ suc i → (get_or es i d).key ≡ q → found q es ≡ Some (get_or es i d)
found_at_rank low high q i d [] h r k = absurd (omega arith)
found_at_rank low high q zero d (e ∷ es) h r k = found_here q e es k
found_at_rank low high q (suc i) d (e ∷ es) h r k =
    elim (cases_lt q e.key) [
      | inl l ↦ absurd (omega (arith, r, rank_of_no q e es l))
      | inr g ↦
          let rest : rank_of q es ≡ suc i = omega (arith, r, rank_of_yes q e es g) in
          elim (cases_eq e.key q) [
            | inl p ↦ absurd (omega (arith, rest, rank_of_below (suc e.key) high q es h.1 (omega (arith, p))))
            | inr n ↦ found_later q e es n ∙ found_at_rank (suc e.key) high q i d es h.1 rest k
          ]
    ]

pub found_none_at_rank : (low high q i : ℕ) (d : Entry) (es : List Entry) → Ascend low high es → rank_of q es ≡ suc i → (get_or es i d).key ≢ q → found q es ≡ None
found_none_at_rank low high q i d [] h r k = refl
found_none_at_rank low high q zero d (e ∷ es) h r k =
    elim (cases_lt q e.key) [
      | inl l ↦ absurd (omega (arith, r, rank_of_no q e es l))
      | inr g ↦ found_later q e es k ∙ found_none_first (suc e.key) high q es h.1 (omega (arith, r, rank_of_yes q e es g))
    ]
found_none_at_rank low high q (suc i) d (e ∷ es) h r k =
    elim (cases_lt q e.key) [
      | inl l ↦ absurd (omega (arith, r, rank_of_no q e es l))
      | inr g ↦
          let rest : rank_of q es ≡ suc i = omega (arith, r, rank_of_yes q e es g) in
          elim (cases_eq e.key q) [
            | inl p ↦ absurd (omega (arith, rest, rank_of_below (suc e.key) high q es h.1 (omega (arith, p))))
            | inr n ↦ found_later q e es n ∙ found_none_at_rank (suc e.key) high q i d es h.1 rest k
          ]
    ]

-- ---- one entry more, or another one at its key

-- a change in two parts
pub with_entry_right : (low mid high : ℕ) (x : Entry) (es fs : List Entry) → Ascend low mid es → mid ≤ x.key → with_entry x (es ++ fs) ≡ es ++ with_entry x fs
with_entry_right low mid high x [] fs h l = refl
with_entry_right low mid high x (e ∷ es) fs h l =
    with_entry_later x e (es ++ fs) (omega (arith, ascend_ends (suc e.key) mid es h.1))
    ∙ ap (λ (xs : List Entry). e ∷ xs) (with_entry_right (suc e.key) mid high x es fs h.1 l)

pub with_entry_left : (mid high : ℕ) (x : Entry) (es fs : List Entry) → Ascend mid high fs → x.key < mid → with_entry x (es ++ fs) ≡ with_entry x es ++ fs
with_entry_left mid high x [] [] h l = refl
with_entry_left mid high x [] (f ∷ fs) h l = with_entry_first x f fs (omega (arith, h.0))
with_entry_left mid high x (e ∷ es) fs h l =
    elim (cases_lt x.key e.key) [
      | inl a ↦ with_entry_first x e (es ++ fs) a ∙ ap (λ xs. xs ++ fs) (sym (with_entry_first x e es a))
      | inr b ↦ elim (cases_eq e.key x.key) [
        | inl p ↦ with_entry_here x e (es ++ fs) p ∙ ap (λ xs. xs ++ fs) (sym (with_entry_here x e es p))
        | inr d ↦
            let c : e.key < x.key = omega (arith, d) in
            with_entry_later x e (es ++ fs) c ∙ (ap (λ (xs : List Entry). e ∷ xs) (with_entry_left mid high x es fs h l) ∙ ap (λ xs. xs ++ fs) (sym (with_entry_later x e es c)))
      ]
    ]

pub ascend_with_entry : (low high : ℕ) (x : Entry) (es : List Entry) → Ascend low high es → low ≤ x.key → x.key < high → Ascend low high (with_entry x es)
ascend_with_entry low high x [] h a b = (a, b)
ascend_with_entry low high x (e ∷ es) h a b =
    elim (cases_lt x.key e.key) [
      | inl l ↦ subst (Ascend low high) (sym (with_entry_first x e es l)) (a, (l, h.1))
      | inr g ↦ elim (cases_eq e.key x.key) [
        | inl p ↦ subst (Ascend low high) (sym (with_entry_here x e es p)) (a, subst (λ n. Ascend (suc n) high es) p h.1)
        | inr d ↦
            let c : e.key < x.key = omega (arith, d) in
            subst (Ascend low high) (sym (with_entry_later x e es c)) (h.0, ascend_with_entry (suc e.key) high x es h.1 c b)
      ]
    ]

-- a new key goes in behind those up to it
pub insert_at_rank : (x : Entry) (es : List Entry) → found x.key es ≡ None → insert es (rank_of x.key es) x ≡ with_entry x es
insert_at_rank x [] n = refl
insert_at_rank x (e ∷ es) n =
    elim (cases_lt x.key e.key) [
      | inl l ↦ ap (λ i. insert (e ∷ es) i x) (rank_of_no x.key e es l) ∙ sym (with_entry_first x e es l)
      | inr g ↦ elim (cases_eq e.key x.key) [
        | inl p ↦ let d : Some e ≡ None = sym (found_here x.key e es p) ∙ n in absurd (cc)
        | inr d ↦
            let c : e.key < x.key = omega (arith, d) in
            ap (λ i. insert (e ∷ es) i x) (rank_of_yes x.key e es g)
            ∙ (ap (λ (xs : List Entry). e ∷ xs) (insert_at_rank x es (sym (found_later x.key e es d) ∙ n)) ∙ sym (with_entry_later x e es c))
      ]
    ]

-- afterwards each other key has what it had, and this one the new entry
pub found_with_other : (x : Entry) (k : ℕ) (es : List Entry) → k ≢ x.key → found k (with_entry x es) ≡ found k es
found_with_other x k [] d = found_later k x [] (λ e. d (sym e))
found_with_other x k (e ∷ es) d =
    elim (cases_lt x.key e.key) [
      | inl l ↦ ap (found k) (with_entry_first x e es l) ∙ found_later k x (e ∷ es) (λ p. d (sym p))
      | inr g ↦ elim (cases_eq e.key x.key) [
        | inl p ↦ ap (found k) (with_entry_here x e es p) ∙ (found_later k x es (λ r. d (sym r)) ∙ sym (found_later k e es (λ r. d (sym r ∙ p))))
        | inr n ↦
            let c : e.key < x.key = omega (arith, n) in
            ap (found k) (with_entry_later x e es c)
            ∙ elim (cases_eq e.key k) [
              | inl p ↦ found_here k e (with_entry x es) p ∙ sym (found_here k e es p)
              | inr m ↦ found_later k e (with_entry x es) m ∙ (found_with_other x k es d ∙ sym (found_later k e es m))
            ]
      ]
    ]

pub found_with_same : (x : Entry) (es : List Entry) → found x.key (with_entry x es) ≡ Some x
found_with_same x [] = found_here x.key x [] refl
found_with_same x (e ∷ es) =
    elim (cases_lt x.key e.key) [
      | inl l ↦ ap (found x.key) (with_entry_first x e es l) ∙ found_here x.key x (e ∷ es) refl
      | inr g ↦ elim (cases_eq e.key x.key) [
        | inl p ↦ ap (found x.key) (with_entry_here x e es p) ∙ found_here x.key x es refl
        | inr n ↦
            let c : e.key < x.key = omega (arith, n) in
            ap (found x.key) (with_entry_later x e es c) ∙ (found_later x.key e (with_entry x es) n ∙ found_with_same x es)
      ]
    ]

-- ---- one entry less

pub without_key_left : (q : ℕ) (v : Entry) (es fs : List Entry) → found q es ≡ Some v → without_key q (es ++ fs) ≡ without_key q es ++ fs
without_key_left q v [] fs h = absurd (cc)
without_key_left q v (e ∷ es) fs h =
    elim (cases_eq e.key q) [
      | inl p ↦ without_key_here q e (es ++ fs) p ∙ ap (λ xs. xs ++ fs) (sym (without_key_here q e es p))
      | inr d ↦
          without_key_later q e (es ++ fs) d
          ∙ (ap (λ (xs : List Entry). e ∷ xs) (without_key_left q v es fs (sym (found_later q e es d) ∙ h)) ∙ ap (λ xs. xs ++ fs) (sym (without_key_later q e es d)))
    ]

pub without_key_right : (q : ℕ) (es fs : List Entry) → found q es ≡ None → without_key q (es ++ fs) ≡ es ++ without_key q fs
without_key_right q [] fs h = refl
without_key_right q (e ∷ es) fs h =
    elim (cases_eq e.key q) [
      | inl p ↦ let d : Some e ≡ None = sym (found_here q e es p) ∙ h in absurd (cc)
      | inr d ↦ without_key_later q e (es ++ fs) d ∙ ap (λ (xs : List Entry). e ∷ xs) (without_key_right q es fs (sym (found_later q e es d) ∙ h))
    ]

pub ascend_without_key : (low high q : ℕ) (es : List Entry) → Ascend low high es → Ascend low high (without_key q es)
ascend_without_key low high q [] h = h
ascend_without_key low high q (e ∷ es) h =
    elim (cases_eq e.key q) [
      | inl p ↦ subst (Ascend low high) (sym (without_key_here q e es p)) (ascend_wider (suc e.key) low high es (omega (arith, h.0)) h.1)
      | inr d ↦ subst (Ascend low high) (sym (without_key_later q e es d)) (h.0, ascend_without_key (suc e.key) high q es h.1)
    ]

pub found_without_same : (low high q : ℕ) (es : List Entry) → Ascend low high es → found q (without_key q es) ≡ None
found_without_same low high q [] h = refl
found_without_same low high q (e ∷ es) h =
    elim (cases_eq e.key q) [
      | inl p ↦ ap (found q) (without_key_here q e es p) ∙ found_below (suc e.key) high q es h.1 (omega (arith, p))
      | inr d ↦ ap (found q) (without_key_later q e es d) ∙ (found_later q e (without_key q es) d ∙ found_without_same (suc e.key) high q es h.1)
    ]

pub found_without_other : (q k : ℕ) (es : List Entry) → k ≢ q → found k (without_key q es) ≡ found k es
found_without_other q k [] d = refl
found_without_other q k (e ∷ es) d =
    elim (cases_eq e.key q) [
      | inl p ↦ ap (found k) (without_key_here q e es p) ∙ sym (found_later k e es (λ r. d (sym r ∙ p)))
      | inr n ↦ ap (found k) (without_key_later q e es n) ∙ elim (cases_eq e.key k) [
        | inl p ↦ found_here k e (without_key q es) p ∙ sym (found_here k e es p)
        | inr m ↦ found_later k e (without_key q es) m ∙ (found_without_other q k es d ∙ sym (found_later k e es m))
      ]
    ]

-- ---- a key that is there

-- its place, and the entries with another one in its place or without it
pub record Placed (q : ℕ) (v : Entry) (es : List Entry) (i : ℕ) : Type 0 where
  pub at : rank_of q es ≡ suc i
  pub within : i < length es
  pub entry : (d : Entry) → get_or es i d ≡ v
  pub without : remove es i ≡ without_key q es
  pub with : (w : Entry) → w.key ≡ q → set es i w ≡ with_entry w es

pub placed : (low high q : ℕ) (v : Entry) (es : List Entry) → Ascend low high es → found q es ≡ Some v → (i : ℕ) × Placed q v es i
placed low high q v [] h f = absurd (cc)
placed low high q v (e ∷ es) h f =
    elim (cases_eq e.key q) [
      | inl p ↦
          let z : rank_of q es ≡ 0 = rank_of_below (suc e.key) high q es h.1 (omega (arith, p)) in
          let x : Some e ≡ Some v = sym (found_here q e es p) ∙ f in
          let y : e ≡ v = cc in (
            0,
            record {
              at = rank_of_yes q e es (omega (arith, p)) ∙ ap suc z;
              within = omega arith;
              entry = λ d. y;
              without = sym (without_key_here q e es p);
              with = λ w k. sym (with_entry_here w e es (p ∙ sym k));
            },
          )
      | inr d ↦
          let r = placed (suc e.key) high q v es h.1 (sym (found_later q e es d) ∙ f) in
          let l : e.key < q = present_above (suc e.key) high q v es h.1 (sym (found_later q e es d) ∙ f) in (
            suc r.0,
            record {
              at = rank_of_yes q e es (omega (arith, l)) ∙ ap suc r.1.at;
              within = omega (arith, r.1.within);
              entry = r.1.entry;
              without = ap (λ (xs : List Entry). e ∷ xs) r.1.without ∙ sym (without_key_later q e es d);
              with = λ w k. ap (λ (xs : List Entry). e ∷ xs) (r.1.with w k) ∙ sym (with_entry_later w e es (omega (arith, l, k)));
            },
          )
    ]
  where
    present_above : (low high q : ℕ) (v : Entry) (es : List Entry) → Ascend low high es → found q es ≡ Some v → low ≤ q
    present_above low high q v es h f =
        elim (cases_lt q low) [
          | inl l ↦ let n : None ≡ Some v = sym (found_below low high q es h l) ∙ f in absurd (cc)
          | inr g ↦ g
        ]

-- ---- changes by place

-- another entry between its neighbours keeps the order
pub ascend_set : (low high i : ℕ) (x d : Entry) (es : List Entry) → Ascend low high es → i < length es → low ≤ x.key → x.key < high
    → ((j : ℕ) → i ≡ suc j → (get_or es j d).key < x.key) → (suc i < length es → x.key < (get_or es (suc i) d).key) → Ascend low high (set es i x)
ascend_set low high i x d [] h lt a b before behind = absurd (omega arith)
ascend_set low high zero x d (e ∷ []) h lt a b before behind = (a, b)
ascend_set low high zero x d (e ∷ f ∷ es) h lt a b before behind = (a, (behind (omega arith), h.1.1))
ascend_set low high (suc i) x d (e ∷ es) h lt a b before behind =
    (h.0, ascend_set (suc e.key) high i x d es h.1 (omega arith) (above i (omega arith) (before i refl)) b (λ j is. inner j (before i refl) is) (λ more. behind (omega arith)))
  where
    above : (j : ℕ) → j < suc (length es) → (get_or (e ∷ es) j d).key < x.key → suc e.key ≤ x.key
    above zero there h' = h'
    above (suc j) there h' = omega (arith, h', (ascend_all (suc e.key) high es h.1 j d (omega arith)).0)

    inner : (j : ℕ) → (get_or (e ∷ es) i d).key < x.key → i ≡ suc j → (get_or es j d).key < x.key
    inner j h' is = subst (λ n. (get_or (e ∷ es) n d).key < x.key) is h'

pub ascend_remove : (low high i : ℕ) (es : List Entry) → Ascend low high es → Ascend low high (remove es i)
ascend_remove low high zero [] h = h
ascend_remove low high (suc i) [] h = h
ascend_remove low high zero (e ∷ es) h = ascend_wider (suc e.key) low high es (omega (arith, h.0)) h.1
ascend_remove low high (suc i) (e ∷ es) h = (h.0, ascend_remove (suc e.key) high i es h.1)

-- a key from that of a place on, below that of the next place
pub rank_of_between : (low high q i : ℕ) (d : Entry) (es : List Entry) → Ascend low high es → i < length es → (get_or es i d).key ≤ q
    → (suc i < length es → q < (get_or es (suc i) d).key) → rank_of q es ≡ suc i
rank_of_between low high q i d [] h lt here next = absurd (omega arith)
rank_of_between low high q zero d (e ∷ []) h lt here next = rank_of_yes q e [] here
rank_of_between low high q zero d (e ∷ f ∷ es) h lt here next = rank_of_yes q e (f ∷ es) here ∙ ap suc (rank_of_no q f es (next (omega arith)))
rank_of_between low high q (suc i) d (e ∷ es) h lt here next =
    rank_of_yes q e es (omega (arith, here, (ascend_all (suc e.key) high es h.1 i d (omega arith)).0))
    ∙ ap suc (rank_of_between (suc e.key) high q i d es h.1 (omega arith) here (λ more. next (omega arith)))

-- keys are in order far apart too
pub keys_in_order : (es : List Entry) (i j : ℕ) → IsStrictlyIncreasing (keys es) → i ≤ j → j < length es → get_or (keys es) i 0 ≤ get_or (keys es) j 0
keys_in_order es i j up le lt =
    elim (cases_lt i j) [
      | inl l ↦ omega (arith, AllPairs-from_increasing (keys es) up i j 0 l (omega (arith, length-map es (λ (x : Entry). x.key))))
      | inr g ↦ let e : i ≡ j = omega arith in subst (λ (n : ℕ). get_or (keys es) i 0 ≤ get_or (keys es) n 0) e (omega arith)
    ]

-- ---- numbers of entries

pub length-with_new : (x : Entry) (es : List Entry) → found x.key es ≡ None → length (with_entry x es) ≡ length es + 1
length-with_new x es n = ap length (sym (insert_at_rank x es n)) ∙ length-insert es (rank_of x.key es) x (rank_of_le x.key es)

pub length-without_key : (low high q : ℕ) (v : Entry) (es : List Entry) → Ascend low high es → found q es ≡ Some v → length (without_key q es) + 1 ≡ length es
length-without_key low high q v es h f =
    let p = placed low high q v es h f in
    ap (λ (xs : List Entry). length xs + 1) (sym p.1.without) ∙ length-remove es p.0 p.1.within

pub length-with_known : (low high : ℕ) (x v : Entry) (es : List Entry) → Ascend low high es → found x.key es ≡ Some v → length (with_entry x es) ≡ length es
length-with_known low high x v es h f =
    let p = placed low high x.key v es h f in
    ap length (sym (p.1.with x refl)) ∙ length-set es p.0 x
