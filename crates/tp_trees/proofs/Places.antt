-- Entries by place: what a node names, and the entries of a node that was changed at a place.
use Rattle.std.proofs.Common.{◌≡◌, ℕ, zero, suc, ◌+◌, ◌<◌, ◌≤◌, List, [], ◌∷◌, ◌++◌, length, get_or, take, drop, set, refl, sym, ap, ◌∙◌, arith, inl, inr, Some, None, length-append}
use Rattle.std.specs.Prelude.{insert}
use Rattle.std.specs.List.{remove}
use Rattle.std.proofs.lemmas.Bool.{cases_eq}
use Rattle.std.proofs.lemmas.List.{length-take, length-drop}
use Rattle.tp_layout.specs.declared.entry.Entry.{Entry}
use Rattle.tp_layout.specs.Entries.{Ascend, found, first_key, rank_of, with_entry, without_key}
use Rattle.tp_layout.proofs.Ordered.{found_below, found_here, found_later, insert_at_rank, placed, with_entry_first, with_entry_later, without_key_here, without_key_later}
use Rattle.tp_refs.specs.Store.{values}
use Rattle.tp_refs.specs.Balance.{occurrences, one_if_same}
use Rattle.tp_refs.proofs.Names.{length-values}
use Rattle.tp_refs.proofs.Steps.{one_same, occurrences-append}
use Rattle.tp_trees.specs.Tree.{blank}
use Rattle.tp_trees.specs.Growth.{Grown, One, Two, branch, branches, others, roots, traded}
use Rattle.tp_trees.proofs.Trees.{around}
use Rattle.tp_trees.proofs.Frames.{occurrences_values}

-- ---- a change at a place

pub set_is : (es : List Entry) (i : ℕ) (x : Entry) → i < length es → set es i x ≡ take i es ++ x ∷ drop (suc i) es
set_is [] i x h = absurd (omega arith)
set_is (e ∷ es) zero x h = refl
set_is (e ∷ es) (suc i) x h = ap (λ (xs : List Entry). e ∷ xs) (set_is es i x (omega arith))

pub remove_is : (es : List Entry) (i : ℕ) → i < length es → remove es i ≡ take i es ++ drop (suc i) es
remove_is [] i h = absurd (omega arith)
remove_is (e ∷ es) zero h = refl
remove_is (e ∷ es) (suc i) h = ap (λ (xs : List Entry). e ∷ xs) (remove_is es i (omega arith))

pub insert_set : (es : List Entry) (i : ℕ) (x y : Entry) → i < length es → insert (set es i x) (suc i) y ≡ take i es ++ x ∷ y ∷ drop (suc i) es
insert_set [] i x y h = absurd (omega arith)
insert_set (e ∷ es) zero x y h = refl
insert_set (e ∷ es) (suc i) x y h = ap (λ (xs : List Entry). e ∷ xs) (insert_set es i x y (omega arith))

pub length_set : (es : List Entry) (i : ℕ) (x : Entry) → length (set es i x) ≡ length es
length_set [] i x = refl
length_set (e ∷ es) zero x = refl
length_set (e ∷ es) (suc i) x = ap suc (length_set es i x)

-- ---- how often a block is named

pub occurrences_insert : (c : ℕ) (es : List Entry) (i : ℕ) (x : Entry) → occurrences c (values (insert es i x)) ≡ occurrences c (values es) + one_if_same x.value c
occurrences_insert c [] zero x = omega arith
occurrences_insert c [] (suc i) x = omega arith
occurrences_insert c (e ∷ es) zero x = omega arith
occurrences_insert c (e ∷ es) (suc i) x = omega (arith, occurrences_insert c es i x)

pub occurrences_with_new : (c : ℕ) (x : Entry) (es : List Entry) → found x.key es ≡ None → occurrences c (values (with_entry x es)) ≡ occurrences c (values es) + one_if_same x.value c
occurrences_with_new c x es h = ap (λ fs. occurrences c (values fs)) (sym (insert_at_rank x es h)) ∙ occurrences_insert c es (rank_of x.key es) x

-- another value at its key
pub occurrences_with_other : (c : ℕ) (x v : Entry) (es : List Entry) → found x.key es ≡ Some v → (low high : ℕ) → Ascend low high es → occurrences c (values (with_entry x es)) + one_if_same v.value c ≡ occurrences c (values es) + one_if_same x.value c
occurrences_with_other c x v es h low high up =
    let p = placed low high x.key v es up h in
    let e : occurrences c (values (set es p.0 x)) ≡ occurrences c (values (with_entry x es)) = ap (λ fs. occurrences c (values fs)) (p.1.with x refl) in
    let f : one_if_same (get_or es p.0 blank).value c ≡ one_if_same v.value c = ap (λ (w : Entry). one_if_same w.value c) (p.1.entry blank) in
    omega (arith, occurrences_set c es p.0 x p.1.within)
  where
    occurrences_set : (c : ℕ) (es : List Entry) (i : ℕ) (x : Entry) → i < length es → occurrences c (values (set es i x)) + one_if_same (get_or es i blank).value c ≡ occurrences c (values es) + one_if_same x.value c
    occurrences_set c [] i x h = absurd (omega arith)
    occurrences_set c (e ∷ es) zero x h = omega arith
    occurrences_set c (e ∷ es) (suc i) x h = omega (arith, occurrences_set c es i x (omega arith))

-- one entry less
pub occurrences_without : (c q : ℕ) (v : Entry) (es : List Entry) → found q es ≡ Some v → occurrences c (values es) ≡ occurrences c (values (without_key q es)) + one_if_same v.value c
occurrences_without c q v [] h = absurd (cc)
occurrences_without c q v (e ∷ es) h =
    elim (cases_eq e.key q) [
      | inl p ↦
          let x : Some e ≡ Some v = sym (found_here q e es p) ∙ h in
          let y : e ≡ v = cc in
          let z : one_if_same e.value c ≡ one_if_same v.value c = ap (λ (w : Entry). one_if_same w.value c) y in
          omega (arith, ap (λ fs. occurrences c (values fs)) (without_key_here q e es p))
      | inr d ↦ omega (arith, occurrences_without c q v es (sym (found_later q e es d) ∙ h), ap (λ fs. occurrences c (values fs)) (without_key_later q e es d))
    ]

-- what is found is named
pub found_named : (q : ℕ) (v : Entry) (es : List Entry) → found q es ≡ Some v → 0 < occurrences v.value (values es)
found_named q v es h = omega (arith, occurrences_without v.value q v es h, one_same v.value v.value refl)

pub occurrences_others : (c : ℕ) (es : List Entry) (i : ℕ) → i < length es → occurrences c (values es) ≡ one_if_same (get_or es i blank).value c + occurrences c (others es i)
occurrences_others c es i h =
    let a : occurrences c (values es) ≡ occurrences c (values (take i es ++ (get_or es i blank ∷ drop (suc i) es))) = ap (λ fs. occurrences c (values fs)) (around es i h) in
    omega (arith, occurrences_values c (take i es) (get_or es i blank ∷ drop (suc i) es), occurrences-append c (values (take i es)) (values (drop (suc i) es)))

pub length_others : (es : List Entry) (i : ℕ) → i < length es → length (others es i) + 1 ≡ length es
length_others es i h =
    omega (arith, length-append (values (take i es)) (values (drop (suc i) es)), length-values (take i es), length-values (drop (suc i) es), length-take i es, length-drop (suc i) es)

pub occurrences_branches : (c low : ℕ) (g : Grown) → occurrences c (values (branches low g)) ≡ occurrences c (roots g)
occurrences_branches c low (One b) = refl
occurrences_branches c low (Two b m d) = refl

pub occurrences_traded : (c : ℕ) (es : List Entry) (i : ℕ) (g : Grown) → occurrences c (values (traded es i g)) ≡ occurrences c (roots g) + occurrences c (others es i)
occurrences_traded c es i g =
    omega (
      arith,
      occurrences_values c (take i es) (branches (get_or es i blank).key g ++ drop (suc i) es),
      occurrences_values c (branches (get_or es i blank).key g) (drop (suc i) es),
      occurrences_branches c (get_or es i blank).key g,
      occurrences-append c (values (take i es)) (values (drop (suc i) es)),
    )

pub length_traded : (es : List Entry) (i : ℕ) (g : Grown) → i < length es → length (traded es i g) + 1 ≡ length es + length (roots g)
length_traded es i g h =
    let m : length (branches (get_or es i blank).key g) ≡ length (roots g) = length_branches (get_or es i blank).key g in
    omega (arith, length-append (take i es) (branches (get_or es i blank).key g ++ drop (suc i) es), length-append (branches (get_or es i blank).key g) (drop (suc i) es), length-take i es, length-drop (suc i) es)
  where
    length_branches : (low : ℕ) (g : Grown) → length (branches low g) ≡ length (roots g)
    length_branches low (One b) = refl
    length_branches low (Two b m d) = refl

-- ---- how a node with another child comes about

-- the child became one: its entry is exchanged
pub traded_one : (es : List Entry) (i c : ℕ) → i < length es → set es i (branch (get_or es i blank).key c) ≡ traded es i (One c)
traded_one es i c h = set_is es i (branch (get_or es i blank).key c) h

-- the child became two: its entry is exchanged, and one is put in behind it
pub traded_two : (es : List Entry) (i c m d : ℕ) → i < length es → insert (set es i (branch (get_or es i blank).key c)) (suc i) (branch m d) ≡ traded es i (Two c m d)
traded_two es i c m d h = insert_set es i (branch (get_or es i blank).key c) (branch m d) h

-- the same by the key
pub traded_two_put : (es : List Entry) (i c m d low high : ℕ) → Ascend low high es → i < length es → (get_or es i blank).key < m → m < first_key (drop (suc i) es) high
    → with_entry (branch m d) (set es i (branch (get_or es i blank).key c)) ≡ traded es i (Two c m d)
traded_two_put [] i c m d low high up h l u = absurd (omega arith)
traded_two_put (e ∷ es) zero c m d low high up h l u =
    with_entry_later (branch m d) (branch e.key c) es l ∙ ap (λ (xs : List Entry). branch e.key c ∷ xs) (first es u) where
      first : (es : List Entry) → m < first_key es high → with_entry (branch m d) es ≡ branch m d ∷ es
      first [] u = refl
      first (f ∷ es) u = with_entry_first (branch m d) f es u
traded_two_put (e ∷ es) (suc i) c m d low high up h l u =
    with_entry_later (branch m d) e (set es i (branch (get_or es i blank).key c)) (omega (arith, l, above (suc e.key) high es i up.1 (omega arith)))
    ∙ ap (λ (xs : List Entry). e ∷ xs) (traded_two_put es i c m d (suc e.key) high up.1 (omega arith) l u)
  where
    above : (low high : ℕ) (es : List Entry) (i : ℕ) → Ascend low high es → i < length es → low ≤ (get_or es i blank).key
    above low high [] i up h = absurd (omega arith)
    above low high (e ∷ es) zero up h = up.0
    above low high (e ∷ es) (suc i) up h = omega (arith, up.0, above (suc e.key) high es i up.1 (omega arith))

-- ---- keys of changed entries

above_low : (low high : ℕ) (es : List Entry) (i : ℕ) → Ascend low high es → i < length es → low ≤ (get_or es i blank).key
above_low low high [] i up h = absurd (omega arith)
above_low low high (e ∷ es) zero up h = up.0
above_low low high (e ∷ es) (suc i) up h = omega (arith, up.0, above_low (suc e.key) high es i up.1 (omega arith))

-- another child at its key keeps the order
pub ascend_renamed : (low high : ℕ) (es : List Entry) (i c : ℕ) → Ascend low high es → i < length es → Ascend low high (set es i (branch (get_or es i blank).key c))
ascend_renamed low high [] i c up h = absurd (omega arith)
ascend_renamed low high (e ∷ es) zero c up h = up
ascend_renamed low high (e ∷ es) (suc i) c up h = (up.0, ascend_renamed (suc e.key) high es i c up.1 (omega arith))

-- a key between that of a place and the next one's is new
pub middle_new : (low high : ℕ) (es : List Entry) (i c m : ℕ) → Ascend low high es → i < length es → (get_or es i blank).key < m → m < first_key (drop (suc i) es) high
    → found m (set es i (branch (get_or es i blank).key c)) ≡ None
middle_new low high [] i c m up h l u = absurd (omega arith)
middle_new low high (e ∷ es) zero c m up h l u = found_later m (branch e.key c) es (λ q. absurd (omega (arith, q))) ∙ behind es u up.1 where
  behind : (es : List Entry) → m < first_key es high → Ascend (suc e.key) high es → found m es ≡ None
  behind [] u up = refl
  behind (f ∷ fs) u up = found_below f.key high m (f ∷ fs) (omega arith, up.1) u
middle_new low high (e ∷ es) (suc i) c m up h l u =
    found_later m e (set es i (branch (get_or es i blank).key c)) (λ q. absurd (omega (arith, q, l, above_low (suc e.key) high es i up.1 (omega arith))))
    ∙ middle_new (suc e.key) high es i c m up.1 (omega arith) l u

-- ---- two children side by side became one, or two others

pub renamed_one : (es : List Entry) (j c : ℕ) → suc j < length es → remove (set es j (branch (get_or es j blank).key c)) (suc j) ≡ take j es ++ (branches (get_or es j blank).key (One c) ++ drop (suc (suc j)) es)
renamed_one [] j c h = absurd (omega arith)
renamed_one (e ∷ []) j c h = absurd (omega arith)
renamed_one (e ∷ f ∷ es) zero c h = refl
renamed_one (e ∷ f ∷ es) (suc j) c h = ap (λ (xs : List Entry). e ∷ xs) (renamed_one (f ∷ es) j c (omega arith))

pub renamed_two : (es : List Entry) (j c m d : ℕ) → suc j < length es → set (set es j (branch (get_or es j blank).key c)) (suc j) (branch m d) ≡ take j es ++ (branches (get_or es j blank).key (Two c m d) ++ drop (suc (suc j)) es)
renamed_two [] j c m d h = absurd (omega arith)
renamed_two (e ∷ []) j c m d h = absurd (omega arith)
renamed_two (e ∷ f ∷ es) zero c m d h = refl
renamed_two (e ∷ f ∷ es) (suc j) c m d h = ap (λ (xs : List Entry). e ∷ xs) (renamed_two (f ∷ es) j c m d (omega arith))
