-- An element of a list, by recursion.
use Rattle.std.proofs.Common.{◌≡◌, ℕ, zero, suc, ◌<◌, ◌≤◌, List, [], ◌∷◌, ◌++◌, length, map, refl, sym, ap, subst, ◌∙◌, arith, ◌⊎◌, inl, inr, Some}
use Rattle.std.specs.Prelude.{Contains, slice_index_or}
use Rattle.std.proofs.lemmas.Bool.{cases_eq}
use Rattle.tp_layout.specs.declared.entry.Entry.{Entry}
use Rattle.tp_layout.specs.Entries.{Ascend, found}
use Rattle.tp_layout.proofs.Ordered.{ascend_ends, found_here, found_later}
use Rattle.tp_refs.specs.Store.{values}
use Rattle.tp_refs.specs.Balance.{occurrences}
use Rattle.tp_refs.proofs.Steps.{one_other, one_same}
use Rattle.tp_trees.specs.Tree.{joined}

abbrev pub Among : {X : Type 0} → X → List X → Type 0
Among x [] = ⊥
Among x (y ∷ ys) = (y ≡ x) ⊎ Among x ys

pub among_contains : {X : Type 0} (x : X) (xs : List X) → Among x xs → Contains xs x
among_contains x [] h = absurd h
among_contains x (y ∷ ys) (inl e) = (0, omega arith, e)
among_contains x (y ∷ ys) (inr h) = let r = among_contains x ys h in (suc r.0, omega (arith, r.1), r.2)

among_at : {X : Type 0} (x : X) (xs : List X) (k : ℕ) → k < length xs → slice_index_or xs k x ≡ x → Among x xs
among_at x [] k lt e = absurd (omega arith)
among_at x (y ∷ ys) zero lt e = inl e
among_at x (y ∷ ys) (suc k) lt e = inr (among_at x ys k (omega arith) e)

pub contains_among : {X : Type 0} (x : X) (xs : List X) → Contains xs x → Among x xs
contains_among x xs h = among_at x xs h.0 h.1 h.2

-- ---- in lists made of others

pub among_map : {X Y : Type 0} (f : X → Y) (x : X) (xs : List X) → Among x xs → Among (f x) (map f xs)
among_map f x [] h = absurd h
among_map f x (y ∷ ys) (inl e) = inl (ap f e)
among_map f x (y ∷ ys) (inr h) = inr (among_map f x ys h)

pub map_among : {X Y : Type 0} (f : X → Y) (y : Y) (xs : List X) → Among y (map f xs) → (x : X) × Among x xs × (y ≡ f x)
map_among f y [] h = absurd h
map_among f y (x ∷ xs) (inl e) = (x, inl refl, sym e)
map_among f y (x ∷ xs) (inr h) = let r = map_among f y xs h in (r.0, inr r.1, r.2)

among_left : {X : Type 0} (x : X) (xs ys : List X) → Among x xs → Among x (xs ++ ys)
among_left x [] ys h = absurd h
among_left x (z ∷ zs) ys (inl e) = inl e
among_left x (z ∷ zs) ys (inr h) = inr (among_left x zs ys h)

among_right : {X : Type 0} (x : X) (xs ys : List X) → Among x ys → Among x (xs ++ ys)
among_right x [] ys h = h
among_right x (z ∷ zs) ys h = inr (among_right x zs ys h)

among_either : {X : Type 0} (x : X) (xs ys : List X) → Among x (xs ++ ys) → Among x xs ⊎ Among x ys
among_either x [] ys h = inr h
among_either x (z ∷ zs) ys (inl e) = inl (inl e)
among_either x (z ∷ zs) ys (inr h) =
    elim (among_either x zs ys h) [
      | inl a ↦ inl (inr a)
      | inr b ↦ inr b
    ]

-- the entries under each of a list's
pub among_joined : (f : ℕ → List Entry) (c e : Entry) (es : List Entry) → Among c es → Among e (f c.value) → Among e (joined f es)
among_joined f c e [] h k = absurd h
among_joined f c e (x ∷ xs) (inl p) k = among_left e (f x.value) (joined f xs) (subst (λ (y : Entry). Among e (f y.value)) (sym p) k)
among_joined f c e (x ∷ xs) (inr h) k = among_right e (f x.value) (joined f xs) (among_joined f c e xs h k)

pub joined_among : (f : ℕ → List Entry) (e : Entry) (es : List Entry) → Among e (joined f es) → (c : Entry) × Among c es × Among e (f c.value)
joined_among f e [] h = absurd h
joined_among f e (x ∷ xs) h =
    elim (among_either e (f x.value) (joined f xs) h) [
      | inl a ↦ (x, inl refl, a)
      | inr b ↦ let r = joined_among f e xs b in (r.0, inr r.1, r.2)
    ]

-- ---- by values and keys

pub among_value : (c : Entry) (es : List Entry) → Among c es → 0 < occurrences c.value (values es)
among_value c [] h = absurd h
among_value c (e ∷ es) (inl p) = omega (arith, one_same e.value c.value (ap (λ (x : Entry). x.value) p))
among_value c (e ∷ es) (inr h) = omega (arith, among_value c es h)

pub value_among : (x : ℕ) (es : List Entry) → 0 < occurrences x (values es) → (c : Entry) × Among c es × (c.value ≡ x)
value_among x [] h = absurd (omega arith)
value_among x (e ∷ es) h =
    elim (cases_eq e.value x) [
      | inl p ↦ (e, inl refl, p)
      | inr d ↦ let r = value_among x es (omega (arith, one_other e.value x d)) in (r.0, inr r.1, r.2)
    ]

among_above : (low high : ℕ) (e : Entry) (es : List Entry) → Ascend low high es → Among e es → low ≤ e.key
among_above low high e [] up h = absurd h
among_above low high e (x ∷ xs) up (inl p) = let k : x.key ≡ e.key = ap (λ (y : Entry). y.key) p in omega (arith, up.0, k)
among_above low high e (x ∷ xs) up (inr h) = omega (arith, up.0, among_above (suc x.key) high e xs up.1 h)

pub among_below : (low high : ℕ) (e : Entry) (es : List Entry) → Ascend low high es → Among e es → e.key < high
among_below low high e [] up h = absurd h
among_below low high e (x ∷ xs) up (inl p) = let k : x.key ≡ e.key = ap (λ (y : Entry). y.key) p in omega (arith, ascend_ends (suc x.key) high xs up.1, k)
among_below low high e (x ∷ xs) up (inr h) = among_below (suc x.key) high e xs up.1 h

pub among_found : (low high : ℕ) (e : Entry) (es : List Entry) → Ascend low high es → Among e es → found e.key es ≡ Some e
among_found low high e [] up h = absurd h
among_found low high e (x ∷ xs) up (inl p) = found_here e.key x xs (ap (λ (y : Entry). y.key) p) ∙ ap (λ (y : Entry). Some y) p
among_found low high e (x ∷ xs) up (inr h) =
    found_later e.key x xs (λ d. absurd (omega (arith, d, among_above (suc x.key) high e xs up.1 h))) ∙ among_found (suc x.key) high e xs up.1 h

pub found_among : (q : ℕ) (e : Entry) (es : List Entry) → found q es ≡ Some e → Among e es
found_among q e [] h = absurd (cc)
found_among q e (x ∷ xs) h =
    elim (cases_eq x.key q) [
      | inl p ↦ let d : Some x ≡ Some e = sym (found_here q x xs p) ∙ h in let y : x ≡ e = cc in inl y
      | inr d ↦ inr (found_among q e xs (sym (found_later q x xs d) ∙ h))
    ]
