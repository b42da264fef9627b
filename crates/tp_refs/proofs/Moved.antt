-- Entries whose values are references: what is done by key or by place is done to both alike.
use Rattle.std.proofs.Common.{◌≡◌, ℕ, zero, suc, ◌+◌, ◌<◌, List, [], ◌∷◌, ◌++◌, map, take, drop, set, refl, sym, ap, ◌∙◌, arith, inl, inr, Some, None}
use Rattle.std.specs.Prelude.{insert}
use Rattle.std.specs.List.{remove}
use Rattle.std.proofs.lemmas.Bool.{cases_lt, cases_eq}
use Rattle.tp_layout.specs.declared.entry.Entry.{Entry}
use Rattle.tp_layout.specs.Entries.{Ascend, found, first_key, rank_of, with_entry, without_key}
use Rattle.tp_layout.proofs.Ordered.{found_here, found_later, rank_of_no, rank_of_yes, with_entry_first, with_entry_here, with_entry_later, without_key_here, without_key_later}
use Rattle.tp_refs.specs.Store.{moved_by}

pub moved_rank_of : (f q : ℕ) (es : List Entry) → rank_of q (map (moved_by f) es) ≡ rank_of q es
moved_rank_of f q [] = refl
moved_rank_of f q (e ∷ es) =
    elim (cases_lt q e.key) [
      | inl l ↦ rank_of_no q (moved_by f e) (map (moved_by f) es) l ∙ sym (rank_of_no q e es l)
      | inr g ↦ rank_of_yes q (moved_by f e) (map (moved_by f) es) g ∙ (ap suc (moved_rank_of f q es) ∙ sym (rank_of_yes q e es g))
    ]

pub moved_found : (f q : ℕ) (v : Entry) (es : List Entry) → found q es ≡ Some v → found q (map (moved_by f) es) ≡ Some (moved_by f v)
moved_found f q v [] h = absurd (cc)
moved_found f q v (e ∷ es) h =
    elim (cases_eq e.key q) [
      | inl p ↦ let x : Some e ≡ Some v = sym (found_here q e es p) ∙ h in let y : e ≡ v = cc in found_here q (moved_by f e) (map (moved_by f) es) p ∙ ap (λ (w : Entry). Some (moved_by f w)) y
      | inr d ↦ found_later q (moved_by f e) (map (moved_by f) es) d ∙ moved_found f q v es (sym (found_later q e es d) ∙ h)
    ]

pub moved_not_found : (f q : ℕ) (es : List Entry) → found q es ≡ None → found q (map (moved_by f) es) ≡ None
moved_not_found f q [] h = refl
moved_not_found f q (e ∷ es) h =
    elim (cases_eq e.key q) [
      | inl p ↦ let x : Some e ≡ None = sym (found_here q e es p) ∙ h in absurd (cc)
      | inr d ↦ found_later q (moved_by f e) (map (moved_by f) es) d ∙ moved_not_found f q es (sym (found_later q e es d) ∙ h)
    ]

-- and back
pub found_moved : (f q : ℕ) (w : Entry) (es : List Entry) → found q (map (moved_by f) es) ≡ Some w → (v : Entry) × ((found q es ≡ Some v) × (w ≡ moved_by f v))
found_moved f q w [] h = absurd (cc)
found_moved f q w (e ∷ es) h =
    elim (cases_eq e.key q) [
      | inl p ↦
          let x : Some (moved_by f e) ≡ Some w = sym (found_here q (moved_by f e) (map (moved_by f) es) p) ∙ h in
          let y : moved_by f e ≡ w = cc in (e, (found_here q e es p, sym y))
      | inr d ↦
          let r = found_moved f q w es (sym (found_later q (moved_by f e) (map (moved_by f) es) d) ∙ h) in (r.0, (found_later q e es d ∙ r.1.0, r.1.1))
    ]

pub not_found_moved : (f q : ℕ) (es : List Entry) → found q (map (moved_by f) es) ≡ None → found q es ≡ None
not_found_moved f q [] h = refl
not_found_moved f q (e ∷ es) h =
    elim (cases_eq e.key q) [
      | inl p ↦ let x : Some (moved_by f e) ≡ None = sym (found_here q (moved_by f e) (map (moved_by f) es) p) ∙ h in absurd (cc)
      | inr d ↦ found_later q e es d ∙ not_found_moved f q es (sym (found_later q (moved_by f e) (map (moved_by f) es) d) ∙ h)
    ]

pub moved_with_entry : (f : ℕ) (x : Entry) (es : List Entry) → map (moved_by f) (with_entry x es) ≡ with_entry (moved_by f x) (map (moved_by f) es)
moved_with_entry f x [] = refl
moved_with_entry f x (e ∷ es) =
    elim (cases_lt x.key e.key) [
      | inl l ↦ ap (map (moved_by f)) (with_entry_first x e es l) ∙ sym (with_entry_first (moved_by f x) (moved_by f e) (map (moved_by f) es) l)
      | inr g ↦ elim (cases_eq e.key x.key) [
        | inl p ↦ ap (map (moved_by f)) (with_entry_here x e es p) ∙ sym (with_entry_here (moved_by f x) (moved_by f e) (map (moved_by f) es) p)
        | inr d ↦
            let c : e.key < x.key = omega (arith, d) in
            ap (map (moved_by f)) (with_entry_later x e es c)
            ∙ (ap (λ (xs : List Entry). moved_by f e ∷ xs) (moved_with_entry f x es) ∙ sym (with_entry_later (moved_by f x) (moved_by f e) (map (moved_by f) es) c))
      ]
    ]

pub moved_without_key : (f q : ℕ) (es : List Entry) → map (moved_by f) (without_key q es) ≡ without_key q (map (moved_by f) es)
moved_without_key f q [] = refl
moved_without_key f q (e ∷ es) =
    elim (cases_eq e.key q) [
      | inl p ↦ ap (map (moved_by f)) (without_key_here q e es p) ∙ sym (without_key_here q (moved_by f e) (map (moved_by f) es) p)
      | inr d ↦
          ap (map (moved_by f)) (without_key_later q e es d)
          ∙ (ap (λ (xs : List Entry). moved_by f e ∷ xs) (moved_without_key f q es) ∙ sym (without_key_later q (moved_by f e) (map (moved_by f) es) d))
    ]

pub moved_first_key : (f high : ℕ) (es : List Entry) → first_key (map (moved_by f) es) high ≡ first_key es high
moved_first_key f high [] = refl
moved_first_key f high (e ∷ es) = refl

pub moved_ascend : (f low high : ℕ) (es : List Entry) → Ascend low high es → Ascend low high (map (moved_by f) es)
moved_ascend f low high [] h = h
moved_ascend f low high (e ∷ es) h = (h.0, moved_ascend f (suc e.key) high es h.1)

pub ascend_moved : (f low high : ℕ) (es : List Entry) → Ascend low high (map (moved_by f) es) → Ascend low high es
ascend_moved f low high [] h = h
ascend_moved f low high (e ∷ es) h = (h.0, ascend_moved f (suc e.key) high es h.1)

-- ---- by place

pub moved_set : (f : ℕ) (es : List Entry) (i : ℕ) (x : Entry) → map (moved_by f) (set es i x) ≡ set (map (moved_by f) es) i (moved_by f x)
moved_set f [] i x = refl
moved_set f (e ∷ es) zero x = refl
moved_set f (e ∷ es) (suc i) x = ap (λ (xs : List Entry). moved_by f e ∷ xs) (moved_set f es i x)

pub moved_insert : (f : ℕ) (es : List Entry) (i : ℕ) (x : Entry) → map (moved_by f) (insert es i x) ≡ insert (map (moved_by f) es) i (moved_by f x)
moved_insert f [] zero x = refl
moved_insert f [] (suc i) x = refl
moved_insert f (e ∷ es) zero x = refl
moved_insert f (e ∷ es) (suc i) x = ap (λ (xs : List Entry). moved_by f e ∷ xs) (moved_insert f es i x)

pub moved_remove : (f : ℕ) (es : List Entry) (i : ℕ) → map (moved_by f) (remove es i) ≡ remove (map (moved_by f) es) i
moved_remove f [] zero = refl
moved_remove f [] (suc i) = refl
moved_remove f (e ∷ es) zero = refl
moved_remove f (e ∷ es) (suc i) = ap (λ (xs : List Entry). moved_by f e ∷ xs) (moved_remove f es i)

pub moved_take : (f n : ℕ) (es : List Entry) → map (moved_by f) (take n es) ≡ take n (map (moved_by f) es)
moved_take f zero [] = refl
moved_take f zero (e ∷ es) = refl
moved_take f (suc n) [] = refl
moved_take f (suc n) (e ∷ es) = ap (λ (xs : List Entry). moved_by f e ∷ xs) (moved_take f n es)

pub moved_drop : (f n : ℕ) (es : List Entry) → map (moved_by f) (drop n es) ≡ drop n (map (moved_by f) es)
moved_drop f zero [] = refl
moved_drop f zero (e ∷ es) = refl
moved_drop f (suc n) [] = refl
moved_drop f (suc n) (e ∷ es) = moved_drop f n es

pub moved-append : (f : ℕ) (es fs : List Entry) → map (moved_by f) (es ++ fs) ≡ map (moved_by f) es ++ map (moved_by f) fs
moved-append f [] fs = refl
moved-append f (e ∷ es) fs = ap (λ (xs : List Entry). moved_by f e ∷ xs) (moved-append f es fs)

-- in an inner node the values are the references
pub moved_by_nothing : (es : List Entry) → map (moved_by 0) es ≡ es
moved_by_nothing [] = refl
moved_by_nothing (e ∷ es) =
    let v : 0 + e.value ≡ e.value = omega arith in
    ap (λ n. record { key = e.key; value = n; mapped = e.mapped; size = e.size } ∷ map (moved_by 0) es) v ∙ ap (λ (xs : List Entry). e ∷ xs) (moved_by_nothing es)
