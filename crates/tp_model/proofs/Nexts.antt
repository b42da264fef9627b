-- The first id of a pool's volumes from an id on is the least one.
use Rattle.std.proofs.Common.{◌≡◌, ◌≢◌, ℕ, ◌<◌, ◌≤◌, cond, inl, inr, List, [], ◌∷◌, Some, None, refl, sym, ap, subst, ◌∙◌, arith}
use Rattle.std.specs.Prelude.{T, ◌^◌}
use Rattle.std.specs.Ordering.{nat_cmp, is_lt}
use Rattle.std.specs.declared.cmp.Ordering.{Ordering}
use Rattle.std.specs.declared.cmp.Ordering.TheVariants.{Equal, Greater}
use Rattle.std.proofs.lemmas.Bool.{cases_eq, cases_lt, ne_eqb}
use Rattle.std.proofs.lemmas.Bool.Decides.{nat_tests}
use Rattle.std.proofs.lemmas.Option.{none-some}
use Rattle.std.specs.Cmp.{nat_cmp_is, unsigned_tied}
use Rattle.std.specs.FinMap.{FinMap, entries, entries_sorted, find, get, get-entries, is_sorted}
use Rattle.std.specs.FinMap.Entries.{below_all}
use Rattle.tp_model.specs.Pool.{Volume}
use Rattle.tp_model.specs.Calls.{first_from}
use Rattle.tp_model.proofs.Maps.{both_hold, found_first}

first_yes : (from : ℕ) (e : ℕ × Volume) (es : List (ℕ × Volume)) → from ≤ e.0 → e.0 < 2 ^ 24 → first_from from (e ∷ es) ≡ Some e.0
first_yes from e es h l = grind (arith, nat_tests)

-- a copy is no device
first_copy : (from : ℕ) (e : ℕ × Volume) (es : List (ℕ × Volume)) → 2 ^ 24 ≤ e.0 → first_from from (e ∷ es) ≡ first_from from es
first_copy from e es h = grind (arith, nat_tests)

first_no : (from : ℕ) (e : ℕ × Volume) (es : List (ℕ × Volume)) → e.0 < from → first_from from (e ∷ es) ≡ first_from from es
first_no from e es h = grind (arith, nat_tests)

found_behind : (id : ℕ) (e : ℕ × Volume) (es : List (ℕ × Volume)) → id ≢ e.0 → find nat_cmp id (e ∷ es) ≡ find nat_cmp id es
found_behind id e es ne = ap (λ b. cond b (Some e.1) (find nat_cmp id es)) (unsigned_tied id e.0 ∙ ne_eqb id e.0 ne)

none_in : (from : ℕ) (es : List (ℕ × Volume)) → ((id : ℕ) → from ≤ id → id < 2 ^ 24 → find nat_cmp id es ≡ None) → first_from from es ≡ None
none_in from [] none = refl
none_in from (e ∷ es) none =
    elim (cases_lt e.0 from) [
      | inl l ↦ first_no from e es l ∙ none_in from es (λ id le low. sym (found_behind id e es (λ p. absurd (omega (arith, p, l, le)))) ∙ none id le low)
      | inr g ↦ elim (cases_lt e.0 (2 ^ 24)) [
        | inl low ↦ absurd (none-some e.1 (sym (none e.0 g low) ∙ found_first e es))
        | inr high ↦ first_copy from e es (omega (arith, high)) ∙ none_in from es (λ id le low. sym (found_behind id e es (λ p. absurd (omega (arith, p, low, high)))) ∙ none id le low)
      ]
    ]

-- a key below one that is below all in a list is not in it
below_too : (id low : ℕ) (es : List (ℕ × Volume)) → id < low → T (below_all nat_cmp low es) → find nat_cmp id es ≡ None
below_too id low [] l h = refl
below_too id low (e ∷ es) l h =
    let parts = both_hold (is_lt (nat_cmp low e.0)) (below_all nat_cmp low es) h in
    let apart : id ≢ e.0 = (λ p. absurd (omega (arith, p, l, lower low e.0 parts.0))) in
    found_behind id e es apart ∙ below_too id low es l parts.1
  where
    lower : (a b : ℕ) → T (is_lt (nat_cmp a b)) → a < b
    lower a b t =
        elim (cases_lt a b) [
          | inl l ↦ l
          | inr g ↦ elim (cases_eq a b) [
            | inl e ↦ absurd (subst (λ (o : Ordering). T (is_lt o)) (sym (nat_cmp_is a b Equal e)) t)
            | inr ne ↦ absurd (subst (λ (o : Ordering). T (is_lt o)) (sym (nat_cmp_is a b Greater (omega (arith, g, ne)))) t)
          ]
        ]

some_in : (from id : ℕ) (v : Volume) (es : List (ℕ × Volume)) → T (is_sorted nat_cmp es) → from ≤ id → id < 2 ^ 24 → find nat_cmp id es ≡ Some v
    → ((other : ℕ) (w : Volume) → from ≤ other → other < 2 ^ 24 → find nat_cmp other es ≡ Some w → id ≤ other) → first_from from es ≡ Some id
some_in from id v [] sorted le small there least = absurd (none-some v there)
some_in from id v (e ∷ es) sorted le small there least =
    let parts = both_hold (below_all nat_cmp e.0 es) (is_sorted nat_cmp es) sorted in
    elim (cases_lt e.0 from) [
      | inl l ↦
          first_no from e es l
          ∙ some_in from id v es parts.1 le small (sym (found_behind id e es (λ p. absurd (omega (arith, p, l, le)))) ∙ there)
          (λ other w more low f. least other w more low (found_behind other e es (λ p. absurd (omega (arith, p, l, more))) ∙ f))
      | inr g ↦
          let low : id ≤ e.0 = elim (cases_lt e.0 (2 ^ 24)) [ inl l ↦ least e.0 e.1 g l (found_first e es) | inr h ↦ omega (arith, h, small) ] in
          elim (cases_eq id e.0) [
            | inl p ↦ first_yes from e es g (omega (arith, p, small)) ∙ ap (λ n. Some n) (sym p)
            | inr ne ↦ absurd (none-some v (sym (found_behind id e es ne ∙ below_too id e.0 es (omega (arith, low, ne)) parts.0) ∙ there))
          ]
    ]

pub first_none : (from : ℕ) (m : FinMap nat_cmp Volume) → ((id : ℕ) → from ≤ id → id < 2 ^ 24 → get m id ≡ None) → first_from from (entries m) ≡ None
first_none from m none = none_in from (entries m) (λ id le low. sym (get-entries m id) ∙ none id le low)

pub first_some : (from id : ℕ) (v : Volume) (m : FinMap nat_cmp Volume) → from ≤ id → id < 2 ^ 24 → get m id ≡ Some v
    → ((other : ℕ) (w : Volume) → from ≤ other → other < 2 ^ 24 → get m other ≡ Some w → id ≤ other) → first_from from (entries m) ≡ Some id
first_some from id v m le small there least =
    some_in from id v (entries m) (entries_sorted m) le small (sym (get-entries m id) ∙ there) (λ other w more low f. least other w more low (get-entries m other ∙ f))
