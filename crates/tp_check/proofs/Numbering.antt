-- Names that are counted one by one.
use Rattle.std.proofs.Common.{◌≡◌, ℕ, Bool, ◌+◌, ◌<◌, List, length, get_or, set, take, map, Some, inl, inr, sym, ap, ◌∙◌, subst, arith}
use Rattle.std.specs.Prelude.{◌^◌, ◌==◌, if◌then◌else◌, nat_lt, slice_get, slice_index, count_by}
use Rattle.std.proofs.lemmas.Bool.{cases_eq, cases_lt, eq-eqb, le-ltb, lt-ltb, ne_eqb}
use Rattle.std.proofs.lemmas.List.{get_or-map, get_or-set_other, get_or-set_same, length-map, length-take-le}
use Rattle.std.proofs.lemmas.List.Sums.{count_by-le-length, count_by_more_no, count_by_more_yes}
use Rattle.std.proofs.lemmas.Option.{get_or_from_slice_get, slice_get_within}
use Rattle.tp_layout.specs.declared.entry.Entry.{Entry}

-- the names of the first `i` entries are counted, where no count comes near 2 ^ 32
abbrev pub AreCounted : List ℕ → List ℕ → List Entry → ℕ → Type 0
AreCounted old names es i = (b : ℕ) → b < length old → slice_index old b + length es < 2 ^ 32
    → slice_index names b ≡ slice_index old b + count_by (λ x. x == b) (take i (map (λ (e : Entry). e.value) es))

pub count_next : (old names : List ℕ) (es : List Entry) (i place sum : ℕ) (e : Entry) → slice_get es i ≡ Some e → place ≡ e.value → place < length names → (slice_index names place + 1 < 2 ^ 32 → sum ≡ slice_index names place + 1)
    → AreCounted old names es i → AreCounted old (set names place sum) es (i + 1)
count_next old names es i place sum e at is inside more counted b lt small =
    let vs : List ℕ = map (λ (x : Entry). x.value) es in
    let within : i < length es = slice_get_within es i e at in
    let within_values : i < length vs = omega (arith, within, length-map es (λ (x : Entry). x.value)) in
    let value : get_or vs i 0 ≡ e.value = get_or-map (λ (x : Entry). x.value) es i e 0 within ∙ ap (λ (x : Entry). x.value) (get_or_from_slice_get es i e e at) in
    elim (cases_eq b place) [
      | inl same ↦
          let here = counted b lt small in
          let count = count_by_more_yes (λ x. x == b) vs i 0 within_values (eq-eqb (get_or vs i 0) b (omega (arith, value, is, same))) in
          let few = count_by-le-length (λ x. x == b) (take i vs) in
          let short = length-take-le i vs in
          let now : slice_index (set names place sum) b ≡ sum = subst (λ (x : ℕ). slice_index (set names place sum) x ≡ sum) (sym same) (get_or-set_same names place sum 0 inside) in
          let was : slice_index names place ≡ slice_index names b = ap (slice_index names) (sym same) in
          let next : sum ≡ slice_index names place + 1 = more (omega (arith, was, here, few, short, within, small)) in
          omega (arith, now, next, was, here, count)
      | inr apart ↦
          let count = count_by_more_no (λ x. x == b) vs i 0 within_values (ne_eqb (get_or vs i 0) b (λ e. apart (sym e ∙ (value ∙ sym is)))) in
          let now : slice_index (set names place sum) b ≡ slice_index names b = get_or-set_other names place b sum 0 apart in
          omega (arith, now, counted b lt small, count)
    ]

pub name_next : (names : List ℕ) (i : ℕ) → i < length names → ((b : ℕ) → slice_index names b ≡ (if nat_lt b i then 1 else 0)) → (b : ℕ) → slice_index (set names i 1) b ≡ (if nat_lt b (i + 1) then 1 else 0)
name_next names i inside named b =
    elim (cases_eq b i) [
      | inl same ↦
          subst (λ (x : ℕ). slice_index (set names i 1) x ≡ 1) (sym same) (get_or-set_same names i 1 0 inside)
          ∙ sym (ap (λ (t : Bool). if t then 1 else 0) (lt-ltb b (i + 1) (omega (arith, same))))
      | inr apart ↦ get_or-set_other names i b 1 0 apart ∙ (named b ∙ ap (λ (t : Bool). if t then 1 else 0) (same_test b i apart))
    ]
  where
    same_test : (b i : ℕ) → (b ≡ i → ⊥) → nat_lt b i ≡ nat_lt b (i + 1)
    same_test b i apart = elim (cases_lt b i) [
      | inl lt ↦ lt-ltb b i lt ∙ sym (lt-ltb b (i + 1) (omega (arith, lt)))
      | inr le ↦ le-ltb b i le ∙ sym (le-ltb b (i + 1) (omega (arith, le, apart)))
    ]
