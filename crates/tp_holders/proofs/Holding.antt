-- A row of ids as counts.
use Rattle.std.proofs.Common.{◌≡◌, ◌≢◌, inl, inr, ℕ, zero, suc, ◌+◌, ◌-◌, ◌<◌, ◌≤◌, ◌==◌, Bool, true, false, cond, Option, None, Some, List, [], ◌∷◌, ◌++◌, length, refl, sym, ◌∙◌, ap, arith}
use Rattle.std.specs.Prelude.{slice_index_or, if◌then◌else◌}
use Rattle.std.specs.Option.{unwrap_or}
use Rattle.std.specs.List.{remove as without}
use Rattle.std.specs.FinMap.{empty, get, insert, remove}
use Rattle.std.proofs.lemmas.Bool.{cases_eq, cases_lt, eq-eqb, ne_eqb, le-leb, lt-leb}
use Rattle.tp_model.specs.Calls.{Done, Hold, holds_after, released}
use Rattle.tp_model.proofs.Maps.{get_insert, get_empty, get_remove, same_nat_map}
use Rattle.tp_model.specs.Pool.{hold_count}
use Rattle.tp_holders.specs.Holders.{counts_of}

abbrev pub one_at : ℕ → ℕ → ℕ
one_at q x = cond (q == x) 1 0

-- how often an id stands in a row
abbrev pub times : ℕ → List ℕ → ℕ
times q [] = 0
times q (x ∷ xs) = one_at q x + times q xs

-- a count, where it is not 0
abbrev pub some_if : ℕ → Option ℕ
some_if zero = None
some_if (suc n) = Some (suc n)

or_zero : (n : ℕ) → unwrap_or (some_if n) 0 ≡ n
or_zero zero = refl
or_zero (suc n) = refl

pub get_holds : (xs : List ℕ) (q : ℕ) → get (counts_of xs) q ≡ some_if (times q xs)
unfolding counts_of
get_holds [] q = get_empty q
get_holds (x ∷ xs) q =
    get_insert (counts_of xs) x (hold_count (counts_of xs) x + 1) q ∙ elim (cases_eq q x) [
      | inl e ↦
          let yes_ : (q == x) ≡ true = eq-eqb q x e in
          let count : hold_count (counts_of xs) x ≡ times q xs = ap (λ o. unwrap_or o 0) (get_holds xs x) ∙ or_zero (times x xs) ∙ ap (λ y. times y xs) (sym e) in
          let sum : hold_count (counts_of xs) x + 1 ≡ suc (times q xs) = omega (arith, count) in
          let all : suc (times q xs) ≡ one_at q x + times q xs = let one : one_at q x ≡ 1 = ap (λ (b : Bool). cond b (suc zero) zero) yes_ in omega (arith, one) in
          ap (λ (b : Bool). cond b (Some (hold_count (counts_of xs) x + 1)) (get (counts_of xs) q)) yes_ ∙ ap (λ n. Some n) sum ∙ ap some_if all
      | inr ne ↦
          let not_ : (q == x) ≡ false = ne_eqb q x ne in
          let all : times q xs ≡ one_at q x + times q xs = let none : one_at q x ≡ 0 = ap (λ (b : Bool). cond b (suc zero) zero) not_ in omega (arith, none) in
          ap (λ (b : Bool). cond b (Some (hold_count (counts_of xs) x + 1)) (get (counts_of xs) q)) not_ ∙ get_holds xs q ∙ ap some_if all
    ]

pub count_is : (xs : List ℕ) (q : ℕ) → hold_count (counts_of xs) q ≡ times q xs
count_is xs q = ap (λ o. unwrap_or o 0) (get_holds xs q) ∙ or_zero (times q xs)

pub same_times : (xs ys : List ℕ) → ((q : ℕ) → times q xs ≡ times q ys) → counts_of xs ≡ counts_of ys
same_times xs ys same = same_nat_map (counts_of xs) (counts_of ys) (λ q. get_holds xs q ∙ ap some_if (same q) ∙ sym (get_holds ys q))

pub times-append : (q : ℕ) (xs ys : List ℕ) → times q (xs ++ ys) ≡ times q xs + times q ys
times-append q [] ys = omega arith
times-append q (x ∷ xs) ys =
    let rest = times-append q xs ys in
    let a : times q ((x ∷ xs) ++ ys) ≡ one_at q x + times q (xs ++ ys) = refl in
    let b : times q (x ∷ xs) ≡ one_at q x + times q xs = refl in
    omega (arith, rest, a, b)

-- one more at the end
pub counts_pushed : (xs : List ℕ) (id : ℕ) → counts_of (xs ++ id ∷ []) ≡ holds_after (counts_of xs) (Hold id) Done
unfolding counts_of
counts_pushed xs id =
    same_times (xs ++ id ∷ []) (id ∷ xs) (λ q.
    let both = times-append q xs (id ∷ []) in
    let a : times q (id ∷ xs) ≡ one_at q id + times q xs = refl in
    let b : times q (id ∷ []) ≡ one_at q id + 0 = refl in
    omega (arith, both, a, b))

-- one fewer
pub times-without : (q : ℕ) (xs : List ℕ) (i : ℕ) → i < length xs → times q (without xs i) + one_at q (slice_index_or xs i 0) ≡ times q xs
times-without q [] i lt = absurd (omega arith)
times-without q (x ∷ xs) zero lt =
    let a : times q (without (x ∷ xs) zero) ≡ times q xs = refl in
    let b : one_at q (slice_index_or (x ∷ xs) zero 0) ≡ one_at q x = refl in
    let c : times q (x ∷ xs) ≡ one_at q x + times q xs = refl in
    omega (arith, a, b, c)
times-without q (x ∷ xs) (suc i) lt =
    let rest = times-without q xs i (omega arith) in
    let a : times q (without (x ∷ xs) (suc i)) ≡ one_at q x + times q (without xs i) = refl in
    let b : one_at q (slice_index_or (x ∷ xs) (suc i) 0) ≡ one_at q (slice_index_or xs i 0) = refl in
    let c : times q (x ∷ xs) ≡ one_at q x + times q xs = refl in
    omega (arith, a, b, c, rest)

module _ (xs : List ℕ) (i id : ℕ) (lt : i < length xs) (there : slice_index_or xs i 0 ≡ id) where
  abbrev n : ℕ
  n = hold_count (counts_of xs) id

  here : times id (without xs i) + 1 ≡ times id xs
  here =
      let all = times-without id xs i lt in
      let one : one_at id (slice_index_or xs i 0) ≡ 1 = ap (λ (b : Bool). cond b (suc zero) zero) (eq-eqb id (slice_index_or xs i 0) (sym there)) in
      omega (arith, all, one)

  elsewhere : (q : ℕ) → q ≢ id → times q (without xs i) ≡ times q xs
  elsewhere q ne =
      let all = times-without q xs i lt in
      let none : one_at q (slice_index_or xs i 0) ≡ 0 = ap (λ (b : Bool). cond b (suc zero) zero) (ne_eqb q (slice_index_or xs i 0) (λ e. ne (e ∙ there))) in
      omega (arith, all, none)

  last_one : n ≤ 1 → counts_of (without xs i) ≡ remove (counts_of xs) id
  last_one few =
      same_nat_map (counts_of (without xs i)) (remove (counts_of xs) id) (λ q.
      get_holds (without xs i) q ∙ sym (get_remove (counts_of xs) id q ∙ elim (cases_eq q id) [
        | inl e ↦
            let none : 0 ≡ times q (without xs i) = let w : times q (without xs i) ≡ times id (without xs i) = ap (λ y. times y (without xs i)) e in omega (arith, here, count_is xs id, few, w) in
            ap (λ (b : Bool). cond b None (get (counts_of xs) q)) (eq-eqb q id e) ∙ ap some_if none
        | inr ne ↦ ap (λ (b : Bool). cond b None (get (counts_of xs) q)) (ne_eqb q id ne) ∙ get_holds xs q ∙ ap some_if (sym (elsewhere q ne))
      ]))

  one_of_more : 1 < n → counts_of (without xs i) ≡ insert (counts_of xs) id (n - 1)
  one_of_more many =
      same_nat_map (counts_of (without xs i)) (insert (counts_of xs) id (n - 1)) (λ q.
      get_holds (without xs i) q ∙ sym (get_insert (counts_of xs) id (n - 1) q ∙ elim (cases_eq q id) [
        | inl e ↦
            let w : times q (without xs i) ≡ times id (without xs i) = ap (λ y. times y (without xs i)) e in
            ap (λ (b : Bool). cond b (Some (n - 1)) (get (counts_of xs) q)) (eq-eqb q id e) ∙ some_is (n - 1) (times q (without xs i)) (omega (arith, many)) (omega (arith, here, count_is xs id, w))
        | inr ne ↦ ap (λ (b : Bool). cond b (Some (n - 1)) (get (counts_of xs) q)) (ne_eqb q id ne) ∙ get_holds xs q ∙ ap some_if (sym (elsewhere q ne))
      ]))
    where
      some_is : (a b : ℕ) → 0 < a → a ≡ b → Some a ≡ some_if b
      some_is zero b pos e = absurd (omega arith)
      some_is (suc a) b pos e = ap some_if e

  pub counts_released : counts_of (without xs i) ≡ released (counts_of xs) id
  counts_released = elim (cases_lt 1 n) [
    | inl many ↦ one_of_more many ∙ sym (ap (λ (b : Bool). if b then remove (counts_of xs) id else insert (counts_of xs) id (n - 1)) (lt-leb n 1 many))
    | inr few ↦ last_one (omega (arith, few)) ∙ sym (ap (λ (b : Bool). if b then remove (counts_of xs) id else insert (counts_of xs) id (n - 1)) (le-leb n 1 (omega (arith, few))))
  ]

-- a volume that is held stands in the row
pub not_there : (xs : List ℕ) (id : ℕ) → ((j : ℕ) → j < length xs → slice_index_or xs j 0 ≢ id) → times id xs ≡ 0
not_there [] id none = refl
not_there (x ∷ xs) id none =
    let zero_ : one_at id x ≡ 0 = ap (λ (b : Bool). cond b (suc zero) zero) (ne_eqb id x (λ e. none 0 (omega arith) (sym e))) in
    let rest = not_there xs id (λ j lt. none (suc j) (omega (arith, lt))) in
    let a : times id (x ∷ xs) ≡ one_at id x + times id xs = refl in
    omega (arith, zero_, rest, a)

-- it is held by one, or by none
pub times_at : (xs : List ℕ) (id i : ℕ) → i < length xs → slice_index_or xs i 0 ≡ id → 0 < times id xs
times_at [] id i lt there = absurd (omega arith)
times_at (x ∷ xs) id zero lt there =
    let one : one_at id x ≡ 1 = ap (λ (b : Bool). cond b (suc zero) zero) (eq-eqb id x (sym there)) in
    let a : times id (x ∷ xs) ≡ one_at id x + times id xs = refl in
    omega (arith, one, a)
times_at (x ∷ xs) id (suc i) lt there =
    let rest = times_at xs id i (omega (arith, lt)) there in
    let a : times id (x ∷ xs) ≡ one_at id x + times id xs = refl in
    omega (arith, rest, a)

pub counts_none : counts_of [] ≡ empty
unfolding counts_of
counts_none = refl
