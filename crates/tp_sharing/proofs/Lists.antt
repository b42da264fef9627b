-- Entries by place.
use Rattle.std.proofs.Common.{◌≡◌, ◌≢◌, ℕ, zero, suc, ◌-◌, ◌<◌, ◌≤◌, List, [], ◌∷◌, length, get_or, drop, refl, sym, ap, subst, ◌∙◌, arith, inl, inr, Option, Some, None, option_map}
use Rattle.std.proofs.lemmas.Bool.{cases_eq}
use Rattle.tp_layout.specs.declared.entry.Entry.{Entry}
use Rattle.tp_layout.specs.Entries.{rank_of, found, first_key, Ascend}
use Rattle.tp_layout.proofs.Ordered.{rank_of_yes, rank_of_no, found_here, found_later, ascend_ends}
use Rattle.tp_refs.specs.Store.{values}
use Rattle.tp_refs.specs.Balance.{occurrences}
use Rattle.tp_refs.proofs.Steps.{one_same, one_other}
use Rattle.tp_trees.specs.Tree.{Parted, blank}
use Rattle.tp_trees.proofs.Trees.{parted_ends}
use Rattle.tp_sharing.specs.Forest.{value_at}

-- ---- the value at a key

pub value_here : (q : ℕ) (e : Entry) (es : List Entry) → e.key ≡ q → value_at q (e ∷ es) ≡ Some e.value
value_here q e es h = ap (option_map (λ (x : Entry). x.value)) (found_here q e es h)

pub value_later : (q : ℕ) (e : Entry) (es : List Entry) → e.key ≢ q → value_at q (e ∷ es) ≡ value_at q es
value_later q e es h = ap (option_map (λ (x : Entry). x.value)) (found_later q e es h)

-- by the entry that is found there
pub value_from : (q : ℕ) (e : Entry) (es : List Entry) → found q es ≡ Some e → value_at q es ≡ Some e.value
value_from q e es h = ap (option_map (λ (x : Entry). x.value)) h

pub some_eq : (a b : ℕ) → Some a ≡ Some b → a ≡ b
some_eq a b h = cc

pub entry_of : (q v : ℕ) (es : List Entry) → value_at q es ≡ Some v → (e : Entry) × (found q es ≡ Some e) × (e.value ≡ v)
entry_of q v es h = go (found q es) refl where
  go : (o : Option Entry) → found q es ≡ o → (e : Entry) × (found q es ≡ Some e) × (e.value ≡ v)
  go None k = let n : value_at q es ≡ None = ap (option_map (λ (x : Entry). x.value)) k in absurd (cc)
  go (Some e) k = (e, k, some_eq e.value v (sym (value_from q e es k) ∙ h))

-- ---- places

none_yet : (high q : ℕ) (es : List Entry) → q < first_key es high → rank_of q es ≡ 0
none_yet high q [] h = refl
none_yet high q (e ∷ es) h = rank_of_no q e es h

-- an entry of parts, by its place
pub record PartAt (P : ℕ → ℕ → ℕ → Type 0) (low high : ℕ) (es : List Entry) (i : ℕ) : Type 0 where
  pub child : P (get_or es i blank).key (first_key (drop (suc i) es) high) (get_or es i blank).value
  pub lower : low ≤ (get_or es i blank).key
  pub upper : first_key (drop (suc i) es) high ≤ high
  pub at : (q : ℕ) → (get_or es i blank).key ≤ q → q < first_key (drop (suc i) es) high → rank_of q es ≡ suc i

pub part_at : (P : ℕ → ℕ → ℕ → Type 0) (low high : ℕ) (es : List Entry) (i : ℕ) → Parted P low high es → i < length es → PartAt P low high es i
part_at P low high [] i h w = absurd (omega arith)
part_at P low high (e ∷ es) zero h w = record {
  child = subst (λ n. P n (first_key es high) e.value) (sym h.0) h.2;
  lower = omega (arith, h.0);
  upper = parted_ends P (first_key es high) high es h.3;
  at = λ q a b. rank_of_yes q e es a ∙ ap suc (none_yet high q es b);
}
part_at P low high (e ∷ es) (suc i) h w =
    let r = part_at P (first_key es high) high es i h.3 (omega arith) in
    record {
      child = r.child;
      lower = omega (arith, r.lower, h.1);
      upper = r.upper;
      at = λ q a b. rank_of_yes q e es (omega (arith, r.lower, h.0, h.1)) ∙ ap suc (r.at q a b);
    }

-- an entry of a leaf, by its place
pub record LeafAt (low high : ℕ) (es : List Entry) (i : ℕ) : Type 0 where
  pub lower : low ≤ (get_or es i blank).key
  pub upper : (get_or es i blank).key < high
  pub at : rank_of (get_or es i blank).key es ≡ suc i
  pub is : value_at (get_or es i blank).key es ≡ Some (get_or es i blank).value

pub leaf_at : (low high : ℕ) (es : List Entry) (i : ℕ) → Ascend low high es → i < length es → LeafAt low high es i
leaf_at low high [] i h w = absurd (omega arith)
leaf_at low high (e ∷ es) zero h w = record {
  lower = h.0;
  upper = omega (arith, ascend_ends (suc e.key) high es h.1);
  at = rank_of_yes e.key e es (omega arith) ∙ ap suc (after e.key es h.1);
  is = value_here e.key e es refl;
}
  where
    after : (q : ℕ) (es : List Entry) → Ascend (suc q) high es → rank_of q es ≡ 0
    after q [] k = refl
    after q (f ∷ fs) k = rank_of_no q f fs (omega (arith, k.0))
leaf_at low high (e ∷ es) (suc i) h w =
    let r = leaf_at (suc e.key) high es i h.1 (omega arith) in
    record {
      lower = omega (arith, r.lower, h.0);
      upper = r.upper;
      at = rank_of_yes (get_or es i blank).key e es (omega (arith, r.lower)) ∙ ap suc r.at;
      is = value_later (get_or es i blank).key e es (λ d. absurd (omega (arith, r.lower, d))) ∙ r.is;
    }

-- where a key is found
pub found_at : (q v : ℕ) (es : List Entry) → value_at q es ≡ Some v → (i : ℕ) × (i < length es) × ((get_or es i blank).key ≡ q) × ((get_or es i blank).value ≡ v)
found_at q v [] h = absurd (cc)
found_at q v (e ∷ es) h =
    elim (cases_eq e.key q) [
      | inl p ↦ (0, omega arith, p, some_eq e.value v (sym (value_here q e es p) ∙ h))
      | inr d ↦ let r = found_at q v es (sym (value_later q e es d) ∙ h) in (suc r.0, omega (arith, r.1), r.2, r.3)
    ]

pub found_within : (low high q v : ℕ) (es : List Entry) → Ascend low high es → value_at q es ≡ Some v → (low ≤ q) × (q < high)
found_within low high q v es h f =
    let r = found_at q v es f in
    let l = leaf_at low high es r.0 h r.1 in
    (omega (arith, l.lower, r.2), omega (arith, l.upper, r.2))

-- how often a block stands among values, by places
pub occurrences_one : (x i : ℕ) (es : List Entry) → i < length es → (get_or es i blank).value ≡ x → 0 < occurrences x (values es)
occurrences_one x i [] w e = absurd (omega arith)
occurrences_one x zero (f ∷ es) w e = omega (arith, one_same f.value x e)
occurrences_one x (suc i) (f ∷ es) w e = omega (arith, occurrences_one x i es (omega arith) e)

pub occurrences_two : (x i j : ℕ) (es : List Entry) → i < length es → j < length es → i ≢ j → (get_or es i blank).value ≡ x → (get_or es j blank).value ≡ x → 2 ≤ occurrences x (values es)
occurrences_two x i j [] w v ne a b = absurd (omega arith)
occurrences_two x zero zero (f ∷ es) w v ne a b = absurd (ne refl)
occurrences_two x zero (suc j) (f ∷ es) w v ne a b = omega (arith, one_same f.value x a, occurrences_one x j es (omega arith) b)
occurrences_two x (suc i) zero (f ∷ es) w v ne a b = omega (arith, one_same f.value x b, occurrences_one x i es (omega arith) a)
occurrences_two x (suc i) (suc j) (f ∷ es) w v ne a b = omega (arith, occurrences_two x i j es (omega arith) (omega arith) (λ e. ne (ap suc e)) a b)

pub occurrences_place : (x : ℕ) (es : List Entry) → 0 < occurrences x (values es) → (i : ℕ) × (i < length es) × ((get_or es i blank).value ≡ x)
occurrences_place x [] h = absurd (omega arith)
occurrences_place x (f ∷ es) h =
    elim (cases_eq f.value x) [
      | inl p ↦ (0, omega arith, p)
      | inr d ↦ let r = occurrences_place x es (omega (arith, one_other f.value x d)) in (suc r.0, omega (arith, r.1), r.2)
    ]

pub occurrences_other : (x i : ℕ) (es : List Entry) → 2 ≤ occurrences x (values es) → (j : ℕ) × (j < length es) × ((get_or es j blank).value ≡ x) × (j ≢ i)
occurrences_other x i [] h = absurd (omega arith)
occurrences_other x i (f ∷ es) h =
    elim (cases_eq f.value x) [
      | inl p ↦
          elim (cases_eq i 0) [
            | inl z ↦ let r = occurrences_place x es (omega (arith, one_same f.value x p)) in (suc r.0, omega (arith, r.1), r.2, λ e. absurd (omega (arith, e, z)))
            | inr n ↦ (0, omega arith, p, λ e. n (sym e))
          ]
      | inr d ↦
          let r = occurrences_other x (i - 1) es (omega (arith, one_other f.value x d)) in
          (suc r.0, omega (arith, r.1), r.2, λ e. r.3 (omega (arith, e)))
    ]
