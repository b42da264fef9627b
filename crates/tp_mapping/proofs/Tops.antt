-- The greatest virtual block of a device's slots is that of the last one.
use Rattle.std.proofs.Common.{◌≡◌, ◌≢◌, subst, ℕ, suc, ◌≤◌, List, [], ◌∷◌, refl, sym, ap, ◌∙◌, arith, inl, inr, Some, None}
use Rattle.std.specs.Prelude.{IsSome, Option}
use Rattle.std.proofs.lemmas.Bool.{cases_eq, false≢true}
use Rattle.tp_sharing.specs.Volumes.{BlockSlot, SlotsAscend, Volumes, device_of, place_in, place_or_none}
use Rattle.tp_sharing.proofs.Lists.{some_eq}
use Rattle.tp_mapping.specs.Mapping.{IsHighest, slots_or_none}
use Rattle.tp_sharing.proofs.Slots.{place_here, place_later}
use Rattle.tp_mapping.specs.Slots.{last_block}

abbrev TopOf : List BlockSlot → Option ℕ → Type 0
TopOf xs None = (b : ℕ) → place_in b xs ≡ None
TopOf xs (Some top) = IsSome (place_in top xs) × ((b : ℕ) → IsSome (place_in b xs) → b ≤ top)

none_some : {A : Type 0} (a : Option A) (x : A) → a ≡ None → a ≡ Some x → ⊥
none_some a x e f = cc

is_some : {A : Type 0} (a : Option A) (x : A) → a ≡ Some x → IsSome a
is_some a x e = subst IsSome (sym e) refl

top_of : (low : ℕ) (xs : List BlockSlot) → SlotsAscend low xs → (o : Option ℕ) → o ≡ last_block xs → TopOf xs o
top_of low [] a None e = λ b. refl
top_of low [] a (Some t) e = absurd (none_some (Some t) t e refl)
top_of low (x ∷ []) a None e = absurd (none_some None x.block refl e)
top_of low (x ∷ []) a (Some t) e =
    let k : t ≡ x.block = some_eq t x.block e in (
      is_some (place_in t (x ∷ [])) x.place (place_here t x [] (sym k)),
      λ b h. elim (cases_eq x.block b) [
        | inl p ↦ omega (arith, p, k)
        | inr n ↦ absurd (no_slot (place_in b (x ∷ [])) h (place_later b x [] n))
      ],
    )
  where
    no_slot : (o : Option ℕ) → IsSome o → o ≡ None → ⊥
    no_slot None h q = false≢true h
    no_slot (Some y) h q = none_some (Some y) y q refl
top_of low (x ∷ y ∷ ys) a o e = step o (top_of (suc x.block) (y ∷ ys) a.1 o e) where
  step : (o : Option ℕ) → TopOf (y ∷ ys) o → TopOf (x ∷ y ∷ ys) o
  step None h = absurd (none_some (place_in y.block (y ∷ ys)) y.place (h y.block) (place_here y.block y ys refl))
  step (Some t) h =
      let l : y.block ≤ t = h.1 y.block (is_some (place_in y.block (y ∷ ys)) y.place (place_here y.block y ys refl)) in
      let n : x.block ≢ t = (λ q. absurd (omega (arith, q, l, a.1.0))) in (
        subst IsSome (sym (place_later t x (y ∷ ys) n)) h.0,
        λ b k. elim (cases_eq x.block b) [
          | inl p ↦ omega (arith, p, l, a.1.0)
          | inr d ↦ h.1 b (subst IsSome (place_later b x (y ∷ ys) d) k)
        ],
      )

pub is_highest : (id : ℕ) (ds : Volumes) (o : Option (List BlockSlot)) → device_of id ds ≡ o → SlotsAscend 0 (slots_or_none o) → (top : Option ℕ) → top ≡ last_block (slots_or_none o) → IsHighest id ds top
is_highest id ds None d a None e = λ b. ap (place_or_none b) d
is_highest id ds None d a (Some t) e = absurd (none_some (Some t) t e refl)
is_highest id ds (Some xs) d a None e = λ b. ap (place_or_none b) d ∙ top_of 0 xs a None e b
is_highest id ds (Some xs) d a (Some t) e =
    let h = top_of 0 xs a (Some t) e in (
      subst IsSome (sym (ap (place_or_none t) d)) h.0,
      λ b k. h.1 b (subst IsSome (ap (place_or_none b) d) k),
    )
