-- The runs of mapped blocks, as far as they were gone through.
use Rattle.std.proofs.Common.{◌≡◌, inl, inr, ℕ, ◌+◌, ◌<◌, ◌≤◌, Option, None, Some, List, [], refl, sym, ap, subst, ◌∙◌, arith}
use Rattle.std.specs.Prelude.{IsSome, is_some, if◌then◌else◌}
use Rattle.std.proofs.lemmas.Bool.{cases_eq, cases_lt, eq-eqb, false≢true, ne_eqb}
use Rattle.tp_model.specs.Pool.{PlainPool, slot_at}
use Rattle.tp_model.specs.Clauses.{View, ViewLaws}
use Rattle.tp_model.specs.Slots.{BlockSlot}
use Rattle.tp_listings.specs.declared.extent.Extent.{Extent}
use Rattle.tp_listings.specs.Listings.{AreRunsOf, IsMap}
use Rattle.tp_listings.specs.Seeking.{IsFirst, IsPushed, Reads, told}
use Rattle.tp_listings.proofs.Beyond.{none_beyond}
use Rattle.tp_listings.proofs.Found.{goes_on}
use Rattle.tp_listings.proofs.Runs.{more, none, same}

no_slot : (o : Option ℕ) → o ≡ None → IsSome o → ⊥
no_slot o e h = false≢true (sym (ap (λ (p : Option ℕ). is_some p) e) ∙ h)

-- where no slot follows, none does
pub none_from : (s : PlainPool) (id from : ℕ) (found : Option BlockSlot) → IsFirst s id from found → ((x : BlockSlot) → found ≡ Some x → ⊥) → (q : ℕ) → from ≤ q → slot_at s id q ≡ None
none_from s id from None first not q le = first.tells q le tt
none_from s id from (Some x) first not q le = absurd (not x refl)

-- at the slot
pub at_slot : (s : PlainPool) (id from : ℕ) (x : BlockSlot) → IsFirst s id from (Some x) → slot_at s id x.block ≡ Some x.place
at_slot s id from x first = first.tells x.block first.later (omega arith) ∙ ap (λ b. if b then Some x.place else None) (eq-eqb x.block x.block refl)

-- and before it
pub before_slot : (s : PlainPool) (id from : ℕ) (x : BlockSlot) → IsFirst s id from (Some x) → (q : ℕ) → from ≤ q → q < x.block → slot_at s id q ≡ None
before_slot s id from x first q le lt =
    first.tells q le (omega (arith, lt)) ∙ ap (λ b. if b then Some x.place else None) (ne_eqb x.block q (λ e. omega (arith, e, lt)))

pub later_reads : (s : PlainPool) (id from next : ℕ) (slots : List BlockSlot) (at : ℕ) → from ≤ next → Reads s id from slots at → Reads s id next slots at
later_reads s id from next slots at le r = goes_on s id from next slots at at le r (λ i x ge lt e. absurd (omega (arith, ge, lt)))

abbrev pub Before : PlainPool → ℕ → ℕ → ℕ → Type 0
Before s id from block = (block < from) × IsSome (slot_at s id block)

pub map_ends : (s : PlainPool) (id from : ℕ) (found : Option BlockSlot) (slots : List BlockSlot) (at : ℕ) (extents : List Extent) → from < 16777216 → ((x : BlockSlot) → found ≡ Some x → ⊥)
    → IsFirst s id from found × Reads s id from slots at → AreRunsOf extents (Before s id from) → Reads s id 16777216 slots at × AreRunsOf extents (Before s id 16777216)
map_ends s id from found slots at extents lt not told runs = (
  later_reads s id from 16777216 slots at (omega (arith, lt)) told.1,
  same extents (Before s id from) (Before s id 16777216) (λ b h. let l = h.0 in (omega (arith, l, lt), h.1))
      (λ b h. elim (cases_lt b from) [
        | inl l ↦ (l, h.1)
        | inr g ↦ absurd (no_slot (slot_at s id b) (none_from s id from found told.0 not b g) h.1)
      ]) runs,
)

pub map_goes_on : (s : PlainPool) (id from block : ℕ) (found : Option BlockSlot) (x : BlockSlot) (slots : List BlockSlot) (at : ℕ) (old new : List Extent) → found ≡ Some x → block ≡ x.block → IsPushed block old new
    → IsFirst s id from found × Reads s id from slots at → AreRunsOf old (Before s id from) → Reads s id (block + 1) slots at × AreRunsOf new (Before s id (block + 1))
map_goes_on s id from block found x slots at old new is same_block pushed told runs =
    let first = subst (λ (o : Option BlockSlot). IsFirst s id from o) is told.0 in
    let later : from ≤ x.block = first.later in
    let here : slot_at s id block ≡ Some x.place = ap (λ (b : ℕ). slot_at s id b) same_block ∙ at_slot s id from x first in (
      later_reads s id from (block + 1) slots at (omega (arith, later, same_block)) told.1,
      more block old new (Before s id from) (Before s id (block + 1)) pushed (λ b h. let l = h.0 in omega (arith, l, later, same_block)) (λ b h. let l = h.0 in (omega (arith, l, later, same_block), h.1))
          (omega arith, subst (λ (o : Option ℕ). IsSome o) (sym here) refl)
          (λ b h.
          let l = h.0 in
          elim (cases_lt b from) [
            | inl lt ↦ inl (lt, h.1)
            | inr g ↦
                elim (cases_eq b block) [
                  | inl e ↦ inr e
                  | inr n ↦ absurd (no_slot (slot_at s id b) (before_slot s id from x first b g (omega (arith, l, n, same_block))) h.1)
                ]
          ]) runs,
    )

-- nothing was gone through
pub map_begins : (s : PlainPool) (id : ℕ) → AreRunsOf [] (Before s id 0)
map_begins s id = none (Before s id 0) (λ b h. let l = h.0 in omega (arith, l))

-- all was
pub map_is : {D : Type 0} (view : View D) (laws : ViewLaws view) (d : D) (s : PlainPool) (id from : ℕ) (slots : List BlockSlot) (at : ℕ) (extents : List Extent) → view.shows d s → 16777216 ≤ from
    → Reads s id from slots at × AreRunsOf extents (Before s id from) → IsMap s id extents
map_is view laws d s id from slots at extents shown end h = record {
  there = h.0.there;
  runs = same extents (Before s id from) (λ (block : ℕ). IsSome (slot_at s id block)) (λ b x. x.1)
      (λ b x. elim (cases_lt b 16777216) [
        | inl l ↦ (omega (arith, l, end), x)
        | inr g ↦ absurd (no_slot (slot_at s id b) (none_beyond view laws d s id b shown h.0.works g) x)
      ]) h.1;
}

-- the same under the volume's own name
pub map_step : (s : PlainPool) (mine id from next : ℕ) (slots later : List BlockSlot) (at past : ℕ) (old new : List Extent) → mine ≡ id
    → (Reads s mine from slots at → AreRunsOf old (Before s mine from) → Reads s mine next later past × AreRunsOf new (Before s mine next))
    → Reads s id from slots at × AreRunsOf old (Before s id from) → Reads s id next later past × AreRunsOf new (Before s id next)
map_step s mine id from next slots later at past old new same step h =
    let back = subst (λ (i : ℕ). Reads s i from slots at × AreRunsOf old (Before s i from)) (sym same) h in
    subst (λ (i : ℕ). Reads s i next later past × AreRunsOf new (Before s i next)) same (step back.0 back.1)
