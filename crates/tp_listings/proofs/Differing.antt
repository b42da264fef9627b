-- The runs of blocks in which two volumes differ, as far as they were gone through.
use Rattle.std.proofs.Common.{◌≡◌, ◌≢◌, inl, inr, ℕ, ◌+◌, ◌<◌, ◌≤◌, Bool, true, false, Option, None, Some, List, [], refl, sym, ap, subst, ◌∙◌, arith}
use Rattle.std.specs.Prelude.{IsTrue, not, if◌then◌else◌}
use Rattle.std.proofs.lemmas.Bool.{cases_eq, cases_lt, ne_eqb}
use Rattle.tp_model.specs.Pool.{PlainPool, slot_at}
use Rattle.tp_model.specs.Calls.{volume_blocks}
use Rattle.tp_model.specs.Slots.{BlockSlot}
use Rattle.tp_listings.specs.declared.extent.Extent.{Extent}
use Rattle.tp_listings.specs.Listings.{AreRunsOf, IsDelta}
use Rattle.tp_listings.specs.Seeking.{IsFirst, IsPushed, IsUpTo, Reads, block_of, told}
use Rattle.tp_listings.proofs.Mapped.{later_reads}
use Rattle.tp_listings.proofs.Runs.{more, none, same}

pub up_to : (found : Option BlockSlot) (q : ℕ) → q ≤ block_of found → IsUpTo found q
up_to None q le = tt
up_to (Some x) q le = le

pub told_before : (found : Option BlockSlot) (q : ℕ) → q < block_of found → told found q ≡ None
told_before None q lt = refl
told_before (Some x) q lt = ap (λ b. if b then Some x.place else None) (ne_eqb x.block q (λ e. omega (arith, e, lt)))

pub no_earlier : (found : Option BlockSlot) (from : ℕ) → from < 16777216 → IsUpTo found from → from ≤ block_of found
no_earlier None from lt h = omega (arith, lt)
no_earlier (Some x) from lt h = h

abbrev pub Differ : PlainPool → ℕ → ℕ → ℕ → ℕ → Type 0
Differ s old new from block = (block < from) × (slot_at s new block ≢ slot_at s old block)

module _ (s : PlainPool) (old new from : ℕ) (one other : Option BlockSlot) (first : IsFirst s old from one) (second : IsFirst s new from other) where
  -- before the first slots of both they have none
  alike : (q : ℕ) → from ≤ q → q < block_of one → q < block_of other → slot_at s new q ≡ slot_at s old q
  alike q le l m =
      second.tells q le (up_to other q (omega (arith, m)))
      ∙ (told_before other q m ∙ (sym (told_before one q l) ∙ sym (first.tells q le (up_to one q (omega (arith, l))))))

  old_is : (q : ℕ) → from ≤ q → q ≤ block_of one → slot_at s old q ≡ told one q
  old_is q le l = first.tells q le (up_to one q l)

  new_is : (q : ℕ) → from ≤ q → q ≤ block_of other → slot_at s new q ≡ told other q
  new_is q le l = second.tells q le (up_to other q l)

  -- where they differ behind it, it is no earlier than the first slot
  goes_over : (next : ℕ) (extents : List Extent) → from ≤ next → next ≤ block_of one → next ≤ block_of other → AreRunsOf extents (Differ s old new from) → AreRunsOf extents (Differ s old new next)
  goes_over next extents le l m runs =
      same extents (Differ s old new from) (Differ s old new next) (λ b h. let lt = h.0 in (omega (arith, lt, le), h.1))
      (λ b h.
      let lt = h.0 in
      elim (cases_lt b from) [
        | inl before ↦ (before, h.1)
        | inr g ↦ absurd (h.1 (alike b g (omega (arith, lt, l)) (omega (arith, lt, m))))
      ]) runs

  -- the first block that one of them has
  module _ (block : ℕ) (past : List Extent) (now : List Extent) (from_block : from ≤ block) (l : block ≤ block_of one) (m : block ≤ block_of other) where
    listed_one : IsPushed block past now → (told other block ≢ told one block) → AreRunsOf past (Differ s old new from) → AreRunsOf now (Differ s old new (block + 1))
    listed_one pushed differ runs =
        more block past now (Differ s old new from) (Differ s old new (block + 1)) pushed (λ b h. let lt = h.0 in omega (arith, lt, from_block))
        (λ b h. let lt = h.0 in (omega (arith, lt, from_block), h.1))
        (omega arith, λ e. differ (sym (new_is block from_block m) ∙ (e ∙ old_is block from_block l)))
        (λ b h.
        let lt = h.0 in
        elim (cases_lt b from) [
          | inl before ↦ inl (before, h.1)
          | inr g ↦
              elim (cases_eq b block) [
                | inl e ↦ inr e
                | inr n ↦ absurd (h.1 (alike b g (omega (arith, lt, n, l)) (omega (arith, lt, n, m))))
              ]
        ]) runs

    passed_one : now ≡ past → told other block ≡ told one block → AreRunsOf past (Differ s old new from) → AreRunsOf now (Differ s old new (block + 1))
    passed_one is equal runs =
        subst (λ (e : List Extent). AreRunsOf e (Differ s old new (block + 1))) (sym is)
        (same past (Differ s old new from) (Differ s old new (block + 1)) (λ b h. let lt = h.0 in (omega (arith, lt, from_block), h.1))
        (λ b h.
        let lt = h.0 in
        elim (cases_lt b from) [
          | inl before ↦ (before, h.1)
          | inr g ↦
              elim (cases_eq b block) [
                | inl e ↦
                    absurd
                    (h.1 (subst (λ (q : ℕ). slot_at s new q ≡ slot_at s old q) (sym e) (new_is block from_block m ∙ (equal ∙ sym (old_is block from_block l)))))
                | inr n ↦ absurd (h.1 (alike b g (omega (arith, lt, n, l)) (omega (arith, lt, n, m))))
              ]
        ]) runs)

    by_test : (test : Bool) → (IsTrue test → told other block ≢ told one block) → (IsTrue (not test) → told other block ≡ told one block) → (IsTrue test → IsPushed block past now)
        → (IsTrue (not test) → now ≡ past) → AreRunsOf past (Differ s old new from) → AreRunsOf now (Differ s old new (block + 1))
    by_test true differ equal pushed stays runs = listed_one (pushed refl) (differ refl) runs
    by_test false differ equal pushed stays runs = passed_one (stays refl) (equal refl) runs

-- ---- one step

-- no block is left in which they may differ
pub delta_ends : (s : PlainPool) (old new from blocks block : ℕ) (one other : Option BlockSlot) (slots beside : List BlockSlot) (at past : ℕ) (extents : List Extent)
    → from < blocks → blocks ≤ block → block ≤ block_of one → block ≤ block_of other
    → IsFirst s old from one × Reads s old from slots at → IsFirst s new from other × Reads s new from beside past → AreRunsOf extents (Differ s old new from)
    → Reads s old blocks slots at × Reads s new blocks beside past × AreRunsOf extents (Differ s old new blocks)
delta_ends s old new from blocks block one other slots beside at past extents lt over l m first second runs = (
  later_reads s old from blocks slots at (omega (arith, lt)) first.1,
  later_reads s new from blocks beside past (omega (arith, lt)) second.1,
  goes_over s old new from one other first.0 second.0 blocks extents (omega (arith, lt)) (omega (arith, over, l)) (omega (arith, over, m)) runs,
)

pub delta_goes_on : (s : PlainPool) (old new from block : ℕ) (one other : Option BlockSlot) (slots beside : List BlockSlot) (at past : ℕ) (was now : List Extent) (test : Bool) (place next : Option ℕ)
    → from ≤ block → block ≤ block_of one → block ≤ block_of other → place ≡ told one block → next ≡ told other block
    → (IsTrue test → next ≢ place) → (IsTrue (not test) → next ≡ place) → (IsTrue test → IsPushed block was now) → (IsTrue (not test) → now ≡ was)
    → IsFirst s old from one × Reads s old from slots at → IsFirst s new from other × Reads s new from beside past → AreRunsOf was (Differ s old new from)
    → Reads s old (block + 1) slots at × Reads s new (block + 1) beside past × AreRunsOf now (Differ s old new (block + 1))
delta_goes_on s old new from block one other slots beside at past was now test place next le l m place_is next_is differ equal pushed stays first second runs = (
  later_reads s old from (block + 1) slots at (omega (arith, le)) first.1,
  later_reads s new from (block + 1) beside past (omega (arith, le)) second.1,
  by_test s old new from one other first.0 second.0 block was now le l m test (λ t e. differ t (next_is ∙ (e ∙ sym place_is))) (λ t. sym next_is ∙ (equal t ∙ place_is)) pushed stays runs,
)

-- ---- all of it

pub delta_begins : (s : PlainPool) (old new : ℕ) → AreRunsOf [] (Differ s old new 0)
delta_begins s old new = none (Differ s old new 0) (λ b h. let l = h.0 in omega (arith, l))

pub delta_is : (s : PlainPool) (old new from blocks : ℕ) (slots beside : List BlockSlot) (at past : ℕ) (extents : List Extent) → from ≤ blocks → blocks ≤ from → blocks ≡ volume_blocks s new
    → Reads s old from slots at × Reads s new from beside past × AreRunsOf extents (Differ s old new from) → IsDelta s old new extents
delta_is s old new from blocks slots beside at past extents most end is h = record {
  there = (h.0.there, h.1.there);
  runs = same extents (Differ s old new from) (λ (block : ℕ). (block < volume_blocks s new) × (slot_at s new block ≢ slot_at s old block))
      (λ b x. let l = x.0 in (omega (arith, l, most, is), x.1)) (λ b x. let l = x.0 in (omega (arith, l, end, is), x.1)) h.2;
}

-- the same under the volumes' own names
pub delta_step : (s : PlainPool) (mine yours old new from next : ℕ) (slots later beside after : List BlockSlot) (at past here there : ℕ) (was now : List Extent) → mine ≡ old → yours ≡ new
    → (Reads s mine from slots at → Reads s yours from beside here → AreRunsOf was (Differ s mine yours from)
    → Reads s mine next later past × Reads s yours next after there × AreRunsOf now (Differ s mine yours next))
    → Reads s old from slots at × Reads s new from beside here × AreRunsOf was (Differ s old new from)
    → Reads s old next later past × Reads s new next after there × AreRunsOf now (Differ s old new next)
delta_step s mine yours old new from next slots later beside after at past here there was now same_old same_new step h =
    let a = subst (λ (i : ℕ). Reads s i from slots at × Reads s new from beside here × AreRunsOf was (Differ s i new from)) (sym same_old) h in
    let b = subst (λ (i : ℕ). Reads s mine from slots at × Reads s i from beside here × AreRunsOf was (Differ s mine i from)) (sym same_new) a in
    let d = step b.0 b.1 b.2 in
    let e = subst (λ (i : ℕ). Reads s mine next later past × Reads s i next after there × AreRunsOf now (Differ s mine i next)) same_new d in
    subst (λ (i : ℕ). Reads s i next later past × Reads s new next after there × AreRunsOf now (Differ s i new next)) same_old e
