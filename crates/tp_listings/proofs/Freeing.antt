-- The data blocks that nobody has, as runs.
use Rattle.std.proofs.Common.{◌≡◌, ℕ, ◌+◌, ◌<◌, ◌≤◌, ◌⊎◌, inl, inr, List, [], length, Some, sym, ap, subst, ◌∙◌, arith}
use Rattle.std.specs.Prelude.{slice_index}
use Rattle.std.proofs.lemmas.Bool.{cases_lt}
use Rattle.tp_model.specs.Pool.{IsConsistent, PlainPool, slot_at}
use Rattle.tp_listings.specs.declared.extent.Extent.{Extent}
use Rattle.tp_listings.specs.declared.extent.Usage.{Usage}
use Rattle.tp_listings.specs.Listings.{AreRunsOf, IsFreeList}
use Rattle.tp_listings.specs.Owned.{HasPlace, IsOwner, IsSurvey, usage_at}
use Rattle.tp_listings.specs.Seeking.{IsPushed}
use Rattle.tp_listings.proofs.Runs.{more, none, same}
use Rattle.tp_listings.proofs.Surveys.{listed_now, slot_listed}

-- of the first so many
abbrev pub IsBlank : List ℕ → ℕ → ℕ → Type 0
IsBlank owners n place = (place < n) × (slice_index owners place ≡ 0)

pub blank_first : (owners : List ℕ) (es : List Extent) → es ≡ [] → AreRunsOf es (IsBlank owners 0)
blank_first owners es is = subst (λ (l : List Extent). AreRunsOf l (IsBlank owners 0)) (sym is) (none (IsBlank owners 0) (λ b h. let l = h.0 in absurd (omega (arith, l))))

one_or_before : (n b : ℕ) → b < n + 1 → (b < n) ⊎ (b ≡ n)
one_or_before n b h = elim (cases_lt b n) [ inl l ↦ inl l | inr g ↦ inr (omega (arith, h, g)) ]

pub blank_more : (owners : List ℕ) (n : ℕ) (old new : List Extent) → slice_index owners n ≡ 0 → IsPushed n old new → AreRunsOf old (IsBlank owners n) → AreRunsOf new (IsBlank owners (n + 1))
blank_more owners n old new is pushed =
    more n old new (IsBlank owners n) (IsBlank owners (n + 1)) pushed (λ b h. h.0) (λ b h. (let l = h.0 in omega (arith, l), h.1)) (omega arith, is)
    (λ b h. elim (one_or_before n b h.0) [ inl l ↦ inl (l, h.1) | inr e ↦ inr e ])

pub blank_less : (owners : List ℕ) (n : ℕ) (es : List Extent) → (slice_index owners n ≡ 0 → ⊥) → AreRunsOf es (IsBlank owners n) → AreRunsOf es (IsBlank owners (n + 1))
blank_less owners n es taken =
    same es (IsBlank owners n) (IsBlank owners (n + 1)) (λ b h. (let l = h.0 in omega (arith, l), h.1))
    (λ b h. elim (one_or_before n b h.0) [ inl l ↦ (l, h.1) | inr e ↦ absurd (taken (ap (slice_index owners) (sym e) ∙ h.1)) ])

-- where nobody has it no volume of the first k does, and where none does nobody has it
zero_has : (Has : ℕ → Type 0) (k o j : ℕ) → IsOwner Has k o → o ≡ 0 → j < k → Has j → ⊥
zero_has Has k o j (inl w) e lt h = w.none j lt h
zero_has Has k o j (inr (inl w)) e lt h = let is = w.is in absurd (omega (arith, is, e))
zero_has Has k o j (inr (inr w)) e lt h = let is = w.is in absurd (omega (arith, is, e))

none_zero : (Has : ℕ → Type 0) (k o : ℕ) → IsOwner Has k o → ((j : ℕ) → j < k → Has j → ⊥) → o ≡ 0
none_zero Has k o (inl w) n = w.is
none_zero Has k o (inr (inl w)) n = absurd (n w.place w.low w.has)
none_zero Has k o (inr (inr w)) n = absurd (n w.one w.low_one w.has_one)

pub free_is : (s : PlainPool) (us : List Usage) (owners : List ℕ) (blocks : ℕ) (es : List Extent) → IsSurvey s 16777216 us owners → IsConsistent s → blocks ≡ s.geometry.data_blocks → blocks ≤ length owners
    → AreRunsOf es (IsBlank owners blocks) → IsFreeList s es
free_is s us owners blocks es w sound size within runs = record {
  of_volumes = same es (IsBlank owners blocks) (λ place. (place < s.geometry.data_blocks) × ((id block : ℕ) → id < 16777216 → slot_at s id block ≡ Some place → ⊥))
      (λ place h. (
        subst (λ (n : ℕ). place < n) size h.0,
        λ id block small slot.
            let a = listed_now s us owners w id block place small slot in
            zero_has (λ j. HasPlace s (usage_at us j).id place) (length us) (slice_index owners place) a.1.0 (w.says place a.0) h.1 a.1.1
            (block, ap (λ i. slot_at s i block) a.1.2 ∙ slot),
      ))
      (λ place h.
      let low : place < blocks = subst (λ (n : ℕ). place < n) (sym size) h.0 in
      (low, none_zero (λ j. HasPlace s (usage_at us j).id place) (length us) (slice_index owners place) (w.says place (omega (arith, low, within))) (λ j lt has. h.1 (usage_at us j).id has.0 (w.low j lt) has.1))) runs;
  runs = λ held. same es (IsBlank owners blocks) (λ place. (place < s.geometry.data_blocks) × ((id block : ℕ) → slot_at s id block ≡ Some place → ⊥))
      (λ place h. (
        subst (λ (n : ℕ). place < n) size h.0,
        λ id block slot.
            let a = slot_listed s us owners w sound held id block place slot in
            zero_has (λ j. HasPlace s (usage_at us j).id place) (length us) (slice_index owners place) a.1.0 (w.says place a.0) h.1 a.1.1
            (block, ap (λ i. slot_at s i block) a.1.2 ∙ slot),
      ))
      (λ place h.
      let low : place < blocks = subst (λ (n : ℕ). place < n) (sym size) h.0 in
      (low, none_zero (λ j. HasPlace s (usage_at us j).id place) (length us) (slice_index owners place) (w.says place (omega (arith, low, within))) (λ j lt has. h.1 (usage_at us j).id has.0 has.1))) runs;
}
