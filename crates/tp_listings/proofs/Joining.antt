-- Runs with others behind them.
use Rattle.std.proofs.Common.{◌≡◌, ◌≢◌, ◌⊎◌, inl, inr, ℕ, ◌+◌, ◌<◌, ◌≤◌, Bool, true, false, List, [], ◌∷◌, ◌++◌, refl, sym, ap, subst, ◌∙◌, arith, append_assoc}
use Rattle.std.specs.Prelude.{◌==◌, IsSome}
use Rattle.std.proofs.lemmas.Bool.{cases_lt, eq-eqb, eqb-true, false≢true}
use Rattle.tp_model.specs.Pool.{PlainPool, slot_at, volume_size}
use Rattle.tp_model.specs.Calls.{volume_blocks}
use Rattle.tp_listings.specs.declared.extent.Extent.{Extent}
use Rattle.tp_listings.specs.Listings.{AreApart, AreRunsOf, Covers, IsDelta}
use Rattle.tp_listings.specs.Pages.{joined, meet}
use Rattle.tp_listings.proofs.Runs.{ends_before, same}

-- ---- two runs

meet_of : (test : Bool) (e f : Extent) (fs : List Extent) (b : ℕ) → test ≡ (e.first + e.blocks == f.first) → Covers (meet test e f fs) b → Covers (e ∷ []) b ⊎ Covers (f ∷ fs) b
meet_of true e f fs b is (inl h) =
    let ends : e.first + e.blocks ≡ f.first = eqb-true (e.first + e.blocks) f.first (sym is) in
    let l = h.0 in
    let r = h.1 in
    elim (cases_lt b f.first) [
      | inl lt ↦ inl (inl (l, omega (arith, lt, ends)))
      | inr g ↦ inr (inl (g, omega (arith, r, ends)))
    ]
meet_of true e f fs b is (inr h) = inr (inr h)
meet_of false e f fs b is (inl h) = inl (inl h)
meet_of false e f fs b is (inr h) = inr h

meet_left : (test : Bool) (e f : Extent) (fs : List Extent) (b : ℕ) → Covers (e ∷ []) b → Covers (meet test e f fs) b
meet_left true e f fs b (inl h) = let l = h.0 in let r = h.1 in inl (l, omega (arith, r))
meet_left false e f fs b (inl h) = inl h
meet_left test e f fs b (inr h) = absurd h

meet_right : (test : Bool) (e f : Extent) (fs : List Extent) (b : ℕ) → test ≡ (e.first + e.blocks == f.first) → Covers (f ∷ fs) b → Covers (meet test e f fs) b
meet_right true e f fs b is (inl h) =
    let ends : e.first + e.blocks ≡ f.first = eqb-true (e.first + e.blocks) f.first (sym is) in
    let l = h.0 in
    let r = h.1 in
    inl (omega (arith, l, ends), omega (arith, r, ends))
meet_right true e f fs b is (inr h) = inr h
meet_right false e f fs b is h = inr h

meet_apart : (from : ℕ) (test : Bool) (e f : Extent) (fs : List Extent) → test ≡ (e.first + e.blocks == f.first) → from ≤ e.first → 0 < e.blocks → e.first + e.blocks ≤ f.first → AreApart 0 (f ∷ fs)
    → AreApart from (meet test e f fs)
meet_apart from true e f fs is low some before apart =
    let ends : e.first + e.blocks ≡ f.first = eqb-true (e.first + e.blocks) f.first (sym is) in
    let far : f.first + f.blocks + 1 ≡ e.first + (e.blocks + f.blocks) + 1 = omega (arith, ends) in
    (low, omega (arith, some), subst (λ (n : ℕ). AreApart n fs) far apart.2)
meet_apart from false e f fs is low some before apart =
    let differ : e.first + e.blocks ≡ f.first → ⊥ = λ ends. false≢true (is ∙ eq-eqb (e.first + e.blocks) f.first ends) in
    (low, some, (omega (arith, before, differ), apart.1, apart.2))

-- ---- lists of runs

joined_of : (es fs : List Extent) (b : ℕ) → Covers (joined es fs) b → Covers es b ⊎ Covers fs b
joined_of [] fs b h = inr h
joined_of (e ∷ []) [] b h = inl h
joined_of (e ∷ []) (f ∷ fs) b h = meet_of (e.first + e.blocks == f.first) e f fs b refl h
joined_of (e ∷ d ∷ es) fs b (inl h) = inl (inl h)
joined_of (e ∷ d ∷ es) fs b (inr h) = elim (joined_of (d ∷ es) fs b h) [ inl l ↦ inl (inr l) | inr r ↦ inr r ]

joined_left : (es fs : List Extent) (b : ℕ) → Covers es b → Covers (joined es fs) b
joined_left [] fs b h = absurd h
joined_left (e ∷ []) [] b h = h
joined_left (e ∷ []) (f ∷ fs) b h = meet_left (e.first + e.blocks == f.first) e f fs b h
joined_left (e ∷ d ∷ es) fs b (inl h) = inl h
joined_left (e ∷ d ∷ es) fs b (inr h) = inr (joined_left (d ∷ es) fs b h)

joined_right : (es fs : List Extent) (b : ℕ) → Covers fs b → Covers (joined es fs) b
joined_right [] fs b h = h
joined_right (e ∷ []) [] b h = absurd h
joined_right (e ∷ []) (f ∷ fs) b h = meet_right (e.first + e.blocks == f.first) e f fs b refl h
joined_right (e ∷ d ∷ es) fs b h = inr (joined_right (d ∷ es) fs b h)

-- the first of them begins no earlier than all of them
first_no_earlier : (mid : ℕ) (f : Extent) (fs : List Extent) → 0 < f.blocks → ((b : ℕ) → Covers (f ∷ fs) b → mid ≤ b) → mid ≤ f.first
first_no_earlier mid f fs some h = h f.first (inl (omega arith, omega (arith, some)))

joined_apart : (from mid : ℕ) (e : Extent) (es fs : List Extent) → AreApart from (e ∷ es) → AreApart 0 fs → ((b : ℕ) → Covers (e ∷ es) b → b < mid) → ((b : ℕ) → Covers fs b → mid ≤ b) → AreApart from (joined (e ∷ es) fs)
joined_apart from mid e [] [] apart behind low high = apart
joined_apart from mid e [] (f ∷ fs) apart behind low high =
    let ends = ends_before mid [] e apart.1 low in
    let later = first_no_earlier mid f fs behind.1 high in
    meet_apart from (e.first + e.blocks == f.first) e f fs refl apart.0 apart.1 (omega (arith, ends, later)) behind
joined_apart from mid e (d ∷ es) fs apart behind low high = (apart.0, apart.1, joined_apart (e.first + e.blocks + 1) mid d es fs apart.2 behind (λ b c. low b (inr c)) high)

all_apart : (mid : ℕ) (es fs : List Extent) → AreApart 0 es → AreApart 0 fs → ((b : ℕ) → Covers es b → b < mid) → ((b : ℕ) → Covers fs b → mid ≤ b) → AreApart 0 (joined es fs)
all_apart mid [] fs apart behind low high = behind
all_apart mid (e ∷ es) fs apart behind low high = joined_apart 0 mid e es fs apart behind low high

pub runs_join : (s : PlainPool) (old new from mid end : ℕ) (es fs : List Extent) → from ≤ mid → mid ≤ end
    → AreRunsOf es (λ block. (from ≤ block) × (block < mid) × (slot_at s new block ≢ slot_at s old block)) → AreRunsOf fs (λ block. (mid ≤ block) × (block < end) × (slot_at s new block ≢ slot_at s old block))
    → AreRunsOf (joined es fs) (λ block. (from ≤ block) × (block < end) × (slot_at s new block ≢ slot_at s old block))
runs_join s old new from mid end es fs low high one two = record {
  apart = all_apart mid es fs one.apart two.apart (λ b c. (one.has b c).1) (λ b c. (two.has b c).0);
  has = λ b c. elim (joined_of es fs b c) [
    | inl l ↦ let h = one.has b l in let lt = h.1 in (h.0, omega (arith, lt, high), h.2)
    | inr r ↦ let h = two.has b r in let g = h.0 in (omega (arith, g, low), h.1, h.2)
  ];
  all = λ b x. elim (cases_lt b mid) [
    | inl lt ↦ joined_left es fs b (one.all b (x.0, lt, x.2))
    | inr g ↦ joined_right es fs b (two.all b (g, x.1, x.2))
  ];
}

pub all_joined : (s : PlainPool) (old new : ℕ) (es : List Extent) → IsSome (volume_size s old) → IsSome (volume_size s new)
    → AreRunsOf es (λ block. (0 ≤ block) × (block < volume_blocks s new) × (slot_at s new block ≢ slot_at s old block)) → IsDelta s old new es
all_joined s old new es one other runs = record {
  there = (one, other);
  runs = same es (λ (block : ℕ). (0 ≤ block) × (block < volume_blocks s new) × (slot_at s new block ≢ slot_at s old block)) (λ (block : ℕ). (block < volume_blocks s new) × (slot_at s new block ≢ slot_at s old block))
      (λ b h. (h.1, h.2)) (λ b h. (omega arith, h.0, h.1)) runs;
}

-- ---- one run more

joined_last : (rest : List Extent) (last run : Extent) → joined (rest ++ last ∷ []) (run ∷ []) ≡ rest ++ meet (last.first + last.blocks == run.first) last run []
joined_last [] last run = refl
joined_last (x ∷ []) last run = refl
joined_last (x ∷ y ∷ ys) last run = ap (λ (l : List Extent). x ∷ l) (joined_last (y ∷ ys) last run)

joined_by : (old rest : List Extent) (last run : Extent) (test to : Bool) → test ≡ (last.first + last.blocks == run.first) → test ≡ to → old ≡ rest ++ last ∷ [] → joined old (run ∷ []) ≡ rest ++ meet to last run []
joined_by old rest last run test to is so was =
    ap (λ (l : List Extent). joined l (run ∷ [])) was ∙ (joined_last rest last run ∙ ap (λ (t : Bool). rest ++ meet t last run []) (sym is ∙ so))

pub joined_longer : (old rest now : List Extent) (last run : Extent) (test : Bool) → test ≡ (last.first + last.blocks == run.first) → test ≡ true → old ≡ rest ++ last ∷ []
    → now ≡ rest ++ record { first = last.first; blocks = last.blocks + run.blocks } ∷ [] → now ≡ joined old (run ∷ [])
joined_longer old rest now last run test is holds was left = left ∙ sym (joined_by old rest last run test true is holds was)

pub joined_more : (old rest back now : List Extent) (last run : Extent) (test : Bool) → test ≡ (last.first + last.blocks == run.first) → test ≡ false → old ≡ rest ++ last ∷ [] → back ≡ rest ++ last ∷ []
    → now ≡ back ++ run ∷ [] → now ≡ joined old (run ∷ [])
joined_more old rest back now last run test is holds was again left =
    left ∙ (ap (λ (l : List Extent). l ++ run ∷ []) again ∙ (append_assoc rest (last ∷ []) (run ∷ []) ∙ sym (joined_by old rest last run test false is holds was)))
