-- Runs that grow block by block.
use Rattle.std.proofs.Common.{◌≡◌, ◌⊎◌, inl, inr, ℕ, ◌+◌, ◌-◌, ◌==◌, Bool, true, false, ◌<◌, ◌≤◌, List, [], ◌∷◌, ◌++◌, refl, sym, ap, subst, ◌∙◌, arith}
use Rattle.std.proofs.lemmas.Bool.{cases_lt, eq-eqb, eqb-true, false≢true}
use Rattle.tp_listings.specs.declared.extent.Extent.{Extent}
use Rattle.tp_listings.specs.Listings.{AreApart, AreRunsOf, Covers}
use Rattle.tp_listings.specs.Seeking.{IsPushed}

-- ---- one run more

covers_left : (xs ys : List Extent) (b : ℕ) → Covers xs b → Covers (xs ++ ys) b
covers_left [] ys b h = absurd h
covers_left (x ∷ xs) ys b (inl h) = inl h
covers_left (x ∷ xs) ys b (inr h) = inr (covers_left xs ys b h)

covers_right : (xs ys : List Extent) (b : ℕ) → Covers ys b → Covers (xs ++ ys) b
covers_right [] ys b h = h
covers_right (x ∷ xs) ys b h = inr (covers_right xs ys b h)

covers_of : (xs ys : List Extent) (b : ℕ) → Covers (xs ++ ys) b → Covers xs b ⊎ Covers ys b
covers_of [] ys b h = inr h
covers_of (x ∷ xs) ys b (inl h) = inl (inl h)
covers_of (x ∷ xs) ys b (inr h) = elim (covers_of xs ys b h) [ inl l ↦ inl (inr l) | inr r ↦ inr r ]

-- a run of one block covers that one
in_one : (e : Extent) (block b : ℕ) → e.first ≡ block → e.blocks ≡ 1 → Covers (e ∷ []) b → b ≡ block
in_one e block b f n (inl h) = let l = h.0 in let r = h.1 in omega (arith, l, r, f, n)
in_one e block b f n (inr h) = absurd h

one_in : (e : Extent) (block : ℕ) → e.first ≡ block → e.blocks ≡ 1 → Covers (e ∷ []) block
one_in e block f n = inl (omega (arith, f), omega (arith, f, n))

apart_longer : (from : ℕ) (xs : List Extent) (e f : Extent) → f.first ≡ e.first → f.blocks ≡ e.blocks + 1 → AreApart from (xs ++ e ∷ []) → AreApart from (xs ++ f ∷ [])
apart_longer from [] e f a n h = let l = h.0 in (omega (arith, l, a), omega (arith, n), tt)
apart_longer from (x ∷ xs) e f a n h = (h.0, h.1, apart_longer (x.first + x.blocks + 1) xs e f a n h.2)

apart_more : (from : ℕ) (xs : List Extent) (e f : Extent) → e.first + e.blocks < f.first → 0 < f.blocks → AreApart from (xs ++ e ∷ []) → AreApart from ((xs ++ e ∷ []) ++ f ∷ [])
apart_more from [] e f a n h = (h.0, h.1, (omega (arith, a), n, tt))
apart_more from (x ∷ xs) e f a n h = (h.0, h.1, apart_more (x.first + x.blocks + 1) xs e f a n h.2)

last_has : (from : ℕ) (xs : List Extent) (e : Extent) → AreApart from (xs ++ e ∷ []) → 0 < e.blocks
last_has from [] e h = h.1
last_has from (x ∷ xs) e h = last_has (x.first + x.blocks + 1) xs e h.2

-- ---- one block more

pub alone : (block : ℕ) (e : Extent) → e.first ≡ block → e.blocks ≡ 1 → IsPushed block [] (e ∷ [])
alone block e f n = record {
  apart = λ a h. (omega arith, omega (arith, n), tt);
  has = λ b h. inr (in_one e block b f n h);
  still = λ b h. absurd h;
  one = one_in e block f n;
}

in_longer : (block : ℕ) (last longer : Extent) (b : ℕ) → last.first + last.blocks ≡ block → longer.first ≡ last.first → longer.blocks ≡ last.blocks + 1 → Covers (longer ∷ []) b → Covers (last ∷ []) b ⊎ (b ≡ block)
in_longer block last longer b ends f n (inr h) = absurd h
in_longer block last longer b ends f n (inl h) =
    let l = h.0 in
    let r = h.1 in
    elim (cases_lt b block) [
      | inl lt ↦ inl (inl (omega (arith, l, f), omega (arith, lt, ends)))
      | inr g ↦ inr (omega (arith, g, r, ends, f, n))
    ]

longer_in : (last longer : Extent) (b : ℕ) → longer.first ≡ last.first → longer.blocks ≡ last.blocks + 1 → Covers (last ∷ []) b → Covers (longer ∷ []) b
longer_in last longer b f n (inr h) = absurd h
longer_in last longer b f n (inl h) = let l = h.0 in let r = h.1 in inl (omega (arith, l, f), omega (arith, r, f, n))

pub goes_on : (block : ℕ) (xs : List Extent) (last longer : Extent) → last.first + last.blocks ≡ block → longer.first ≡ last.first → longer.blocks ≡ last.blocks + 1
    → IsPushed block (xs ++ last ∷ []) (xs ++ longer ∷ [])
goes_on block xs last longer ends f n = record {
  apart = λ a h. apart_longer 0 xs last longer f n a;
  has = λ b h. elim (covers_of xs (longer ∷ []) b h) [
    | inl l ↦ inl (covers_left xs (last ∷ []) b l)
    | inr r ↦ elim (in_longer block last longer b ends f n r) [ inl l ↦ inl (covers_right xs (last ∷ []) b l) | inr e ↦ inr e ]
  ];
  still = λ b h. elim (covers_of xs (last ∷ []) b h) [
    | inl l ↦ covers_left xs (longer ∷ []) b l
    | inr r ↦ covers_right xs (longer ∷ []) b (longer_in last longer b f n r)
  ];
  one = covers_right xs (longer ∷ []) block (inl (omega (arith, ends, f), omega (arith, ends, f, n)));
}

-- the last block of the last run
pub ends_before : (block : ℕ) (xs : List Extent) (last : Extent) → 0 < last.blocks → ((b : ℕ) → Covers (xs ++ last ∷ []) b → b < block) → last.first + last.blocks ≤ block
ends_before block xs last some h = by last.blocks refl
  where
    by : (n : ℕ) → n ≡ last.blocks → last.first + last.blocks ≤ block
    by n e =
        let b : ℕ = last.first + (last.blocks - 1) in
        let l : b < block = h b (covers_right xs (last ∷ []) b (inl (omega arith, omega (arith, some)))) in
        omega (arith, l, some)

pub begins : (block : ℕ) (xs : List Extent) (last e : Extent) → (last.first + last.blocks ≡ block → ⊥) → e.first ≡ block → e.blocks ≡ 1
    → IsPushed block (xs ++ last ∷ []) ((xs ++ last ∷ []) ++ e ∷ [])
begins block xs last e not f n = record {
  apart = λ a h.
      let some = last_has 0 xs last a in
      let l = ends_before block xs last some h in
      apart_more 0 xs last e (omega (arith, l, not, f)) (omega (arith, n)) a;
  has = λ b h. elim (covers_of (xs ++ last ∷ []) (e ∷ []) b h) [ inl l ↦ inl l | inr r ↦ inr (in_one e block b f n r) ];
  still = λ b h. covers_left (xs ++ last ∷ []) (e ∷ []) b h;
  one = covers_right (xs ++ last ∷ []) (e ∷ []) block (one_in e block f n);
}

-- the last run begins no earlier than they do
starts_behind : (from : ℕ) (xs : List Extent) (last : Extent) → AreApart from (xs ++ last ∷ []) → from ≤ last.first
starts_behind from [] last h = h.0
starts_behind from (x ∷ xs) last h = let l = starts_behind (x.first + x.blocks + 1) xs last h.2 in let m = h.0 in omega (arith, l, m)

-- and behind the runs before it
before_last : (from : ℕ) (xs : List Extent) (last : Extent) (b : ℕ) → AreApart from (xs ++ last ∷ []) → Covers xs b → b + 1 < last.first
before_last from [] last b h c = absurd c
before_last from (x ∷ xs) last b h (inl c) =
    let l = starts_behind (x.first + x.blocks + 1) xs last h.2 in let r = c.1 in omega (arith, l, r)
before_last from (x ∷ xs) last b h (inr c) = before_last (x.first + x.blocks + 1) xs last b h.2 c

in_last : (block : ℕ) (last : Extent) (b : ℕ) → (last.first + last.blocks ≡ block → ⊥) → last.first + last.blocks ≤ block → b + 1 ≡ block → Covers (last ∷ []) b → ⊥
in_last block last b not ends next (inl c) = let up = c.1 in not (omega (arith, up, ends, next))
in_last block last b not ends next (inr c) = absurd c

-- where the last run does not end before a block, no run does
pub not_before : (block : ℕ) (xs : List Extent) (last : Extent) → (last.first + last.blocks ≡ block → ⊥) → AreApart 0 (xs ++ last ∷ []) → ((b : ℕ) → Covers (xs ++ last ∷ []) b → b < block)
    → (before : ℕ) → before + 1 ≡ block → Covers (xs ++ last ∷ []) before → ⊥
not_before block xs last not a h before next c =
    let some = last_has 0 xs last a in
    let ends = ends_before block xs last some h in
    elim (covers_of xs (last ∷ []) before c) [
      | inl l ↦ let early = before_last 0 xs last before a l in absurd (omega (arith, early, some, ends, next))
      | inr r ↦ in_last block last before not ends next r
    ]

-- ---- runs of what holds of blocks

pub none : (Has : ℕ → Type 0) → ((b : ℕ) → Has b → ⊥) → AreRunsOf [] Has
none Has h = record { apart = tt; has = λ b c. absurd c; all = λ b x. h b x }

pub same : (extents : List Extent) (Has Now : ℕ → Type 0) → ((b : ℕ) → Has b → Now b) → ((b : ℕ) → Now b → Has b) → AreRunsOf extents Has → AreRunsOf extents Now
same extents Has Now to fro r = record { apart = r.apart; has = λ b c. to b (r.has b c); all = λ b x. r.all b (fro b x) }

pub more : (block : ℕ) (old new : List Extent) (Has Now : ℕ → Type 0) → IsPushed block old new → ((b : ℕ) → Has b → b < block) → ((b : ℕ) → Has b → Now b) → Now block
    → ((b : ℕ) → Now b → Has b ⊎ (b ≡ block)) → AreRunsOf old Has → AreRunsOf new Now
more block old new Has Now p before to here fro r = record {
  apart = p.apart r.apart (λ b c. before b (r.has b c));
  has = λ b c. elim (p.has b c) [ inl o ↦ to b (r.has b o) | inr e ↦ subst Now (sym e) here ];
  all = λ b x. elim (fro b x) [ inl h ↦ p.still b (r.all b h) | inr e ↦ subst (Covers new) (sym e) p.one ];
}

-- ---- what a push leaves

pub longer_left : (block : ℕ) (old rest now : List Extent) (last longer : Extent) (test : Bool) → test ≡ (last.first + last.blocks == block) → test ≡ true
    → longer.first ≡ last.first → longer.blocks ≡ last.blocks + 1 → old ≡ rest ++ last ∷ [] → now ≡ rest ++ longer ∷ [] → IsPushed block old now
longer_left block old rest now last longer test is holds f n was left =
    subst (λ (l : List Extent). IsPushed block l now) (sym was)
    (subst (λ (l : List Extent). IsPushed block (rest ++ last ∷ []) l) (sym left) (goes_on block rest last longer (eqb-true (last.first + last.blocks) block (sym is ∙ holds)) f n))

pub more_left : (block : ℕ) (old rest back now : List Extent) (last e : Extent) (test : Bool) → test ≡ (last.first + last.blocks == block) → test ≡ false
    → e.first ≡ block → e.blocks ≡ 1 → old ≡ rest ++ last ∷ [] → back ≡ rest ++ last ∷ [] → now ≡ back ++ e ∷ [] → IsPushed block old now
more_left block old rest back now last e test is not f n was again left =
    subst (λ (l : List Extent). IsPushed block l now) (sym was)
    (subst (λ (l : List Extent). IsPushed block (rest ++ last ∷ []) l) (sym (left ∙ ap (λ (l : List Extent). l ++ e ∷ []) again))
    (begins block rest last e (λ ends. false≢true (sym not ∙ (is ∙ eq-eqb (last.first + last.blocks) block ends))) f n))
