-- Marks that are cleared where they were set.
use Rattle.std.proofs.Common.{below_more, min, ◌≡◌, ℕ, zero, suc, ◌+◌, ◌<◌, ◌≤◌, inl, inr, Bool, true, false, List, [], ◌∷◌, ◌++◌, length, get_or, set, replicate, refl, sym, ap, subst, ◌∙◌, arith}
use Rattle.std.proofs.lemmas.Bool.{cases_eq, cases_lt, false≢true}
use Rattle.std.proofs.lemmas.Bool.Decides.{nat_tests}
use Rattle.std.proofs.lemmas.List.{length-append, get_or-set_same, get_or-set_other, get_or_past, length-replicate, length-set}
use Rattle.tp_meta.specs.Marking.{AreAmong, AreFollowed, AreListed, IsOneOf, cleared, listed_with, marks_set}

here_last : (p : ℕ) (ps : List ℕ) → IsOneOf p (ps ++ p ∷ [])
here_last p [] = inl refl
here_last p (q ∷ ps) = inr (here_last p ps)

there_still : (n p : ℕ) (ps : List ℕ) → IsOneOf n ps → IsOneOf n (ps ++ p ∷ [])
there_still n p [] h = absurd h
there_still n p (q ∷ ps) (inl e) = inl e
there_still n p (q ∷ ps) (inr h) = inr (there_still n p ps h)

-- a mark was set
among_more : (p : ℕ) (ps : List ℕ) (marks : List Bool) → AreAmong ps marks → AreAmong (ps ++ p ∷ []) (set marks p true)
among_more p ps marks all n is =
    elim (cases_eq n p) [
      | inl e ↦ subst (λ k. IsOneOf k (ps ++ p ∷ [])) (sym e) (here_last p ps)
      | inr differ ↦ there_still n p ps (all n (sym (get_or-set_other marks p n true false differ) ∙ is))
    ]

listed_yes : (p : ℕ) (ps : List ℕ) → length ps < 4096 → listed_with p ps ≡ ps ++ p ∷ []
listed_yes p ps h = grind (arith, nat_tests)

listed_no : (p : ℕ) (ps : List ℕ) → 4096 ≤ length ps → listed_with p ps ≡ ps
listed_no p ps h = grind (arith, nat_tests)

followed_more : (p : ℕ) (ps : List ℕ) (marks : List Bool) → AreFollowed marks ps → AreFollowed (set marks p true) (listed_with p ps)
followed_more p ps marks follows few =
    elim (cases_lt (length ps) 4096) [
      | inl l ↦ subst (λ l. AreAmong l (set marks p true)) (sym (listed_yes p ps l)) (among_more p ps marks (follows l))
      | inr g ↦ absurd (omega (arith, few, ap length (listed_no p ps g), g))
    ]

-- the mark at a place was cleared
none_there : (p : ℕ) (marks : List Bool) → get_or (set marks p false) p false ≡ false
none_there p marks =
    elim (cases_lt p (length marks)) [
      | inl l ↦ get_or-set_same marks p false false l
      | inr g ↦ get_or_past (set marks p false) p false (omega (arith, g, length-set marks p false))
    ]

among_less : (p : ℕ) (ps : List ℕ) (marks : List Bool) → AreAmong (p ∷ ps) marks → AreAmong ps (set marks p false)
among_less p ps marks all n is =
    elim (cases_eq n p) [
      | inl e ↦ absurd (false≢true (sym (subst (λ k. get_or (set marks p false) k false ≡ false) (sym e) (none_there p marks)) ∙ is))
      | inr differ ↦ elim (all n (sym (get_or-set_other marks p n false false differ) ∙ is)) [
        | inl e ↦ absurd (differ e)
        | inr rest ↦ rest
      ]
    ]

none_set : (marks : List Bool) → ((n : ℕ) → get_or marks n false ≡ true → ⊥) → marks ≡ replicate (length marks) false
none_set [] none = refl
none_set (true ∷ marks) none = absurd (none 0 refl)
none_set (false ∷ marks) none = ap (λ (l : List Bool). false ∷ l) (none_set marks (λ n. none (suc n)))

pub all_cleared : (ps : List ℕ) (marks : List Bool) → AreAmong ps marks → cleared marks ps ≡ replicate (length marks) false
all_cleared [] marks all = none_set marks all
all_cleared (p ∷ ps) marks all =
    all_cleared ps (set marks p false) (among_less p ps marks all)
    ∙ ap (λ n. replicate {A = Bool} n false) (length-set marks p false)

none_followed : (n : ℕ) (marks : List Bool) (ps : List ℕ) → marks ≡ replicate n false → AreFollowed marks ps
none_followed n marks ps none few k is = absurd (false≢true (sym (ap (λ (l : List Bool). get_or l k false) none ∙ no_mark n k) ∙ is)) where
  no_mark : (n k : ℕ) → get_or (replicate {A = Bool} n false) k false ≡ false
  no_mark zero k = refl
  no_mark (suc n) zero = refl
  no_mark (suc n) (suc k) = no_mark n k

-- ---- how many are set

marked_more : (p : ℕ) (marks : List Bool) → p < length marks → get_or marks p false ≡ false → marks_set (set marks p true) ≡ marks_set marks + 1
marked_more p [] low clear = absurd (omega (arith, low))
marked_more zero (true ∷ marks) low clear = absurd (false≢true (sym clear))
marked_more zero (false ∷ marks) low clear = omega arith
marked_more (suc p) (true ∷ marks) low clear = omega (arith, marked_more p marks (omega (arith, low)) clear)
marked_more (suc p) (false ∷ marks) low clear = marked_more p marks (omega (arith, low)) clear

none_marked : (n : ℕ) → marks_set (replicate {A = Bool} n false) ≡ 0
none_marked zero = refl
none_marked (suc n) = none_marked n

each_marked : (n : ℕ) → marks_set (replicate {A = Bool} n true) ≡ n
each_marked zero = refl
each_marked (suc n) = omega (arith, each_marked n)

pub none_listed : (n : ℕ) (marks : List Bool) → marks ≡ replicate n false → AreListed marks []
none_listed n marks none = record { follow = none_followed n marks [] none; count = omega (arith, ap marks_set none ∙ none_marked n) }

pub listed_more : (p : ℕ) (ps : List ℕ) (marks : List Bool) → p < length marks → get_or marks p false ≡ false → AreListed marks ps → AreListed (set marks p true) (listed_with p ps)
listed_more p ps marks low clear listed = record {
  follow = followed_more p ps marks listed.follow;
  count = elim (cases_lt (length ps) 4096) [
    | inl few ↦ omega (arith, ap length (listed_yes p ps few), length-append ps (p ∷ []), listed.count, few, marked_more p marks low clear)
    | inr full ↦ omega (arith, ap length (listed_no p ps full), listed.count, full, marked_more p marks low clear)
  ];
}

pub each_listed : (n k : ℕ) (marks : List Bool) (ps : List ℕ) → marks ≡ replicate n true → k ≡ min n 4096 → length ps ≡ k → ((i : ℕ) → i < k → IsOneOf i ps) → AreListed marks ps
each_listed n k marks ps set_all is long each = record {
  follow = λ few i marked. elim (cases_lt i (length marks)) [
    | inl low ↦ each i (omega (arith, low, few, is, long, ap length set_all, length-replicate {A = Bool} n true))
    | inr past ↦ absurd (false≢true (sym (get_or_past marks i false past) ∙ marked))
  ];
  count = omega (arith, is, long, ap marks_set set_all ∙ each_marked n);
}

-- places from the first on are listed
pub one_more : (i : ℕ) (ps : List ℕ) → length ps ≡ i → i < 4096 → ((k : ℕ) → k < i → IsOneOf k ps) → (k : ℕ) → k < i + 1 → IsOneOf k (listed_with i ps)
one_more i ps long few each =
    below_more (λ k. IsOneOf k (listed_with i ps)) i (λ k low. subst (λ (l : List ℕ). IsOneOf k l) (sym (listed_yes i ps (omega (arith, long, few)))) (there_still k i ps (each k low)))
    (subst (λ (l : List ℕ). IsOneOf i l) (sym (listed_yes i ps (omega (arith, long, few)))) (here_last i ps))

pub one_longer : (i : ℕ) (ps : List ℕ) → length ps ≡ i → i < 4096 → length (listed_with i ps) ≡ i + 1
one_longer i ps long few = omega (arith, ap length (listed_yes i ps (omega (arith, long, few))), length-append ps (i ∷ []), long)
