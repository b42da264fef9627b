-- Of a piece its front was asked.
use Rattle.std.proofs.Common.{◌≡◌, ℕ, zero, suc, ◌<◌, ◌≤◌, List, [], ◌∷◌, length, take, take-take, length-take-le, inl, inr, refl, sym, subst, arith}
use Rattle.std.proofs.lemmas.List.{take_all}
use Rattle.tp_hub.specs.Told.{Answer, Told}
use Rattle.tp_hub.specs.Runs.{Brings, Incoming}
use Rattle.tp_hub.specs.Desks.{IsAsked}
use Rattle.tp_hub.specs.Parts.{taken_len}

module _ (Did : List Incoming → List Answer → Type 0) (session : ℕ) (piece : List ℕ) (before after : Told) where
  abbrev Asked : List ℕ → ℕ → ℕ → Type 0
  Asked asked events bytes = IsAsked Did (Brings session asked) events bytes before after

  -- Of the front of a piece a part was taken, which is one of the piece.
  part_of_the_front : (count bytes : ℕ) → count ≤ length piece → Asked (take count piece) 0 bytes → Asked piece 0 bytes
  part_of_the_front count zero within asked = record {
    answers = asked.answers;
    did = asked.did;
    adds = asked.adds;
    cut = inl refl;
    silent = asked.silent;
    begun = asked.begun;
  }
  part_of_the_front count (suc n) within asked = elim asked.cut [
    | inl none ↦ absurd (omega (arith, none))
    | inr less ↦
        let fewer : suc n ≤ count = omega (arith, less, length-take-le count piece within) in record {
          answers = asked.answers;
          did = subst (λ (taken : List ℕ). Did (Brings session taken ∷ []) asked.answers) (take-take (suc n) count piece fewer) asked.did;
          adds = asked.adds;
          cut = inr (omega (arith, less, within, length-take-le count piece within));
          silent = λ none blank. absurd (omega (arith, blank));
          begun = asked.begun;
        }
  ]

  pub part_of_front : (count events bytes : ℕ) → count ≤ length piece → events ≡ 0 → Asked (take count piece) events bytes → Asked piece events bytes
  part_of_front count events bytes within none asked =
      subst (λ k. Asked piece k bytes) (sym none) (part_of_the_front count bytes within (subst (λ k. Asked (take count piece) k bytes) none asked))

  -- All of the front was taken, which is a part of the piece.
  pub whole_front : (count events bytes : ℕ) → 0 < count → count < length piece → 0 < events → Asked (take count piece) events bytes → Asked piece 0 count
  whole_front count zero bytes some less any asked = absurd (omega (arith, any))
  whole_front zero (suc n) bytes some less any asked = absurd (omega (arith, some))
  whole_front (suc m) (suc zero) bytes some less any asked = record {
    answers = asked.answers;
    did = asked.did;
    adds = asked.adds;
    cut = inr less;
    silent = λ none blank. absurd (omega (arith, blank));
    begun = λ room. omega (arith);
  }
  whole_front (suc m) (suc (suc n)) bytes some less any asked = absurd (omega (arith, asked.cut.0))

  -- The front that was asked is the piece.
  pub all_front : (count events bytes : ℕ) → length piece ≤ count → Asked (take count piece) events bytes → Asked piece events bytes
  all_front count events bytes all asked = subst (λ (p : List ℕ). Asked p events bytes) (take_all count piece all) asked

  -- No more was taken than the front, of which all is the piece where all was taken.
  pub front_few : (count events bytes : ℕ) → count ≤ length piece → (0 < events → length piece ≤ count) → Asked (take count piece) events bytes → taken_len piece events bytes ≤ count
  front_few count zero bytes within all asked = elim asked.cut [
    | inl none ↦ omega (arith, none)
    | inr less ↦ omega (arith, less, length-take-le count piece within)
  ]
  front_few count (suc n) bytes within all asked = all (omega arith)
