-- Pages: the slots of two walks gone through, block by block.
use Rattle.std.proofs.Common.{◌≡◌, ◌≢◌, ◌⊎◌, inl, inr, ℕ, zero, suc, ◌+◌, ◌<◌, ◌≤◌, Bool, false, Option, None, Some, List, [], ◌∷◌, ◌++◌, length, length-append, append-nil, refl, sym, ap, subst, ◌∙◌, arith}
use Rattle.std.specs.Prelude.{IfSome, IsSome, T, ◌==◌, ◌↔◌, option_to_list, slice_get}
use Rattle.std.specs.Ordering.{nat_cmp}
use Rattle.std.specs.FinMap.{find}
use Rattle.std.proofs.lemmas.Bool.{cases_eq, cases_lt, eq-eqb, false≢true}
use Rattle.std.proofs.lemmas.Option.{none-some}
use Rattle.tp_model.specs.Slots.{BlockSlot, listed}
use Rattle.tp_listings.specs.declared.extent.Extent.{Extent}
use Rattle.tp_listings.specs.Listings.{AreApart, AreRunsOf, Covers}
use Rattle.tp_listings.specs.Pages.{AreOrdered, Differ, IsPage, behind, far_as, reach}
use Rattle.tp_listings.specs.Paging.{AreAlike, IsFirstOf, IsFullBefore, IsTold}
use Rattle.tp_listings.specs.Seeking.{IsPushed, IsUpTo, block_of, told}
use Rattle.tp_listings.proofs.Differing.{told_before, up_to}
use Rattle.tp_listings.proofs.Found.{found_next, from_listed, inside, listed_at, listed_length, no_place, none_behind}
use Rattle.tp_listings.proofs.Runs.{alone, more, none, not_before, same}

-- ---- how far a walk tells

abbrev behind_slot : Option BlockSlot → ℕ
behind_slot None = 16777216
behind_slot (Some x) = x.block + 1

behind_listed : (xs : List BlockSlot) (i : ℕ) → behind (slice_get (listed xs) i) ≡ behind_slot (slice_get xs i)
behind_listed [] i = refl
behind_listed (x ∷ xs) zero = refl
behind_listed (x ∷ xs) (suc i) = behind_listed xs i

pub reach_some : (slots : List BlockSlot) (x : BlockSlot) (n : ℕ) → slice_get slots 251 ≡ Some x → n ≡ x.block → n + 1 ≡ reach (listed slots)
reach_some slots x n is same_block = ap (λ (k : ℕ). k + 1) same_block ∙ (ap behind_slot (sym is) ∙ sym (behind_listed slots 251))

pub reach_none : (slots : List BlockSlot) → slice_get slots 251 ≡ None → 16777216 ≡ reach (listed slots)
reach_none slots is = ap behind_slot (sym is) ∙ sym (behind_listed slots 251)

-- ---- the first slot from a block on

module _ (slots : List BlockSlot) (from at : ℕ) (below : (i : ℕ) (x : BlockSlot) → 0 ≤ i → i < at → slice_get slots i ≡ Some x → x.block < from) where
  passed : (q : ℕ) → from ≤ q → (j : ℕ) (y : ℕ × ℕ) → j < at → slice_get (listed slots) j ≡ Some y → y.0 < q
  passed q le j y lt e =
      let x = from_listed slots j y e in
      let l = below j x.0 (omega arith) lt x.1 in
      let same_block = x.2 in
      omega (arith, l, same_block, le)

  by_place : (o : Option BlockSlot) → slice_get slots at ≡ o → AreOrdered (listed slots) → ((x : BlockSlot) → o ≡ Some x → from ≤ x.block) → IsFirstOf (listed slots) from o
  by_place (Some x) e ordered later = record {
    later = later x refl;
    tells = λ q le h. found_next at q (listed slots) (x.block, x.place) (subst T (sym ordered) tt) (passed q le) (listed_at slots at x e) h;
  }
  by_place None e ordered later = record {
    later = tt;
    tells = λ q le h. none_behind q (listed slots) (λ i y f.
        let l = inside (listed slots) i y f in
        let n = listed_length slots in
        let over = no_place slots at e in
        passed q le i y (omega (arith, l, n, over)) f);
  }

  pub first_in : (found : Option BlockSlot) → found ≡ slice_get slots at → ((x : BlockSlot) → slice_get slots at ≡ Some x → from ≤ x.block) → AreOrdered (listed slots) → IsFirstOf (listed slots) from found
  first_in found is later ordered = by_place found (sym is) ordered (λ x e. later x (sym is ∙ e))

pub later_of : (from : ℕ) (found : Option BlockSlot) → ((x : BlockSlot) → found ≡ Some x → from ≤ x.block) → IsUpTo found from
later_of from None later = tt
later_of from (Some x) later = later x refl

-- ---- one look

module _ (old new : List (ℕ × ℕ)) (from block : ℕ) (one other : Option BlockSlot) (first : IsFirstOf old from one) (second : IsFirstOf new from other) (l : block ≤ block_of one) (m : block ≤ block_of other) where
  -- before the first slots of both they have none
  pub looked_alike : AreAlike old new from block
  looked_alike q le lt =
      second.tells q le (up_to other q (omega (arith, m, lt)))
      ∙ (told_before other q (omega (arith, m, lt)) ∙ (sym (told_before one q (omega (arith, l, lt))) ∙ sym (first.tells q le (up_to one q (omega (arith, l, lt))))))

  module _ (le : from ≤ block) (place next : Option ℕ) (place_is : place ≡ told one block) (next_is : next ≡ told other block) where
    old_is : find nat_cmp block old ≡ place
    old_is = first.tells block le (up_to one block l) ∙ sym place_is

    new_is : find nat_cmp block new ≡ next
    new_is = second.tells block le (up_to other block m) ∙ sym next_is

    pub looked_differ : next ≢ place → Differ old new block
    looked_differ differ e = differ (sym new_is ∙ (e ∙ old_is))

    pub looked_same : next ≡ place → find nat_cmp block new ≡ find nat_cmp block old
    looked_same equal = new_is ∙ (equal ∙ sym old_is)

-- ---- one block more

pub alike_none : (old new : List (ℕ × ℕ)) (from : ℕ) → AreAlike old new from from
alike_none old new from q le lt = absurd (omega (arith, le, lt))

pub alike_until : (old new : List (ℕ × ℕ)) (from at until : ℕ) → AreAlike old new from at → AreAlike old new at until → AreAlike old new from until
alike_until old new from at until one two q le lt = elim (cases_lt q at) [ inl l ↦ one q le l | inr g ↦ two q g lt ]

pub alike_fewer : (old new : List (ℕ × ℕ)) (from until limit : ℕ) → limit ≤ until → AreAlike old new from until → AreAlike old new from limit
alike_fewer old new from until limit le all q ge lt = all q ge (omega (arith, le, lt))

pub alike_more : (old new : List (ℕ × ℕ)) (from block : ℕ) → AreAlike old new from block → find nat_cmp block new ≡ find nat_cmp block old → AreAlike old new from (block + 1)
alike_more old new from block all here q le lt =
    elim (cases_eq q block) [
      | inl e ↦ subst (λ (k : ℕ). find nat_cmp k new ≡ find nat_cmp k old) (sym e) here
      | inr n ↦ all q le (omega (arith, lt, n))
    ]

-- ---- what a pop and a push leave

pub some_taken : (old new : List Extent) (o : Option Extent) → old ≡ new ++ option_to_list o → IfSome o (λ run. old ≡ new ++ run ∷ [])
some_taken old new None is = tt
some_taken old new (Some run) is = is

pub len_taken : (old new : List Extent) (o : Option Extent) → old ≡ new ++ option_to_list o → IfSome o (λ run. length new + 1 ≡ length old)
len_taken old new None is = tt
len_taken old new (Some run) is = sym (ap (λ (l : List Extent). length l) is ∙ length-append new (run ∷ []))

pub none_taken : (old new : List Extent) (o : Option Extent) → old ≡ new ++ option_to_list o → (IsSome o ↔ (0 < length old)) → o ≡ None → (old ≡ []) × (new ≡ [])
none_taken [] new None is variant e = (refl, sym (is ∙ append-nil new))
none_taken (x ∷ xs) new None is variant e = absurd (false≢true (variant.1 (omega arith)))
none_taken old new (Some run) is variant e = absurd (none-some run (sym e))

pub alone_pushed : (block : ℕ) (old mid now : List Extent) (e : Extent) → (old ≡ []) × (mid ≡ []) → e.first ≡ block → e.blocks ≡ 1 → now ≡ mid ++ e ∷ [] → IsPushed block old now
alone_pushed block old mid now e empty f n left =
    subst (λ (l : List Extent). IsPushed block l now) (sym empty.0)
    (subst (λ (l : List Extent). IsPushed block [] l) (sym (left ∙ ap (λ (l : List Extent). l ++ e ∷ []) empty.1)) (alone block e f n))

pub full_left : (block : ℕ) (old rest now : List Extent) (last : Extent) (test : Bool) → test ≡ (last.first + last.blocks == block) → test ≡ false → old ≡ rest ++ last ∷ [] → now ≡ rest ++ last ∷ []
    → 7 ≤ length now → length old ≤ 7 → IsFullBefore block old now
full_left block old rest now last test is stops was again many few =
    let equal : now ≡ old = again ∙ sym was in
    let long : length now ≡ length old = ap length equal in
    record {
      same = equal;
      seven = omega (arith, long, many, few);
      begins = subst (λ (l : List Extent). AreApart 0 l → ((b : ℕ) → Covers l b → b < block) → (before : ℕ) → before + 1 ≡ block → Covers l before → ⊥) (sym was)
          (not_before block rest last (λ ends. false≢true (sym stops ∙ (is ∙ eq-eqb (last.first + last.blocks) block ends))));
    }

-- ---- the runs of a page

pub told_none : (old new : List (ℕ × ℕ)) (from : ℕ) → AreRunsOf [] (IsTold old new from from)
told_none old new from = none (IsTold old new from from) (λ b h. let g = h.0 in let l = h.1 in omega (arith, g, l))

pub told_more : (old new : List (ℕ × ℕ)) (from at block : ℕ) (was now : List Extent) → from ≤ at → at ≤ block → AreAlike old new at block → Differ old new block → IsPushed block was now
    → AreRunsOf was (IsTold old new from at) → AreRunsOf now (IsTold old new from (block + 1))
told_more old new from at block was now low le alike differ pushed runs =
    more block was now (IsTold old new from at) (IsTold old new from (block + 1)) pushed (λ b h. let l = h.1 in omega (arith, l, le))
    (λ b h. let l = h.1 in (h.0, omega (arith, l, le), h.2)) (omega (arith, low, le), omega arith, differ)
    (λ b h.
    let l = h.1 in
    elim (cases_lt b at) [
      | inl before ↦ inl (h.0, before, h.2)
      | inr g ↦
          elim (cases_eq b block) [
            | inl e ↦ inr e
            | inr n ↦ absurd (h.2 (alike b g (omega (arith, l, n))))
          ]
    ]) runs

-- no more of them differ before this block
pub told_until : (old new : List (ℕ × ℕ)) (from at until : ℕ) (runs : List Extent) → at ≤ until → AreAlike old new at until → AreRunsOf runs (IsTold old new from at) → AreRunsOf runs (IsTold old new from until)
told_until old new from at until runs le alike all =
    same runs (IsTold old new from at) (IsTold old new from until) (λ b h. let l = h.1 in (h.0, omega (arith, l, le), h.2))
    (λ b h.
    elim (cases_lt b at) [
      | inl before ↦ (h.0, before, h.2)
      | inr g ↦ absurd (h.2 (alike b g h.1))
    ]) all

-- all was gone through
told_all : (old new : List (ℕ × ℕ)) (from at limit : ℕ) (runs : List Extent) → limit ≤ at → (at ≤ limit) ⊎ (at ≡ from) → AreRunsOf runs (IsTold old new from at) → AreRunsOf runs (IsTold old new from limit)
told_all old new from at limit runs over (inl le) all = let e : at ≡ limit = omega (arith, over, le) in subst (λ (n : ℕ). AreRunsOf runs (IsTold old new from n)) e all
told_all old new from at limit runs over (inr e) all =
    same runs (IsTold old new from at) (IsTold old new from limit) (λ b h. let g = h.0 in let l = h.1 in absurd (omega (arith, g, l, e)))
    (λ b h. let g = h.0 in let l = h.1 in absurd (omega (arith, g, l, e, over))) all

module _ (old new : List (ℕ × ℕ)) (from at most limit : ℕ) (is : limit ≡ far_as most old new) where
  by_limit : (runs : List Extent) → length runs ≤ 7 → AreRunsOf runs (IsTold old new from limit) → IsPage old new from most runs limit
  by_limit runs few all = record { runs = all; few = few; far = inl is }

  pub page_ends : (runs : List Extent) → length runs ≤ 7 → at ≤ limit → AreAlike old new at limit → AreRunsOf runs (IsTold old new from at) → IsPage old new from most runs limit
  page_ends runs few le alike all = by_limit runs few (told_until old new from at limit runs le alike all)

  pub page_over : (runs : List Extent) → length runs ≤ 7 → limit ≤ at → (at ≤ limit) ⊎ (at ≡ from) → AreRunsOf runs (IsTold old new from at) → IsPage old new from most runs limit
  page_over runs few over high all = by_limit runs few (told_all old new from at limit runs over high all)

  pub page_full : (block : ℕ) (was now : List Extent) → from ≤ at → at ≤ block → block < limit → AreAlike old new at block → Differ old new block → IsFullBefore block was now → AreRunsOf was (IsTold old new from at)
      → IsPage old new from most now block
  page_full block was now low le lt alike differ full all =
      subst (λ (l : List Extent). IsPage old new from most l block) (sym full.same) (record {
        runs = told_until old new from at block was le alike all;
        few = let seven = full.seven in omega (arith, seven);
        far = inr (record {
          seven = full.seven;
          later = omega (arith, low, le);
          inside = subst (λ (n : ℕ). block < n) is lt;
          differ = differ;
          begins = full.begins all.apart (λ b c. let l = (all.has b c).1 in omega (arith, l, le));
        });
      })
