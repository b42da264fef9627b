-- The next volume of a pool that is shown, and what is known of it.
use Rattle.std.proofs.Common.{◌≡◌, ℕ, ◌<◌, ◌≤◌, Bool, true, false, cond, inl, inr, List, [], ◌∷◌, length, Option, Some, None, refl, sym, ap, subst, ◌∙◌, arith, not}
use Rattle.std.specs.Prelude.{IsSome, MatchOption, T, IfErr, Result, Ok, Err, is_some}
use Rattle.std.specs.Option.{option_map}
use Rattle.std.specs.Ordering.{is_lt, nat_cmp}
use Rattle.std.specs.FinMap.{entries, entries_sorted, find, get, get-entries, is_sorted, contains_key}
use Rattle.std.specs.FinMap.Entries.{below_all}
use Rattle.std.specs.Cmp.{unsigned_tied}
use Rattle.std.proofs.lemmas.Bool.{cases_lt, false≢true, ne_eqb, and_from, lt-ltb}
use Rattle.std.proofs.lemmas.Bool.Decides.{nat_tests}
use Rattle.std.proofs.lemmas.Option.{none-some, same_Some}
use Rattle.tp_model.specs.declared.refusal.Refusal.{Refusal}
use Rattle.tp_model.specs.declared.refusal.Refusal.TheVariants.{Failed, Memory, NoSuchDevice}
use Rattle.tp_model.specs.Pool.{PlainPool, Volume, volume_size, volume_slots, is_now}
use Rattle.tp_model.specs.Calls.{Answer, Found, NextId, Refused, Sized, Takes, VolumeBlocks, after_refusal, first_failed, first_from, is_failed, reply, exists}
use Rattle.tp_model.specs.Clauses.{Meets, View}
use Rattle.tp_model.proofs.Maps.{both_hold, found_first}
use Rattle.tp_listings.specs.Looks.{ShowsStill}
use Rattle.tp_listings.specs.Owned.{IsMarked, IsNext}
use Rattle.tp_listings.specs.Refusing.{IsRefusal, IsRefusalOfAll}
use Rattle.tp_listings.proofs.Looked.{blocks_still, is_refused, reason_in, sized}

-- ---- the call

found_in : Answer → Option ℕ
found_in (Found id) = id
found_in answer = None

same_after : (s after : PlainPool) (answer told : Answer) (a : Bool)
    → MatchOption (first_failed ((a, Failed) ∷ [])) ((answer ≡ told) × (after ≡ s)) (λ reason. (answer ≡ Refused reason) × (after ≡ after_refusal reason s)) → after ≡ s
same_after s after answer told true h = h.1
same_after s after answer told false h = h.1

passed : (s after : PlainPool) (answer told : Answer) (a : Bool) → is_refused answer ≡ false
    → MatchOption (first_failed ((a, Failed) ∷ [])) ((answer ≡ told) × (after ≡ s)) (λ reason. (answer ≡ Refused reason) × (after ≡ after_refusal reason s)) → (a ≡ false) × (answer ≡ told)
unfolding is_refused
passed s after answer told true n h = absurd (false≢true (sym n ∙ ap is_refused h.0))
passed s after answer told false n h = (refl, h.0)

still_next : (s made after : PlainPool) (from : ℕ) (answer : Answer) → Takes s (NextId from) answer made after → after ≡ s
still_next s made after from answer (inl step) = same_after s after answer (reply s (NextId from)) (is_failed s.mode) step.0
still_next s made after from answer (inr fault) = fault.1.1

pub next_still : {D : Type 0} (view : View D) (old new : D) (from : ℕ) (answer : Answer) → Meets view old new (NextId from) answer → ShowsStill view old new
next_still view old new from answer met s shown =
    let m = met.called.meets s shown in subst (λ (p : PlainPool). view.shows new p) (still_next s m.0 m.1 from answer m.2) m.3

takes_found : (s made after : PlainPool) (from : ℕ) (o : Option ℕ) → Takes s (NextId from) (Found o) made after → (is_failed s.mode ≡ false) × (o ≡ first_from from (entries s.volumes))
unfolding is_refused found_in
takes_found s made after from o (inl step) =
    let p = passed s after (Found o) (reply s (NextId from)) (is_failed s.mode) refl step.0 in (p.0, ap found_in p.1)
takes_found s made after from o (inr fault) = absurd (false≢true (ap is_refused fault.0))

found : {D : Type 0} (view : View D) (old new : D) (s : PlainPool) (from : ℕ) (o : Option ℕ) → view.shows old s → Meets view old new (NextId from) (Found o)
    → (is_failed s.mode ≡ false) × (o ≡ first_from from (entries s.volumes))
found view old new s from o shown met = let m = met.called.meets s shown in takes_found s m.0 m.1 from o m.2

-- ---- the first id of a list

first_yes : (from : ℕ) (e : ℕ × Volume) (es : List (ℕ × Volume)) → from ≤ e.0 → e.0 < 16777216 → first_from from (e ∷ es) ≡ Some e.0
first_yes from e es h l = grind (arith, nat_tests)

first_copy : (from : ℕ) (e : ℕ × Volume) (es : List (ℕ × Volume)) → 16777216 ≤ e.0 → first_from from (e ∷ es) ≡ first_from from es
first_copy from e es h = grind (arith, nat_tests)

first_no : (from : ℕ) (e : ℕ × Volume) (es : List (ℕ × Volume)) → e.0 < from → first_from from (e ∷ es) ≡ first_from from es
first_no from e es h = grind (arith, nat_tests)

found_behind : (id : ℕ) (e : ℕ × Volume) (es : List (ℕ × Volume)) → (id ≡ e.0 → ⊥) → find nat_cmp id (e ∷ es) ≡ find nat_cmp id es
found_behind id e es ne = ap (λ b. cond b (Some e.1) (find nat_cmp id es)) (unsigned_tied id e.0 ∙ ne_eqb id e.0 ne)

less : (a b : ℕ) → T (is_lt (nat_cmp a b)) → a < b
less a b h = grind (arith, h)

none_before : (k q : ℕ) (es : List (ℕ × Volume)) → T (below_all nat_cmp k es) → q < k → find nat_cmp q es ≡ None
none_before k q [] h lt = refl
none_before k q (e ∷ es) h lt =
    let parts = both_hold (is_lt (nat_cmp k e.0)) (below_all nat_cmp k es) h in
    let more : k < e.0 = less k e.0 parts.0 in
    found_behind q e es (λ p. omega (arith, p, more, lt)) ∙ none_before k q es parts.1 lt

first_gone : (from : ℕ) (es : List (ℕ × Volume)) → first_from from es ≡ None → (id : ℕ) → from ≤ id → id < 16777216 → find nat_cmp id es ≡ None
first_gone from [] is id le small = refl
first_gone from (e ∷ es) is id le small = elim (cases_lt e.0 from) [
  | inl l ↦ found_behind id e es (λ p. omega (arith, p, l, le)) ∙ first_gone from es (sym (first_no from e es l) ∙ is) id le small
  | inr g ↦ elim (cases_lt e.0 16777216) [
    | inl low ↦ absurd (none-some e.0 (sym is ∙ first_yes from e es g low))
    | inr high ↦ found_behind id e es (λ p. omega (arith, p, high, small)) ∙ first_gone from es (sym (first_copy from e es high) ∙ is) id le small
  ]
]

record IsFirstOf (from id : ℕ) (es : List (ℕ × Volume)) : Type 0 where
  pub low : from ≤ id
  pub small : id < 16777216
  pub volume : Volume
  pub there : find nat_cmp id es ≡ Some volume
  pub least : (other : ℕ) → from ≤ other → other < id → find nat_cmp other es ≡ None

first_later : (from id : ℕ) (e : ℕ × Volume) (es : List (ℕ × Volume)) → ((other : ℕ) → from ≤ other → other < 16777216 → other ≡ e.0 → ⊥) → IsFirstOf from id es → IsFirstOf from id (e ∷ es)
first_later from id e es apart w = record {
  low = w.low;
  small = w.small;
  volume = w.volume;
  there = found_behind id e es (apart id w.low w.small) ∙ w.there;
  least = λ other le lt. found_behind other e es (apart other le (let small = w.small in omega (arith, small, lt))) ∙ w.least other le lt;
}

first_gives : (from id : ℕ) (es : List (ℕ × Volume)) → T (is_sorted nat_cmp es) → first_from from es ≡ Some id → IsFirstOf from id es
first_gives from id [] sorted is = absurd (none-some id is)
first_gives from id (e ∷ es) sorted is =
    let parts = both_hold (below_all nat_cmp e.0 es) (is_sorted nat_cmp es) sorted in
    elim (cases_lt e.0 from) [
      | inl l ↦ first_later from id e es (λ other le small p. omega (arith, p, l, le)) (first_gives from id es parts.1 (sym (first_no from e es l) ∙ is))
      | inr g ↦ elim (cases_lt e.0 16777216) [
        | inl low ↦
            let same : e.0 ≡ id = same_Some e.0 id (sym (first_yes from e es g low) ∙ is) in
            subst (λ (i : ℕ). IsFirstOf from i (e ∷ es)) same (record {
              low = g;
              small = low;
              volume = e.1;
              there = found_first e es;
              least = λ other le lt. found_behind other e es (λ p. omega (arith, p, lt)) ∙ none_before e.0 other es parts.0 lt;
            })
        | inr high ↦ first_later from id e es (λ other le small p. omega (arith, p, high, small)) (first_gives from id es parts.1 (sym (first_copy from e es high) ∙ is))
      ]
    ]

-- ---- of a pool

size_of : (s : PlainPool) (id : ℕ) (o : Option Volume) → get s.volumes id ≡ o → volume_size s id ≡ option_map (λ (v : Volume). length v.sectors) o
size_of s id o e = ap (option_map (λ (v : Volume). length v.sectors)) e

not_there : (s : PlainPool) (id : ℕ) → find nat_cmp id (entries s.volumes) ≡ None → IsSome (volume_size s id) → ⊥
not_there s id none h = false≢true (subst (λ (o : Option ℕ). IsSome o) (size_of s id None (get-entries s.volumes id ∙ none)) h)

is_there : (s : PlainPool) (id : ℕ) (v : Volume) → find nat_cmp id (entries s.volumes) ≡ Some v → IsSome (volume_size s id)
is_there s id v some = subst (λ (o : Option ℕ). IsSome o) (sym (size_of s id (Some v) (get-entries s.volumes id ∙ some))) refl

-- there is no other volume
pub next_none : {D : Type 0} (view : View D) (old new : D) (s : PlainPool) (from asked mine : ℕ) (o : Option ℕ) (owners : List ℕ) → asked ≡ from → o ≡ None → view.shows old s → Meets view old new (NextId asked) (Found o)
    → IsNext s from mine None owners owners
next_none view old new s from asked mine o owners same is shown met =
    let f = found view old new s asked o shown met in
    (f.0, (refl, λ id le small. not_there s id (first_gone from (entries s.volumes) (ap (λ n. first_from n (entries s.volumes)) (sym same) ∙ (sym f.1 ∙ is)) id le small)))

-- what is known of the next one
pub next_volume : {D : Type 0} (view : View D) (old one two : D) (s : PlainPool) (from asked id blocks mapped mine number : ℕ) (o : Option ℕ) (owners marked : List ℕ) → asked ≡ from → o ≡ Some id → view.shows old s
    → Meets view old one (NextId asked) (Found o) → Meets view one two (VolumeBlocks id) (Sized blocks)
    → ((s : PlainPool) → view.shows two s → IsMarked (entries (volume_slots s id)) mine mapped owners marked) → number ≡ id
    → IsNext s from mine (Some (record { id = number; blocks = blocks; mapped = mapped; exclusive = 0 })) owners marked
next_volume view old one two s from asked id blocks mapped mine number o owners marked start is shown found_one sized_one marks same =
    let f = found view old one s asked o shown found_one in
    let w = first_gives from id (entries s.volumes) (entries_sorted s.volumes) (ap (λ n. first_from n (entries s.volumes)) (sym start) ∙ (sym f.1 ∙ is)) in
    let shown_one = next_still view old one asked (Found o) found_one s shown in
    let shown_two = blocks_still view one two id (Sized blocks) sized_one s shown_one in
    subst (λ (n : ℕ). IsNext s from mine (Some (record { id = n; blocks = blocks; mapped = mapped; exclusive = 0 })) owners marked) (sym same) (
      f.0,
      record {
        low = w.low;
        small = w.small;
        there = is_there s id w.volume w.there;
        least = λ other le lt. not_there s other (w.least other le lt);
        blocks = sized view one two s id blocks shown_one sized_one;
        marks = marks s shown_two;
      },
    )

-- ---- refusals

refused_by : (s after : PlainPool) (told : Answer) (a : Bool) (reason : Refusal) → is_refused told ≡ false
    → MatchOption (first_failed ((a, Failed) ∷ [])) ((Refused reason ≡ told) × (after ≡ s)) (λ r. (Refused reason ≡ Refused r) × (after ≡ after_refusal r s)) → first_failed ((a, Failed) ∷ []) ≡ Some reason
unfolding is_refused reason_in
refused_by s after told true reason n h = ap Some (sym (ap reason_in h.0))
refused_by s after told false reason n h = absurd (false≢true (sym n ∙ sym (ap is_refused h.0)))

next_takes : (s made after : PlainPool) (from : ℕ) (reason : Refusal) → Takes s (NextId from) (Refused reason) made after → IsRefusalOfAll s reason
unfolding is_refused reason_in
next_takes s made after from reason (inl step) = inr (inr (refused_by s after (reply s (NextId from)) (is_failed s.mode) reason refl step.0))
next_takes s made after from reason (inr fault) = inr (inl (ap reason_in fault.0))

pub next_refusal : {D : Type 0} (view : View D) (old new : D) (from : ℕ) (reason : Refusal) → Meets view old new (NextId from) (Refused reason) → (s : PlainPool) → view.shows old s → IsRefusalOfAll s reason
next_refusal view old new from reason met s shown = let m = met.called.meets s shown in next_takes s m.0 m.1 from reason m.2

exists_is : (s : PlainPool) (id : ℕ) (v : Volume) → id < 16777216 → get s.volumes id ≡ Some v → exists s id ≡ true
exists_is s id v small there = and_from (is_now id) (contains_key s.volumes id) (lt-ltb id 16777216 small) (ap (λ (o : Option Volume). is_some o) there)

none_refused : (a b : Bool) (reason : Refusal) → a ≡ false → b ≡ false → first_failed ((a, Failed) ∷ (b, NoSuchDevice) ∷ []) ≡ Some reason → ⊥
none_refused true b reason works there h = false≢true (sym works)
none_refused false true reason works there h = false≢true (sym there)
none_refused false false reason works there h = none-some reason h

there_by : (s : PlainPool) (id : ℕ) (reason : Refusal) → is_failed s.mode ≡ false → exists s id ≡ true → IsRefusal s id reason → IsRefusalOfAll s reason
there_by s id reason works there (inl memory) = inl memory
there_by s id reason works there (inr (inl fault)) = inr (inl fault)
there_by s id reason works there (inr (inr h)) = absurd (none_refused (is_failed s.mode) (not (exists s id)) reason works (ap not there) h)

-- a volume that was found is there
pub there_refusal : {D : Type 0} (view : View D) (old one : D) (s : PlainPool) (asked id : ℕ) (reason : Refusal) (o : Option ℕ) → o ≡ Some id → view.shows old s → Meets view old one (NextId asked) (Found o) → IsRefusal s id reason
    → IsRefusalOfAll s reason
there_refusal view old one s asked id reason o is shown met h =
    let f = found view old one s asked o shown met in
    let w = first_gives asked id (entries s.volumes) (entries_sorted s.volumes) (sym f.1 ∙ is) in
    there_by s id reason f.0 (exists_is s id w.volume w.small (get-entries s.volumes id ∙ w.there)) h

-- there was no memory
pub memory_alone : {D B : Type 0} (view : View D) (old : D) (r : Result B Refusal) → IfErr r (λ x. x ≡ Memory) → IfErr r (λ x. (s : PlainPool) → view.shows old s → IsRefusalOfAll s x)
memory_alone view old (Ok b) h = h
memory_alone view old (Err x) h = λ s shown. inl h
