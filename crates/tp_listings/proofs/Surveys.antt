-- What is known of all volumes, one behind the other, and what a list of them tells.
use Rattle.std.proofs.Common.{◌≡◌, ℕ, zero, suc, ◌+◌, ◌<◌, ◌≤◌, ◌==◌, Bool, true, false, cond, not, inl, inr, List, [], ◌∷◌, ◌++◌, drop, length, take, Option, Some, None, refl, sym, ap, subst, ◌∙◌, arith}
use Rattle.std.specs.Prelude.{IfSome, IsSome, slice_index}
use Rattle.std.specs.Option.{option_map, option_map_or}
use Rattle.std.specs.List.{count_by, list_any, range_with_len}
use Rattle.std.specs.Ordering.{nat_cmp}
use Rattle.std.specs.FinMap.{FinMap, empty, entries, find, get, get-entries}
use Rattle.std.specs.Cmp.{unsigned_tied}
use Rattle.std.proofs.lemmas.Bool.{cases_eq, cases_lt, eq-eqb, eqb-true, false≢true, ne_eqb, not-true}
use Rattle.std.proofs.lemmas.List.{get_or_append_left, length-append, take-append-le, take_all}
use Rattle.std.proofs.Math.Seq.{get_or-append_seam}
use Rattle.std.proofs.lemmas.Option.{none-some, same_Some}
use Rattle.tp_model.specs.Pool.{IsConsistent, PlainPool, Volume, slot_at, volume_size, volume_slots}
use Rattle.tp_model.specs.Calls.{volume_blocks}
use Rattle.tp_model.proofs.Maps.{all_entries, get_empty, list_all-none, some_entry}
use Rattle.tp_listings.specs.declared.extent.Usage.{Usage}
use Rattle.tp_listings.specs.Listings.{AreUsages, AscendFrom, HasUsageOf, IsListOfVolumes, IsUsage}
use Rattle.tp_listings.specs.Owned.{AreBelow, HasPlace, IsNext, IsNextVolume, IsOwner, IsSurvey, blank, owned, usage_at}
use Rattle.tp_listings.proofs.Owning.{exclusive_is, length_marked, marked_at, owner_as, owner_next}

-- ---- a list with one more

module _ (us : List Usage) (u : Usage) where
  long : length (us ++ u ∷ []) ≡ length us + 1
  long = length-append us (u ∷ [])

  old_at : (j : ℕ) → j < length us → usage_at (us ++ u ∷ []) j ≡ usage_at us j
  old_at j lt = get_or_append_left us (u ∷ []) blank j lt

  new_at : (j : ℕ) → j ≡ length us → usage_at (us ++ u ∷ []) j ≡ u
  new_at j e = ap (usage_at (us ++ u ∷ [])) e ∙ get_or-append_seam us u [] blank

  at_each : (P : Usage → Type 0) → ((j : ℕ) → j < length us → P (usage_at us j)) → P u → (j : ℕ) → j < length (us ++ u ∷ []) → P (usage_at (us ++ u ∷ []) j)
  at_each P each one j lt = elim (cases_lt j (length us)) [
    | inl l ↦ subst P (sym (old_at j l)) (each j l)
    | inr g ↦ subst P (sym (new_at j (let n = long in omega (arith, lt, n, g)))) one
  ]

pub blank_each : (us : List Usage) (u : Usage) → ((j : ℕ) → j < length us → (usage_at us j).exclusive ≡ 0) → u.exclusive ≡ 0 → (j : ℕ) → j < length (us ++ u ∷ []) → (usage_at (us ++ u ∷ []) j).exclusive ≡ 0
blank_each us u each one = at_each us u (λ (v : Usage). v.exclusive ≡ 0) each one

ascend_more : (a from : ℕ) (us : List Usage) (u : Usage) → AscendFrom a us → a ≤ from → ((j : ℕ) → j < length us → (usage_at us j).id < from) → from ≤ u.id → AscendFrom a (us ++ u ∷ [])
ascend_more a from [] u h le low top = (omega (arith, le, top), tt)
ascend_more a from (v ∷ us) u h le low top =
    let first : v.id < from = low 0 (omega arith) in
    (h.0, ascend_more (v.id + 1) from us u h.1 (omega (arith, first)) (λ j lt. low (suc j) (omega (arith, lt))) top)

-- ---- whether a volume has a data block

has_it : (m : FinMap nat_cmp ℕ) (l block : ℕ) → get m block ≡ Some l → (t : Bool) → list_any (λ (s : ℕ × ℕ). s.1 == l) (entries m) ≡ t → t ≡ true
has_it m l block h true is = refl
has_it m l block h false is =
    let fails : not (l == l) ≡ true = all_entries (λ (s : ℕ × ℕ). not (s.1 == l)) m (list_all-none (λ (s : ℕ × ℕ). s.1 == l) (entries m) is) block l h in
    absurd (false≢true (sym (not-true _ fails) ∙ eq-eqb l l refl))

its_block : (m : FinMap nat_cmp ℕ) (l : ℕ) → list_any (λ (s : ℕ × ℕ). s.1 == l) (entries m) ≡ true → (block : ℕ) × (get m block ≡ Some l)
its_block m l h = let w = some_entry (λ (s : ℕ × ℕ). s.1 == l) m h in (w.0, w.2 ∙ ap (λ x. Some x) (eqb-true w.1 l w.3))

-- ---- the surveys

pub survey_first : (s : PlainPool) (owners : List ℕ) → ((place : ℕ) → slice_index owners place ≡ 0) → IsSurvey s 0 [] owners
survey_first s owners none = record {
  ascend = tt;
  low = λ j lt. absurd (omega (arith, lt));
  blocks = λ j lt. absurd (omega (arith, lt));
  mapped = λ j lt. absurd (omega (arith, lt));
  there = λ j lt. absurd (omega (arith, lt));
  all = λ id lt small some. absurd (omega (arith, lt));
  inside = λ j lt. absurd (omega (arith, lt));
  says = λ place lt. inl (record { is = none place; none = λ j lt has. omega (arith, lt) });
}

module _ (s : PlainPool) (from mine : ℕ) (us : List Usage) (u : Usage) (old new : List ℕ) (was : IsSurvey s from us old) (w : IsNextVolume s from mine u old new) (mine_is : mine ≡ length us + 2) where
  same_length : length new ≡ length old
  same_length = ap (λ (l : List ℕ). length l) w.marks.marks ∙ length_marked mine (entries (volume_slots s u.id)) old

  all_more : (id : ℕ) → id < u.id + 1 → id < 16777216 → IsSome (volume_size s id) → (j : ℕ) × (j < length (us ++ u ∷ [])) × ((usage_at (us ++ u ∷ []) j).id ≡ id)
  all_more id lt small some =
      let n = long us u in
      elim (cases_lt id from) [
        | inl l ↦ let a = was.all id l small some in (a.0, (let b = a.1 in omega (arith, b, n)), ap (λ (v : Usage). v.id) (old_at us u a.0 a.1) ∙ a.2)
        | inr g ↦ elim (cases_lt id u.id) [
          | inl l ↦ absurd (w.least id g l some)
          | inr h ↦ (length us, omega (arith, n), ap (λ (v : Usage). v.id) (new_at us u (length us) refl) ∙ (let e : u.id ≡ id = omega (arith, h, lt) in e))
        ]
      ]

  says_more : (place : ℕ) → place < length new → IsOwner (λ j. HasPlace s (usage_at (us ++ u ∷ []) j).id place) (length (us ++ u ∷ [])) (slice_index new place)
  says_more place lt =
      let k = length us in
      let slots = volume_slots s u.id in
      let b = list_any (λ (x : ℕ × ℕ). x.1 == place) (entries slots) in
      let within : place < length old = let e = same_length in omega (arith, lt, e) in
      let now : slice_index new place ≡ cond b (owned (slice_index old place) (k + 2)) (slice_index old place)
      = ap (λ (l : List ℕ). slice_index l place) w.marks.marks
      ∙ (marked_at mine place (entries slots) old within ∙ ap (λ m. cond b (owned (slice_index old place) m) (slice_index old place)) mine_is) in
      let here : usage_at (us ++ u ∷ []) k ≡ u = new_at us u k refl in
      let before : IsOwner (λ j. HasPlace s (usage_at (us ++ u ∷ []) j).id place) k (slice_index old place)
      = owner_as (λ j. HasPlace s (usage_at us j).id place) (λ j. HasPlace s (usage_at (us ++ u ∷ []) j).id place) k (slice_index old place)
      (λ j low h. subst (λ (v : Usage). HasPlace s v.id place) (sym (old_at us u j low)) h) (λ j low h. subst (λ (v : Usage). HasPlace s v.id place) (old_at us u j low) h) (was.says place within) in
      let next = owner_next (λ j. HasPlace s (usage_at (us ++ u ∷ []) j).id place) k (slice_index old place) b before
      (λ yes. subst (λ (v : Usage). HasPlace s v.id place) (sym here) (its_block slots place yes))
      (λ has. let h = subst (λ (v : Usage). HasPlace s v.id place) here has in has_it slots place h.0 h.1 b refl) in
      subst (λ (n : ℕ). IsOwner (λ j. HasPlace s (usage_at (us ++ u ∷ []) j).id place) n (slice_index new place)) (sym (long us u))
      (subst (λ (o : ℕ). IsOwner (λ j. HasPlace s (usage_at (us ++ u ∷ []) j).id place) (k + 1) o) (sym now) next)

  pub survey_next : IsSurvey s (u.id + 1) (us ++ u ∷ []) new
  survey_next =
      let top = w.low in
      record {
        ascend = ascend_more 0 from us u was.ascend (omega arith) was.low top;
        low = at_each us u (λ (v : Usage). v.id < u.id + 1) (λ j lt. let l = was.low j lt in omega (arith, l, top)) (omega arith);
        blocks = at_each us u (λ (v : Usage). v.blocks ≡ volume_blocks s v.id) was.blocks w.blocks;
        mapped = at_each us u (λ (v : Usage). v.mapped ≡ length (entries (volume_slots s v.id))) was.mapped w.marks.count;
        there = at_each us u (λ (v : Usage). IsSome (volume_size s v.id)) was.there w.there;
        all = all_more;
        inside = subst (λ (n : ℕ). (j : ℕ) → j < length (us ++ u ∷ []) → AreBelow n (entries (volume_slots s (usage_at (us ++ u ∷ []) j).id))) (sym same_length)
            (at_each us u (λ (v : Usage). AreBelow (length old) (entries (volume_slots s v.id))) was.inside w.marks.below);
        says = says_more;
      }

pub survey_more : (s : PlainPool) (from next mine : ℕ) (us new_us : List Usage) (u : Usage) (old new : List ℕ) → mine ≡ length us + 2 → (from ≤ u.id → next ≡ u.id + 1) → new_us ≡ us ++ u ∷ [] → IsNext s from mine (Some u) old new
    → IsSurvey s from us old → IsSurvey s next new_us new
survey_more s from next mine us new_us u old new mine_is behind is n was =
    subst (λ (l : List Usage). IsSurvey s next l new) (sym is)
    (subst (λ (m : ℕ). IsSurvey s m (us ++ u ∷ []) new) (sym (behind n.1.low)) (survey_next s from mine us u old new was n.1 mine_is))

-- there are no more
pub survey_all : (s : PlainPool) (from mine : ℕ) (us : List Usage) (old new : List ℕ) → from ≤ 16777216 → IsNext s from mine None old new → IsSurvey s from us old → IsSurvey s 16777216 us new
survey_all s from mine us old new most n was = subst (λ (l : List ℕ). IsSurvey s 16777216 us l) (sym n.1.0) (record {
  ascend = was.ascend;
  low = λ j lt. let l = was.low j lt in omega (arith, l, most);
  blocks = was.blocks;
  mapped = was.mapped;
  there = was.there;
  all = λ id lt small some. elim (cases_lt id from) [ inl l ↦ was.all id l small some | inr g ↦ absurd (n.1.1 id g small some) ];
  inside = was.inside;
  says = was.says;
})

pub survey_over : (s : PlainPool) (from : ℕ) (us : List Usage) (owners : List ℕ) → from ≤ 16777216 → 16777216 ≤ from → IsSurvey s from us owners → IsSurvey s 16777216 us owners
survey_over s from us owners most least was = subst (λ (n : ℕ). IsSurvey s n us owners) (omega (arith, most, least)) was

pub blank_of : (o : Option Usage) (u : Usage) → o ≡ Some u → IfSome o (λ (v : Usage). (v.id < 16777216) × (v.exclusive ≡ 0)) → u.exclusive ≡ 0
blank_of o u is h = (subst (λ (p : Option Usage). IfSome p (λ (v : Usage). (v.id < 16777216) × (v.exclusive ≡ 0))) is h).1

-- ---- what the list tells

first_id : (a : ℕ) (us : List Usage) (j : ℕ) → AscendFrom a us → j < length us → a ≤ (usage_at us j).id
first_id a [] j h lt = absurd (omega (arith, lt))
first_id a (u ∷ us) zero h lt = h.0
first_id a (u ∷ us) (suc j) h lt = let l = first_id (u.id + 1) us j h.1 (omega (arith, lt)) in let f = h.0 in omega (arith, l, f)

ids_ascend : (a : ℕ) (us : List Usage) (i j : ℕ) → AscendFrom a us → i < j → j < length us → (usage_at us i).id < (usage_at us j).id
ids_ascend a [] i j h lt l = absurd (omega (arith, l))
ids_ascend a (u ∷ us) i zero h lt l = absurd (omega (arith, lt))
ids_ascend a (u ∷ us) zero (suc j) h lt l = let f = first_id (u.id + 1) us j h.1 (omega (arith, l)) in omega (arith, f)
ids_ascend a (u ∷ us) (suc i) (suc j) h lt l = ids_ascend (u.id + 1) us i j h.1 (omega (arith, lt)) (omega (arith, l))

ids_apart : (us : List Usage) (i j : ℕ) → AscendFrom 0 us → i < length us → j < length us → (usage_at us i).id ≡ (usage_at us j).id → i ≡ j
ids_apart us i j h li lj e = elim (cases_eq i j) [
  | inl same ↦ same
  | inr n ↦ elim (cases_lt i j) [
    | inl l ↦ absurd (let x = ids_ascend 0 us i j h l lj in omega (arith, x, e))
    | inr g ↦ absurd (let x = ids_ascend 0 us j i h (omega (arith, g, n)) li in omega (arith, x, e))
  ]
]

ascend_same : (a : ℕ) (us vs : List Usage) → length vs ≡ length us → ((j : ℕ) → j < length us → (usage_at vs j).id ≡ (usage_at us j).id) → AscendFrom a us → AscendFrom a vs
ascend_same a [] [] long same h = tt
ascend_same a [] (v ∷ vs) long same h = absurd (omega (arith, long))
ascend_same a (u ∷ us) [] long same h = absurd (omega (arith, long))
ascend_same a (u ∷ us) (v ∷ vs) long same h =
    let e : v.id ≡ u.id = same 0 (omega arith) in
    let f = h.0 in
    (omega (arith, f, e), subst (λ (n : ℕ). AscendFrom n vs) (sym (ap (λ n. n + 1) e)) (ascend_same (u.id + 1) us vs (omega (arith, long)) (λ j lt. same (suc j) (omega (arith, lt))) h.1))

usages_from : (s : PlainPool) (us : List Usage) → ((j : ℕ) → j < length us → IsUsage s (usage_at us j)) → AreUsages s us
usages_from s [] each = tt
usages_from s (u ∷ us) each = (each 0 (omega arith), usages_from s us (λ j lt. each (suc j) (omega (arith, lt))))

usage_of : (us : List Usage) (id j : ℕ) → j < length us → (usage_at us j).id ≡ id → HasUsageOf us id
usage_of [] id j lt e = absurd (omega (arith, lt))
usage_of (u ∷ us) id zero lt e = inl e
usage_of (u ∷ us) id (suc j) lt e = inr (usage_of us id j (omega (arith, lt)) e)

place_of : (us : List Usage) (id : ℕ) → HasUsageOf us id → (j : ℕ) × (j < length us) × ((usage_at us j).id ≡ id)
place_of [] id h = absurd h
place_of (u ∷ us) id (inl e) = (0, omega arith, e)
place_of (u ∷ us) id (inr h) = let w = place_of us id h in (suc w.0, (let l = w.1 in omega (arith, l)), w.2)

found_below : (n : ℕ) (xs : List (ℕ × ℕ)) (block l : ℕ) → AreBelow n xs → find nat_cmp block xs ≡ Some l → l < n
found_below n [] block l h f = absurd (none-some l f)
found_below n (x ∷ xs) block l h f = elim (cases_eq block x.0) [
  | inl e ↦ subst (λ (m : ℕ). m < n) (same_Some x.1 l (sym (ap (λ b. cond b (Some x.1) (find nat_cmp block xs)) (unsigned_tied block x.0 ∙ eq-eqb block x.0 e)) ∙ f)) h.0
  | inr d ↦ found_below n xs block l h.1 (sym (ap (λ b. cond b (Some x.1) (find nat_cmp block xs)) (unsigned_tied block x.0 ∙ ne_eqb block x.0 d)) ∙ f)
]

volume_with : (s : PlainPool) (id block l : ℕ) (o : Option Volume) → get s.volumes id ≡ o → get (option_map_or (λ (v : Volume). v.slots) o empty) block ≡ Some l → IsSome (volume_size s id)
volume_with s id block l None is h = absurd (none-some l (sym (get_empty block) ∙ h))
volume_with s id block l (Some v) is h = subst (λ (o : Option ℕ). IsSome o) (sym (ap (option_map (λ (v : Volume). length v.sectors)) is)) refl

copy_slot : (s : PlainPool) (id block l : ℕ) → get s.volumes id ≡ None → slot_at s id block ≡ Some l → ⊥
copy_slot s id block l none h = none-some l (sym (get_empty block) ∙ (sym (ap (λ (o : Option Volume). get (option_map_or (λ (v : Volume). v.slots) o empty) block) none) ∙ h))

-- each slot is of a volume of the list
-- a slot of a volume of now is marked, and its volume is in the list
pub listed_now : (s : PlainPool) (us : List Usage) (owners : List ℕ) → IsSurvey s 16777216 us owners → (id block l : ℕ) → id < 16777216 → slot_at s id block ≡ Some l
    → (l < length owners) × ((j : ℕ) × (j < length us) × ((usage_at us j).id ≡ id))
listed_now s us owners w id block l small h =
    let a = w.all id small small (volume_with s id block l (get s.volumes id) refl h) in (
      found_below (length owners) (entries (volume_slots s (usage_at us a.0).id)) block l (w.inside a.0 a.1)
          (sym (get-entries (volume_slots s (usage_at us a.0).id) block) ∙ (ap (λ i. slot_at s i block) a.2 ∙ h)),
      a,
    )

pub slot_listed : (s : PlainPool) (us : List Usage) (owners : List ℕ) → IsSurvey s 16777216 us owners → IsConsistent s → s.held_root ≡ 0 → (id block l : ℕ) → slot_at s id block ≡ Some l
    → (l < length owners) × ((j : ℕ) × (j < length us) × ((usage_at us j).id ≡ id))
slot_listed s us owners w sound held id block l h = elim (cases_lt id 16777216) [
  | inr g ↦ absurd (copy_slot s id block l (sound.copies held id g) h)
  | inl small ↦ listed_now s us owners w id block l small h
]

pub list_is : (s : PlainPool) (us vs : List Usage) (owners : List ℕ) → IsSurvey s 16777216 us owners → IsConsistent s → length vs ≡ length us
    → ((j : ℕ) → j < length us → usage_at vs j ≡ record (usage_at us j) { exclusive = count_by (λ place. slice_index owners place == j + 2) (range_with_len 0 (length owners)) })
    → IsListOfVolumes s vs
list_is s us vs owners w sound long counted =
    let same_id : (j : ℕ) → j < length us → (usage_at vs j).id ≡ (usage_at us j).id = λ j lt. ap (λ (v : Usage). v.id) (counted j lt) in
    let inside : (j : ℕ) → j < length vs → j < length us = λ j lt. omega (arith, lt, long) in
    record {
      ascend = ascend_same 0 us vs long same_id w.ascend;
      are = usages_from s vs (λ j lt.
          let l = inside j lt in
          subst (IsUsage s) (sym (counted j l)) (record {
            blocks = w.blocks j l;
            mapped = w.mapped j l;
            exclusive = λ held. exclusive_is s (λ i. (usage_at us i).id) (length us) (λ i k li lk e. ids_apart us i k w.ascend li lk e) j (length owners) owners l
                (λ id block place h. slot_listed s us owners w sound held id block place h) w.says;
          }));
      there = λ id h. let p = place_of vs id h in subst (λ (n : ℕ). IsSome (volume_size s n)) (sym (same_id p.0 (inside p.0 p.1)) ∙ p.2) (w.there p.0 (inside p.0 p.1));
      all = λ id small some. let a = w.all id small small some in usage_of vs id a.0 (let l = a.1 in omega (arith, l, long)) (same_id a.0 a.1 ∙ a.2);
    }

-- what was lent comes back
pub back : {A : Type 0} (n : ℕ) (xs ys : List A) → length ys ≡ length xs → n ≡ length xs → take n (ys ++ drop (length ys) xs) ≡ ys
back n xs ys same long = take-append-le n ys (drop (length ys) xs) (omega (arith, same, long)) ∙ take_all n ys (omega (arith, same, long))

pub usages_told : (s : PlainPool) (items lent new : List Usage) (n : ℕ) (table owners : List ℕ) → IsSurvey s 16777216 items owners → IsConsistent s → lent ≡ items → length new ≡ length lent → n ≡ length items → table ≡ owners
    → ((j : ℕ) → j < length lent → usage_at new j ≡ record (usage_at lent j) { exclusive = count_by (λ place. slice_index table place == j + 2) (range_with_len 0 (length table)) })
    → IsListOfVolumes s (take n (new ++ drop (length new) items))
usages_told s items lent new n table owners w sound was same long is counted =
    let whole : length new ≡ length items = same ∙ ap (λ (l : List Usage). length l) was in
    subst (λ (l : List Usage). IsListOfVolumes s l) (sym (back n items new whole long))
    (list_is s items new owners w sound whole
    (subst (λ (t : List ℕ). (j : ℕ) → j < length items → usage_at new j ≡ record (usage_at items j) { exclusive = count_by (λ place. slice_index t place == j + 2) (range_with_len 0 (length t)) }) is
    (subst (λ (l : List Usage). (j : ℕ) → j < length l → usage_at new j ≡ record (usage_at l j) { exclusive = count_by (λ place. slice_index table place == j + 2) (range_with_len 0 (length table)) }) was counted)))
