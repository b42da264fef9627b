-- Sessions at their places, and what they hold.
use Rattle.std.proofs.Common.{◌≡◌, ◌≢◌, ℕ, zero, suc, ◌+◌, ◌*◌, ◌<◌, ◌≤◌, Bool, true, false, List, [], ◌∷◌, ◌++◌, length, Option, Some, None, inl, inr, refl, sym, ap, subst, ◌∙◌, arith, length-append}
use Rattle.std.specs.Prelude.{slice_set, if◌then◌else◌, nat_lt}
use Rattle.std.specs.Ordering.{nat_cmp}
use Rattle.std.specs.FinMap.{FinMap, empty}
use Rattle.std.proofs.lemmas.Bool.{cases_eq, eq-eqb, ne_eqb}
use Rattle.std.proofs.lemmas.List.{get_or-set_same, get_or-set_other}
use Rattle.tp_model.specs.Geometry.{Geometry, sectors_of_volume}
use Rattle.tp_model.specs.Pool.{Outline, hold_count}
use Rattle.nbd_session.specs.declared.phase.Phase.{Phase}
use Rattle.nbd_session.specs.declared.phase.Phase.TheVariants.{Flags, Options, Transmission, Ended}
use Rattle.nbd_session.specs.Requests.{known_bytes}
use Rattle.nbd_session.specs.Session.{State, state, has_ended, ids_of, manner_in, volumes_in}
use Rattle.nbd_session.specs.Clauses.{HoldsBeside, IsCalm, IsReady}
use Rattle.nbd_session.specs.Turns.{Sessions, closed}
use Rattle.tp_holders.specs.Holders.{counts_of}
use Rattle.tp_hub.specs.Places.{put}
use Rattle.tp_hub.specs.Serving.{GoesOn, IsSlot, Serves, Slots, held_by, sessions_of, shown, slot_at, volumes_at}
use Rattle.nbd_session.proofs.Counting.{few_older, held_here}
use Rattle.tp_holders.proofs.Holding.{same_times, times, times-append}

-- ---- sessions as a function of their numbers

pub same_sessions : (at also : Sessions) → ((n : ℕ) → at n ≡ also n) → at ≡ also
same_sessions at also same = λ i. λ n. same n i

pub put_same : (at : Sessions) (n : ℕ) (s : State) → put at n s n ≡ s
put_same at n s = ap (λ (b : Bool). if b then s else at n) (eq-eqb n n refl)

pub put_other : (at : Sessions) (n : ℕ) (s : State) (i : ℕ) → i ≢ n → put at n s i ≡ at i
put_other at n s i apart = ap (λ (b : Bool). if b then s else at i) (ne_eqb i n apart)

pub put_put : (at : Sessions) (n : ℕ) (s r : State) → put (put at n s) n r ≡ put at n r
put_put at n s r = same_sessions (put (put at n s) n r) (put at n r) (λ i. elim (cases_eq i n) [
  | inl e ↦ ap (λ (b : Bool). if b then r else put at n s i) (eq-eqb i n e) ∙ sym (ap (λ (b : Bool). if b then r else at i) (eq-eqb i n e))
  | inr ne ↦ put_other (put at n s) n r i ne ∙ (put_other at n s i ne ∙ sym (put_other at n r i ne))
])

pub put_is : (at : Sessions) (n : ℕ) (s : State) → at n ≡ s → put at n s ≡ at
put_is at n s is = same_sessions (put at n s) at (λ i. elim (cases_eq i n) [
  | inl e ↦ ap (λ (b : Bool). if b then s else at i) (eq-eqb i n e) ∙ (sym is ∙ ap at (sym e))
  | inr ne ↦ put_other at n s i ne
])

pub sessions_set : (slots : Slots) (n : ℕ) (new : Option State) → n < length slots → sessions_of (slice_set slots n new) ≡ put (sessions_of slots) n (shown new)
sessions_set slots n new lt = same_sessions (sessions_of (slice_set slots n new)) (put (sessions_of slots) n (shown new)) (λ i. elim (cases_eq i n) [
  | inl e ↦
      ap (λ j. sessions_of (slice_set slots n new) j) e
      ∙ (ap shown (get_or-set_same slots n new None lt) ∙ sym (ap (λ (b : Bool). if b then shown new else sessions_of slots i) (eq-eqb i n e)))
  | inr ne ↦ ap shown (get_or-set_other slots n i new None ne) ∙ sym (put_other (sessions_of slots) n (shown new) i ne)
])

-- ---- what they hold

-- in place of what stood there, the volume of what stands there now is in the row
pub times_set : (q : ℕ) (slots : Slots) (n : ℕ) (new : Option State) → n < length slots
    → times q (held_by (slice_set slots n new)) + times q (volumes_at (slot_at slots n)) ≡ times q (held_by slots) + times q (volumes_at new)
times_set q [] n new lt = absurd (omega arith)
times_set q (slot ∷ slots) zero new lt =
    let a = times-append q (volumes_at new) (held_by slots) in
    let b = times-append q (volumes_at slot) (held_by slots) in
    omega (arith, a, b)
times_set q (slot ∷ slots) (suc n) new lt =
    let a = times-append q (volumes_at slot) (held_by (slice_set slots n new)) in
    let b = times-append q (volumes_at slot) (held_by slots) in
    let rest = times_set q slots n new (omega arith) in
    omega (arith, a, b, rest)

few_volumes : (phase : Phase) → length (volumes_in phase) ≤ 2
few_volumes (Flags a) = omega arith
few_volumes (Options z) = let a = few_older (nat_lt z.since 16777216) z.since in omega (arith, a)
few_volumes (Transmission v size c) = let a = few_older (nat_lt (manner_in c).since 16777216) (manner_in c).since in omega (arith, a)
few_volumes Ended = omega arith

few_volumes_at : (slot : Option State) → length (volumes_at slot) ≤ 2
few_volumes_at None = omega arith
few_volumes_at (Some s) = few_volumes s.phase

few_held : (slots : Slots) → length (held_by slots) ≤ 2 * length slots
few_held [] = omega arith
few_held (slot ∷ slots) = let a = length-append (volumes_at slot) (held_by slots) in let b = few_volumes_at slot in let rest = few_held slots in omega (arith, a, b, rest)

-- the others leave room for what one may hold
few_beside : (slots : Slots) (n : ℕ) → n < length slots → length (held_by (slice_set slots n None)) + 2 ≤ 2 * length slots
few_beside [] n lt = absurd (omega arith)
few_beside (slot ∷ slots) zero lt = let rest = few_held slots in omega (arith, rest)
few_beside (slot ∷ slots) (suc n) lt =
    let a = length-append (volumes_at slot) (held_by (slice_set slots n None)) in
    let b = few_volumes_at slot in
    let rest = few_beside slots n (omega arith) in
    omega (arith, a, b, rest)

-- all that is held is what stands at one place, and what the others hold
row_at : (slots : Slots) (n : ℕ) (slot : Option State) → n < length slots → slot_at slots n ≡ slot → counts_of (held_by slots) ≡ counts_of (volumes_at slot ++ held_by (slice_set slots n None))
row_at slots n slot lt is = same_times (held_by slots) (volumes_at slot ++ held_by (slice_set slots n None)) (λ q.
    let all = times_set q slots n None lt in
    let here : times q (volumes_at (slot_at slots n)) ≡ times q (volumes_at slot) = ap (λ (s : Option State). times q (volumes_at s)) is in
    let none : times q (volumes_at None) ≡ 0 = refl in
    omega (arith, all, here, none, times-append q (volumes_at slot) (held_by (slice_set slots n None))))

-- a place where a session stands is one of them
inside_where : (slots : Slots) (n : ℕ) (s : State) → slot_at slots n ≡ Some s → n < length slots
inside_where [] n s is = absurd cc
inside_where (slot ∷ slots) zero s is = omega arith
inside_where (slot ∷ slots) (suc n) s is = omega (arith, inside_where slots n s is)

-- ---- one session is ready

-- what a session at a place holds is held of the pool
has_hold : (o : Outline) (slots : Slots) (n v : ℕ) (older : List ℕ) → o.holds ≡ counts_of (held_by slots) → n < length slots → volumes_at (slot_at slots n) ≡ v ∷ older → 0 < hold_count o.holds v
has_hold o slots n v older holds lt is =
    let rest = held_by (slice_set slots n None) in
    held_here v (older ++ rest) o.holds (holds ∙ (row_at slots n (slot_at slots n) lt refl ∙ ap (λ (l : List ℕ). counts_of (l ++ rest)) is))

module _ (o : Outline) (more : ℕ → ℕ) (slots : Slots) (serves : Serves o more slots) (n : ℕ) (lt : n < length slots) where
  ready_by : (phase : Phase) → HoldsBeside (volumes_in phase) o.holds → GoesOn o.geometry more phase → IsReady phase o more
  ready_by (Flags a) w goes = w
  ready_by (Options z) w goes = w
  ready_by (Transmission v size c) w goes = (w, goes)
  ready_by Ended w goes = absurd goes

  pub ready_at : (s : State) → slot_at slots n ≡ Some s → IsReady s.phase o more
  ready_at s is =
      let slot : IsSlot o.geometry more (Some s) = subst (IsSlot o.geometry more) is (serves.each n) in
      ready_by s.phase (record {
        others = held_by (slice_set slots n None);
        few = omega (arith, serves.count, few_beside slots n lt);
        all = serves.holds ∙ row_at slots n (Some s) lt is;
      }) slot.0

going_is_open : (g : Geometry) (more : ℕ → ℕ) (phase : Phase) → GoesOn g more phase → has_ended phase ≡ false
going_is_open g more (Flags a) goes = refl
going_is_open g more (Options z) goes = refl
going_is_open g more (Transmission v size c) goes = refl
going_is_open g more Ended goes = absurd goes

pub open_at : (o : Outline) (more : ℕ → ℕ) (slots : Slots) (n : ℕ) (s : State) → Serves o more slots → slot_at slots n ≡ Some s → has_ended s.phase ≡ false
open_at o more slots n s serves is =
    let slot : IsSlot o.geometry more (Some s) = subst (IsSlot o.geometry more) is (serves.each n) in
    going_is_open o.geometry more s.phase slot.0

-- ---- the sizes stay known

-- of a volume that is held before and after
abbrev pub StaysKnown : Outline → Outline → (ℕ → ℕ) → (ℕ → ℕ) → Type 0
StaysKnown o o' more more' = (v : ℕ) → 0 < hold_count o.holds v → 0 < hold_count o'.holds v → more' v ≡ more v

module _ (o o' : Outline) (more more' : ℕ → ℕ) (slots slots' : Slots) (holds : o.holds ≡ counts_of (held_by slots)) (holds' : o'.holds ≡ counts_of (held_by slots'))
    (geometry : o'.geometry ≡ o.geometry) (known : StaysKnown o o' more more') (n : ℕ) where
  goes_still : (phase : Phase) → n < length slots → n < length slots' → volumes_at (slot_at slots n) ≡ volumes_in phase → volumes_at (slot_at slots' n) ≡ volumes_in phase
      → GoesOn o.geometry more phase → GoesOn o'.geometry more' phase
  goes_still (Flags a) lt lt' is is' goes = tt
  goes_still (Options z) lt lt' is is' goes = tt
  goes_still (Transmission v size c) lt lt' is is' goes =
      let older = ids_of (manner_in c).since in
      let m = known v (has_hold o slots n v older holds lt is) (has_hold o' slots' n v older holds' lt' is') in
      goes ∙ (ap (λ (g : Geometry). known_bytes g more v) (sym geometry) ∙ ap (λ (x : ℕ). 512 * (sectors_of_volume o'.geometry + x)) (sym m))
  goes_still Ended lt lt' is is' goes = absurd goes

  slot_by : (slot : Option State) → slot_at slots n ≡ slot → slot_at slots' n ≡ slot → IsSlot o.geometry more slot → IsSlot o'.geometry more' slot
  slot_by None is is' goes = tt
  slot_by (Some s) is is' goes =
      (goes_still s.phase (inside_where slots n s is) (inside_where slots' n s is') (ap volumes_at is) (ap volumes_at is') goes.0, goes.1)

  -- what stands at a place as before
  pub slot_still : slot_at slots' n ≡ slot_at slots n → IsSlot o.geometry more (slot_at slots n) → IsSlot o'.geometry more' (slot_at slots' n)
  slot_still same goes = subst (IsSlot o'.geometry more') (sym same) (slot_by (slot_at slots n) refl same goes)

-- ---- one place changes

-- How what is held changes with the volumes of a place: others hold what they held.
abbrev pub HoldsMove : List ℕ → List ℕ → FinMap nat_cmp ℕ → FinMap nat_cmp ℕ → Type 0
HoldsMove old new h h' = (others : List ℕ) → h ≡ counts_of (old ++ others) → h' ≡ counts_of (new ++ others)

set_set : (slots : Slots) (n : ℕ) (one two : Option State) → slice_set (slice_set slots n one) n two ≡ slice_set slots n two
set_set [] n one two = refl
set_set (slot ∷ slots) zero one two = refl
set_set (slot ∷ slots) (suc n) one two = ap (λ l. slot ∷ l) (set_set slots n one two)

length_kept : (slots : Slots) (n : ℕ) (new : Option State) → length (slice_set slots n new) ≡ length slots
length_kept [] n new = refl
length_kept (slot ∷ slots) zero new = refl
length_kept (slot ∷ slots) (suc n) new = ap suc (length_kept slots n new)

pub serves_set : (o o' : Outline) (more more' : ℕ → ℕ) (slots : Slots) (n : ℕ) (old new : Option State) → n < length slots → slot_at slots n ≡ old → Serves o more slots → o'.geometry ≡ o.geometry → StaysKnown o o' more more'
    → IsSlot o'.geometry more' new → HoldsMove (volumes_at old) (volumes_at new) o.holds o'.holds → Serves o' more' (slice_set slots n new)
serves_set o o' more more' slots n old new lt is serves geometry known slot moves = record { count = length_kept slots n new ∙ serves.count; holds = holds'; each = each }
  where
    set : Slots
    set = slice_set slots n new

    inside : n < length set
    inside = omega (arith, lt, length_kept slots n new)

    holds' : o'.holds ≡ counts_of (held_by (slice_set slots n new))
    holds' =
        moves (held_by (slice_set slots n None)) (serves.holds ∙ row_at slots n old lt is)
        ∙ sym (row_at set n new inside (get_or-set_same slots n new None lt) ∙ ap (λ (l : Slots). counts_of (volumes_at new ++ held_by l)) (set_set slots n new None))

    each : (i : ℕ) → IsSlot o'.geometry more' (slot_at (slice_set slots n new) i)
    each i = elim (cases_eq i n) [
      | inl e ↦ subst (IsSlot o'.geometry more') (sym (ap (λ j. slot_at (slice_set slots n new) j) e ∙ get_or-set_same slots n new None lt)) slot
      | inr ne ↦ slot_still o o' more more' slots (slice_set slots n new) serves.holds holds' geometry known i (get_or-set_other slots n i new None ne) (serves.each i)
    ]

-- the same sessions over a pool that holds the same
pub serves_kept : (o o' : Outline) (more more' : ℕ → ℕ) (slots : Slots) → o'.geometry ≡ o.geometry → o'.holds ≡ o.holds → StaysKnown o o' more more' → Serves o more slots → Serves o' more' slots
serves_kept o o' more more' slots geometry holds known serves = record {
  count = serves.count;
  holds = holds ∙ serves.holds;
  each = λ n. slot_still o o' more more' slots slots serves.holds (holds ∙ serves.holds) geometry known n refl (serves.each n);
}

-- where it goes on
pub goes_on : (o : Outline) (more : ℕ → ℕ) (phase : Phase) → IsReady phase o more → has_ended phase ≡ false → GoesOn o.geometry more phase
goes_on o more (Flags a) ready is_open = tt
goes_on o more (Options z) ready is_open = tt
goes_on o more (Transmission v size c) ready is_open = ready.1
goes_on o more Ended ready is_open = absurd cc

-- ---- a session that has ended holds nothing

pub ended_is : (s : State) → IsCalm s → has_ended s.phase ≡ true → s ≡ state Ended []
ended_is s calm over = by_phase s.phase s.held calm over
  where
    by_phase : (phase : Phase) (held : List ℕ) → IsCalm (state phase held) → has_ended phase ≡ true → state phase held ≡ state Ended []
    by_phase (Flags a) held calm over = absurd cc
    by_phase (Options z) held calm over = absurd cc
    by_phase (Transmission v size c) held calm over = absurd cc
    by_phase Ended held calm over = ap (state Ended) calm

-- ---- no session at all

none_held : (slots : Slots) → ((n : ℕ) → slot_at slots n ≡ None) → held_by slots ≡ []
none_held [] none = refl
none_held (slot ∷ slots) none = ap (λ (s : Option State). volumes_at s ++ held_by slots) (none 0) ∙ none_held slots (λ n. none (suc n))

pub none_hold : (slots : Slots) → ((n : ℕ) → slot_at slots n ≡ None) → counts_of (held_by slots) ≡ empty
unfolding counts_of
none_hold slots none = ap counts_of (none_held slots none)

pub serves_none : (o : Outline) (more : ℕ → ℕ) (slots : Slots) → length slots ≡ 64 → o.holds ≡ empty → ((n : ℕ) → slot_at slots n ≡ None) → Serves o more slots
serves_none o more slots count free none = record {
  count = count;
  holds = free ∙ sym (none_hold slots none);
  each = λ n. subst (IsSlot o.geometry more) (sym (none n)) tt;
}

pub none_open : (slots : Slots) → ((n : ℕ) → slot_at slots n ≡ None) → sessions_of slots ≡ closed
none_open slots none = same_sessions (sessions_of slots) closed (λ n. ap shown (none n))

pub none_by : (slots : Slots) (count : ℕ) → length slots ≡ count → ((n : ℕ) → n < count → slot_at slots n ≡ None) → (n : ℕ) → slot_at slots n ≡ None
none_by [] count long none n = refl
none_by (slot ∷ slots) count long none zero = none zero (omega (arith, long))
none_by (slot ∷ slots) count long none (suc n) = none_by slots (length slots) refl (λ i lt. none (suc i) (omega (arith, lt, long))) n

-- one change of a place and then another are one
pub serves_twice : (o : Outline) (more : ℕ → ℕ) (slots : Slots) (n : ℕ) (one two : Option State) → Serves o more (slice_set (slice_set slots n one) n two) → Serves o more (slice_set slots n two)
serves_twice o more slots n one two serves = subst (Serves o more) (set_set slots n one two) serves

pub set_there : (slots : Slots) (n : ℕ) (one : Option State) → n < length slots → (n < length (slice_set slots n one)) × (slot_at (slice_set slots n one) n ≡ one)
set_there slots n one lt = let e = length_kept slots n one in (omega (arith, e, lt), get_or-set_same slots n one None lt)

-- what stands there is left there
pub set_same : (slots : Slots) (n : ℕ) → slice_set slots n (slot_at slots n) ≡ slots
set_same [] n = refl
set_same (slot ∷ slots) zero = refl
set_same (slot ∷ slots) (suc n) = ap (λ l. slot ∷ l) (set_same slots n)

pub serves_same : (o : Outline) (more : ℕ → ℕ) (slots : Slots) (n : ℕ) (slot : Option State) → slot_at slots n ≡ slot → Serves o more slots → Serves o more (slice_set slots n slot)
serves_same o more slots n slot is serves = subst (λ s. Serves o more (slice_set slots n s)) is (subst (Serves o more) (sym (set_same slots n)) serves)
