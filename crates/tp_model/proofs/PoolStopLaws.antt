-- The clauses of calls on stops compose to the clause of a run.
use Rattle.std.proofs.Common.{◌≡◌, ℕ, ◌/◌, Bool, true, false, List, [], ◌∷◌, ◌++◌, drop, append_assoc, append-nil, Option, ◌⊎◌, inl, inr, refl, sym, ap, subst, ◌∙◌}
use Rattle.std.proofs.lemmas.Bool.{false≢true}
use Rattle.std.specs.Option.{IsSome}
use Rattle.std.specs.Prelude.{IsTrue, if◌then◌else◌}
use Rattle.tp_model.specs.declared.mode.Mode.TheVariants as mode
use Rattle.tp_model.specs.Sectors.{Sector}
use Rattle.tp_model.specs.Pool.{PlainPool, volume_size, volume_sector, slot_at, IsExclusive}
use Rattle.tp_model.specs.PoolStops.{Event, keeps, GivenBy, GivenIn, Nothing, MayReopen, reopened, During, StopsWithin, state_after, NoneKeeps, MayBeLeft, LeftAt, MayBeLeftSince}

-- exclusive speaks of the slots alone
pub IsExclusive-same_slots : (p q : PlainPool) (id block : ℕ) → ((i b : ℕ) → slot_at q i b ≡ slot_at p i b) → IsExclusive q id block → IsExclusive p id block
IsExclusive-same_slots p q id block same x = record {
  mapped = subst (λ (o : Option ℕ). IsSome o) (same id block) x.mapped;
  alone = λ i b e. x.alone i b (same i b ∙ e ∙ sym (same id block));
}

pub MayReopen-weaken : (S P : PlainPool) (given more : ℕ → ℕ → Sector → Type 0) → ((id k : ℕ) (x : Sector) → given id k x → more id k x) → MayReopen S given P → MayReopen S more P
MayReopen-weaken S P given more f h = record {
  geometry = h.geometry;
  ids_and_sizes = h.ids_and_sizes;
  slots = h.slots;
  transaction_id = h.transaction_id;
  needs_check = h.needs_check;
  meta_used = h.meta_used;
  held_root = h.held_root;
  mode = h.mode;
  holds = h.holds;
  sectors = λ id k. elim (h.sectors id k) [ inl e ↦ inl e | inr w ↦ inr (w.0, w.1, w.2, f id k w.0 w.3) ];
}

-- the state that was kept may be found, whatever was given since
pub MayReopen-reopened : (S : PlainPool) (given : ℕ → ℕ → Sector → Type 0) → MayReopen S given (reopened S)
MayReopen-reopened S given = record {
  geometry = refl;
  ids_and_sizes = λ _. refl;
  slots = λ _ _. refl;
  transaction_id = refl;
  needs_check = refl;
  meta_used = refl;
  held_root = refl;
  mode = refl;
  holds = refl;
  sectors = λ _ _. inl refl;
}

-- of the state that was kept, its mode and its holds are not found again
pub MayReopen-same : (S T P : PlainPool) (given : ℕ → ℕ → Sector → Type 0) → reopened S ≡ reopened T → MayReopen S given P → MayReopen T given P
MayReopen-same S T P given e h = record {
  geometry = h.geometry ∙ ap (λ r. r.geometry) e;
  ids_and_sizes = λ id. h.ids_and_sizes id ∙ ap (λ r. volume_size r id) e;
  slots = λ id b. h.slots id b ∙ ap (λ r. slot_at r id b) e;
  transaction_id = h.transaction_id ∙ ap (λ r. r.transaction_id) e;
  needs_check = h.needs_check ∙ ap (λ r. r.needs_check) e;
  meta_used = h.meta_used ∙ ap (λ r. r.meta_used) e;
  held_root = h.held_root ∙ ap (λ r. r.held_root) e;
  mode = h.mode ∙ ap (λ r. r.mode) e;
  holds = h.holds;
  sectors = λ id k. elim (h.sectors id k) [
    | inl same ↦ inl (same ∙ ap (λ r. volume_sector r id k) e)
    | inr w ↦ inr (
      w.0,
      IsExclusive-same_slots T S id _ (λ i b. ap (λ r. slot_at r i b) e) (subst (λ (n : ℕ). IsExclusive S id (k / n)) (ap (λ r. r.geometry.block_sectors) e) w.1),
      w.2,
      w.3,
    )
  ];
}

-- what is found after a stop, some of whose own blocks have more values since, is found after a stop
pub MayReopen-trans : (S T P : PlainPool) (given more : ℕ → ℕ → Sector → Type 0) → MayReopen S given T → MayReopen T more P → MayReopen S (λ id k x. given id k x ⊎ more id k x) P
MayReopen-trans S T P given more a b = record {
  geometry = b.geometry ∙ a.geometry;
  ids_and_sizes = λ id. b.ids_and_sizes id ∙ a.ids_and_sizes id;
  slots = λ id block. b.slots id block ∙ a.slots id block;
  transaction_id = b.transaction_id ∙ a.transaction_id;
  needs_check = b.needs_check ∙ a.needs_check;
  meta_used = b.meta_used ∙ a.meta_used;
  held_root = b.held_root ∙ a.held_root;
  mode = b.mode ∙ ap (λ (c : Bool). if c then mode.ReadOnly else mode.Writable) a.needs_check;
  holds = b.holds;
  sectors = λ id k.
      elim (b.sectors id k) [
        | inl same ↦ elim (a.sectors id k) [
          | inl e ↦ inl (same ∙ e)
          | inr w ↦ inr (w.0, w.1, same ∙ w.2, inl w.3)
        ]
        | inr w ↦ inr (w.0, IsExclusive-same_slots S T id _ a.slots (subst (λ (n : ℕ). IsExclusive T id (k / n)) (ap (λ g. g.block_sectors) a.geometry) w.1), w.2, inr w.3)
      ];
}

GivenIn-append : (xs ys : List Event) (id k : ℕ) (x : Sector) → GivenIn xs id k x ⊎ GivenIn ys id k x → GivenIn (xs ++ ys) id k x
GivenIn-append [] ys id k x (inl h) = absurd h
GivenIn-append [] ys id k x (inr h) = h
GivenIn-append (e ∷ xs) ys id k x (inl (inl h)) = inl h
GivenIn-append (e ∷ xs) ys id k x (inl (inr h)) = inr (GivenIn-append xs ys id k x (inl h))
GivenIn-append (e ∷ xs) ys id k x (inr h) = inr (GivenIn-append xs ys id k x (inr h))

NoneKeeps-append : (xs ys : List Event) → NoneKeeps xs → NoneKeeps ys → NoneKeeps (xs ++ ys)
NoneKeeps-append [] ys a b = b
NoneKeeps-append (e ∷ xs) ys a b = (a.0, NoneKeeps-append xs ys a.1 b)

pub state_after-append : (p : PlainPool) (xs ys : List Event) → state_after p (xs ++ ys) ≡ state_after (state_after p xs) ys
state_after-append p [] ys = refl
state_after-append p (e ∷ xs) ys = state_after-append e.made xs ys

pub MayBeLeft-weaken : (Older : PlainPool → Type 0) (start : PlainPool) (events : List Event) (more most : ℕ → ℕ → Sector → Type 0) (P : PlainPool) → ((id k : ℕ) (x : Sector) → more id k x → most id k x) → MayBeLeft Older start events more P → MayBeLeft Older start events most P
MayBeLeft-weaken Older start events more most P f h = record {
  until = h.until;
  since = h.since;
  parts = h.parts;
  S = h.S;
  state = h.state;
  none_keeps = h.none_keeps;
  reopens = MayReopen-weaken h.S P _ _ (λ id k x g. elim g [ inl a ↦ inl a | inr b ↦ inr (f id k x b) ]) h.reopens;
}

module _ (Older : PlainPool → Type 0) (start : PlainPool) (first : List Event) (Between : PlainPool → Type 0) where
  -- what is left in the second of two lists of calls, by what may be left between them
  pub MayBeLeft-append : ((S : PlainPool) → Between S → MayBeLeft Older start first Nothing S) → (second : List Event) (more : ℕ → ℕ → Sector → Type 0) (P : PlainPool) → MayBeLeft Between (state_after start first) second more P → MayBeLeft Older start (first ++ second) more P
  MayBeLeft-append between second more P h =
      elim h.state [
        | inl e ↦ record {
          until = first ++ h.until;
          since = h.since;
          parts = ap (λ es. first ++ es) h.parts ∙ sym (append_assoc first h.until h.since);
          S = h.S;
          state = inl (e ∙ sym (state_after-append start first h.until));
          none_keeps = h.none_keeps;
          reopens = h.reopens;
        }
        | inr w ↦ let b = between h.S w.1 in record {
          until = b.until;
          since = b.since ++ h.since;
          parts = (λ i. b.parts i ++ h.parts i) ∙ ap (λ es. (b.until ++ b.since) ++ (es ++ h.since)) w.0 ∙ append_assoc b.until b.since h.since;
          S = b.S;
          state = b.state;
          none_keeps = NoneKeeps-append b.since h.since b.none_keeps h.none_keeps;
          reopens = MayReopen-weaken b.S P _ _
              (λ id k x. λ g. elim g [
                | inl (inl a) ↦ inl (GivenIn-append b.since h.since id k x (inl a))
                | inl (inr a) ↦ absurd a
                | inr (inl a) ↦ inl (GivenIn-append b.since h.since id k x (inr a))
                | inr (inr a) ↦ inr a
              ])
              (MayReopen-trans b.S h.S P _ _ b.reopens h.reopens);
        }
      ]

-- a stop at a moment of some events, of which there are more
LeftAt-longer : (Older : PlainPool → Type 0) (start : PlainPool) (over rest more : List Event) (P : PlainPool) → LeftAt Older start over rest P → LeftAt Older start over (rest ++ more) P
LeftAt-longer Older start over [] [] P h = h
LeftAt-longer Older start over [] (next ∷ more) P h = inl (MayBeLeft-weaken Older start over Nothing (GivenBy next) P (λ id k x n. absurd n) h)
LeftAt-longer Older start over (current ∷ later) more P h = h

pub MayBeLeftSince-more : (Older : PlainPool → Type 0) (start : PlainPool) (first later more : List Event) (P : PlainPool) → MayBeLeftSince Older start first later P → MayBeLeftSince Older start first (later ++ more) P
MayBeLeftSince-more Older start first later more P h = record {
  over = h.over;
  rest = h.rest ++ more;
  parts = ap (λ es. es ++ more) h.parts ∙ append_assoc h.over h.rest more;
  left = LeftAt-longer Older start (first ++ h.over) h.rest more P h.left;
}

-- a stop after more events
pub MayBeLeftSince-later : (Older : PlainPool → Type 0) (start : PlainPool) (first between later : List Event) (P : PlainPool) → MayBeLeftSince Older start (first ++ between) later P → MayBeLeftSince Older start first (between ++ later) P
MayBeLeftSince-later Older start first between later P h = record {
  over = between ++ h.over;
  rest = h.rest;
  parts = ap (λ es. between ++ es) h.parts ∙ sym (append_assoc between h.over h.rest);
  left = subst (λ es. LeftAt Older start es h.rest P) (append_assoc first between h.over) h.left;
}

-- a stop when all is over
pub MayBeLeftSince-none : (Older : PlainPool → Type 0) (start : PlainPool) (first : List Event) (P : PlainPool) → MayBeLeft Older start first Nothing P → MayBeLeftSince Older start first [] P
MayBeLeftSince-none Older start first P h = record {
  over = [];
  rest = [];
  parts = refl;
  left = subst (λ es. MayBeLeft Older start es Nothing P) (sym (append-nil first)) h;
}

-- what came of a state before a call, or of one that a stop before it might have left
before_one : (Older : PlainPool → Type 0) (start : PlainPool) (e : Event) (P : PlainPool) → reopened e.before ≡ reopened start → (since : List Event) → NoneKeeps since → (more : ℕ → ℕ → Sector → Type 0)
    → ((id k : ℕ) (x : Sector) → GivenBy e id k x → GivenIn since id k x ⊎ more id k x)
    → (S : PlainPool) × (Older S ⊎ (S ≡ e.before)) × MayReopen S (GivenBy e) P → MayBeLeft Older start since more P
before_one Older start e P at since none more f w = elim w.1 [
  | inl o ↦ record {
    until = [];
    since = since;
    parts = refl;
    S = w.0;
    state = inr (refl, o);
    none_keeps = none;
    reopens = MayReopen-weaken w.0 P _ _ f w.2;
  }
  | inr s ↦ record {
    until = [];
    since = since;
    parts = refl;
    S = start;
    state = inl refl;
    none_keeps = none;
    reopens = MayReopen-weaken start P _ _ f (MayReopen-same w.0 start P _ (ap reopened s ∙ at) w.2);
  }
]

-- where a call does not keep, what is left by it is a state before it with its values, or the state that it makes
now_of_one : (Older : PlainPool → Type 0) (start : PlainPool) (e : Event) (P : PlainPool) → reopened e.before ≡ reopened start → (b : Bool) → keeps e.call e.answer ≡ b → During Older e P → (IsTrue b → MayReopen e.made Nothing P) → MayBeLeft Older start (e ∷ []) Nothing P
now_of_one Older start e P at true is h kept = record {
  until = e ∷ [];
  since = [];
  parts = refl;
  S = e.made;
  state = inl refl;
  none_keeps = tt;
  reopens = MayReopen-weaken e.made P _ _ (λ id k x g. inr g) (kept refl);
}
now_of_one Older start e P at false is (inl w) kept = before_one Older start e P at (e ∷ []) (is, tt) Nothing (λ id k x g. inl (inl g)) w
now_of_one Older start e P at false is (inr m) kept = record {
  until = e ∷ [];
  since = [];
  parts = refl;
  S = e.made;
  state = inl refl;
  none_keeps = tt;
  reopens = MayReopen-weaken e.made P _ _ (λ id k x g. inr g) m;
}

-- without the mode and the holds, the state after events does not depend on those at the start
pub state_from : (start first : PlainPool) → reopened start ≡ reopened first → (es : List Event) → reopened (state_after start es) ≡ reopened (state_after first es)
state_from start first e [] = e
state_from start first e (x ∷ es) = refl

-- one call more: what is left in it, and after it
module _ (Older : PlainPool → Type 0) (start : PlainPool) (first : List Event) (Between : PlainPool → Type 0) (between : (S : PlainPool) → Between S → MayBeLeft Older start first Nothing S)
    (e : Event) (at : reopened e.before ≡ reopened (state_after start first)) (Left Now : PlainPool → Type 0) (h : StopsWithin Between e Left Now) where
  pub call_leaves : (P : PlainPool) → Left P → MayBeLeftSince Older start first (e ∷ []) P
  call_leaves P l = record {
    over = [];
    rest = e ∷ [];
    parts = refl;
    left = elim (h.any_moment P l) [
      | inl w ↦ inl (MayBeLeft-append Older start first Between between [] (GivenBy e) P (before_one Between (state_after start first) e P at [] tt (GivenBy e) (λ id k x g. inr g) w))
      | inr m ↦ inr m
    ];
  }

  pub call_left : (P : PlainPool) → Now P → MayBeLeft Older start (first ++ e ∷ []) Nothing P
  call_left P n = MayBeLeft-append Older start first Between between (e ∷ []) Nothing P
      (now_of_one Between (state_after start first) e P at (keeps e.call e.answer) refl (h.now P n) (λ t. h.kept t P n))

-- From a settled disk every stop leaves a pool that came of a state of the run.
pub MayBeLeft-settled : (Older : PlainPool → Type 0) (start : PlainPool) (events : List Event) (more : ℕ → ℕ → Sector → Type 0) (P : PlainPool) → ((S : PlainPool) → Older S → MayReopen start Nothing S) → MayBeLeft Older start events more P → MayBeLeft (λ S. ⊥) start events more P
MayBeLeft-settled Older start events more P settled h = elim h.state [
  | inl e ↦ record { until = h.until; since = h.since; parts = h.parts; S = h.S; state = inl e; none_keeps = h.none_keeps; reopens = h.reopens }
  | inr w ↦ record {
    until = h.until;
    since = h.since;
    parts = h.parts;
    S = start;
    state = inl (ap (λ es. state_after start es) (sym w.0));
    none_keeps = h.none_keeps;
    reopens = MayReopen-weaken start P _ _ (λ id k x g. elim g [ inl n ↦ absurd n | inr r ↦ r ]) (MayReopen-trans start h.S P Nothing _ (settled h.S w.1) h.reopens);
  }
]

LeftAt-settled : (Older : PlainPool → Type 0) (start : PlainPool) → ((S : PlainPool) → Older S → MayReopen start Nothing S) → (over rest : List Event) (P : PlainPool) → LeftAt Older start over rest P → LeftAt (λ S. ⊥) start over rest P
LeftAt-settled Older start settled over [] P h = MayBeLeft-settled Older start over Nothing P settled h
LeftAt-settled Older start settled over (c ∷ cs) P (inl h) = inl (MayBeLeft-settled Older start over (GivenBy c) P settled h)
LeftAt-settled Older start settled over (c ∷ cs) P (inr h) = inr h

-- no calls: nothing is left but what was before them, if that is found as it was left
pub MayBeLeft-none : (Older : PlainPool → Type 0) (start : PlainPool) → ((S : PlainPool) → Older S → S ≡ reopened S) → (P : PlainPool) → Older P → MayBeLeft Older start [] Nothing P
MayBeLeft-none Older start at_rest P o = record {
  until = [];
  since = [];
  parts = refl;
  S = P;
  state = inr (refl, o);
  none_keeps = tt;
  reopens = subst (λ (q : PlainPool). MayReopen P (λ id k x. ⊥ ⊎ ⊥) q) (sym (at_rest P o)) (MayReopen-reopened P _);
}

-- From a settled disk a stop leaves what came of states of the run alone.
pub MayBeLeftSince-settled : (Older : PlainPool → Type 0) (start : PlainPool) (first later : List Event) (P : PlainPool) → ((S : PlainPool) → Older S → MayReopen start Nothing S) → MayBeLeftSince Older start first later P → MayBeLeftSince (λ S. ⊥) start first later P
MayBeLeftSince-settled Older start first later P settled h = record {
  over = h.over;
  rest = h.rest;
  parts = h.parts;
  left = LeftAt-settled Older start settled (first ++ h.over) h.rest P h.left;
}

-- ---- after an answer that keeps

none_last : (xs : List Event) (e : Event) → NoneKeeps (xs ++ e ∷ []) → keeps e.call e.answer ≡ false
none_last [] e h = h.0
none_last (x ∷ xs) e h = none_last xs e h.1

both_empty : {A : Type 0} (xs ys : List A) → [] ≡ xs ++ ys → ys ≡ []
both_empty [] ys e = sym e
both_empty (x ∷ xs) ys e = absurd cc

-- nothing comes after an event that keeps, where no later one keeps
nothing_since : (first : List Event) (e : Event) (until since : List Event) → keeps e.call e.answer ≡ true → first ++ e ∷ [] ≡ until ++ since → NoneKeeps since → since ≡ []
nothing_since first e [] since k parts none = absurd (false≢true (sym (none_last first e (subst NoneKeeps (sym parts) none)) ∙ k))
nothing_since [] e (u ∷ us) since k parts none = both_empty us since (ap (drop 1) parts)
nothing_since (f ∷ fs) e (u ∷ us) since k parts none = nothing_since fs e us since k (ap (drop 1) parts) none

-- where the last answer kept and nothing came since, the state after it is found and no other
pub kept_is_left : (start : PlainPool) (first : List Event) (e : Event) (P : PlainPool) → keeps e.call e.answer ≡ true → MayBeLeft (λ S. ⊥) start (first ++ e ∷ []) Nothing P → MayReopen e.made Nothing P
kept_is_left start first e P k h =
    let since_none : h.since ≡ [] = nothing_since first e h.until h.since k h.parts h.none_keeps in
    let all : first ++ e ∷ [] ≡ h.until = h.parts ∙ ap (λ es. h.until ++ es) since_none ∙ append-nil h.until in
    let S_is : h.S ≡ state_after start h.until = elim h.state [ inl e1 ↦ e1 | inr w ↦ absurd w.1 ] in
    let made : h.S ≡ e.made = S_is ∙ ap (state_after start) (sym all) ∙ state_after-append start first (e ∷ []) in
    let given : MayReopen h.S Nothing P =
    MayReopen-weaken h.S P _ Nothing (λ id k x g. elim g [
      | inl a ↦ subst (λ es. GivenIn es id k x) since_none a
      | inr b ↦ b
    ]) h.reopens in
    subst (λ (S : PlainPool). MayReopen S Nothing P) made given

nothing_later : (Older : PlainPool → Type 0) (start : PlainPool) (first over rest : List Event) (P : PlainPool) → [] ≡ over ++ rest → LeftAt Older start (first ++ over) rest P → MayBeLeft Older start first Nothing P
nothing_later Older start first [] [] P e h = subst (λ es. MayBeLeft Older start es Nothing P) (append-nil first) h
nothing_later Older start first [] (r ∷ rest) P e h = absurd cc
nothing_later Older start first (o ∷ over) rest P e h = absurd cc

pub kept_is_left_since : (start : PlainPool) (first : List Event) (e : Event) (P : PlainPool) → keeps e.call e.answer ≡ true → MayBeLeftSince (λ S. ⊥) start (first ++ e ∷ []) [] P → MayReopen e.made Nothing P
kept_is_left_since start first e P k h = kept_is_left start first e P k (nothing_later (λ S. ⊥) start (first ++ e ∷ []) h.over h.rest P h.parts h.left)

-- within a call: values of the call given to what came of a state before it are values of the call
pub MayReopen-more : (S T P : PlainPool) (given : ℕ → ℕ → Sector → Type 0) → MayReopen S given T → MayReopen T given P → MayReopen S given P
MayReopen-more S T P given a b = MayReopen-weaken S P _ _ (λ id k x g. elim g [ inl h ↦ h | inr h ↦ h ]) (MayReopen-trans S T P given given a b)

-- what is left of fewer is left of more
pub During-map : (Older More : PlainPool → Type 0) (e : Event) (P : PlainPool) → ((S : PlainPool) → Older S → More S) → During Older e P → During More e P
During-map Older More e P f (inl (S, inl o, r)) = inl (S, inl (f S o), r)
During-map Older More e P f (inl (S, inr s, r)) = inl (S, inr s, r)
During-map Older More e P f (inr m) = inr m

pub StopsWithin-map : (Older More Left Fewer Now Less : PlainPool → Type 0) (e : Event) → ((S : PlainPool) → Older S → More S) → ((P : PlainPool) → Fewer P → Left P) → ((P : PlainPool) → Less P → Now P)
    → StopsWithin Older e Left Now → StopsWithin More e Fewer Less
StopsWithin-map Older More Left Fewer Now Less e f g k h = record {
  any_moment = λ P l. During-map Older More e P f (h.any_moment P (g P l));
  now = λ P n. During-map Older More e P f (h.now P (k P n));
  kept = λ t P n. h.kept t P (k P n);
}
