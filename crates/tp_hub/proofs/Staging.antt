-- A hub that many ask: where it came from, and the parts of its commits.
use Rattle.std.proofs.Common.{◌≡◌, ◌∙◌, ◌+◌, ◌≤◌, ℕ, Bool, true, false, List, [], ◌∷◌, ◌++◌, Option, Some, None, refl, sym, ap, subst, arith}
use Rattle.std.specs.Prelude.{IfSome, MatchOption, Ok, Result, is_some}
use Rattle.tp_model.specs.declared.refusal.Refusal.{Refusal}
use Rattle.tp_model.specs.Pool.{Outline}
use Rattle.tp_model.specs.declared.volumes.Flushing.TheVariants as flushing
use Rattle.tp_model.specs.Clauses.{Unkept, View, ViewLaws}
use Rattle.tp_model.specs.Flushing.{IsFlushed}
use Rattle.tp_msg.specs.declared.message.Message.{Message}
use Rattle.tp_msg.specs.Asked.{call_of}
use Rattle.tp_msg.specs.Messages.{reading}
use Rattle.tp_msg.proofs.Asking.{IsMessageMade, message_kept}
use Rattle.nbd_session.specs.Turns.{Sessions}
use Rattle.tp_hub.specs.declared.event.Event.{Event}
use Rattle.tp_hub.specs.declared.event.Event.TheVariants as kinds
use Rattle.tp_hub.specs.declared.hub.Ran.{Ran}
use Rattle.tp_hub.specs.declared.staged.Stage.{Stage}
use Rattle.tp_hub.specs.declared.staged.Stage.TheVariants.{Whole, Midway, Away}
use Rattle.tp_hub.specs.Told.{Answer, Grows, Told}
use Rattle.tp_hub.specs.Runs.{AsksFlush, Incoming, Orders}
use Rattle.tp_hub.specs.Desks.{AreAsked, Exchange, IsAsked, RunsSo}
use Rattle.tp_hub.specs.Flushes.{flush_told}
use Rattle.tp_hub.specs.Serve.{HubRuns}
use Rattle.tp_hub.specs.Serving.{HubState, Serves, Slots, sessions_of}
use Rattle.tp_hub.specs.Staged.{AsksCommit, HasFewer, Idle, IsBefore, IsForEvent, IsFrom, IsKeptFor, IsOf, IsRead, IsSettled, Keeping, MayKeep, Nowhere, Ordering, Standing, Stands, hub_at, is_ordering, message_in, midway, parts_of, slots_of, standing}
use Rattle.tp_hub.specs.Stages.{IsFlushAsked, IsBehind, IsFor, IsFurther, IsKept, IsOrderParted, IsOrderPool, IsParted, IsPool, IsServing, is_there, is_whole, parts_at}
use Rattle.tp_hub.proofs.Flushing.{hub_flushed, serves_behind, still_hub}
use Rattle.tp_hub.proofs.Ordering.{hub_ordered, serves_ordered, serves_unkept}
use Rattle.tp_hub.proofs.Owing.{flush_few, message_few}
use Rattle.tp_hub.proofs.Placing.{serves_kept}

-- ---- a hub that came of a start by asks, asked once more

asked_on : {H : Type 0} (Did : H → List Incoming → List Answer → H → Type 0) (old mid new : H) (xs : List Exchange) (x : Exchange) → AreAsked Did old xs mid → Did mid x.took x.answers new → AreAsked Did old (xs ++ x ∷ []) new
asked_on Did old mid new [] x e d = (new, subst (λ h. Did h x.took x.answers new) e d, refl)
asked_on Did old mid new (y ∷ ys) x are d = (are.0, are.1, asked_on Did are.0 mid new ys x are.2 d)

-- ---- what asks for a commit

pub flush_is_commit : (at : Sessions) (event : Event) → IsFlushAsked at event → AsksCommit at event
flush_is_commit at (kinds.Parted session piece) asks = asks
flush_is_commit at kinds.Flush asks = asks
flush_is_commit at (kinds.Message line) asks = absurd asks
flush_is_commit at (kinds.Open session profile) asks = asks
flush_is_commit at (kinds.Bytes session piece) asks = asks
flush_is_commit at (kinds.Hangup session) asks = asks
flush_is_commit at kinds.Status asks = asks
flush_is_commit at (kinds.ThinStatus volume) asks = asks
flush_is_commit at (kinds.Size volume) asks = asks
flush_is_commit at (kinds.Map volume from) asks = asks
flush_is_commit at (kinds.Delta old new from) asks = asks

pub flush_keeps_none : (at : Sessions) (event : Event) → IsFlushAsked at event → message_in event ≡ None
flush_keeps_none at (kinds.Parted session piece) asks = refl
flush_keeps_none at kinds.Flush asks = refl
flush_keeps_none at (kinds.Message line) asks = absurd asks
flush_keeps_none at (kinds.Open session profile) asks = absurd asks
flush_keeps_none at (kinds.Bytes session piece) asks = absurd asks
flush_keeps_none at (kinds.Hangup session) asks = absurd asks
flush_keeps_none at kinds.Status asks = absurd asks
flush_keeps_none at (kinds.ThinStatus volume) asks = absurd asks
flush_keeps_none at (kinds.Size volume) asks = absurd asks
flush_keeps_none at (kinds.Map volume from) asks = absurd asks
flush_keeps_none at (kinds.Delta old new from) asks = absurd asks

pub option_so : {A : Type 0} (o : Option A) (P : Type 0) → P → IfSome o (λ r. P)
option_so None P p = tt
option_so (Some r) P p = p

-- ---- its stage

abbrev is_idle : {D : Type 0} → Standing D → Bool
is_idle (Idle hub) = true
is_idle (Keeping hub left) = false
is_idle (Ordering message hub left) = false
is_idle Nowhere = false

module _ {D M : Type 0} (of : M → D) (left : M → ℕ) where
  -- one that is somewhere
  pub there_of : (st : Stage D M) (p : D) → IsPool of p st → is_there st ≡ true
  there_of (Whole p) old is = refl
  there_of (Midway m) old is = refl
  there_of Away old is = absurd is

  pub slots_are : (st : Stage D M) (slots : Slots) (o : Option Message) → is_there st ≡ true → slots_of (standing of left st slots o) ≡ slots
  slots_are (Whole p) slots o there = refl
  slots_are (Midway m) slots None there = refl
  slots_are (Midway m) slots (Some message) there = refl
  slots_are Away slots o there = absurd cc

  pub slots_shown : (st : Stage D M) (slots : Slots) (o : Option Message) (s : Standing D) → is_there st ≡ true → standing of left st slots o ≡ s → slots_of s ≡ slots
  slots_shown st slots o s there is = ap slots_of (sym is) ∙ slots_are st slots o there

  -- the hub that READs see
  pub seen_hub : (st : Stage D M) (slots : Slots) (o : Option Message) → is_there st ≡ true → (p : D) × IsPool of p st × IsOf (hub_at p slots) (standing of left st slots o)
  seen_hub (Whole p) slots o there = (p, refl, refl)
  seen_hub (Midway m) slots None there = (of m, refl, refl)
  seen_hub (Midway m) slots (Some message) there = (of m, refl, refl)
  seen_hub Away slots o there = absurd cc

  abbrev pool_in : D → Standing D → D
  pool_in p (Idle hub) = hub.pool
  pool_in p (Keeping hub left) = p
  pool_in p (Ordering message hub left) = p
  pool_in p Nowhere = p

  -- no commit is under way
  pub idle_whole : (st : Stage D M) (slots : Slots) (o : Option Message) (hub : HubState D) → standing of left st slots o ≡ Idle hub → st ≡ Whole hub.pool
  idle_whole (Whole p) slots o hub is = ap Whole (ap (pool_in p) is)
  idle_whole (Midway m) slots None hub is = let no_ : is_idle (Keeping (hub_at (of m) slots) (left m)) ≡ true = ap is_idle is in absurd cc
  idle_whole (Midway m) slots (Some message) hub is = let no_ : is_idle (Ordering message (hub_at (of m) slots) (left m)) ≡ true = ap is_idle is in absurd cc
  idle_whole Away slots o hub is = let no_ : is_idle {D = D} Nowhere ≡ true = ap is_idle is in absurd cc

  pub whole_of : (st : Stage D M) (p : D) → st ≡ Whole p → is_whole st ≡ true
  whole_of st p is = ap is_whole is

  -- ---- the commit that is under way

  pub parts_are : (st : Stage D M) (slots : Slots) (o : Option Message) → parts_of (standing of left st slots o) ≡ parts_at left st
  parts_are (Whole p) slots o = refl
  parts_are (Midway m) slots None = refl
  parts_are (Midway m) slots (Some message) = refl
  parts_are Away slots o = refl

  fewer_left : (before : Option ℕ) (m : M) → IsFurther {D = D} left before (flushing.Midway m) → HasFewer before (Some (left m))
  fewer_left None m further = tt
  fewer_left (Some most) m further = further

  pub fewer_parts : (st taken st' : Stage D M) (m : M) → taken ≡ st → st' ≡ Midway m → IsFurther {D = D} left (parts_at left taken) (flushing.Midway m) → HasFewer (parts_at left st) (parts_at left st')
  fewer_parts st taken st' m same is further =
      subst (λ (s : Stage D M). HasFewer (parts_at left s) (parts_at left st')) same (subst (λ (s : Stage D M). HasFewer (parts_at left taken) (parts_at left s)) (sym is) (fewer_left (parts_at left taken) m further))

  for_event : (event : Event) (st : Stage D M) (slots : Slots) (o : Option Message) → IsForEvent event (standing of left st slots o) → IsFor st o (message_in event)
  for_event event (Whole p) slots o its = tt
  for_event event (Midway m) slots None its = sym its
  for_event event (Midway m) slots (Some message) its = sym its
  for_event event Away slots o its = absurd its

  event_for : (event : Event) (st : Stage D M) (slots : Slots) (o : Option Message) → IsFor st o (message_in event) → IsForEvent event (standing of left st slots o)
  event_for event (Whole p) slots o its = tt
  event_for event (Midway m) slots None its = sym its
  event_for event (Midway m) slots (Some message) its = sym its
  event_for event Away slots o its = absurd its

  pub its_event : (event : Event) (st : Stage D M) (slots : Slots) (o : Option Message) → is_there st ≡ true → o ≡ message_in event → IsForEvent event (standing of left st slots o)
  its_event event (Whole p) slots o there is = tt
  its_event event (Midway m) slots None there is = sym is
  its_event event (Midway m) slots (Some message) there is = sym is
  its_event event Away slots o there is = absurd cc

  module _ (event : Event) (st : Stage D M) (slots : Slots) (o : Option Message) (s : Standing D) (there : is_there st ≡ true) (is : standing of left st slots o ≡ s) where
    pub may_keep : MayKeep event s → AsksCommit (sessions_of slots) event × IsFor st o (message_in event)
    may_keep may =
        let m = subst (MayKeep event) (sym is) may in
        (subst (λ (l : Slots). AsksCommit (sessions_of l) event) (slots_are st slots o there) m.0, for_event event st slots o m.1)

    pub is_kept : AsksCommit (sessions_of slots) event → IsFor st o (message_in event) → MayKeep event s
    is_kept asks its = subst (MayKeep event) is (subst (λ (l : Slots). AsksCommit (sessions_of l) event) (sym (slots_are st slots o there)) asks, event_for event st slots o its)

    pub has_fewer : (st' : Stage D M) (slots' : Slots) (o' : Option Message) → HasFewer (parts_at left st) (parts_at left st') → HasFewer (parts_of s) (parts_of (standing of left st' slots' o'))
    has_fewer st' slots' o' fewer =
        subst (λ (n : Option ℕ). HasFewer (parts_of s) n) (sym (parts_are st' slots' o'))
        (subst (λ (n : Option ℕ). HasFewer n (parts_at left st')) (sym (parts_are st slots o) ∙ ap parts_of is) fewer)

  pub idle_slots : (st : Stage D M) (slots : Slots) (o : Option Message) (hub : HubState D) → standing of left st slots o ≡ Idle hub → slots ≡ hub.slots
  idle_slots st slots o hub is = sym (slots_shown st slots o (Idle hub) (ap is_there (idle_whole st slots o hub is)) is)

  -- a message is under way
  pub ordering_midway : (st : Stage D M) (slots : Slots) (o : Option Message) → is_ordering (standing of left st slots o) ≡ true → (is_whole st ≡ false) × (is_some o ≡ true)
  ordering_midway (Whole p) slots o is = absurd cc
  ordering_midway (Midway m) slots None is = absurd cc
  ordering_midway (Midway m) slots (Some message) is = (refl, refl)
  ordering_midway Away slots o is = absurd cc

module _ {D : Type 0} (view : View D) where
  abbrev Serving : HubState D → Type 0
  Serving h = Serves (view.outline h.pool) (view.more h.pool) h.slots

  -- ---- what serves before, serves during, and the other way

  serves_before_it : (p p' : D) (slots : Slots) (m : Message) → Unkept view p p' (call_of m) → Serves (view.outline p') (view.more p') slots → Serves (view.outline p) (view.more p) slots
  serves_before_it p p' slots m u serves =
      serves_kept (view.outline p') (view.outline p) (view.more p') (view.more p) slots (sym (ap (λ (o : Outline). o.geometry) u.outline)) (sym (ap (λ (o : Outline). o.holds) u.outline)) (λ id after before. sym (u.more id before)) serves

  -- each hub before it serves
  pub each_serves : (s : Standing D) (one other : HubState D) → IsBefore view one s → IsBefore view other s → Serving one → Serving other
  each_serves (Idle h) one other a b serves = subst Serving (sym a ∙ b) serves
  each_serves (Keeping h left) one other a b serves = subst Serving (sym a ∙ b) serves
  each_serves (Ordering m h left) one other a b serves =
      let during = serves_unkept view one.pool h.pool h.slots m a.pool (subst (λ (l : Slots). Serves (view.outline one.pool) (view.more one.pool) l) (sym a.slots) serves) in
      subst (λ (l : Slots). Serves (view.outline other.pool) (view.more other.pool) l) b.slots (serves_before_it other.pool h.pool h.slots m b.pool during)
  each_serves Nowhere one other a b serves = absurd a

  module _ {M : Type 0} (of : M → D) (left : M → ℕ) where
    -- the pool that READs see
    pub seen_serves : (st : Stage D M) (slots : Slots) (o : Option Message) → IsServing view (standing of left st slots o) → (p : D) → IsPool of p st → Serves (view.outline p) (view.more p) slots
    seen_serves (Whole q) slots o s p is = subst (λ (d : D). Serves (view.outline d) (view.more d) slots) is (subst Serving (sym s.1) s.2)
    seen_serves (Midway m) slots None s p is = subst (λ (d : D). Serves (view.outline d) (view.more d) slots) is (subst Serving (sym s.1) s.2)
    seen_serves (Midway m) slots (Some message) s p is =
        let old = s.0 in
        let u = s.1 in
        subst (λ (d : D). Serves (view.outline d) (view.more d) slots) is
        (serves_unkept view old.pool (of m) slots message u.pool (subst (λ (l : Slots). Serves (view.outline old.pool) (view.more old.pool) l) (sym u.slots) s.2))
    seen_serves Away slots o s p is = absurd is

    pub there_before : (st : Stage D M) (slots : Slots) (o : Option Message) (old : HubState D) → IsBefore view old (standing of left st slots o) → is_there st ≡ true
    there_before (Whole p) slots o old before = refl
    there_before (Midway m) slots o old before = refl
    there_before Away slots o old before = absurd before

    -- ---- a part of a flush

    pub flush_pool : (st : Stage D M) (slots : Slots) (o : Option Message) (old : HubState D) → IsFor st o None → IsBefore view old (standing of left st slots o) → IsPool of old.pool st × (old.slots ≡ slots)
    flush_pool (Whole p) slots o old its before = (ap (λ (h : HubState D). h.pool) before, ap (λ (h : HubState D). h.slots) (sym before))
    flush_pool (Midway m) slots o old its before =
        let b : hub_at (of m) slots ≡ old = subst (λ (x : Option Message). IsBefore view old (midway x (hub_at (of m) slots) (left m))) its before in
        (ap (λ (h : HubState D). h.pool) b, ap (λ (h : HubState D). h.slots) (sym b))
    flush_pool Away slots o old its before = absurd its

    mid_before : (st : Stage D M) (slots : Slots) (old : HubState D) → IsParted view of old.pool st None → slots ≡ old.slots → IsBefore view old (standing of left st slots None)
    mid_before (Whole p) slots old parted is = absurd parted
    mid_before (Midway m) slots old parted is = still_hub view old (hub_at (of m) slots) parted is
    mid_before Away slots old parted is = absurd parted

    asked_from : (old : HubState D) (slots slots' : Slots) (q : D) (event : Incoming) (ran : Ran) (before after : Told) → old.slots ≡ slots
        → IsAsked (λ took answers. RunsSo view (sessions_of slots) old.pool took answers (sessions_of slots') q) event ran.events ran.bytes before after
        → IsAsked (λ took answers. HubRuns view old took answers (hub_at q slots')) event ran.events ran.bytes before after
    asked_from old slots slots' q event ran before after is asked =
        subst (λ (l : Slots). IsAsked (λ took answers. RunsSo view (sessions_of l) old.pool took answers (sessions_of slots') q) event ran.events ran.bytes before after) (sym is) asked

    -- an event was taken by one run of the hub
    pub kept_for : (old : HubState D) (slots slots' : Slots) (o : Option Message) (st : Stage D M) (event : Incoming) (ran : Ran) (before after : Told) → old.slots ≡ slots
        → IsKept view old.pool slots event ran before after st slots' → IsKeptFor view old event (Some ran) before after (standing of left st slots' o)
    kept_for old slots slots' o st event ran before after is kept = (
      hub_at kept.0 slots',
      ap (λ (x : Stage D M). standing of left x slots' o) kept.1,
      kept.2,
      asked_from old slots slots' kept.0 event ran before after is kept.3,
    )

    pub flush_kept : (r : Option Ran) (old : HubState D) (slots slots' : Slots) (st : Stage D M) (event : Incoming) (before after : Told) → old.slots ≡ slots
        → MatchOption r (IsParted view of old.pool st None × (slots' ≡ slots) × (after ≡ before)) (λ ran. IsKept view old.pool slots event ran before after st slots') → IsKeptFor view old event r before after (standing of left st slots' None)
    flush_kept None old slots slots' st event before after is kept = (mid_before st slots' old kept.0 (kept.1 ∙ sym is), kept.2)
    flush_kept (Some ran) old slots slots' st event before after is kept = kept_for old slots slots' None st event ran before after is kept

    pub flush_read : (r : Option Ran) (st : Stage D M) (slots : Slots) (old : HubState D) (event : Incoming) (before after : Told) → IsKeptFor view old event r before after (standing of left st slots None) → IsRead (standing of left st slots None)
    flush_read r (Whole q) slots old event before after kept = tt
    flush_read r (Midway m) slots old event before after kept = tt
    flush_read None Away slots old event before after kept = absurd kept.0
    flush_read (Some ran) Away slots old event before after kept = let no_ : is_idle {D = D} Nowhere ≡ true = ap is_idle kept.1 in absurd cc

    -- ---- a part of a message

    pub order_pool : (st : Stage D M) (slots : Slots) (o : Option Message) (message : Message) (old : HubState D) → IsFor st o (Some message) → IsBefore view old (standing of left st slots o) → IsOrderPool view of message old.pool st × (old.slots ≡ slots)
    order_pool (Whole p) slots o message old its before = (ap (λ (h : HubState D). h.pool) before, ap (λ (h : HubState D). h.slots) (sym before))
    order_pool (Midway m) slots o message old its before =
        let u = subst (λ (x : Option Message). IsBefore view old (midway x (hub_at (of m) slots) (left m))) its before in
        (u.pool, sym u.slots)
    order_pool Away slots o message old its before = absurd its

    pub order_before : (st : Stage D M) (slots : Slots) (message : Message) (old : HubState D) → IsOrderParted view of message old.pool st None → old.slots ≡ slots → IsBefore view old (standing of left st slots (Some message))
    order_before (Whole p) slots message old parted is = absurd parted
    order_before (Midway m) slots message old parted is = record { pool = parted; slots = sym is }
    order_before Away slots message old parted is = absurd parted

    pub order_read : (st : Stage D M) (slots : Slots) (message : Message) (old : HubState D) (line : List ℕ) → reading line ≡ Ok message → IsBefore view old (standing of left st slots (Some message)) → IsRead (standing of left st slots (Some message))
    order_read (Whole p) slots message old line reads before = tt
    order_read (Midway m) slots message old line reads before = (line, reads)
    order_read Away slots message old line reads before = absurd before

    made_asked : (old : HubState D) (q : D) (slots : Slots) (message : Message) (line : List ℕ) (answer : Result (Unit {0}) Refusal) (before after : Told) → old.slots ≡ slots → reading line ≡ Ok message → IsMessageMade view old.pool q message answer
        → Grows before after (flush_told answer ∷ []) → IsAsked (λ took answers. HubRuns view old took answers (hub_at q slots)) (Orders line) 1 0 before after
    made_asked old q slots message line answer before after is reads made grows = record {
      answers = flush_told answer ∷ [];
      did = hub_ordered view old (hub_at q slots) old.pool q slots message answer refl (sym is) refl refl made line reads;
      adds = grows;
      cut = (refl, refl);
      silent = λ none nothing. absurd (omega (arith, none));
      begun = λ room. omega arith;
    }

    pub order_made : (st : Stage D M) (slots : Slots) (o : Option Message) (message : Message) (old : HubState D) (line : List ℕ) (answer : Result (Unit {0}) Refusal) (before after : Told) → old.slots ≡ slots → reading line ≡ Ok message → Serving old
        → IsOrderParted view of message old.pool st (Some answer) → Grows before after (flush_told answer ∷ [])
        → (new : HubState D) × (standing of left st slots o ≡ Idle new) × Serving new × IsAsked (λ took answers. HubRuns view old took answers new) (Orders line) 1 0 before after
    order_made (Whole q) slots o message old line answer before after is reads serves made grows = (
      hub_at q slots,
      refl,
      serves_ordered view old.pool q slots message answer made (subst (λ (l : Slots). Serves (view.outline old.pool) (view.more old.pool) l) is serves),
      made_asked old q slots message line answer before after is reads made grows,
    )
    order_made (Midway m) slots o message old line answer before after is reads serves made grows = absurd made
    order_made Away slots o message old line answer before after is reads serves made grows = absurd made

    -- ---- the pool of a place

    pub replaced : (st st' : Stage D M) (old : D) → st' ≡ st → IsPool of old st → IsPool of old st'
    replaced st st' old is pool = subst (IsPool of old) (sym is) pool

    pub part_done : (st : Stage D M) (q old : D) (answer : Result (Unit {0}) Refusal) → st ≡ Whole q → IsFlushed view old q answer → IsParted view of old st (Some answer)
    part_done st q old answer is met = subst (λ (x : Stage D M). IsParted view of old x (Some answer)) (sym is) met

    pub part_midway : (st : Stage D M) (m : M) (old : D) → st ≡ Midway m → of m ≡ old → IsParted view of old st None
    part_midway st m old is same = subst (λ (x : Stage D M). IsParted view of old x None) (sym is) same

    -- how often the disk was flushed behind it
    pub parted_few : (st : Stage D M) (p q : D) (answer : Result (Unit {0}) Refusal) → IsParted view of p st (Some answer) → st ≡ Whole q → view.flushes q ≤ view.flushes p + 2
    parted_few st p q answer parted is = flush_few view p q answer (subst (λ (x : Stage D M). IsParted view of p x (Some answer)) is parted)

    pub order_few : (st : Stage D M) (message : Message) (p q : D) (answer : Result (Unit {0}) Refusal) → IsOrderParted view of message p st (Some answer) → st ≡ Whole q → view.flushes q ≤ view.flushes p + 4
    order_few st message p q answer parted is = message_few view p q message answer (subst (λ (x : Stage D M). IsOrderParted view of message p x (Some answer)) is parted)

    -- a message is changed, or is under way, and its flush makes a part
    pub order_parted : ViewLaws view → (st : Stage D M) (message : Message) (p mid : D) (o : Option (Result (Unit {0}) Refusal)) → Unkept view p mid (call_of message) → IsParted view of mid st o → IsOrderParted view of message p st o
    order_parted laws (Whole q) message p mid (Some answer) u parted = message_kept view laws p mid q message answer u parted
    order_parted laws (Midway m) message p mid None u parted = subst (λ (d : D). Unkept view p d (call_of message)) (sym parted) u
    order_parted laws (Whole q) message p mid None u parted = absurd parted
    order_parted laws (Midway m) message p mid (Some answer) u parted = absurd parted
    order_parted laws Away message p mid o u parted = absurd parted

    -- ---- all that is left of a commit

    pub settled_hub : ViewLaws view → (st : Stage D M) (slots : Slots) (o : Option Message) (q : D) → IsBehind view of st q → IsSettled view (standing of left st slots o) (hub_at q slots)
    settled_hub laws (Whole p) slots o q is = λ i. hub_at (is i) slots
    settled_hub laws (Midway m) slots None q is = (is.0, hub_flushed view (hub_at (of m) slots) (hub_at q slots) (of m) q slots is.0 refl refl refl refl is.1)
    settled_hub laws (Midway m) slots (Some message) q is =
        (is.0, λ old u. hub_ordered view old (hub_at q slots) old.pool q slots message is.0 refl u.slots refl refl (message_kept view laws old.pool (of m) q message is.0 u.pool is.1))
    settled_hub laws Away slots o q is = absurd is

    pub settled_serves : (st : Stage D M) (slots : Slots) (o : Option Message) (q : D) → IsBehind view of st q → IsServing view (standing of left st slots o) → Serves (view.outline q) (view.more q) slots
    settled_serves (Whole p) slots o q is s = seen_serves (Whole p) slots o s q (sym is)
    settled_serves (Midway m) slots o q is s = serves_behind view (of m) q slots is.0 is.1 (seen_serves (Midway m) slots o s (of m) refl)
    settled_serves Away slots o q is s = absurd is

  -- ---- where it came from

  module _ (IsStart : HubState D → Type 0) where
    pub starts : (h : HubState D) → IsStart h → IsFrom view IsStart h
    starts h is = record { start = h; is_start = is; asks = []; asked = refl }

    pub goes_on : (mid new : HubState D) (x : Exchange) → IsFrom view IsStart mid → HubRuns view mid x.took x.answers new → IsFrom view IsStart new
    goes_on mid new x is d = record { start = is.start; is_start = is.is_start; asks = is.asks ++ x ∷ []; asked = asked_on (HubRuns view) is.start mid new is.asks x is.asked d }

    pub asked_once : (mid new : HubState D) (event : Incoming) (events bytes : ℕ) (before after : Told) → IsFrom view IsStart mid → IsAsked (λ took answers. HubRuns view mid took answers new) event events bytes before after → IsFrom view IsStart new
    asked_once mid new event events bytes before after is asked = goes_on mid new (record { took = _; answers = asked.answers }) is asked.did

    pub serving_of : (s : Standing D) → Stands view IsStart s → IsServing view s
    serving_of s st = (st.old, st.before, st.serves)

    -- of a hub that makes no commit all is known
    pub idle_stands : (h : HubState D) → Serving h → IsFrom view IsStart h → Stands view IsStart (Idle h)
    idle_stands h serves from = record { old = h; before = refl; serves = serves; from = from; read = tt }

    pub settled_from : (s : Standing D) (new : HubState D) → Stands view IsStart s → IsSettled view s new → IsFrom view IsStart new
    settled_from (Idle h) new st is = subst (IsFrom view IsStart) (sym (is ∙ st.before)) st.from
    settled_from (Keeping h left) new st is =
        goes_on h new (record { took = AsksFlush ∷ []; answers = flush_told is.0 ∷ [] }) (subst (IsFrom view IsStart) (sym st.before) st.from) is.1.run
    settled_from (Ordering m h left) new st is =
        goes_on st.old new (record { took = Orders st.read.0 ∷ []; answers = flush_told is.0 ∷ [] }) st.from (is.1 st.old st.before st.read.0 st.read.1)
    settled_from Nowhere new st is = absurd is

    -- behind a part of a commit
    pub kept_stands : (r : Option Ran) (s s' : Standing D) (event : Incoming) (before after : Told) → Stands view IsStart s → ((old : HubState D) → IsBefore view old s → IsKeptFor view old event r before after s') → (IsRead s → IsRead s') → Stands view IsStart s'
    kept_stands None s s' event before after st kept read = let k = kept st.old st.before in record { old = st.old; before = k.0; serves = st.serves; from = st.from; read = read st.read }
    kept_stands (Some ran) s s' event before after st kept read =
        let k = kept st.old st.before in
        subst (Stands view IsStart) (sym k.1) (idle_stands k.0 k.2 (asked_once st.old k.0 event ran.events ran.bytes before after st.from k.3))
