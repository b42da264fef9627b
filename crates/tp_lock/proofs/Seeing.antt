-- What is known behind an ask of a hub alone.
use Rattle.std.proofs.Common.{◌≡◌, ◌∙◌, ◌<◌, ◌≤◌, ℕ, false, true≢false, Option, Some, List, [], ◌++◌, length, sym, ap, subst, arith}
use Rattle.std.proofs.lemmas.Bool.{eq-eqb}
use Rattle.tp_model.specs.Clauses.{View}
use Rattle.nbd_session.specs.Turns.{Sessions}
use Rattle.tp_hub.specs.declared.event.Event.{Event}
use Rattle.tp_hub.specs.declared.event.Event.TheVariants as kinds
use Rattle.tp_hub.specs.declared.hub.Ran.{Ran}
use Rattle.tp_hub.specs.Told.{Answer, HasRoom, KeepsRoom, Told, all_sent}
use Rattle.tp_hub.specs.Runs.{Brings, Incoming, incoming, session_in}
use Rattle.tp_hub.specs.Desks.{IsAsked}
use Rattle.tp_hub.specs.Parts.{is_parted_to}
use Rattle.tp_hub.specs.Serve.{HubRuns}
use Rattle.tp_hub.specs.Serving.{HubState, sessions_of}
use Rattle.tp_hub.specs.Staged.{AsksCommit, Idle, Standing, slots_of}
use Rattle.tp_hub.proofs.Turning.{room_then}
use Rattle.tp_lock.specs.declared.locked.Seen.{Seen}
use Rattle.tp_lock.specs.Locked.{SomeRun, SomeRunTo, has_left, hearer_in}
use Rattle.tp_lock.specs.Seen.{IsSeen}
use Rattle.tp_lock.proofs.Locking.{some_run, some_run_to}

-- an event that asks for a commit does not bring a session no bytes, unless it may be parted
pub asks_parted : (at : Sessions) (event : Event) → AsksCommit at event → (n : ℕ) → is_parted_to n event ≡ false → incoming event ≡ Brings n [] → ⊥
asks_parted at (kinds.Parted session piece) asks n apart is = true≢false (sym (eq-eqb session n (ap session_in is)) ∙ apart)
asks_parted at (kinds.Message line) asks n apart is = absurd cc
asks_parted at kinds.Flush asks n apart is = absurd cc
asks_parted at (kinds.Open session profile) asks n apart is = asks
asks_parted at (kinds.Bytes session piece) asks n apart is = asks
asks_parted at (kinds.Hangup session) asks n apart is = asks
asks_parted at kinds.Status asks n apart is = asks
asks_parted at (kinds.ThinStatus volume) asks n apart is = asks
asks_parted at (kinds.Size volume) asks n apart is = asks
asks_parted at (kinds.Map volume from) asks n apart is = asks
asks_parted at (kinds.Delta old new from) asks n apart is = asks

-- room was made before
asked_wider : (Did : List Incoming → List Answer → Type 0) (event : Incoming) (events bytes : ℕ) (before mid after : Told) → mid.list ≡ before.list → KeepsRoom before mid → before.marks ≤ mid.marks
    → IsAsked Did event events bytes mid after → IsAsked Did event events bytes before after
asked_wider Did event events bytes before mid after list room marks asked = record {
  answers = asked.answers;
  did = asked.did;
  adds = record {
    list = asked.adds.list ∙ ap (λ (l : List Answer). l ++ asked.answers) list;
    room = room_then room asked.adds.room;
    marks = omega (arith, marks, asked.adds.marks);
  };
  cut = asked.cut;
  silent = asked.silent;
  begun = λ has. asked.begun (wider has);
}
  where
    wider : HasRoom before → HasRoom mid
    wider has = record {
      bytes = let sent = ap (λ (l : List Answer). length (all_sent l)) list in omega (arith, sent, room.room, has.bytes);
      marks = let count = ap (λ (l : List Answer). length l) list in omega (arith, count, marks, has.marks);
    }

module _ {D : Type 0} (view : View D) where
  -- one run of a hub was made, and its session was looked at behind it
  pub seen_of : (event : Event) (seen : Seen) (ran : Ran) (hearer : Option ℕ) (old new : HubState D) (s : Standing D) (before after : Told) → hearer ≡ hearer_in (incoming event) → seen.ran ≡ ran
      → seen.is_at_work ≡ has_left (sessions_of (slots_of s)) hearer → s ≡ Idle new → IsAsked (λ took answers. HubRuns view old took answers new) (incoming event) ran.events ran.bytes before after
      → ((n : ℕ) → is_parted_to n event ≡ false → incoming event ≡ Brings n [] → 0 < ran.events → has_left (sessions_of (slots_of s)) (Some n) ≡ false)
      → IsSeen view event seen before after
  seen_of event seen ran hearer old new s before after its ran_is work s_is asked made =
      let there : sessions_of (slots_of s) ≡ sessions_of new.slots = ap (λ (x : Standing D). sessions_of (slots_of x)) s_is in
      let left : seen.is_at_work ≡ has_left (sessions_of (slots_of s)) (hearer_in (incoming event)) = work ∙ ap (has_left (sessions_of (slots_of s))) its in
      let asked_here = subst (λ (r : Ran). IsAsked (λ took answers. HubRuns view old took answers new) (incoming event) r.events r.bytes before after) (sym ran_is) asked in
      record {
        asked = some_run view (sessions_of old.slots) (sessions_of new.slots) old.pool new.pool (incoming event) seen.ran.events seen.ran.bytes before after asked_here;
        told = some_run_to view (hearer_in (incoming event)) seen.is_at_work (sessions_of old.slots) (sessions_of new.slots) old.pool new.pool (incoming event) seen.ran.events seen.ran.bytes before after asked_here
            (left ∙ ap (λ (at : Sessions). has_left at (hearer_in (incoming event))) there);
        made = λ n apart is some. left ∙ (ap (λ (e : Incoming). has_left (sessions_of (slots_of s)) (hearer_in e)) is ∙ made n apart is (subst (λ (r : Ran). 0 < r.events) ran_is some));
      }

  pub seen_wider : (event : Event) (seen : Seen) (before mid after : Told) → mid.list ≡ before.list → KeepsRoom before mid → before.marks ≤ mid.marks → IsSeen view event seen mid after → IsSeen view event seen before after
  seen_wider event seen before mid after list room marks is = record {
    asked = asked_wider (λ took answers. SomeRun view took answers) (incoming event) seen.ran.events seen.ran.bytes before mid after list room marks is.asked;
    told = asked_wider (λ took answers. SomeRunTo view (hearer_in (incoming event)) seen.is_at_work took answers) (incoming event) seen.ran.events seen.ran.bytes before mid after list room marks is.told;
    made = is.made;
  }
