-- That no parts of a request are left.
use Rattle.std.proofs.Common.{◌≡◌, ℕ, zero, suc, ◌+◌, ◌<◌, Bool, true, false, List, [], ◌∷◌, length, Option, None, get_or, inl, inr, refl, sym, ap, subst, ◌∙◌, arith}
use Rattle.std.specs.Prelude.{◌==◌, map, not, slice_set}
use Rattle.std.proofs.lemmas.Bool.{cases_eq, eq-eqb}
use Rattle.std.proofs.lemmas.List.{get_or-set_other, get_or-set_same, get_or_read}
use Rattle.std.proofs.lemmas.List.Elements.{All-get_or}
use Rattle.nbd_session.specs.declared.phase.Phase.{Phase}
use Rattle.nbd_session.specs.declared.phase.Phase.TheVariants.{Flags, Options, Transmission, Ended}
use Rattle.nbd_session.specs.Session.{State, has_ended, is_at_work}
use Rattle.nbd_session.specs.Turns.{Sessions}
use Rattle.tp_hub.specs.declared.event.Event.{Event}
use Rattle.tp_hub.specs.Runs.{AsksDeltaOf, AsksFlush, AsksLine, AsksLineOf, AsksMapOf, AsksSizeOf, Brings, Comes, Goes, Incoming, Orders, incoming, session_in}
use Rattle.tp_hub.specs.Parts.{BringIdle, IsIdle, StayIdle, is_parted_to}
use Rattle.tp_hub.specs.Places.{IsIdleSlot}
use Rattle.tp_hub.specs.Serving.{HubState, Slots, sessions_of, shown, slot_at}

pub ended_is_idle : (phase : Phase) → has_ended phase ≡ true → is_at_work phase ≡ false
ended_is_idle (Flags a) over = absurd cc
ended_is_idle (Options z) over = absurd cc
ended_is_idle (Transmission v size c) over = absurd cc
ended_is_idle Ended over = refl

-- ---- one place

-- it became another
pub idle_set : (slots : Slots) (i m n : ℕ) (d old new : Option State) → i ≡ m → m < 64 → length slots ≡ 64 → d ≡ get_or slots i d → old ≡ d → (m ≡ n → IsIdleSlot old → IsIdleSlot new)
    → IsIdle (sessions_of slots) n → IsIdle (sessions_of (slice_set slots i new)) n
idle_set slots i m n d old new i_is lt count d_is old_is keeps idle = elim (cases_eq n i) [
  | inl e ↦
      let inside : i < length slots = omega (arith, i_is, lt, count) in
      let was : slot_at slots n ≡ old = ap (slot_at slots) e ∙ (sym (get_or_read slots i d inside d_is None) ∙ sym old_is) in
      let is : slot_at (slice_set slots i new) n ≡ new = ap (slot_at (slice_set slots i new)) e ∙ get_or-set_same slots i new None inside in
      subst IsIdleSlot (sym is) (keeps (sym i_is ∙ sym e) (subst IsIdleSlot was idle))
  | inr ne ↦ ap (λ (o : Option State). is_at_work (shown o).phase) (get_or-set_other slots i n new None ne) ∙ idle
]

-- it has none left now
pub idle_here : (slots : Slots) (i m n : ℕ) (new : Option State) → i ≡ m → m < 64 → length slots ≡ 64 → m ≡ n → IsIdleSlot new → IsIdle (sessions_of (slice_set slots i new)) n
idle_here slots i m n new i_is lt count is idle =
    let there : slot_at (slice_set slots i new) n ≡ new = ap (slot_at (slice_set slots i new)) (sym is ∙ sym i_is) ∙ get_or-set_same slots i new None (omega (arith, i_is, lt, count)) in
    subst IsIdleSlot (sym there) idle

-- ---- which event it is

abbrev text_in : Incoming → List ℕ
text_in (Brings session piece) = piece
text_in (Comes session profile) = []
text_in (Goes session) = []
text_in (Orders line) = []
text_in AsksLine = []
text_in (AsksLineOf volume) = []
text_in (AsksSizeOf volume) = []
text_in (AsksMapOf volume from) = []
text_in (AsksDeltaOf old new from) = []
text_in AsksFlush = []

pub same_session : (m n : ℕ) (piece text : List ℕ) → Brings m piece ≡ Brings n text → m ≡ n
same_session m n piece text is = ap session_in is

pub same_text : (m n : ℕ) (piece text : List ℕ) → Brings m piece ≡ Brings n text → piece ≡ text
same_text m n piece text is = ap text_in is

pub not_there : (m n : ℕ) → (m == n) ≡ false → m ≡ n → (A : Type 0) → A
not_there m n no_ is A = let yes_ : (m == n) ≡ true = eq-eqb m n is in absurd cc

-- ---- events one after another

pub idle_on : (events : List Event) (i : ℕ) (d : Event) (first at at' : Sessions) → i < length events → StayIdle first events at → ((n : ℕ) → is_parted_to n (get_or events i d) ≡ false → IsIdle at n → IsIdle at' n) → StayIdle first events at'
idle_on events i d first at at' lt stay keep n all idle = keep n (All-get_or (λ e. is_parted_to n e ≡ false) events i d lt all) (stay n all idle)

-- the event at which a run stops
pub made_still : (events : List Event) (i : ℕ) (d : Event) (at at' : Sessions) → i < length events → BringIdle events i at → ((n : ℕ) → is_parted_to n (get_or events i d) ≡ false → IsIdle at n → IsIdle at' n) → BringIdle events i at'
made_still events i d at at' lt made keep n later is all some = keep n (All-get_or (λ e. is_parted_to n e ≡ false) events i d lt all) (made n later is all some)

is_whole : (b : Bool) → not b ≡ false → b ≡ true
is_whole true e = refl
is_whole false e = absurd cc

abbrev head_of : Incoming → List Incoming → Incoming
head_of d [] = d
head_of d (x ∷ xs) = x

first_is : (events : List Event) (d : Event) (x : Incoming) (later : List Incoming) → map incoming events ≡ x ∷ later → incoming (get_or events 0 d) ≡ x
first_is [] d x later is = absurd cc
first_is (e ∷ es) d x later is = ap (head_of x) is

pub made_on : (events : List Event) (i : ℕ) (d : Event) (whole : Bool) (at at' : Sessions) → i < length events → not whole ≡ false → BringIdle events i at → ((n : ℕ) → is_parted_to n (get_or events i d) ≡ false → IsIdle at n → IsIdle at' n)
    → ((n : ℕ) → is_parted_to n (get_or events i d) ≡ false → incoming (get_or events i d) ≡ Brings n [] → whole ≡ true → IsIdle at' n) → BringIdle events (i + 1) at'
made_on events zero d whole at at' lt goes made keep makes n later is all some =
    makes n (All-get_or (λ e. is_parted_to n e ≡ false) events 0 d lt all) (first_is events d (Brings n []) later is) (is_whole whole goes)
made_on events (suc i) d whole at at' lt goes made keep makes n later is all some =
    keep n (All-get_or (λ e. is_parted_to n e ≡ false) events (suc i) d lt all) (made n later is all (omega arith))

-- a hub's sessions are those at its places
pub idle_shown : {D : Type 0} (h k : HubState D) (n : ℕ) → h ≡ k → IsIdle (sessions_of k.slots) n → IsIdle (sessions_of h.slots) n
idle_shown {D} h k n is idle = subst (λ (x : HubState D). IsIdle (sessions_of x.slots) n) (sym is) idle

pub stay_shown : {D : Type 0} (h k : HubState D) (events : List Event) (at' : Sessions) → h ≡ k → StayIdle (sessions_of h.slots) events at' → StayIdle (sessions_of k.slots) events at'
stay_shown {D} h k events at' is stay = subst (λ (x : HubState D). StayIdle (sessions_of x.slots) events at') is stay
