-- What the reply to a FLUSH says of what was answered before.
use Rattle.std.proofs.Common.{◌≡◌, ◌⊎◌, ℕ, ◌+◌, ◌<◌, Bool, true, false, List, [], ◌∷◌, ◌++◌, length, ◌^◌, Option, Some, None, inl, inr, refl, sym, ap, ap₂, subst, ◌∙◌, arith, append_assoc, append-nil, length-append, true≢false}
use Rattle.std.specs.Prelude.{◌&&◌, ◌||◌, ◌==◌, MatchOption, if◌then◌else◌, nat_lt}
use Rattle.std.specs.Option.{option_map_or}
use Rattle.std.proofs.lemmas.Bool.{eq-eqb, ne_eqb}
use Rattle.std.proofs.lemmas.List.{map-append}
use Rattle.tp_model.specs.declared.refusal.NbdError.{NbdError}
use Rattle.tp_model.specs.declared.refusal.NbdError.TheVariants.{NotPermitted, InputOutput, Invalid, NoSpace}
use Rattle.tp_model.specs.declared.refusal.Refusal.{Refusal}
use Rattle.tp_model.specs.declared.refusal.Refusal.TheVariants.{Fault}
use Rattle.tp_model.specs.Refusals.{nbd_code, nbd_error}
use Rattle.tp_model.specs.Requests as forms
use Rattle.tp_model.specs.Sectors.{Sector}
use Rattle.tp_model.specs.Pool.{PlainPool, volume_sector}
use Rattle.tp_model.specs.Geometry.{Geometry}
use Rattle.tp_model.specs.Calls as answers
use Rattle.tp_model.specs.Calls.{Answer, Call, Done, Flush, Makes, Refused, Step, Takes, after_refusal, refusal_of, reply}
use Rattle.tp_model.specs.PoolStops.{Event, GivenBy, GivenIn, IsState, LeftAt, MayBeLeft, MayBeLeftSince, MayReopen, NoneKeeps, Nothing, keeps, reopened, state_after}
use Rattle.tp_model.specs.Clauses.{Entry, Traced, TracedCall, View, events_of, outline_of_traced, traced}
use Rattle.tp_model.proofs.Found.{MayReopen-nothing}
use Rattle.tp_model.proofs.PoolStopLaws.{MayReopen-weaken}
use Rattle.nbd_wire.specs.declared.Kind.TheVariants as kinds
use Rattle.nbd_wire.specs.declared.Request.{Request}
use Rattle.nbd_wire.specs.declared.TheConstants.{COMMAND_FLUSH, SIMPLE_REPLY_MAGIC}
use Rattle.nbd_wire.specs.Numbers.{bytes}
use Rattle.nbd_wire.specs.Grammar.{IsFrame, Message, command}
use Rattle.nbd_wire.specs.Replies.{simple_reply}
use Rattle.nbd_wire.proofs.Frames.{one_frame}
use Rattle.nbd_wire.proofs.Fields.{width4}
use Rattle.nbd_wire.proofs.Told.{one_simple_reply, simple_head_is}
use Rattle.nbd_session.specs.declared.phase.Course.TheVariants.{Listens, Works}
use Rattle.nbd_session.specs.declared.phase.Manner.{Manner}
use Rattle.nbd_session.specs.declared.phase.Phase.{Phase}
use Rattle.nbd_session.specs.declared.phase.Phase.TheVariants.{Transmission}
use Rattle.nbd_session.specs.declared.request.Verdict.{Verdict}
use Rattle.nbd_session.specs.declared.request.Verdict.TheVariants as verdicts
use Rattle.nbd_session.specs.Requests.{form_of, is_last, is_long, long_call, long_error, part_call, plainly, rest_of, status_error, verdict_in, verdict_on}
use Rattle.nbd_session.proofs.Judging.{error_other, plainly_other, status_other}
use Rattle.nbd_session.specs.Session.{Answers, GoesOn, IsMade, MakesPart, Serves, State, Steps, TakesFrame, Waits, reply_to, state}
use Rattle.nbd_session.specs.Turns.{AreTurns, Happened, IsFoundIn, Sessions, TakesTurn, Turn, closed, pool_after, sessions_after}
use Rattle.nbd_session.proofs.Turning.{turn_follows}
use Rattle.tp_hub.proofs.Whole.{all_taken, state_is}
use Rattle.tp_hub.specs.Covered.{Covers, IsCovered, IsFlushed, IsKept, IsNewer, KeepsAll}

-- ---- what was kept

abbrev first_of : Event → List Event → Event
first_of d [] = d
first_of d (x ∷ xs) = x

abbrev behind_first : List Event → List Event
behind_first [] = []
behind_first (x ∷ xs) = xs

none_there : (a b : List Event) (e : Event) → keeps e.call e.answer ≡ true → NoneKeeps (a ++ e ∷ b) → ⊥
none_there [] b e keeps none = true≢false (sym keeps ∙ none.0)
none_there (x ∷ a) b e keeps none = none_there a b e keeps none.1

-- an event that keeps stands among those behind which a state was kept
kept_before : (a b until since : List Event) (e : Event) → a ++ e ∷ b ≡ until ++ since → keeps e.call e.answer ≡ true → NoneKeeps since → (over : List Event) × (until ≡ (a ++ e ∷ []) ++ over) × (b ≡ over ++ since)
kept_before a b [] since e cut keeps none = absurd (none_there a b e keeps (subst NoneKeeps (sym cut) none))
kept_before [] b (u ∷ until) since e cut keeps none = (until, ap (λ (l : List Event). first_of e l ∷ until) (sym cut), ap behind_first cut)
kept_before (x ∷ a) b (u ∷ until) since e cut keeps none =
    let more = kept_before a b until since e (ap behind_first cut) keeps none in
    (more.0, ap (λ (l : List Event). first_of x l ∷ until) (sym cut) ∙ ap (λ (l : List Event). x ∷ l) more.1, more.2)

given_front : (a b : List Event) (id k : ℕ) (x : Sector) → GivenIn a id k x → GivenIn (a ++ b) id k x
given_front [] b id k x g = absurd g
given_front (e ∷ a) b id k x (inl g) = inl g
given_front (e ∷ a) b id k x (inr g) = inr (given_front a b id k x g)

given_behind : (a b : List Event) (id k : ℕ) (x : Sector) → GivenIn b id k x → GivenIn (a ++ b) id k x
given_behind [] b id k x g = g
given_behind (e ∷ a) b id k x g = inr (given_behind a b id k x g)

state_last : (s : PlainPool) (xs : List Event) (e : Event) → state_after s (xs ++ e ∷ []) ≡ e.made
state_last s [] e = refl
state_last s (x ∷ xs) e = state_last x.made xs e

state_of : (s S : PlainPool) (until : List Event) → IsState (λ (P : PlainPool). ⊥) s until S → S ≡ state_after s until
state_of s S until (inl is) = is
state_of s S until (inr none) = absurd none.1

module _ (s : PlainPool) (a : List Event) (e : Event) (keeping : keeps e.call e.answer ≡ true) (P : PlainPool) where
  left_covers : (b tail : List Event) (more : ℕ → ℕ → Sector → Type 0) → ((id k : ℕ) (x : Sector) → more id k x → GivenIn tail id k x) → MayBeLeft (λ (S : PlainPool). ⊥) s ((a ++ e ∷ []) ++ b) more P → Covers s (a ++ e ∷ []) (b ++ tail) P
  left_covers b tail more given h =
      let cut : a ++ e ∷ b ≡ h.until ++ h.since = sym (append_assoc a (e ∷ []) b) ∙ h.parts in
      let w = kept_before a b h.until h.since e cut keeping h.none_keeps in
      let state_is : h.S ≡ state_after s ((a ++ e ∷ []) ++ w.0) = state_of s h.S h.until h.state ∙ ap (state_after s) w.1 in
      record {
        over = w.0;
        rest = h.since ++ tail;
        parts = ap (λ (l : List Event). l ++ tail) w.2 ∙ append_assoc w.0 h.since tail;
        reopens = subst (λ (S : PlainPool). MayReopen S (GivenIn (h.since ++ tail)) P) state_is
            (MayReopen-weaken h.S P _ _ (λ id k x g. elim g [ inl old ↦ given_front h.since tail id k x old | inr new ↦ given_behind h.since tail id k x (given id k x new) ]) h.reopens);
      }

  at_covers : (b front tail : List Event) → LeftAt (λ (S : PlainPool). ⊥) s (((a ++ e ∷ []) ++ b) ++ front) tail P → Covers s (a ++ e ∷ []) ((b ++ front) ++ tail) P
  at_covers b front [] h = left_covers (b ++ front) [] Nothing (λ id k x none. absurd none) (subst (λ (l : List Event). MayBeLeft (λ (S : PlainPool). ⊥) s l Nothing P) (append_assoc (a ++ e ∷ []) b front) h)
  at_covers b front (c ∷ cs) (inl h) = left_covers (b ++ front) (c ∷ cs) (GivenBy c) (λ id k x g. inl g) (subst (λ (l : List Event). MayBeLeft (λ (S : PlainPool). ⊥) s l (GivenBy c) P) (append_assoc (a ++ e ∷ []) b front) h)
  at_covers b front (c ∷ cs) (inr h) = record {
    over = (b ++ front) ++ c ∷ [];
    rest = cs;
    parts = sym (append_assoc (b ++ front) (c ∷ []) cs);
    reopens =
        let last : c.made ≡ state_after s ((a ++ e ∷ []) ++ ((b ++ front) ++ c ∷ [])) = sym (ap (state_after s) (sym (append_assoc (a ++ e ∷ []) (b ++ front) (c ∷ []))) ∙ state_last s ((a ++ e ∷ []) ++ (b ++ front)) c) in
        subst (λ (S : PlainPool). MayReopen S (GivenIn cs) P) last (MayReopen-weaken c.made P _ _ (λ id k x none. absurd none) h);
  }

  pub since_covers : (b later : List Event) → MayBeLeftSince (λ (S : PlainPool). ⊥) s ((a ++ e ∷ []) ++ b) later P → Covers s (a ++ e ∷ []) (b ++ later) P
  since_covers b later h =
      let all : (b ++ h.over) ++ h.rest ≡ b ++ later = append_assoc b h.over h.rest ∙ ap (λ (l : List Event). b ++ l) (sym h.parts) in
      subst (λ (l : List Event). Covers s (a ++ e ∷ []) l P) all (at_covers b h.over h.rest h.left)

pub events_join : (a b : List Entry) → events_of (a ++ b) ≡ events_of a ++ events_of b
events_join a b = map-append (λ (x : Entry). x.event) a b

module _ {D : Type 0} (view : View D) (s : PlainPool) (told : Traced) (a : List Event) (e : Event) (told_is : events_of told.trace ≡ a ++ e ∷ []) (keeping : keeps e.call e.answer ≡ true) (P : PlainPool) where
  covers_on : (t : Traced) (later since : List Entry) → t.trace ≡ told.trace ++ later → MayBeLeftSince (λ (S : PlainPool). ⊥) s (events_of t.trace) (events_of since) P → Covers s (events_of told.trace) (events_of later ++ events_of since) P
  covers_on t later since is h =
      let all : events_of t.trace ≡ (a ++ e ∷ []) ++ events_of later = ap events_of is ∙ (events_join told.trace later ∙ ap (λ (l : List Event). l ++ events_of later) told_is) in
      subst (λ (l : List Event). Covers s l (events_of later ++ events_of since) P) (sym told_is)
      (since_covers s a e keeping P (events_of later) (events_of since) (subst (λ (l : List Event). MayBeLeftSince (λ (S : PlainPool). ⊥) s l (events_of since) P) all h))

  pub covered : (t : Traced) (at : Sessions) (later : List Entry) → t.trace ≡ told.trace ++ later → (current : Option (Happened D)) → IsFoundIn view s at t current P → IsCovered view s told at t current P
  covered t at later is None h = (later, is, subst (λ (l : List Event). Covers s (events_of told.trace) l P) (append-nil (events_of later)) (covers_on t later [] is h))
  covered t at later is (Some c) (t', since, turn, more, h) = (
    t',
    later ++ since,
    turn,
    more ∙ (ap (λ (l : List Entry). l ++ since) is ∙ append_assoc told.trace later since),
    subst (λ (l : List Event). Covers s (events_of told.trace) l P) (sym (events_join later since)) (covers_on t later since is h),
  )

-- where nothing came behind it, what is found is the state behind it
pub covered_alone : (s : PlainPool) (a : List Event) (e : Event) (P : PlainPool) → Covers s (a ++ e ∷ []) [] P → P ≡ reopened e.made
covered_alone s a e P c =
    let none = nothing_in c.over c.rest c.parts in
    let state_is : state_after s ((a ++ e ∷ []) ++ c.over) ≡ e.made = ap (λ (l : List Event). state_after s ((a ++ e ∷ []) ++ l)) none.0 ∙ (ap (state_after s) (append-nil (a ++ e ∷ [])) ∙ state_last s a e) in
    MayReopen-nothing e.made P (subst (λ (S : PlainPool). MayReopen S Nothing P) state_is (MayReopen-weaken (state_after s ((a ++ e ∷ []) ++ c.over)) P _ _ (λ id k x g. subst (λ (l : List Event). GivenIn l id k x) none.1 g) c.reopens))
  where
    nothing_in : (x y : List Event) → [] ≡ x ++ y → (x ≡ []) × (y ≡ [])
    nothing_in [] y is = (refl, sym is)
    nothing_in (z ∷ x) y is = absurd cc

-- ---- a sector that was written

newer_front : (xs ys : List Event) (id k : ℕ) (P : PlainPool) → IsNewer xs id k P → IsNewer (xs ++ ys) id k P
newer_front [] ys id k P n = absurd n
newer_front (x ∷ xs) ys id k P (inl is) = inl is
newer_front (x ∷ xs) ys id k P (inr (inl g)) = inr (inl g)
newer_front (x ∷ xs) ys id k P (inr (inr n)) = inr (inr (newer_front xs ys id k P n))

newer_behind : (xs ys : List Event) (id k : ℕ) (P : PlainPool) → IsNewer ys id k P → IsNewer (xs ++ ys) id k P
newer_behind [] ys id k P n = n
newer_behind (x ∷ xs) ys id k P n = inr (inr (newer_behind xs ys id k P n))

given_newer : (xs : List Event) (id k : ℕ) (x : Sector) (P : PlainPool) → volume_sector P id k ≡ Some x → GivenIn xs id k x → IsNewer xs id k P
given_newer [] id k x P is g = absurd g
given_newer (e ∷ xs) id k x P is (inl g) = inr (inl (x, is, g))
given_newer (e ∷ xs) id k x P is (inr g) = inr (inr (given_newer xs id k x P is g))

-- the state behind some events is that which the last one made
left_by : (w : Event) (xs : List Event) (id k : ℕ) (P : PlainPool) → volume_sector P id k ≡ volume_sector (state_after w.made xs) id k → (volume_sector P id k ≡ volume_sector w.made id k) ⊎ IsNewer xs id k P
left_by w [] id k P is = inl is
left_by w (x ∷ xs) id k P is = elim (left_by x xs id k P is) [ inl last ↦ inr (inl last) | inr more ↦ inr (inr (inr more)) ]

state_there : (s : PlainPool) (a : List Event) (w : Event) (xs : List Event) → state_after s (a ++ w ∷ xs) ≡ state_after w.made xs
state_there s [] w xs = refl
state_there s (x ∷ a) w xs = state_there x.made a w xs

pub written_stays : (s P : PlainPool) (a b later : List Event) (w : Event) (id k : ℕ) → Covers s (a ++ w ∷ b) later P → (volume_sector P id k ≡ volume_sector w.made id k) ⊎ IsNewer (b ++ later) id k P
written_stays s P a b later w id k c =
    let there : state_after s ((a ++ w ∷ b) ++ c.over) ≡ state_after w.made (b ++ c.over) = ap (state_after s) (append_assoc a (w ∷ b) c.over) ∙ state_there s a w (b ++ c.over) in
    let all : (b ++ c.over) ++ c.rest ≡ b ++ later = append_assoc b c.over c.rest ∙ ap (λ (l : List Event). b ++ l) (sym c.parts) in
    elim (c.reopens.sectors id k) [
      | inl same ↦ elim (left_by w (b ++ c.over) id k P (same ∙ ap (λ (S : PlainPool). volume_sector S id k) there)) [
        | inl kept ↦ inl kept
        | inr new ↦ inr (subst (λ (l : List Event). IsNewer l id k P) all (newer_front (b ++ c.over) c.rest id k P new))
      ]
      | inr given ↦ inr (subst (λ (l : List Event). IsNewer l id k P) all (newer_behind (b ++ c.over) c.rest id k P (given_newer c.rest id k given.0 P given.2 given.3)))
    ]

-- ---- the turn of a FLUSH

pub code_is_some : (e : NbdError) → (0 < nbd_code e) × (nbd_code e < 2 ^ 32)
code_is_some NotPermitted = let some : 0 < 1 = omega arith in let few : 1 < 4294967296 = omega arith in (some, few)
code_is_some InputOutput = let some : 0 < 5 = omega arith in let few : 5 < 4294967296 = omega arith in (some, few)
code_is_some Invalid = let some : 0 < 22 = omega arith in let few : 22 < 4294967296 = omega arith in (some, few)
code_is_some NoSpace = let some : 0 < 28 = omega arith in let few : 28 < 4294967296 = omega arith in (some, few)

-- a request of another number than READ's
pub no_read : (r : Request) (n : ℕ) → r.kind ≡ n → 0 < n → (r.kind == 0) ≡ false
no_read r n is some = ne_eqb r.kind 0 (λ f. absurd (omega (arith, is, some, f)))

-- and one below BLOCK_STATUS's
pub no_status : (r : Request) (n : ℕ) → r.kind ≡ n → n < 7 → (r.kind == 7) ≡ false
no_status r n is less = ne_eqb r.kind 7 (λ f. absurd (omega (arith, is, less, f)))

pub no_error : (e : NbdError) (cookie : ℕ) → cookie < 2 ^ 64 → simple_reply 0 cookie [] ≡ simple_reply (nbd_code e) cookie [] → ⊥
no_error e cookie fits is =
    let code = code_is_some e in
    let none : 0 < 4294967296 = omega arith in
    let same = one_simple_reply 0 (nbd_code e) cookie cookie [] [] none code.1 fits fits is in
    let zero_is : 0 ≡ nbd_code e = same.0 in
    let some = code.0 in
    absurd (omega (arith, zero_is, some))

-- a reply has bytes
pub no_reply : (error cookie : ℕ) → simple_reply error cookie [] ≡ [] → ⊥
no_reply error cookie is =
    let rest : List ℕ = bytes 4 error ++ (bytes 8 cookie ++ []) in
    let none : length (bytes 4 SIMPLE_REPLY_MAGIC ++ rest) ≡ 0 = ap length (sym (simple_head_is error cookie []) ∙ is) in
    let both : length (bytes 4 SIMPLE_REPLY_MAGIC ++ rest) ≡ length (bytes 4 SIMPLE_REPLY_MAGIC) + length rest = length-append (bytes 4 SIMPLE_REPLY_MAGIC) rest in
    let four : length (bytes 4 SIMPLE_REPLY_MAGIC) ≡ 4 = width4.len SIMPLE_REPLY_MAGIC in
    absurd (omega (arith, none, both, four))

pub answer_of : (s made after : PlainPool) (call : Call) (answer : Answer) → call ≡ Flush → Takes s call answer made after → (answer ≡ Done) ⊎ ((reason : Refusal) × (answer ≡ Refused reason))
answer_of s made after call answer is (inr fault) = inr (Fault, fault.0)
answer_of s made after call answer is (inl step) = by_refusal (refusal_of s Flush) (subst (λ (c : Call). Step s c answer after) is step.0)
  where
    by_refusal : (o : Option Refusal) → MatchOption o ((answer ≡ Done) × Makes s Flush after) (λ reason. (answer ≡ Refused reason) × (after ≡ after_refusal reason s)) → (answer ≡ Done) ⊎ ((reason : Refusal) × (answer ≡ Refused reason))
    by_refusal None h = inl h.0
    by_refusal (Some reason) h = inr (reason, h.0)

-- what a request is that is neither DISC nor FLUSH, where its tests hold
abbrev behind_flush : Request → Verdict
behind_flush r =
    if r.len == 0 then verdicts.Nothing
    else if forms.is_read (form_of r) then verdicts.Read
    else if forms.is_write (form_of r) then verdicts.Write
    else if forms.is_trim (form_of r) then verdicts.Trim else verdicts.WriteZeroes

pub and_false : (a b : Bool) → (a && (b && false)) ≡ false
and_false true true = refl
and_false true false = refl
and_false false b = refl

module _ (HasUse : PlainPool → Type 0) where
  abbrev TracedTurn : Sessions → Traced → Turn → Sessions → Traced → Type 0
  TracedTurn = TakesTurn outline_of_traced (TracedCall HasUse)

  -- each turn adds to the trace
  abbrev Grew : Traced → Traced → Traced → Type 0
  Grew t d b = (since : List Entry) × (d.trace ≡ t.trace ++ since) × (d ≡ b)

  one_more : (t d d' b : Traced) (call : Call) (answer : Answer) → Grew t d b → TracedCall HasUse d call answer d' → (b' : Traced) × TracedCall HasUse b call answer b' × Grew t d' b'
  one_more t d d' b call answer r c = (
    d',
    subst (λ (x : Traced). TracedCall HasUse x call answer d') r.2 c,
    (r.0 ++ c.entry ∷ [], c.trace_is ∙ (ap (λ (l : List Entry). l ++ c.entry ∷ []) r.1 ∙ append_assoc t.trace r.0 (c.entry ∷ [])), refl),
  )

  turn_grows : (at at' : Sessions) (t t' : Traced) (turn : Turn) → TracedTurn at t turn at' t' → (since : List Entry) × (t'.trace ≡ t.trace ++ since)
  turn_grows at at' t t' turn takes =
      let w = turn_follows outline_of_traced (TracedCall HasUse) outline_of_traced (TracedCall HasUse) (Grew t) (λ d b r. ap outline_of_traced (sym r.2)) (one_more t) at at' t t' t turn ([], sym (append-nil t.trace), refl) takes in
      (w.2.0, w.2.1)

  pub turns_grow : (at : Sessions) (t : Traced) (hs : List (Happened Traced)) → AreTurns outline_of_traced (TracedCall HasUse) at t hs → (later : List Entry) × ((pool_after t hs).trace ≡ t.trace ++ later)
  turns_grow at t [] are = ([], sym (append-nil t.trace))
  turns_grow at t (h ∷ hs) are =
      let one = turn_grows at h.sessions t h.pool h.turn are.0 in
      let more = turns_grow h.sessions h.pool hs are.1 in
      (one.0 ++ more.0, more.1 ∙ (ap (λ (l : List Entry). l ++ more.0) one.1 ∙ append_assoc t.trace one.0 more.0))

  pub turn_in : (at : Sessions) (t : Traced) (xs : List (Happened Traced)) (h : Happened Traced) (ys : List (Happened Traced)) → AreTurns outline_of_traced (TracedCall HasUse) at t (xs ++ h ∷ ys)
      → TracedTurn (sessions_after at xs) (pool_after t xs) h.turn h.sessions h.pool × AreTurns outline_of_traced (TracedCall HasUse) h.sessions h.pool ys
  turn_in at t [] h ys are = are
  turn_in at t (x ∷ xs) h ys are = turn_in x.sessions x.pool xs h ys are.1

  -- of a FLUSH that was answered without an error the trace has an event that keeps
  pub record Flushed (p t : Traced) : Type 0 where
    pub entry : Entry
    pub trace_is : t.trace ≡ p.trace ++ entry ∷ []
    pub keeping : keeps entry.event.call entry.event.answer ≡ true

  pub performed : (p t : Traced) (cookie : ℕ) (answer : Answer) → cookie < 2 ^ 64 → TracedCall HasUse p Flush answer t → simple_reply 0 cookie [] ≡ reply_to cookie answer → Flushed p t
  performed p t cookie answer fits calls told =
      let taken = calls.is_trace.2 in
      elim (answer_of p.pool calls.entry.event.made calls.is_trace.0 calls.entry.event.call calls.entry.event.answer calls.call_is taken) [
        | inl done ↦ record { entry = calls.entry; trace_is = calls.trace_is; keeping = ap₂ keeps calls.call_is done }
        | inr refused ↦ absurd (no_error (nbd_error refused.0) cookie fits (told ∙ ap (reply_to cookie) (sym calls.answer_is ∙ refused.1)))
      ]

  by_verdict : (p t : Traced) (volume size : ℕ) (m : Manner) (r : Request) (next : Phase) (o : Option NbdError) → r.cookie < 2 ^ 64 → (r.kind == 0) ≡ false → (r.kind == 7) ≡ false
      → Serves outline_of_traced (TracedCall HasUse) (option_map_or verdicts.Refuse o verdicts.Flush) volume size m r [] p (simple_reply 0 r.cookie []) next t → Flushed p t
  by_verdict p t volume size m r next None fits reads tells serves = performed p t r.cookie serves.0.answer fits serves.0.calls serves.0.sent_is
  by_verdict p t volume size m r next (Some e) fits reads tells serves = absurd (no_error e r.cookie fits (serves.0 ∙ error_other m r e reads tells))

  verdict_is : (m : Manner) (size : ℕ) (r : Request) → r.kind ≡ COMMAND_FLUSH → verdict_in m size r ≡ option_map_or verdicts.Refuse (forms.form_error size (form_of r)) verdicts.Flush
  verdict_is m size r is =
      let kind : r.kind ≡ 3 = is in
      let trim : (r.kind == 4) ≡ false = ne_eqb r.kind 4 (λ f. absurd (omega (arith, kind, f))) in
      let zeroes : (r.kind == 6) ≡ false = ne_eqb r.kind 6 (λ f. absurd (omega (arith, kind, f))) in
      let disc : (r.kind == 2) ≡ false = ne_eqb r.kind 2 (λ f. absurd (omega (arith, kind, f))) in
      let flush : (r.kind == 3) ≡ true = eq-eqb r.kind 3 kind in
      let short : (m.is_extended && is_long r) ≡ false = ap₂ (λ (a b : Bool). m.is_extended && (nat_lt 1048576 r.len && (a || b))) trim zeroes ∙ and_false m.is_extended (nat_lt 1048576 r.len) in
      ap (λ (b : Bool). if b then option_map_or verdicts.Refuse (status_error size r) verdicts.Status else if m.is_extended && is_long r then option_map_or verdicts.Refuse (long_error size (form_of r)) verdicts.Long else verdict_on size (plainly m r)) (status_other m r (no_status r 3 is (omega arith)))
      ∙ (ap (λ (b : Bool). if b then option_map_or verdicts.Refuse (long_error size (form_of r)) verdicts.Long else verdict_on size (plainly m r)) short
      ∙ (ap (verdict_on size) (plainly_other m r (no_read r 3 is (omega arith))) ∙ (ap (λ (b : Bool). if b then verdicts.Disconnect else option_map_or verdicts.Refuse (forms.form_error size (form_of r)) (if r.kind == 3 then verdicts.Flush else behind_flush r)) disc
      ∙ ap (λ (b : Bool). option_map_or verdicts.Refuse (forms.form_error size (form_of r)) (if b then verdicts.Flush else behind_flush r)) flush)))

  flush_keeps : (at : Sessions) (p : Traced) (h : Happened Traced) → IsFlushed at h → TracedTurn at p h.turn h.sessions h.pool → Flushed p h.pool
  flush_keeps at p h f takes =
      let n = f.session in
      let r = f.request in
      let phase : Phase = Transmission f.volume f.size (Listens f.manner) in
      let held = (at n).held in
      let here : at n ≡ state phase held = state_is (at n) phase held f.serves refl in
      let turned : Steps outline_of_traced (TracedCall HasUse) (at n) p f.piece (length f.piece) (simple_reply 0 r.cookie []) false (h.sessions n) h.pool =
      (subst (λ (t : Turn). TracedTurn at p t h.sessions h.pool) f.turn takes).0 in
      let step : Waits outline_of_traced (TracedCall HasUse) kinds.Requests (state phase held) p f.piece (length f.piece) (simple_reply 0 r.cookie []) false (h.sessions n) h.pool
      ⊎ TakesFrame outline_of_traced (TracedCall HasUse) kinds.Requests (state phase held) p f.piece (length f.piece) (simple_reply 0 r.cookie []) false (h.sessions n) h.pool =
      subst (λ (x : State). Steps outline_of_traced (TracedCall HasUse) x p f.piece (length f.piece) (simple_reply 0 r.cookie []) false (h.sessions n) h.pool) here turned in
      elim step [
        | inl waits ↦ absurd (waits.partial (command r []) (held ++ f.piece) [] f.frame (sym (append-nil (held ++ f.piece))))
        | inr frame ↦
            let there : IsFrame kinds.Requests frame.message (held ++ f.piece) = subst (λ (t : List ℕ). IsFrame kinds.Requests frame.message (held ++ t)) (all_taken f.piece) frame.frame in
            let same = one_frame kinds.Requests frame.message (command r []) (held ++ f.piece) (held ++ f.piece) [] [] there f.frame refl in
            let answered : Serves outline_of_traced (TracedCall HasUse) (verdict_in f.manner f.size r) f.volume f.size f.manner r [] p (simple_reply 0 r.cookie []) (h.sessions n).phase h.pool =
            subst (λ (m : Message). Answers outline_of_traced (TracedCall HasUse) phase m p (simple_reply 0 r.cookie []) (h.sessions n).phase h.pool) same.1 frame.answer in
            by_verdict p h.pool f.volume f.size f.manner r (h.sessions n).phase (forms.form_error f.size (form_of r)) f.frame.request_fits.cookie (no_read r 3 f.is_flush (omega arith)) (no_status r 3 f.is_flush (omega arith))
            (subst (λ (v : Verdict). Serves outline_of_traced (TracedCall HasUse) v f.volume f.size f.manner r [] p (simple_reply 0 r.cookie []) (h.sessions n).phase h.pool) (verdict_is f.manner f.size r f.is_flush) answered)
      ]

  -- the same of the FLUSH that was left of a request
  part_keeps : (p t : Traced) (volume size : ℕ) (m : Manner) (r : Request) (next : Phase) → r.kind ≡ COMMAND_FLUSH → r.cookie < 2 ^ 64
      → MakesPart outline_of_traced (TracedCall HasUse) volume size m r p (simple_reply 0 r.cookie []) next t → Flushed p t
  part_keeps p t volume size m r next is fits part =
      let g : Geometry = (outline_of_traced p).geometry in
      let call_is : part_call m volume g r ≡ Flush = ap (λ (b : Bool). if b then Flush else long_call m volume g r) (eq-eqb r.kind 3 is) in
      let calls : TracedCall HasUse p Flush part.answer t = subst (λ (c : Call). TracedCall HasUse p c part.answer t) call_is part.calls in
      performed p t r.cookie part.answer fits calls (by_answer (is_last g r) part.answer part.is_made)
    where
      by_answer : (last : Bool) (answer : Answer) → IsMade volume size m r (rest_of (outline_of_traced p).geometry r) last answer (simple_reply 0 r.cookie []) next → simple_reply 0 r.cookie [] ≡ reply_to r.cookie answer
      by_answer true Done made = made.0
      by_answer false Done made = absurd (no_reply 0 r.cookie made.0)
      by_answer last (answers.Gave sectors) made = made.0
      by_answer last (answers.Line text) made = made.0
      by_answer last (answers.Found least) made = made.0
      by_answer last (answers.Sized blocks) made = made.0
      by_answer last (answers.Listed slots) made = made.0
      by_answer last (Refused reason) made = made.0

  kept_keeps : (at : Sessions) (p : Traced) (h : Happened Traced) → IsKept at h → TracedTurn at p h.turn h.sessions h.pool → Flushed p h.pool
  kept_keeps at p h k takes =
      let n = k.session in
      let sent = simple_reply 0 k.rest.cookie [] in
      let phase : Phase = Transmission k.volume k.size (Works k.manner k.rest) in
      let held = (at n).held in
      let here : at n ≡ state phase held = state_is (at n) phase held k.works refl in
      let turned : Steps outline_of_traced (TracedCall HasUse) (at n) p [] 0 sent false (h.sessions n) h.pool =
      (subst (λ (t : Turn). TracedTurn at p t h.sessions h.pool) k.turn takes).0 in
      let step : GoesOn outline_of_traced (TracedCall HasUse) k.volume k.size k.manner k.rest (state phase held) p 0 sent false (h.sessions n) h.pool =
      subst (λ (x : State). Steps outline_of_traced (TracedCall HasUse) x p [] 0 sent false (h.sessions n) h.pool) here turned in
      part_keeps p h.pool k.volume k.size k.manner k.rest (h.sessions n).phase k.is_flush k.fits step.part

  pub all_kept : (at : Sessions) (p : Traced) (h : Happened Traced) → KeepsAll at h → TracedTurn at p h.turn h.sessions h.pool → Flushed p h.pool
  all_kept at p h (inl flushed) takes = flush_keeps at p h flushed takes
  all_kept at p h (inr kept) takes = kept_keeps at p h kept takes

-- ---- in turns of the plain pool

pub sessions_at : {S : Type 0} (at : Sessions) (xs : List (Happened S)) (h : Happened S) (ys : List (Happened S)) → sessions_after at (xs ++ h ∷ ys) ≡ sessions_after h.sessions ys
sessions_at at [] h ys = refl
sessions_at at (x ∷ xs) h ys = sessions_at x.sessions xs h ys

pub pool_at : {S : Type 0} (p : S) (xs : List (Happened S)) (h : Happened S) (ys : List (Happened S)) → pool_after p (xs ++ h ∷ ys) ≡ pool_after h.pool ys
pool_at p [] h ys = refl
pool_at p (x ∷ xs) h ys = pool_at x.pool xs h ys

pub flushed_covers : {D : Type 0} (view : View D) (s P : PlainPool) (xs ys : List (Happened Traced)) (h : Happened Traced) (current : Option (Happened D)) → AreTurns outline_of_traced (TracedCall view.has_use) closed (traced s []) (xs ++ h ∷ ys)
    → Flushed view.has_use (pool_after (traced s []) xs) h.pool → IsFoundIn view s (sessions_after closed (xs ++ h ∷ ys)) (pool_after (traced s []) (xs ++ h ∷ ys)) current P
    → IsCovered view s h.pool (sessions_after closed (xs ++ h ∷ ys)) (pool_after (traced s []) (xs ++ h ∷ ys)) current P
flushed_covers view s P xs ys h current are f found =
    let split = turn_in view.has_use closed (traced s []) xs h ys are in
    let more = turns_grow view.has_use h.sessions h.pool ys split.1 in
    let told_is : events_of h.pool.trace ≡ events_of (pool_after (traced s []) xs).trace ++ f.entry.event ∷ [] = ap events_of f.trace_is ∙ events_join (pool_after (traced s []) xs).trace (f.entry ∷ []) in
    covered view s h.pool (events_of (pool_after (traced s []) xs).trace) f.entry.event told_is f.keeping P (pool_after (traced s []) (xs ++ h ∷ ys)) (sessions_after closed (xs ++ h ∷ ys)) more.0
    (ap (λ (t : Traced). t.trace) (pool_at (traced s []) xs h ys) ∙ more.1) current found

pub flush_covers : {D : Type 0} (view : View D) (s P : PlainPool) (xs ys : List (Happened Traced)) (h : Happened Traced) (current : Option (Happened D)) → AreTurns outline_of_traced (TracedCall view.has_use) closed (traced s []) (xs ++ h ∷ ys)
    → KeepsAll (sessions_after closed xs) h → IsFoundIn view s (sessions_after closed (xs ++ h ∷ ys)) (pool_after (traced s []) (xs ++ h ∷ ys)) current P
    → IsCovered view s h.pool (sessions_after closed (xs ++ h ∷ ys)) (pool_after (traced s []) (xs ++ h ∷ ys)) current P
flush_covers view s P xs ys h current are flushed found =
    let takes = (turn_in view.has_use closed (traced s []) xs h ys are).0 in
    flushed_covers view s P xs ys h current are (all_kept view.has_use (sessions_after closed xs) (pool_after (traced s []) xs) h flushed takes) found
