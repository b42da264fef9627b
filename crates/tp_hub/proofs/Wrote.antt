-- What a client was answered for a WRITE, and another one then for its FLUSH, is found behind a stop.
use Rattle.std.proofs.Common.{◌≡◌, ◌⊎◌, ℕ, ◌+◌, ◌-◌, ◌/◌, ◌<◌, ◌≤◌, ◌^◌, Bool, true, false, List, [], ◌∷◌, ◌++◌, length, Option, Some, None, inl, inr, refl, sym, ap, ap₂, subst, ◌∙◌, arith, append_assoc, append-nil, true≢false}
use Rattle.std.specs.Prelude.{◌&&◌, ◌||◌, ◌==◌, MatchBool, MatchOption, if◌then◌else◌, nat_lt, slice_get, slice_index_or}
use Rattle.std.specs.Option.{option_map, option_map_or}
use Rattle.std.proofs.lemmas.Bool.{and_from, cases_eq, eq-eqb, le-leb, lt-ltb, ne_eqb}
use Rattle.std.proofs.lemmas.Option.{get_or_from_slice_get, slice_get_within}
use Rattle.tp_model.specs.declared.refusal.NbdError.{NbdError}
use Rattle.tp_model.specs.declared.refusal.Refusal.{Refusal}
use Rattle.tp_model.specs.declared.refusal.Refusal.TheVariants.{Fault}
use Rattle.tp_model.specs.Geometry.{Geometry}
use Rattle.tp_model.specs.Refusals.{nbd_error}
use Rattle.tp_model.specs.Requests as forms
use Rattle.tp_model.specs.Sectors.{Sector, sectors_of}
use Rattle.tp_model.specs.Pool.{PlainPool, volume_sector}
use Rattle.tp_model.specs.Calls.{Answer, Call, Done, Edits, Makes, Refused, Step, Takes, Write, after_refusal, is_within, refusal_of, reply, sector_after}
use Rattle.tp_model.specs.PoolStops.{Event}
use Rattle.tp_model.specs.Clauses.{Entry, Traced, TracedCall, View, events_of, outline_of_traced, traced}
use Rattle.tp_model.proofs.DiskLaws.{length-chopped}
use Rattle.tp_model.proofs.Editing.{volume_sector-edited}
use Rattle.nbd_wire.specs.declared.Kind.TheVariants as kinds
use Rattle.nbd_wire.specs.declared.Request.{Request}
use Rattle.nbd_wire.specs.declared.TheConstants.{COMMAND_WRITE}
use Rattle.nbd_wire.specs.Grammar.{IsFrame, Message, command, payload_len}
use Rattle.nbd_wire.specs.Replies.{simple_reply}
use Rattle.nbd_wire.proofs.Frames.{one_frame}
use Rattle.nbd_session.specs.declared.phase.Course.TheVariants.{Listens, Works}
use Rattle.nbd_session.specs.declared.phase.Manner.{Manner}
use Rattle.nbd_session.specs.declared.phase.Phase.{Phase}
use Rattle.nbd_session.specs.declared.phase.Phase.TheVariants.{Transmission}
use Rattle.nbd_session.specs.declared.request.Verdict.{Verdict}
use Rattle.nbd_session.specs.declared.request.Verdict.TheVariants as verdicts
use Rattle.nbd_session.specs.Requests.{form_of, is_kept_apart, is_long, long_error, plainly, status_error, to_keep, verdict_in, verdict_on, wants_fua}
use Rattle.nbd_session.proofs.Judging.{error_other, plainly_other, status_other}
use Rattle.nbd_session.specs.Session.{Answers, Begins, IsMade, Performs, Serves, State, Steps, TakesFrame, Waits, is_at_work, reply_to, state}
use Rattle.nbd_session.specs.Turns.{AreTurns, Happened, IsFoundIn, Sessions, TakesTurn, Turn, closed, pool_after, sessions_after}
use Rattle.tp_hub.proofs.Whole.{all_taken, state_is}
use Rattle.tp_hub.proofs.Covering.{Flushed, all_kept, and_false, events_join, flushed_covers, no_error, no_read, no_status, pool_at, turn_in, turns_grow, written_stays}
use Rattle.tp_hub.specs.Covered.{Covers, IsCovered, IsKeptThere, IsNewer, IsThere, IsWritten, KeepsAll}

-- ---- the sector that a WRITE gives

abbrev value_or : {B : Type 0} → B → Option B → B
value_or d None = d
value_or d (Some x) = x

mapped : {A B : Type 0} (f : A → B) (o : Option A) (y : B) → option_map f o ≡ Some y → (x : A) × (y ≡ f x)
mapped f None y is = absurd cc
mapped f (Some x) y is = (x, ap (value_or (f x)) (sym is))

gives : (g : Geometry) (id sector : ℕ) (sectors : List Sector) (fua : Bool) (k : ℕ) (x old : Sector) → slice_get sectors k ≡ Some x → sector_after g (Write id sector sectors fua) (sector + k) old ≡ x
gives g id sector sectors fua k x old is =
    let lt : k < length sectors = slice_get_within sectors k x is in
    let low : sector ≤ sector + k = omega arith in
    let high : sector + k < sector + length sectors = omega (arith, lt) in
    let inside : is_within sector (length sectors) (sector + k) ≡ true = and_from _ _ (le-leb _ _ low) (lt-ltb _ _ high) in
    let place : (sector + k) - sector ≡ k = omega arith in
    ap (λ (b : Bool). if b then slice_index_or sectors ((sector + k) - sector) old else old) inside ∙ (ap (λ (i : ℕ). slice_index_or sectors i old) place ∙ get_or_from_slice_get sectors k x old is)

-- a call that was done made what it makes
made_by : (s made after : PlainPool) (call call' : Call) (answer : Answer) → call ≡ call' → answer ≡ Done → Takes s call answer made after → Makes s call' made
made_by s made after call call' answer is done (inr fault) = let wrong : Done ≡ Refused Fault = sym done ∙ fault.0 in absurd cc
made_by s made after call call' answer is done (inl step) = subst (Makes s call') (sym step.1) (by_refusal (refusal_of s call') (subst (λ (c : Call). Step s c answer after) is step.0))
  where
    by_refusal : (o : Option Refusal) → MatchOption o ((answer ≡ reply s call') × Makes s call' after) (λ reason. (answer ≡ Refused reason) × (after ≡ after_refusal reason s)) → Makes s call' after
    by_refusal None h = h.1
    by_refusal (Some reason) h = let wrong : Done ≡ Refused reason = sym done ∙ h.0 in absurd cc

-- what a request comes to, and what it is where it is of none of the first kinds
abbrev told_of : ℕ → Request → Verdict → Verdict
told_of size r v = option_map_or verdicts.Refuse (forms.form_error size (form_of r)) v

abbrev behind_writes : Request → Verdict
behind_writes r = if forms.is_trim (form_of r) then verdicts.Trim else verdicts.WriteZeroes

abbrev behind_reads : Request → Verdict
behind_reads r = if r.kind == 1 then verdicts.Write else behind_writes r

module _ (HasUse : PlainPool → Type 0) where
  -- a WRITE that was answered without an error has an event in the trace
  pub record Wrote (volume sector : ℕ) (sectors : List Sector) (p t : Traced) : Type 0 where
    pub entry : Entry
    pub trace_is : t.trace ≡ p.trace ++ entry ∷ []
    pub gave : (k : ℕ) (x y : Sector) → slice_get sectors k ≡ Some x → volume_sector entry.event.made volume (sector + k) ≡ Some y → y ≡ x

  pub write_answer : (s made after : PlainPool) (call : Call) (volume sector : ℕ) (sectors : List Sector) (fua : Bool) (answer : Answer) → call ≡ Write volume sector sectors fua → Takes s call answer made after → (answer ≡ Done) ⊎ ((reason : Refusal) × (answer ≡ Refused reason))
  write_answer s made after call volume sector sectors fua answer is (inr fault) = inr (Fault, fault.0)
  write_answer s made after call volume sector sectors fua answer is (inl step) = by_test (refusal_of s (Write volume sector sectors fua)) (subst (λ (c : Call). Step s c answer after) is step.0)
    where
      by_test : (o : Option Refusal) → MatchOption o ((answer ≡ Done) × Edits s (Write volume sector sectors fua) volume after) (λ reason. (answer ≡ Refused reason) × (after ≡ after_refusal reason s)) → (answer ≡ Done) ⊎ ((reason : Refusal) × (answer ≡ Refused reason))
      by_test None h = inl h.0
      by_test (Some reason) h = inr (reason, h.0)

  done_by : (p t : Traced) (volume sector cookie : ℕ) (sectors : List Sector) (fua : Bool) (answer : Answer) → cookie < 2 ^ 64 → (calls : TracedCall HasUse p (Write volume sector sectors fua) answer t) → simple_reply 0 cookie [] ≡ reply_to cookie answer
      → (calls.entry.event.answer ≡ Done) ⊎ ((reason : Refusal) × (calls.entry.event.answer ≡ Refused reason)) → Wrote volume sector sectors p t
  done_by p t volume sector cookie sectors fua answer fits calls told (inr refused) = absurd (no_error (nbd_error refused.0) cookie fits (told ∙ ap (reply_to cookie) (sym calls.answer_is ∙ refused.1)))
  done_by p t volume sector cookie sectors fua answer fits calls told (inl done) =
      let call : Call = Write volume sector sectors fua in
      let made : Edits p.pool call volume calls.entry.event.made = made_by p.pool calls.entry.event.made calls.is_trace.0 calls.entry.event.call call calls.entry.event.answer calls.call_is done calls.is_trace.2 in
      record {
        entry = calls.entry;
        trace_is = calls.trace_is;
        gave = λ k x y is there.
            let m = mapped (sector_after p.pool.geometry call (sector + k)) (volume_sector p.pool volume (sector + k)) y (sym (volume_sector-edited p.pool call volume calls.entry.event.made made (sector + k)) ∙ there) in
            m.1 ∙ gives p.pool.geometry volume sector sectors fua k x m.0 is;
      }

  -- it is answered, or a FLUSH alone is left of it
  abbrev IsDone : ℕ → ℕ → Manner → Request → List ℕ → Phase → Type 0
  IsDone volume size m r sent next = (sent ≡ simple_reply 0 r.cookie []) ⊎ (next ≡ Transmission volume size (Works m (to_keep r)))

  not_left : (volume size : ℕ) (m : Manner) (rest : Request) → Transmission volume size (Listens m) ≡ Transmission volume size (Works m rest) → ⊥
  not_left volume size m rest is = let same : false ≡ true = ap is_at_work is in true≢false (sym same)

  whole_wrote : (p t : Traced) (volume size : ℕ) (m : Manner) (r : Request) (payload sent : List ℕ) (next : Phase) → r.cookie < 2 ^ 64 → IsDone volume size m r sent next
      → Performs outline_of_traced (TracedCall HasUse) (Write volume (r.offset / 512) (sectors_of payload) (wants_fua m r)) (reply_to r.cookie) p sent t × (next ≡ Transmission volume size (Listens m)) → Wrote volume (r.offset / 512) (sectors_of payload) p t
  whole_wrote p t volume size m r payload sent next fits (inl told) serves =
      let did = serves.0 in
      done_by p t volume (r.offset / 512) r.cookie (sectors_of payload) (wants_fua m r) did.answer fits did.calls (sym told ∙ did.sent_is)
      (write_answer p.pool did.calls.entry.event.made did.calls.is_trace.0 did.calls.entry.event.call volume (r.offset / 512) (sectors_of payload) (wants_fua m r) did.calls.entry.event.answer did.calls.call_is did.calls.is_trace.2)
  whole_wrote p t volume size m r payload sent next fits (inr left) serves = absurd (not_left volume size m (to_keep r) (sym serves.1 ∙ left))

  pub apart_wrote : (p t : Traced) (volume size : ℕ) (m : Manner) (r : Request) (payload sent : List ℕ) (next : Phase) → r.cookie < 2 ^ 64 → IsDone volume size m r sent next
      → (begins : Begins outline_of_traced (TracedCall HasUse) (Write volume (r.offset / 512) (sectors_of payload) false) volume size m r p sent next t)
      → (begins.calls.entry.event.answer ≡ Done) ⊎ ((reason : Refusal) × (begins.calls.entry.event.answer ≡ Refused reason)) → Wrote volume (r.offset / 512) (sectors_of payload) p t
  apart_wrote p t volume size m r payload sent next fits done begins (inl did) =
      done_by p t volume (r.offset / 512) r.cookie (sectors_of payload) false begins.answer fits begins.calls (sym (ap (reply_to r.cookie) (sym begins.calls.answer_is ∙ did))) (inl did)
  apart_wrote p t volume size m r payload sent next fits done begins (inr refused) =
      let is : begins.answer ≡ Refused refused.0 = sym begins.calls.answer_is ∙ refused.1 in
      let told : IsMade volume size m r (to_keep r) false (Refused refused.0) sent next = subst (λ (a : Answer). IsMade volume size m r (to_keep r) false a sent next) is begins.is_begun in
      elim done [
        | inl answered ↦ absurd (no_error (nbd_error refused.0) r.cookie fits (sym answered ∙ told.0))
        | inr left ↦ absurd (not_left volume size m (to_keep r) (sym told.1 ∙ left))
      ]

  by_kind : (b : Bool) (p t : Traced) (volume size : ℕ) (m : Manner) (r : Request) (payload sent : List ℕ) (next : Phase) → r.cookie < 2 ^ 64 → IsDone volume size m r sent next
      → MatchBool b (Begins outline_of_traced (TracedCall HasUse) (Write volume (r.offset / 512) (sectors_of payload) false) volume size m r p sent next t)
      (Performs outline_of_traced (TracedCall HasUse) (Write volume (r.offset / 512) (sectors_of payload) (wants_fua m r)) (reply_to r.cookie) p sent t × (next ≡ Transmission volume size (Listens m))) → Wrote volume (r.offset / 512) (sectors_of payload) p t
  by_kind false p t volume size m r payload sent next fits done serves = whole_wrote p t volume size m r payload sent next fits done serves
  by_kind true p t volume size m r payload sent next fits done begins =
      apart_wrote p t volume size m r payload sent next fits done begins
      (write_answer p.pool begins.calls.entry.event.made begins.calls.is_trace.0 begins.calls.entry.event.call volume (r.offset / 512) (sectors_of payload) false begins.calls.entry.event.answer begins.calls.call_is begins.calls.is_trace.2)

  by_verdict : (p t : Traced) (volume size : ℕ) (m : Manner) (r : Request) (payload sent : List ℕ) (next : Phase) (o : Option NbdError) → r.cookie < 2 ^ 64 → (r.kind == 0) ≡ false → (r.kind == 7) ≡ false
      → IsDone volume size m r sent next
      → Serves outline_of_traced (TracedCall HasUse) (option_map_or verdicts.Refuse o verdicts.Write) volume size m r payload p sent next t → Wrote volume (r.offset / 512) (sectors_of payload) p t
  by_verdict p t volume size m r payload sent next (Some e) fits reads tells (inl told) serves = absurd (no_error e r.cookie fits (sym told ∙ (serves.0 ∙ error_other m r e reads tells)))
  by_verdict p t volume size m r payload sent next (Some e) fits reads tells (inr left) serves = absurd (not_left volume size m (to_keep r) (sym serves.1 ∙ left))
  by_verdict p t volume size m r payload sent next None fits reads tells done serves = by_kind (is_kept_apart m r) p t volume size m r payload sent next fits done serves

  pub verdict_is : (m : Manner) (size : ℕ) (r : Request) → r.kind ≡ COMMAND_WRITE → 0 < r.len → verdict_in m size r ≡ option_map_or verdicts.Refuse (forms.form_error size (form_of r)) verdicts.Write
  verdict_is m size r is some =
      let kind : r.kind ≡ 1 = is in
      let trim : (r.kind == 4) ≡ false = ne_eqb r.kind 4 (λ f. absurd (omega (arith, kind, f))) in
      let zeroes : (r.kind == 6) ≡ false = ne_eqb r.kind 6 (λ f. absurd (omega (arith, kind, f))) in
      let disc : (r.kind == 2) ≡ false = ne_eqb r.kind 2 (λ f. absurd (omega (arith, kind, f))) in
      let flush : (r.kind == 3) ≡ false = ne_eqb r.kind 3 (λ f. absurd (omega (arith, kind, f))) in
      let reads : (r.kind == 0) ≡ false = ne_eqb r.kind 0 (λ f. absurd (omega (arith, kind, f))) in
      let len : (r.len == 0) ≡ false = ne_eqb r.len 0 (λ f. absurd (omega (arith, some, f))) in
      let writes : (r.kind == 1) ≡ true = eq-eqb r.kind 1 kind in
      let short : (m.is_extended && is_long r) ≡ false = ap₂ (λ (a b : Bool). m.is_extended && (nat_lt 1048576 r.len && (a || b))) trim zeroes ∙ and_false m.is_extended (nat_lt 1048576 r.len) in
      ap (λ (b : Bool). if b then option_map_or verdicts.Refuse (status_error size r) verdicts.Status else if m.is_extended && is_long r then option_map_or verdicts.Refuse (long_error size (form_of r)) verdicts.Long else verdict_on size (plainly m r)) (status_other m r (no_status r 1 is (omega arith)))
      ∙ (ap (λ (b : Bool). if b then option_map_or verdicts.Refuse (long_error size (form_of r)) verdicts.Long else verdict_on size (plainly m r)) short
      ∙ (ap (verdict_on size) (plainly_other m r reads) ∙ (ap (λ (b : Bool). if b then verdicts.Disconnect else told_of size r (if r.kind == 3 then verdicts.Flush else if r.len == 0 then verdicts.Nothing else if r.kind == 0 then verdicts.Read else behind_reads r)) disc
      ∙ (ap (λ (b : Bool). told_of size r (if b then verdicts.Flush else if r.len == 0 then verdicts.Nothing else if r.kind == 0 then verdicts.Read else behind_reads r)) flush
      ∙ (ap (λ (b : Bool). told_of size r (if b then verdicts.Nothing else if r.kind == 0 then verdicts.Read else behind_reads r)) len
      ∙ (ap (λ (b : Bool). told_of size r (if b then verdicts.Read else behind_reads r)) reads
      ∙ ap (λ (b : Bool). told_of size r (if b then verdicts.Write else behind_writes r)) writes))))))

  write_enters : (at : Sessions) (p : Traced) (h : Happened Traced) → (w : IsWritten at h) → 0 < w.request.len → TakesTurn outline_of_traced (TracedCall HasUse) at p h.turn h.sessions h.pool
      → Wrote w.volume (w.request.offset / 512) (sectors_of w.payload) p h.pool
  write_enters at p h w some takes =
      let n = w.session in
      let r = w.request in
      let phase : Phase = Transmission w.volume w.size (Listens w.manner) in
      let held = (at n).held in
      let here : at n ≡ state phase held = state_is (at n) phase held w.serves refl in
      let turned : Steps outline_of_traced (TracedCall HasUse) (at n) p w.piece (length w.piece) w.sent false (h.sessions n) h.pool =
      (subst (λ (t : Turn). TakesTurn outline_of_traced (TracedCall HasUse) at p t h.sessions h.pool) w.turn takes).0 in
      let step : Waits outline_of_traced (TracedCall HasUse) kinds.Requests (state phase held) p w.piece (length w.piece) w.sent false (h.sessions n) h.pool
      ⊎ TakesFrame outline_of_traced (TracedCall HasUse) kinds.Requests (state phase held) p w.piece (length w.piece) w.sent false (h.sessions n) h.pool =
      subst (λ (x : State). Steps outline_of_traced (TracedCall HasUse) x p w.piece (length w.piece) w.sent false (h.sessions n) h.pool) here turned in
      elim step [
        | inl waits ↦ absurd (waits.partial (command r w.payload) (held ++ w.piece) [] w.frame (sym (append-nil (held ++ w.piece))))
        | inr frame ↦
            let there : IsFrame kinds.Requests frame.message (held ++ w.piece) = subst (λ (t : List ℕ). IsFrame kinds.Requests frame.message (held ++ t)) (all_taken w.piece) frame.frame in
            let same = one_frame kinds.Requests frame.message (command r w.payload) (held ++ w.piece) (held ++ w.piece) [] [] there w.frame refl in
            let answered : Serves outline_of_traced (TracedCall HasUse) (verdict_in w.manner w.size r) w.volume w.size w.manner r w.payload p w.sent (h.sessions n).phase h.pool =
            subst (λ (m : Message). Answers outline_of_traced (TracedCall HasUse) phase m p w.sent (h.sessions n).phase h.pool) same.1 frame.answer in
            by_verdict p h.pool w.volume w.size w.manner r w.payload w.sent (h.sessions n).phase (forms.form_error w.size (form_of r)) w.frame.request_fits.cookie (no_read r 1 w.is_write (omega arith)) (no_status r 1 w.is_write (omega arith)) w.is_done
            (subst (λ (v : Verdict). Serves outline_of_traced (TracedCall HasUse) v w.volume w.size w.manner r w.payload p w.sent (h.sessions n).phase h.pool) (verdict_is w.manner w.size r w.is_write some) answered)
      ]

  pub turns_front : (at : Sessions) (t : Traced) (xs ys : List (Happened Traced)) → AreTurns outline_of_traced (TracedCall HasUse) at t (xs ++ ys) → AreTurns outline_of_traced (TracedCall HasUse) at t xs
  turns_front at t [] ys are = tt
  turns_front at t (x ∷ xs) ys are = (are.0, turns_front x.sessions x.pool xs ys are.1)

-- what has sectors has bytes
pub some_len : (r : Request) (payload : List ℕ) (k : ℕ) (x : Sector) → r.kind ≡ COMMAND_WRITE → length payload ≡ payload_len r → slice_get (sectors_of payload) k ≡ Some x → 0 < r.len
some_len r payload k x is whole got =
    let lt : k < length (sectors_of payload) = slice_get_within (sectors_of payload) k x got in
    let long : length (sectors_of payload) ≡ length payload / 512 = length-chopped (length payload / 512) payload in
    let len : payload_len r ≡ r.len = ap (λ (b : Bool). if b then r.len else 0) (eq-eqb r.kind 1 is) in
    elim (cases_eq r.len 0) [
      | inl none ↦
          let nothing : length payload ≡ 0 = whole ∙ (len ∙ none) in
          let zero_is : length payload / 512 ≡ 0 = ap (λ (n : ℕ). n / 512) nothing in
          absurd (omega (arith, lt, long, zero_is))
      | inr some ↦ omega (arith, some)
    ]

module _ {D : Type 0} (view : View D) (s P : PlainPool) (first between behind : List (Happened Traced)) (write flush : Happened Traced) (current : Option (Happened D)) where
  abbrev pub before_flush : List (Happened Traced)
  before_flush = first ++ write ∷ between

  abbrev pub at_end : Sessions
  at_end = sessions_after closed (before_flush ++ flush ∷ behind)

  abbrev pub end : Traced
  end = pool_after (traced s []) (before_flush ++ flush ∷ behind)

  module _ (are : AreTurns outline_of_traced (TracedCall view.has_use) closed (traced s []) (before_flush ++ flush ∷ behind)) (found : IsFoundIn view s at_end end current P) where
    module _ (volume sector : ℕ) (sectors : List Sector) (wrote : Wrote view.has_use volume sector sectors (pool_after (traced s []) first) write.pool) (f : Flushed view.has_use (pool_after (traced s []) before_flush) flush.pool)
        (k : ℕ) (x : Sector) (got : slice_get sectors k ≡ Some x) where
      there : (m later : List Entry) → flush.pool.trace ≡ write.pool.trace ++ m → Covers s (events_of flush.pool.trace) (events_of later) P → IsThere (events_of (m ++ later)) volume (sector + k) x P
      there m later is covers y has =
          let told = (pool_after (traced s []) first).trace in
          let all : events_of flush.pool.trace ≡ events_of told ++ wrote.entry.event ∷ events_of m = ap events_of (is ∙ (ap (λ (l : List Entry). l ++ m) wrote.trace_is ∙ append_assoc told (wrote.entry ∷ []) m)) ∙ events_join told (wrote.entry ∷ m) in
          elim (written_stays s P (events_of told) (events_of m) (events_of later) wrote.entry.event volume (sector + k) (subst (λ (l : List Event). Covers s l (events_of later) P) all covers)) [
            | inl same ↦ inl (wrote.gave k x y got (sym same ∙ has))
            | inr newer ↦ inr (subst (λ (l : List Event). IsNewer l volume (sector + k) P) (sym (events_join m later)) newer)
          ]

      by_current : (m : List Entry) → flush.pool.trace ≡ write.pool.trace ++ m → (c : Option (Happened D)) → IsCovered view s flush.pool at_end end c P → IsKeptThere view write.pool at_end end c volume (sector + k) x P
      by_current m is None (later, tail, c) = (m ++ later, tail ∙ (ap (λ (l : List Entry). l ++ later) is ∙ append_assoc write.pool.trace m later), there m later is c)
      by_current m is (Some h) (t', later, turn, tail, c) = (t', m ++ later, turn, tail ∙ (ap (λ (l : List Entry). l ++ later) is ∙ append_assoc write.pool.trace m later), there m later is c)

      -- what was written is there behind a flush that was made since
      pub wrote_is_kept : IsKeptThere view write.pool at_end end current volume (sector + k) x P
      wrote_is_kept =
          let split = turn_in view.has_use closed (traced s []) first write between (turns_front view.has_use closed (traced s []) before_flush (flush ∷ behind) are) in
          let more = turns_grow view.has_use write.sessions write.pool between split.1 in
          let m : List Entry = more.0 ++ f.entry ∷ [] in
          let is : flush.pool.trace ≡ write.pool.trace ++ m =
          f.trace_is ∙ (ap (λ (l : List Entry). l ++ f.entry ∷ []) (ap (λ (t : Traced). t.trace) (pool_at (traced s []) first write between) ∙ more.1) ∙ append_assoc write.pool.trace more.0 (f.entry ∷ [])) in
          by_current m is current (flushed_covers view s P before_flush behind flush current are f found)

    module _ (w : IsWritten (sessions_after closed first) write) (flushed : KeepsAll (sessions_after closed before_flush) flush) (k : ℕ) (x : Sector) (got : slice_get (sectors_of w.payload) k ≡ Some x) where
      pub write_is_kept : IsKeptThere view write.pool at_end end current w.volume (w.request.offset / 512 + k) x P
      write_is_kept =
          let split = turn_in view.has_use closed (traced s []) first write between (turns_front view.has_use closed (traced s []) before_flush (flush ∷ behind) are) in
          let wrote = write_enters view.has_use (sessions_after closed first) (pool_after (traced s []) first) write w (some_len w.request w.payload k x w.is_write w.frame.whole got) split.0 in
          let f = all_kept view.has_use (sessions_after closed before_flush) (pool_after (traced s []) before_flush) flush flushed (turn_in view.has_use closed (traced s []) before_flush flush behind are).0 in
          wrote_is_kept w.volume (w.request.offset / 512) (sectors_of w.payload) wrote f k x got
