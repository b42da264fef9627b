-- A FLUSH at the front of a piece, and one that is answered by a flush made elsewhere.
use Rattle.std.proofs.Common.{◌≡◌, ℕ, ◌<◌, ◌≤◌, Bool, true, false, List, [], length, take, drop, Option, Some, None, refl, sym, ap, subst, ◌∙◌, arith}
use Rattle.std.specs.Prelude.{Result, Ok, Err, if◌then◌else◌}
use Rattle.std.proofs.lemmas.List.{length-take-le, take-append-drop}
use Rattle.tp_model.specs.declared.refusal.Refusal.{Refusal}
use Rattle.tp_model.specs.Calls.{Flush}
use Rattle.tp_model.specs.Clauses.{PoolCall, View, ViewLaws}
use Rattle.tp_model.specs.Flushing.{IsFlushed}
use Rattle.nbd_wire.specs.declared.Kind.TheVariants.{Requests}
use Rattle.nbd_wire.specs.Grammar.{Message, client_flags, client_option, command, malformed, IsFrame, IsRequest}
use Rattle.nbd_wire.proofs.Frames.{one_frame}
use Rattle.nbd_session.specs.declared.phase.Course.TheVariants.{Listens}
use Rattle.nbd_session.specs.declared.phase.Manner.{Manner}
use Rattle.nbd_session.specs.declared.phase.Phase.{Phase}
use Rattle.nbd_session.specs.declared.phase.Phase.TheVariants.{Transmission}
use Rattle.nbd_session.specs.declared.request.Verdict.{Verdict}
use Rattle.nbd_session.specs.declared.request.Verdict.TheVariants as verdicts
use Rattle.nbd_session.specs.Requests.{verdict_in}
use Rattle.nbd_session.specs.Buffers.{IsSound}
use Rattle.nbd_session.specs.Clauses.{Advances, IsReady}
use Rattle.nbd_session.specs.Session.{Serves, State, Steps, has_ended, is_at_work, left_in, reply_to, state}
use Rattle.nbd_session.specs.Flushes.{BeginsWithFlush, IsAtFlush, answer_of, flush_cookie, is_flush_verdict}
use Rattle.nbd_session.proofs.Advancing.{advances}
use Rattle.nbd_session.proofs.Stepping.{calm_state, sound_few, steps_direct, wanted_at_start}

-- the cookie is told of a FLUSH alone
cookie_told : (v : Verdict) (cookie k : ℕ) → ◌≡◌ {A = Option ℕ} (if is_flush_verdict v then Some cookie else None) (Some k) → (v ≡ verdicts.Flush) × (cookie ≡ k)
cookie_told (verdicts.Refuse e) cookie k is = absurd cc
cookie_told verdicts.Nothing cookie k is = absurd cc
cookie_told verdicts.Read cookie k is = absurd cc
cookie_told verdicts.Write cookie k is = absurd cc
cookie_told verdicts.Trim cookie k is = absurd cc
cookie_told verdicts.WriteZeroes cookie k is = absurd cc
cookie_told verdicts.Flush cookie k is = (refl, cc)
cookie_told verdicts.Disconnect cookie k is = absurd cc
cookie_told verdicts.Long cookie k is = absurd cc
cookie_told verdicts.Status cookie k is = absurd cc

module _ (size : ℕ) (manner : Manner) (piece : List ℕ) (n : ℕ) where
  -- so many bytes at the front are one, with this cookie
  abbrev pub IsFlushOf : ℕ → Type 0
  IsFlushOf k = (b : BeginsWithFlush size manner piece) × (b.frame ≡ take n piece) × (b.request.cookie ≡ k)

  pub front_is_flush : (m : Message) (k : ℕ) → IsFrame Requests m (take n piece) → flush_cookie size manner m ≡ Some k → IsFlushOf k
  front_is_flush (client_flags z) k h is = absurd cc
  front_is_flush (client_option o p) k h is = absurd cc
  front_is_flush (command r p) k h is =
      let told = cookie_told (verdict_in manner size r) r.cookie k is in
      (record { request = r; payload = p; frame = take n piece; rest = drop n piece; verdict = told.0; is_frame = h; text_is = sym (take-append-drop n piece) }, refl, told.1)
  front_is_flush malformed k h is = absurd cc

  told_flush : (b : BeginsWithFlush size manner piece) → flush_cookie size manner (command b.request b.payload) ≡ Some b.request.cookie
  told_flush b = ap (λ (v : Verdict). if is_flush_verdict v then Some b.request.cookie else None) b.verdict

  some_is_none : (o : Option ℕ) (k : ℕ) → o ≡ Some k → o ≡ None → ⊥
  some_is_none None k a b = absurd cc
  some_is_none (Some x) k a b = absurd cc

  pub front_is_none : (m : Message) → IsFrame Requests m (take n piece) → flush_cookie size manner m ≡ None → BeginsWithFlush size manner piece → ⊥
  front_is_none m h none b =
      let same : m ≡ command b.request b.payload = (one_frame Requests m (command b.request b.payload) (take n piece) b.frame (drop n piece) b.rest h b.is_frame (take-append-drop n piece ∙ b.text_is)).1 in
      some_is_none (flush_cookie size manner m) b.request.cookie (ap (flush_cookie size manner) same ∙ told_flush b) none

-- a flush as a call of the pool, with its answer
pub flush_call : {D : Type 0} (view : View D) (p q : D) (answer : Result (Unit {0}) Refusal) → IsFlushed view p q answer → PoolCall view p Flush (answer_of answer) q
flush_call view p q (Ok done) met = met
flush_call view p q (Err reason) met = met

module _ {D : Type 0} (view : View D) (volume size : ℕ) (manner : Manner) (p q : D) (piece : List ℕ) where
  -- the FLUSH with which a piece begins is answered so
  pub flushed_front : (n : ℕ) (k : ℕ) (answer : Result (Unit {0}) Refusal) (sent : List ℕ) → n ≤ length piece → 0 < n → IsFlushOf size manner piece n k → sent ≡ reply_to k (answer_of answer) → IsFlushed view p q answer
      → Steps view.outline (PoolCall view) (state (Transmission volume size (Listens manner)) []) p piece n sent false (state (Transmission volume size (Listens manner)) []) q
  flushed_front n k answer sent le some flush sent_is met =
      let b = flush.0 in
      let call = flush_call view p q answer met in
      let serves : Serves view.outline (PoolCall view) verdicts.Flush volume size manner b.request b.payload p sent (Transmission volume size (Listens manner)) q =
      (record { answer = answer_of answer; calls = call; sent_is = sent_is ∙ ap (λ (c : ℕ). reply_to c (answer_of answer)) (sym flush.2) }, refl) in
      steps_direct view.outline (PoolCall view) (Transmission volume size (Listens manner)) Requests refl [] p q piece n sent (Transmission volume size (Listens manner)) refl some le
      (record {
        message = command b.request b.payload;
        frame = subst (λ (t : List ℕ). IsRequest t b.request b.payload) flush.1 b.is_frame;
        answer = subst (λ (v : Verdict). Serves view.outline (PoolCall view) v volume size manner b.request b.payload p sent (Transmission volume size (Listens manner)) q) (sym b.verdict) serves;
      })

-- a session that holds bytes of a frame is at none
pub holds_some : (at : State) (phase : Phase) (filled : ℕ) (input piece : List ℕ) → state phase (take filled input) ≡ at → filled ≤ length input → 0 < filled → IsAtFlush at piece → ⊥
holds_some at phase filled input piece is le some b =
    let none : take filled input ≡ [] = ap (λ (s : State). s.held) is ∙ b.held_is in
    let len : length (take filled input) ≡ 0 = ap length none in
    absurd (omega (arith, len, some, length-take-le filled input le))

module _ {D : Type 0} (view : View D) (laws : ViewLaws view) where
  -- a step of a session that holds no part of a frame, and behind which it goes on
  pub advances_flushed : (p q : D) (at : State) (phase next : Phase) (filled left : ℕ) (input piece sent : List ℕ) (taken : ℕ) → state phase (take filled input) ≡ at → filled ≤ 0 → left ≡ 0 → IsSound next
      → (is_at_work phase ≡ true → left_in next < left_in phase) → has_ended next ≡ false → IsReady at.phase (view.outline p) (view.more p)
      → Steps view.outline (PoolCall view) (state phase []) p piece taken sent (has_ended next) (state next []) q
      → Advances view at p piece taken sent false (state next (take left input)) q
  advances_flushed p q at phase next filled left input piece sent taken is few none sound works is_open ready steps =
      let e : filled ≡ 0 = omega (arith, few) in
      let at_is : state phase [] ≡ at = ap (λ (n : ℕ). state phase (take n input)) (sym e) ∙ is in
      let to_is : state next [] ≡ state next (take left input) = ap (λ (n : ℕ). state next (take n input)) (sym none) in
      let here = subst (λ (s : State). IsReady s.phase (view.outline p) (view.more p)) (sym at_is) ready in
      let base : Advances view (state phase []) p piece taken sent (has_ended next) (state next []) q =
      advances view laws p q (state phase []) (state next []) piece sent taken (has_ended next) here (calm_state next 0 [] (omega arith) (wanted_at_start next)) (sound_few next sound) works steps in
      subst (λ (s : State). Advances view s p piece taken sent false (state next (take left input)) q) at_is
      (subst (λ (s : State). Advances view (state phase []) p piece taken sent false s q) to_is
      (subst (λ (b : Bool). Advances view (state phase []) p piece taken sent b (state next []) q) is_open base))
