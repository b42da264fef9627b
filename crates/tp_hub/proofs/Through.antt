-- What a client was answered for a WRITE, where its profile writes through, is found behind a stop.
use Rattle.std.proofs.Common.{◌≡◌, ◌⊎◌, ℕ, ◌+◌, ◌/◌, ◌<◌, ◌^◌, Bool, true, false, List, [], ◌∷◌, ◌++◌, length, Option, Some, None, inl, inr, refl, sym, ap, ap₂, subst, ◌∙◌, arith, append_assoc, append-nil, length-append, true≢false}
use Rattle.std.specs.Prelude.{◌&&◌, ◌||◌, ◌==◌, MatchBool, if◌then◌else◌, slice_get}
use Rattle.std.specs.Option.{option_map_or}
use Rattle.std.proofs.lemmas.Bool.{cases_eq, eq-eqb, ne_eqb}
use Rattle.tp_model.specs.declared.refusal.NbdError.{NbdError}
use Rattle.tp_model.specs.Geometry.{Geometry}
use Rattle.tp_model.specs.Refusals.{nbd_code, nbd_error}
use Rattle.tp_model.specs.Requests as forms
use Rattle.tp_model.specs.Sectors.{Sector, sectors_of}
use Rattle.tp_model.specs.Pool.{PlainPool}
use Rattle.tp_model.specs.Calls.{Answer, Call, Done, Flush, Refused, Write}
use Rattle.tp_model.specs.Clauses.{Traced, TracedCall, View, outline_of_traced, traced}
use Rattle.nbd_wire.specs.declared.Kind.TheVariants as kinds
use Rattle.nbd_wire.specs.declared.Request.{Request}
use Rattle.nbd_wire.specs.declared.TheConstants.{COMMAND_FLUSH, GREETING_MAGIC, HANDSHAKE_FLAGS, OPTION_MAGIC, SIMPLE_REPLY_MAGIC}
use Rattle.nbd_wire.specs.Numbers.{bytes}
use Rattle.nbd_wire.specs.Grammar.{IsFrame, Message, command}
use Rattle.nbd_wire.specs.Replies.{greeting, simple_reply, simple_reply_head}
use Rattle.nbd_wire.proofs.Fields.{width2, width4, width8}
use Rattle.nbd_wire.proofs.Frames.{one_frame}
use Rattle.nbd_wire.proofs.Told.{one_simple_reply, simple_head_is}
use Rattle.nbd_session.specs.declared.phase.Course.TheVariants.{Listens, Works}
use Rattle.nbd_session.specs.declared.phase.Manner.{Manner}
use Rattle.nbd_session.specs.declared.phase.Phase.{Phase}
use Rattle.nbd_session.specs.declared.phase.Phase.TheVariants.{Ended, Transmission}
use Rattle.nbd_session.specs.declared.request.Verdict.{Verdict}
use Rattle.nbd_session.specs.declared.request.Verdict.TheVariants as verdicts
use Rattle.nbd_session.specs.Requests.{form_of, has_fua, is_kept_apart, is_last, long_call, part_call, rest_of, to_keep, verdict_in, wants_fua}
use Rattle.nbd_session.proofs.Judging.{error_other}
use Rattle.nbd_session.specs.Session.{Answers, Begins, GoesOn, IsMade, IsOver, MakesPart, Performs, Serves, State, Steps, TakesFrame, Waits, has_ended, reply_to, state}
use Rattle.nbd_session.specs.Turns.{AreTurns, Asks, Happened, Hears, IsFoundIn, Leaves, Opens, Sessions, TakesTurn, Turn, closed, pool_after, sent_in, sent_to, sessions_after}
use Rattle.tp_hub.proofs.Whole.{all_taken, state_is}
use Rattle.tp_hub.proofs.Covering.{Flushed, answer_of, code_is_some, no_read, no_reply, no_status, performed, pool_at, turn_in}
use Rattle.tp_hub.proofs.Remaining.{IsThrough, stays_through}
use Rattle.tp_hub.proofs.Wrote.{Wrote, apart_wrote, some_len, turns_front, verdict_is, write_answer, wrote_is_kept}
use Rattle.tp_hub.specs.Covered.{AreOffered, IsKeptThere, IsWriteTaken}

-- ---- what is sent

-- An error is no reply that a request is done, whatever comes behind it.
no_error_first : (e : NbdError) (cookie : ℕ) (more : List ℕ) → cookie < 2 ^ 64 → simple_reply (nbd_code e) cookie [] ++ more ≡ simple_reply 0 cookie [] → ⊥
no_error_first e cookie more fits is =
    let code = code_is_some e in
    let none : 0 < 4294967296 = omega arith in
    let same = one_simple_reply (nbd_code e) 0 cookie cookie more [] code.1 none fits fits (sym (append_assoc (simple_reply_head (nbd_code e) cookie) [] more) ∙ is) in
    let zero_is : nbd_code e ≡ 0 = same.0 in
    let some = code.0 in
    absurd (omega (arith, zero_is, some))

reply_len : (error cookie : ℕ) → length (simple_reply error cookie []) ≡ 16
reply_len error cookie =
    let all = ap length (simple_head_is error cookie []) in
    let first = length-append (bytes 4 SIMPLE_REPLY_MAGIC) (bytes 4 error ++ (bytes 8 cookie ++ [])) in
    let second = length-append (bytes 4 error) (bytes 8 cookie ++ []) in
    let third = length-append (bytes 8 cookie) [] in
    let a = width4.len SIMPLE_REPLY_MAGIC in
    let b = width4.len error in
    let d = width8.len cookie in
    omega (arith, all, first, second, third, a, b, d)

greeting_is : (x : List ℕ) → greeting ++ x ≡ bytes 8 GREETING_MAGIC ++ (bytes 8 OPTION_MAGIC ++ (bytes 2 HANDSHAKE_FLAGS ++ x))
unfolding greeting
greeting_is x = simp append_assoc

-- Neither is a greeting.
no_greeting_first : (cookie : ℕ) (more : List ℕ) → greeting ++ more ≡ simple_reply 0 cookie [] → ⊥
no_greeting_first cookie more is =
    let all = ap length (sym (greeting_is more) ∙ is) in
    let first = length-append (bytes 8 GREETING_MAGIC) (bytes 8 OPTION_MAGIC ++ (bytes 2 HANDSHAKE_FLAGS ++ more)) in
    let second = length-append (bytes 8 OPTION_MAGIC) (bytes 2 HANDSHAKE_FLAGS ++ more) in
    let third = length-append (bytes 2 HANDSHAKE_FLAGS) more in
    let a = width8.len GREETING_MAGIC in
    let b = width8.len OPTION_MAGIC in
    let d = width2.len HANDSHAKE_FLAGS in
    let short = reply_len 0 cookie in
    absurd (omega (arith, all, first, second, third, a, b, d, short))

-- what is sent to a session in a turn of its own, and in one of another session
sent_own : (n m : ℕ) (sent : List ℕ) → m ≡ n → (if m == n then sent else []) ≡ sent
sent_own n m sent is = ap (λ (b : Bool). if b then sent else []) (eq-eqb m n is)

sent_other : (n m : ℕ) (sent : List ℕ) → (m ≡ n → ⊥) → (if m == n then sent else []) ≡ []
sent_other n m sent other = ap (λ (b : Bool). if b then sent else []) (ne_eqb m n other)

module _ (HasUse : PlainPool → Type 0) where
  abbrev TracedTurn : Sessions → Traced → Turn → Sessions → Traced → Type 0
  TracedTurn = TakesTurn outline_of_traced (TracedCall HasUse)

  abbrev AreTraced : Sessions → Traced → List (Happened Traced) → Type 0
  AreTraced = AreTurns outline_of_traced (TracedCall HasUse)

  -- ---- a session that has ended is sent no reply

  module _ (n cookie : ℕ) where
    abbrev reply : List ℕ
    reply = simple_reply 0 cookie []

    -- how a turn leaves a session that has ended: nothing is sent to it, unless a client comes
    over_turn : (at at' : Sessions) (p p' : Traced) (turn : Turn) (rest : List ℕ) → (at n).phase ≡ Ended → TracedTurn at p turn at' p' → sent_in n turn ++ rest ≡ reply → ((at' n).phase ≡ Ended) × (rest ≡ reply)
    over_turn at at' p p' (Opens m profile sent) rest over takes told =
        elim (cases_eq m n) [
          | inl own ↦
              let first : sent_in n (Opens m profile sent) ≡ greeting = sent_own n m sent own ∙ takes.4 in
              absurd (no_greeting_first cookie rest (ap (λ (t : List ℕ). t ++ rest) (sym first) ∙ told))
          | inr other ↦
              (ap (λ (s : State). s.phase) (takes.1 n (λ is. other (sym is))) ∙ over, ap (λ (t : List ℕ). t ++ rest) (sym (sent_other n m sent other)) ∙ told)
        ]
    over_turn at at' p p' (Hears m piece taken sent ended) rest over takes told =
        elim (cases_eq m n) [
          | inl own ↦
              let here : Steps outline_of_traced (TracedCall HasUse) (at n) p piece taken sent ended (at' n) p' =
              subst (λ (i : ℕ). Steps outline_of_traced (TracedCall HasUse) (at i) p piece taken sent ended (at' i) p') own takes.0 in
              let step : IsOver outline_of_traced (TracedCall HasUse) (state Ended (at n).held) p piece taken sent ended (at' n) p' =
              subst (λ (s : State). Steps outline_of_traced (TracedCall HasUse) s p piece taken sent ended (at' n) p') (state_is (at n) Ended (at n).held over refl) here in
              (step.phase_is, ap (λ (t : List ℕ). t ++ rest) (sym (sent_own n m sent own ∙ step.sent_is)) ∙ told)
          | inr other ↦
              (ap (λ (s : State). s.phase) (takes.1 n (λ is. other (sym is))) ∙ over, ap (λ (t : List ℕ). t ++ rest) (sym (sent_other n m sent other)) ∙ told)
        ]
    over_turn at at' p p' (Leaves m) rest over takes told =
        elim (cases_eq m n) [
          | inl own ↦ (ap (λ (s : State). s.phase) (subst (λ (i : ℕ). at' i ≡ state Ended []) own takes.2), told)
          | inr other ↦ (ap (λ (s : State). s.phase) (takes.1 n (λ is. other (sym is))) ∙ over, told)
        ]
    over_turn at at' p p' (Asks call answer) rest over takes told = (ap (λ (s : State). s.phase) (takes.1 n) ∙ over, told)

    over_silent : (at : Sessions) (p : Traced) (more behind : List (Happened Traced)) → (at n).phase ≡ Ended → AreTraced at p (more ++ behind) → sent_to n more ≡ reply → ⊥
    over_silent at p [] behind over are told = no_reply 0 cookie (sym told)
    over_silent at p (h ∷ more) behind over are told =
        let next = over_turn at h.sessions p h.pool h.turn (sent_to n more) over are.0 told in
        over_silent h.sessions h.pool more behind next.0 are.1 next.1

  -- ---- the FLUSH that is left of a request

  -- it was made in one of these turns
  record MadeIn (p : Traced) (more : List (Happened Traced)) : Type 0 where
    before : List (Happened Traced)
    flush : Happened Traced
    rest : List (Happened Traced)
    parts : more ≡ before ++ flush ∷ rest
    flushed : Flushed HasUse (pool_after p before) flush.pool

  later : (p : Traced) (h : Happened Traced) (more : List (Happened Traced)) → MadeIn h.pool more → MadeIn p (h ∷ more)
  later p h more made = record { before = h ∷ made.before; flush = made.flush; rest = made.rest; parts = ap (λ (l : List (Happened Traced)). h ∷ l) made.parts; flushed = made.flushed }

  module _ (n volume size : ℕ) (m : Manner) (cookie : ℕ) (fits : cookie < 2 ^ 64) where
    -- a FLUSH is left of a request of this cookie
    abbrev IsLeft : Phase → Request → Type 0
    IsLeft phase r = (phase ≡ Transmission volume size (Works m r)) × (r.kind ≡ COMMAND_FLUSH) × (r.cookie ≡ cookie)

    -- what a turn comes to: the FLUSH is made, or left still
    abbrev Comes : Traced → Phase → List ℕ → Traced → Type 0
    Comes p next rest p' = Flushed HasUse p p' ⊎ (((r : Request) × IsLeft next r) × (rest ≡ simple_reply 0 cookie []))

    part_comes : (p p' : Traced) (r : Request) (sent rest : List ℕ) (next : Phase) → r.kind ≡ COMMAND_FLUSH → r.cookie ≡ cookie → MakesPart outline_of_traced (TracedCall HasUse) volume size m r p sent next p'
        → sent ++ rest ≡ simple_reply 0 cookie [] → Comes p next rest p'
    part_comes p p' r sent rest next is same part told =
        let g : Geometry = (outline_of_traced p).geometry in
        let call_is : part_call m volume g r ≡ Flush = ap (λ (b : Bool). if b then Flush else long_call m volume g r) (eq-eqb r.kind 3 is) in
        let calls : TracedCall HasUse p Flush part.answer p' = subst (λ (c : Call). TracedCall HasUse p c part.answer p') call_is part.calls in
        elim (answer_of p.pool calls.entry.event.made calls.is_trace.0 calls.entry.event.call calls.entry.event.answer calls.call_is calls.is_trace.2) [
          | inl done ↦
              let answer_is : part.answer ≡ Done = sym calls.answer_is ∙ done in
              by_last (is_last g r) (rest_of g r) (subst (λ (a : Answer). TracedCall HasUse p Flush a p') answer_is calls) (is, same) (subst (λ (a : Answer). IsMade volume size m r (rest_of g r) (is_last g r) a sent next) answer_is part.is_made)
          | inr refused ↦
              let answer_is : part.answer ≡ Refused refused.0 = sym calls.answer_is ∙ refused.1 in
              let made : IsMade volume size m r (rest_of g r) (is_last g r) (Refused refused.0) sent next = subst (λ (a : Answer). IsMade volume size m r (rest_of g r) (is_last g r) a sent next) answer_is part.is_made in
              let error : sent ≡ simple_reply (nbd_code (nbd_error refused.0)) cookie [] = made.0 ∙ ap (λ (c : ℕ). simple_reply (nbd_code (nbd_error refused.0)) c []) same in
              absurd (no_error_first (nbd_error refused.0) cookie rest fits (ap (λ (t : List ℕ). t ++ rest) (sym error) ∙ told))
        ]
      where
        by_last : (last : Bool) (left : Request) → TracedCall HasUse p Flush Done p' → (left.kind ≡ COMMAND_FLUSH) × (left.cookie ≡ cookie) → IsMade volume size m r left last Done sent next → Comes p next rest p'
        by_last true left calls kept made = inl (performed HasUse p p' cookie Done fits calls refl)
        by_last false left calls kept made = inr ((left, (made.1, kept.0, kept.1)), ap (λ (t : List ℕ). t ++ rest) (sym made.0) ∙ told)

    -- of another session, or of the pool
    other_comes : (at at' : Sessions) (p p' : Traced) (r : Request) (turn : Turn) (rest : List ℕ) → IsLeft (at n).phase r → at' n ≡ at n → sent_in n turn ≡ [] → sent_in n turn ++ rest ≡ simple_reply 0 cookie [] → Comes p (at' n).phase rest p'
    other_comes at at' p p' r turn rest left same none told = inr ((r, (ap (λ (s : State). s.phase) same ∙ left.0, left.1, left.2)), ap (λ (t : List ℕ). t ++ rest) (sym none) ∙ told)

    -- A client leaves: no reply comes any more.
    abbrev ComesTo : Traced → Phase → List ℕ → Traced → Type 0
    ComesTo p next rest p' = Comes p next rest p' ⊎ ((next ≡ Ended) × (rest ≡ simple_reply 0 cookie []))

    turn_comes : (at at' : Sessions) (p p' : Traced) (r : Request) (turn : Turn) (rest : List ℕ) → IsLeft (at n).phase r → TracedTurn at p turn at' p' → sent_in n turn ++ rest ≡ simple_reply 0 cookie [] → ComesTo p (at' n).phase rest p'
    turn_comes at at' p p' r (Opens i profile sent) rest left takes told =
        elim (cases_eq i n) [
          | inl own ↦
              let closed_is : at n ≡ state Ended [] = subst (λ (j : ℕ). at j ≡ state Ended []) own takes.2 in
              let open_ : has_ended (at n).phase ≡ false = ap has_ended left.0 in
              absurd (true≢false (sym (ap (λ (s : State). has_ended s.phase) closed_is) ∙ open_))
          | inr other ↦ inl (other_comes at at' p p' r (Opens i profile sent) rest left (takes.1 n (λ is. other (sym is))) (sent_other n i sent other) told)
        ]
    turn_comes at at' p p' r (Hears i piece taken sent ended) rest left takes told =
        elim (cases_eq i n) [
          | inl own ↦
              let here : Steps outline_of_traced (TracedCall HasUse) (at n) p piece taken sent ended (at' n) p' =
              subst (λ (j : ℕ). Steps outline_of_traced (TracedCall HasUse) (at j) p piece taken sent ended (at' j) p') own takes.0 in
              let phase : Phase = Transmission volume size (Works m r) in
              let step : GoesOn outline_of_traced (TracedCall HasUse) volume size m r (state phase (at n).held) p taken sent ended (at' n) p' =
              subst (λ (s : State). Steps outline_of_traced (TracedCall HasUse) s p piece taken sent ended (at' n) p') (state_is (at n) phase (at n).held left.0 refl) here in
              inl (part_comes p p' r sent rest (at' n).phase left.1 left.2 step.part (ap (λ (t : List ℕ). t ++ rest) (sym (sent_own n i sent own)) ∙ told))
          | inr other ↦ inl (other_comes at at' p p' r (Hears i piece taken sent ended) rest left (takes.1 n (λ is. other (sym is))) (sent_other n i sent other) told)
        ]
    turn_comes at at' p p' r (Leaves i) rest left takes told =
        elim (cases_eq i n) [
          | inl own ↦ inr (ap (λ (s : State). s.phase) (subst (λ (j : ℕ). at' j ≡ state Ended []) own takes.2), told)
          | inr other ↦ inl (other_comes at at' p p' r (Leaves i) rest left (takes.1 n (λ is. other (sym is))) refl told)
        ]
    turn_comes at at' p p' r (Asks call answer) rest left takes told = inl (other_comes at at' p p' r (Asks call answer) rest left (takes.1 n) refl told)

    -- in the turns up to the reply
    made_in : (at : Sessions) (p : Traced) (more behind : List (Happened Traced)) (r : Request) → IsLeft (at n).phase r → AreTraced at p (more ++ behind) → sent_to n more ≡ simple_reply 0 cookie [] → MadeIn p more
    made_in at p [] behind r left are told = absurd (no_reply 0 cookie (sym told))
    made_in at p (h ∷ more) behind r left are told =
        elim (turn_comes at h.sessions p h.pool r h.turn (sent_to n more) left are.0 told) [
          | inl (inl flushed) ↦ record { before = []; flush = h; rest = more; parts = refl; flushed = flushed }
          | inl (inr goes) ↦ later p h more (made_in h.sessions h.pool more behind goes.0.0 goes.0.1 are.1 goes.1)
          | inr over ↦ absurd (over_silent n cookie h.sessions h.pool more behind over.0 are.1 over.1)
        ]

  -- ---- the turn of the WRITE

  -- nothing is sent in it, and a FLUSH is left of the request
  record Began (volume size : ℕ) (m : Manner) (r : Request) (payload : List ℕ) (p : Traced) (sent : List ℕ) (next : Phase) (t : Traced) : Type 0 where
    none : sent ≡ []
    left : next ≡ Transmission volume size (Works m (to_keep r))
    wrote : Wrote HasUse volume (r.offset / 512) (sectors_of payload) p t

  module _ (volume size : ℕ) (m : Manner) (r : Request) (payload : List ℕ) (p t : Traced) (sent rest : List ℕ) (next : Phase) (fits : r.cookie < 2 ^ 64) (told : sent ++ rest ≡ simple_reply 0 r.cookie []) where
    no_refusal : (e : NbdError) → sent ≡ simple_reply (nbd_code e) r.cookie [] → ⊥
    no_refusal e is = no_error_first e r.cookie rest fits (ap (λ (x : List ℕ). x ++ rest) (sym is) ∙ told)

    begins : Begins outline_of_traced (TracedCall HasUse) (Write volume (r.offset / 512) (sectors_of payload) false) volume size m r p sent next t → Began volume size m r payload p sent next t
    begins b =
        elim (write_answer HasUse p.pool b.calls.entry.event.made b.calls.is_trace.0 b.calls.entry.event.call volume (r.offset / 512) (sectors_of payload) false b.calls.entry.event.answer b.calls.call_is b.calls.is_trace.2) [
          | inl done ↦
              let made : IsMade volume size m r (to_keep r) false Done sent next = subst (λ (a : Answer). IsMade volume size m r (to_keep r) false a sent next) (sym b.calls.answer_is ∙ done) b.is_begun in
              record { none = made.0; left = made.1; wrote = apart_wrote HasUse p t volume size m r payload sent next fits (inr made.1) b (inl done) }
          | inr refused ↦
              let made : IsMade volume size m r (to_keep r) false (Refused refused.0) sent next = subst (λ (a : Answer). IsMade volume size m r (to_keep r) false a sent next) (sym b.calls.answer_is ∙ refused.1) b.is_begun in
              absurd (no_refusal (nbd_error refused.0) made.0)
        ]

    by_tests : (o : Option NbdError) → (r.kind == 0) ≡ false → (r.kind == 7) ≡ false → is_kept_apart m r ≡ true
        → Serves outline_of_traced (TracedCall HasUse) (option_map_or verdicts.Refuse o verdicts.Write) volume size m r payload p sent next t → Began volume size m r payload p sent next t
    by_tests (Some e) reads tells apart serves = absurd (no_refusal e (serves.0 ∙ error_other m r e reads tells))
    by_tests None reads tells apart serves =
        begins (subst (λ (b : Bool). MatchBool b (Begins outline_of_traced (TracedCall HasUse) (Write volume (r.offset / 512) (sectors_of payload) false) volume size m r p sent next t)
        (Performs outline_of_traced (TracedCall HasUse) (Write volume (r.offset / 512) (sectors_of payload) (wants_fua m r)) (reply_to r.cookie) p sent t × (next ≡ Transmission volume size (Listens m)))) apart serves)

  write_began : (at : Sessions) (p : Traced) (h : Happened Traced) (rest : List ℕ) → (w : IsWriteTaken at h) → (w.manner.is_extended ≡ true) × (w.manner.writes_through ≡ true) → 0 < w.request.len → TracedTurn at p h.turn h.sessions h.pool → w.sent ++ rest ≡ simple_reply 0 w.request.cookie []
      → Began w.volume w.size w.manner w.request w.payload p w.sent (h.sessions w.session).phase h.pool
  write_began at p h rest w through some takes told =
      let n = w.session in
      let r = w.request in
      let phase : Phase = Transmission w.volume w.size (Listens w.manner) in
      let held = (at n).held in
      let turned : Steps outline_of_traced (TracedCall HasUse) (at n) p w.piece (length w.piece) w.sent w.ended (h.sessions n) h.pool =
      (subst (λ (t : Turn). TracedTurn at p t h.sessions h.pool) w.turn takes).0 in
      let step : Waits outline_of_traced (TracedCall HasUse) kinds.Requests (state phase held) p w.piece (length w.piece) w.sent w.ended (h.sessions n) h.pool
      ⊎ TakesFrame outline_of_traced (TracedCall HasUse) kinds.Requests (state phase held) p w.piece (length w.piece) w.sent w.ended (h.sessions n) h.pool =
      subst (λ (x : State). Steps outline_of_traced (TracedCall HasUse) x p w.piece (length w.piece) w.sent w.ended (h.sessions n) h.pool) (state_is (at n) phase held w.serves refl) turned in
      let apart : is_kept_apart w.manner r ≡ true = ap₂ (λ (a b : Bool). a && (b || has_fua r)) through.0 through.1 in
      elim step [
        | inl waits ↦ absurd (waits.partial (command r w.payload) (held ++ w.piece) [] w.frame (sym (append-nil (held ++ w.piece))))
        | inr frame ↦
            let there : IsFrame kinds.Requests frame.message (held ++ w.piece) = subst (λ (t : List ℕ). IsFrame kinds.Requests frame.message (held ++ t)) (all_taken w.piece) frame.frame in
            let same = one_frame kinds.Requests frame.message (command r w.payload) (held ++ w.piece) (held ++ w.piece) [] [] there w.frame refl in
            let answered : Serves outline_of_traced (TracedCall HasUse) (verdict_in w.manner w.size r) w.volume w.size w.manner r w.payload p w.sent (h.sessions n).phase h.pool =
            subst (λ (m : Message). Answers outline_of_traced (TracedCall HasUse) phase m p w.sent (h.sessions n).phase h.pool) same.1 frame.answer in
            by_tests w.volume w.size w.manner r w.payload p h.pool w.sent rest (h.sessions n).phase w.frame.request_fits.cookie told (forms.form_error w.size (form_of r)) (no_read r 1 w.is_write (omega arith)) (no_status r 1 w.is_write (omega arith)) apart
            (subst (λ (v : Verdict). Serves outline_of_traced (TracedCall HasUse) v w.volume w.size w.manner r w.payload p w.sent (h.sessions n).phase h.pool) (verdict_is HasUse w.manner w.size r w.is_write some) answered)
      ]

-- ---- in turns of the plain pool

module _ {D : Type 0} (view : View D) (s P : PlainPool) (first more behind : List (Happened Traced)) (write : Happened Traced) (current : Option (Happened D)) where
  abbrev turns : List (Happened Traced)
  turns = first ++ write ∷ (more ++ behind)

  -- where these turns are, what is found behind them is so
  abbrev Keeps : ℕ → ℕ → Sector → List (Happened Traced) → Type 0
  Keeps volume place x ts =
      AreTurns outline_of_traced (TracedCall view.has_use) closed (traced s []) ts → IsFoundIn view s (sessions_after closed ts) (pool_after (traced s []) ts) current P
      → IsKeptThere view write.pool (sessions_after closed ts) (pool_after (traced s []) ts) current volume place x P

  pub through_is_kept : AreTurns outline_of_traced (TracedCall view.has_use) closed (traced s []) turns → (w : IsWriteTaken (sessions_after closed first) write) → AreOffered w.session first
      → sent_to w.session (write ∷ more) ≡ simple_reply 0 w.request.cookie [] → IsFoundIn view s (sessions_after closed turns) (pool_after (traced s []) turns) current P
      → (k : ℕ) (x : Sector) → slice_get (sectors_of w.payload) k ≡ Some x
      → IsKeptThere view write.pool (sessions_after closed turns) (pool_after (traced s []) turns) current w.volume (w.request.offset / 512 + k) x P
  through_is_kept are w offered told found k x got =
      let split = turn_in view.has_use closed (traced s []) first write (more ++ behind) are in
      let before = turns_front view.has_use closed (traced s []) first (write ∷ (more ++ behind)) are in
      let stays : IsThrough (sessions_after closed first w.session).phase = stays_through outline_of_traced (TracedCall view.has_use) w.session closed (traced s []) first tt offered before in
      let sent_is : sent_in w.session write.turn ≡ w.sent = ap (sent_in w.session) w.turn ∙ sent_own w.session w.session w.sent refl in
      let rest = sent_to w.session more in
      let began = write_began view.has_use (sessions_after closed first) (pool_after (traced s []) first) write rest w (subst IsThrough w.serves stays) (some_len w.request w.payload k x w.is_write w.frame.whole got) split.0
      (ap (λ (t : List ℕ). t ++ rest) (sym sent_is) ∙ told) in
      let reply_is : rest ≡ simple_reply 0 w.request.cookie [] = ap (λ (t : List ℕ). t ++ rest) (sym (sent_is ∙ began.none)) ∙ told in
      let made = made_in view.has_use w.session w.volume w.size w.manner w.request.cookie w.frame.request_fits.cookie write.sessions write.pool more behind (to_keep w.request) (began.left, refl, refl) split.1 reply_is in
      let f = subst (λ (t : Traced). Flushed view.has_use t made.flush.pool) (sym (pool_at (traced s []) first write made.before)) made.flushed in
      let same : turns ≡ (first ++ write ∷ made.before) ++ made.flush ∷ (made.rest ++ behind) =
      ap (λ (l : List (Happened Traced)). first ++ write ∷ l) (ap (λ (l : List (Happened Traced)). l ++ behind) made.parts ∙ append_assoc made.before (made.flush ∷ made.rest) behind)
      ∙ sym (append_assoc first (write ∷ made.before) (made.flush ∷ (made.rest ++ behind))) in
      let kept : Keeps w.volume (w.request.offset / 512 + k) x ((first ++ write ∷ made.before) ++ made.flush ∷ (made.rest ++ behind)) =
      λ are' found'. wrote_is_kept view s P first made.before (made.rest ++ behind) write made.flush current are' found' w.volume (w.request.offset / 512) (sectors_of w.payload) began.wrote f k x got in
      subst (Keeps w.volume (w.request.offset / 512 + k) x) (sym same) kept are found
