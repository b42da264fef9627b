-- The cases of a step.
use Rattle.std.proofs.Common.{◌≡◌, ℕ, ◌+◌, ◌-◌, ◌<◌, ◌≤◌, ◌⊎◌, Bool, true, false, List, [], ◌++◌, length, take, drop, Option, Some, None, refl, sym, ap, subst, ◌∙◌, arith, inl, inr}
use Rattle.std.specs.Prelude.{MatchOption}
use Rattle.std.proofs.lemmas.Bool.{cases_lt, cond_both}
use Rattle.std.proofs.lemmas.List.{length-take-le, take_at, take_all, take-append-drop, length-append}
use Rattle.tp_model.specs.Pool.{Outline}
use Rattle.tp_model.specs.Calls.{Call, Answer}
use Rattle.nbd_wire.specs.declared.Kind.{Kind}
use Rattle.nbd_wire.specs.declared.Kind.TheVariants as kinds
use Rattle.nbd_wire.specs.Grammar.{Message, client_flags, client_option, command, malformed, payload_len, IsFrame, IsPartial}
use Rattle.nbd_wire.specs.Numbers.{number}
use Rattle.nbd_wire.specs.Reading.{fixed_len, whole_len, wanted, option_at, request_at, is_good_option, is_good_request}
use Rattle.nbd_wire.proofs.Frames.{whole_stays, wanted_whole, wanted_fixed, wants_more}
use Rattle.nbd_session.specs.declared.phase.Course.TheVariants.{Listens, Works}
use Rattle.nbd_session.specs.declared.phase.Phase.{Phase}
use Rattle.nbd_session.specs.declared.phase.Phase.TheVariants.{Flags, Options, Transmission, Ended}
use Rattle.nbd_session.specs.Held.{Gathers}
use Rattle.nbd_session.specs.Buffers.{IsSound, wanted_in}
use Rattle.nbd_session.specs.Session.{State, state, kind_of, has_ended, left_in, AnswersText, Waits, TakesFrame, IsDeaf, Steps}
use Rattle.nbd_session.specs.Clauses.{IsCalm, IsOf}
use Rattle.nbd_session.proofs.Gathering.{take_on}

-- a frame that is read in a phase may come there
pub frame_of_phase : (phase : Phase) (kind : Kind) (m : Message) (text : List ℕ) → kind_of phase ≡ Some kind → IsFrame kind m text → IsOf phase m
frame_of_phase (Flags a) kinds.Flags (client_flags b) text e h = tt
frame_of_phase (Flags a) kinds.Flags malformed text e h = tt
frame_of_phase (Flags a) kinds.Flags (client_option o p) text e h = absurd h
frame_of_phase (Flags a) kinds.Flags (command r p) text e h = absurd h
frame_of_phase (Flags a) kinds.Options m text e h = absurd cc
frame_of_phase (Flags a) kinds.Requests m text e h = absurd cc
frame_of_phase (Options z) kinds.Options (client_option o p) text e h = tt
frame_of_phase (Options z) kinds.Options malformed text e h = tt
frame_of_phase (Options z) kinds.Options (client_flags b) text e h = absurd h
frame_of_phase (Options z) kinds.Options (command r p) text e h = absurd h
frame_of_phase (Options z) kinds.Flags m text e h = absurd cc
frame_of_phase (Options z) kinds.Requests m text e h = absurd cc
frame_of_phase (Transmission v n (Listens x)) kinds.Requests (command r p) text e h = h.whole
frame_of_phase (Transmission v n (Listens x)) kinds.Requests malformed text e h = tt
frame_of_phase (Transmission v n (Listens x)) kinds.Requests (client_flags b) text e h = absurd h
frame_of_phase (Transmission v n (Listens x)) kinds.Requests (client_option o p) text e h = absurd h
frame_of_phase (Transmission v n (Listens x)) kinds.Flags m text e h = absurd cc
frame_of_phase (Transmission v n (Listens x)) kinds.Options m text e h = absurd cc
frame_of_phase (Transmission v n (Works x r)) kind m text e h = absurd cc
frame_of_phase Ended kind m text e h = absurd cc

-- what is wanted in a phase
pub wanted_is : (phase : Phase) (kind : Kind) (t : List ℕ) → kind_of phase ≡ Some kind → wanted_in phase t ≡ wanted kind t
wanted_is (Flags a) kinds.Flags t e = refl
wanted_is (Flags a) kinds.Options t e = absurd cc
wanted_is (Flags a) kinds.Requests t e = absurd cc
wanted_is (Options z) kinds.Options t e = refl
wanted_is (Options z) kinds.Flags t e = absurd cc
wanted_is (Options z) kinds.Requests t e = absurd cc
wanted_is (Transmission v n (Listens x)) kinds.Requests t e = refl
wanted_is (Transmission v n (Listens x)) kinds.Flags t e = absurd cc
wanted_is (Transmission v n (Listens x)) kinds.Options t e = absurd cc
wanted_is (Transmission v n (Works m r)) kind t e = absurd cc
wanted_is Ended kind t e = absurd cc

fixed_pos : (kind : Kind) → 0 < fixed_len kind
fixed_pos kinds.Flags = omega arith
fixed_pos kinds.Options = omega arith
fixed_pos kinds.Requests = omega arith

wanted_pos : (kind : Kind) → 0 < wanted kind []
wanted_pos kind = let p = fixed_pos kind in let e = wanted_fixed kind [] p in omega arith

pub wanted_at_start : (phase : Phase) → 0 < wanted_in phase []
wanted_at_start (Flags a) = wanted_pos kinds.Flags
wanted_at_start (Options z) = wanted_pos kinds.Options
wanted_at_start (Transmission v n (Listens x)) = wanted_pos kinds.Requests
wanted_at_start (Transmission v n (Works m r)) = omega arith
wanted_at_start Ended = omega arith

-- the bytes that are held begin no frame
pub calm_state : (phase : Phase) (filled : ℕ) (input : List ℕ) → filled ≤ length input → filled < wanted_in phase (take filled input) → IsCalm (state phase (take filled input))
calm_state (Flags a) filled input le lt = wants_more kinds.Flags (take filled input) (let l = length-take-le filled input le in omega arith)
calm_state (Options z) filled input le lt = wants_more kinds.Options (take filled input) (let l = length-take-le filled input le in omega arith)
calm_state (Transmission v n (Works m r)) filled input le lt = let e : filled ≡ 0 = omega arith in ap (λ (i : ℕ). take i input) e
calm_state (Transmission v n (Listens x)) filled input le lt = wants_more kinds.Requests (take filled input) (let l = length-take-le filled input le in omega arith)
calm_state Ended filled input le lt = let e : filled ≡ 0 = omega arith in ap (λ (n : ℕ). take n input) e

-- what a piece brought of a frame that is not whole yet
pub calm_gathered : (phase : Phase) (kind : Kind) (text now : List ℕ) (filled end : ℕ) (whole : Bool) → kind_of phase ≡ Some kind → whole ≡ false → Gathers kind text filled end whole now → IsCalm (state phase now)
calm_gathered phase kind text now filled end whole speaks part g =
    let same : now ≡ text = g.now_is ∙ take_all end text (let a = g.all part in omega arith) in
    let waits : IsPartial kind text = wants_more kind text (g.short part) in
    let P : Option Kind → Type 0 = λ o. MatchOption o (now ≡ []) (λ k. IsPartial k now) in
    let Q : List ℕ → Type 0 = λ t. IsPartial kind t in
    subst P (sym speaks) (subst Q (sym same) waits)

-- what is left of a request is no more than a request may have
pub sound_few : (phase : Phase) → IsSound phase → left_in phase < 4294967296
sound_few (Flags a) h = omega arith
sound_few (Options z) h = omega arith
sound_few (Transmission v n (Listens x)) h = omega arith
sound_few (Transmission v n (Works m r)) h = h.few
sound_few Ended h = omega arith

fixed_whole : (kind : Kind) (t : List ℕ) → fixed_len kind ≤ whole_len kind t
unfolding whole_len
fixed_whole kinds.Flags t = omega arith
fixed_whole kinds.Options t = cond_both (is_good_option (option_at t)) (16 + (option_at t).len) 16 (λ (n : ℕ). 16 ≤ n) (λ _. omega arith) (λ _. omega arith)
fixed_whole kinds.Requests t = cond_both (is_good_request (number 4 t) (request_at t)) (28 + payload_len (request_at t)) 28 (λ (n : ℕ). 28 ≤ n) (λ _. omega arith) (λ _. omega arith)

-- a frame that stands whole in a piece
pub record Front (kind : Kind) (t : List ℕ) (n : ℕ) : Type 0 where
  pub fixed : fixed_len kind ≤ length (take n t)
  pub whole : whole_len kind (take n t) ≡ length (take n t)
  pub len : length (take n t) ≡ n

pub front_of : (kind : Kind) (t : List ℕ) (n : ℕ) → n ≡ wanted kind t → n ≤ length t → Front kind t n
front_of kind t n e le =
    let fixed : fixed_len kind ≤ length t = elim (cases_lt (length t) (fixed_len kind)) [ inl lt ↦ let w = wanted_fixed kind t lt in absurd (omega arith) | inr ge ↦ ge ] in
    let w : wanted kind t ≡ whole_len kind t = wanted_whole kind t fixed in
    let len : length (take n t) ≡ n = length-take-le n t le in
    let least : fixed_len kind ≤ n = omega (arith, fixed_whole kind t) in
    let stays : whole_len kind t ≡ whole_len kind (take n t) = ap (whole_len kind) (sym (take-append-drop n t)) ∙ whole_stays kind (take n t) (drop n t) (omega arith) in
    record { fixed = omega arith; whole = omega arith; len = len }

-- what was held was no whole frame
more_than_held : (kind : Kind) (old now : List ℕ) (filled end : ℕ) → length old ≡ filled → filled < wanted kind old → filled ≤ end → fixed_len kind ≤ end → whole_len kind now ≡ end
    → (end ≡ filled → now ≡ old) → 0 < end - filled
more_than_held kind old now filled end len wants least fixed exact same =
    elim (cases_lt filled end) [
      | inl lt ↦ omega arith
      | inr le ↦
          let e : end ≡ filled = omega arith in
          let w : whole_len kind old ≡ end = ap (whole_len kind) (sym (same e)) ∙ exact in
          let v = wanted_whole kind old (omega arith) in
          absurd (omega arith)
    ]

not_ended : (phase : Phase) (kind : Kind) → kind_of phase ≡ Some kind → has_ended phase ≡ false
not_ended (Flags a) kind e = refl
not_ended (Options z) kind e = refl
not_ended (Transmission v n c) kind e = refl
not_ended Ended kind e = absurd cc

-- a session that reads no frames holds nothing of one
deaf_wants : (phase : Phase) (t : List ℕ) → kind_of phase ≡ None → wanted_in phase t ≡ 1
deaf_wants (Flags a) t e = absurd cc
deaf_wants (Options z) t e = absurd cc
deaf_wants (Transmission v n (Listens x)) t e = absurd cc
deaf_wants (Transmission v n (Works m r)) t e = refl
deaf_wants Ended t e = refl

pub deaf_holds : (phase : Phase) (filled : ℕ) (input : List ℕ) → kind_of phase ≡ None → filled < wanted_in phase (take filled input) → take filled input ≡ []
deaf_holds phase filled input e lt =
    let w = deaf_wants phase (take filled input) e in
    let none : filled ≡ 0 = omega (arith, lt, w) in
    ap (λ (n : ℕ). take n input) none

module _ {A : Type 0} (outline : A → Outline) (Calls : A → Call → Answer → A → Type 0) where
  -- a step without a frame
  pub steps_deaf : (phase : Phase) (held : List ℕ) (new : State) (p p' : A) (piece sent : List ℕ) (taken : ℕ) (ended : Bool) → kind_of phase ≡ None → held ≡ []
      → IsDeaf outline Calls phase (state phase []) p piece taken sent ended new p' → Steps outline Calls (state phase held) p piece taken sent ended new p'
  steps_deaf phase held new p p' piece sent taken ended e none h =
      let at : Steps outline Calls (state phase []) p piece taken sent ended new p' =
      let P : Option Kind → Type 0 = λ o. MatchOption o (IsDeaf outline Calls phase (state phase []) p piece taken sent ended new p')
      (λ k. Waits outline Calls k (state phase []) p piece taken sent ended new p' ⊎ TakesFrame outline Calls k (state phase []) p piece taken sent ended new p') in
      subst P (sym e) h in
      let Q : List ℕ → Type 0 = λ t. Steps outline Calls (state phase t) p piece taken sent ended new p' in
      subst Q (sym none) at

module _ {A : Type 0} (outline : A → Outline) (Calls : A → Call → Answer → A → Type 0) (phase : Phase) (kind : Kind) (speaks : kind_of phase ≡ Some kind) (old : List ℕ) (p p' : A) (piece : List ℕ) where
  by_kind : (taken : ℕ) (sent : List ℕ) (ended : Bool) (new : State) → Waits outline Calls kind (state phase old) p piece taken sent ended new p' ⊎ TakesFrame outline Calls kind (state phase old) p piece taken sent ended new p'
      → Steps outline Calls (state phase old) p piece taken sent ended new p'
  by_kind taken sent ended new h =
      let P : Option Kind → Type 0 = λ o. MatchOption o (IsDeaf outline Calls phase (state phase old) p piece taken sent ended new p') (λ k. Waits outline Calls k (state phase old) p piece taken sent ended new p' ⊎ TakesFrame outline Calls k (state phase old) p piece taken sent ended new p') in
      subst P (sym speaks) h

  pub steps_direct : (n : ℕ) (sent : List ℕ) (next : Phase) → old ≡ [] → 0 < n → n ≤ length piece → AnswersText outline Calls kind phase (take n piece) p sent next p'
      → Steps outline Calls (state phase old) p piece n sent (has_ended next) (state next []) p'
  steps_direct n sent next none pos le a = by_kind n sent (has_ended next) (state next []) (inr (record {
    message = a.message;
    some = pos;
    inside = le;
    frame = let P : List ℕ → Type 0 = λ t. IsFrame kind a.message (t ++ take n piece) in subst P (sym none) a.frame;
    answer = a.answer;
    ended_is = refl;
    held_is = refl;
  }))

  pub steps_wait : (filled end : ℕ) (now : List ℕ) (b : Bool) → b ≡ false → length old ≡ filled → p' ≡ p → Gathers kind (old ++ piece) filled end b now
      → Steps outline Calls (state phase old) p piece (end - filled) [] (has_ended phase) (state phase now) p'
  steps_wait filled end now b part len same g = by_kind (end - filled) [] (has_ended phase) (state phase now) (inl (record {
    partial = wants_more kind (old ++ piece) (g.short part);
    taken_is = let l = length-append old piece in let a = g.all part in omega arith;
    sent_is = refl;
    ended_is = not_ended phase kind speaks;
    phase_is = refl;
    held_is = g.now_is ∙ take_all end (old ++ piece) (let a = g.all part in omega arith);
    pool_is = same;
  }))

  pub steps_whole : (filled end : ℕ) (now sent : List ℕ) (next : Phase) (b : Bool) → b ≡ true → filled < wanted_in phase old → length old ≡ filled → Gathers kind (old ++ piece) filled end b now → AnswersText outline Calls kind phase now p sent next p'
      → Steps outline Calls (state phase old) p piece (end - filled) sent (has_ended next) (state next []) p'
  steps_whole filled end now sent next b full wants len g a = by_kind (end - filled) sent (has_ended next) (state next []) (inr (record {
    message = a.message;
    some = more_than_held kind old now filled end len (let e = wanted_is phase kind old speaks in omega arith) g.least (g.fixed full) (g.exact full)
        (λ e. g.now_is ∙ ap (λ (n : ℕ). take n (old ++ piece)) e ∙ take_at old piece filled len);
    inside = let l = length-append old piece in let m = g.most in omega arith;
    frame = let P : List ℕ → Type 0 = λ t. IsFrame kind a.message t in
        let m = g.least in
        subst P (g.now_is ∙ take_on old piece end (omega arith) ∙ ap (λ (n : ℕ). old ++ take (end - n) piece) len) a.frame;
    answer = a.answer;
    ended_is = refl;
    held_is = refl;
  }))
