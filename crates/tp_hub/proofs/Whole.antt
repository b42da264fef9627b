-- All parts of a long request are made.
use Rattle.std.proofs.Common.{◌≡◌, ◌⊎◌, ℕ, suc, ◌+◌, ◌<◌, Bool, true, false, List, [], ◌∷◌, ◌++◌, length, take, Option, None, inl, inr, refl, sym, ap, ap₂, subst, ◌∙◌, arith, append_assoc, append-nil, length-append, true≢false}
use Rattle.std.specs.Prelude.{◌&&◌, ◌||◌, ◌==◌, MatchBool, if◌then◌else◌, nat_lt}
use Rattle.std.specs.Option.{option_map_or}
use Rattle.std.proofs.lemmas.Bool.{cases_eq, ne_eqb}
use Rattle.std.proofs.lemmas.List.{take_all}
use Rattle.tp_model.specs.Pool.{Outline}
use Rattle.tp_model.specs.declared.refusal.NbdError.{NbdError}
use Rattle.tp_model.specs.Calls.{Call}
use Rattle.tp_model.specs.Calls as calls
use Rattle.nbd_wire.specs.declared.Kind.TheVariants as kinds
use Rattle.nbd_wire.specs.declared.Request.{Request}
use Rattle.nbd_wire.specs.declared.TheConstants.{REQUEST_MAGIC}
use Rattle.nbd_wire.specs.Reading.{wanted}
use Rattle.nbd_wire.specs.Grammar.{Message, command, FitsRequest, IsFrame, IsPartial, payload_len, request_text}
use Rattle.nbd_wire.proofs.Frames.{one_frame, wanted_fixed, wants_more}
use Rattle.nbd_session.specs.declared.phase.Course.TheVariants.{Listens, Works}
use Rattle.nbd_session.specs.declared.phase.Manner.{Manner}
use Rattle.nbd_session.specs.declared.phase.Phase.{Phase}
use Rattle.nbd_session.specs.declared.phase.Phase.TheVariants.{Transmission}
use Rattle.nbd_session.specs.declared.request.Verdict.{Verdict}
use Rattle.nbd_session.specs.declared.request.Verdict.TheVariants as verdicts
use Rattle.nbd_session.specs.Requests.{form_of, is_last, is_long, long_error, plainly, rest_of, status_error, verdict_in, verdict_on}
use Rattle.nbd_session.proofs.Judging.{status_other}
use Rattle.nbd_session.specs.Session.{Answers, GoesOn, IsMade, Serves, State, Steps, TakesFrame, Waits, has_ended, is_at_work, state}
use Rattle.nbd_session.specs.Turns.{AreTurns, Happened, Sessions, TakesTurn, Turn, pool_after, sessions_after}
use Rattle.nbd_session.specs.Turns as turns
use Rattle.tp_hub.specs.Told.{Answer, Told}
use Rattle.tp_pages.specs.Pages.{unit_of}
use Rattle.tp_hub.specs.Runs.{AreServed, Brings, Incoming, IsAnswered, Runs, Served, TakesText, answers_in, answers_of, closed_if, events_in, is_busy, said, turns_in}
use Rattle.tp_hub.proofs.Taking.{idle_is_free}
use Rattle.tp_hub.specs.Parts.{AreParts, IsIdle, IsMadeWhole}

pub state_is : (s : State) (phase : Phase) (held : List ℕ) → s.phase ≡ phase → s.held ≡ held → s ≡ state phase held
state_is s phase held a b = λ i. record { phase = a i; held = b i }

pub all_taken : (piece : List ℕ) → take (length piece) piece ≡ piece
all_taken piece = take_all (length piece) piece (omega arith)

left_none : (a b : List ℕ) → [] ≡ a ++ b → a ≡ []
left_none [] b is = refl
left_none (x ∷ a) b is = absurd cc

right_none : (a b : List ℕ) → [] ≡ a ++ b → b ≡ []
right_none [] b is = sym is
right_none (x ∷ a) b is = absurd cc

and_false : (b : Bool) → (b && false) ≡ false
and_false true = refl
and_false false = refl

-- what is long has no data
pub no_data : (r : Request) → is_long r ≡ true → payload_len r ≡ 0
no_data r long = elim (cases_eq r.kind 1) [
  | inl e ↦
      let trim : (r.kind == 4) ≡ false = ne_eqb r.kind 4 (λ f. absurd (omega (arith, e, f))) in
      let zeroes : (r.kind == 6) ≡ false = ne_eqb r.kind 6 (λ f. absurd (omega (arith, e, f))) in
      let short : is_long r ≡ false = ap₂ (λ (a b : Bool). nat_lt 1048576 r.len && (a || b)) trim zeroes ∙ and_false (nat_lt 1048576 r.len) in
      absurd (true≢false (sym long ∙ short))
  | inr ne ↦ ap (λ (b : Bool). if b then r.len else 0) (ne_eqb r.kind 1 ne)
]

-- nor does it ask where there is data
pub no_status_long : (r : Request) → is_long r ≡ true → (r.kind == 7) ≡ false
no_status_long r long = elim (cases_eq r.kind 7) [
  | inl e ↦
      let trim : (r.kind == 4) ≡ false = ne_eqb r.kind 4 (λ f. absurd (omega (arith, e, f))) in
      let zeroes : (r.kind == 6) ≡ false = ne_eqb r.kind 6 (λ f. absurd (omega (arith, e, f))) in
      let short : is_long r ≡ false = ap₂ (λ (a b : Bool). nat_lt 1048576 r.len && (a || b)) trim zeroes ∙ and_false (nat_lt 1048576 r.len) in
      absurd (true≢false (sym long ∙ short))
  | inr ne ↦ ne_eqb r.kind 7 ne
]

abbrev first_event : Incoming → List Incoming → Incoming
first_event d [] = d
first_event d (x ∷ xs) = x

second : (b : Bool) (P Q : Type 0) → b ≡ false → MatchBool b P Q → Q
second false P Q e h = h
second true P Q e h = absurd cc

none_behind : (a b : List ℕ) → a ++ b ≡ a → b ≡ []
none_behind a [] is = refl
none_behind a (y ∷ b) is = let l : length (a ++ y ∷ b) ≡ length a = ap length is in let m : length (a ++ y ∷ b) ≡ length a + suc (length b) = length-append a (y ∷ b) in absurd (omega (arith, l, m))

module _ {S : Type 0} (outline : S → Outline) (Calls : S → Call → calls.Answer → S → Type 0) (n id size : ℕ) (manner : Manner) where
  abbrev Left : Request → Phase
  Left r = Transmission id size (Works manner r)

  abbrev Free : Phase
  Free = Transmission id size (Listens manner)

  -- a part was made: the request is answered, or the next one is left
  after_part : (r rest : Request) (last : Bool) (answer : calls.Answer) (sent : List ℕ) (next : Phase) → IsMade id size manner r rest last answer sent next → (next ≡ Free) ⊎ (next ≡ Left rest)
  after_part r rest true calls.Done sent next made = inl made.1
  after_part r rest false calls.Done sent next made = inr made.1
  after_part r rest last (calls.Gave sectors) sent next made = inl made.1
  after_part r rest last (calls.Line bytes) sent next made = inl made.1
  after_part r rest last (calls.Found least) sent next made = inl made.1
  after_part r rest last (calls.Sized blocks) sent next made = inl made.1
  after_part r rest last (calls.Listed slots) sent next made = inl made.1
  after_part r rest last (calls.Refused reason) sent next made = inl made.1

  -- a session without parts takes no turn without text
  no_more : (at : Sessions) (hs : List (Happened S)) → is_at_work (at n).phase ≡ false → TakesText at n [] hs → hs ≡ []
  no_more at [] idle takes = refl
  no_more at (h ∷ hs) idle (piece, rest, sent, ended, goes, turn, inl some, cut, more) = let none : length piece ≡ 0 = ap length (left_none piece rest cut) in absurd (omega (arith, none, some))
  no_more at (h ∷ hs) idle (piece, rest, sent, ended, goes, turn, inr work, cut, more) = absurd (true≢false (sym work ∙ idle))

  step_of : (at at' : Sessions) (p p' : S) (turn : Turn) (piece : List ℕ) (taken : ℕ) (sent : List ℕ) (ended : Bool) → turn ≡ turns.Hears n piece taken sent ended → TakesTurn outline Calls at p turn at' p' → Steps outline Calls (at n) p piece taken sent ended (at' n) p'
  step_of at at' p p' turn piece taken sent ended is takes = (subst (λ (t : Turn). TakesTurn outline Calls at p t at' p') is takes).0

  pub parts_made : (at : Sessions) (p : S) (hs : List (Happened S)) (r : Request) → at n ≡ state (Left r) [] → TakesText at n [] hs → AreTurns outline Calls at p hs → IsIdle (sessions_after at hs) n → AreParts outline Calls n id size manner r p hs
  parts_made at p [] r here takes are idle = let work : is_at_work (at n).phase ≡ true = ap (λ (s : State). is_at_work s.phase) here in absurd (true≢false (sym work ∙ idle))
  parts_made at p (h ∷ hs) r here (piece, rest, sent, ended, goes, turn, moves, cut, more) (takes, are) idle =
      let no_piece : piece ≡ [] = left_none piece rest cut in
      let no_rest : rest ≡ [] = right_none piece rest cut in
      let turn_is : h.turn ≡ turns.Hears n [] 0 sent ended = turn ∙ ap (λ (t : List ℕ). turns.Hears n t (length t) sent ended) no_piece in
      let step : GoesOn outline Calls id size manner r (state (Left r) []) p 0 sent ended (h.sessions n) h.pool =
      subst (λ (s : State). Steps outline Calls s p [] 0 sent ended (h.sessions n) h.pool) here (step_of at h.sessions p h.pool h.turn [] 0 sent ended turn_is takes) in
      let next = subst (λ (t : List ℕ). TakesText h.sessions n t hs) no_rest more in
      let rest_is : Request = rest_of (outline p).geometry r in
      elim (after_part r rest_is (is_last (outline p).geometry r) step.part.answer sent (h.sessions n).phase step.part.is_made) [
        | inl free ↦
            let over : ended ≡ false = step.ended_is ∙ ap has_ended free in (
              sent,
              turn_is ∙ ap (turns.Hears n [] 0 sent) over,
              step.part,
              inl (no_more h.sessions hs (ap is_at_work free) next, free),
            )
        | inr left ↦
            let over : ended ≡ false = step.ended_is ∙ ap has_ended left in (
              sent,
              turn_is ∙ ap (turns.Hears n [] 0 sent) over,
              step.part,
              inr (left, parts_made h.sessions h.pool hs rest_is (state_is (h.sessions n) (Left rest_is) [] left step.held_is) next are idle),
            )
      ]

  -- ---- the frame

  module _ (r : Request) (long : is_long r ≡ true) (good : long_error size (form_of r) ≡ None) (fits : FitsRequest r) (bare : payload_len r ≡ 0) (extended : manner.is_extended ≡ true) where
    abbrev frame : List ℕ
    frame = request_text REQUEST_MAGIC r []

    frame_is : IsFrame kinds.Requests (command r []) frame
    frame_is = record { request_fits = fits; whole = sym bare; short = omega (arith, bare); text_is = refl }

    verdict_is : verdict_in manner size r ≡ verdicts.Long
    verdict_is =
        ap (λ (b : Bool). if b then option_map_or verdicts.Refuse (status_error size r) verdicts.Status else if manner.is_extended && is_long r then option_map_or verdicts.Refuse (long_error size (form_of r)) verdicts.Long else verdict_on size (plainly manner r)) (status_other manner r (no_status_long r long))
        ∙ (ap₂ (λ (a b : Bool). if a && b then option_map_or verdicts.Refuse (long_error size (form_of r)) verdicts.Long else verdict_on size (plainly manner r)) extended long ∙ ap (λ (o : Option NbdError). option_map_or verdicts.Refuse o verdicts.Long) good)

    -- what the frame leaves
    abbrev Taken : S → List ℕ → Phase → S → Type 0
    Taken p sent next p' = (sent ≡ []) × (next ≡ Left r) × (p' ≡ p)

    begun : (p p' : S) (sent : List ℕ) (next : Phase) (m : Message) → m ≡ command r [] → Answers outline Calls Free m p sent next p' → Taken p sent next p'
    begun p p' sent next m is answers =
        subst (λ (v : Verdict). Serves outline Calls v id size manner r [] p sent next p') verdict_is (subst (λ (x : Message). Answers outline Calls Free x p sent next p') is answers)

    pub made_whole : (at : Sessions) (p : S) (hs : List (Happened S)) (held text dropped : List ℕ) → at n ≡ state Free held → held ++ (text ++ dropped) ≡ frame → IsPartial kinds.Requests held → TakesText at n text hs
        → AreTurns outline Calls at p hs → (dropped ≡ []) ⊎ (has_ended (sessions_after at hs n).phase ≡ true) → IsIdle (sessions_after at hs) n → IsMadeWhole outline Calls n id size manner r p hs
    made_whole at p [] held text dropped here cut part takes are (inr over) idle = let goes : has_ended (at n).phase ≡ false = ap (λ (s : State). has_ended s.phase) here in absurd (true≢false (sym over ∙ goes))
    made_whole at p [] held text dropped here cut part takes are (inl none) idle =
        let all : held ≡ frame = sym (append-nil held) ∙ (ap (λ (t : List ℕ). held ++ t) (sym (ap (λ (t : List ℕ). t ++ dropped) takes ∙ none)) ∙ cut) in
        absurd (part (command r []) frame [] frame_is (all ∙ sym (append-nil frame)))
    made_whole at p (h ∷ hs) held text dropped here cut part (piece, rest, sent, ended, goes, turn, moves, text_is, more) (takes, are) all idle =
        let joined : (held ++ piece) ++ (rest ++ dropped) ≡ frame =
        append_assoc held piece (rest ++ dropped) ∙ (ap (λ (t : List ℕ). held ++ t) (sym (append_assoc piece rest dropped)) ∙ (ap (λ (t : List ℕ). held ++ (t ++ dropped)) (sym text_is) ∙ cut)) in
        let step : Waits outline Calls kinds.Requests (state Free held) p piece (length piece) sent ended (h.sessions n) h.pool ⊎ TakesFrame outline Calls kinds.Requests (state Free held) p piece (length piece) sent ended (h.sessions n) h.pool =
        subst (λ (s : State). Steps outline Calls s p piece (length piece) sent ended (h.sessions n) h.pool) here (step_of at h.sessions p h.pool h.turn piece (length piece) sent ended turn takes) in
        elim step [
          | inl waits ↦
              let next : h.sessions n ≡ state Free (held ++ piece) = state_is (h.sessions n) Free (held ++ piece) waits.phase_is waits.held_is in
              let x = made_whole h.sessions h.pool hs (held ++ piece) rest dropped next joined waits.partial more are all idle in
              let still : answers_in (h ∷ []) ≡ [] = ap (λ (t : Turn). answers_of t ++ []) turn ∙ ap₂ (λ (t : List ℕ) (b : Bool). (said n t ++ closed_if n b) ++ []) waits.sent_is waits.ended_is in
              record {
                heard = h ∷ x.heard;
                parts = x.parts;
                turns_are = ap (λ (l : List (Happened S)). h ∷ l) x.turns_are;
                silent = silence h x.heard still x.silent;
                quiet = x.quiet ∙ waits.pool_is;
                made = subst (λ (q : S). AreParts outline Calls n id size manner r q x.parts) waits.pool_is x.made;
              }
          | inr takes_frame ↦
              let there : IsFrame kinds.Requests takes_frame.message (held ++ piece) = subst (λ (t : List ℕ). IsFrame kinds.Requests takes_frame.message (held ++ t)) (all_taken piece) takes_frame.frame in
              let same = one_frame kinds.Requests takes_frame.message (command r []) (held ++ piece) frame (rest ++ dropped) [] there frame_is (joined ∙ sym (append-nil frame)) in
              let none : rest ++ dropped ≡ [] = none_behind (held ++ piece) (rest ++ dropped) (joined ∙ sym same.0) in
              let did = begun p h.pool sent (h.sessions n).phase takes_frame.message same.1 takes_frame.answer in
              let over : ended ≡ false = takes_frame.ended_is ∙ ap has_ended did.1 in
              let next : h.sessions n ≡ state (Left r) [] = state_is (h.sessions n) (Left r) [] did.1 takes_frame.held_is in
              let still : answers_in (h ∷ []) ≡ [] = ap (λ (t : Turn). answers_of t ++ []) turn ∙ ap₂ (λ (t : List ℕ) (b : Bool). (said n t ++ closed_if n b) ++ []) did.0 over in
              record {
                heard = h ∷ [];
                parts = hs;
                turns_are = refl;
                silent = still;
                quiet = did.2;
                made = subst (λ (q : S). AreParts outline Calls n id size manner r q hs) did.2 (parts_made h.sessions h.pool hs r next (subst (λ (t : List ℕ). TakesText h.sessions n t hs) (left_none rest dropped (sym none)) more) are idle);
              }
        ]
      where
        silence : (h : Happened S) (hs : List (Happened S)) → answers_in (h ∷ []) ≡ [] → answers_in hs ≡ [] → answers_in (h ∷ hs) ≡ []
        silence h hs one more = ap (λ (l : List Answer). l ++ answers_in hs) (sym (append-nil _) ∙ one) ∙ more

    none_held : IsPartial kinds.Requests []
    none_held =
        let lt : 0 < 28 = omega arith in
        let w : wanted kinds.Requests [] ≡ 28 = wanted_fixed kinds.Requests [] lt in
        let some : 0 < wanted kinds.Requests [] = omega (arith, w) in
        wants_more kinds.Requests [] some

    -- in a run
    pub run_is_whole : (at after : Sessions) (p new : S) (before out : Told) → at n ≡ state Free [] → (run : Runs outline Calls at p (Brings n frame ∷ []) before out after new) → IsIdle after n → IsMadeWhole outline Calls n id size manner r p (turns_in run.served)
    run_is_whole at after p new before out here run idle = by_served run.served run.are run.events_are run.sessions_are
      where
        by_served : (xs : List (Served S)) → AreServed outline Calls at p xs → events_in xs ≡ Brings n frame ∷ [] → sessions_after at (turns_in xs) ≡ after → IsMadeWhole outline Calls n id size manner r p (turns_in xs)
        by_served [] are is ends = absurd cc
        by_served (x ∷ y ∷ ys) are is ends = let l : suc (suc (length (events_in ys))) ≡ 1 = ap length is in absurd (omega (arith, l))
        by_served (x ∷ []) are is ends =
            let event : x.event ≡ Brings n frame = ap (first_event x.event) is in
            let goes : has_ended (at n).phase ≡ false = ap (λ (s : State). has_ended s.phase) here in
            let free : is_busy (at n).phase frame ≡ false = ap (λ (s : State). is_busy s.phase frame) here ∙ idle_is_free Free frame refl in
            let answered : IsAnswered (unit_of (outline p).geometry) at (Brings n frame) x.turns x.answers = subst (λ (e : Incoming). IsAnswered (unit_of (outline p).geometry) at e x.turns x.answers) event are.0 in
            let heard = second (is_busy (at n).phase frame) _ _ free (second (has_ended (at n).phase) _ _ goes answered) in
            let takes = heard.0 in
            let end : sessions_after at x.turns ≡ after = ap (sessions_after at) (sym (append-nil x.turns)) ∙ ends in
            let over : (takes.dropped ≡ []) ⊎ (has_ended (sessions_after at x.turns n).phase ≡ true) = takes.all in
            subst (λ (l : List (Happened S)). IsMadeWhole outline Calls n id size manner r p l) (sym (append-nil x.turns))
            (made_whole at p x.turns [] takes.text takes.dropped here (sym takes.cut) none_held takes.takes are.1 over (ap (λ (s : Sessions). is_at_work (s n).phase) end ∙ idle))
