-- A run over a pool that has a trace is a run of the traced plain pool; so are asks of a hub, and the end of all its sessions.
use Rattle.std.proofs.Common.{◌≡◌, ℕ, Bool, true, false, List, [], ◌∷◌, ◌++◌, length, ◌⊎◌, inl, inr, refl, sym, ap, subst, ◌∙◌, arith}
use Rattle.std.specs.Prelude.{Err, IfSome, MatchBool, MatchOption, MatchResult, None, Ok, Option, Result, Some, nat_lt}
use Rattle.tp_model.specs.declared.refusal.Refusal.{Refusal}
use Rattle.tp_model.specs.Pool.{Outline, PlainPool}
use Rattle.tp_model.specs.Clauses.{Continues, HasTrace, PoolCall, Traced, TracedCall, View, ViewLaws, outline_of_traced}
use Rattle.tp_model.proofs.Running as running
use Rattle.nbd_session.specs.Clauses.{GoesWithTrace}
use Rattle.nbd_session.specs.declared.phase.Profile.{Profile}
use Rattle.nbd_session.specs.Session.{has_ended}
use Rattle.nbd_session.specs.Turns.{AreSame, Happened, Sessions, Turn, pool_after, sessions_after}
use Rattle.nbd_session.proofs.Turning as turning
use Rattle.tp_model.specs.Calls.{Call, Flush, Status, ThinStatus}
use Rattle.tp_model.specs.Calls as calls
use Rattle.tp_msg.specs.Messages.{reading}
use Rattle.tp_pages.specs.Pages.{AsksDelta, AsksMap, AsksSize, Question, unit_of}
use Rattle.tp_hub.specs.declared.client.Carried.{Carried}
use Rattle.tp_hub.specs.declared.hub.Ran.{Ran}
use Rattle.tp_hub.specs.Told.{Answer, Grows, Told}
use Rattle.tp_hub.specs.Desks.{AreAsked, Exchange, IsAsked, RanSo, RunsSo}
use Rattle.tp_hub.specs.Serve.{HubRuns, IsServedBy, PlainRuns, with_pool}
use Rattle.tp_hub.specs.Serving.{AreLeaving, HubState, LeaveSo, LeaveTo, sessions_of}
use Rattle.tp_hub.specs.Streams.{StreamCall}
use Rattle.tp_msg.specs.Asked.{call_of}
use Rattle.tp_hub.specs.Runs.{AreQuestions, AreServed, AsksDeltaOf, AsksFlush, AsksLine, AsksLineOf, AsksMapOf, AsksSizeOf, Brings, Comes, Goes, Incoming, IsAnswered, IsCalled, IsOnly, IsPageTold, Orders, TellsDone, TellsLine, delta_fault, is_busy, map_fault, size_fault, Runs, Served, TakesText, answered_in, answers_in, answers_of, events_in, turns_in}

map_bool : (b : Bool) (P Q P' Q' : Type 0) → (P → P') → (Q → Q') → MatchBool b P Q → MatchBool b P' Q'
map_bool true P Q P' Q' f g h = f h
map_bool false P Q P' Q' f g h = g h

map_result : {T E : Type 0} (r : Result T E) (P P' : T → Type 0) (Q Q' : E → Type 0) → ((x : T) → P x → P' x) → ((x : E) → Q x → Q' x) → MatchResult r P Q → MatchResult r P' Q'
map_result (Ok x) P P' Q Q' f g h = f x h
map_result (Err x) P P' Q Q' f g h = g x h

map_option : {T : Type 0} (o : Option T) (P P' : Type 0) (Q Q' : T → Type 0) → (P → P') → ((x : T) → Q x → Q' x) → MatchOption o P Q → MatchOption o P' Q'
map_option None P P' Q Q' f g h = f h
map_option (Some x) P P' Q Q' f g h = g x h

abbrev first_turn : {S : Type 0} → Turn → List (Happened S) → Turn
first_turn d [] = d
first_turn d (h ∷ hs) = h.turn

module _ {D : Type 0} (view : View D) (laws : ViewLaws view) (from : D) (s : PlainPool) where
  text_same : (at : Sessions) (n : ℕ) (text : List ℕ) (d : D) (t : Traced) (hs : List (Happened D)) (ks : List (Happened Traced)) → AreSame view from s d t hs ks → TakesText at n text hs → TakesText at n text ks
  text_same at n text d t [] [] are takes = takes
  text_same at n text d t (h ∷ hs) (k ∷ ks) are (piece, rest, sent, ended, is_open, is, some, cut, more) = (
    piece,
    rest,
    sent,
    ended,
    is_open,
    are.0 ∙ is,
    some,
    cut,
    subst (λ (r : Sessions). TakesText r n rest ks) (sym are.1) (text_same h.sessions n rest h.pool k.pool hs ks are.4 more),
  )
  text_same at n text d t [] (k ∷ ks) are takes = absurd are
  text_same at n text d t (h ∷ hs) [] are takes = absurd are

  answers_same : (d : D) (t : Traced) (hs : List (Happened D)) (ks : List (Happened Traced)) → AreSame view from s d t hs ks → answers_in ks ≡ answers_in hs
  answers_same d t [] [] are = refl
  answers_same d t (h ∷ hs) (k ∷ ks) are = ap (λ (turn : Turn). answers_of turn ++ answers_in ks) are.0 ∙ ap (λ (l : List Answer). answers_of h.turn ++ l) (answers_same h.pool k.pool hs ks are.4)
  answers_same d t [] (k ∷ ks) are = absurd are
  answers_same d t (h ∷ hs) [] are = absurd are

  only_same : (d : D) (t : Traced) (hs : List (Happened D)) (ks : List (Happened Traced)) (turn : Turn) → AreSame view from s d t hs ks → IsOnly hs turn → IsOnly ks turn
  only_same d t [] ks turn are only = let e = ap length only.1 in absurd (omega (arith, e))
  only_same d t (h ∷ []) (k ∷ []) turn are only = (k, refl, are.0 ∙ (ap (first_turn turn) only.1 ∙ only.2))
  only_same d t (h ∷ []) [] turn are only = absurd are
  only_same d t (h ∷ []) (k ∷ l ∷ ks) turn are only = absurd are.4
  only_same d t (h ∷ i ∷ hs) ks turn are only = let e = ap length only.1 in absurd (omega (arith, e))

  none_same : (d : D) (t : Traced) (hs : List (Happened D)) (ks : List (Happened Traced)) → AreSame view from s d t hs ks → hs ≡ [] → ks ≡ []
  none_same d t [] [] are none = refl
  none_same d t [] (k ∷ ks) are none = absurd are
  none_same d t (h ∷ hs) ks are none = let e = ap length none in absurd (omega (arith, e))

  called_same : (d : D) (t : Traced) (hs : List (Happened D)) (ks : List (Happened Traced)) (call : Call) (Tells : calls.Answer → List Answer → Type 0) (answers : List Answer) → AreSame view from s d t hs ks → IsCalled call Tells hs answers → IsCalled call Tells ks answers
  called_same d t hs ks call Tells answers are a = (a.0, only_same d t hs ks _ are a.1, a.2)

  questions_same : (d : D) (t : Traced) (hs : List (Happened D)) (ks : List (Happened Traced)) (qs : List Question) → AreSame view from s d t hs ks → AreQuestions hs qs → AreQuestions ks qs
  questions_same d t [] [] [] are asked = tt
  questions_same d t [] [] (q ∷ qs) are asked = absurd asked
  questions_same d t (h ∷ hs) (k ∷ ks) (q ∷ qs) are asked = (are.0 ∙ asked.0, questions_same h.pool k.pool hs ks qs are.4 asked.1)
  questions_same d t (h ∷ hs) (k ∷ ks) [] are asked = absurd asked
  questions_same d t [] (k ∷ ks) qs are asked = absurd are
  questions_same d t (h ∷ hs) [] qs are asked = absurd are

  page_same : (d : D) (t : Traced) (hs : List (Happened D)) (ks : List (Happened Traced)) (AsksFor : List Question → Result (List ℕ) Refusal → Type 0) (answers : List Answer) → AreSame view from s d t hs ks → IsPageTold AsksFor hs answers → IsPageTold AsksFor ks answers
  page_same d t hs ks AsksFor answers are page = (page.0, page.1, questions_same d t hs ks page.0 are page.2, page.3, page.4)

  answered_same : (unit : ℕ) (at : Sessions) (d : D) (t : Traced) (hs : List (Happened D)) (ks : List (Happened Traced)) (event : Incoming) (answers : List Answer) → AreSame view from s d t hs ks → IsAnswered unit at event hs answers → IsAnswered unit at event ks answers
  answered_same unit at d t hs ks (Comes n profile) answers are h =
      map_bool (has_ended (at n).phase) _ _ _ _ (λ a. (a.0, only_same d t hs ks _ are a.1, a.2 ∙ sym (answers_same d t hs ks are))) (λ r. (none_same d t hs ks are r.0, r.1)) h
  answered_same unit at d t hs ks (Brings n piece) answers are h =
      map_bool (has_ended (at n).phase) _ _ _ _ (λ r. (none_same d t hs ks are r.0, r.1)) (λ b. map_bool (is_busy (at n).phase piece) _ _ _ _ (λ r. (none_same d t hs ks are r.0, r.1)) (λ a. (
        record {
          text = a.0.text;
          dropped = a.0.dropped;
          cut = a.0.cut;
          takes = text_same at n a.0.text d t hs ks are a.0.takes;
          all = subst (λ (r : Sessions). (a.0.dropped ≡ []) ⊎ (has_ended (r n).phase ≡ true)) (turning.same_sessions view laws from s at d t hs ks are) a.0.all;
        },
        a.1 ∙ sym (answers_same d t hs ks are),
      )) b) h
  answered_same unit at d t hs ks (Goes n) answers are h =
      map_bool (has_ended (at n).phase) _ _ _ _ (λ r. (none_same d t hs ks are r.0, r.1)) (λ a. (only_same d t hs ks _ are a.0, a.1 ∙ sym (answers_same d t hs ks are))) h
  answered_same unit at d t hs ks (Orders line) answers are h = map_result (reading line) _ _ _ _ (λ m a. called_same d t hs ks (call_of m) TellsDone answers are a) (λ reason r. (none_same d t hs ks are r.0, r.1)) h
  answered_same unit at d t hs ks AsksLine answers are h = called_same d t hs ks Status TellsLine answers are h
  answered_same unit at d t hs ks (AsksLineOf volume) answers are h =
      map_bool (nat_lt volume 16777216) _ _ _ _ (λ a. called_same d t hs ks (ThinStatus volume) TellsLine answers are a) (λ r. (none_same d t hs ks are r.0, r.1)) h
  answered_same unit at d t hs ks (AsksSizeOf volume) answers are h =
      map_option (size_fault volume) _ _ _ _ (λ a. page_same d t hs ks (λ qs said. AsksSize unit volume qs said) answers are a) (λ reason r. (none_same d t hs ks are r.0, r.1)) h
  answered_same unit at d t hs ks (AsksMapOf volume first) answers are h =
      map_option (map_fault volume first) _ _ _ _ (λ a. page_same d t hs ks (λ qs said. AsksMap unit volume first qs said) answers are a) (λ reason r. (none_same d t hs ks are r.0, r.1)) h
  answered_same unit at d t hs ks (AsksDeltaOf old new first) answers are h =
      map_option (delta_fault old new first) _ _ _ _ (λ a. page_same d t hs ks (λ qs said. AsksDelta unit old new first qs said) answers are a) (λ reason r. (none_same d t hs ks are r.0, r.1)) h
  answered_same unit at d t hs ks AsksFlush answers are h = called_same d t hs ks Flush TellsDone answers are h

  same_join : (d : D) (t : Traced) (hs : List (Happened D)) (ks : List (Happened Traced)) (is : List (Happened D)) (ls : List (Happened Traced)) → AreSame view from s d t hs ks → AreSame view from s (pool_after d hs) (pool_after t ks) is ls
      → AreSame view from s d t (hs ++ is) (ks ++ ls)
  same_join d t [] [] is ls are more = more
  same_join d t (h ∷ hs) (k ∷ ks) is ls are more = (are.0, are.1, are.2, are.3, same_join h.pool k.pool hs ks is ls are.4 more)
  same_join d t [] (k ∷ ks) is ls are more = absurd are
  same_join d t (h ∷ hs) [] is ls are more = absurd are

  -- what is left in turns one after another
  pub turns_continue : (d : D) (t : Traced) (hs : List (Happened D)) (ks : List (Happened Traced)) → HasTrace view from s d t → AreSame view from s d t hs ks → Continues view from s d t (pool_after d hs) (pool_after t ks)
  turns_continue d t [] [] has are = running.stays view laws from s d t has
  turns_continue d t (h ∷ hs) (k ∷ ks) has are = running.goes_on view laws from s d h.pool (pool_after h.pool hs) t k.pool (pool_after k.pool ks) are.3 (turns_continue h.pool k.pool hs ks are.2 are.4)
  turns_continue d t [] (k ∷ ks) has are = absurd are
  turns_continue d t (h ∷ hs) [] has are = absurd are

  pub leaving_same : (at : Sessions) (d : D) (t : Traced) (hs : List (Happened D)) (ks : List (Happened Traced)) → AreSame view from s d t hs ks → AreLeaving at hs → AreLeaving at ks
  leaving_same at d t [] [] are leaving = tt
  leaving_same at d t (h ∷ hs) (k ∷ ks) are leaving =
      (leaving.0, leaving.1, are.0 ∙ leaving.2, subst (λ (r : Sessions). AreLeaving r ks) (sym are.1) (leaving_same h.sessions h.pool k.pool hs ks are.4 leaving.3))
  leaving_same at d t [] (k ∷ ks) are leaving = absurd are
  leaving_same at d t (h ∷ hs) [] are leaving = absurd are

  pub served_traced : (at : Sessions) (d : D) (t : Traced) (xs : List (Served D)) → HasTrace view from s d t → AreServed view.outline (PoolCall view) at d xs
      → (ys : List (Served Traced)) × AreServed outline_of_traced (TracedCall view.has_use) at t ys × (events_in ys ≡ events_in xs) × (answered_in ys ≡ answered_in xs) × AreSame view from s d t (turns_in xs) (turns_in ys)
  served_traced at d t [] has are = ([], tt, refl, refl, tt)
  served_traced at d t (x ∷ xs) has are =
      let k = turning.turns_traced view laws from s at d t x.turns has are.1 in
      let last = turning.last_traced view laws from s d t x.turns k.0 has k.2 in
      let rest = served_traced (sessions_after at x.turns) (pool_after d x.turns) (pool_after t k.0) xs last are.2 in
      let same = turning.same_sessions view laws from s at d t x.turns k.0 k.2 in (
        record { event = x.event; turns = k.0; answers = x.answers } ∷ rest.0,
        (
          subst (λ (o : Outline). IsAnswered (unit_of o.geometry) at x.event k.0 x.answers) (sym (laws.shown d t.pool has.shown)) (answered_same (unit_of (view.outline d).geometry) at d t x.turns k.0 x.event x.answers k.2 are.0),
          k.1,
          subst (λ (r : Sessions). AreServed outline_of_traced (TracedCall view.has_use) r (pool_after t k.0) rest.0) same rest.1,
        ),
        ap (λ (l : List Incoming). x.event ∷ l) rest.2,
        ap (λ (l : List Answer). x.answers ++ l) rest.3,
        same_join d t x.turns k.0 (turns_in xs) (turns_in rest.0) k.2 rest.4,
      )

  pub runs_traced : (at after : Sessions) (d new : D) (t : Traced) (events : List Incoming) (before out : Told) → HasTrace view from s d t → (run : Runs view.outline (PoolCall view) at d events before out after new)
      → (t' : Traced) × (plainly : Runs outline_of_traced (TracedCall view.has_use) at t events before out after t') × HasTrace view from s new t' × AreSame view from s d t (turns_in run.served) (turns_in plainly.served)
  runs_traced at after d new t events before out has run =
      let k = served_traced at d t run.served has run.are in
      let same = turning.same_sessions view laws from s at d t (turns_in run.served) (turns_in k.0) k.4 in (
        pool_after t (turns_in k.0),
        record {
          served = k.0;
          are = k.1;
          events_are = k.2 ∙ run.events_are;
          sessions_are = sym same ∙ run.sessions_are;
          pool_is = refl;
          adds = subst (Grows before out) (sym k.3) run.adds;
        },
        subst (λ (p : D). HasTrace view from s p (pool_after t (turns_in k.0))) run.pool_is (turning.last_traced view laws from s d t (turns_in run.served) (turns_in k.0) has k.4),
        k.4,
      )

module _ {D : Type 0} (view : View D) (laws : ViewLaws view) where
  -- nothing was done
  pub still_goes : (pool after : D) → after ≡ pool → GoesWithTrace view pool after (λ t t'. t' ≡ t)
  still_goes pool after is from s t has =
      (t, refl, subst (λ (p : D). HasTrace view from s p t) (sym is) has, subst (λ (p : D). Continues view from s pool t p t) (sym is) (running.stays view laws from s pool t has))

  -- one after another
  pub goes_join : (a b c : D) (First Second Both : Traced → Traced → Type 0) → ((t u w : Traced) → First t u → Second u w → Both t w) → GoesWithTrace view a b First → GoesWithTrace view b c Second → GoesWithTrace view a c Both
  goes_join a b c First Second Both join one two from s t has =
      let x = one from s t has in
      let y = two from s x.0 x.2 in
      (y.0, join t x.0 y.0 x.1 y.1, y.2, running.goes_on view laws from s a b c t x.0 y.0 x.3 y.3)

  pub goes_so : (a b : D) (Likewise Also : Traced → Traced → Type 0) → ((t u : Traced) → Likewise t u → Also t u) → GoesWithTrace view a b Likewise → GoesWithTrace view a b Also
  goes_so a b Likewise Also so goes from s t has = let x = goes from s t has in (x.0, so t x.0 x.1, x.2, x.3)

  -- ---- runs

  pub run_goes : (at after : Sessions) (pool new : D) (events : List Incoming) (before out : Told) → Runs view.outline (PoolCall view) at pool events before out after new
      → GoesWithTrace view pool new (λ t t'. Runs outline_of_traced (TracedCall view.has_use) at t events before out after t')
  run_goes at after pool new events before out run from s t has =
      let x = runs_traced view laws from s at after pool new t events before out has run in
      let goes = turns_continue view laws from s pool t (turns_in run.served) (turns_in x.1.served) has x.3 in
      (x.0, x.1, x.2, subst (λ (p : D). Continues view from s pool t p x.0) run.pool_is (subst (λ (u : Traced). Continues view from s pool t (pool_after pool (turns_in run.served)) u) x.1.pool_is goes))

  pub ran_goes : (at after : Sessions) (pool new : D) (took : List Incoming) (answers : List Answer) → RunsSo view at pool took answers after new
      → GoesWithTrace view pool new (λ t t'. RanSo outline_of_traced (TracedCall view.has_use) at t took answers after t')
  ran_goes at after pool new took answers ran =
      goes_so pool new _ (λ t t'. RanSo outline_of_traced (TracedCall view.has_use) at t took answers after t') (λ t t' run. (ran.0, ran.1, run, ran.3)) (run_goes at after pool new took ran.0 ran.1 ran.2)

  pub asked_goes : (at after : Sessions) (pool new : D) (event : Incoming) (events bytes : ℕ) (before out : Told) → IsAsked (λ took answers. RunsSo view at pool took answers after new) event events bytes before out
      → GoesWithTrace view pool new (λ t t'. IsAsked (λ took answers. RanSo outline_of_traced (TracedCall view.has_use) at t took answers after t') event events bytes before out)
  asked_goes at after pool new event events bytes before out a =
      goes_so pool new _ (λ t t'. IsAsked (λ took answers. RanSo outline_of_traced (TracedCall view.has_use) at t took answers after t') event events bytes before out)
      (λ t t' ran. record { answers = a.answers; did = ran; adds = a.adds; cut = a.cut; silent = a.silent; begun = a.begun }) (ran_goes at after pool new _ a.answers a.did)

  -- READs that were answered while others looked
  pub shared_goes : (o : Option Ran) (h : HubState D) (event : Incoming) (before out : Told) → IfSome o (λ r. IsAsked (λ took answers. RunsSo view (sessions_of h.slots) h.pool took answers (sessions_of h.slots) h.pool) event r.events r.bytes before out)
      → IfSome o (λ r. GoesWithTrace view h.pool h.pool (λ t t'. IsAsked (λ took answers. RanSo outline_of_traced (TracedCall view.has_use) (sessions_of h.slots) t took answers (sessions_of h.slots) t') event r.events r.bytes before out))
  shared_goes None h event before out asked = tt
  shared_goes (Some r) h event before out asked = asked_goes (sessions_of h.slots) (sessions_of h.slots) h.pool h.pool event r.events r.bytes before out asked

  -- ---- asks of a hub

  pub asks_go : (a b : HubState D) (xs : List Exchange) → AreAsked (HubRuns view) a xs b → GoesWithTrace view a.pool b.pool (λ t t'. AreAsked (PlainRuns view) (with_pool a t) xs (with_pool b t'))
  asks_go a b [] asked =
      goes_so a.pool b.pool _ (λ t t'. AreAsked (PlainRuns view) (with_pool a t) [] (with_pool b t'))
      (λ t t' is. ap (λ (u : Traced). with_pool b u) is ∙ ap (λ (h : HubState D). with_pool h t) asked) (still_goes a.pool b.pool (ap (λ (h : HubState D). h.pool) asked))
  asks_go a b (x ∷ xs) asked =
      let mid = asked.0 in
      goes_join a.pool mid.pool b.pool (λ t u. PlainRuns view (with_pool a t) x.took x.answers (with_pool mid u)) (λ u w. AreAsked (PlainRuns view) (with_pool mid u) xs (with_pool b w)) (λ t w. AreAsked (PlainRuns view) (with_pool a t) (x ∷ xs) (with_pool b w))
      (λ t u w one rest. (with_pool mid u, one, rest)) (ran_goes (sessions_of a.slots) (sessions_of mid.slots) a.pool mid.pool x.took x.answers asked.1) (asks_go mid b xs asked.2)

  -- one client
  pub serving_goes : (profile : Profile) (old new : HubState D) (calls calls' : List StreamCall) (out : Told) (ending : Carried) → IsServedBy (HubRuns view) profile old new calls calls' out ending
      → GoesWithTrace view old.pool new.pool (λ t t'. IsServedBy (PlainRuns view) profile (with_pool old t) (with_pool new t') calls calls' out ending)
  serving_goes profile old new calls calls' out ending (inl h) =
      goes_so old.pool new.pool _ (λ t t'. IsServedBy (PlainRuns view) profile (with_pool old t) (with_pool new t') calls calls' out ending)
      (λ t t' is. inl (h.0, is, h.2, h.3)) (asks_go old new [] h.1)
  serving_goes profile old new calls calls' out ending (inr h) =
      goes_so old.pool new.pool _ (λ t t'. IsServedBy (PlainRuns view) profile (with_pool old t) (with_pool new t') calls calls' out ending)
      (λ t t' asked. inr (h.0, h.1, (h.2.0, asked, h.2.2))) (asks_go old new h.2.0 h.2.1)

  -- ---- the end of all

  pub leave_goes : (at after : Sessions) (pool new : D) → LeaveTo view at pool after new → GoesWithTrace view pool new (λ t t'. LeaveSo outline_of_traced (TracedCall view.has_use) at t after t')
  leave_goes at after pool new left from s t has =
      let ks = turning.turns_traced view laws from s at pool t left.turns has left.are in
      let end = pool_after t ks.0 in (
        end,
        record {
          turns = ks.0;
          are = ks.1;
          leaving = leaving_same view laws from s at pool t left.turns ks.0 ks.2 left.leaving;
          sessions_are = sym (turning.same_sessions view laws from s at pool t left.turns ks.0 ks.2) ∙ left.sessions_are;
          pool_is = refl;
        },
        subst (λ (p : D). HasTrace view from s p end) left.pool_is (turning.last_traced view laws from s pool t left.turns ks.0 has ks.2),
        subst (λ (p : D). Continues view from s pool t p end) left.pool_is (turns_continue view laws from s pool t left.turns ks.0 has ks.2),
      )

  -- ---- of what a hub shows

  pub hub_run_goes : (h now : HubState D) (after : Sessions) (new : D) (events : List Incoming) (before out : Told) → h ≡ now → Runs view.outline (PoolCall view) (sessions_of h.slots) h.pool events before out after new
      → GoesWithTrace view now.pool new (λ t t'. Runs outline_of_traced (TracedCall view.has_use) (sessions_of now.slots) t events before out after t')
  hub_run_goes h now after new events before out is run =
      run_goes (sessions_of now.slots) after now.pool new events before out (subst (λ (k : HubState D). Runs view.outline (PoolCall view) (sessions_of k.slots) k.pool events before out after new) is run)

  pub hub_leave_goes : (h now : HubState D) (after : Sessions) (new : D) → h ≡ now → LeaveTo view (sessions_of h.slots) h.pool after new → GoesWithTrace view now.pool new (λ t t'. LeaveSo outline_of_traced (TracedCall view.has_use) (sessions_of now.slots) t after t')
  hub_leave_goes h now after new is left = leave_goes (sessions_of now.slots) after now.pool new (subst (λ (k : HubState D). LeaveTo view (sessions_of k.slots) k.pool after new) is left)
