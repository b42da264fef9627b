-- One event of the pool: a message, a flush, a status line, or a page of a listing.
use Rattle.std.proofs.Common.{◌≡◌, ℕ, suc, ◌≤◌, Bool, true, false, List, [], ◌∷◌, refl, sym, ap, subst, ◌∙◌, arith}
use Rattle.std.specs.Prelude.{◌<◌, Err, MatchBool, MatchOption, MatchResult, None, Ok, Option, Result, Some, nat_lt}
use Rattle.std.proofs.lemmas.Bool.{le-ltb, lt-ltb}
use Rattle.std.proofs.Math.Nat.{lt_of_not-le}
use Rattle.std.specs.Ordering.{nat_cmp}
use Rattle.std.specs.FinMap.{FinMap}
use Rattle.tp_model.specs.declared.refusal.Refusal.{Refusal}
use Rattle.tp_model.specs.declared.refusal.Refusal.TheVariants.{BadDeviceId}
use Rattle.tp_model.specs.Calls.{Call, holds_after}
use Rattle.tp_model.specs.Calls as calls
use Rattle.tp_model.specs.Clauses.{PoolCall, View}
use Rattle.tp_msg.specs.declared.message.Message.{Message}
use Rattle.tp_msg.specs.Messages.{reading}
use Rattle.tp_msg.proofs.Asking.{message_holds}
use Rattle.tp_pages.specs.Texts.{size_text}
use Rattle.tp_pages.specs.Pages.{AreMade, AsksBoth, AsksDelta, AsksMap, AsksSize, BehindSize, BehindWalk, IsPaged, Question, Sizes, Walks, unit_of}
use Rattle.nbd_session.specs.Turns.{AreTurns, Asks, Happened, Sessions, TakesTurn, pool_after, sessions_after}
use Rattle.tp_hub.specs.Told.{Answer, Grows, KeepsRoom, Lines, Refuses, Told}
use Rattle.tp_msg.specs.Asked.{call_of}
use Rattle.tp_hub.specs.Runs.{AreQuestions, AsksDeltaOf, AsksFlush, AsksLine, AsksLineOf, AsksMapOf, AsksSizeOf, Incoming, IsAnswered, IsCalled, IsPageTold, IsPart, IsRefused, IsShort, Orders, Runs, TellsDone, TellsLine, delta_fault, front_of, map_fault, size_fault, told_page}
use Rattle.tp_hub.specs.Places.{IsMade, IsPageMade, PoolTakes, TakesEvent}
use Rattle.tp_hub.specs.Serving.{Serves, Slots, sessions_of}
use Rattle.tp_hub.proofs.Placing.{serves_kept}
use Rattle.tp_hub.proofs.Turning.{grows_behind}
use Rattle.tp_hub.proofs.Taking.{runs_none, runs_one}

pub at_least : (n most : ℕ) → (n < most → ⊥) → most ≤ n
at_least n most never = let more : most < suc n = lt_of_not-le never in omega (arith, more)

-- ---- the calls for a page change nothing of who holds what

abbrev AreStill : List Question → Type 0
AreStill [] = Unit {0}
AreStill (q ∷ qs) = ((h : FinMap nat_cmp ℕ) → holds_after h q.call q.answer ≡ h) × AreStill qs

abbrev IsStill : {A : Type 0} → (A → List Question → Result (List ℕ) Refusal → Type 0) → Type 0
IsStill {A} Then = (x : A) (qs : List Question) (said : Result (List ℕ) Refusal) → Then x qs said → AreStill qs

still_behind : (Then : List (ℕ × ℕ) → List Question → Result (List ℕ) Refusal → Type 0) → IsStill Then → (answer : calls.Answer) (qs : List Question) (said : Result (List ℕ) Refusal) → BehindWalk Then answer qs said → AreStill qs
still_behind Then still (calls.Listed slots) qs said h = still slots qs said h
still_behind Then still (calls.Refused reason) qs said h = subst AreStill (sym h.0) tt
still_behind Then still calls.Done qs said h = absurd h
still_behind Then still (calls.Gave sectors) qs said h = absurd h
still_behind Then still (calls.Line bytes) qs said h = absurd h
still_behind Then still (calls.Found id) qs said h = absurd h
still_behind Then still (calls.Sized blocks) qs said h = absurd h

still_sized : (Then : ℕ → List Question → Result (List ℕ) Refusal → Type 0) → IsStill Then → (answer : calls.Answer) (qs : List Question) (said : Result (List ℕ) Refusal) → BehindSize Then answer qs said → AreStill qs
still_sized Then still (calls.Sized blocks) qs said h = still blocks qs said h
still_sized Then still (calls.Refused reason) qs said h = subst AreStill (sym h.0) tt
still_sized Then still calls.Done qs said h = absurd h
still_sized Then still (calls.Gave sectors) qs said h = absurd h
still_sized Then still (calls.Line bytes) qs said h = absurd h
still_sized Then still (calls.Found id) qs said h = absurd h
still_sized Then still (calls.Listed slots) qs said h = absurd h

walk_holds : (call : Call) (id from : ℕ) (answer : calls.Answer) → call ≡ calls.Walk id from → (h : FinMap nat_cmp ℕ) → holds_after h call answer ≡ h
walk_holds call id from answer is h = subst (λ (k : Call). holds_after h k answer ≡ h) (sym is) refl

size_holds : (call : Call) (id : ℕ) (answer : calls.Answer) → call ≡ calls.VolumeBlocks id → (h : FinMap nat_cmp ℕ) → holds_after h call answer ≡ h
size_holds call id answer is h = subst (λ (k : Call). holds_after h k answer ≡ h) (sym is) refl

still_walk : (id from : ℕ) (Then : List (ℕ × ℕ) → List Question → Result (List ℕ) Refusal → Type 0) → IsStill Then → (qs : List Question) (said : Result (List ℕ) Refusal) → Walks id from Then qs said → AreStill qs
still_walk id from Then still [] said w = absurd w
still_walk id from Then still (q ∷ qs) said w = (walk_holds q.call id from q.answer w.0, still_behind Then still q.answer qs said w.1)

still_size : (id : ℕ) (Then : ℕ → List Question → Result (List ℕ) Refusal → Type 0) → IsStill Then → (qs : List Question) (said : Result (List ℕ) Refusal) → Sizes id Then qs said → AreStill qs
still_size id Then still [] said w = absurd w
still_size id Then still (q ∷ qs) said w = (size_holds q.call id q.answer w.0, still_sized Then still q.answer qs said w.1)

still_map : (unit id from : ℕ) (qs : List Question) (said : Result (List ℕ) Refusal) → AsksMap unit id from qs said → AreStill qs
still_map unit id from qs said asks = still_walk id from (λ slots rest last. IsPaged unit from 16777216 [] slots rest last) (λ slots rest last h. subst AreStill (sym h.2) tt) qs said asks

still_both : (unit old new from blocks : ℕ) (qs : List Question) (said : Result (List ℕ) Refusal) → AsksBoth unit old new from blocks qs said → AreStill qs
still_both unit old new from blocks qs said asks =
    still_walk old from (λ one behind told. Walks new from (λ other rest last. IsPaged unit from blocks one other rest last) behind told)
    (λ one behind told w. still_walk new from (λ other rest last. IsPaged unit from blocks one other rest last) (λ other rest last h. subst AreStill (sym h.2) tt) behind told w) qs said asks

still_delta : (unit old new from : ℕ) (qs : List Question) (said : Result (List ℕ) Refusal) → AsksDelta unit old new from qs said → AreStill qs
still_delta unit old new from qs said asks =
    still_size new (λ blocks rest last. AsksBoth unit old new from blocks rest last) (λ blocks rest last both. still_both unit old new from blocks rest last both) qs said asks

still_told : (unit id : ℕ) (qs : List Question) (said : Result (List ℕ) Refusal) → AsksSize unit id qs said → AreStill qs
still_told unit id qs said asks = still_size id (λ blocks rest last. (rest ≡ []) × (last ≡ Ok (size_text unit blocks))) (λ blocks rest last h. subst AreStill (sym h.0) tt) qs said asks

by_none : {T : Type 0} (o : Option T) (P : Type 0) (Q : T → Type 0) → None ≡ o → P → MatchOption o P Q
by_none {T} o P Q is p = subst (λ (x : Option T). MatchOption x P Q) is p

by_some : {T : Type 0} (o : Option T) (P : Type 0) (Q : T → Type 0) (x : T) → Some x ≡ o → Q x → MatchOption o P Q
by_some {T} o P Q x is q = subst (λ (y : Option T). MatchOption y P Q) is q

module _ {D : Type 0} (view : View D) where
  -- one call was made
  called : (event : Incoming) (call : Call) (answer : calls.Answer) (answers : List Answer) (p p' : D) (before after : Told) → ((at : Sessions) (h : Happened D) → h.turn ≡ Asks call answer → IsAnswered (unit_of (view.outline p).geometry) at event (h ∷ []) answers)
      → PoolCall view p call answer p' → ((h : FinMap nat_cmp ℕ) → holds_after h call answer ≡ h) → Grows before after answers → PoolTakes view event p true 0 before after p'
  called event call answer answers p p' before after answered met same grows = record {
    runs = λ at.
        let h : Happened D = record { turn = Asks call answer; sessions = at; pool = p' } in
        let turn : TakesTurn view.outline (PoolCall view) at p (Asks call answer) at p' = (met, λ i. refl) in
        runs_one view.outline (PoolCall view) at at p p' event (h ∷ []) answers before after (answered at h refl) (turn, tt) refl refl grows;
    part = λ at. refl;
    keeps = λ slots serves. serves_kept (view.outline p) (view.outline p') (view.more p) (view.more p') slots met.geometry (met.holds ∙ same (view.outline p).holds) met.more serves;
  }

  -- nothing was taken
  pub not_taken : (event : Incoming) (p : D) (before after : Told) → front_of event 0 ≡ [] → ((at : Sessions) → IsPart at event 0 × IsShort at event 0 after) → Grows before after [] → PoolTakes view event p false 0 before after p
  not_taken event p before after none part grows = record {
    runs = λ at. subst (λ (l : List Incoming). Runs view.outline (PoolCall view) at p l before after at p) (sym none) (runs_none view.outline (PoolCall view) at at p p before after refl refl grows);
    part = part;
    keeps = λ slots serves. serves;
  }

  -- a line that is no message
  pub no_message : (line : List ℕ) (reason : Refusal) (p : D) (before after : Told) → reading line ≡ Err reason → Grows before after (Refuses reason ∷ []) → PoolTakes view (Orders line) p true 0 before after p
  no_message line reason p before after is grows = record {
    runs = λ at. runs_one view.outline (PoolCall view) at at p p (Orders line) [] (Refuses reason ∷ []) before after
        (subst (λ (r : Result Message Refusal). MatchResult r (λ m. IsCalled {S = D} (call_of m) TellsDone [] (Refuses reason ∷ [])) (λ why. IsRefused {S = D} why [] (Refuses reason ∷ []))) (sym is) (refl, refl)) tt refl refl grows;
    part = λ at. refl;
    keeps = λ slots serves. serves;
  }

  ordered : (unit : ℕ) (line : List ℕ) (m : Message) (answer : calls.Answer) (answers : List Answer) (at : Sessions) (h : Happened D) → reading line ≡ Ok m → h.turn ≡ Asks (call_of m) answer → TellsDone answer answers → IsAnswered unit at (Orders line) (h ∷ []) answers
  ordered unit line m answer answers at h is turn tells =
      subst (λ (r : Result Message Refusal). MatchResult r (λ x. IsCalled (call_of x) TellsDone (h ∷ []) answers) (λ why. IsRefused why (h ∷ []) answers)) (sym is) (answer, (h, refl, turn), tells)

  pub message_so : (line : List ℕ) (m : Message) (p p' : D) (before mid after : Told) → reading line ≡ Ok m → mid.list ≡ before.list → KeepsRoom before mid → before.marks ≤ mid.marks → IsMade view TellsDone (call_of m) p mid after p' → PoolTakes view (Orders line) p true 0 before after p'
  message_so line m p p' before mid after is same room marks (answer, answers, met, tells, grows) =
      called (Orders line) (call_of m) answer answers p p' before after (λ at h turn. ordered (unit_of (view.outline p).geometry) line m answer answers at h is turn tells) met (λ h. message_holds m h answer) (grows_behind before mid after answers same room marks grows)

  pub flush_so : (p p' : D) (before mid after : Told) → mid.list ≡ before.list → KeepsRoom before mid → before.marks ≤ mid.marks → IsMade view TellsDone calls.Flush p mid after p' → PoolTakes view AsksFlush p true 0 before after p'
  flush_so p p' before mid after same room marks (answer, answers, met, tells, grows) =
      called AsksFlush calls.Flush answer answers p p' before after (λ at h turn. (answer, (h, refl, turn), tells)) met (λ h. refl) (grows_behind before mid after answers same room marks grows)

  pub line_told : (bytes : List ℕ) (p p' : D) (before after : Told) → PoolCall view p calls.Status (calls.Line bytes) p' → Grows before after (Lines bytes ∷ []) → PoolTakes view AsksLine p true 0 before after p'
  line_told bytes p p' before after met grows =
      called AsksLine calls.Status (calls.Line bytes) (Lines bytes ∷ []) p p' before after (λ at h turn. (calls.Line bytes, (h, refl, turn), refl)) met (λ h. refl) grows

  asked_volume : (unit volume : ℕ) (answer : calls.Answer) (answers : List Answer) (at : Sessions) (h : Happened D) → nat_lt volume 16777216 ≡ true → h.turn ≡ Asks (calls.ThinStatus volume) answer → TellsLine answer answers
      → IsAnswered unit at (AsksLineOf volume) (h ∷ []) answers
  asked_volume unit volume answer answers at h inside turn tells =
      subst (λ (b : Bool). MatchBool b (IsCalled (calls.ThinStatus volume) TellsLine (h ∷ []) answers) (IsRefused BadDeviceId (h ∷ []) answers)) (sym inside) (answer, (h, refl, turn), tells)

  -- a number that can be a volume's
  pub volume_so : (volume id : ℕ) (p p' : D) (before mid after : Told) → id ≡ volume → volume < 16777216 → mid.list ≡ before.list → KeepsRoom before mid → before.marks ≤ mid.marks → IsMade view TellsLine (calls.ThinStatus id) p mid after p'
      → PoolTakes view (AsksLineOf volume) p true 0 before after p'
  volume_so volume id p p' before mid after is inside same room marks (answer, answers, met, tells, grows) =
      called (AsksLineOf volume) (calls.ThinStatus volume) answer answers p p' before after (λ at h turn. asked_volume (unit_of (view.outline p).geometry) volume answer answers at h (lt-ltb volume 16777216 inside) turn tells)
      (subst (λ (n : ℕ). PoolCall view p (calls.ThinStatus n) answer p') is met) (λ h. refl)
      (grows_behind before mid after answers same room marks grows)

  -- a number that is too large
  pub no_volume : (volume : ℕ) (reason : Refusal) (p : D) (before after : Told) → 16777216 ≤ volume → reason ≡ BadDeviceId → Grows before after (Refuses reason ∷ []) → PoolTakes view (AsksLineOf volume) p true 0 before after p
  no_volume volume reason p before after outside is grows = record {
    runs = λ at. runs_one view.outline (PoolCall view) at at p p (AsksLineOf volume) [] (Refuses reason ∷ []) before after
        (subst (λ (b : Bool). MatchBool b (IsCalled {S = D} (calls.ThinStatus volume) TellsLine [] (Refuses reason ∷ [])) (IsRefused {S = D} BadDeviceId [] (Refuses reason ∷ []))) (sym (le-ltb volume 16777216 outside))
        (refl, ap (λ (r : Refusal). Refuses r ∷ []) is)) tt refl refl grows;
    part = λ at. refl;
    keeps = λ slots serves. serves;
  }

  -- ---- a page

  -- calls are turns, one after another
  asked_turns : (at : Sessions) (p p' : D) (qs : List Question) → AreMade view p qs p'
      → (hs : List (Happened D)) × AreTurns view.outline (PoolCall view) at p hs × AreQuestions hs qs × (sessions_after at hs ≡ at) × (pool_after p hs ≡ p')
  asked_turns at p p' [] same = ([], tt, tt, refl, sym same)
  asked_turns at p p' (q ∷ qs) (mid, met, more) =
      let rest = asked_turns at mid p' qs more in
      let h : Happened D = record { turn = Asks q.call q.answer; sessions = at; pool = mid } in
      let turn : TakesTurn view.outline (PoolCall view) at p (Asks q.call q.answer) at mid = (met, λ i. refl) in
      (h ∷ rest.0, (turn, rest.1), (refl, rest.2), rest.3, rest.4)

  kept : (p p' : D) (qs : List Question) → AreStill qs → AreMade view p qs p' → (slots : Slots) → Serves (view.outline p) (view.more p) slots → Serves (view.outline p') (view.more p') slots
  kept p p' [] still same slots serves = subst (λ (d : D). Serves (view.outline d) (view.more d) slots) (sym same) serves
  kept p p' (q ∷ qs) still (mid, met, more) slots serves =
      kept mid p' qs still.1 more slots (serves_kept (view.outline p) (view.outline mid) (view.more p) (view.more mid) slots met.geometry (met.holds ∙ still.0 (view.outline p).holds) met.more serves)

  page_so : (event : Incoming) (AsksFor : List Question → Result (List ℕ) Refusal → Type 0) (p p' : D) (before mid after : Told)
      → ((at : Sessions) (hs : List (Happened D)) (answers : List Answer) → IsPageTold AsksFor hs answers → IsAnswered (unit_of (view.outline p).geometry) at event hs answers)
      → ((qs : List Question) (said : Result (List ℕ) Refusal) → AsksFor qs said → AreStill qs) → mid.list ≡ before.list → KeepsRoom before mid → before.marks ≤ mid.marks → IsPageMade view AsksFor p mid after p'
      → PoolTakes view event p true 0 before after p'
  page_so event AsksFor p p' before mid after answered still same room marks (qs, said, made, asks, grows) = record {
    runs = λ at.
        let t = asked_turns at p p' qs made in
        runs_one view.outline (PoolCall view) at at p p' event t.0 (told_page said ∷ []) before after (answered at t.0 (told_page said ∷ []) (qs, said, t.2, asks, refl)) t.1 t.3 t.4
        (grows_behind before mid after (told_page said ∷ []) same room marks grows);
    part = λ at. refl;
    keeps = kept p p' qs (still qs said asks) made;
  }

  pub size_so : (volume id : ℕ) (p p' : D) (before mid after : Told) → None ≡ size_fault volume → id ≡ volume → mid.list ≡ before.list → KeepsRoom before mid → before.marks ≤ mid.marks
      → IsPageMade view (λ qs said. AsksSize (unit_of (view.outline p).geometry) id qs said) p mid after p' → PoolTakes view (AsksSizeOf volume) p true 0 before after p'
  size_so volume id p p' before mid after fine is_id same room marks made =
      let unit : ℕ = unit_of (view.outline p).geometry in
      page_so (AsksSizeOf volume) (λ qs said. AsksSize unit volume qs said) p p' before mid after (λ at hs answers page. by_none (size_fault volume) (IsPageTold (λ qs said. AsksSize unit volume qs said) hs answers) (λ reason. IsRefused reason hs answers) fine page) (still_told unit volume) same room marks
      (subst (λ (i : ℕ). IsPageMade view (λ qs said. AsksSize unit i qs said) p mid after p') is_id made)

  pub map_so : (volume id first block : ℕ) (p p' : D) (before mid after : Told) → None ≡ map_fault volume first → id ≡ volume → block ≡ first → mid.list ≡ before.list → KeepsRoom before mid → before.marks ≤ mid.marks
      → IsPageMade view (λ qs said. AsksMap (unit_of (view.outline p).geometry) id block qs said) p mid after p' → PoolTakes view (AsksMapOf volume first) p true 0 before after p'
  map_so volume id first block p p' before mid after fine is_id is_block same room marks made =
      let unit : ℕ = unit_of (view.outline p).geometry in
      page_so (AsksMapOf volume first) (λ qs said. AsksMap unit volume first qs said) p p' before mid after (λ at hs answers page. by_none (map_fault volume first) (IsPageTold (λ qs said. AsksMap unit volume first qs said) hs answers) (λ reason. IsRefused reason hs answers) fine page) (still_map unit volume first) same room marks
      (subst (λ (i : ℕ). IsPageMade view (λ qs said. AsksMap unit i first qs said) p mid after p') is_id
      (subst (λ (b : ℕ). IsPageMade view (λ qs said. AsksMap unit id b qs said) p mid after p') is_block made))

  pub delta_so : (old one new other first block : ℕ) (p p' : D) (before mid after : Told) → None ≡ delta_fault old new first → one ≡ old → other ≡ new → block ≡ first → mid.list ≡ before.list → KeepsRoom before mid
      → before.marks ≤ mid.marks → IsPageMade view (λ qs said. AsksDelta (unit_of (view.outline p).geometry) one other block qs said) p mid after p' → PoolTakes view (AsksDeltaOf old new first) p true 0 before after p'
  delta_so old one new other first block p p' before mid after fine is_one is_other is_block same room marks made =
      let unit : ℕ = unit_of (view.outline p).geometry in
      page_so (AsksDeltaOf old new first) (λ qs said. AsksDelta unit old new first qs said) p p' before mid after (λ at hs answers page. by_none (delta_fault old new first) (IsPageTold (λ qs said. AsksDelta unit old new first qs said) hs answers) (λ reason. IsRefused reason hs answers) fine page) (still_delta unit old new first) same room
      marks
      (subst (λ (i : ℕ). IsPageMade view (λ qs said. AsksDelta unit i new first qs said) p mid after p') is_one
      (subst (λ (i : ℕ). IsPageMade view (λ qs said. AsksDelta unit one i first qs said) p mid after p') is_other
      (subst (λ (b : ℕ). IsPageMade view (λ qs said. AsksDelta unit one other b qs said) p mid after p') is_block made)))

  -- numbers that are none
  refused_so : (event : Incoming) (reason : Refusal) (p : D) (before after : Told) → ((at : Sessions) → IsAnswered {S = D} (unit_of (view.outline p).geometry) at event [] (Refuses reason ∷ [])) → Grows before after (Refuses reason ∷ [])
      → PoolTakes view event p true 0 before after p
  refused_so event reason p before after answered grows = record {
    runs = λ at. runs_one view.outline (PoolCall view) at at p p event [] (Refuses reason ∷ []) before after (answered at) tt refl refl grows;
    part = λ at. refl;
    keeps = λ slots serves. serves;
  }

  pub no_size : (volume : ℕ) (reason : Refusal) (p : D) (before after : Told) → Some reason ≡ size_fault volume → Grows before after (Refuses reason ∷ []) → PoolTakes view (AsksSizeOf volume) p true 0 before after p
  no_size volume reason p before after wrong grows =
      refused_so (AsksSizeOf volume) reason p before after (λ at. by_some (size_fault volume) (IsPageTold {S = D} (λ qs said. AsksSize (unit_of (view.outline p).geometry) volume qs said) [] (Refuses reason ∷ [])) (λ why. IsRefused {S = D} why [] (Refuses reason ∷ [])) reason wrong (refl, refl)) grows

  pub no_map : (volume first : ℕ) (reason : Refusal) (p : D) (before after : Told) → Some reason ≡ map_fault volume first → Grows before after (Refuses reason ∷ []) → PoolTakes view (AsksMapOf volume first) p true 0 before after p
  no_map volume first reason p before after wrong grows =
      refused_so (AsksMapOf volume first) reason p before after (λ at. by_some (map_fault volume first) (IsPageTold {S = D} (λ qs said. AsksMap (unit_of (view.outline p).geometry) volume first qs said) [] (Refuses reason ∷ [])) (λ why. IsRefused {S = D} why [] (Refuses reason ∷ [])) reason wrong (refl, refl)) grows

  pub no_delta : (old new first : ℕ) (reason : Refusal) (p : D) (before after : Told) → Some reason ≡ delta_fault old new first → Grows before after (Refuses reason ∷ []) → PoolTakes view (AsksDeltaOf old new first) p true 0 before after p
  no_delta old new first reason p before after wrong grows =
      refused_so (AsksDeltaOf old new first) reason p before after (λ at. by_some (delta_fault old new first) (IsPageTold {S = D} (λ qs said. AsksDelta (unit_of (view.outline p).geometry) old new first qs said) [] (Refuses reason ∷ [])) (λ why. IsRefused {S = D} why [] (Refuses reason ∷ [])) reason wrong (refl, refl)) grows

  -- all sessions are as before
  pub pool_event : (event : Incoming) (slots : Slots) (p p' : D) (whole : Bool) (bytes : ℕ) (before after : Told) → Serves (view.outline p) (view.more p) slots → PoolTakes view event p whole bytes before after p' → TakesEvent view event slots p whole bytes before after slots p'
  pool_event event slots p p' whole bytes before after serves t = record { runs = t.runs (sessions_of slots); part = t.part (sessions_of slots); serves = t.keeps slots serves }
