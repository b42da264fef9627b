-- One event asked of a hub, and asks of what stands on one.
use Rattle.std.proofs.Common.{◌≡◌, ℕ, zero, suc, ◌<◌, ◌≤◌, Bool, true, false, List, [], ◌∷◌, ◌++◌, length, inl, inr, refl, sym, ap, subst, ◌∙◌, arith, append-nil}
use Rattle.tp_model.specs.Clauses.{PoolCall, View}
use Rattle.nbd_session.specs.Turns.{Sessions}
use Rattle.tp_hub.specs.Told.{Answer, HasRoom, IsFull, KeepsRoom, Told, all_sent}
use Rattle.tp_hub.specs.Runs.{AsksDeltaOf, AsksFlush, AsksLine, AsksLineOf, AsksMapOf, AsksSizeOf, Brings, Comes, Goes, Incoming, Orders, IsPartOfNext, IsShortOfNext, Runs, Served, answered_in, events_in, taken_of}
use Rattle.std.specs.Prelude.{drop}
use Rattle.tp_hub.specs.Desks.{AreAsked, Exchange, IsAsked, IsBegun, IsCut, RunsSo}
use Rattle.tp_hub.specs.Places.{TakesEvent, one_if}
use Rattle.tp_hub.specs.Serving.{HubState, Slots, sessions_of}

none_served : {S : Type 0} (xs : List (Served S)) → events_in xs ≡ [] → answered_in xs ≡ []
none_served [] e = refl
none_served (x ∷ xs) e = let l = ap length e in absurd (omega (arith, l))

nothing_taken : (event : Incoming) (events bytes : ℕ) → events ≡ 0 → bytes ≡ 0 → taken_of (event ∷ []) events bytes ≡ []
nothing_taken (Comes n a) zero zero e b = refl
nothing_taken (Brings n piece) zero zero e b = refl
nothing_taken (Goes n) zero zero e b = refl
nothing_taken (Orders line) zero zero e b = refl
nothing_taken AsksLine zero zero e b = refl
nothing_taken (AsksLineOf volume) zero zero e b = refl
nothing_taken (AsksSizeOf volume) zero zero e b = refl
nothing_taken (AsksMapOf volume from) zero zero e b = refl
nothing_taken (AsksDeltaOf old new from) zero zero e b = refl
nothing_taken AsksFlush zero zero e b = refl
nothing_taken event (suc k) bytes e b = absurd (omega (arith, e))
nothing_taken event zero (suc k) e b = absurd (omega (arith, b))

cut_is : (at : Sessions) (event : Incoming) (events bytes : ℕ) → events ≤ 1 → IsPartOfNext at (drop events (event ∷ [])) bytes → IsCut event events bytes
cut_is at (Comes n a) zero bytes le part = part
cut_is at (Goes n) zero bytes le part = part
cut_is at (Orders line) zero bytes le part = part
cut_is at AsksLine zero bytes le part = part
cut_is at (AsksLineOf volume) zero bytes le part = part
cut_is at (AsksSizeOf volume) zero bytes le part = part
cut_is at (AsksMapOf volume from) zero bytes le part = part
cut_is at (AsksDeltaOf old new from) zero bytes le part = part
cut_is at AsksFlush zero bytes le part = part
cut_is at (Brings n piece) zero bytes le (inl none) = inl none
cut_is at (Brings n piece) zero bytes le (inr some) = inr some.0
cut_is at event (suc zero) bytes le part = (refl, part)
cut_is at event (suc (suc k)) bytes le part = absurd (omega (arith, le))

-- where nothing was added there is still room
has_still : (before after : Told) → after.list ≡ before.list → KeepsRoom before after → before.marks ≤ after.marks → HasRoom before → IsFull after → ⊥
has_still before after same room marks has (inl few) =
    let bytes : length (all_sent after.list) ≡ length (all_sent before.list) = ap (λ l. length (all_sent l)) same in
    absurd (omega (arith, bytes, room.room, has.bytes, few))
has_still before after same room marks has (inr few) =
    let places : length after.list ≡ length before.list = ap length same in
    absurd (omega (arith, places, marks, has.marks, few))

-- where there is room something is taken
begun_is : (at : Sessions) (event : Incoming) (events bytes : ℕ) (before after : Told) → events ≤ 1 → IsShortOfNext at (drop events (event ∷ [])) bytes after → (events ≡ 0 → bytes ≡ 0 → after.list ≡ before.list) → IsCut event events bytes
    → KeepsRoom before after → before.marks ≤ after.marks → HasRoom before → IsBegun event events bytes
begun_is at (Comes n a) events bytes before after le short same cut room marks has = tt
begun_is at (Brings n piece) zero zero before after le (inl full) same cut room marks has = absurd (has_still before after (same refl refl) room marks has full)
begun_is at (Brings n piece) zero zero before after le (inr work) same cut room marks has = let some = work.0 in absurd (omega (arith, some))
begun_is at (Brings n piece) zero (suc k) before after le short same cut room marks has = omega arith
begun_is at (Brings n piece) (suc k) bytes before after le short same cut room marks has = omega arith
begun_is at (Goes n) zero bytes before after le short same cut room marks has = absurd (has_still before after (same refl cut) room marks has short)
begun_is at (Goes n) (suc k) bytes before after le short same cut room marks has = omega arith
begun_is at (Orders line) zero bytes before after le short same cut room marks has = absurd (has_still before after (same refl cut) room marks has short)
begun_is at (Orders line) (suc k) bytes before after le short same cut room marks has = omega arith
begun_is at AsksLine zero bytes before after le short same cut room marks has = absurd (has_still before after (same refl cut) room marks has short)
begun_is at AsksLine (suc k) bytes before after le short same cut room marks has = omega arith
begun_is at (AsksLineOf volume) zero bytes before after le short same cut room marks has = absurd (has_still before after (same refl cut) room marks has short)
begun_is at (AsksLineOf volume) (suc k) bytes before after le short same cut room marks has = omega arith
begun_is at (AsksSizeOf volume) zero bytes before after le short same cut room marks has = absurd (has_still before after (same refl cut) room marks has short)
begun_is at (AsksSizeOf volume) (suc k) bytes before after le short same cut room marks has = omega arith
begun_is at (AsksMapOf volume from) zero bytes before after le short same cut room marks has = absurd (has_still before after (same refl cut) room marks has short)
begun_is at (AsksMapOf volume from) (suc k) bytes before after le short same cut room marks has = omega arith
begun_is at (AsksDeltaOf old new from) zero bytes before after le short same cut room marks has = absurd (has_still before after (same refl cut) room marks has short)
begun_is at (AsksDeltaOf old new from) (suc k) bytes before after le short same cut room marks has = omega arith
begun_is at AsksFlush zero bytes before after le short same cut room marks has = absurd (has_still before after (same refl cut) room marks has short)
begun_is at AsksFlush (suc k) bytes before after le short same cut room marks has = omega arith

pub asked : {D : Type 0} (view : View D) (at at' : Sessions) (p p' : D) (event : Incoming) (all : List Incoming) (events bytes : ℕ) (before after : Told) → all ≡ event ∷ [] → events ≤ length all
    → IsPartOfNext at' (drop events all) bytes → IsShortOfNext at' (drop events all) bytes after → Runs view.outline (PoolCall view) at p (taken_of all events bytes) before after at' p'
    → IsAsked (λ took answers. RunsSo view at p took answers at' p') event events bytes before after
asked {D} view at at' p p' event all events bytes before after is le part short run =
    let r = subst (λ l. Runs view.outline (PoolCall view) at p (taken_of l events bytes) before after at' p') is run in
    let few : length all ≡ 1 = ap length is in
    let one : events ≤ 1 = omega (arith, le, few) in
    let silent : events ≡ 0 → bytes ≡ 0 → answered_in r.served ≡ [] = λ none nothing. none_served r.served (r.events_are ∙ nothing_taken event events bytes none nothing) in
    let cut : IsCut event events bytes = cut_is at' event events bytes one (subst (λ l. IsPartOfNext at' (drop events l) bytes) is part) in
    record {
      answers = answered_in r.served;
      did = (before, after, r, r.adds);
      adds = r.adds;
      cut = cut;
      silent = silent;
      begun = begun_is at' event events bytes before after one (subst (λ l. IsShortOfNext at' (drop events l) bytes after) is short)
          (λ none nothing. r.adds.list ∙ (ap (λ l. before.list ++ l) (silent none nothing) ∙ append-nil before.list)) cut r.adds.room r.adds.marks;
    }

-- one event that a hub took
pub asked_one : {D : Type 0} (view : View D) (event : Incoming) (here old : HubState D) (slots : Slots) (p : D) (whole : Bool) (bytes events : ℕ) (before after : Told) → here ≡ old → events ≡ one_if whole
    → TakesEvent view event here.slots here.pool whole bytes before after slots p
    → IsAsked (λ took answers. RunsSo view (sessions_of old.slots) old.pool took answers (sessions_of slots) p) event events bytes before after
asked_one {D} view event here old slots p true bytes events before after same is takes =
    let one : events ≡ 1 = is in
    let le : 1 ≤ 1 = omega arith in
    subst (λ (n : ℕ). IsAsked (λ took answers. RunsSo view (sessions_of old.slots) old.pool took answers (sessions_of slots) p) event n bytes before after) (sym one)
    (subst (λ (h : HubState D). IsAsked (λ took answers. RunsSo view (sessions_of h.slots) h.pool took answers (sessions_of slots) p) event 1 bytes before after) same
    (asked view (sessions_of here.slots) (sessions_of slots) here.pool p event (event ∷ []) 1 bytes before after refl le takes.part tt takes.runs))
asked_one {D} view event here old slots p false bytes events before after same is takes =
    let none : events ≡ 0 = is in
    let le : 0 ≤ 1 = omega arith in
    subst (λ (n : ℕ). IsAsked (λ took answers. RunsSo view (sessions_of old.slots) old.pool took answers (sessions_of slots) p) event n bytes before after) (sym none)
    (subst (λ (h : HubState D). IsAsked (λ took answers. RunsSo view (sessions_of h.slots) h.pool took answers (sessions_of slots) p) event 0 bytes before after) same
    (asked view (sessions_of here.slots) (sessions_of slots) here.pool p event (event ∷ []) 0 bytes before after refl le takes.part.0 takes.part.1 takes.runs))

-- it was taken whole where it counts
pub some_whole : (whole : Bool) (events : ℕ) → events ≡ one_if whole → 0 < events → whole ≡ true
some_whole true events is some = refl
some_whole false events is some = let none : events ≡ 0 = is in absurd (omega (arith, none, some))

-- asks of what stands on a hub are runs of it
pub asked_through : {A S : Type 0} (Ran : HubState S → List Incoming → List Answer → HubState S → Type 0) (f : A → HubState S) (xs : List Exchange) (a b : A) → AreAsked (λ x took answers y. Ran (f x) took answers (f y)) a xs b → AreAsked Ran (f a) xs (f b)
asked_through Ran f [] a b h = ap f h
asked_through Ran f (x ∷ xs) a b h = (f h.0, h.1, asked_through Ran f xs h.0 b h.2)
