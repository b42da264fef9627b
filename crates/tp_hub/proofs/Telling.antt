-- Marks and bytes, one after another.
use Rattle.std.proofs.Common.{◌≡◌, ℕ, ◌+◌, ◌≤◌, Bool, true, false, List, [], ◌∷◌, ◌++◌, length, take, drop, refl, sym, ap, subst, suc, zero, ◌∙◌, arith, length-drop, inl, inr, ◌<◌}
use Rattle.std.specs.Prelude.{◌==◌, Err, Ok, OnErr, OnOk, Result}
use Rattle.std.specs.Result.{is_err}
use Rattle.std.proofs.lemmas.Bool.{eqb-true}
use Rattle.std.proofs.lemmas.List.{append-nil, take_all, take_at, take-append-drop, take-append-le, drop-append-le, length-take}
use Rattle.std.proofs.lemmas.Result.{on_err_weaker, on_ok_weaker}
use Rattle.nbd_session.specs.declared.answer.TheConstants.{MAX_ANSWER}
use Rattle.tp_hub.specs.declared.answers.Mark.{Mark}
use Rattle.tp_hub.specs.declared.answers.Mark.TheVariants.{Sent, End, Refused, Done, Line}
use Rattle.tp_hub.specs.Told.{Answer, Accepts, Lines, Says, Closes, Refuses, Told, Grows, HasRoom, IsFull, told, total, all_sent, sent_mark, end_mark}
use Rattle.nbd_wire.specs.Numbers.{bytes}
use Rattle.nbd_wire.specs.Replies.{greeting}
use Rattle.tp_hub.specs.Runs.{said, closed_if}

pub total-append : (marks more : List Mark) → total (marks ++ more) ≡ total marks + total more
total-append [] more = omega arith
total-append (mark ∷ marks) more = omega (arith, total-append marks more)

pub told-append : (marks more : List Mark) (bytes others : List ℕ) → total marks ≡ length bytes → told (marks ++ more) (bytes ++ others) ≡ told marks bytes ++ told more others
told-append [] more [] others e = refl
told-append [] more (b ∷ bytes) others e = absurd (omega arith)
told-append (Sent session len ∷ marks) more bytes others e =
    let here : len ≤ length bytes = omega arith in
    let rest : total marks ≡ length (drop len bytes) = omega (arith, length-drop len bytes) in
    rw (take-append-le len bytes others here, drop-append-le len bytes others here) (ap (λ s. Says session (take len bytes) ∷ s) (told-append marks more (drop len bytes) others rest))
told-append (End session ∷ marks) more bytes others e = ap (λ s. Closes session ∷ s) (told-append marks more bytes others (omega arith))
told-append (Refused reason ∷ marks) more bytes others e = ap (λ s. Refuses reason ∷ s) (told-append marks more bytes others (omega arith))
told-append (Done ∷ marks) more bytes others e = ap (λ s. Accepts ∷ s) (told-append marks more bytes others (omega arith))
told-append (Line len ∷ marks) more bytes others e =
    let here : len ≤ length bytes = omega arith in
    let rest : total marks ≡ length (drop len bytes) = omega (arith, length-drop len bytes) in
    rw (take-append-le len bytes others here, drop-append-le len bytes others here) (ap (λ s. Lines (take len bytes) ∷ s) (told-append marks more (drop len bytes) others rest))

pub told_length : (marks : List Mark) (bytes : List ℕ) → length (told marks bytes) ≡ length marks
told_length [] bytes = refl
told_length (Sent session len ∷ marks) bytes = ap suc (told_length marks (drop len bytes))
told_length (End session ∷ marks) bytes = ap suc (told_length marks bytes)
told_length (Refused reason ∷ marks) bytes = ap suc (told_length marks bytes)
told_length (Done ∷ marks) bytes = ap suc (told_length marks bytes)
told_length (Line len ∷ marks) bytes = ap suc (told_length marks (drop len bytes))

pub told_sent : (marks : List Mark) (bytes : List ℕ) → total marks ≡ length bytes → all_sent (told marks bytes) ≡ bytes
told_sent [] [] e = refl
told_sent [] (b ∷ bytes) e = absurd (omega arith)
told_sent (Sent session len ∷ marks) bytes e =
    let rest : total marks ≡ length (drop len bytes) = omega (arith, length-drop len bytes) in
    rw (told_sent marks (drop len bytes) rest) (take-append-drop len bytes)
told_sent (End session ∷ marks) bytes e = told_sent marks bytes (omega arith)
told_sent (Refused reason ∷ marks) bytes e = told_sent marks bytes (omega arith)
told_sent (Done ∷ marks) bytes e = told_sent marks bytes (omega arith)
told_sent (Line len ∷ marks) bytes e =
    let rest : total marks ≡ length (drop len bytes) = omega (arith, length-drop len bytes) in
    rw (told_sent marks (drop len bytes) rest) (take-append-drop len bytes)

-- what a buffer of answers shows
abbrev pub view_of : List Mark → ℕ → List ℕ → ℕ → ℕ → ℕ → Told
view_of marks used bytes room cap most = record { list = told marks (take used bytes); room = room; marks = cap; most = most }

-- its vector has memory for so many bytes, and may have so many
abbrev pub Fits : List Mark → ℕ → List ℕ → ℕ → ℕ → ℕ → Type 0
Fits marks used bytes room memory most = (total marks ≡ used) × (used ≤ length bytes) × (length bytes ≤ room) × (room ≤ most) × (room ≤ memory)

pub total_is : {most : ℕ} (marks : List Mark) (used : ℕ) (bytes : List ℕ) (room memory : ℕ) → Fits marks used bytes room memory most → total marks ≡ length (take used bytes)
total_is marks used bytes room memory fits = omega (arith, length-take used bytes, fits.0, fits.1)

-- marks were added, and their bytes
pub adds : {most : ℕ} (now : Told) (marks more after : List Mark) (used used' : ℕ) (bytes bytes' sent : List ℕ) (room memory cap cap' : ℕ) (answers : List Answer) → view_of marks used bytes room cap most ≡ now → Fits marks used bytes room memory most
    → after ≡ marks ++ more → take used' bytes' ≡ take used bytes ++ sent → cap ≤ cap' → told more sent ≡ answers → Grows now (view_of after used' bytes' room cap' most) answers
adds now marks more after used used' bytes bytes' sent room memory cap cap' answers view fits after_is bytes_are wide says =
    let rooms : now.room ≡ room = sym (ap (λ (t : Told). t.room) view) in
    let caps : now.marks ≡ cap = sym (ap (λ (t : Told). t.marks) view) in
    record {
      list = ap (λ (m : List Mark). told m (take used' bytes')) after_is
          ∙ (ap (told (marks ++ more)) bytes_are
          ∙ (told-append marks more (take used bytes) sent (total_is marks used bytes room memory fits)
          ∙ (ap (λ (l : List Answer). told marks (take used bytes) ++ l) says ∙ ap (λ (t : Told). t.list ++ answers) view)));
      room = record { room = omega (arith, rooms); most = ap (λ (t : Told). t.most) view };
      marks = omega (arith, caps, wide);
    }

-- no bytes were added
pub no_bytes : (used : ℕ) (bytes : List ℕ) → take used bytes ≡ take used bytes ++ []
no_bytes used bytes = sym (append-nil (take used bytes))

-- a place for so many marks
pub has_places : {most : ℕ} (now : Told) (marks : List Mark) (used : ℕ) (bytes : List ℕ) (room cap n : ℕ) → view_of marks used bytes room cap most ≡ now → length now.list + n ≤ now.marks → length marks + n ≤ cap
has_places now marks used bytes room cap n view few =
    let len : length now.list ≡ length marks = ap (λ (t : Told). length t.list) (sym view) ∙ told_length marks (take used bytes) in
    let caps : now.marks ≡ cap = sym (ap (λ (t : Told). t.marks) view) in
    omega (arith, len, caps, few)

pub shown_bytes : {most : ℕ} (now : Told) (marks : List Mark) (used : ℕ) (bytes : List ℕ) (room memory cap : ℕ) → view_of marks used bytes room cap most ≡ now → Fits marks used bytes room memory most → take used bytes ≡ all_sent now.list
shown_bytes now marks used bytes room memory cap view fits = sym (told_sent marks (take used bytes) (total_is marks used bytes room memory fits)) ∙ ap (λ (t : Told). all_sent t.list) view

-- the bytes of what is shown are those that are used
pub used_is : {most : ℕ} (now : Told) (marks : List Mark) (used : ℕ) (bytes : List ℕ) (room memory cap : ℕ) → view_of marks used bytes room cap most ≡ now → Fits marks used bytes room memory most → length (all_sent now.list) ≡ used
used_is now marks used bytes room memory cap view fits = let shown = ap length (shown_bytes now marks used bytes room memory cap view fits) in omega (arith, shown, length-take used bytes, fits.1)

-- a place for so many bytes
pub has_bytes : {most : ℕ} (now : Told) (marks : List Mark) (used : ℕ) (bytes : List ℕ) (room memory cap n : ℕ) → view_of marks used bytes room cap most ≡ now → Fits marks used bytes room memory most → length (all_sent now.list) + n ≤ now.room → used + n ≤ room
has_bytes now marks used bytes room memory cap n view fits_in fits =
    let u : length (all_sent now.list) ≡ used = used_is now marks used bytes room memory cap view fits_in in
    let r : now.room ≡ room = ap (λ (t : Told). t.room) (sym view) in
    omega (arith, u, r, fits)

pub still_fits : {most : ℕ} (marks more after : List Mark) (used used' : ℕ) (bytes bytes' : List ℕ) (room memory memory' : ℕ) → Fits marks used bytes room memory most → after ≡ marks ++ more → used + total more ≡ used' → used' ≤ length bytes' → length bytes' ≤ room → room ≤ memory'
    → Fits after used' bytes' room memory' most
still_fits marks more after used used' bytes bytes' room memory memory' fits after_is sum le inside enough =
    let t = total-append marks more in let e = ap total after_is in (omega (arith, t, e, sum, fits.0), le, inside, fits.3, enough)

-- what a buffer shows, by its used bytes
abbrev shown_as : List Mark → List ℕ → ℕ → ℕ → ℕ → Told
shown_as marks front room cap most = record { list = told marks front; room = room; marks = cap; most = most }

-- where its used bytes are what they were, it shows the same
pub still_shown : {most : ℕ} (now : Told) (marks : List Mark) (used : ℕ) (bytes bytes' : List ℕ) (room cap : ℕ) → view_of marks used bytes room cap most ≡ now → take used bytes' ≡ take used bytes → view_of marks used bytes' room cap most ≡ now
still_shown {most} now marks used bytes bytes' room cap view kept = ap (λ (l : List ℕ). shown_as marks l room cap most) kept ∙ view

pub still_inside : {most : ℕ} (marks : List Mark) (used : ℕ) (bytes bytes' : List ℕ) (room memory memory' : ℕ) → Fits marks used bytes room memory most → used ≤ length bytes' → length bytes' ≤ room → room ≤ memory' → Fits marks used bytes' room memory' most
still_inside marks used bytes bytes' room memory memory' fits le inside enough = (fits.0, le, inside, fits.3, enough)

-- A vector of n items was lent whole as a slice: what it has behind that loan.
abbrev pub given_back : ℕ → List ℕ → List ℕ → List ℕ
given_back n new old = take n (new ++ drop (length new) old)

module _ (n : ℕ) (old lent new : List ℕ) (lent_is : lent ≡ old) (n_is : n ≡ length old) (len : length new ≡ length lent) where
  same_length : length new ≡ length old
  same_length = len ∙ ap (λ (l : List ℕ). length l) lent_is

  back_is : given_back n new old ≡ new
  back_is = take_at new (drop (length new) old) n (same_length ∙ sym n_is)

  pub back_length : length (given_back n new old) ≡ length old
  back_length = ap (λ (l : List ℕ). length l) back_is ∙ same_length

  -- what was put behind the slice's front stands in the vector
  pub back_put : (at k : ℕ) (more : List ℕ) → take k new ≡ take at lent ++ more → take k (given_back n new old) ≡ take at old ++ more
  back_put at k more put = ap (λ (l : List ℕ). take k l) back_is ∙ (put ∙ ap (λ (l : List ℕ). take at l ++ more) lent_is)

  pub back_kept : (k : ℕ) → take k new ≡ take k lent → take k (given_back n new old) ≡ take k old
  back_kept k kept = ap (λ (l : List ℕ). take k l) back_is ∙ (kept ∙ ap (λ (l : List ℕ). take k l) lent_is)

  pub back_fits : (k : ℕ) → k ≤ length new → k ≤ length (given_back n new old)
  back_fits k fits = subst (λ (l : List ℕ). k ≤ length l) (sym back_is) fits

  pub back_most : (m : ℕ) → length old ≤ m → length (given_back n new old) ≤ m
  back_most m most = subst (λ (k : ℕ). k ≤ m) (sym back_length) most

pub shown_marks : {most : ℕ} (now : Told) (marks : List Mark) (used : ℕ) (bytes : List ℕ) (room cap : ℕ) → view_of marks used bytes room cap most ≡ now → length marks ≡ length now.list
shown_marks now marks used bytes room cap view = sym (told_length marks (take used bytes)) ∙ ap (λ (t : Told). length t.list) view

-- what marks say of the bytes that are shown
pub marks_say : {most : ℕ} (now : Told) (marks : List Mark) (used : ℕ) (bytes : List ℕ) (room memory cap : ℕ) → view_of marks used bytes room cap most ≡ now → Fits marks used bytes room memory most → told marks (all_sent now.list) ≡ now.list
marks_say now marks used bytes room memory cap view fits = ap (told marks) (sym (shown_bytes now marks used bytes room memory cap view fits)) ∙ ap (λ (t : Told). t.list) view

pub marks_fit : {most : ℕ} (now : Told) (marks : List Mark) (used : ℕ) (bytes : List ℕ) (room memory cap : ℕ) → view_of marks used bytes room cap most ≡ now → Fits marks used bytes room memory most → total marks ≡ length (all_sent now.list)
marks_fit now marks used bytes room memory cap view fits = total_is marks used bytes room memory fits ∙ ap length (shown_bytes now marks used bytes room memory cap view fits)

pub one_sent : (session : ℕ) (bytes : List ℕ) (len : ℕ) → len ≡ length bytes → told (Sent session len ∷ []) bytes ≡ Says session bytes ∷ []
one_sent session bytes len e = ap (λ l. Says session l ∷ []) (take_all len bytes (omega (arith, e)))

pub one_line : (bytes : List ℕ) (len : ℕ) → len ≡ length bytes → told (Line len ∷ []) bytes ≡ Lines bytes ∷ []
one_line bytes len e = ap (λ l. Lines l ∷ []) (take_all len bytes (omega (arith, e)))

-- what a step says
pub step_told : (session len : ℕ) (sent : List ℕ) (ended : Bool) → length sent ≡ len → told (sent_mark session len ++ end_mark session ended) sent ≡ said session sent ++ closed_if session ended
step_told session zero [] true e = refl
step_told session zero [] false e = refl
step_told session zero (x ∷ sent) ended e = absurd (omega arith)
step_told session (suc len) [] ended e = absurd (omega arith)
step_told session (suc len) (x ∷ sent) true e = ap (λ l. Says session l ∷ Closes session ∷ []) (take_all (suc len) (x ∷ sent) (omega arith))
step_told session (suc len) (x ∷ sent) false e = ap (λ l. Says session l ∷ []) (take_all (suc len) (x ∷ sent) (omega arith))

pub step_total : (session len : ℕ) (ended : Bool) → total (sent_mark session len ++ end_mark session ended) ≡ len
step_total session zero true = refl
step_total session zero false = refl
step_total session (suc len) true = omega arith
step_total session (suc len) false = omega arith

take_past : (p q : List ℕ) (s : ℕ) → take (length p + s) (p ++ q) ≡ p ++ take s q
take_past [] q s = let none : length {A = ℕ} [] + s ≡ s = omega arith in ap (λ n. take n q) none
take_past (x ∷ p) q s = let more : length (x ∷ p) + s ≡ suc (length p + s) = omega arith in ap (λ n. take n (x ∷ (p ++ q))) more ∙ ap (λ l. x ∷ l) (take_past p q s)

-- what was put at a place stands there
pub put_there : (at len : ℕ) (old part post : List ℕ) → at ≤ length old → len ≤ length part → take (at + len) (take at old ++ (part ++ post)) ≡ take at old ++ take len part
put_there at len old part post le fits =
    let front : length (take at old) ≡ at = omega (arith, length-take at old, le) in
    ap (λ n. take (n + len) (take at old ++ (part ++ post))) (sym front) ∙ (take_past (take at old) (part ++ post) len ∙ ap (λ l. take at old ++ l) (take-append-le len part post fits))

-- bytes are said where there are any
pub sent_none : (session len : ℕ) → (len == 0) ≡ true → [] ≡ sent_mark session len
sent_none session zero e = refl
sent_none session (suc len) e = absurd (omega (arith, eqb-true (suc len) 0 e))

pub sent_some : (session len : ℕ) → (len == 0) ≡ false → Sent session len ∷ [] ≡ sent_mark session len
sent_some session zero e = absurd cc
sent_some session (suc len) e = refl

pub sent_length : (session len : ℕ) → length (sent_mark session len) ≤ 1
sent_length session zero = omega arith
sent_length session (suc len) = omega arith

pub room_there : {most : ℕ} (now : Told) (marks : List Mark) (used : ℕ) (bytes : List ℕ) (room memory cap : ℕ) → view_of marks used bytes room cap most ≡ now → Fits marks used bytes room memory most → HasRoom now → (used + MAX_ANSWER ≤ room) × (length marks + 2 ≤ cap)
room_there now marks used bytes room memory cap view fits has = (has_bytes now marks used bytes room memory cap MAX_ANSWER view fits has.bytes, has_places now marks used bytes room cap 2 view has.marks)

-- the bytes of these marks
bytes_of : (marks : List Mark) (used : ℕ) (bytes : List ℕ) → total marks ≡ used → used ≤ length bytes → length (all_sent (told marks (take used bytes))) ≡ used
bytes_of marks used bytes sum inside = let t : total marks ≡ length (take used bytes) = omega (arith, length-take used bytes, sum, inside) in let e = ap length (told_sent marks (take used bytes) t) in omega (arith, e, t, sum)

pub made_room : (most : ℕ) {A E : Type 0} (marks after : List Mark) (used : ℕ) (bytes : List ℕ) (room cap : ℕ) (r : Result A E) → total marks ≡ used → used ≤ length bytes → after ≡ marks → OnOk r (length after + 2 ≤ cap) → used + MAX_ANSWER ≤ room
    → OnOk r (HasRoom (view_of after used bytes room cap most))
made_room most marks after used bytes room cap r sum inside same places has =
    let u : length (all_sent (told after (take used bytes))) ≡ used = bytes_of after used bytes (ap total same ∙ sum) inside in
    on_ok_weaker r (λ few. record { bytes = omega (arith, u, has); marks = let l = told_length after (take used bytes) in omega (arith, l, few) }) places

-- there is no room for the bytes
pub full_bytes : (most : ℕ) {A E : Type 0} (marks : List Mark) (used : ℕ) (bytes : List ℕ) (room cap : ℕ) (r : Result A E) → total marks ≡ used → used ≤ length bytes → OnErr r (room < used + MAX_ANSWER) → OnErr r (IsFull (view_of marks used bytes room cap most))
full_bytes most marks used bytes room cap r sum inside few = on_err_weaker r (λ lt. inl (let u = bytes_of marks used bytes sum inside in omega (arith, u, lt))) few

-- there is no place for a mark
pub full_marks : (most : ℕ) {A E : Type 0} (after : List Mark) (used : ℕ) (bytes : List ℕ) (room cap : ℕ) (r : Result A E) → OnErr r (cap < length after + 2) → OnErr r (IsFull (view_of after used bytes room cap most))
full_marks most after used bytes room cap r few = on_err_weaker r (λ lt. inr (let l = told_length after (take used bytes) in omega (arith, l, lt))) few

pub on_err : {A E P : Type 0} (r : Result A E) → is_err r ≡ true → OnErr r P → P
on_err (Ok x) e p = absurd cc
on_err (Err x) e p = p

pub on_ok : {A E P : Type 0} (r : Result A E) → is_err r ≡ false → OnOk r P → P
on_ok (Ok x) e p = p
on_ok (Err x) e p = absurd cc

pub on_err_so : {A E : Type 0} (P : Type 0) (r : Result A E) → P → OnErr r P
on_err_so P (Ok x) p = tt
on_err_so P (Err x) p = p

pub greeting_length : length greeting ≤ 18
unfolding greeting bytes
greeting_length = omega arith
