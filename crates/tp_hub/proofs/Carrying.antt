-- One client, ask after ask.
use Rattle.std.proofs.Common.{◌≡◌, ℕ, zero, suc, ◌+◌, ◌<◌, ◌≤◌, Bool, true, false, List, [], ◌∷◌, ◌++◌, length, take, drop, Option, None, Some, ◌⊎◌, inl, inr, refl, sym, ap, subst, true≢false, ◌∙◌, arith, append_assoc, append-nil, length-append, ◌-◌, ◌^◌}
use Rattle.std.specs.Prelude.{MatchBool, not, ◌||◌, ◌==◌}
use Rattle.std.specs.List.{list_any}
use Rattle.std.proofs.lemmas.List.{drop-drop, drop_all, take-append-drop}
use Rattle.tp_hub.specs.declared.answers.Mark.{Mark}
use Rattle.tp_hub.specs.declared.answers.Mark.TheVariants.{Sent, End, Refused, Done, Line}
use Rattle.tp_hub.specs.Told.{Answer, HasRoom, IsFull, KeepsRoom, Told, all_sent, told}
use Rattle.nbd_session.specs.declared.phase.Profile.{Profile}
use Rattle.tp_hub.specs.Runs.{Brings, Comes, Goes, Incoming, taken_of}
use Rattle.tp_hub.specs.Desks.{AreAsked, Exchange, IsAsked, IsCut}
use Rattle.tp_hub.specs.Streams.{Gave, GaveAgain, GaveEnd, GaveNone, Makes, StreamCall, IsSent}
use Rattle.tp_hub.specs.declared.client.Carried.{Carried}
use Rattle.tp_hub.specs.declared.client.Carried.TheVariants.{NoMemory, InUse, EndOfInput, InputFailed, OutputFailed}
use Rattle.tp_hub.specs.Carrying.{AreRounds, Exchanges, GoesOnOrEnds, Hands, IsCarried, IsLast, IsLeft, IsRound, IsSaid, Round, Stops, asks_in, calls_in, closes_in, is_close, is_over, over_if}

pub closes_told : (n : ℕ) (marks : List Mark) (bytes : List ℕ) → closes_in n (told marks bytes) ≡ list_any (is_close n) marks
closes_told n [] bytes = refl
closes_told n (Sent session len ∷ marks) bytes = closes_told n marks (drop len bytes)
closes_told n (End session ∷ marks) bytes = ap (λ b. (session == n) || b) (closes_told n marks bytes)
closes_told n (Refused reason ∷ marks) bytes = refl
closes_told n (Done ∷ marks) bytes = closes_told n marks bytes
closes_told n (Line len ∷ marks) bytes = closes_told n marks (drop len bytes)

-- some bytes
pub said_some : (bytes : List ℕ) (did : List StreamCall) (all is_empty : Bool) → is_empty ≡ (length bytes == 0) → is_empty ≡ false → IsSent bytes did all → IsSaid bytes did all
said_some [] did all is_empty is some sent = absurd (true≢false (sym is ∙ some))
said_some (byte ∷ bytes) did all is_empty is some sent = sent

-- emptied, it has the room that it had, which is that for one longest answer
pub room_left : (before after now : Told) → HasRoom before → KeepsRoom before after → before.marks ≤ after.marks → now.list ≡ [] → now.room ≡ after.room → now.marks ≡ after.marks → HasRoom now
room_left before after now has wide long none room marks =
    let bytes : length (all_sent now.list) ≡ 0 = ap (λ (l : List Answer). length (all_sent l)) none in
    let places : length now.list ≡ 0 = ap (λ (l : List Answer). length l) none in
    record { bytes = omega (arith, bytes, room, wide.room, has.bytes); marks = omega (arith, places, marks, long, has.marks) }

by_true : (b : Bool) (P Q : Type 0) → b ≡ true → P → MatchBool b P Q
by_true true P Q e p = p
by_true false P Q e p = absurd cc

by_false : (b : Bool) (P Q : Type 0) → b ≡ false → Q → MatchBool b P Q
by_false false P Q e q = q
by_false true P Q e q = absurd cc

pub was_false : (b : Bool) → not b ≡ true → b ≡ false
was_false true e = absurd cc
was_false false e = refl

pub was_true : (b : Bool) → not b ≡ false → b ≡ true
was_true true e = refl
was_true false e = absurd cc

-- ---- asks one after another

module _ {D : Type 0} (Did : D → List Incoming → List Answer → D → Type 0) where
  pub asked_join : (a b c : D) (xs ys : List Exchange) → AreAsked Did a xs b → AreAsked Did b ys c → AreAsked Did a (xs ++ ys) c
  asked_join a b c [] ys p q = subst (λ (d : D). AreAsked Did d ys c) p q
  asked_join a b c (x ∷ xs) ys p q = (p.0, p.1, asked_join p.0 b c xs ys p.2 q)

  -- one event was asked, and its answers written
  pub exchanged : (most n : ℕ) (event : Incoming) (old new : D) (events bytes : ℕ) (out after : Told) (sent : List ℕ) (told0 told1 : List StreamCall) (over said : Bool) → IsAsked (λ took answers. Did old took answers new) event events bytes out after
      → out.list ≡ [] → HasRoom out → over ≡ closes_in n after.list → sent ≡ all_sent after.list → length sent ≤ most → Makes told0 told1 (λ did. IsSaid sent did said) → Exchanges Did most n event old new events bytes told0 told1 over said
  exchanged most n event old new events bytes out after sent told0 told1 over said a empty has over_is sent_is few makes =
      let all : after.list ≡ a.answers = a.adds.list ∙ ap (λ (l : List Answer). l ++ a.answers) empty in
      let same : sent ≡ all_sent a.answers = sent_is ∙ ap all_sent all in
      record {
        answers = a.answers;
        did = a.did;
        cut = a.cut;
        silent = a.silent;
        begun = a.begun has;
        few = subst (λ (l : List ℕ). length l ≤ most) same few;
        calls = makes.0;
        calls_are = makes.1;
        says = subst (λ (l : List ℕ). IsSaid l makes.0 said) same makes.2;
        over_is = over_is ∙ ap (closes_in n) all;
      }

  -- ---- one piece

  abbrev TookFront : ℕ → List ℕ → List Incoming → List ℕ → Type 0
  TookFront n rest took behind = (front : List ℕ) × (rest ≡ front ++ behind) × (took ≡ Brings n front ∷ []) × (0 < length front)

  front_part : (n k : ℕ) (rest : List ℕ) → suc k < length rest → TookFront n rest (taken_of (Brings n rest ∷ []) 0 (suc k)) (drop (suc k) rest)
  front_part n k [] lt = absurd (omega (arith, lt))
  front_part n k (x ∷ rest) lt = (take (suc k) (x ∷ rest), sym (take-append-drop (suc k) (x ∷ rest)), refl, omega arith)

  front_cut : (n k : ℕ) (rest : List ℕ) → (suc k ≡ 0) ⊎ (suc k < length rest) → TookFront n rest (taken_of (Brings n rest ∷ []) 0 (suc k)) (drop (suc k) rest)
  front_cut n k rest (inl none) = absurd (omega (arith, none))
  front_cut n k rest (inr lt) = front_part n k rest lt

  took_part : (n : ℕ) (rest : List ℕ) (bytes : ℕ) → IsCut (Brings n rest) 0 bytes → 0 < bytes → TookFront n rest (taken_of (Brings n rest ∷ []) 0 bytes) (drop bytes rest)
  took_part n rest zero cut some = absurd (omega (arith, some))
  took_part n rest (suc k) cut some = front_cut n k rest cut

  took_whole : (n : ℕ) (rest : List ℕ) (events bytes : ℕ) → IsCut (Brings n rest) events bytes → 0 < events → 0 < length rest → TookFront n rest (taken_of (Brings n rest ∷ []) events bytes) []
  took_whole n rest zero bytes cut some long = absurd (omega (arith, some))
  took_whole n rest (suc zero) bytes cut some long = (rest, sym (append-nil rest), refl, long)
  took_whole n rest (suc (suc k)) bytes cut some long = absurd (omega (arith, cut.0))

  -- it took something, and this is what it did
  took_some : (n : ℕ) (rest : List ℕ) (events bytes : ℕ) → IsCut (Brings n rest) events bytes → 0 < length rest → 0 < events + bytes → (behind : List ℕ) × TookFront n rest (taken_of (Brings n rest ∷ []) events bytes) behind
  took_some n rest zero zero cut long some = absurd (omega (arith, some))
  took_some n rest zero (suc k) cut long some = (drop (suc k) rest, took_part n rest (suc k) cut (omega arith))
  took_some n rest (suc k) bytes cut long some = ([], took_whole n rest (suc k) bytes cut (omega arith) long)

  -- So far a piece was handed over up to a place, and whatever is done with the rest of it completes it.
  pub record Handing (most n : ℕ) (piece : List ℕ) (at : ℕ) (old new : D) (told0 told1 : List StreamCall) : Type 0 where
    pub asks : List Exchange
    pub calls : List StreamCall
    pub are : AreAsked Did old asks new
    pub calls_are : told1 ≡ told0 ++ calls
    pub completes : (ys : List Exchange) (later : List StreamCall) (ending : Option Carried) → Hands most n (drop at piece) ys later ending → Hands most n piece (asks ++ ys) (calls ++ later) ending

  pub handing_none : (most n : ℕ) (piece : List ℕ) (old : D) (told0 : List StreamCall) → Handing most n piece 0 old old told0 told0
  handing_none most n piece old told0 = record { asks = []; calls = []; are = refl; calls_are = sym (append-nil told0); completes = λ ys later ending h. h }

  abbrev pub HandsTo : ℕ → ℕ → List ℕ → D → D → List StreamCall → List StreamCall → Option Carried → Type 0
  HandsTo most n piece old new told0 told1 ending = (xs : List Exchange) × AreAsked Did old xs new × Makes told0 told1 (λ did. Hands most n piece xs did ending)

  -- the rest of it was dealt with
  handed_by : (most n : ℕ) (piece : List ℕ) (at : ℕ) (old mid new : D) (told0 told1 told2 : List StreamCall) (ending : Option Carried) → Handing most n piece at old mid told0 told1 → HandsTo most n (drop at piece) mid new told1 told2 ending → HandsTo most n piece old new told0 told2 ending
  handed_by most n piece at old mid new told0 told1 told2 ending h r = (
    h.asks ++ r.0,
    asked_join old mid new h.asks r.0 h.are r.1,
    (h.calls ++ r.2.0, r.2.1 ∙ (ap (λ (l : List StreamCall). l ++ r.2.0) h.calls_are ∙ append_assoc told0 h.calls r.2.0), h.completes r.0 r.2.0 ending r.2.2),
  )

  -- all of it was
  pub handed_all : (most n : ℕ) (piece : List ℕ) (at : ℕ) (old new : D) (told0 told1 : List StreamCall) → Handing most n piece at old new told0 told1 → length piece ≤ at → HandsTo most n piece old new told0 told1 None
  handed_all most n piece at old new told0 told1 h over = handed_by most n piece at old new new told0 told1 told1 None h ([], refl, ([], sym (append-nil told1), (drop_all at piece over, refl, refl)))

  module _ (most now n : ℕ) (piece rest : List ℕ) (at : ℕ) (old mid new : D) (told0 told1 told2 : List StreamCall) (events bytes : ℕ) (over said : Bool) (h : Handing most n piece at old mid told0 told1) (rest_is : rest ≡ drop at piece) (same : now ≡ most) (e : Exchanges Did now n (Brings n rest) mid new events bytes told1 told2 over said) where
    abbrev ask : Exchange
    ask = record { took = taken_of (Brings n rest ∷ []) events bytes; answers = e.answers }

    few : length (all_sent e.answers) ≤ most
    few = subst (λ (m : ℕ). length (all_sent e.answers) ≤ m) same e.few

    last_ask : (ending : Option Carried) → Hands most n rest (ask ∷ []) e.calls ending → HandsTo most n piece old new told0 told2 ending
    last_ask ending hands = handed_by most n piece at old mid new told0 told1 told2 ending h (ask ∷ [], (new, e.did, refl), (e.calls, e.calls_are, subst (λ (l : List ℕ). Hands most n l (ask ∷ []) e.calls ending) rest_is hands))

    pub hand_over : 0 < length rest → over ≡ true → HandsTo most n piece old new told0 told2 (Some (over_if said))
    hand_over long is_over =
        let t = took_some n rest events bytes e.cut long e.begun in
        last_ask (Some (over_if said)) (t.1.0, t.0, e.calls, [], said, t.1.1, sym (append-nil e.calls), e.says, few, t.1.2, t.1.3, by_true (closes_in n e.answers) _ _ (sym e.over_is ∙ is_over) (refl, refl, refl))

    pub hand_lost : 0 < length rest → over ≡ false → said ≡ false → HandsTo most n piece old new told0 told2 (Some OutputFailed)
    hand_lost long not_over is_lost =
        let t = took_some n rest events bytes e.cut long e.begun in
        last_ask (Some OutputFailed) (t.1.0, t.0, e.calls, [], said, t.1.1, sym (append-nil e.calls), e.says, few, t.1.2, t.1.3, by_false (closes_in n e.answers) _ _ (sym e.over_is ∙ not_over) (by_false said _ _ is_lost (refl, refl, refl)))

    pub hand_on : 0 < length rest → over ≡ false → said ≡ true → 0 < events → HandsTo most n piece old new told0 told2 None
    hand_on long not_over is_said some =
        let t = took_whole n rest events bytes e.cut some long in
        last_ask None (t.0, [], e.calls, [], said, t.1, sym (append-nil e.calls), e.says, few, t.2, t.3, by_false (closes_in n e.answers) _ _ (sym e.over_is ∙ not_over) (by_true said _ _ is_said (refl, refl, refl)))

    part_is : (b : ℕ) → b ≡ 0 → IsCut (Brings n rest) b bytes → 0 < bytes → TookFront n rest (taken_of (Brings n rest ∷ []) b bytes) (drop bytes rest)
    part_is zero x cut some = took_part n rest bytes cut some
    part_is (suc b) x cut some = absurd (omega (arith, x))

    cut_inside : (b : ℕ) → b ≡ 0 → IsCut (Brings n rest) b bytes → bytes ≤ length rest
    cut_inside zero x (inl none) = omega (arith, none)
    cut_inside zero x (inr lt) = omega (arith, lt)
    cut_inside (suc b) x cut = absurd (omega (arith, x))

    pub hand_begun : events ≡ 0 → 0 < bytes
    hand_begun none = omega (arith, none, e.begun)

    pub hand_inside : events ≡ 0 → bytes ≤ length rest
    hand_inside none = cut_inside events none e.cut

    pub hand_more : over ≡ false → said ≡ true → events ≡ 0 → Handing most n piece (at + bytes) old new told0 told2
    hand_more not_over is_said none =
        let t = part_is events none e.cut (hand_begun none) in
        let behind : drop bytes rest ≡ drop (at + bytes) piece = ap (drop bytes) rest_is ∙ drop-drop bytes at piece in
        record {
          asks = h.asks ++ ask ∷ [];
          calls = h.calls ++ e.calls;
          are = asked_join old mid new h.asks (ask ∷ []) h.are (new, e.did, refl);
          calls_are = e.calls_are ∙ (ap (λ (l : List StreamCall). l ++ e.calls) h.calls_are ∙ append_assoc told0 h.calls e.calls);
          completes = λ ys later ending hands.
              let there : Hands most n rest (ask ∷ ys) (e.calls ++ later) ending = (
                t.0,
                drop bytes rest,
                e.calls,
                later,
                said,
                t.1,
                refl,
                e.says,
                few,
                t.2,
                t.3,
                by_false (closes_in n e.answers) _ _ (sym e.over_is ∙ not_over) (by_true said _ _ is_said (subst (λ (l : List ℕ). Hands most n l ys later ending) (sym behind) hands)),
              ) in
              let all : Hands most n piece (h.asks ++ (ask ∷ ys)) (h.calls ++ (e.calls ++ later)) ending = h.completes (ask ∷ ys) (e.calls ++ later) ending (subst (λ (l : List ℕ). Hands most n l (ask ∷ ys) (e.calls ++ later) ending) rest_is there) in
              subst (λ (l : List StreamCall). Hands most n piece ((h.asks ++ ask ∷ []) ++ ys) l ending) (sym (append_assoc h.calls e.calls later))
              (subst (λ (l : List Exchange). Hands most n piece l (h.calls ++ (e.calls ++ later)) ending) (sym (append_assoc h.asks (ask ∷ []) ys)) all);
        }

  -- ---- one read

  abbrev ReadsTo : ℕ → ℕ → D → D → List StreamCall → List StreamCall → Option Carried → Type 0
  ReadsTo most n old new told0 told1 result = (xs : List Exchange) × AreAsked Did old xs new × Makes told0 told1 (λ did. GoesOnOrEnds most n xs did result)

  last_round : (most n : ℕ) (xs : List Exchange) (calls : List StreamCall) (result : Option Carried) → IsLast most n xs calls result → GoesOnOrEnds most n xs calls result
  last_round most n xs calls None l = l
  last_round most n xs calls (Some ending) l = inl l

  pub read_some : (most n : ℕ) (piece : List ℕ) (old new : D) (told0 told1 told2 : List StreamCall) (result : Option Carried) → told1 ≡ told0 ++ Gave piece ∷ [] → HandsTo most n piece old new told1 told2 result → ReadsTo most n old new told0 told2 result
  read_some most n piece old new told0 told1 told2 result read h =
      let r : Round = record { read = Gave piece; asks = h.0; calls = h.2.0 } in
      (h.0, h.1, (Gave piece ∷ h.2.0, h.2.1 ∙ (ap (λ (l : List StreamCall). l ++ h.2.0) read ∙ append_assoc told0 (Gave piece ∷ []) h.2.0), last_round most n h.0 (Gave piece ∷ h.2.0) result (r, inl (piece, refl, h.2.2), refl, refl)))

  pub read_again : (most n : ℕ) (old : D) (told0 told1 : List StreamCall) → told1 ≡ told0 ++ GaveAgain ∷ [] → ReadsTo most n old old told0 told1 None
  read_again most n old told0 told1 read = ([], refl, (GaveAgain ∷ [], read, (record { read = GaveAgain; asks = []; calls = [] }, inr (refl, refl, refl, refl), refl, refl)))

  pub read_end : (most n : ℕ) (old : D) (told0 told1 : List StreamCall) → told1 ≡ told0 ++ GaveEnd ∷ [] → ReadsTo most n old old told0 told1 (Some EndOfInput)
  read_end most n old told0 told1 read = ([], refl, (GaveEnd ∷ [], read, inr (refl, refl)))

  pub read_broken : (most n : ℕ) (old : D) (told0 told1 : List StreamCall) → told1 ≡ told0 ++ GaveNone ∷ [] → ReadsTo most n old old told0 told1 (Some InputFailed)
  read_broken most n old told0 told1 read = ([], refl, (GaveNone ∷ [], read, inr (refl, refl)))

  -- the same read, where its bound and what it led to are known
  read_same : (most now n : ℕ) (old new : D) (told0 told1 : List StreamCall) (result as_is : Option Carried) → result ≡ as_is → now ≡ most → ReadsTo now n old new told0 told1 result → ReadsTo most n old new told0 told1 as_is
  read_same most now n old new told0 told1 result as_is is same reads = subst (λ (m : ℕ). ReadsTo m n old new told0 told1 as_is) same (subst (λ (o : Option Carried). ReadsTo now n old new told0 told1 o) is reads)

  -- ---- round after round

  -- Rounds, after each of which more is read.
  pub record Listening (most n : ℕ) (turns : ℕ) (old new : D) (told0 told1 : List StreamCall) : Type 0 where
    pub rounds : List Round
    pub are : AreRounds most n rounds
    pub asked : AreAsked Did old (asks_in rounds) new
    pub calls_are : told1 ≡ told0 ++ calls_in rounds
    pub count : length rounds ≡ turns

  pub listening_none : (most n : ℕ) (old : D) (told0 : List StreamCall) → Listening most n 0 old old told0 told0
  listening_none most n old told0 = record { rounds = []; are = tt; asked = refl; calls_are = sym (append-nil told0); count = refl }

  rounds_more : (most n : ℕ) (rs : List Round) (r : Round) → AreRounds most n rs → IsRound most n r None → AreRounds most n (rs ++ r ∷ [])
  rounds_more most n [] r are is = (is, tt)
  rounds_more most n (x ∷ rs) r are is = (are.0, rounds_more most n rs r are.1 is)

  asks_more : (rs : List Round) (r : Round) → asks_in (rs ++ r ∷ []) ≡ asks_in rs ++ r.asks
  asks_more [] r = append-nil r.asks
  asks_more (x ∷ rs) r = ap (λ (l : List Exchange). x.asks ++ l) (asks_more rs r) ∙ sym (append_assoc x.asks (asks_in rs) r.asks)

  calls_more : (rs : List Round) (r : Round) → calls_in (rs ++ r ∷ []) ≡ calls_in rs ++ (r.read ∷ r.calls)
  calls_more [] r = ap (λ (l : List StreamCall). r.read ∷ l) (append-nil r.calls)
  calls_more (x ∷ rs) r = ap (λ (l : List StreamCall). x.read ∷ l) (ap (λ (l : List StreamCall). x.calls ++ l) (calls_more rs r) ∙ sym (append_assoc x.calls (calls_in rs) (r.read ∷ r.calls)))

  length_more : (rs : List Round) (r : Round) (turns : ℕ) → length rs ≡ turns → length (rs ++ r ∷ []) ≡ turns + 1
  length_more rs r turns e = let l = length-append rs (r ∷ []) in omega (arith, l, e)

  pub listening_more : (most now n turns : ℕ) (old mid new : D) (told0 told1 told2 : List StreamCall) (result : Option Carried) → Listening most n turns old mid told0 told1 → result ≡ None → now ≡ most → ReadsTo now n mid new told1 told2 result → Listening most n (turns + 1) old new told0 told2
  listening_more most now n turns old mid new told0 told1 told2 result l none same reads =
      let x : ReadsTo most n mid new told1 told2 None = read_same most now n mid new told1 told2 result None none same reads in
      let r : Round = x.2.2.0 in
      record {
        rounds = l.rounds ++ r ∷ [];
        are = rounds_more most n l.rounds r l.are x.2.2.1;
        asked = subst (λ (a : List Exchange). AreAsked Did old a new) (sym (asks_more l.rounds r))
            (asked_join old mid new (asks_in l.rounds) r.asks l.asked (subst (λ (a : List Exchange). AreAsked Did mid a new) x.2.2.2 x.1));
        calls_are = x.2.1 ∙ (ap (λ (a : List StreamCall). a ++ x.2.0) l.calls_are ∙ (append_assoc told0 (calls_in l.rounds) x.2.0
            ∙ ap (λ (a : List StreamCall). told0 ++ a) (ap (λ (a : List StreamCall). calls_in l.rounds ++ a) x.2.2.3 ∙ sym (calls_more l.rounds r))));
        count = length_more l.rounds r turns l.count;
      }

  abbrev Listened : ℕ → ℕ → D → D → List StreamCall → List StreamCall → Carried → Type 0
  Listened most n old new told0 told1 ending = (rounds : List Round) × (last : List Exchange) × (end : List StreamCall) × AreAsked Did old (asks_in rounds ++ last) new
      × (told1 ≡ told0 ++ (calls_in rounds ++ end)) × AreRounds most n rounds × Stops most n rounds last end ending

  pub listened_end : (most now n turns : ℕ) (old mid new : D) (told0 told1 told2 : List StreamCall) (result : Option Carried) (ending : Carried) → Listening most n turns old mid told0 told1 → result ≡ Some ending → now ≡ most → ReadsTo now n mid new told1 told2 result → Listened most n old new told0 told2 ending
  listened_end most now n turns old mid new told0 told1 told2 result ending l some same reads =
      let x : ReadsTo most n mid new told1 told2 (Some ending) = read_same most now n mid new told1 told2 result (Some ending) some same reads in (
        l.rounds,
        x.0,
        x.2.0,
        asked_join old mid new (asks_in l.rounds) x.0 l.asked x.1,
        x.2.1 ∙ (ap (λ (a : List StreamCall). a ++ x.2.0) l.calls_are ∙ append_assoc told0 (calls_in l.rounds) x.2.0),
        l.are,
        inl x.2.2,
      )

  pub listened_tired : (most n turns : ℕ) (old new : D) (told0 told1 : List StreamCall) → Listening most n turns old new told0 told1 → 2 ^ 64 - 1 ≤ turns → Listened most n old new told0 told1 InputFailed
  listened_tired most n turns old new told0 told1 l many = (
    l.rounds,
    [],
    [],
    subst (λ (a : List Exchange). AreAsked Did old a new) (sym (append-nil (asks_in l.rounds))) l.asked,
    l.calls_are ∙ ap (λ (a : List StreamCall). told0 ++ a) (sym (append-nil (calls_in l.rounds))),
    l.are,
    inr (refl, refl, refl, omega (arith, many, l.count)),
  )

  -- the same under the bound of its buffer behind it
  pub listened_same : (most now n : ℕ) (old new : D) (told0 told1 : List StreamCall) (ending : Carried) → now ≡ most → Listened now n old new told0 told1 ending → Listened most n old new told0 told1 ending
  listened_same most now n old new told0 told1 ending same l = subst (λ (m : ℕ). Listened m n old new told0 told1 ending) same l

  -- ---- its coming and its end

  abbrev LeavesTo : ℕ → D → D → Carried → Type 0
  LeavesTo n old new ending = (xs : List Exchange) × AreAsked Did old xs new × IsLeft n xs ending

  pub left_not : (n : ℕ) (old : D) (ending : Carried) → is_over ending ≡ true → LeavesTo n old old ending
  left_not n old ending over = ([], refl, by_true (is_over ending) _ _ over refl)

  went_away : (n events bytes : ℕ) → IsCut (Goes n) events bytes → 0 < events → taken_of (Goes n ∷ []) events bytes ≡ Goes n ∷ []
  went_away n zero bytes cut some = absurd (omega (arith, some))
  went_away n (suc zero) bytes cut some = refl
  went_away n (suc (suc k)) bytes cut some = absurd (omega (arith, cut.0))

  pub left_so : (n : ℕ) (old new : D) (events bytes : ℕ) (out after : Told) (ending : Carried) → is_over ending ≡ false → HasRoom out → IsAsked (λ took answers. Did old took answers new) (Goes n) events bytes out after → LeavesTo n old new ending
  left_so n old new events bytes out after ending open_ has a =
      let x : Exchange = record { took = taken_of (Goes n ∷ []) events bytes; answers = a.answers } in
      (x ∷ [], (new, a.did, refl), by_false (is_over ending) _ _ open_ (x, refl, went_away n events bytes a.cut (a.begun has)))

  abbrev CarriesTo : ℕ → Profile → Told → D → D → List StreamCall → List StreamCall → Carried → Type 0
  CarriesTo n profile out old new told0 told1 ending = (xs : List Exchange) × AreAsked Did old xs new × Makes told0 told1 (λ did. IsCarried n profile out xs did ending)

  -- there was no room
  pub carried_not : (n : ℕ) (profile : Profile) (out : Told) (old : D) (told0 : List StreamCall) → IsFull out → CarriesTo n profile out old old told0 told0 NoMemory
  carried_not n profile out old told0 full = ([], refl, ([], sym (append-nil told0), inl (refl, inl (refl, full))))

  came : (n : ℕ) (profile : Profile) (events bytes : ℕ) → IsCut (Comes n profile) events bytes → 0 < events → taken_of (Comes n profile ∷ []) events bytes ≡ Comes n profile ∷ []
  came n profile zero bytes cut some = absurd (omega (arith, some))
  came n profile (suc zero) bytes cut some = refl
  came n profile (suc (suc k)) bytes cut some = absurd (omega (arith, cut.0))

  came_not : (n : ℕ) (profile : Profile) (events bytes : ℕ) → events ≡ 0 → IsCut (Comes n profile) events bytes → (taken_of (Comes n profile ∷ []) events bytes ≡ []) × (bytes ≡ 0)
  came_not n profile zero bytes e cut = (refl, cut)
  came_not n profile (suc k) bytes e cut = absurd (omega (arith, e))

  module _ (n : ℕ) (profile : Profile) (out : Told) (old mid : D) (told0 told1 : List StreamCall) (events bytes : ℕ) (over said : Bool) (most : ℕ) (e : Exchanges Did most n (Comes n profile) old mid events bytes told0 told1 over said) where
    abbrev opening_is : Exchange
    opening_is = record { took = taken_of (Comes n profile ∷ []) events bytes; answers = e.answers }

    pub carried_none : events ≡ 0 → CarriesTo n profile out old mid told0 told1 NoMemory
    carried_none none =
        let nothing = came_not n profile events bytes none e.cut in
        let silent = e.silent none nothing.1 in
        let s : IsSaid [] e.calls said = subst (λ (l : List ℕ). IsSaid l e.calls said) (ap all_sent silent) e.says in
        (opening_is ∷ [], (mid, e.did, refl), (e.calls, e.calls_are, inl (s.0, inr (opening_is, refl, nothing.0, silent))))

    pub carried_in_use : 0 < events → over ≡ true → CarriesTo n profile out old mid told0 told1 InUse
    carried_in_use some is_over = (opening_is ∷ [], (mid, e.did, refl), (e.calls, e.calls_are, inl (opening_is, said, refl, came n profile events bytes e.cut some, sym e.over_is ∙ is_over, e.says)))

    pub carried_lost : (new : D) → 0 < events → over ≡ false → said ≡ false → LeavesTo n mid new OutputFailed → CarriesTo n profile out old new told0 told1 OutputFailed
    carried_lost new some not_over lost left = (
      opening_is ∷ left.0,
      (mid, e.did, left.1),
      (
        e.calls,
        e.calls_are,
        inr (record {
          opening = opening_is;
          opened = came n profile events bytes e.cut some;
          is_open = sym e.over_is ∙ not_over;
          greeting = e.calls;
          all = said;
          greets = e.says;
          rounds = [];
          are = tt;
          last = [];
          end = [];
          stops = by_false said _ _ lost (refl, refl, refl, refl);
          left = left.0;
          leaves = left.2;
          asks_are = refl;
          calls_are = sym (append-nil e.calls);
        }),
      ),
    )

    pub carried_on : (between new : D) (told2 : List StreamCall) (ending : Carried) → 0 < events → over ≡ false → said ≡ true → Listened out.most n mid between told1 told2 ending → LeavesTo n between new ending → CarriesTo n profile out old new told0 told2 ending
    carried_on between new told2 ending some not_over is_said (rounds, last, end, asked, calls, are, stops) left = (
      opening_is ∷ ((asks_in rounds ++ last) ++ left.0),
      (mid, e.did, asked_join mid between new (asks_in rounds ++ last) left.0 asked left.1),
      (
        e.calls ++ (calls_in rounds ++ end),
        calls ∙ (ap (λ (l : List StreamCall). l ++ (calls_in rounds ++ end)) e.calls_are ∙ append_assoc told0 e.calls (calls_in rounds ++ end)),
        inr (record {
          opening = opening_is;
          opened = came n profile events bytes e.cut some;
          is_open = sym e.over_is ∙ not_over;
          greeting = e.calls;
          all = said;
          greets = e.says;
          rounds = rounds;
          are = are;
          last = last;
          end = end;
          stops = by_true said _ _ is_said stops;
          left = left.0;
          leaves = left.2;
          asks_are = refl;
          calls_are = refl;
        }),
      ),
    )
