-- Lines of a script played one after another.
use Rattle.std.proofs.Common.{◌≡◌, ℕ, zero, suc, ◌+◌, ◌<◌, ◌≤◌, Bool, true, false, List, [], ◌∷◌, ◌++◌, length, take, drop, Option, Some, None, refl, sym, ap, subst, ◌∙◌, arith, inl, inr, append_assoc}
use Rattle.std.specs.Prelude.{◌⊎◌, not, OnErr, OnOk, Result, Ok, Err}
use Rattle.std.proofs.lemmas.List.{append-nil, drop-drop, drop_all, length-drop, length-take-le, take-append-drop}
use Rattle.tp_hub.specs.Told.{Answer, HasRoom, Told}
use Rattle.nbd_session.specs.declared.phase.Profile.{Profile}
use Rattle.tp_hub.specs.Runs.{Incoming, Comes, Brings, Goes, Orders, AsksDeltaOf, AsksFlush, AsksLine, AsksLineOf, AsksMapOf, AsksSizeOf, taken_of}
use Rattle.tp_hub.specs.Desks.{Exchange, IsAsked, IsBegun, IsCut}
use Rattle.tp_hub.specs.Carrying.{IsSaid}
use Rattle.tp_hub.specs.Streams.{Gave, GaveAgain, GaveEnd, GaveNone, Makes, StreamCall}
use Rattle.tp_lines.specs.Plays.{Asks, GivesAll, IsWhole, PlaysLine, PlaysScript, Takes, ends_last}
use Rattle.tp_lines.specs.ReadLines.{AreDone, AreRead, IsReadOnce, Leads, ReadEnd, ReadFail, ReadStop, left_from, lines_from, one_more}
use Rattle.tp_lines.specs.declared.play.Stopped.{Stopped}
use Rattle.tp_lines.specs.declared.play.Stopped.TheVariants.{Memory, Output, Script}
use Rattle.tp_lines.specs.Texts.{text_in}
use Rattle.tp_lines.proofs.Doing.{SoFar, leads_join, done_one, so_far_ends, so_far_more}

-- ---- one ask

pub one_text : (answers : List Answer) → text_in (answers ++ []) ≡ text_in answers
one_text answers = ap text_in (append-nil answers)

-- what was taken of an event that is no piece
taken_whole : (event : Incoming) (events bytes : ℕ) → IsWhole event → IsCut event events bytes
    → ((0 < events) × (taken_of (event ∷ []) events bytes ≡ event ∷ [])) ⊎ ((events ≡ 0) × (bytes ≡ 0) × (taken_of (event ∷ []) events bytes ≡ []))
taken_whole (Comes n a) zero bytes whole cut = inr (refl, cut, refl)
taken_whole (Brings n piece) zero bytes whole cut = absurd whole
taken_whole (Goes n) zero bytes whole cut = inr (refl, cut, refl)
taken_whole (Orders line) zero bytes whole cut = inr (refl, cut, refl)
taken_whole AsksLine zero bytes whole cut = inr (refl, cut, refl)
taken_whole (AsksLineOf id) zero bytes whole cut = inr (refl, cut, refl)
taken_whole (AsksSizeOf id) zero bytes whole cut = inr (refl, cut, refl)
taken_whole (AsksMapOf id first) zero bytes whole cut = inr (refl, cut, refl)
taken_whole (AsksDeltaOf old new first) zero bytes whole cut = inr (refl, cut, refl)
taken_whole AsksFlush zero bytes whole cut = inr (refl, cut, refl)
taken_whole event (suc zero) bytes whole cut = inl (omega arith, refl)
taken_whole event (suc (suc n)) bytes whole cut = let none = cut.0 in absurd (omega (arith, none))

-- Only a client that comes may not be taken.
comes_so : (event : Incoming) (bytes : ℕ) → IsWhole event → IsBegun event 0 bytes → (n : ℕ) × (profile : Profile) × (event ≡ Comes n profile)
comes_so (Comes n a) bytes whole begun = (n, a, refl)
comes_so (Brings n piece) bytes whole begun = absurd whole
comes_so (Goes n) bytes whole begun = absurd (omega (arith, begun))
comes_so (Orders line) bytes whole begun = absurd (omega (arith, begun))
comes_so AsksLine bytes whole begun = absurd (omega (arith, begun))
comes_so (AsksLineOf id) bytes whole begun = absurd (omega (arith, begun))
comes_so (AsksSizeOf id) bytes whole begun = absurd (omega (arith, begun))
comes_so (AsksMapOf id first) bytes whole begun = absurd (omega (arith, begun))
comes_so (AsksDeltaOf old new first) bytes whole begun = absurd (omega (arith, begun))
comes_so AsksFlush bytes whole begun = absurd (omega (arith, begun))

-- and of a piece
taken_piece : (n : ℕ) (piece : List ℕ) (events bytes : ℕ) → IsCut (Brings n piece) events bytes → IsBegun (Brings n piece) events bytes
    → ((0 < events) × (taken_of (Brings n piece ∷ []) events bytes ≡ Brings n piece ∷ []))
    ⊎ ((events ≡ 0) × (0 < bytes) × (bytes < length piece) × (taken_of (Brings n piece ∷ []) events bytes ≡ Brings n (take bytes piece) ∷ []))
taken_piece n piece zero zero cut begun = absurd (omega (arith, begun))
taken_piece n piece zero (suc k) (inl none) begun = absurd (omega (arith, none))
taken_piece n piece zero (suc k) (inr lt) begun = inr (refl, omega arith, lt, refl)
taken_piece n piece (suc zero) bytes cut begun = inl (omega arith, refl)
taken_piece n piece (suc (suc k)) bytes cut begun = let none = cut.0 in absurd (omega (arith, none))

pub not_false : (b : Bool) → not b ≡ true → b ≡ false
not_false true e = absurd cc
not_false false e = refl

pub not_true : (b : Bool) → not b ≡ false → b ≡ true
not_true true e = refl
not_true false e = absurd cc

said_nothing : (answers : List Answer) (did : List StreamCall) (all : Bool) → answers ≡ [] → IsSaid (text_in answers) did all → (did ≡ []) × (all ≡ true)
said_nothing answers did all none says = subst (λ (l : List Answer). IsSaid (text_in l) did all) none says

module _ {D : Type 0} (Did : D → List Incoming → List Answer → D → Type 0) where
  pub asks_so : (event : Incoming) (events bytes : ℕ) (old new : D) (before after : Told) (t t' : List StreamCall) (all : Bool) → IsAsked (λ took answers. Did old took answers new) event events bytes before after → before.list ≡ [] → HasRoom before
      → Makes t t' (λ did. IsSaid (text_in after.list) did all) → Asks Did event old new t t' events bytes all
  asks_so event events bytes old new before after t t' all a empty fits says =
      let only : after.list ≡ a.answers = a.adds.list ∙ ap (λ (l : List Answer). l ++ a.answers) empty in
      record {
        answers = a.answers;
        asked = a.did;
        cut = a.cut;
        silent = a.silent;
        begun = a.begun fits;
        did = says.0;
        made = says.1;
        says = subst (λ (l : List ℕ). IsSaid l says.0 all) (ap text_in only) says.2;
      }

  module _ (event : Incoming) (old new : D) (t t' : List StreamCall) (events bytes : ℕ) (all : Bool) (whole : IsWhole event) (a : Asks Did event old new t t' events bytes all) where
    abbrev this : Exchange
    this = record { took = taken_of (event ∷ []) events bytes; answers = a.answers }

    by_this : (result : Result (Unit {0}) Stopped) → Takes event (this ∷ []) a.did result → Leads Did (λ asks did. Takes event asks did result) old new t t'
    by_this result takes = record { asks = this ∷ []; asked = (new, a.asked, refl); did = a.did; made = a.made; are = takes }

    pub event_lost : all ≡ false → Leads Did (λ asks did. Takes event asks did (Err Output)) old new t t'
    event_lost lost = by_this (Err Output) (elim (taken_whole event events bytes whole a.cut) [
      | inl it ↦ (this, refl, it.1, subst (λ (b : Bool). IsSaid (text_in a.answers) a.did b) lost a.says)
      | inr none ↦ let wrong = (said_nothing a.answers a.did all (a.silent none.0 none.1) a.says).1 in let no_such : false ≡ true = sym lost ∙ wrong in absurd cc
    ])

    pub event_short : all ≡ true → events ≡ 0 → Leads Did (λ asks did. Takes event asks did (Err Memory)) old new t t'
    event_short done none = by_this (Err Memory) (elim (taken_whole event events bytes whole a.cut) [
      | inl it ↦ let some = it.0 in absurd (omega (arith, some, none))
      | inr nothing ↦
          let silent : a.answers ≡ [] = a.silent nothing.0 nothing.1 in
          (this, refl, nothing.2, silent, (said_nothing a.answers a.did all silent a.says).0, comes_so event bytes whole (subst (λ (n : ℕ). IsBegun event n bytes) none a.begun))
    ])

    pub event_done : all ≡ true → 0 < events → Leads Did (λ asks did. Takes event asks did (Ok (tt {0}))) old new t t'
    event_done done some = by_this (Ok (tt {0})) (elim (taken_whole event events bytes whole a.cut) [
      | inl it ↦ (this, refl, it.1, subst (λ (b : Bool). IsSaid (text_in a.answers) a.did b) done a.says)
      | inr none ↦ let z = none.0 in absurd (omega (arith, z, some))
    ])

-- ---- pieces

-- so far a piece was given up to a place, and whatever is given from there on completes it
abbrev pub GivenTo : ℕ → List ℕ → ℕ → List Exchange → List StreamCall → Type 0
GivenTo n piece at xs ds = (ys : List Exchange) (later : List StreamCall) (result : Result (Unit {0}) Stopped) → GivesAll n (drop at piece) ys later result → GivesAll n piece (xs ++ ys) (ds ++ later) result

pub given_none : (n : ℕ) (piece : List ℕ) → GivenTo n piece 0 [] []
given_none n piece ys later result p = p

pub given_all : (n : ℕ) (piece : List ℕ) (at : ℕ) (xs : List Exchange) (ds : List StreamCall) → length piece ≤ at → GivenTo n piece at xs ds → GivesAll n piece xs ds (Ok (tt {0}))
given_all n piece at xs ds over g =
    subst (λ (l : List Exchange). GivesAll n piece l ds (Ok (tt {0}))) (append-nil xs) (subst (λ (l : List StreamCall). GivesAll n piece (xs ++ []) l (Ok (tt {0}))) (append-nil ds) (g [] [] (Ok (tt {0})) (drop_all at piece over, refl, refl)))

pub left_some : (at : ℕ) (piece rest : List ℕ) → at < length piece → rest ≡ drop at piece → 0 < length rest
left_some at piece rest lt is = let len : length rest ≡ length (drop at piece) = ap length is in omega (arith, len, length-drop at piece, lt)

module _ {D : Type 0} (Did : D → List Incoming → List Answer → D → Type 0) (n : ℕ) (piece rest : List ℕ) (at : ℕ) (mid new : D) (t1 t2 : List StreamCall) (events bytes : ℕ) (all : Bool) (is : rest ≡ drop at piece) (a : Asks Did (Brings n rest) mid new t1 t2 events bytes all) where
  abbrev asked : Exchange
  asked = record { took = taken_of (Brings n rest ∷ []) events bytes; answers = a.answers }

  -- the front that was taken
  front_so : 0 < length rest → (front : List ℕ) × (behind : List ℕ) × (rest ≡ front ++ behind) × (asked.took ≡ Brings n front ∷ []) × (0 < length front)
  front_so some = elim (taken_piece n rest events bytes a.cut a.begun) [
    | inl it ↦ (rest, [], sym (append-nil rest), it.1, some)
    | inr part ↦ let b = part.1 in let lt = part.2 in (take bytes rest, drop bytes rest, sym (take-append-drop bytes rest), part.3, omega (arith, length-take-le bytes rest (omega (arith, lt)), b))
  ]

  front_all : 0 < events → asked.took ≡ Brings n rest ∷ []
  front_all some = elim (taken_piece n rest events bytes a.cut a.begun) [ inl it ↦ it.1 | inr part ↦ let z = part.0 in absurd (omega (arith, z, some)) ]

  abbrev FrontPart : Type 0
  FrontPart = (0 < bytes) × (bytes < length rest) × (asked.took ≡ Brings n (take bytes rest) ∷ [])

  front_part : events ≡ 0 → FrontPart
  front_part none = elim (taken_piece n rest events bytes a.cut a.begun) [ inl it ↦ let s = it.0 in absurd (omega (arith, s, none)) | inr part ↦ (part.1, part.2, part.3) ]

  one_ask : (result : Result (Unit {0}) Stopped) → GivesAll n rest (asked ∷ []) a.did result → Leads Did (λ asks did. GivesAll n (drop at piece) asks did result) mid new t1 t2
  one_ask result gives = record { asks = asked ∷ []; asked = (new, a.asked, refl); did = a.did; made = a.made; are = subst (λ (l : List ℕ). GivesAll n l (asked ∷ []) a.did result) is gives }

  module _ (old : D) (t0 : List StreamCall) (g : Leads Did (GivenTo n piece at) old mid t0 t1) where
    ends_so : (result : Result (Unit {0}) Stopped) → GivesAll n rest (asked ∷ []) a.did result → Leads Did (λ asks did. GivesAll n piece asks did result) old new t0 t2
    ends_so result gives = leads_join Did (GivenTo n piece at) (λ asks did. GivesAll n (drop at piece) asks did result) (λ asks did. GivesAll n piece asks did result) old mid new t0 t1 t2 g (one_ask result gives) (λ xs ys ds es s p. s ys es result p)

    pub piece_lost : 0 < length rest → all ≡ false → Leads Did (λ asks did. GivesAll n piece asks did (Err Output)) old new t0 t2
    piece_lost some lost =
        let f = front_so some in
        ends_so (Err Output) (f.0, f.1, a.did, [], false, f.2, sym (append-nil a.did), f.3, f.4, subst (λ (b : Bool). IsSaid (text_in a.answers) a.did b) lost a.says, (refl, refl, refl))

    pub piece_done : 0 < length rest → all ≡ true → 0 < events → Leads Did (λ asks did. GivesAll n piece asks did (Ok (tt {0}))) old new t0 t2
    piece_done some done whole =
        ends_so (Ok (tt {0})) (rest, [], a.did, [], true, sym (append-nil rest), sym (append-nil a.did), front_all whole, some, subst (λ (b : Bool). IsSaid (text_in a.answers) a.did b) done a.says, (refl, refl, refl))

    pub piece_inside : at ≤ length piece → events ≡ 0 → at + bytes ≤ length piece
    piece_inside within none = let lt = (front_part none).1 in let len : length rest ≡ length (drop at piece) = ap length is in omega (arith, lt, len, length-drop at piece, within)

    pub piece_begun : events ≡ 0 → 0 < bytes
    piece_begun none = (front_part none).0

    pub piece_more : all ≡ true → events ≡ 0 → Leads Did (GivenTo n piece (at + bytes)) old new t0 t2
    piece_more done none =
        let f : FrontPart = front_part none in
        let b = f.0 in
        let lt = f.1 in
        let behind : drop bytes rest ≡ drop (at + bytes) piece = ap (drop bytes) is ∙ drop-drop bytes at piece in
        let here : Leads Did (λ asks did. (asks ≡ asked ∷ []) × (did ≡ a.did)) mid new t1 t2 = record { asks = asked ∷ []; asked = (new, a.asked, refl); did = a.did; made = a.made; are = (refl, refl) } in
        leads_join Did (GivenTo n piece at) (λ asks did. (asks ≡ asked ∷ []) × (did ≡ a.did)) (GivenTo n piece (at + bytes)) old mid new t0 t1 t2 g here (λ xs ys ds es s p. λ zs later result rest_of.
        let step : GivesAll n rest (asked ∷ zs) (a.did ++ later) result = (
          take bytes rest,
          drop bytes rest,
          a.did,
          later,
          true,
          sym (take-append-drop bytes rest),
          refl,
          f.2,
          omega (arith, length-take-le bytes rest (omega (arith, lt)), b),
          subst (λ (v : Bool). IsSaid (text_in a.answers) a.did v) done a.says,
          subst (λ (l : List ℕ). GivesAll n l zs later result) (sym behind) rest_of,
        ) in
        let whole : GivesAll n piece (xs ++ (asked ∷ zs)) (ds ++ (a.did ++ later)) result = s (asked ∷ zs) (a.did ++ later) result (subst (λ (l : List ℕ). GivesAll n l (asked ∷ zs) (a.did ++ later) result) is step) in
        subst (λ (l : List Exchange). GivesAll n piece ((xs ++ l) ++ zs) ((ds ++ es) ++ later) result) (sym p.0)
        (subst (λ (l : List StreamCall). GivesAll n piece ((xs ++ asked ∷ []) ++ zs) ((ds ++ l) ++ later) result) (sym p.1)
        (subst (λ (l : List Exchange). GivesAll n piece l ((ds ++ a.did) ++ later) result) (sym (append_assoc xs (asked ∷ []) zs))
        (subst (λ (l : List StreamCall). GivesAll n piece (xs ++ (asked ∷ zs)) l result) (sym (append_assoc ds a.did later)) whole))))

-- ---- one read, with what is offered to each who comes

module _ (profile : Profile) where
  pub played_on : (line line' piece : List ℕ) (n m : ℕ) (xs : List Exchange) (ds : List StreamCall) → line' ≡ left_from line piece → AreDone (PlaysLine profile) (lines_from line piece) n xs ds m (Ok (tt {0})) → IsReadOnce (PlaysLine profile) Script ends_last line n xs (Gave piece ∷ ds) line' m None
  played_on line line' piece n m xs ds left p = inl (piece, ds, refl, left, p)

  pub played_last : (line line' piece : List ℕ) (n m : ℕ) (why : Stopped) (xs : List Exchange) (ds : List StreamCall) → AreDone (PlaysLine profile) (lines_from line piece) n xs ds m (Err why) → IsReadOnce (PlaysLine profile) Script ends_last line n xs (Gave piece ∷ ds) line' m (Some (Err why))
  played_last line line' piece n m why xs ds p reads = ReadStop piece p

  pub played_again : (line : List ℕ) (n : ℕ) → IsReadOnce (PlaysLine profile) Script ends_last line n [] (GaveAgain ∷ []) line n None
  played_again line n = inr (refl, refl, refl, refl)

  pub played_end : (line line' : List ℕ) (n m : ℕ) (result : Result (Unit {0}) Stopped) → OnOk result (m ≡ one_more n) → OnErr result (m ≡ n) → (xs : List Exchange) (ds : List StreamCall) → PlaysLine profile line xs ds result → IsReadOnce (PlaysLine profile) Script ends_last line n xs (GaveEnd ∷ ds) line' m (Some result)
  played_end line line' n m result next same xs ds p reads = ReadEnd (done_one (PlaysLine profile) line n m xs ds result next same p)

  pub played_none : (line line' : List ℕ) (n : ℕ) → IsReadOnce (PlaysLine profile) Script ends_last line n [] (GaveNone ∷ []) line' n (Some (Err Script))
  played_none line line' n reads = ReadFail

  -- ---- read after read

  pub read_more : (line l l' : List ℕ) (n turns m k : ℕ) (went : Option (Result (Unit {0}) Stopped)) → went ≡ None → (xs ys : List Exchange) (ds es : List StreamCall) → SoFar (PlaysLine profile) Script ends_last line n turns l m xs ds → IsReadOnce (PlaysLine profile) Script ends_last l m ys es l' k went
      → SoFar (PlaysLine profile) Script ends_last line n (turns + 1) l' k (xs ++ ys) (ds ++ es)
  read_more line l l' n turns m k None is xs ys ds es s once = so_far_more (PlaysLine profile) Script ends_last line l l' n turns m k xs ys ds es s once
  read_more line l l' n turns m k (Some result) is xs ys ds es s once = absurd cc

  pub read_ends : (line l l' : List ℕ) (n turns m k : ℕ) (went : Option (Result (Unit {0}) Stopped)) (result : Result (Unit {0}) Stopped) → went ≡ Some result → (xs ys : List Exchange) (ds es : List StreamCall) → SoFar (PlaysLine profile) Script ends_last line n turns l m xs ds
      → IsReadOnce (PlaysLine profile) Script ends_last l m ys es l' k went → AreRead (PlaysLine profile) Script ends_last 0 line n (xs ++ ys) (ds ++ es) k result
  read_ends line l l' n turns m k went result is xs ys ds es s once =
      so_far_ends (PlaysLine profile) Script ends_last line l l' n turns m k xs ys ds es result s (subst (λ (o : Option (Result (Unit {0}) Stopped)). IsReadOnce (PlaysLine profile) Script ends_last l m ys es l' k o) is once)

  pub from_first : (line : List ℕ) (n k : ℕ) (result : Result (Unit {0}) Stopped) → line ≡ [] → n ≡ 0 → (xs : List Exchange) (ds : List StreamCall) → AreRead (PlaysLine profile) Script ends_last 0 line n xs ds k result → PlaysScript profile xs ds k result
  from_first line n k result first none xs ds p = inr (subst (λ (c : ℕ). AreRead (PlaysLine profile) Script ends_last 0 [] c xs ds k result) none (subst (λ (l : List ℕ). AreRead (PlaysLine profile) Script ends_last 0 l n xs ds k result) first p))
