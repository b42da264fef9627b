-- Control lines answered one after another.
use Rattle.std.proofs.Common.{◌≡◌, ℕ, zero, suc, ◌+◌, ◌-◌, ◌^◌, ◌<◌, ◌≤◌, Bool, true, false, List, [], ◌∷◌, ◌++◌, length, get_or, Option, Some, None, refl, sym, ap, subst, ◌∙◌, arith, inl, inr}
use Rattle.std.specs.Prelude.{◌==◌, codes, Result, Ok, Err}
use Rattle.std.proofs.lemmas.Bool.{ne_eqb}
use Rattle.tp_hub.specs.Told.{Answer, Told, HasRoom}
use Rattle.tp_hub.specs.Runs.{Incoming, Comes, Brings, Goes, Orders, AsksDeltaOf, AsksFlush, AsksLine, AsksLineOf, AsksMapOf, AsksSizeOf, taken_of}
use Rattle.tp_hub.specs.Desks.{Exchange, IsAsked, IsBegun, IsCut}
use Rattle.tp_hub.specs.Carrying.{IsSaid}
use Rattle.tp_hub.specs.Streams.{Gave, GaveAgain, GaveEnd, GaveNone, Makes, StreamCall}
use Rattle.tp_lines.specs.Controls.{AnswersLine, AnswersOrEnds, AsksFor, AttendsLines, IsControl, IsPlain, drops_last, ended_by, message_of}
use Rattle.tp_lines.specs.Lines.{IsNoLine}
use Rattle.tp_lines.specs.Pages.{IsNoPage}
use Rattle.tp_lines.specs.ReadLines.{AreDone, AreRead, IsReadOnce, Leads, ReadEnd, ReadFail, ReadStop, left_from, lines_from, one_more}
use Rattle.tp_lines.specs.Texts.{text_in}
use Rattle.tp_lines.specs.declared.control.LinesEnd.TheVariants.{EndOfInput}
use Rattle.tp_lines.specs.declared.control.Lost.{Lost}
use Rattle.tp_lines.specs.declared.control.Lost.TheVariants.{Input, Output}
use Rattle.tp_lines.specs.declared.line.ScriptLine.TheVariants.{Status, Thin}
use Rattle.tp_lines.proofs.Doing.{SoFar, byte_ends, byte_held, leads_none, so_far_ends, so_far_more, so_far_tired, text_join, text_none, text_stops}
use Rattle.tp_lines.proofs.Playing.{one_text}

-- ---- one line

-- a line of a script that asks for no status line is a message
pub no_line : (text line : List ℕ) → line ≡ message_of text → IsNoLine text → IsPlain text (Orders line)
no_line text line said none = (said, λ e. none Status tt e, λ id lt e. none (Thin id) lt e)

-- nor does a text that begins with another letter ask for one
headed : (text line whole : List ℕ) (n : ℕ) → line ≡ message_of text → text ≡ whole → get_or whole 0 0 ≡ n → (n ≡ 115 → ⊥) → (n ≡ 116 → ⊥) → IsPlain text (Orders line)
headed text line whole n said is first s t =
    let begins : get_or text 0 0 ≡ n = ap (λ (l : List ℕ). get_or l 0 0) is ∙ first in
    (said, λ e. s (sym begins ∙ ap (λ (l : List ℕ). get_or l 0 0) e), λ id lt e. t (sym begins ∙ ap (λ (l : List ℕ). get_or l 0 0) e))

pub asks_nothing : (text line : List ℕ) → line ≡ message_of text → text ≡ [] → IsPlain text (Orders line)
asks_nothing text line said is = headed text line [] 0 said is refl (λ e. absurd (omega (arith, e))) (λ e. absurd (omega (arith, e)))

pub asks_open : (text line rest : List ℕ) → line ≡ message_of text → text ≡ codes "open " ++ rest → IsPlain text (Orders line)
asks_open text line rest said is = headed text line (codes "open " ++ rest) 111 said is refl (λ e. absurd (omega (arith, e))) (λ e. absurd (omega (arith, e)))

pub asks_bytes : (text line rest : List ℕ) → line ≡ message_of text → text ≡ codes "bytes " ++ rest → IsPlain text (Orders line)
asks_bytes text line rest said is = headed text line (codes "bytes " ++ rest) 98 said is refl (λ e. absurd (omega (arith, e))) (λ e. absurd (omega (arith, e)))

pub asks_hangup : (text line rest : List ℕ) → line ≡ message_of text → text ≡ codes "hangup " ++ rest → IsPlain text (Orders line)
asks_hangup text line rest said is = headed text line (codes "hangup " ++ rest) 104 said is refl (λ e. absurd (omega (arith, e))) (λ e. absurd (omega (arith, e)))

pub asks_message : (text line rest : List ℕ) → line ≡ message_of text → text ≡ codes "message " ++ rest → IsPlain text (Orders line)
asks_message text line rest said is = headed text line (codes "message " ++ rest) 109 said is refl (λ e. absurd (omega (arith, e))) (λ e. absurd (omega (arith, e)))

-- a line that asks for no page
pub plain_control : (text : List ℕ) (event : Incoming) → IsNoPage text → IsPlain text event → IsControl text event
plain_control text (Comes n a) none plain = absurd plain
plain_control text (Brings n piece) none plain = absurd plain
plain_control text (Goes n) none plain = absurd plain
plain_control text (Orders line) none plain = (plain, none)
plain_control text AsksLine none plain = plain
plain_control text (AsksLineOf id) none plain = plain
plain_control text (AsksSizeOf id) none plain = absurd plain
plain_control text (AsksMapOf id first) none plain = absurd plain
plain_control text (AsksDeltaOf old new first) none plain = absurd plain
plain_control text AsksFlush none plain = absurd plain

-- an event of a control line is taken whole
whole_of : (text : List ℕ) (event : Incoming) (events bytes : ℕ) → IsControl text event → IsCut event events bytes → IsBegun event events bytes → taken_of (event ∷ []) events bytes ≡ event ∷ []
whole_of text (Comes n a) events bytes is cut begun = absurd is
whole_of text (Brings n piece) events bytes is cut begun = absurd is
whole_of text (Goes n) events bytes is cut begun = absurd is
whole_of text (Orders line) zero bytes is cut begun = absurd (omega (arith, begun))
whole_of text AsksLine zero bytes is cut begun = absurd (omega (arith, begun))
whole_of text (AsksLineOf id) zero bytes is cut begun = absurd (omega (arith, begun))
whole_of text (AsksSizeOf id) zero bytes is cut begun = absurd (omega (arith, begun))
whole_of text (AsksMapOf id first) zero bytes is cut begun = absurd (omega (arith, begun))
whole_of text (AsksDeltaOf old new first) zero bytes is cut begun = absurd (omega (arith, begun))
whole_of text AsksFlush events bytes is cut begun = absurd is
whole_of text event (suc zero) bytes is cut begun = refl
whole_of text event (suc (suc n)) bytes is cut begun = let none = cut.0 in absurd (omega (arith, none))

asks_one : (text : List ℕ) (event : Incoming) (x : Exchange) → 0 < length text → IsControl text event → x.took ≡ event ∷ [] → AsksFor text (x ∷ [])
asks_one [] event x some is took = absurd (omega (arith, some))
asks_one (byte ∷ bytes) event x some is took = (event, x, is, took, refl)

-- a line without bytes
pub empty_is : (text : List ℕ) → (length text == 0) ≡ true → text ≡ []
empty_is [] is = refl
empty_is (byte ∷ bytes) is = let wrong : false ≡ true = sym (ne_eqb (length (byte ∷ bytes)) 0 (λ e. absurd (omega (arith, e)))) ∙ is in absurd cc

module _ {D : Type 0} (Did : D → List Incoming → List Answer → D → Type 0) where
  pub line_asked : (text : List ℕ) (event : Incoming) (events bytes : ℕ) (old new : D) (before after : Told) (told told' : List StreamCall) (all : Bool) → 0 < length text → IsControl text event → before.list ≡ [] → HasRoom before
      → IsAsked (λ took answers. Did old took answers new) event events bytes before after → Makes told told' (λ did. IsSaid (text_in after.list) did all) → Leads Did (λ asks did. AnswersLine text asks did all) old new told told'
  line_asked text event events bytes old new before after told told' all some is empty fits a says =
      let whole : taken_of (event ∷ []) events bytes ≡ event ∷ [] = whole_of text event events bytes is a.cut (a.begun fits) in
      let only : after.list ≡ a.answers = a.adds.list ∙ ap (λ (l : List Answer). l ++ a.answers) empty in
      let x : Exchange = record { took = event ∷ []; answers = a.answers } in
      record {
        asks = x ∷ [];
        asked = (new, subst (λ (took : List Incoming). Did old took a.answers new) whole a.did, refl);
        did = says.0;
        made = says.1;
        are = (asks_one text event x some is refl, subst (λ (l : List ℕ). IsSaid l says.0 all) (ap text_in only ∙ sym (one_text a.answers)) says.2);
      }

  pub line_empty : (text : List ℕ) (d : D) (t : List StreamCall) → text ≡ [] → Leads Did (λ asks did. AnswersLine text asks did true) d d t t
  line_empty text d t is = leads_none Did (λ asks did. AnswersLine text asks did true) d t (subst (λ (l : List ℕ). AnswersLine l [] [] true) (sym is) (refl, (refl, refl)))

-- ---- the same as what goes on or ends

pub answered_all : (text : List ℕ) (xs : List Exchange) (ds : List StreamCall) (all : Bool) → AnswersLine text xs ds all → all ≡ true → AnswersOrEnds text xs ds (Ok (tt {0}))
answered_all text xs ds true p is = p
answered_all text xs ds false p is = absurd cc

pub answered_lost : (text : List ℕ) (xs : List Exchange) (ds : List StreamCall) (all : Bool) → AnswersLine text xs ds all → all ≡ false → AnswersOrEnds text xs ds (Err Output)
answered_lost text xs ds true p is = absurd cc
answered_lost text xs ds false p is = p

-- however many lines were done before
abbrev pub DoneSo : List ℕ → List ℕ → Result (Unit {0}) Lost → List Exchange → List StreamCall → Type 0
DoneSo line text result xs ds = (count : ℕ) → (after : ℕ) × AreDone AnswersOrEnds (lines_from line text) count xs ds after result

abbrev pub OnceSo : List ℕ → List ℕ → Option (Result (Unit {0}) Lost) → List Exchange → List StreamCall → Type 0
OnceSo line line' went xs ds = (count : ℕ) → (after : ℕ) × IsReadOnce AnswersOrEnds Input drops_last line count xs ds line' after went

pub line_so : (line : List ℕ) (byte : ℕ) (result : Result (Unit {0}) Lost) (xs : List Exchange) (ds : List StreamCall) → byte ≡ 10 → AnswersOrEnds line xs ds result → DoneSo line (byte ∷ []) result xs ds
line_so line byte (Ok done) xs ds is p count = (one_more count, byte_ends AnswersOrEnds line byte count (one_more count) xs ds (Ok done) is refl tt p)
line_so line byte (Err why) xs ds is p count = (count, byte_ends AnswersOrEnds line byte count count xs ds (Err why) is tt refl p)

pub held_so : (line : List ℕ) (byte : ℕ) → (byte ≡ 10 → ⊥) → DoneSo line (byte ∷ []) (Ok (tt {0})) [] []
held_so line byte other count = (count, byte_held AnswersOrEnds line byte count other)

pub none_so : (line : List ℕ) → DoneSo line [] (Ok (tt {0})) [] []
none_so line count = (count, text_none AnswersOrEnds line count)

pub join_so : (line a b last : List ℕ) (r : Result (Unit {0}) Lost) → last ≡ left_from line a → (xs ys : List Exchange) (ds es : List StreamCall) → DoneSo line a (Ok (tt {0})) xs ds → DoneSo last b r ys es → DoneSo line (a ++ b) r (xs ++ ys) (ds ++ es)
join_so line a b last r is xs ys ds es p q count = let mid = p count in let after = q mid.0 in (after.0, text_join AnswersOrEnds line a b last count mid.0 after.0 xs ys ds es r is mid.1 after.1)

pub stops_so : (line a more : List ℕ) (why : Lost) (xs : List Exchange) (ds : List StreamCall) → DoneSo line a (Err why) xs ds → DoneSo line (a ++ more) (Err why) xs ds
stops_so line a more why xs ds p count = let after = p count in (after.0, text_stops AnswersOrEnds line a more count after.0 xs ds why after.1)

-- ---- one read

pub gave_on : (line line' piece : List ℕ) (xs : List Exchange) (ds : List StreamCall) → line' ≡ left_from line piece → DoneSo line piece (Ok (tt {0})) xs ds → OnceSo line line' None xs (Gave piece ∷ ds)
gave_on line line' piece xs ds left p count = let after = p count in (after.0, inl (piece, ds, refl, left, after.1))

pub gave_last : (line line' piece : List ℕ) (why : Lost) (xs : List Exchange) (ds : List StreamCall) → DoneSo line piece (Err why) xs ds → OnceSo line line' (Some (Err why)) xs (Gave piece ∷ ds)
gave_last line line' piece why xs ds p count = let after = p count in (after.0, λ reads. ReadStop piece after.1)

pub gave_again : (line : List ℕ) → OnceSo line line None [] (GaveAgain ∷ [])
gave_again line count = (count, inr (refl, refl, refl, refl))

pub gave_end : (line line' : List ℕ) → OnceSo line line' (Some (Ok (tt {0}))) [] (GaveEnd ∷ [])
gave_end line line' count = (count, λ reads. ReadEnd (refl, refl, refl, refl))

pub gave_none : (line line' : List ℕ) → OnceSo line line' (Some (Err Input)) [] (GaveNone ∷ [])
gave_none line line' count = (count, λ reads. ReadFail)

-- ---- read after read

abbrev pub AllSo : List ℕ → Result (Unit {0}) Lost → List Exchange → List StreamCall → Type 0
AllSo line result xs ds = (count : ℕ) × AreRead AnswersOrEnds Input drops_last 0 line 0 xs ds count result

abbrev pub GoneOn : List ℕ → ℕ → List ℕ → List Exchange → List StreamCall → Type 0
GoneOn line turns line' xs ds = (m : ℕ) × SoFar AnswersOrEnds Input drops_last line 0 turns line' m xs ds

pub gone_none : (line : List ℕ) → GoneOn line 0 line [] []
gone_none line = (0, λ more later k r p. p)

pub gone_more : (line l l' : List ℕ) (turns : ℕ) (went : Option (Result (Unit {0}) Lost)) → went ≡ None → (xs ys : List Exchange) (ds es : List StreamCall) → GoneOn line turns l xs ds → OnceSo l l' went ys es → GoneOn line (turns + 1) l' (xs ++ ys) (ds ++ es)
gone_more line l l' turns None is xs ys ds es g p = let after = p g.0 in (after.0, so_far_more AnswersOrEnds Input drops_last line l l' 0 turns g.0 after.0 xs ys ds es g.1 after.1)
gone_more line l l' turns (Some r) is xs ys ds es g p = absurd cc

pub gone_ends : (line l l' : List ℕ) (turns : ℕ) (went : Option (Result (Unit {0}) Lost)) (result : Result (Unit {0}) Lost) → went ≡ Some result → (xs ys : List Exchange) (ds es : List StreamCall) → GoneOn line turns l xs ds → OnceSo l l' went ys es → AllSo line result (xs ++ ys) (ds ++ es)
gone_ends line l l' turns went result is xs ys ds es g p =
    let after = subst (λ (o : Option (Result (Unit {0}) Lost)). OnceSo l l' o ys es) is p g.0 in
    (after.0, so_far_ends AnswersOrEnds Input drops_last line l l' 0 turns g.0 after.0 xs ys ds es result g.1 after.1)

pub gone_tired : (line l : List ℕ) (turns : ℕ) → 2 ^ 64 - 1 ≤ turns → (xs : List Exchange) (ds : List StreamCall) → GoneOn line turns l xs ds → AllSo line (Err Input) xs ds
gone_tired line l turns many xs ds g = (g.0, so_far_tired AnswersOrEnds Input drops_last line l 0 turns g.0 xs ds g.1 many)

pub attends_end : (line : List ℕ) → line ≡ [] → (xs : List Exchange) (ds : List StreamCall) → AllSo line (Ok (tt {0})) xs ds → AttendsLines xs ds EndOfInput
attends_end line first xs ds all = subst (λ (l : List ℕ). AllSo l (Ok (tt {0})) xs ds) first all

pub attends_lost : (line : List ℕ) (why : Lost) → line ≡ [] → (xs : List Exchange) (ds : List StreamCall) → AllSo line (Err why) xs ds → AttendsLines xs ds (ended_by why)
attends_lost line Input first xs ds all = subst (λ (l : List ℕ). AllSo l (Err Input) xs ds) first all
attends_lost line Output first xs ds all = subst (λ (l : List ℕ). AllSo l (Err Output) xs ds) first all
