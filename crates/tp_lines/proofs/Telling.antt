-- Answers told in text, line after line.
use Rattle.std.proofs.Common.{◌≡◌, ℕ, zero, suc, ◌+◌, ◌<◌, ◌≤◌, Bool, true, false, List, [], ◌∷◌, ◌++◌, length, take, drop, get_or, refl, sym, ap, subst, ◌∙◌, arith, append_assoc, inl, length-append}
use Rattle.std.specs.Prelude.{◌/◌, ◌%◌, ◌==◌, codes}
use Rattle.std.proofs.lemmas.Bool.{ne_eqb}
use Rattle.std.specs.Fmt.{decimal}
use Rattle.std.proofs.lemmas.List.{append-nil, drop-drop, drop_all, drop_more, take-append-drop}
use Rattle.std.proofs.Math.Seq.{take-add}
use Rattle.tp_hub.specs.declared.answers.Mark.{Mark}
use Rattle.tp_hub.specs.declared.answers.Mark.TheVariants as marks
use Rattle.tp_hub.specs.Told.{Accepts, Answer, Closes, Lines, Refuses, Says, len_of, told, total}
use Rattle.tp_hub.specs.Carrying.{IsSaid}
use Rattle.tp_hub.specs.Streams.{Flushes, IsSent, Makes, StreamCall, Writes}
use Rattle.tp_hub.proofs.Streaming.{sent_whole, writes_first, writes_then}
use Rattle.tp_lines.specs.Lines.{hex_digit}
use Rattle.tp_lines.specs.Texts.{answer_of, hexed, newline, text_in, text_of}

pub writes_none : (a : List StreamCall) → Writes a a [] true
writes_none a = ([], sym (append-nil a), refl)

-- ---- and a flush behind them

text_of-some : (answer : Answer) (texts : List ℕ) → 0 < length (text_of answer ++ texts)
text_of-some (Says n bytes) texts = omega arith
text_of-some (Closes n) texts = omega arith
text_of-some (Refuses reason) texts = omega arith
text_of-some Accepts texts = omega arith
text_of-some (Lines bytes) texts =
    let a : length ((bytes ++ newline) ++ texts) ≡ length (bytes ++ newline) + length texts = length-append (bytes ++ newline) texts in
    let b : length (bytes ++ newline) ≡ length bytes + 1 = length-append bytes newline in
    omega (arith, a, b)

-- a text that has bytes
sent_is_said : (text : List ℕ) (did : List StreamCall) (all : Bool) → 0 < length text → IsSent text did all → IsSaid text did all
sent_is_said [] did all some s = absurd (omega (arith, some))
sent_is_said (byte ∷ bytes) did all some s = s

text_some : (answers : List Answer) → 0 < length answers → 0 < length (text_in answers)
text_some [] some = absurd (omega (arith, some))
text_some (answer ∷ answers) some = text_of-some answer (text_in answers)

pub is_none : (n : ℕ) → (n == 0) ≡ true → n ≡ 0
is_none zero e = refl
is_none (suc n) e = let wrong : false ≡ true = sym (ne_eqb (suc n) 0 (λ z. absurd (omega (arith, z)))) ∙ e in absurd cc

pub is_some : (n : ℕ) → (n == 0) ≡ false → 0 < n
is_some zero e = absurd cc
is_some (suc n) e = omega arith

pub said_none : (a : List StreamCall) (answers : List Answer) → length answers ≡ 0 → Makes a a (λ did. IsSaid (text_in answers) did true)
said_none a [] none = ([], sym (append-nil a), (refl, refl))
said_none a (answer ∷ answers) none = absurd (omega (arith, none))

pub said_lost : (a b : List StreamCall) (answers : List Answer) → 0 < length answers → Writes a b (text_in answers) false → Makes a b (λ did. IsSaid (text_in answers) did false)
said_lost a b answers some (did, e, put) = (did, e, sent_is_said (text_in answers) did false (text_some answers some) (inl put))

pub said_all : (a b c : List StreamCall) (answers : List Answer) (done : Bool) → 0 < length answers → Writes a b (text_in answers) true → c ≡ b ++ Flushes done ∷ [] → Makes a c (λ did. IsSaid (text_in answers) did done)
said_all a b c answers done some put e =
    let s = sent_whole a b c (text_in answers) done put e in
    (s.0, s.1, sent_is_said (text_in answers) s.0 done (text_some answers some) s.2)

-- ---- marks

pub record Telling (t0 t : List StreamCall) (at : ℕ) (left : List Mark) (bytes all : List ℕ) : Type 0 where
  pub text : List ℕ
  pub wrote : Writes t0 t text true
  pub rest : text ++ text_in (told left (drop at bytes)) ≡ all
  pub fits : at + total left ≤ length bytes

told_one : (mark : Mark) (left : List Mark) (bytes : List ℕ) → told (mark ∷ left) bytes ≡ answer_of mark (take (len_of mark) bytes) ∷ told left (drop (len_of mark) bytes)
told_one (marks.Sent session len) left bytes = refl
told_one (marks.End session) left bytes = refl
told_one (marks.Refused reason) left bytes = refl
told_one marks.Done left bytes = refl
told_one (marks.Line len) left bytes = refl

-- ---- a writer that goes on

drop_at : (a b : List ℕ) (at n : ℕ) → a ≡ take n (drop at b) → take at b ++ (a ++ drop n (drop at b)) ≡ b
drop_at a b at n is = ap (λ (l : List ℕ). take at b ++ (l ++ drop n (drop at b))) is ∙ (ap (λ (l : List ℕ). take at b ++ l) (take-append-drop n (drop at b)) ∙ take-append-drop at b)

pub hexed-append : (a b : List ℕ) → hexed (a ++ b) ≡ hexed a ++ hexed b
hexed-append [] b = refl
hexed-append (c ∷ a) b = ap (λ (l : List ℕ). hex_digit (c / 16) ∷ hex_digit (c % 16) ∷ l) (hexed-append a b)

pub hex_lost : (t0 t t' : List StreamCall) (bytes front : List ℕ) (at n : ℕ) → front ≡ take n (drop at bytes) → Writes t0 t (hexed (take at bytes)) true → Writes t t' (hexed front) false → Writes t0 t' (hexed bytes) false
hex_lost t0 t t' bytes front at n is before lost =
    let both : Writes t0 t' (hexed (take at bytes) ++ hexed front) false = writes_then t0 t t' (hexed (take at bytes)) (hexed front) false before lost in
    let all : Writes t0 t' ((hexed (take at bytes) ++ hexed front) ++ hexed (drop n (drop at bytes))) false = writes_first t0 t' (hexed (take at bytes) ++ hexed front) (hexed (drop n (drop at bytes))) both in
    let whole : (hexed (take at bytes) ++ hexed front) ++ hexed (drop n (drop at bytes)) ≡ hexed bytes =
    append_assoc (hexed (take at bytes)) (hexed front) (hexed (drop n (drop at bytes)))
    ∙ (ap (λ (l : List ℕ). hexed (take at bytes) ++ l) (sym (hexed-append front (drop n (drop at bytes))))
    ∙ (sym (hexed-append (take at bytes) (front ++ drop n (drop at bytes))) ∙ ap hexed (drop_at front bytes at n is))) in
    subst (λ (l : List ℕ). Writes t0 t' l false) whole all

pub hex_more : (t0 t t' : List StreamCall) (bytes front : List ℕ) (at n : ℕ) → front ≡ take n (drop at bytes) → Writes t0 t (hexed (take at bytes)) true → Writes t t' (hexed front) true → Writes t0 t' (hexed (take (at + n) bytes)) true
hex_more t0 t t' bytes front at n is before more =
    let both : Writes t0 t' (hexed (take at bytes) ++ hexed front) true = writes_then t0 t t' (hexed (take at bytes)) (hexed front) true before more in
    subst (λ (l : List ℕ). Writes t0 t' l true) (sym (hexed-append (take at bytes) front) ∙ ap hexed (ap (λ (l : List ℕ). take at bytes ++ l) is ∙ sym (take-add at n bytes))) both

-- ---- what a session is sent

pub sent_head : (t t' : List StreamCall) (n : ℕ) (bytes head word : List ℕ) → word ≡ codes "sent " ++ decimal n → head ≡ word ++ codes " " → Writes t t' head false → Writes t t' (text_of (Says n bytes)) false
sent_head t t' n bytes head word w h lost =
    writes_first t t' ((codes "sent " ++ decimal n) ++ codes " ") (hexed bytes ++ newline) (subst (λ (l : List ℕ). Writes t t' l false) (h ∙ ap (λ (l : List ℕ). l ++ codes " ") w) lost)

pub sent_hex : (t0 t t' : List StreamCall) (n : ℕ) (bytes head word : List ℕ) → word ≡ codes "sent " ++ decimal n → head ≡ word ++ codes " " → Writes t0 t head true → Writes t t' (hexed bytes) false → Writes t0 t' (text_of (Says n bytes)) false
sent_hex t0 t t' n bytes head word w h before lost =
    writes_then t0 t t' ((codes "sent " ++ decimal n) ++ codes " ") (hexed bytes ++ newline) false (subst (λ (l : List ℕ). Writes t0 t l true) (h ∙ ap (λ (l : List ℕ). l ++ codes " ") w) before) (writes_first t t' (hexed bytes) newline lost)

pub sent_all : (t0 t1 t2 t3 : List StreamCall) (n : ℕ) (bytes head word : List ℕ) (all : Bool) → word ≡ codes "sent " ++ decimal n → head ≡ word ++ codes " " → Writes t0 t1 head true → Writes t1 t2 (hexed bytes) true → Writes t2 t3 newline all → Writes t0 t3 (text_of (Says n bytes)) all
sent_all t0 t1 t2 t3 n bytes head word all w h before more last =
    writes_then t0 t1 t3 ((codes "sent " ++ decimal n) ++ codes " ") (hexed bytes ++ newline) all (subst (λ (l : List ℕ). Writes t0 t1 l true) (h ∙ ap (λ (l : List ℕ). l ++ codes " ") w) before) (writes_then t1 t2 t3 (hexed bytes) newline all more last)

-- ---- marks

pub tell_none : (t : List StreamCall) (marks : List Mark) (bytes : List ℕ) → total marks ≤ length bytes → Telling t t 0 marks bytes (text_in (told marks bytes))
tell_none t marks bytes fits = record { text = []; wrote = writes_none t; rest = refl; fits = omega (arith, fits) }

left_more : (at i : ℕ) (d : Mark) (marks : List Mark) (bytes front : List ℕ) → i < length marks → front ≡ take (len_of (get_or marks i d)) (drop at bytes)
    → text_in (told (drop i marks) (drop at bytes)) ≡ text_of (answer_of (get_or marks i d) front) ++ text_in (told (drop (i + 1) marks) (drop (at + len_of (get_or marks i d)) bytes))
left_more at i d marks bytes front lt is =
    let m : Mark = get_or marks i d in
    ap (λ (l : List Mark). text_in (told l (drop at bytes))) (drop_more marks i d lt)
    ∙ (ap text_in (told_one m (drop (i + 1) marks) (drop at bytes))
    ∙ (ap (λ (l : List ℕ). text_of (answer_of m l) ++ text_in (told (drop (i + 1) marks) (drop (len_of m) (drop at bytes)))) (sym is)
    ∙ ap (λ (l : List ℕ). text_of (answer_of m front) ++ text_in (told (drop (i + 1) marks) l)) (drop-drop (len_of m) at bytes)))

pub mark_fits : (at i : ℕ) (d : Mark) (marks : List Mark) (bytes : List ℕ) → i < length marks → at + total (drop i marks) ≤ length bytes → at + len_of (get_or marks i d) + total (drop (i + 1) marks) ≤ length bytes
mark_fits at i d marks bytes lt fits = let e = ap total (drop_more marks i d lt) in omega (arith, e, fits)

pub tell_more : (t0 t t' : List StreamCall) (at i : ℕ) (d : Mark) (marks : List Mark) (bytes front all : List ℕ) → i < length marks → front ≡ take (len_of (get_or marks i d)) (drop at bytes)
    → Telling t0 t at (drop i marks) bytes all → Writes t t' (text_of (answer_of (get_or marks i d) front)) true → Telling t0 t' (at + len_of (get_or marks i d)) (drop (i + 1) marks) bytes all
tell_more t0 t t' at i d marks bytes front all lt is r more =
    let one : List ℕ = text_of (answer_of (get_or marks i d) front) in
    record {
      text = r.text ++ one;
      wrote = writes_then t0 t t' r.text one true r.wrote more;
      rest = append_assoc r.text one _ ∙ (ap (λ (l : List ℕ). r.text ++ l) (sym (left_more at i d marks bytes front lt is)) ∙ r.rest);
      fits = mark_fits at i d marks bytes lt r.fits;
    }

pub tell_lost : (t0 t t' : List StreamCall) (at i : ℕ) (d : Mark) (marks : List Mark) (bytes front all : List ℕ) → i < length marks → front ≡ take (len_of (get_or marks i d)) (drop at bytes)
    → Telling t0 t at (drop i marks) bytes all → Writes t t' (text_of (answer_of (get_or marks i d) front)) false → Writes t0 t' all false
tell_lost t0 t t' at i d marks bytes front all lt is r lost =
    let one : List ℕ = text_of (answer_of (get_or marks i d) front) in
    let rest : List ℕ = text_in (told (drop (i + 1) marks) (drop (at + len_of (get_or marks i d)) bytes)) in
    subst (λ (l : List ℕ). Writes t0 t' l false) (ap (λ (l : List ℕ). r.text ++ l) (sym (left_more at i d marks bytes front lt is)) ∙ r.rest)
    (writes_then t0 t t' r.text (one ++ rest) false r.wrote (writes_first t t' one rest lost))

pub tell_all : (t0 t : List StreamCall) (at i : ℕ) (marks : List Mark) (bytes all : List ℕ) → length marks ≤ i → Telling t0 t at (drop i marks) bytes all → Writes t0 t all true
tell_all t0 t at i marks bytes all over r =
    let none : text_in (told (drop i marks) (drop at bytes)) ≡ [] = ap (λ (l : List Mark). text_in (told l (drop at bytes))) (drop_all i marks over) in
    subst (λ (l : List ℕ). Writes t0 t l true) (sym (append-nil r.text) ∙ (ap (λ (l : List ℕ). r.text ++ l) (sym none) ∙ r.rest)) r.wrote
