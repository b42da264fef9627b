-- Lines that wait while others were written.
use Rattle.std.proofs.Common.{◌≡◌, ℕ, ◌+◌, ◌<◌, ◌≤◌, Bool, true, false, List, [], ◌∷◌, ◌++◌, length, drop, get_or, refl, sym, ap, subst, ◌∙◌, arith, append_assoc, inl, inr, length-append}
use Rattle.std.specs.Prelude.{codes}
use Rattle.std.proofs.lemmas.List.{append-nil, drop_all, drop_more}
use Rattle.tp_listings.specs.declared.extent.Extent.{Extent}
use Rattle.tp_listings.specs.declared.extent.Usage.{Usage}
use Rattle.tp_hub.specs.Streams.{Flushes, IsSent, Makes, StreamCall, Writes}
use Rattle.tp_hub.proofs.Streaming.{both_to, calls_then, writes_first, writes_then}
use Rattle.tp_texts.specs.Texts.{delta_text, hole_text, lines_of, run_text, runs_text, usage_text}
use Rattle.tp_texts.specs.Writing.{MovesOn}

-- a text that is sent, or is not, behind one that was written
sent_then : (a b c : List StreamCall) (x y : List ℕ) (done : Bool) → Writes a b x true → Makes b c (λ did. IsSent y did done) → Makes a c (λ did. IsSent (x ++ y) did done)
sent_then a b c x y true (p, e, w) (q, f, (ws, v, is)) =
    (p ++ q, calls_then a b c p q e f, (p ++ ws, both_to x y [] p ws w v, ap (λ (l : List StreamCall). p ++ l) is ∙ sym (append_assoc p ws (Flushes true ∷ []))))
sent_then a b c x y false before (q, f, inl put) = let lost : Writes a c (x ++ y) false = writes_then a b c x y false before (q, f, put) in (lost.0, lost.1, inl lost.2)
sent_then a b c x y false (p, e, w) (q, f, inr (ws, v, is)) =
    (p ++ q, calls_then a b c p q e f, inr (p ++ ws, both_to x y [] p ws w v, ap (λ (l : List StreamCall). p ++ l) is ∙ sym (append_assoc p ws (Flushes false ∷ []))))

-- ---- what was written, what waits and what is left are the whole

pub record Telling (t0 t : List StreamCall) (waits left all : List ℕ) : Type 0 where
  pub text : List ℕ
  pub wrote : Writes t0 t text true
  pub whole : text ++ (waits ++ left) ≡ all

pub begun : (t : List StreamCall) (waits left : List ℕ) → Telling t t waits left (waits ++ left)
begun t waits left = record { text = []; wrote = ([], sym (append-nil t), refl); whole = refl }

moved : (t0 t t' : List StreamCall) (before after left all : List ℕ) → Telling t0 t before left all → MovesOn t t' before after true → Telling t0 t' after left all
moved t0 t t' before after left all told (more, wrote, is) = record {
  text = told.text ++ more;
  wrote = writes_then t0 t t' told.text more true told.wrote wrote;
  whole = append_assoc told.text more (after ++ left)
      ∙ (ap (λ (l : List ℕ). told.text ++ l) (sym (append_assoc more after left) ∙ ap (λ (l : List ℕ). l ++ left) is) ∙ told.whole);
}

added : (t0 t : List StreamCall) (before after one left all : List ℕ) → after ≡ before ++ one → Telling t0 t before (one ++ left) all → Telling t0 t after left all
added t0 t before after one left all is told = record {
  text = told.text;
  wrote = told.wrote;
  whole = ap (λ (l : List ℕ). told.text ++ l) (ap (λ (l : List ℕ). l ++ left) is ∙ append_assoc before one left) ∙ told.whole;
}

-- room was made for an entry, and it waits now
pub told_more : (t0 t t' : List StreamCall) (before free after one rest left all : List ℕ) → left ≡ one ++ rest → Telling t0 t before left all → MovesOn t t' before free true → after ≡ free ++ one → Telling t0 t' after rest all
told_more t0 t t' before free after one rest left all cut told move is =
    added t0 t' free after one rest all is (subst (λ (l : List ℕ). Telling t0 t' free l all) cut (moved t0 t t' before free left all told move))

pub told_lost : (t0 t t' : List StreamCall) (before after left all : List ℕ) → Telling t0 t before left all → MovesOn t t' before after false → Makes t0 t' (λ did. IsSent all did false)
told_lost t0 t t' before after left all told lost =
    let put : Writes t0 t' all false = subst (λ (l : List ℕ). Writes t0 t' l false) told.whole (writes_then t0 t t' told.text (before ++ left) false told.wrote (writes_first t t' before left lost)) in
    (put.0, put.1, inl put.2)

-- nothing is left, and what waits is sent
pub told_all : (t0 t t' : List StreamCall) (waits bytes left all : List ℕ) (done : Bool) → left ≡ [] → bytes ≡ waits → Telling t0 t waits left all → Makes t t' (λ did. IsSent bytes did done) → Makes t0 t' (λ did. IsSent all did done)
told_all t0 t t' waits bytes left all done none is told sent =
    let rest : bytes ≡ waits ++ left = is ∙ (sym (append-nil waits) ∙ ap (λ (l : List ℕ). waits ++ l) (sym none)) in
    let whole : told.text ++ bytes ≡ all = ap (λ (l : List ℕ). told.text ++ l) rest ∙ told.whole in
    subst (λ (l : List ℕ). Makes t0 t' (λ did. IsSent l did done)) whole (sent_then t0 t t' told.text bytes done told.wrote sent)

-- ---- the lines that are left

pub runs_cut : (base unit i : ℕ) (d : Extent) (es : List Extent) → i < length es
    → runs_text base unit (drop i es) ≡ (run_text base unit (get_or es i d).first (get_or es i d).blocks ++ codes "\n") ++ runs_text base unit (drop (i + 1) es)
runs_cut base unit i d es lt =
    ap (runs_text base unit) (drop_more es i d lt)
    ∙ sym (append_assoc (run_text base unit (get_or es i d).first (get_or es i d).blocks) (codes "\n") (runs_text base unit (drop (i + 1) es)))

pub runs_over : (base unit i : ℕ) (es : List Extent) → length es ≤ i → runs_text base unit (drop i es) ≡ []
runs_over base unit i es over = ap (runs_text base unit) (drop_all i es over)

pub delta_cut : (unit end from i : ℕ) (d : Extent) (es : List Extent) → i < length es
    → delta_text unit end from (drop i es) ≡ (hole_text unit from (get_or es i d).first ++ (run_text 0 unit (get_or es i d).first (get_or es i d).blocks ++ codes "\n")) ++ delta_text unit end ((get_or es i d).first + (get_or es i d).blocks) (drop (i + 1) es)
delta_cut unit end from i d es lt =
    let e : Extent = get_or es i d in
    let run : List ℕ = run_text 0 unit e.first e.blocks in
    let rest : List ℕ = delta_text unit end (e.first + e.blocks) (drop (i + 1) es) in
    ap (delta_text unit end from) (drop_more es i d lt)
    ∙ (ap (λ (l : List ℕ). hole_text unit from e.first ++ l) (sym (append_assoc run (codes "\n") rest))
    ∙ sym (append_assoc (hole_text unit from e.first) (run ++ codes "\n") rest))

pub delta_over : (unit end from i : ℕ) (es : List Extent) → length es ≤ i → delta_text unit end from (drop i es) ≡ hole_text unit from end ++ []
delta_over unit end from i es over = ap (delta_text unit end from) (drop_all i es over) ∙ sym (append-nil (hole_text unit from end))

pub usages_cut : (unit : ℕ) (is_held : Bool) (i : ℕ) (d : Usage) (us : List Usage) → i < length us
    → lines_of unit is_held (drop i us) ≡ usage_text unit is_held (get_or us i d) ++ lines_of unit is_held (drop (i + 1) us)
usages_cut unit is_held i d us lt = ap (lines_of unit is_held) (drop_more us i d lt)

pub usages_over : (unit : ℕ) (is_held : Bool) (i : ℕ) (us : List Usage) → length us ≤ i → lines_of unit is_held (drop i us) ≡ []
usages_over unit is_held i us over = ap (lines_of unit is_held) (drop_all i us over)
