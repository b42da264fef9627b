-- Lines that are read and done, one after another.
use Rattle.std.proofs.Common.{◌≡◌, ℕ, ◌+◌, ◌-◌, ◌^◌, ◌<◌, ◌≤◌, Bool, true, false, List, [], ◌∷◌, ◌++◌, length, take, drop, get_or, Some, None, refl, sym, ap, subst, ◌∙◌, inl, inr, append_assoc}
use Rattle.std.specs.Prelude.{◌==◌, if◌then◌else◌, OnErr, OnOk, Result, Ok, Err}
use Rattle.std.proofs.lemmas.Bool.{ne_eqb}
use Rattle.std.proofs.lemmas.List.{append-nil, drop_more, take-append-drop}
use Rattle.tp_hub.specs.Told.{Answer}
use Rattle.tp_hub.specs.Runs.{Incoming}
use Rattle.tp_hub.specs.Desks.{AreAsked, Exchange}
use Rattle.tp_hub.specs.Streams.{GaveAgain, StreamCall}
use Rattle.tp_lines.specs.ReadLines.{AreDone, AreRead, IsReadOnce, Leads, ReadAgain, ReadOn, ReadTire, left_from, lines_from, longer, one_more}

-- ---- asks and calls

module _ {D : Type 0} (Did : D → List Incoming → List Answer → D → Type 0) where
  asks_join : (xs ys : List Exchange) (old mid new : D) → AreAsked Did old xs mid → AreAsked Did mid ys new → AreAsked Did old (xs ++ ys) new
  asks_join [] ys old mid new e more = subst (λ (d : D). AreAsked Did d ys new) e more
  asks_join (x ∷ xs) ys old mid new (d, did, asked) more = (d, did, asks_join xs ys d mid new asked more)

  pub leads_none : (A : List Exchange → List StreamCall → Type 0) (d : D) (t : List StreamCall) → A [] [] → Leads Did A d d t t
  leads_none A d t p = record { asks = []; asked = refl; did = []; made = sym (append-nil t); are = p }

  pub leads_as : (A B : List Exchange → List StreamCall → Type 0) (a b : D) (t t' : List StreamCall) → Leads Did A a b t t' → ((xs : List Exchange) (ds : List StreamCall) → A xs ds → B xs ds) → Leads Did B a b t t'
  leads_as A B a b t t' p f = record { asks = p.asks; asked = p.asked; did = p.did; made = p.made; are = f p.asks p.did p.are }

  pub leads_join : (A B C : List Exchange → List StreamCall → Type 0) (a b c : D) (t0 t1 t2 : List StreamCall) → Leads Did A a b t0 t1 → Leads Did B b c t1 t2
      → ((xs ys : List Exchange) (ds es : List StreamCall) → A xs ds → B ys es → C (xs ++ ys) (ds ++ es)) → Leads Did C a c t0 t2
  leads_join A B C a b c t0 t1 t2 p q f = record {
    asks = p.asks ++ q.asks;
    asked = asks_join p.asks q.asks a b c p.asked q.asked;
    did = p.did ++ q.did;
    made = q.made ∙ (ap (λ (l : List StreamCall). l ++ q.did) p.made ∙ append_assoc t0 p.did q.did);
    are = f p.asks q.asks p.did q.did p.are q.are;
  }

  -- behind one call
  pub leads_call : (A B : List Exchange → List StreamCall → Type 0) (call : StreamCall) (a b : D) (t0 t1 t2 : List StreamCall) → t1 ≡ t0 ++ call ∷ [] → Leads Did A a b t1 t2
      → ((xs : List Exchange) (ds : List StreamCall) → A xs ds → B xs (call ∷ ds)) → Leads Did B a b t0 t2
  leads_call A B call a b t0 t1 t2 e p f = record {
    asks = p.asks;
    asked = p.asked;
    did = call ∷ p.did;
    made = p.made ∙ (ap (λ (l : List StreamCall). l ++ p.did) e ∙ append_assoc t0 (call ∷ []) p.did);
    are = f p.asks p.did p.are;
  }

  pub leads_once : (A : List Exchange → List StreamCall → Type 0) (call : StreamCall) (d : D) (t0 t1 : List StreamCall) → t1 ≡ t0 ++ call ∷ [] → A [] (call ∷ []) → Leads Did A d d t0 t1
  leads_once A call d t0 t1 e p = record { asks = []; asked = refl; did = call ∷ []; made = e; are = p }

-- ---- texts

lines_from_byte : (line : List ℕ) (byte : ℕ) (a b : List ℕ) (is : Bool) → ((now : List ℕ) → lines_from now (a ++ b) ≡ lines_from now a ++ lines_from (left_from now a) b)
    → (if is then line ∷ lines_from [] (a ++ b) else lines_from (longer line byte) (a ++ b)) ≡ (if is then line ∷ lines_from [] a else lines_from (longer line byte) a) ++ lines_from (if is then left_from [] a else left_from (longer line byte) a) b
lines_from_byte line byte a b true rest = ap (λ (l : List (List ℕ)). line ∷ l) (rest [])
lines_from_byte line byte a b false rest = rest (longer line byte)

lines_from-append : (a b line : List ℕ) → lines_from line (a ++ b) ≡ lines_from line a ++ lines_from (left_from line a) b
lines_from-append [] b line = refl
lines_from-append (byte ∷ a) b line = lines_from_byte line byte a b (byte == 10) (lines_from-append a b)

left_from_byte : (line : List ℕ) (byte : ℕ) (a b : List ℕ) (is : Bool) → ((now : List ℕ) → left_from now (a ++ b) ≡ left_from (left_from now a) b)
    → (if is then left_from [] (a ++ b) else left_from (longer line byte) (a ++ b)) ≡ left_from (if is then left_from [] a else left_from (longer line byte) a) b
left_from_byte line byte a b true rest = rest []
left_from_byte line byte a b false rest = rest (longer line byte)

left_from-append : (a b line : List ℕ) → left_from line (a ++ b) ≡ left_from (left_from line a) b
left_from-append [] b line = refl
left_from-append (byte ∷ a) b line = left_from_byte line byte a b (byte == 10) (left_from-append a b)

-- what a second text leaves
pub left_join : (line a b last left : List ℕ) → last ≡ left_from line a → left ≡ left_from last b → left ≡ left_from line (a ++ b)
left_join line a b last left p q = q ∙ (ap (λ (l : List ℕ). left_from l b) p ∙ sym (left_from-append a b line))

pub left_held : (line left : List ℕ) (byte : ℕ) → (byte ≡ 10 → ⊥) → left ≡ longer line byte → left ≡ left_from line (byte ∷ [])
left_held line left byte other is = is ∙ sym (ap (λ (b : Bool). if b then left_from [] [] else left_from (longer line byte) []) (ne_eqb byte 10 other))

pub left_none : (line left : List ℕ) (byte : ℕ) → byte ≡ 10 → left ≡ [] → left ≡ left_from line (byte ∷ [])
left_none line left byte is none = subst (λ (b : ℕ). left ≡ left_from line (b ∷ [])) (sym is) none

-- a text at one of its bytes
pub piece_at : (piece : List ℕ) (i : ℕ) → i < length piece → (take i piece ++ (get_or piece i 0 ∷ [])) ++ drop (i + 1) piece ≡ piece
piece_at piece i lt = append_assoc (take i piece) (get_or piece i 0 ∷ []) (drop (i + 1) piece) ∙ (ap (λ (l : List ℕ). take i piece ++ l) (sym (drop_more piece i 0 lt)) ∙ take-append-drop i piece)

-- ---- lines

module _ {E : Type 0} (Line : List ℕ → List Exchange → List StreamCall → Result (Unit {0}) E → Type 0) where
  pub done_one : (text : List ℕ) (count after : ℕ) (xs : List Exchange) (ds : List StreamCall) (result : Result (Unit {0}) E) → OnOk result (after ≡ one_more count) → OnErr result (after ≡ count) → Line text xs ds result → AreDone Line (text ∷ []) count xs ds after result
  done_one text count after xs ds (Ok tt) next same p = (xs, [], ds, [], Ok tt, sym (append-nil xs), sym (append-nil ds), p, (refl, refl, next, refl))
  done_one text count after xs ds (Err why) next same p = (xs, [], ds, [], Err why, sym (append-nil xs), sym (append-nil ds), p, (refl, refl, same, refl))

  done_join : (ts us : List (List ℕ)) (n m k : ℕ) (xs ys : List Exchange) (ds es : List StreamCall) (r : Result (Unit {0}) E) → AreDone Line ts n xs ds m (Ok tt) → AreDone Line us m ys es k r → AreDone Line (ts ++ us) n (xs ++ ys) (ds ++ es) k r
  done_join [] us n m k xs ys ds es r (x, d, c, e) q =
      subst (λ (v : List Exchange). AreDone Line us n (v ++ ys) (ds ++ es) k r) (sym x) (subst (λ (v : List StreamCall). AreDone Line us n ys (v ++ es) k r) (sym d) (subst (λ (v : ℕ). AreDone Line us v ys es k r) c q))
  done_join (t ∷ ts) us n m k xs ys ds es r (us1, bs, first, later, Ok tt, xa, da, line, rest) q =
      (us1, bs ++ ys, first, later ++ es, Ok tt, ap (λ (v : List Exchange). v ++ ys) xa ∙ append_assoc us1 bs ys, ap (λ (v : List StreamCall). v ++ es) da ∙ append_assoc first later es, line, done_join ts us (one_more n) m k bs ys later es r rest q)
  done_join (t ∷ ts) us n m k xs ys ds es r (us1, bs, first, later, Err why, xa, da, line, (none, nothing, same, wrong)) q = absurd cc

  done_stops : (ts us : List (List ℕ)) (n m : ℕ) (xs : List Exchange) (ds : List StreamCall) (why : E) → AreDone Line ts n xs ds m (Err why) → AreDone Line (ts ++ us) n xs ds m (Err why)
  done_stops [] us n m xs ds why (x, d, c, wrong) = absurd cc
  done_stops (t ∷ ts) us n m xs ds why (us1, bs, first, later, Ok tt, xa, da, line, rest) = (us1, bs, first, later, Ok tt, xa, da, line, done_stops ts us (one_more n) m bs later why rest)
  done_stops (t ∷ ts) us n m xs ds why (us1, bs, first, later, Err w, xa, da, line, rest) = (us1, bs, first, later, Err w, xa, da, line, rest)

  pub text_none : (line : List ℕ) (n : ℕ) → AreDone Line (lines_from line []) n [] [] n (Ok tt)
  text_none line n = (refl, refl, refl, refl)

  pub text_join : (line a b last : List ℕ) (n m k : ℕ) (xs ys : List Exchange) (ds es : List StreamCall) (r : Result (Unit {0}) E) → last ≡ left_from line a
      → AreDone Line (lines_from line a) n xs ds m (Ok tt) → AreDone Line (lines_from last b) m ys es k r → AreDone Line (lines_from line (a ++ b)) n (xs ++ ys) (ds ++ es) k r
  text_join line a b last n m k xs ys ds es r is p q =
      let same : lines_from line (a ++ b) ≡ lines_from line a ++ lines_from last b = lines_from-append a b line ∙ ap (λ (l : List ℕ). lines_from line a ++ lines_from l b) (sym is) in
      subst (λ (ts : List (List ℕ)). AreDone Line ts n (xs ++ ys) (ds ++ es) k r) (sym same) (done_join (lines_from line a) (lines_from last b) n m k xs ys ds es r p q)

  pub text_stops : (line a more : List ℕ) (n m : ℕ) (xs : List Exchange) (ds : List StreamCall) (why : E) → AreDone Line (lines_from line a) n xs ds m (Err why) → AreDone Line (lines_from line (a ++ more)) n xs ds m (Err why)
  text_stops line a more n m xs ds why p =
      subst (λ (ts : List (List ℕ)). AreDone Line ts n xs ds m (Err why)) (sym (lines_from-append a more line)) (done_stops (lines_from line a) (lines_from (left_from line a) more) n m xs ds why p)

  pub byte_ends : (line : List ℕ) (byte count after : ℕ) (xs : List Exchange) (ds : List StreamCall) (result : Result (Unit {0}) E) → byte ≡ 10 → OnOk result (after ≡ one_more count) → OnErr result (after ≡ count) → Line line xs ds result
      → AreDone Line (lines_from line (byte ∷ [])) count xs ds after result
  byte_ends line byte count after xs ds result is next same p = subst (λ (b : ℕ). AreDone Line (lines_from line (b ∷ [])) count xs ds after result) (sym is) (done_one line count after xs ds result next same p)

  pub byte_held : (line : List ℕ) (byte count : ℕ) → (byte ≡ 10 → ⊥) → AreDone Line (lines_from line (byte ∷ [])) count [] [] count (Ok tt)
  byte_held line byte count other =
      subst (λ (ts : List (List ℕ)). AreDone Line ts count [] [] count (Ok tt)) (sym (ap (λ (b : Bool). if b then line ∷ lines_from [] [] else lines_from (longer line byte) []) (ne_eqb byte 10 other))) (text_none (longer line byte) count)

-- ---- read after read

module _ {E : Type 0} (Line : List ℕ → List Exchange → List StreamCall → Result (Unit {0}) E → Type 0) (failed : E) (last : List ℕ → List (List ℕ)) where
  once_completes : (turns : ℕ) (line line' : List ℕ) (n m k : ℕ) (xs more : List Exchange) (ds later : List StreamCall) (r : Result (Unit {0}) E)
      → IsReadOnce Line failed last line n xs ds line' m None → AreRead Line failed last (turns + 1) line' m more later k r → AreRead Line failed last turns line n (xs ++ more) (ds ++ later) k r
  once_completes turns line line' n m k xs more ds later r (inl (piece, calls, is, left, done)) p =
      subst (λ (v : List StreamCall). AreRead Line failed last turns line n (xs ++ more) (v ++ later) k r) (sym is) (ReadOn piece m xs more calls later done (subst (λ (l : List ℕ). AreRead Line failed last (turns + 1) l m more later k r) left p))
  once_completes turns line line' n m k xs more ds later r (inr (is, none, same, count)) p =
      subst (λ (v : List StreamCall). AreRead Line failed last turns line n (xs ++ more) (v ++ later) k r) (sym is)
      (subst (λ (v : List Exchange). AreRead Line failed last turns line n (v ++ more) (GaveAgain ∷ later) k r) (sym none)
      (ReadAgain (subst (λ (l : List ℕ). AreRead Line failed last (turns + 1) l n more later k r) same (subst (λ (c : ℕ). AreRead Line failed last (turns + 1) line' c more later k r) count p))))

  -- so far these asks and calls were made, and whatever is read from there on completes them
  abbrev pub SoFar : List ℕ → ℕ → ℕ → List ℕ → ℕ → List Exchange → List StreamCall → Type 0
  SoFar line n turns line' m xs ds = (more : List Exchange) (later : List StreamCall) (k : ℕ) (r : Result (Unit {0}) E) → AreRead Line failed last turns line' m more later k r → AreRead Line failed last 0 line n (xs ++ more) (ds ++ later) k r

  pub so_far_more : (line l l' : List ℕ) (n turns m k : ℕ) (xs ys : List Exchange) (ds es : List StreamCall) → SoFar line n turns l m xs ds → IsReadOnce Line failed last l m ys es l' k None → SoFar line n (turns + 1) l' k (xs ++ ys) (ds ++ es)
  so_far_more line l l' n turns m k xs ys ds es s once more later j r p =
      subst (λ (v : List Exchange). AreRead Line failed last 0 line n v ((ds ++ es) ++ later) j r) (sym (append_assoc xs ys more))
      (subst (λ (v : List StreamCall). AreRead Line failed last 0 line n (xs ++ (ys ++ more)) v j r) (sym (append_assoc ds es later)) (s (ys ++ more) (es ++ later) j r (once_completes turns l l' m k j ys more es later r once p)))

  pub so_far_ends : (line l l' : List ℕ) (n turns m k : ℕ) (xs ys : List Exchange) (ds es : List StreamCall) (r : Result (Unit {0}) E) → SoFar line n turns l m xs ds → IsReadOnce Line failed last l m ys es l' k (Some r) → AreRead Line failed last 0 line n (xs ++ ys) (ds ++ es) k r
  so_far_ends line l l' n turns m k xs ys ds es r s once = s ys es k r (once turns)

  pub so_far_tired : (line l : List ℕ) (n turns m : ℕ) (xs : List Exchange) (ds : List StreamCall) → SoFar line n turns l m xs ds → 2 ^ 64 - 1 ≤ turns → AreRead Line failed last 0 line n xs ds m (Err failed)
  so_far_tired line l n turns m xs ds s many =
      subst (λ (v : List Exchange). AreRead Line failed last 0 line n v ds m (Err failed)) (append-nil xs) (subst (λ (v : List StreamCall). AreRead Line failed last 0 line n (xs ++ []) v m (Err failed)) (append-nil ds) (s [] [] m (Err failed) (ReadTire many)))
