-- Writes one after another.
use Rattle.std.proofs.Common.{◌≡◌, ℕ, zero, suc, ◌<◌, Some, ◌+◌, ◌-◌, ◌^◌, ◌≤◌, Bool, true, false, List, [], ◌∷◌, ◌++◌, length, take, drop, inl, inr, refl, sym, ap, subst, ◌∙◌, arith, append_assoc, length-append}
use Rattle.std.proofs.lemmas.List.{append-nil, drop-drop, drop_all, take-append-drop}
use Rattle.tp_hub.specs.Streams.{Flushes, Gave, GaveAgain, GaveEnd, GaveNone, IsPut, IsSent, Makes, StreamCall, some_call, Took, TookAgain, TookNone, Writes, WritesTo}

-- one write more, which takes some of the rest
pub writes_more : (text : List ℕ) (calls : List StreamCall) (rest bytes behind : List ℕ) → WritesTo text calls rest → rest ≡ bytes ++ behind → WritesTo text (calls ++ Took bytes ∷ []) behind
writes_more text [] rest bytes behind w e = (behind, w ∙ e, refl)
writes_more text (Took b ∷ calls) rest bytes behind w e = (w.0, w.1, writes_more w.0 calls rest bytes behind w.2 e)
writes_more text (TookAgain ∷ calls) rest bytes behind w e = writes_more text calls rest bytes behind w e
writes_more text (TookNone ∷ calls) rest bytes behind w e = absurd w
writes_more text (Gave b ∷ calls) rest bytes behind w e = absurd w
writes_more text (GaveAgain ∷ calls) rest bytes behind w e = absurd w
writes_more text (GaveEnd ∷ calls) rest bytes behind w e = absurd w
writes_more text (GaveNone ∷ calls) rest bytes behind w e = absurd w
writes_more text (Flushes done ∷ calls) rest bytes behind w e = absurd w

-- one that is interrupted
pub writes_again : (text : List ℕ) (calls : List StreamCall) (rest : List ℕ) → WritesTo text calls rest → WritesTo text (calls ++ TookAgain ∷ []) rest
writes_again text [] rest w = w
writes_again text (Took b ∷ calls) rest w = (w.0, w.1, writes_again w.0 calls rest w.2)
writes_again text (TookAgain ∷ calls) rest w = writes_again text calls rest w
writes_again text (TookNone ∷ calls) rest w = absurd w
writes_again text (Gave b ∷ calls) rest w = absurd w
writes_again text (GaveAgain ∷ calls) rest w = absurd w
writes_again text (GaveEnd ∷ calls) rest w = absurd w
writes_again text (GaveNone ∷ calls) rest w = absurd w
writes_again text (Flushes done ∷ calls) rest w = absurd w

-- so far the calls of a loop have written up to a place
abbrev pub Writing : List StreamCall → List StreamCall → List ℕ → ℕ → ℕ → Type 0
Writing old new bytes at turns = (did : List StreamCall) × (new ≡ old ++ did) × WritesTo bytes did (drop at bytes) × (length did ≡ turns)

pub begun : (old : List StreamCall) (bytes : List ℕ) → Writing old old bytes 0 0
begun old bytes = ([], sym (append-nil old), refl, refl)

one_longer : (did : List StreamCall) (call : StreamCall) (turns : ℕ) → length did ≡ turns → length (did ++ call ∷ []) ≡ turns + 1
one_longer did call turns len = let l : length (did ++ call ∷ []) ≡ length did + 1 = length-append did (call ∷ []) in omega (arith, l, len)

behind_is : (at count : ℕ) (bytes : List ℕ) → drop at bytes ≡ take count (drop at bytes) ++ drop (at + count) bytes
behind_is at count bytes = sym (take-append-drop count (drop at bytes)) ∙ ap (λ (l : List ℕ). take count (drop at bytes) ++ l) (drop-drop count at bytes)

pub wrote_more : (old mid new : List StreamCall) (bytes : List ℕ) (at turns count : ℕ) → Writing old mid bytes at turns → new ≡ mid ++ Took (take count (drop at bytes)) ∷ [] → Writing old new bytes (at + count) (turns + 1)
wrote_more old mid new bytes at turns count w e = (
  w.0 ++ Took (take count (drop at bytes)) ∷ [],
  e ∙ (ap (λ l. l ++ Took (take count (drop at bytes)) ∷ []) w.1 ∙ append_assoc old w.0 (Took (take count (drop at bytes)) ∷ [])),
  writes_more bytes w.0 (drop at bytes) (take count (drop at bytes)) (drop (at + count) bytes) w.2 (behind_is at count bytes),
  one_longer w.0 _ turns w.3,
)

pub wrote_again : (old mid new : List StreamCall) (bytes : List ℕ) (at turns : ℕ) → Writing old mid bytes at turns → new ≡ mid ++ TookAgain ∷ [] → Writing old new bytes at (turns + 1)
wrote_again old mid new bytes at turns w e =
    (w.0 ++ TookAgain ∷ [], e ∙ (ap (λ l. l ++ TookAgain ∷ []) w.1 ∙ append_assoc old w.0 (TookAgain ∷ [])), writes_again bytes w.0 (drop at bytes) w.2, one_longer w.0 _ turns w.3)

pub wrote_some : (old mid new : List StreamCall) (bytes : List ℕ) (at turns count : ℕ) → Writing old mid bytes at turns → new ≡ mid ++ some_call (Some count) (drop at bytes) ∷ [] → Writing old new bytes (at + count) (turns + 1)
wrote_some old mid new bytes at turns zero w e = let same : at + 0 ≡ at = omega arith in subst (λ n. Writing old new bytes n (turns + 1)) (sym same) (wrote_again old mid new bytes at turns w e)
wrote_some old mid new bytes at turns (suc count) w e = wrote_more old mid new bytes at turns (suc count) w e

pub some_bytes : (count : ℕ) (bytes : List ℕ) → 0 < count → Took (take count bytes) ≡ some_call (Some count) bytes
some_bytes zero bytes lt = absurd (omega (arith, lt))
some_bytes (suc count) bytes lt = refl

pub all_put : (old new : List StreamCall) (bytes : List ℕ) (at turns : ℕ) → Writing old new bytes at turns → length bytes ≤ at → Makes old new (λ did. IsPut bytes did true)
all_put old new bytes at turns w over = (w.0, w.1, subst (WritesTo bytes w.0) (drop_all at bytes over) w.2)

pub put_failed : (old mid new : List StreamCall) (bytes : List ℕ) (at turns : ℕ) → Writing old mid bytes at turns → new ≡ mid ++ TookNone ∷ [] → Makes old new (λ did. IsPut bytes did false)
put_failed old mid new bytes at turns w e =
    (w.0 ++ TookNone ∷ [], e ∙ (ap (λ l. l ++ TookNone ∷ []) w.1 ∙ append_assoc old w.0 (TookNone ∷ [])), (w.0, drop at bytes, w.2, inl refl))

pub put_tired : (old new : List StreamCall) (bytes : List ℕ) (at turns : ℕ) → Writing old new bytes at turns → 2 ^ 64 - 1 ≤ turns → Makes old new (λ did. IsPut bytes did false)
put_tired old new bytes at turns w many = (w.0, w.1, (w.0, drop at bytes, w.2, inr (refl, omega (arith, w.3, many))))

pub sent_whole : (old mid new : List StreamCall) (bytes : List ℕ) (done : Bool) → Makes old mid (λ did. IsPut bytes did true) → new ≡ mid ++ Flushes done ∷ [] → Makes old new (λ did. IsSent bytes did done)
sent_whole old mid new bytes true w e = (w.0 ++ Flushes true ∷ [], e ∙ (ap (λ l. l ++ Flushes true ∷ []) w.1 ∙ append_assoc old w.0 (Flushes true ∷ [])), (w.0, w.2, refl))
sent_whole old mid new bytes false w e = (w.0 ++ Flushes false ∷ [], e ∙ (ap (λ l. l ++ Flushes false ∷ []) w.1 ∙ append_assoc old w.0 (Flushes false ∷ [])), inr (w.0, w.2, refl))

pub sent_part : (old new : List StreamCall) (bytes : List ℕ) → Makes old new (λ did. IsPut bytes did false) → Makes old new (λ did. IsSent bytes did false)
sent_part old new bytes w = (w.0, w.1, inl w.2)

-- ---- texts one after another

-- a second text behind a first one
pub both_to : (x y rest : List ℕ) (p q : List StreamCall) → WritesTo x p [] → WritesTo y q rest → WritesTo (x ++ y) (p ++ q) rest
both_to x y rest [] q w v = subst (λ (l : List ℕ). WritesTo (l ++ y) q rest) (sym w) v
both_to x y rest (Took b ∷ p) q w v = (w.0 ++ y, ap (λ (l : List ℕ). l ++ y) w.1 ∙ append_assoc b w.0 y, both_to w.0 y rest p q w.2 v)
both_to x y rest (TookAgain ∷ p) q w v = both_to x y rest p q w v
both_to x y rest (TookNone ∷ p) q w v = absurd w
both_to x y rest (Gave b ∷ p) q w v = absurd w
both_to x y rest (GaveAgain ∷ p) q w v = absurd w
both_to x y rest (GaveEnd ∷ p) q w v = absurd w
both_to x y rest (GaveNone ∷ p) q w v = absurd w
both_to x y rest (Flushes done ∷ p) q w v = absurd w

-- and a longer one than was written
pub longer_to : (x y rest : List ℕ) (p : List StreamCall) → WritesTo x p rest → WritesTo (x ++ y) p (rest ++ y)
longer_to x y rest [] w = ap (λ (l : List ℕ). l ++ y) w
longer_to x y rest (Took b ∷ p) w = (w.0 ++ y, ap (λ (l : List ℕ). l ++ y) w.1 ∙ append_assoc b w.0 y, longer_to w.0 y rest p w.2)
longer_to x y rest (TookAgain ∷ p) w = longer_to x y rest p w
longer_to x y rest (TookNone ∷ p) w = absurd w
longer_to x y rest (Gave b ∷ p) w = absurd w
longer_to x y rest (GaveAgain ∷ p) w = absurd w
longer_to x y rest (GaveEnd ∷ p) w = absurd w
longer_to x y rest (GaveNone ∷ p) w = absurd w
longer_to x y rest (Flushes done ∷ p) w = absurd w

pub calls_then : (a b c p q : List StreamCall) → b ≡ a ++ p → c ≡ b ++ q → c ≡ a ++ (p ++ q)
calls_then a b c p q e f = f ∙ (ap (λ (l : List StreamCall). l ++ q) e ∙ append_assoc a p q)

-- a text that is written, or is not, behind one that was
pub writes_then : (a b c : List StreamCall) (x y : List ℕ) (all : Bool) → Writes a b x true → Writes b c y all → Writes a c (x ++ y) all
writes_then a b c x y true (p, e, w) (q, f, v) = (p ++ q, calls_then a b c p q e f, both_to x y [] p q w v)
writes_then a b c x y false (p, e, w) (q, f, (ws, rest, v, inl failed)) =
    (p ++ q, calls_then a b c p q e f, (p ++ ws, rest, both_to x y rest p ws w v, inl (ap (λ (l : List StreamCall). p ++ l) failed ∙ sym (append_assoc p ws (TookNone ∷ [])))))
writes_then a b c x y false (p, e, w) (q, f, (ws, rest, v, inr (is, many))) =
    let len : length (p ++ q) ≡ length p + length q = length-append p q in
    (p ++ q, calls_then a b c p q e f, (p ++ ws, rest, both_to x y rest p ws w v, inr (ap (λ (l : List StreamCall). p ++ l) is, omega (arith, len, many))))

pub writes_first : (a b : List StreamCall) (x y : List ℕ) → Writes a b x false → Writes a b (x ++ y) false
writes_first a b x y (q, f, (ws, rest, v, end)) = (q, f, (ws, rest ++ y, longer_to x y rest ws v, end))
