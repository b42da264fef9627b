-- What the server sends in chunks: what is read is its spelling, and its spelling is read, whatever follows it.
use Rattle.std.proofs.Common.{◌≡◌, ℕ, ◌-◌, ◌^◌, ◌<◌, ◌≤◌, Bool, true, false, List, [], ◌++◌, length, take, drop, eqb, ltb, Option, Some, None, refl, sym, ap, subst, ◌∙◌, arith, inl, inr}
use Rattle.std.specs.Prelude.{IfSome, IfNone}
use Rattle.std.proofs.lemmas.Bool.{eqb-true, ltb-false, le-ltb, eq-eqb}
use Rattle.std.proofs.lemmas.Bool.Decides.{eqb_tells}
use Rattle.std.proofs.lemmas.List.{append-nil, append_assoc, take_at, drop_at, take-append-drop, length-append, length-drop, length-take-le, drop-drop}
use Rattle.nbd_wire.specs.declared.chunks.ChunkType.{ChunkType}
use Rattle.nbd_wire.specs.declared.chunks.ChunkType.TheVariants.{Done, Data, Hole, Status, Error}
use Rattle.nbd_wire.specs.declared.contexts.MetaContext.{MetaContext}
use Rattle.nbd_wire.specs.declared.contexts.MetaContext.TheVariants.{Allocation, Since}
use Rattle.nbd_wire.specs.declared.TheConstants.{CHUNK_MAGIC}
use Rattle.nbd_wire.specs.Numbers.{bytes, number}
use Rattle.nbd_wire.specs.Chunks.{chunk, chunk_code, done_flag}
use Rattle.nbd_wire.specs.Contexts.{context_code, context_data, extent_text}
use Rattle.nbd_wire.specs.ReceivedChunks.{chunk_in, chunk_type_of, context_data_in, context_of, data_in, error_in, extent_in, hole_in, status_in}
use Rattle.nbd_wire.proofs.Chunking.{chunk_is, code_fits, context_fits, flag_again, flag_fits}
use Rattle.nbd_wire.proofs.Fields.{IsBytes, IsBytes-drop, width2, width4, width8, field_drops}
use Rattle.nbd_wire.proofs.Names.{guard, last_guard}
use Rattle.nbd_wire.proofs.Received.{code_step, longer, mapped, part, passes}

-- ---- what was read with nothing behind it, or nothing

pub all_found : {A : Type 0} (r o : Option A) (P : A → Type 0) → r ≡ o → ((x : A) → o ≡ Some x → P x) → IfSome r P
all_found None o P e h = tt
all_found (Some y) o P e h = h y (sym e)

pub all_none : {A : Type 0} (r o : Option A) (Q : Type 0) → r ≡ o → (o ≡ None → Q) → IfNone r Q
all_none None o Q e h = h (sym e)
all_none (Some y) o Q e h = tt

pub all_again : {A : Type 0} (r o : Option A) (x : A) (P : A → Type 0) → r ≡ o → o ≡ Some x → P x → IfSome r P
all_again None o x P e is h = tt
all_again (Some y) o x P e is h = let s : Some y ≡ Some x = e ∙ is in subst P (sym (last_guard true y x s).1) h

-- ---- chunks

pub type_takes : (c : ℕ) (k : ChunkType) → chunk_type_of c ≡ Some k → chunk_code k ≡ c
unfolding chunk_type_of
type_takes c k =
    code_step chunk_code c 0 Done _ k refl (code_step chunk_code c 1 Data _ k refl (code_step chunk_code c 2 Hole _ k refl (
    code_step chunk_code c 5 Status _ k refl (code_step chunk_code c 0x8001 Error None k refl (λ e. absurd cc)))))

pub type_again : (k : ChunkType) → chunk_type_of (chunk_code k) ≡ Some k
unfolding chunk_type_of
type_again Done = refl
type_again Data = refl
type_again Hole = refl
type_again Status = refl
type_again Error = refl

flag_is : (n : ℕ) → n ≤ 1 → done_flag (eqb n 1) ≡ n
flag_is n le =
    elim (eqb_tells n 1) [
      | inl e ↦ ap done_flag e.0 ∙ sym e.1
      | inr e ↦ let zero : 0 ≡ n = let ne = e.1 in omega arith in ap done_flag e.0 ∙ zero
    ]

flag_small : (p : Bool) → ltb 1 (done_flag p) ≡ false
flag_small true = refl
flag_small false = refl

abbrev pub Given : Type 0
Given = Bool × ChunkType × ℕ × List ℕ × List ℕ

pub chunk_takes : (t : List ℕ) (x : Given) → IsBytes t → chunk_in t ≡ Some x → (length x.3 < 2 ^ 32) × (t ≡ chunk x.0 x.1 x.2 x.3 ++ x.4)
unfolding chunk_in
chunk_takes t x h e =
    let a = drop 4 t in let b = drop 2 a in let c = drop 2 b in let d = drop 8 c in let behind = drop 20 t in
    let n = number 4 d in
    let g1 = guard (ltb (length t) 20) _ x e in
    let g2 = passes (eqb (number 4 t) CHUNK_MAGIC) _ x g1.1 in
    let g3 = guard (ltb 1 (number 2 a)) _ x g2.1 in
    let g4 = guard (ltb (length behind) n) _ x g3.1 in
    let g5 = mapped (λ (k : ChunkType). (eqb (number 2 a) 1, k, number 8 c, take n behind, drop n behind)) (chunk_type_of (number 2 b)) x g4.1 in
    let le : 20 ≤ length t = ltb-false _ _ g1.0 in
    let ha = IsBytes-drop 4 t h in let hb = IsBytes-drop 2 a ha in let hc = IsBytes-drop 2 b hb in let hd = IsBytes-drop 8 c hc in
    let la : length a ≡ length t - 4 = length-drop 4 t in
    let lb : length b ≡ length a - 2 = length-drop 2 a in
    let lc : length c ≡ length b - 2 = length-drop 2 b in
    let ld : length d ≡ length c - 8 = length-drop 8 c in
    let body : List ℕ = take n behind in
    let len : length body ≡ n = length-take-le n behind (ltb-false _ _ g4.0) in
    let flag : number 2 a ≡ done_flag (eqb (number 2 a) 1) = sym (flag_is (number 2 a) (ltb-false _ _ g3.0)) in
    let code : number 2 b ≡ chunk_code g5.0 = sym (type_takes (number 2 b) g5.0 g5.1) in
    let f : drop 4 d ≡ body ++ drop n behind = drop-drop 4 8 c ∙ drop-drop 12 2 b ∙ drop-drop 14 2 a ∙ drop-drop 16 4 t ∙ sym (take-append-drop n behind) in
    let whole : t ≡ chunk (eqb (number 2 a) 1) g5.0 (number 8 c) body ++ drop n behind =
    part 4 width4 t CHUNK_MAGIC _ h (omega arith) (eqb-true _ _ g2.0) (
    part 2 width2 a (done_flag (eqb (number 2 a) 1)) _ ha (omega arith) flag (
    part 2 width2 b (chunk_code g5.0) _ hb (omega arith) code (
    part 8 width8 c (number 8 c) _ hc (omega arith) refl (part 4 width4 d (length body) _ hd (omega arith) (sym len) f))))
    ∙ sym (chunk_is (eqb (number 2 a) 1) g5.0 (number 8 c) body (drop n behind)) in
    subst (λ (p : Given). (length p.3 < 2 ^ 32) × (t ≡ chunk p.0 p.1 p.2 p.3 ++ p.4)) g5.2 (let below = width4.below d hd in omega (arith, len, below), whole)

pub chunk_again : (t : List ℕ) (p : Bool) (k : ChunkType) (o : ℕ) (q rest : List ℕ) → o < 2 ^ 64 → length q < 2 ^ 32 → t ≡ chunk p k o q ++ rest → chunk_in t ≡ Some (p, k, o, q, rest)
unfolding chunk_in
chunk_again t p k o q rest ho hq e =
    let f : List ℕ = q ++ rest in
    let d : List ℕ = bytes 4 (length q) ++ f in
    let c : List ℕ = bytes 8 o ++ d in
    let b : List ℕ = bytes 2 (chunk_code k) ++ c in
    let a : List ℕ = bytes 2 (done_flag p) ++ b in
    let w : List ℕ = bytes 4 CHUNK_MAGIC ++ a in
    let d1 : drop 4 w ≡ a = field_drops 4 width4 CHUNK_MAGIC a in
    let d2 : drop 2 a ≡ b = field_drops 2 width2 (done_flag p) b in
    let d3 : drop 2 b ≡ c = field_drops 2 width2 (chunk_code k) c in
    let d4 : drop 8 c ≡ d = field_drops 8 width8 o d in
    let d5 : drop 20 w ≡ f =
    sym (drop-drop 16 4 w) ∙ ap (drop 16) d1 ∙ sym (drop-drop 14 2 a) ∙ ap (drop 14) d2 ∙ sym (drop-drop 12 2 b) ∙ ap (drop 12) d3 ∙ sym (drop-drop 4 8 c) ∙ ap (drop 4) d4
    ∙ field_drops 4 width4 (length q) f in
    let n0 : number 4 w ≡ CHUNK_MAGIC = width4.again CHUNK_MAGIC a (omega arith) in
    let n1 : number 2 a ≡ done_flag p = width2.again (done_flag p) b (flag_fits p) in
    let n2 : number 2 b ≡ chunk_code k = width2.again (chunk_code k) c (code_fits k) in
    let n3 : number 8 c ≡ o = width8.again o d ho in
    let n4 : number 4 d ≡ length q = width4.again (length q) f hq in
    let t1 : ltb (length w) 20 ≡ false =
    le-ltb _ _ (omega (arith, longer 4 width4 CHUNK_MAGIC a, longer 2 width2 (done_flag p) b, longer 2 width2 (chunk_code k) c, longer 8 width8 o d, longer 4 width4 (length q) f)) in
    let t2 : ltb (length f) (length q) ≡ false = le-ltb _ _ (omega (arith, length-append q rest)) in
    ap chunk_in (e ∙ chunk_is p k o q rest)
    ∙ rw (t1, n0, d5, d1, d2, d3, d4, n1, flag_small p, n4, t2, flag_again p, n3, n2, type_again k, take_at q rest (length q) refl, drop_at q rest (length q) refl) refl

-- ---- their data

pub data_takes : (t : List ℕ) (x : ℕ × List ℕ) → IsBytes t → data_in t ≡ Some x → t ≡ bytes 8 x.0 ++ x.1
unfolding data_in
data_takes t x h e =
    let g = guard (ltb (length t) 8) _ x e in
    let pair = last_guard true (number 8 t, drop 8 t) x g.1 in
    subst (λ (p : ℕ × List ℕ). t ≡ bytes 8 p.0 ++ p.1) pair.1 (part 8 width8 t (number 8 t) (drop 8 t) h (ltb-false _ _ g.0) refl refl)

pub data_again : (t : List ℕ) (o : ℕ) (rest : List ℕ) → o < 2 ^ 64 → t ≡ bytes 8 o ++ rest → data_in t ≡ Some (o, rest)
unfolding data_in
data_again t o rest ho e =
    let t1 : ltb (length (bytes 8 o ++ rest)) 8 ≡ false = le-ltb _ _ (omega (arith, longer 8 width8 o rest)) in
    ap data_in e ∙ rw (t1, width8.again o rest ho, field_drops 8 width8 o rest) refl

pub hole_takes : (t : List ℕ) (x : ℕ × ℕ) → IsBytes t → hole_in t ≡ Some x → t ≡ bytes 8 x.0 ++ bytes 4 x.1
unfolding hole_in
hole_takes t x h e =
    let a = drop 8 t in
    let g = last_guard (eqb (length t) 12) (number 8 t, number 4 a) x e in
    let len : length t ≡ 12 = eqb-true _ _ g.0 in
    let last : a ≡ bytes 4 (number 4 a) = sym (width4.back a (omega (arith, length-drop 8 t)) (IsBytes-drop 8 t h)) in
    subst (λ (p : ℕ × ℕ). t ≡ bytes 8 p.0 ++ bytes 4 p.1) g.1 (part 8 width8 t (number 8 t) (bytes 4 (number 4 a)) h (omega arith) refl last)

alone : (n : ℕ) → n < 2 ^ 32 → number 4 (bytes 4 n) ≡ n
alone n h = ap (number 4) (sym (append-nil (bytes 4 n))) ∙ width4.again n [] h

pub hole_again : (t : List ℕ) (o n : ℕ) → o < 2 ^ 64 → n < 2 ^ 32 → t ≡ bytes 8 o ++ bytes 4 n → hole_in t ≡ Some (o, n)
unfolding hole_in
hole_again t o n ho hn e =
    let t1 : eqb (length (bytes 8 o ++ bytes 4 n)) 12 ≡ true = eq-eqb _ _ (omega (arith, longer 8 width8 o (bytes 4 n), width4.len n)) in
    ap hole_in e ∙ rw (t1, width8.again o (bytes 4 n) ho, field_drops 8 width8 o (bytes 4 n), alone n hn) refl

pub error_takes : (t : List ℕ) (x : ℕ) → IsBytes t → error_in t ≡ Some x → t ≡ bytes 4 x ++ bytes 2 0
unfolding error_in
error_takes t x h e =
    let a = drop 4 t in
    let g1 = passes (eqb (length t) 6) _ x e in
    let g2 = last_guard (eqb (number 2 a) 0) (number 4 t) x g1.1 in
    let len : length t ≡ 6 = eqb-true _ _ g1.0 in
    let last : a ≡ bytes 2 0 = sym (width2.back a (omega (arith, length-drop 4 t)) (IsBytes-drop 4 t h)) ∙ ap (bytes 2) (eqb-true _ _ g2.0) in
    part 4 width4 t x (bytes 2 0) h (omega arith) g2.1 last

pub error_again : (t : List ℕ) (x : ℕ) → x < 2 ^ 32 → t ≡ bytes 4 x ++ bytes 2 0 → error_in t ≡ Some x
unfolding error_in
error_again t x hx e =
    let z : List ℕ = bytes 2 0 in
    let t1 : eqb (length (bytes 4 x ++ z)) 6 ≡ true = eq-eqb _ _ (omega (arith, longer 4 width4 x z, width2.len 0)) in
    let n2 : number 2 z ≡ 0 = ap (number 2) (sym (append-nil z)) ∙ width2.again 0 [] (omega arith) in
    ap error_in e ∙ rw (t1, field_drops 4 width4 x z, n2, width4.again x z hx) refl

-- ---- extents

pub context_takes : (c : ℕ) (m : MetaContext) → context_of c ≡ Some m → context_code m ≡ c
unfolding context_of
context_takes c m = code_step context_code c 1 Allocation _ m refl (code_step context_code c 2 Since None m refl (λ e. absurd cc))

context_again : (m : MetaContext) → context_of (context_code m) ≡ Some m
unfolding context_of
context_again Allocation = refl
context_again Since = refl

pub status_takes : (t : List ℕ) (x : MetaContext × List ℕ) → IsBytes t → status_in t ≡ Some x → t ≡ bytes 4 (context_code x.0) ++ x.1
unfolding status_in
status_takes t x h e =
    let g1 = guard (ltb (length t) 4) _ x e in
    let g2 = mapped (λ (m : MetaContext). (m, drop 4 t)) (context_of (number 4 t)) x g1.1 in
    subst (λ (p : MetaContext × List ℕ). t ≡ bytes 4 (context_code p.0) ++ p.1) g2.2
    (part 4 width4 t (context_code g2.0) (drop 4 t) h (ltb-false _ _ g1.0) (sym (context_takes (number 4 t) g2.0 g2.1)) refl)

pub status_again : (t : List ℕ) (m : MetaContext) (rest : List ℕ) → t ≡ bytes 4 (context_code m) ++ rest → status_in t ≡ Some (m, rest)
unfolding status_in
status_again t m rest e =
    let t1 : ltb (length (bytes 4 (context_code m) ++ rest)) 4 ≡ false = le-ltb _ _ (omega (arith, longer 4 width4 (context_code m) rest)) in
    ap status_in e ∙ rw (t1, width4.again (context_code m) rest (context_fits m), context_again m, field_drops 4 width4 (context_code m) rest) refl

pub extent_takes : (t : List ℕ) (x : (ℕ × ℕ) × List ℕ) → IsBytes t → extent_in t ≡ Some x → t ≡ extent_text x.0.0 x.0.1 ++ x.1
unfolding extent_in extent_text
extent_takes t x h e =
    let a = drop 4 t in
    let g = guard (ltb (length t) 8) _ x e in
    let pair = last_guard true ((number 4 t, number 4 a), drop 8 t) x g.1 in
    let le : 8 ≤ length t = ltb-false _ _ g.0 in
    let ha = IsBytes-drop 4 t h in
    let whole : t ≡ (bytes 4 (number 4 t) ++ bytes 4 (number 4 a)) ++ drop 8 t =
    part 4 width4 t (number 4 t) _ h (omega arith) refl (part 4 width4 a (number 4 a) (drop 8 t) ha (omega (arith, length-drop 4 t)) refl (drop-drop 4 4 t))
    ∙ sym (append_assoc (bytes 4 (number 4 t)) (bytes 4 (number 4 a)) (drop 8 t)) in
    subst (λ (p : (ℕ × ℕ) × List ℕ). t ≡ (bytes 4 p.0.0 ++ bytes 4 p.0.1) ++ p.1) pair.1 whole

pub extent_again : (t : List ℕ) (n f : ℕ) (rest : List ℕ) → n < 2 ^ 32 → f < 2 ^ 32 → t ≡ extent_text n f ++ rest → extent_in t ≡ Some ((n, f), rest)
unfolding extent_in extent_text
extent_again t n f rest hn hf e =
    let a : List ℕ = bytes 4 f ++ rest in
    let w : List ℕ = bytes 4 n ++ a in
    let d1 : drop 4 w ≡ a = field_drops 4 width4 n a in
    let d2 : drop 8 w ≡ rest = sym (drop-drop 4 4 w) ∙ ap (drop 4) d1 ∙ field_drops 4 width4 f rest in
    let t1 : ltb (length w) 8 ≡ false = le-ltb _ _ (omega (arith, longer 4 width4 n a, longer 4 width4 f rest)) in
    ap extent_in (e ∙ append_assoc (bytes 4 n) (bytes 4 f) rest) ∙ rw (t1, d1, d2, width4.again n a hn, width4.again f rest hf) refl

-- ---- the data of a reply that tells a context

pub context_data_takes : (t : List ℕ) (x : ℕ × List ℕ) → IsBytes t → context_data_in t ≡ Some x → t ≡ context_data x.0 x.1
unfolding context_data_in context_data
context_data_takes t x h e =
    let g = guard (ltb (length t) 4) _ x e in
    let pair = last_guard true (number 4 t, drop 4 t) x g.1 in
    subst (λ (p : ℕ × List ℕ). t ≡ bytes 4 p.0 ++ p.1) pair.1 (part 4 width4 t (number 4 t) (drop 4 t) h (ltb-false _ _ g.0) refl refl)

pub context_data_again : (t : List ℕ) (i : ℕ) (name : List ℕ) → i < 2 ^ 32 → t ≡ context_data i name → context_data_in t ≡ Some (i, name)
unfolding context_data_in context_data
context_data_again t i name hi e =
    let t1 : ltb (length (bytes 4 i ++ name)) 4 ≡ false = le-ltb _ _ (omega (arith, longer 4 width4 i name)) in
    ap context_data_in e ∙ rw (t1, width4.again i name hi, field_drops 4 width4 i name) refl
