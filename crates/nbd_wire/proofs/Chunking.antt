-- What is sent in chunks says one thing: no chunk begins another, or a simple reply.
use Rattle.std.proofs.Common.{◌≡◌, ℕ, ◌+◌, ◌*◌, ◌^◌, ◌<◌, Bool, true, false, List, [], ◌∷◌, ◌++◌, length, refl, sym, ap, ap₂, ◌∙◌, append_assoc, arith}
use Rattle.std.specs.Prelude.{if◌then◌else◌, ◌==◌}
use Rattle.std.proofs.lemmas.List.{append-nil, length-append}
use Rattle.std.proofs.lemmas.List.Elements.{All-head, All-tail}
use Rattle.nbd_wire.specs.declared.chunks.ChunkType.{ChunkType}
use Rattle.nbd_wire.specs.declared.chunks.ChunkType.TheVariants.{Done, Data, Hole, Status, Error}
use Rattle.nbd_wire.specs.declared.contexts.MetaContext.{MetaContext}
use Rattle.nbd_wire.specs.declared.contexts.MetaContext.TheVariants.{Allocation, Since}
use Rattle.nbd_wire.specs.declared.TheConstants.{CHUNK_MAGIC, SIMPLE_REPLY_MAGIC}
use Rattle.nbd_wire.specs.Numbers.{bytes}
use Rattle.nbd_wire.specs.Chunks.{chunk, chunk_code, chunk_head, data_chunk, data_head, done_chunk, done_flag, error_chunk, hole_chunk}
use Rattle.nbd_wire.specs.Contexts.{FitExtents, context_code, extent_text, extents_text, status_chunk, status_head}
use Rattle.nbd_wire.specs.Replies.{simple_reply_head}
use Rattle.nbd_wire.proofs.Fields.{width2, width4, width8}
use Rattle.nbd_wire.proofs.Told.{same_field, same_front, simple_head_is}

abbrev of_code : ℕ → ChunkType
of_code code = if code == 0 then Done else if code == 1 then Data else if code == 2 then Hole else if code == 5 then Status else Error

code_again : (k : ChunkType) → of_code (chunk_code k) ≡ k
code_again Done = refl
code_again Data = refl
code_again Hole = refl
code_again Status = refl
code_again Error = refl

pub code_fits : (k : ChunkType) → chunk_code k < 2 ^ 16
code_fits Done = omega arith
code_fits Data = omega arith
code_fits Hole = omega arith
code_fits Status = omega arith
code_fits Error = omega arith

-- the flags of a chunk
pub flag_again : (p : Bool) → (done_flag p == 1) ≡ p
flag_again true = refl
flag_again false = refl

pub flag_fits : (p : Bool) → done_flag p < 2 ^ 16
flag_fits true = omega arith
flag_fits false = omega arith

pub chunk_is : (p : Bool) (k : ChunkType) (c : ℕ) (a x : List ℕ)
    → chunk p k c a ++ x ≡ bytes 4 CHUNK_MAGIC ++ (bytes 2 (done_flag p) ++ (bytes 2 (chunk_code k) ++ (bytes 8 c ++ (bytes 4 (length a) ++ (a ++ x)))))
unfolding chunk_head
chunk_is p k c a x = simp append_assoc

pub one_chunk : (p q : Bool) (k l : ChunkType) (c d : ℕ) (a b x y : List ℕ) → c < 2 ^ 64 → d < 2 ^ 64 → length a < 2 ^ 32 → length b < 2 ^ 32
    → chunk p k c a ++ x ≡ chunk q l d b ++ y → (p ≡ q) × (k ≡ l) × (c ≡ d) × (a ≡ b) × (x ≡ y)
one_chunk p q k l c d a b x y hc hd ha hb e =
    let m = same_field 4 width4 CHUNK_MAGIC CHUNK_MAGIC _ _ (omega arith) (omega arith) (sym (chunk_is p k c a x) ∙ e ∙ chunk_is q l d b y) in
    let f = same_field 2 width2 (done_flag p) (done_flag q) _ _ (flag_fits p) (flag_fits q) m.1 in
    let g = same_field 2 width2 (chunk_code k) (chunk_code l) _ _ (code_fits k) (code_fits l) f.1 in
    let h = same_field 8 width8 c d _ _ hc hd g.1 in
    let i = same_field 4 width4 (length a) (length b) _ _ ha hb h.1 in
    let j = same_front a b x y i.0 i.1 in
    (sym (flag_again p) ∙ ap (λ (n : ℕ). n == 1) f.0 ∙ flag_again q, sym (code_again k) ∙ ap of_code g.0 ∙ code_again l, h.0, j.0, j.1)

pub no_simple_reply : (p : Bool) (k : ChunkType) (c error d : ℕ) (a x y : List ℕ) → chunk p k c a ++ x ≡ simple_reply_head error d ++ y → ⊥
no_simple_reply p k c error d a x y e =
    let m = same_field 4 width4 CHUNK_MAGIC SIMPLE_REPLY_MAGIC _ _ (omega arith) (omega arith) (sym (chunk_is p k c a x) ∙ e ∙ simple_head_is error d y) in
    let differ : CHUNK_MAGIC ≡ SIMPLE_REPLY_MAGIC = m.0 in
    omega arith

pub data_is_chunk : (p : Bool) (c o : ℕ) (d : List ℕ) → data_chunk p c o d ≡ chunk p Data c (bytes 8 o ++ d)
unfolding data_head
data_is_chunk p c o d =
    let len : 8 + length d ≡ length (bytes 8 o ++ d) = omega (arith, length-append (bytes 8 o) d, width8.len o) in
    append_assoc (chunk_head p Data c (8 + length d)) (bytes 8 o) d ∙ ap (λ (n : ℕ). chunk_head p Data c n ++ (bytes 8 o ++ d)) len

pub hole_is_chunk : (p : Bool) (c o n : ℕ) → hole_chunk p c o n ≡ chunk p Hole c (bytes 8 o ++ bytes 4 n)
unfolding hole_chunk
hole_is_chunk p c o n =
    let len : 12 ≡ length (bytes 8 o ++ bytes 4 n) = omega (arith, length-append (bytes 8 o) (bytes 4 n), width8.len o, width4.len n) in
    append_assoc (chunk_head p Hole c 12) (bytes 8 o) (bytes 4 n) ∙ ap (λ (m : ℕ). chunk_head p Hole c m ++ (bytes 8 o ++ bytes 4 n)) len

abbrev pub FitsExtent : ℕ × ℕ → Type 0
FitsExtent extent = (extent.0 < 2 ^ 32) × (extent.1 < 2 ^ 32)

pub length-extents : (es : List (ℕ × ℕ)) → length (extents_text es) ≡ 8 * length es
unfolding extent_text
length-extents [] = refl
length-extents (x ∷ xs) =
    let e = length-extents xs in let a = width4.len x.0 in let b = width4.len x.1 in
    length-append (bytes 4 x.0 ++ bytes 4 x.1) (extents_text xs) ∙ (omega (arith, length-append (bytes 4 x.0) (bytes 4 x.1)))

-- the numbers of the contexts
abbrev of_context : ℕ → MetaContext
of_context code = if code == 1 then Allocation else Since

context_again : (m : MetaContext) → of_context (context_code m) ≡ m
context_again Allocation = refl
context_again Since = refl

pub context_fits : (m : MetaContext) → context_code m < 2 ^ 32
context_fits Allocation = omega arith
context_fits Since = omega arith

status_len : (m : MetaContext) (es : List (ℕ × ℕ)) → length (bytes 4 (context_code m) ++ extents_text es) ≡ 4 + 8 * length es
status_len m es = omega (arith, length-append (bytes 4 (context_code m)) (extents_text es), width4.len (context_code m), length-extents es)

pub status_is_chunk : (p : Bool) (m : MetaContext) (c : ℕ) (es : List (ℕ × ℕ)) → status_chunk p m c es ≡ status_head p m c (length es) ++ extents_text es
unfolding status_head
status_is_chunk p m c es =
    let t = extents_text es in
    let len : 4 + 8 * length es ≡ length (bytes 4 (context_code m) ++ t) = sym (status_len m es) in
    sym (append_assoc (chunk_head p Status c (4 + 8 * length es)) (bytes 4 (context_code m)) t ∙ ap (λ (n : ℕ). chunk_head p Status c n ++ (bytes 4 (context_code m) ++ t)) len)

pub one_extents : (es fs : List (ℕ × ℕ)) → FitExtents es → FitExtents fs → extents_text es ≡ extents_text fs → es ≡ fs
unfolding extent_text
one_extents [] [] h k e = refl
one_extents [] (g ∷ fs) h k e = absurd (omega (arith, ap length e, length-extents (g ∷ fs)))
one_extents (f ∷ es) [] h k e = absurd (omega (arith, ap length e, length-extents (f ∷ es)))
one_extents (f ∷ es) (g ∷ fs) h k e =
    let hf = All-head FitsExtent f es h in let hg = All-head FitsExtent g fs k in
    let a = same_field 4 width4 f.0 g.0 (bytes 4 f.1 ++ extents_text es) (bytes 4 g.1 ++ extents_text fs) hf.0 hg.0
    (sym (append_assoc (bytes 4 f.0) (bytes 4 f.1) (extents_text es)) ∙ e ∙ append_assoc (bytes 4 g.0) (bytes 4 g.1) (extents_text fs)) in
    let b = same_field 4 width4 f.1 g.1 (extents_text es) (extents_text fs) hf.1 hg.1 a.1 in
    ap₂ (λ (x : ℕ × ℕ) (xs : List (ℕ × ℕ)). x ∷ xs) (ap₂ (λ (x y : ℕ). (x, y)) a.0 b.0) (one_extents es fs (All-tail FitsExtent f es h) (All-tail FitsExtent g fs k) b.1)

pub one_status : (p q : Bool) (m n : MetaContext) (c d : ℕ) (es fs : List (ℕ × ℕ)) (x y : List ℕ) → c < 2 ^ 64 → d < 2 ^ 64 → FitExtents es → FitExtents fs
    → 4 + 8 * length es < 2 ^ 32 → 4 + 8 * length fs < 2 ^ 32 → status_chunk p m c es ++ x ≡ status_chunk q n d fs ++ y → (p ≡ q) × (m ≡ n) × (c ≡ d) × (es ≡ fs) × (x ≡ y)
one_status p q m n c d es fs x y hc hd he hf le lf e =
    let a = bytes 4 (context_code m) ++ extents_text es in let b = bytes 4 (context_code n) ++ extents_text fs in
    let la : length a < 2 ^ 32 = omega (arith, le, status_len m es) in
    let lb : length b < 2 ^ 32 = omega (arith, lf, status_len n fs) in
    let s = one_chunk p q Status Status c d a b x y hc hd la lb e in
    let t = same_field 4 width4 (context_code m) (context_code n) (extents_text es) (extents_text fs) (context_fits m) (context_fits n) s.3 in
    (s.0, sym (context_again m) ∙ ap of_context t.0 ∙ context_again n, s.2, one_extents es fs he hf t.1, s.4)

pub error_is_chunk : (e c : ℕ) → error_chunk e c ≡ chunk true Error c (bytes 4 e ++ bytes 2 0)
unfolding error_chunk
error_is_chunk e c =
    let len : 6 ≡ length (bytes 4 e ++ bytes 2 0) = omega (arith, length-append (bytes 4 e) (bytes 2 0), width4.len e, width2.len 0) in
    append_assoc (chunk_head true Error c 6) (bytes 4 e) (bytes 2 0) ∙ ap (λ (n : ℕ). chunk_head true Error c n ++ (bytes 4 e ++ bytes 2 0)) len

pub done_is_chunk : (c : ℕ) → done_chunk c ≡ chunk true Done c []
unfolding done_chunk
done_is_chunk c = sym (append-nil (chunk_head true Done c 0))
