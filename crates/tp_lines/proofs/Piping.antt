-- One call more of a reader and a writer.
use Rattle.std.proofs.Common.{◌≡◌, ℕ, Bool, true, false, List, [], ◌∷◌, ◌++◌, take, Option, refl, sym, ap, subst, ◌∙◌, append_assoc}
use Rattle.std.proofs.lemmas.List.{append-nil}
use Rattle.std.specs.Io.KnownBytes.{Appends, Consumes, IsAtEnd, Keeps}
use Rattle.tp_hub.specs.Streams.{Flushes, Gave, GaveAgain, GaveEnd, GaveNone, StreamCall, Took, TookAgain, TookNone, read_call, write_call}
use Rattle.tp_hub.specs.declared.stream.Received.{Received}
use Rattle.tp_hub.specs.declared.stream.Received.TheVariants.{Got, NotNow, End, Broken}
use Rattle.tp_hub.specs.declared.stream.Put.{Put}
use Rattle.tp_hub.specs.declared.stream.Put.TheVariants.{Wrote, Interrupted, Failed}
use Rattle.tp_lines.specs.Pipes.{IsPiped, IsRead, IsWritten, given, is_over, taken}
use Rattle.tp_lines.proofs.Bytes.{appends_kept, appends_then, consumes_then}

pub given-append : (a b : List StreamCall) → given (a ++ b) ≡ given a ++ given b
given-append [] b = refl
given-append (Gave bytes ∷ a) b = ap (λ (l : List ℕ). bytes ++ l) (given-append a b) ∙ sym (append_assoc bytes (given a) (given b))
given-append (GaveAgain ∷ a) b = given-append a b
given-append (GaveEnd ∷ a) b = given-append a b
given-append (GaveNone ∷ a) b = given-append a b
given-append (Took bytes ∷ a) b = given-append a b
given-append (TookAgain ∷ a) b = given-append a b
given-append (TookNone ∷ a) b = given-append a b
given-append (Flushes done ∷ a) b = given-append a b

pub taken-append : (a b : List StreamCall) → taken (a ++ b) ≡ taken a ++ taken b
taken-append [] b = refl
taken-append (Gave bytes ∷ a) b = taken-append a b
taken-append (GaveAgain ∷ a) b = taken-append a b
taken-append (GaveEnd ∷ a) b = taken-append a b
taken-append (GaveNone ∷ a) b = taken-append a b
taken-append (Took bytes ∷ a) b = ap (λ (l : List ℕ). bytes ++ l) (taken-append a b) ∙ sym (append_assoc bytes (taken a) (taken b))
taken-append (TookAgain ∷ a) b = taken-append a b
taken-append (TookNone ∷ a) b = taken-append a b
taken-append (Flushes done ∷ a) b = taken-append a b

pub is_over-append : (was : Bool) (a b : List StreamCall) → is_over was (a ++ b) ≡ is_over (is_over was a) b
is_over-append was [] b = refl
is_over-append was (Gave bytes ∷ a) b = is_over-append false a b
is_over-append was (GaveAgain ∷ a) b = is_over-append false a b
is_over-append was (GaveEnd ∷ a) b = is_over-append true a b
is_over-append was (GaveNone ∷ a) b = is_over-append false a b
is_over-append was (Took bytes ∷ a) b = is_over-append was a b
is_over-append was (TookAgain ∷ a) b = is_over-append was a b
is_over-append was (TookNone ∷ a) b = is_over-append was a b
is_over-append was (Flushes done ∷ a) b = is_over-append was a b

-- ---- a read

read_bytes : (l l' : Option (List ℕ)) (r : Received) (buffer : List ℕ) → IsRead r l l' buffer → Consumes l l' (given (read_call r buffer ∷ []))
read_bytes l l' (Got count) buffer h = subst (λ (x : List ℕ). Consumes l l' x) (sym (append-nil (take count buffer))) h
read_bytes l l' NotNow buffer h = h
read_bytes l l' End buffer h = h.0
read_bytes l l' Broken buffer h = h

read_over : (l l' : Option (List ℕ)) (was : Bool) (r : Received) (buffer : List ℕ) → IsRead r l l' buffer → is_over was (read_call r buffer ∷ []) ≡ true → IsAtEnd l'
read_over l l' was (Got count) buffer h is = absurd cc
read_over l l' was NotNow buffer h is = absurd cc
read_over l l' was End buffer h is = h.1
read_over l l' was Broken buffer h is = absurd cc

read_writes : (r : Received) (buffer : List ℕ) → taken (read_call r buffer ∷ []) ≡ []
read_writes (Got count) buffer = refl
read_writes NotNow buffer = refl
read_writes End buffer = refl
read_writes Broken buffer = refl

-- what these calls took, where one more takes nothing
takes_no_more : (old : List StreamCall) (call : StreamCall) → taken (call ∷ []) ≡ [] → taken (old ++ call ∷ []) ≡ taken old
takes_no_more old call none = taken-append old (call ∷ []) ∙ (ap (λ (l : List ℕ). taken old ++ l) none ∙ append-nil (taken old))

gives_no_more : (old : List StreamCall) (call : StreamCall) → given (call ∷ []) ≡ [] → given (old ++ call ∷ []) ≡ given old
gives_no_more old call none = given-append old (call ∷ []) ∙ (ap (λ (l : List ℕ). given old ++ l) none ∙ append-nil (given old))

pub piped_read : (l0 l1 l2 t0 t : Option (List ℕ)) (calls after : List StreamCall) (r : Received) (buffer : List ℕ) → IsPiped l0 l1 t0 t calls → IsRead r l1 l2 buffer → after ≡ calls ++ read_call r buffer ∷ [] → IsPiped l0 l2 t0 t after
piped_read l0 l1 l2 t0 t calls after r buffer p h is = subst (λ (cs : List StreamCall). IsPiped l0 l2 t0 t cs) (sym is) (record {
  read = subst (λ (x : List ℕ). Consumes l0 l2 x) (sym (given-append calls (read_call r buffer ∷ []))) (consumes_then l0 l1 l2 (given calls) (given (read_call r buffer ∷ [])) p.read (read_bytes l1 l2 r buffer h));
  ends = λ over. read_over l1 l2 (is_over false calls) r buffer h (sym (is_over-append false calls (read_call r buffer ∷ [])) ∙ over);
  wrote = subst (λ (x : List ℕ). Appends t0 t x) (sym (takes_no_more calls (read_call r buffer) (read_writes r buffer))) p.wrote;
})

-- ---- a write, and a flush

write_bytes : (t t' : Option (List ℕ)) (w : Put) (bytes : List ℕ) → IsWritten w t t' bytes → Appends t t' (taken (write_call w bytes ∷ []))
write_bytes t t' (Wrote count) bytes h = subst (λ (x : List ℕ). Appends t t' x) (sym (append-nil (take count bytes))) h
write_bytes t t' Interrupted bytes h = h
write_bytes t t' Failed bytes h = h

write_reads : (w : Put) (bytes : List ℕ) → given (write_call w bytes ∷ []) ≡ []
write_reads (Wrote count) bytes = refl
write_reads Interrupted bytes = refl
write_reads Failed bytes = refl

write_over : (was : Bool) (w : Put) (bytes : List ℕ) → is_over was (write_call w bytes ∷ []) ≡ was
write_over was (Wrote count) bytes = refl
write_over was Interrupted bytes = refl
write_over was Failed bytes = refl

pub piped_write : (l0 l t0 t1 t2 : Option (List ℕ)) (calls after : List StreamCall) (w : Put) (bytes : List ℕ) → IsPiped l0 l t0 t1 calls → IsWritten w t1 t2 bytes → after ≡ calls ++ write_call w bytes ∷ [] → IsPiped l0 l t0 t2 after
piped_write l0 l t0 t1 t2 calls after w bytes p h is = subst (λ (cs : List StreamCall). IsPiped l0 l t0 t2 cs) (sym is) (record {
  read = subst (λ (x : List ℕ). Consumes l0 l x) (sym (gives_no_more calls (write_call w bytes) (write_reads w bytes))) p.read;
  ends = λ over. p.ends (sym (write_over (is_over false calls) w bytes) ∙ (sym (is_over-append false calls (write_call w bytes ∷ [])) ∙ over));
  wrote = subst (λ (x : List ℕ). Appends t0 t2 x) (sym (taken-append calls (write_call w bytes ∷ []))) (appends_then t0 t1 t2 (taken calls) (taken (write_call w bytes ∷ [])) p.wrote (write_bytes t1 t2 w bytes h));
})

pub piped_flush : (l0 l t0 t1 t2 : Option (List ℕ)) (calls after : List StreamCall) (done : Bool) → IsPiped l0 l t0 t1 calls → Keeps t1 t2 → after ≡ calls ++ Flushes done ∷ [] → IsPiped l0 l t0 t2 after
piped_flush l0 l t0 t1 t2 calls after done p h is = subst (λ (cs : List StreamCall). IsPiped l0 l t0 t2 cs) (sym is) (record {
  read = subst (λ (x : List ℕ). Consumes l0 l x) (sym (gives_no_more calls (Flushes done) refl)) p.read;
  ends = λ over. p.ends (sym (is_over-append false calls (Flushes done ∷ [])) ∙ over);
  wrote = subst (λ (x : List ℕ). Appends t0 t2 x) (sym (takes_no_more calls (Flushes done) refl)) (appends_kept t0 t1 t2 (taken calls) p.wrote h);
})
