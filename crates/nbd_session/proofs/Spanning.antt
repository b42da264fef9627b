-- Extents as far as they were put, and as far as they were written.
use Rattle.std.proofs.Common.{◌≡◌, ℕ, ◌+◌, ◌-◌, ◌*◌, ◌<◌, ◌≤◌, Bool, List, [], ◌∷◌, ◌++◌, length, drop, take, get_or, suc, refl, sym, ap, ◌∙◌, append_assoc}
use Rattle.std.proofs.lemmas.List.{append-nil, drop_all, drop_more}
use Rattle.tp_listings.specs.declared.extent.Extent.{Extent}
use Rattle.nbd_wire.specs.declared.contexts.MetaContext.{MetaContext}
use Rattle.nbd_wire.specs.Contexts.{extent_text, extents_text, status_chunk, status_head}
use Rattle.nbd_wire.specs.Replies.{Puts}
use Rattle.nbd_wire.proofs.Chunking.{status_is_chunk}
use Rattle.nbd_session.specs.declared.spans.Span.{Span}
use Rattle.nbd_session.specs.Spans.{as_pairs}
use Rattle.nbd_session.specs.Status.{between, extents_in, gap_to, listed_flags}

-- one run more was put
pub spans_more : (m : MetaContext) (unit at end last i : ℕ) (d : Extent) (runs : List Extent) (was now whole : List (ℕ × ℕ)) → i < length runs
    → now ≡ was ++ (gap_to m at (between at end (unit * (get_or runs i d).first)) ++ (last - between at end (unit * (get_or runs i d).first), listed_flags m) ∷ [])
    → last ≡ between (between at end (unit * (get_or runs i d).first)) end (unit * ((get_or runs i d).first + (get_or runs i d).blocks))
    → was ++ extents_in m unit at end (drop i runs) ≡ whole → now ++ extents_in m unit last end (drop (i + 1) runs) ≡ whole
spans_more m unit at end last i d runs was now whole lt now_is last_is before =
    let first = between at end (unit * (get_or runs i d).first) in
    let rest = drop (i + 1) runs in
    let one : List (ℕ × ℕ) = (last - first, listed_flags m) ∷ [] in
    let more : List (ℕ × ℕ) = extents_in m unit last end rest in
    let cut : extents_in m unit at end (drop i runs) ≡ gap_to m at first ++ ((last - first, listed_flags m) ∷ more) =
    ap (extents_in m unit at end) (drop_more runs i d lt) ∙ ap (λ (n : ℕ). gap_to m at first ++ ((n - first, listed_flags m) ∷ extents_in m unit n end rest)) (sym last_is) in
    ap (λ (l : List (ℕ × ℕ)). l ++ more) now_is
    ∙ (append_assoc was (gap_to m at first ++ one) more ∙ (ap (λ (l : List (ℕ × ℕ)). was ++ l) (append_assoc (gap_to m at first) one more ∙ sym cut) ∙ before))

-- all were, and then what is behind them
pub spans_all : (m : MetaContext) (unit at end i : ℕ) (runs : List Extent) (was now whole : List (ℕ × ℕ)) → length runs ≤ i → now ≡ was ++ gap_to m at end
    → was ++ extents_in m unit at end (drop i runs) ≡ whole → now ≡ whole
spans_all m unit at end i runs was now whole over now_is before =
    now_is ∙ (ap (λ (l : List Extent). was ++ extents_in m unit at end l) (sym (drop_all i runs over)) ∙ before)

length-pairs : (spans : List Span) → length (as_pairs spans) ≡ length spans
length-pairs [] = refl
length-pairs (x ∷ xs) = ap suc (length-pairs xs)

-- what stands before all extents was written
pub head_put : (p : Bool) (m : MetaContext) (cookie start : ℕ) (spans : List Span) (old new : List ℕ) (end : ℕ) → Puts old start (status_head p m cookie (length spans)) new end
    → take end new ++ extents_text (as_pairs spans) ≡ take start old ++ status_chunk p m cookie (as_pairs spans)
head_put p m cookie start spans old new end puts =
    let front : List ℕ = take start old in
    let texts : List ℕ = extents_text (as_pairs spans) in
    let whole : status_head p m cookie (length spans) ++ texts ≡ status_chunk p m cookie (as_pairs spans) =
    ap (λ (n : ℕ). status_head p m cookie n ++ texts) (sym (length-pairs spans)) ∙ sym (status_is_chunk p m cookie (as_pairs spans)) in
    ap (λ (l : List ℕ). l ++ texts) puts.front ∙ (append_assoc front (status_head p m cookie (length spans)) texts ∙ ap (λ (l : List ℕ). front ++ l) whole)

-- one extent more was written
pub texts_more : (i : ℕ) (d : Span) (spans : List Span) (at end : ℕ) (old new whole : List ℕ) → i < length spans
    → Puts old at (extent_text (get_or spans i d).len (get_or spans i d).flags) new end
    → take at old ++ extents_text (as_pairs (drop i spans)) ≡ whole → take end new ++ extents_text (as_pairs (drop (i + 1) spans)) ≡ whole
texts_more i d spans at end old new whole lt puts before =
    let one : List ℕ = extent_text (get_or spans i d).len (get_or spans i d).flags in
    let rest : List ℕ = extents_text (as_pairs (drop (i + 1) spans)) in
    let cut : extents_text (as_pairs (drop i spans)) ≡ one ++ rest = ap (λ (l : List Span). extents_text (as_pairs l)) (drop_more spans i d lt) in
    ap (λ (l : List ℕ). l ++ rest) puts.front ∙ (append_assoc (take at old) one rest ∙ (ap (λ (l : List ℕ). take at old ++ l) (sym cut) ∙ before))

pub texts_all : (i at : ℕ) (spans : List Span) (out whole : List ℕ) → length spans ≤ i → take at out ++ extents_text (as_pairs (drop i spans)) ≡ whole → take at out ≡ whole
texts_all i at spans out whole over before =
    sym (append-nil (take at out)) ∙ (ap (λ (l : List Span). take at out ++ extents_text (as_pairs l)) (sym (drop_all i spans over)) ∙ before)
