-- A list of extents that is read one by one.
use Rattle.std.proofs.Common.{◌≡◌, ℕ, ◌+◌, ◌*◌, ◌<◌, ◌≤◌, Bool, true, false, cond, List, [], ◌∷◌, ◌++◌, length, take, drop, set, ltb, Some, None, refl, sym, ap, subst, ◌∙◌, append_assoc, arith}
use Rattle.std.proofs.lemmas.Bool.{ltb-true}
use Rattle.std.proofs.lemmas.Grind.{flat_map-append}
use Rattle.std.proofs.lemmas.List.{append-nil, drop_at, length-append, length-take-le, nil_from_length, take_more_set}
use Rattle.std.proofs.lemmas.List.Elements.{All-append, All-cons, All-nil}
use Rattle.nbd_wire.specs.Numbers.{number}
use Rattle.nbd_wire.specs.Contexts.{FitExtents, extent_text, extents_text}
use Rattle.nbd_wire.specs.ReceivedChunks.{extent_in}
use Rattle.nbd_wire.proofs.Chunking.{FitsExtent, length-extents, one_extents}
use Rattle.nbd_wire.proofs.Fields.{IsBytes, IsBytes-drop, width4}
use Rattle.nbd_wire.proofs.Names.{guard, last_guard}
use Rattle.nbd_wire.proofs.ReceivedChunks.{extent_takes}

none_left : (b : Bool) (x : (ℕ × ℕ) × List ℕ) → cond b None (Some x) ≡ None → b ≡ true
none_left true x e = refl
none_left false x e = absurd cc

-- fewer bytes than an extent has
pub extent_none : (t : List ℕ) → extent_in t ≡ None → length t < 8
unfolding extent_in
extent_none t e = ltb-true (length t) 8 (none_left (ltb (length t) 8) ((number 4 t, number 4 (drop 4 t)), drop 8 t) e)

-- how long what follows those so far is
pub length-left : (t rest : List ℕ) (so_far whole : List (ℕ × ℕ)) → t ≡ extents_text so_far ++ rest → t ≡ extents_text whole → 8 * length so_far + length rest ≡ 8 * length whole
length-left t rest so_far whole e is = omega (arith, ap length e, ap length is, length-append (extents_text so_far) rest, length-extents so_far, length-extents whole)

left_bytes : (t rest : List ℕ) (so_far : List (ℕ × ℕ)) → IsBytes t → t ≡ extents_text so_far ++ rest → IsBytes rest
left_bytes t rest so_far h e =
    let before : List ℕ = extents_text so_far in
    subst IsBytes (ap (drop (length before)) e ∙ drop_at before rest (length before) refl) (IsBytes-drop (length before) t h)

extent_fits : (t : List ℕ) (x : (ℕ × ℕ) × List ℕ) → IsBytes t → extent_in t ≡ Some x → FitsExtent x.0
unfolding extent_in
extent_fits t x h e =
    let g = guard (ltb (length t) 8) _ x e in
    let pair = last_guard true ((number 4 t, number 4 (drop 4 t)), drop 8 t) x g.1 in
    subst (λ (p : (ℕ × ℕ) × List ℕ). FitsExtent p.0) pair.1 (width4.below t h, width4.below (drop 4 t) (IsBytes-drop 4 t h))

-- one extent more
pub record ReadsOneMore (t behind : List ℕ) (so_far : List (ℕ × ℕ)) (rest : List ℕ) : Type 0 where
  pub text_is : t ≡ extents_text so_far ++ behind
  pub fit : FitExtents so_far
  pub shorter : length behind < length rest

pub reads_one_more : (t rest behind : List ℕ) (out : List (ℕ × ℕ)) (n : ℕ) (x : ℕ × ℕ) → IsBytes t → n < length out → FitExtents (take n out)
    → t ≡ extents_text (take n out) ++ rest → extent_in rest ≡ Some (x, behind) → ReadsOneMore t behind (take (n + 1) (set out n x)) rest
reads_one_more t rest behind out n x h lt fit e is =
    let so_far : List (ℕ × ℕ) = take n out in
    let text : ℕ × ℕ → List ℕ = λ extent. extent_text extent.0 extent.1 in
    let rest_bytes = left_bytes t rest so_far h e in
    let one : rest ≡ extent_text x.0 x.1 ++ behind = extent_takes rest (x, behind) rest_bytes is in
    let more : extents_text (so_far ++ x ∷ []) ≡ extents_text so_far ++ extent_text x.0 x.1 =
    flat_map-append text so_far (x ∷ []) ∙ ap (λ (z : List ℕ). extents_text so_far ++ z) (append-nil (extent_text x.0 x.1)) in
    let whole : t ≡ extents_text (so_far ++ x ∷ []) ++ behind =
    e ∙ ap (λ (z : List ℕ). extents_text so_far ++ z) one ∙ sym (append_assoc (extents_text so_far) (extent_text x.0 x.1) behind) ∙ ap (λ (z : List ℕ). z ++ behind) (sym more) in
    let fits : FitExtents (so_far ++ x ∷ []) =
    All-append FitsExtent so_far (x ∷ []) fit (All-cons FitsExtent x [] (extent_fits rest (x, behind) rest_bytes is) (All-nil FitsExtent)) in
    let now : so_far ++ x ∷ [] ≡ take (n + 1) (set out n x) = sym (take_more_set out n x lt) in
    record {
      text_is = subst (λ (z : List (ℕ × ℕ)). t ≡ extents_text z ++ behind) now whole;
      fit = subst FitExtents now fits;
      shorter = omega (arith, ap length one, length-append (extent_text x.0 x.1) behind, length-extents (x ∷ []), ap length (append-nil (extent_text x.0 x.1)));
    }

-- all that were read are all that the text has
pub read_all : (t rest : List ℕ) (out whole : List (ℕ × ℕ)) (n : ℕ) → n ≤ length out → length rest ≡ 0 → FitExtents (take n out) → FitExtents whole
    → t ≡ extents_text (take n out) ++ rest → t ≡ extents_text whole → (n ≡ length whole) × (take n out ≡ whole)
read_all t rest out whole n le empty fit fits e is =
    let left = length-left t rest (take n out) whole e is in
    let none : extents_text (take n out) ++ rest ≡ extents_text (take n out) =
    ap (λ (z : List ℕ). extents_text (take n out) ++ z) (nil_from_length rest empty) ∙ append-nil (extents_text (take n out)) in (
      omega (arith, left, empty, length-take-le n out le),
      one_extents (take n out) whole fit fits (sym none ∙ sym e ∙ is),
    )
