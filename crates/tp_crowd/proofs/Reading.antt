-- What reads of a reader brought to a buffer, one behind the other.
use borrow.Rule.Slice.PartMut.{post_of, put_mid}
use Rattle.std.proofs.Common.{◌≡◌, ℕ, zero, suc, ◌+◌, ◌<◌, ◌≤◌, ◌++◌, List, [], Option, length, take, drop, append-nil, length-take-le, refl, sym, subst, ap, ◌∙◌, arith}
use Rattle.std.proofs.lemmas.List.{drop_at, take-append-le}
use Rattle.std.proofs.lemmas.Slice.{take-put_mid_below}
use Rattle.std.proofs.Math.Seq.{take-add}
use Rattle.std.specs.Io.KnownBytes.{Consumes}
use Rattle.tp_hub.specs.declared.stream.Received.{Received}
use Rattle.tp_hub.specs.declared.stream.Received.TheVariants.{Got, NotNow, End, Broken}
use Rattle.tp_lines.specs.Pipes.{IsRead}
use Rattle.tp_lines.proofs.Bytes.{consumes_then}
use Rattle.tp_lock.specs.Framing.{given}

module _ (a b c : Option (List ℕ)) (buffer part : List ℕ) (at k : ℕ) (within : at ≤ length buffer) (before : Consumes a b (take at buffer)) where
  abbrev new : List ℕ
  new = put_mid at k buffer part

  kept : take at new ≡ take at buffer
  kept = take-put_mid_below at k buffer part at (omega arith) within

  front : (n : ℕ) → n ≤ length part → take (at + n) new ≡ take at buffer ++ take n part
  front n fits =
      take-add at n new
      ∙ (ap (λ l. l ++ take n (drop at new)) kept
      ∙ (ap (λ l. take at buffer ++ take n l) (drop_at (take at buffer) (part ++ post_of at k buffer) at (length-take-le at buffer within)) ∙ ap (λ l. take at buffer ++ l) (take-append-le n part (post_of at k buffer) fits)))

  -- one read more
  pub took_more : (n : ℕ) → n ≤ length part → Consumes b c (take n part) → Consumes a c (take (at + n) new)
  took_more n fits more = subst (λ (l : List ℕ). Consumes a c l) (sym (front n fits)) (consumes_then a b c (take at buffer) (take n part) before more)

  -- one that brought nothing
  pub took_none : Consumes b c [] → Consumes a c (take at new)
  took_none none = subst (λ (l : List ℕ). Consumes a c l) (append-nil (take at buffer) ∙ sym kept) (consumes_then a b c (take at buffer) [] before none)

-- what they come to, where the last one brought nothing
pub brings : (a c : Option (List ℕ)) (buffer : List ℕ) (at : ℕ) (last result : Received) → Consumes a c (take at buffer) → given last buffer ≡ [] → (at ≡ 0 → result ≡ last) → (0 < at → result ≡ Got at) → Consumes a c (given result buffer)
brings a c buffer zero last result so none is more = subst (λ (r : Received). Consumes a c (given r buffer)) (sym (is refl)) (subst (λ (l : List ℕ). Consumes a c l) (sym none) so)
brings a c buffer (suc n) last result so none is more = subst (λ (r : Received). Consumes a c (given r buffer)) (sym (more (omega arith))) so

-- a read that gave no bytes
pub nothing : (last : Received) (buffer : List ℕ) → ((n : ℕ) → last ≡ Got n → ⊥) → given last buffer ≡ []
nothing (Got n) buffer other = absurd (other n refl)
nothing NotNow buffer other = refl
nothing End buffer other = refl
nothing Broken buffer other = refl

pub read_nothing : (last : Received) (b c : Option (List ℕ)) (part : List ℕ) → ((n : ℕ) → last ≡ Got n → ⊥) → IsRead last b c part → Consumes b c []
read_nothing (Got n) b c part other h = absurd (other n refl)
read_nothing NotNow b c part other h = h
read_nothing End b c part other h = h.0
read_nothing Broken b c part other h = h
