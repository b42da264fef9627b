-- A step takes as much as its text has of the first frame, and that is one number.
use Rattle.std.proofs.Common.{◌≡◌, ℕ, ◌⊎◌, Bool, List, ◌++◌, length, take, drop, Option, Some, None, sym, ap, ◌∙◌, append_assoc, arith, inl, inr}
use Rattle.std.specs.Prelude.{MatchOption}
use Rattle.std.proofs.lemmas.List.{take-append-drop, length-append, length-take-le}
use Rattle.tp_model.specs.Pool.{Outline}
use Rattle.tp_model.specs.Calls.{Call, Answer}
use Rattle.nbd_wire.specs.declared.Kind.{Kind}
use Rattle.nbd_wire.proofs.Frames.{one_frame}
use Rattle.nbd_session.specs.declared.phase.Course.TheVariants.{Listens, Works}
use Rattle.nbd_session.specs.declared.phase.Phase.{Phase}
use Rattle.nbd_session.specs.declared.phase.Phase.TheVariants.{Flags, Options, Transmission, Ended}
use Rattle.nbd_session.specs.Session.{State, kind_of, Waits, TakesFrame, IsDeaf, Steps}

-- the text behind what was taken
whole : (held piece : List ℕ) (n : ℕ) → held ++ piece ≡ (held ++ take n piece) ++ drop n piece
whole held piece n = ap (λ (x : List ℕ). held ++ x) (sym (take-append-drop n piece)) ∙ sym (append_assoc held (take n piece) (drop n piece))

module _ {S : Type 0} (outline : S → Outline) (Calls : S → Call → Answer → S → Type 0) where
  place_deaf : (phase : Phase) (old new other : State) (p q p' q' : S) (piece sent also : List ℕ) (taken next : ℕ) (ended ends : Bool)
      → IsDeaf outline Calls phase old p piece taken sent ended new p' → IsDeaf outline Calls phase old q piece next also ends other q' → taken ≡ next
  place_deaf (Flags f) old new other p q p' q' piece sent also taken next ended ends a b = absurd b
  place_deaf (Options z) old new other p q p' q' piece sent also taken next ended ends a b = absurd b
  place_deaf (Transmission v n (Listens x)) old new other p q p' q' piece sent also taken next ended ends a b = absurd b
  place_deaf (Transmission v n (Works m r)) old new other p q p' q' piece sent also taken next ended ends a b = a.taken_is ∙ sym b.taken_is
  place_deaf Ended old new other p q p' q' piece sent also taken next ended ends a b = a.taken_is ∙ sym b.taken_is

  place_case : (old new other : State) (p q p' q' : S) (piece sent also : List ℕ) (taken next : ℕ) (ended ends : Bool) (o : Option Kind)
      → MatchOption o (IsDeaf outline Calls old.phase old p piece taken sent ended new p') (λ kind. Waits outline Calls kind old p piece taken sent ended new p' ⊎ TakesFrame outline Calls kind old p piece taken sent ended new p')
      → MatchOption o (IsDeaf outline Calls old.phase old q piece next also ends other q') (λ kind. Waits outline Calls kind old q piece next also ends other q' ⊎ TakesFrame outline Calls kind old q piece next also ends other q') → taken ≡ next
  place_case old new other p q p' q' piece sent also taken next ended ends None a b = place_deaf old.phase old new other p q p' q' piece sent also taken next ended ends a b
  place_case old new other p q p' q' piece sent also taken next ended ends (Some kind) (inl a) (inl b) = a.taken_is ∙ sym b.taken_is
  place_case old new other p q p' q' piece sent also taken next ended ends (Some kind) (inl a) (inr b) = absurd (a.partial b.message (old.held ++ take next piece) (drop next piece) b.frame (whole old.held piece next))
  place_case old new other p q p' q' piece sent also taken next ended ends (Some kind) (inr a) (inl b) = absurd (b.partial a.message (old.held ++ take taken piece) (drop taken piece) a.frame (whole old.held piece taken))
  place_case old new other p q p' q' piece sent also taken next ended ends (Some kind) (inr a) (inr b) =
      let one = one_frame kind a.message b.message (old.held ++ take taken piece) (old.held ++ take next piece) (drop taken piece) (drop next piece) a.frame b.frame (sym (whole old.held piece taken) ∙ whole old.held piece next) in
      let len = ap length one.0 in
      let l1 = length-append old.held (take taken piece) in
      let l2 = length-append old.held (take next piece) in
      let k1 = length-take-le taken piece a.inside in
      let k2 = length-take-le next piece b.inside in
      omega arith

  pub same_place : (old new other : State) (p q p' q' : S) (piece sent also : List ℕ) (taken next : ℕ) (ended ends : Bool)
      → Steps outline Calls old p piece taken sent ended new p' → Steps outline Calls old q piece next also ends other q' → taken ≡ next
  same_place old new other p q p' q' piece sent also taken next ended ends a b = place_case old new other p q p' q' piece sent also taken next ended ends (kind_of old.phase) a b
