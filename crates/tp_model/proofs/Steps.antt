-- A step from the answer of its tests.
use Rattle.std.proofs.Common.{◌≡◌, ◌≢◌, ℕ, ◌+◌, ◌*◌, ◌<◌, ◌≤◌, true, false, cond, Option, Some, None, refl, sym, ap, subst, ◌∙◌}
use Rattle.std.specs.Prelude.{MatchOption}
use Rattle.std.proofs.lemmas.Bool.{and_right, le-ltb, lt-leb, ne_eqb}
use Rattle.std.specs.Ordering.{nat_cmp}
use Rattle.std.specs.FinMap.{FinMap, get, insert}
use Rattle.tp_model.specs.declared.mode.Mode.TheVariants as mode
use Rattle.std.proofs.lemmas.Option.{none-some}
use Rattle.tp_model.specs.declared.refusal.Refusal.{Refusal}
use Rattle.tp_model.specs.declared.refusal.Refusal.TheVariants.{Failed}
use Rattle.tp_model.specs.Geometry.{Geometry}
use Rattle.tp_model.specs.Pool.{PlainPool}
use Rattle.tp_model.specs.Calls.{Call, Read, Write, Trim, WriteZeroes, Flush, CreateThin, CreateSnap, Delete, SetTransactionId, Grow, Hold, LetGo, Status, ThinStatus, NextId, VolumeBlocks, Walk, Close, HeldRead, ReserveMetadataSnap, ReleaseMetadataSnap, Refused, refusal_of, after_refusal, reply, Makes, Step, touches, covers, is_failed, is_read_only}
use Rattle.tp_model.proofs.Maps.{get_insert}

pub step_accepted : (p : PlainPool) (call : Call) (q : PlainPool) → refusal_of p call ≡ None → Makes p call q → Step p call (reply p call) q
step_accepted p call q none h =
    let P : Option Refusal → Type 0 = λ o. MatchOption o ((reply p call ≡ reply p call) × Makes p call q) (λ reason. (reply p call ≡ Refused reason) × (q ≡ after_refusal reason p)) in
    subst P (sym none) (refl, h)

pub step_refused : (p : PlainPool) (call : Call) (r : Refusal) → refusal_of p call ≡ Some r → Step p call (Refused r) (after_refusal r p)
step_refused p call r some =
    let P : Option Refusal → Type 0 = λ o. MatchOption o ((Refused r ≡ reply p call) × Makes p call (after_refusal r p)) (λ reason. (Refused r ≡ Refused reason) × (after_refusal r p ≡ after_refusal reason p)) in
    subst P (sym some) (refl, refl)

-- a range does not touch a block past its end
pub not_touched_past : (g : Geometry) (at n block : ℕ) → at + n ≤ block * g.block_sectors → touches g at n block ≡ false
not_touched_past g at n block h = and_right _ _ (le-ltb (block * g.block_sectors) (at + n) h)

pub other_of_insert : {X : Type 0} (m : FinMap nat_cmp X) (k : ℕ) (v : X) (i : ℕ) → i ≢ k → get (insert m k v) i ≡ get m i
other_of_insert m k v i apart = get_insert m k v i ∙ ap (λ b. cond b (Some v) (get m i)) (ne_eqb i k apart)

-- nor does it cover one
pub not_covered_past : (g : Geometry) (at n block : ℕ) → at + n < (block + 1) * g.block_sectors → covers g at n block ≡ false
not_covered_past g at n block h = and_right _ _ (lt-leb ((block + 1) * g.block_sectors) (at + n) h)

-- the tests of the mode tell the three modes apart
failed_only : (is_failed mode.Failed ≡ true) × (is_failed mode.Writable ≡ false) × (is_failed mode.ReadOnly ≡ false)
failed_only = (refl, refl, refl)

read_only_only : (is_read_only mode.Failed ≡ false) × (is_read_only mode.Writable ≡ false) × (is_read_only mode.ReadOnly ≡ true)
read_only_only = (refl, refl, refl)

-- ---- a failed pool

failed_test : (p : PlainPool) → p.mode ≡ mode.Failed → is_failed p.mode ≡ true
failed_test p h = ap is_failed h

-- A failed pool refuses alike whatever else it would show.
pub refused_alike : (p q : PlainPool) (call : Call) → p.mode ≡ mode.Failed → q.mode ≡ mode.Failed → refusal_of q call ≡ refusal_of p call
refused_alike p q (Write id sector xs fua) f g = simp (f, g)
refused_alike p q (Trim id sector count fua) f g = simp (f, g)
refused_alike p q (WriteZeroes id sector count no_hole fua) f g = simp (f, g)
refused_alike p q (Read id sector count) f g = simp (f, g)
refused_alike p q Flush f g = simp (f, g)
refused_alike p q (CreateThin id) f g = simp (f, g)
refused_alike p q (CreateSnap id origin) f g = simp (f, g)
refused_alike p q (Delete id) f g = simp (f, g)
refused_alike p q (SetTransactionId current next) f g = simp (f, g)
refused_alike p q (Grow id blocks) f g = simp (f, g)
refused_alike p q (Hold id) f g = simp (f, g)
refused_alike p q (LetGo id) f g = refl
refused_alike p q Status f g = refl
refused_alike p q (ThinStatus id) f g = simp (f, g)
refused_alike p q (NextId id) f g = simp (f, g)
refused_alike p q (VolumeBlocks id) f g = simp (f, g)
refused_alike p q (Walk id from) f g = simp (f, g)
refused_alike p q Close f g = simp (f, g)
refused_alike p q (HeldRead id sector count) f g = simp (f, g)
refused_alike p q ReserveMetadataSnap f g = simp (f, g)
refused_alike p q ReleaseMetadataSnap f g = simp (f, g)

-- and where it does not refuse, it answers alike
pub answered_alike : (p q : PlainPool) (call : Call) → p.mode ≡ mode.Failed → q.mode ≡ mode.Failed → refusal_of p call ≡ None → reply q call ≡ reply p call
answered_alike p q (Write id sector xs fua) f g none = refl
answered_alike p q (Trim id sector count fua) f g none = refl
answered_alike p q (WriteZeroes id sector count no_hole fua) f g none = refl
answered_alike p q (Read id sector count) f g none = absurd (none-some Failed (sym none ∙ simp f))
answered_alike p q Flush f g none = refl
answered_alike p q (CreateThin id) f g none = refl
answered_alike p q (CreateSnap id origin) f g none = refl
answered_alike p q (Delete id) f g none = refl
answered_alike p q (SetTransactionId current next) f g none = refl
answered_alike p q (Grow id blocks) f g none = refl
answered_alike p q (Hold id) f g none = refl
answered_alike p q (LetGo id) f g none = refl
answered_alike p q Status f g none = simp (f, g)
answered_alike p q (ThinStatus id) f g none = simp (f, g)
answered_alike p q (NextId from) f g none = absurd (none-some Failed (sym none ∙ simp f))
answered_alike p q (VolumeBlocks id) f g none = absurd (none-some Failed (sym none ∙ simp f))
answered_alike p q (Walk id from) f g none = absurd (none-some Failed (sym none ∙ simp f))
answered_alike p q Close f g none = refl
answered_alike p q (HeldRead id sector count) f g none = absurd (none-some Failed (sym none ∙ simp f))
answered_alike p q ReserveMetadataSnap f g none = refl
answered_alike p q ReleaseMetadataSnap f g none = refl
