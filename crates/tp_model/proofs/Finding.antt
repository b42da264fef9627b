-- A request to a volume that is held is not refused for want of the volume.
use Rattle.std.proofs.Common.{◌≡◌, ◌≢◌, ℕ, ◌<◌, Bool, true, false, [], ◌∷◌, Option, Some, None, inl, inr, refl, sym, ap, ◌∙◌, arith}
use Rattle.std.specs.Prelude.{not, nat_lt, ◌&&◌, length}
use Rattle.std.proofs.lemmas.Bool.{false≢true}
use Rattle.std.proofs.lemmas.Option.{none-some, same_Some, MatchOption-at_none, MatchOption-at_some}
use Rattle.tp_model.specs.declared.refusal.Refusal.{Refusal}
use Rattle.tp_model.specs.declared.refusal.Refusal.TheVariants.{Failed, NoDataSpace, NoMetadataSpace, NoSuchDevice, ReadOnly}
use Rattle.tp_model.specs.Refusals.{refusal_number}
use Rattle.tp_model.specs.Pool.{PlainPool, hold_count}
use Rattle.tp_model.specs.Calls.{Answer, Done, Gave, Line, Found, Sized, Listed, Refused, Call, Read, Write, Trim, WriteZeroes, Flush, CreateThin, CreateSnap, Delete, SetTransactionId, Grow, Hold, LetGo, Status, ThinStatus, NextId, VolumeBlocks, Walk, Close, HeldRead, ReserveMetadataSnap, ReleaseMetadataSnap, Step, Takes, exists, first_failed, has_data_room, has_metadata_room, is_failed, is_read_only, refusal_of, reply, volume_asked}
use Rattle.tp_model.specs.Clauses.{Called, View, ViewLaws}

-- the number of what stands there; 0 where nothing does
abbrev number : Option Refusal → ℕ
number None = 0
number (Some reason) = refusal_number reason

abbrev answer_number : Answer → ℕ
answer_number Done = 0
answer_number (Gave sectors) = 0
answer_number (Line bytes) = 0
answer_number (Found bytes) = 0
answer_number (Sized blocks) = 0
answer_number (Listed slots) = 0
answer_number (Refused reason) = refusal_number reason

-- ---- the tests

behind : (a b c : Bool) → number (first_failed ((a, ReadOnly) ∷ (b, NoMetadataSpace) ∷ (c, NoDataSpace) ∷ [])) ≢ 15
behind true b c h = absurd (omega (arith, h))
behind false true c h = absurd (omega (arith, h))
behind false false true h = absurd (omega (arith, h))
behind false false false h = absurd (omega (arith, h))

found_to_read : (failed there : Bool) → (failed ≡ false → there ≡ true) → number (first_failed ((failed, Failed) ∷ (not there, NoSuchDevice) ∷ [])) ≢ 15
found_to_read true there is h = absurd (omega (arith, h))
found_to_read false true is h = absurd (omega (arith, h))
found_to_read false false is h = false≢true (is refl)

found_to_change : (failed there a b c : Bool) → (failed ≡ false → there ≡ true)
    → number (first_failed ((failed, Failed) ∷ (not there, NoSuchDevice) ∷ (a, ReadOnly) ∷ (b, NoMetadataSpace) ∷ (c, NoDataSpace) ∷ [])) ≢ 15
found_to_change true there a b c is h = absurd (omega (arith, h))
found_to_change false true a b c is h = behind a b c h
found_to_change false false a b c is h = false≢true (is refl)

module _ (p : PlainPool) (id : ℕ) (is : is_failed p.mode ≡ false → exists p id ≡ true) where
  there : (i : ℕ) → Some i ≡ Some id → is_failed p.mode ≡ false → exists p i ≡ true
  there i same works = ap (exists p) (same_Some i id same) ∙ is works

  tests_pass : (call : Call) → volume_asked call ≡ Some id → number (refusal_of p call) ≢ 15
  tests_pass (Read i sector count) same = found_to_read (is_failed p.mode) (exists p i) (there i same)
  tests_pass (Write i sector sectors fua) same = found_to_change (is_failed p.mode) (exists p i) (is_read_only p.mode) (nat_lt 0 (length sectors) && not (has_metadata_room p 512)) (not (has_data_room p (Write i sector sectors fua) i)) (there i same)
  tests_pass (Trim i sector count fua) same = found_to_change (is_failed p.mode) (exists p i) (is_read_only p.mode) (nat_lt 0 count && not (has_metadata_room p 256)) false (there i same)
  tests_pass (WriteZeroes i sector count no_hole fua) same = found_to_change (is_failed p.mode) (exists p i) (is_read_only p.mode) (nat_lt 0 count && not (has_metadata_room p 512)) (not (has_data_room p (WriteZeroes i sector count no_hole fua) i)) (there i same)
  tests_pass Flush same = absurd (none-some id same)
  tests_pass (CreateThin i) same = absurd (none-some id same)
  tests_pass (CreateSnap i origin) same = absurd (none-some id same)
  tests_pass (Delete i) same = absurd (none-some id same)
  tests_pass (SetTransactionId current next) same = absurd (none-some id same)
  tests_pass (Grow i blocks) same = absurd (none-some id same)
  tests_pass (Hold i) same = absurd (none-some id same)
  tests_pass (LetGo i) same = absurd (none-some id same)
  tests_pass Status same = absurd (none-some id same)
  tests_pass (ThinStatus i) same = absurd (none-some id same)
  tests_pass (NextId i) same = absurd (none-some id same)
  tests_pass (VolumeBlocks i) same = absurd (none-some id same)
  tests_pass (Walk i from) same = absurd (none-some id same)
  tests_pass Close same = absurd (none-some id same)
  tests_pass (HeldRead i sector count) same = absurd (none-some id same)
  tests_pass ReserveMetadataSnap same = absurd (none-some id same)
  tests_pass ReleaseMetadataSnap same = absurd (none-some id same)

-- ---- the answer

reply_number : (p : PlainPool) (call : Call) (id : ℕ) → volume_asked call ≡ Some id → answer_number (reply p call) ≡ 0
reply_number p (Read i sector count) id same = refl
reply_number p (Write i sector sectors fua) id same = refl
reply_number p (Trim i sector count fua) id same = refl
reply_number p (WriteZeroes i sector count no_hole fua) id same = refl
reply_number p Flush id same = absurd (none-some id same)
reply_number p (CreateThin i) id same = absurd (none-some id same)
reply_number p (CreateSnap i origin) id same = absurd (none-some id same)
reply_number p (Delete i) id same = absurd (none-some id same)
reply_number p (SetTransactionId current next) id same = absurd (none-some id same)
reply_number p (Grow i blocks) id same = absurd (none-some id same)
reply_number p (Hold i) id same = absurd (none-some id same)
reply_number p (LetGo i) id same = absurd (none-some id same)
reply_number p Status id same = absurd (none-some id same)
reply_number p (ThinStatus i) id same = absurd (none-some id same)
reply_number p (NextId i) id same = absurd (none-some id same)
reply_number p (VolumeBlocks i) id same = absurd (none-some id same)
reply_number p (Walk i from) id same = absurd (none-some id same)
reply_number p Close id same = absurd (none-some id same)
reply_number p (HeldRead i sector count) id same = absurd (none-some id same)
reply_number p ReserveMetadataSnap id same = absurd (none-some id same)
reply_number p ReleaseMetadataSnap id same = absurd (none-some id same)

refused_by : (p : PlainPool) (call : Call) (id : ℕ) (q : PlainPool) → volume_asked call ≡ Some id → (o : Option Refusal) → refusal_of p call ≡ o → Step p call (Refused NoSuchDevice) q → number (refusal_of p call) ≡ 15
refused_by p call id q asked None is h =
    let same : 15 ≡ 0 = ap answer_number (MatchOption-at_none _ _ is h).0 ∙ reply_number p call id asked in
    absurd (omega (arith, same))
refused_by p call id q asked (Some r) is h =
    let same : 15 ≡ refusal_number r = ap answer_number (MatchOption-at_some _ _ r is h).0 in
    ap number is ∙ sym same

taken_by : (p : PlainPool) (call : Call) (id : ℕ) (made after : PlainPool) → volume_asked call ≡ Some id → Takes p call (Refused NoSuchDevice) made after → number (refusal_of p call) ≡ 15
taken_by p call id made after asked (inl step) = refused_by p call id after asked (refusal_of p call) refl step.0
taken_by p call id made after asked (inr fault) =
    let same : 15 ≡ 5 = ap answer_number fault.0 in
    absurd (omega (arith, same))

module _ {D : Type 0} (v : View D) (laws : ViewLaws v) where
  pub held_is_found : (old new : D) (s : PlainPool) (call : Call) (id : ℕ) → v.shows old s → volume_asked call ≡ Some id → 0 < hold_count (v.outline old).holds id → Called v old new call (Refused NoSuchDevice) → ⊥
  held_is_found old new s call id shows asked holds called =
      let m = called.meets s shows in
      let same = ap (λ o. hold_count o.holds id) (laws.shown old s shows) in
      tests_pass s id (λ works. (laws.consistent old s shows works).held id (omega (arith, same, holds))) call asked (taken_by s call id m.0 m.1 asked m.2)
