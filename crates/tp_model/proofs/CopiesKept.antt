-- No call gives a sector of a held copy a value.
use Rattle.std.proofs.Common.{◌≡◌, ℕ, Bool, true, false, List, [], ◌∷◌, None, inl, inr, refl, sym, ◌∙◌, arith}
use Rattle.std.specs.Prelude.{not, ◌&&◌, ◌^◌, length, nat_lt}
use Rattle.std.proofs.lemmas.Bool.{and_parts, le-ltb, true≢false}
use Rattle.std.proofs.lemmas.Option.{none-some}
use Rattle.tp_model.specs.declared.refusal.Refusal.{Refusal}
use Rattle.tp_model.specs.declared.refusal.Refusal.TheVariants.{Failed, NoDataSpace, NoMetadataSpace, NoSuchDevice, ReadOnly}
use Rattle.tp_model.specs.Sectors.{Sector}
use Rattle.tp_model.specs.Pool.{PlainPool, copy_id, is_now, volume_sector}
use Rattle.tp_model.specs.Calls.{Call, Read, Write, Trim, WriteZeroes, Flush, CreateThin, CreateSnap, Delete, SetTransactionId, Grow, Hold, LetGo, Status, ThinStatus, NextId, VolumeBlocks, Walk, Close, HeldRead, ReserveMetadataSnap, ReleaseMetadataSnap, exists, first_failed, has_data_room, has_metadata_room, is_failed, is_read_only, refusal_of, refusal_of_request}
use Rattle.tp_model.specs.PoolStops.{Event, Given, GivenIn, MayReopen}
use Rattle.std.specs.FinMap.{contains_key}

pub second_passes : (p : PlainPool) (id count least : ℕ) (has_room : Bool) → refusal_of_request p id count least has_room ≡ None → exists p id ≡ true
second_passes p id count least has_room none =
    passed (is_failed p.mode) (exists p id)
    ((is_read_only p.mode, ReadOnly) ∷ (nat_lt 0 count && not (has_metadata_room p least), NoMetadataSpace) ∷ (not has_room, NoDataSpace) ∷ []) none
  where
    passed : (a b : Bool) (tests : List (Bool × Refusal)) → first_failed ((a, Failed) ∷ (not b, NoSuchDevice) ∷ tests) ≡ None → b ≡ true
    passed true b tests h = absurd (none-some Failed (sym h))
    passed false true tests h = refl
    passed false false tests h = absurd (none-some NoSuchDevice (sym h))

volume_is_now : (p : PlainPool) (i id : ℕ) → exists p i ≡ true → i ≡ copy_id id → ⊥
volume_is_now p i id there same =
    true≢false (sym (and_parts (is_now i) (contains_key p.volumes i) there).0 ∙ le-ltb i (2 ^ 24) (omega (arith, same)))

none_given : (p : PlainPool) (call : Call) (id k : ℕ) (x : Sector) → refusal_of p call ≡ None → Given p call (copy_id id) k x → ⊥
none_given p (Write i sector xs fua) id k x none g =
    volume_is_now p i id (second_passes p i (length xs) 512 (has_data_room p (Write i sector xs fua) i) none) g.0
none_given p (WriteZeroes i sector n no_hole fua) id k x none g =
    volume_is_now p i id (second_passes p i n 512 (has_data_room p (WriteZeroes i sector n no_hole fua) i) none) g.0
none_given p (Read i sector n) id k x none g = g
none_given p (Trim i sector n fua) id k x none g = g
none_given p Flush id k x none g = g
none_given p (CreateThin i) id k x none g = g
none_given p (CreateSnap i origin) id k x none g = g
none_given p (Delete i) id k x none g = g
none_given p (SetTransactionId current next) id k x none g = g
none_given p (Grow i blocks) id k x none g = g
none_given p (Hold i) id k x none g = g
none_given p (LetGo i) id k x none g = g
none_given p Status id k x none g = g
none_given p (ThinStatus i) id k x none g = g
none_given p (NextId i) id k x none g = g
none_given p (VolumeBlocks i) id k x none g = g
none_given p (Walk i from) id k x none g = g
none_given p Close id k x none g = g
none_given p (HeldRead i sector count) id k x none g = g
none_given p ReserveMetadataSnap id k x none g = g
none_given p ReleaseMetadataSnap id k x none g = g

none_given_in : (es : List Event) (id k : ℕ) (x : Sector) → GivenIn es (copy_id id) k x → ⊥
none_given_in [] id k x g = g
none_given_in (e ∷ es) id k x (inl g) = none_given e.before e.call id k x g.0 g.1
none_given_in (e ∷ es) id k x (inr g) = none_given_in es id k x g

pub copy_is_kept : (S P : PlainPool) (es : List Event) → MayReopen S (GivenIn es) P → (id k : ℕ) → volume_sector P (copy_id id) k ≡ volume_sector S (copy_id id) k
copy_is_kept S P es h id k = elim (h.sectors (copy_id id) k) [
  | inl same ↦ same
  | inr (x, alone, is, g) ↦ absurd (none_given_in es id k x g)
]
