-- The mapping of all volumes is held, and given up, in a pool that works.
use Rattle.std.proofs.Common.{◌≡◌, ◌⊎◌, inl, inr, ℕ, ◌+◌, ◌==◌, ◌≤◌, ◌<◌, ◌↔◌, Bool, true, false, not, Option, None, Result, Err, List, [], ◌∷◌, refl, sym, ◌∙◌, ap, subst, arith}
use Rattle.std.specs.Prelude.{IsTrue, replicate}
use Rattle.std.proofs.lemmas.Bool.{eq-eqb, false≢true, ne_eqb}
use Rattle.tp_model.specs.declared.mode.Mode.{Mode}
use Rattle.tp_model.specs.declared.mode.Mode.TheVariants as mode
use Rattle.tp_model.specs.declared.refusal.Refusal.{Refusal}
use Rattle.tp_model.specs.declared.refusal.Refusal.TheVariants.{Damaged, Failed, Fault, HeldRootExists, NoHeldRoot, NoMetadataSpace, ReadOnly}
use Rattle.tp_model.specs.Geometry.{Geometry}
use Rattle.tp_model.specs.Pool.{PlainPool}
use Rattle.tp_model.specs.Refusals.{refusal_number}
use Rattle.tp_model.specs.Calls.{Call, IsOneOf, Refused, ReleaseMetadataSnap, ReserveMetadataSnap, first_failed, has_metadata_room, is_failed, is_read_only, refusal_of, refusals, refusals_in_writable}
use Rattle.tp_model.specs.Disk.{DiskState, seen}
use Rattle.tp_stored.specs.Contents.{Contents}
use Rattle.tp_shown.proofs.Reserved.{release_makes, reserve_makes}
use Rattle.tp_meta.specs.Metadata.{IsChanging, IsLater}
use Rattle.tp_pool.specs.Held.{AnswersSo, Held, HasPool, LacksRoom, PoolCalled, PoolTried}
use Rattle.tp_pool.specs.Flushes.{HasFlushed}
use Rattle.tp_pool.specs.Messages.{released_contents, released_plain, with_copies}
use Rattle.tp_pool.specs.Writing.{LacksMetadata}
use Rattle.tp_pool.proofs.Calling.{Laws}
use Rattle.tp_pool.proofs.Create.{no_room_is, passes_room, room_is}
use Rattle.tp_pool.proofs.Flushing.{counted_refused}
use Rattle.tp_pool.proofs.Keeping.{same_data_shows}
use Rattle.tp_pool.proofs.Serving.{called_tested}
use Rattle.tp_pool.proofs.Snapping.{HasSnapped, IsSnapping}

-- ---- the tests, by their verdicts

abbrev pub reserve_verdict : Bool → Bool → Bool → Bool → Option Refusal
reserve_verdict failed read_only some short = first_failed ((failed, Failed) ∷ (read_only, ReadOnly) ∷ (some, HeldRootExists) ∷ (short, NoMetadataSpace) ∷ [])

pub reserve_tests : (s : PlainPool) (failed read_only some short : Bool) → is_failed s.mode ≡ failed → is_read_only s.mode ≡ read_only → not (s.held_root == 0) ≡ some
    → not (has_metadata_room s 512) ≡ short → refusal_of s ReserveMetadataSnap ≡ reserve_verdict failed read_only some short
reserve_tests s failed read_only some short a b c d = (λ i. reserve_verdict (a i) (b i) (c i) (d i))

abbrev pub release_verdict : Bool → Bool → Bool → Option Refusal
release_verdict failed read_only none = first_failed ((failed, Failed) ∷ (read_only, ReadOnly) ∷ (none, NoHeldRoot) ∷ [])

pub release_tests : (s : PlainPool) (failed read_only none : Bool) → is_failed s.mode ≡ failed → is_read_only s.mode ≡ read_only → (s.held_root == 0) ≡ none
    → refusal_of s ReleaseMetadataSnap ≡ release_verdict failed read_only none
release_tests s failed read_only none a b c = (λ i. release_verdict (a i) (b i) (c i))

-- ---- what both messages are

pub reserve_snaps : IsSnapping ReserveMetadataSnap
reserve_snaps = record {
  writes = refl;
  says = λ s. refl;
  keeps_not = refl;
  ends = refl;
  asks = refl;
  outline = λ s q makes. (ap (λ (p : PlainPool). p.geometry) makes.rest, ap (λ (p : PlainPool). p.holds) makes.rest, ap (λ (p : PlainPool). p.mode) makes.rest);
  allowed = λ s. tt;
  failure = failing;
  only_read = refl;
}
  where
    failing : (reason : Refusal) → (reason ≡ Fault) ⊎ (reason ≡ Damaged) → IsOneOf reason (refusals_in_writable ReserveMetadataSnap)
    failing reason (inl e) = inr (inr (inl e))
    failing reason (inr e) = inr (inr (inr (inl e)))

pub release_snaps : IsSnapping ReleaseMetadataSnap
release_snaps = record {
  writes = refl;
  says = λ s. refl;
  keeps_not = refl;
  ends = refl;
  asks = refl;
  outline = λ s q makes. (ap (λ (p : PlainPool). p.geometry) makes.is, ap (λ (p : PlainPool). p.holds) makes.is, ap (λ (p : PlainPool). p.mode) makes.is);
  allowed = λ s. tt;
  failure = failing;
  only_read = refl;
}
  where
    failing : (reason : Refusal) → (reason ≡ Fault) ⊎ (reason ≡ Damaged) → IsOneOf reason (refusals_in_writable ReleaseMetadataSnap)
    failing reason (inl e) = inr (inl e)
    failing reason (inr e) = inr (inr (inl e))

-- ---- giving up is never refused for want of metadata room

not_short : (m : Mode) → IsOneOf NoMetadataSpace (refusals m ReleaseMetadataSnap) → ⊥
not_short mode.Writable (inl e) = absurd (omega (arith, ap refusal_number e))
not_short mode.Writable (inr (inl e)) = absurd (omega (arith, ap refusal_number e))
not_short mode.Writable (inr (inr (inl e))) = absurd (omega (arith, ap refusal_number e))
not_short mode.Writable (inr (inr (inr e))) = absurd e
not_short mode.ReadOnly (inl e) = absurd (omega (arith, ap refusal_number e))
not_short mode.ReadOnly (inr e) = absurd e
not_short mode.Failed (inl e) = absurd (omega (arith, ap refusal_number e))
not_short mode.Failed (inr e) = absurd e

pub release_never_short : {M : Type 0} (geometry : M → Geometry) (stands : M → DiskState → Contents → Contents → Type 0) (old new : Held M) (result : Result (Unit {0}) Refusal)
    → AnswersSo geometry stands old new ReleaseMetadataSnap result → result ≡ Err NoMetadataSpace → ⊥
release_never_short geometry stands old new result answered is =
    let short = subst (λ (r : Result (Unit {0}) Refusal). AnswersSo geometry stands old new ReleaseMetadataSnap r) is answered in
    not_short old.mode short.may

module _ {M : Type 0} {geometry : M → Geometry} {stands : M → DiskState → Contents → Contents → Type 0} {marks : M → List Bool} {room : M → ℕ}
    (laws : Laws geometry stands marks room) (old : Held M) where
  -- a pool that is read-only
  pub reserve_read_only_called : is_failed old.mode ≡ false → is_read_only old.mode ≡ true → PoolCalled geometry stands old old ReserveMetadataSnap (Refused ReadOnly)
  reserve_read_only_called works reads =
      called_tested laws old ReserveMetadataSnap ReadOnly works refl (λ s. refl) refl (λ s now kept pool.
      reserve_tests s false true (not (s.held_root == 0)) (not (has_metadata_room s 512)) (ap is_failed pool.mode_is ∙ works) (ap is_read_only pool.mode_is ∙ reads) refl refl)

  pub release_read_only_called : is_failed old.mode ≡ false → is_read_only old.mode ≡ true → PoolCalled geometry stands old old ReleaseMetadataSnap (Refused ReadOnly)
  release_read_only_called works reads =
      called_tested laws old ReleaseMetadataSnap ReadOnly works refl (λ s. refl) refl (λ s now kept pool.
      release_tests s false true (s.held_root == 0) (ap is_failed pool.mode_is ∙ works) (ap is_read_only pool.mode_is ∙ reads) refl)

  module _ (works : old.mode ≡ mode.Writable) where
    abbrev g : Geometry
    g = geometry old.metadata

    -- ---- the mapping is held

    -- one is held already
    pub reserve_exists : ((now kept : Contents) → stands old.metadata old.disk now kept → 0 < now.held_root) → PoolCalled geometry stands old old ReserveMetadataSnap (Refused HeldRootExists)
    reserve_exists some =
        called_tested laws old ReserveMetadataSnap HeldRootExists (ap is_failed works) refl (λ s. refl) refl (λ s now kept pool.
        let there : (s.held_root == 0) ≡ false = ne_eqb s.held_root 0 (λ none. absurd (omega (arith, none, pool.has.held_root, some now kept pool.standing))) in
        reserve_tests s false false true (not (has_metadata_room s 512)) (ap is_failed (pool.mode_is ∙ works)) (ap is_read_only (pool.mode_is ∙ works)) (ap not there) refl)

    module _ (none : (now kept : Contents) → stands old.metadata old.disk now kept → now.held_root ≡ 0) (lacks : Bool)
        (told : (d : DiskState) (now kept : Contents) → stands old.metadata d now kept → IsTrue lacks ↔ LacksMetadata (geometry old.metadata) now) where
      verdict : (s : PlainPool) (now kept : Contents) → HasPool geometry stands old now kept s → (short : Bool) → not (has_metadata_room s 512) ≡ short
          → refusal_of s ReserveMetadataSnap ≡ reserve_verdict false false false short
      verdict s now kept pool short e =
          reserve_tests s false false false short (ap is_failed (pool.mode_is ∙ works)) (ap is_read_only (pool.mode_is ∙ works))
          (ap not (eq-eqb s.held_root 0 (pool.has.held_root ∙ none now kept pool.standing))) e

      -- there is no metadata room for it
      reserve_short : lacks ≡ true → LacksRoom geometry stands old ReserveMetadataSnap
      reserve_short short = record {
        writes = refl;
        refused = λ s shown. elim shown [
          | inl w ↦ verdict s w.0 w.1 w.2 true (no_room_is s g w.0 (seen old.disk.cells) w.2.has ((told old.disk w.0 w.1 w.2.standing).0 short))
          | inr f ↦ absurd (false≢true (sym (ap is_failed works) ∙ ap is_failed f.failed))
        ];
      }

      pub reserve_refused : (new : Held M) (result : Result (Unit {0}) Refusal) → lacks ≡ true → ((any : Call) → LacksRoom geometry stands old any → PoolTried geometry stands old new any result)
          → PoolTried geometry stands old new ReserveMetadataSnap result
      reserve_refused new result short refused = refused ReserveMetadataSnap (reserve_short short)

      pub reserve_flushed_short : (new : DiskState) → lacks ≡ true → (old.disk.flushes ≤ new.flushes) × (new.flushes ≤ old.disk.flushes + 2)
          → HasFlushed geometry stands marks room old new ReserveMetadataSnap
      reserve_flushed_short new short some = counted_refused geometry stands marks room old ReserveMetadataSnap works refl (reserve_short short).refused new some

      pub reserve_accepted : lacks ≡ false → (s : PlainPool) (now kept : Contents) → HasPool geometry stands old now kept s → refusal_of s ReserveMetadataSnap ≡ None
      reserve_accepted passes s now kept pool =
          verdict s now kept pool false (room_is s g now (seen old.disk.cells) pool.has (passes_room g now lacks (told old.disk now kept pool.standing) passes))

    -- what stands behind it shows the pool with its copies
    pub reserve_snapped : ((now kept : Contents) → stands old.metadata old.disk now kept → now.held_root ≡ 0) → (metadata : M) (same : geometry metadata ≡ g)
        (later : IsLater old.disk old.disk) (changing : (now kept : Contents) → stands old.metadata old.disk now kept → IsChanging g kept old.disk old.disk)
        → ((now kept : Contents) → stands old.metadata old.disk now kept → now.held_root ≡ 0
        → ((root : ℕ) × (0 < root) × stands metadata old.disk (with_copies now root) kept) × (marks metadata ≡ marks old.metadata) × (room old.metadata ≤ room metadata))
        → (s : PlainPool) (now kept : Contents) → HasPool geometry stands old now kept s
        → HasSnapped laws ReserveMetadataSnap reserve_snaps old works metadata old.disk same later changing s now kept
    reserve_snapped none metadata same later changing made s now kept pool =
        let a = (made now kept pool.standing (none now kept pool.standing)).0 in
        let within = laws.within old.metadata old.disk now kept pool.standing in
        let w = reserve_makes g now (seen old.disk.cells) s pool.has (within.copies (none now kept pool.standing)) a.0 a.1 in
        record {
          then = with_copies now a.0;
          made = w.0;
          few = omega arith;
          checks = refl;
          standing = a.2;
          has = w.1;
          makes = w.2;
        }

    -- ---- the mapping is given up

    -- none is held
    pub release_missing : ((now kept : Contents) → stands old.metadata old.disk now kept → now.held_root ≡ 0) → PoolCalled geometry stands old old ReleaseMetadataSnap (Refused NoHeldRoot)
    release_missing none =
        called_tested laws old ReleaseMetadataSnap NoHeldRoot (ap is_failed works) refl (λ s. refl) refl (λ s now kept pool.
        release_tests s false false true (ap is_failed (pool.mode_is ∙ works)) (ap is_read_only (pool.mode_is ∙ works))
        (eq-eqb s.held_root 0 (pool.has.held_root ∙ none now kept pool.standing)))

    module _ (some : (now kept : Contents) → stands old.metadata old.disk now kept → 0 < now.held_root) where
      pub release_accepted : (s : PlainPool) (now kept : Contents) → HasPool geometry stands old now kept s → refusal_of s ReleaseMetadataSnap ≡ None
      release_accepted s now kept pool =
          release_tests s false false false (ap is_failed (pool.mode_is ∙ works)) (ap is_read_only (pool.mode_is ∙ works))
          (ne_eqb s.held_root 0 (λ none. absurd (omega (arith, none, pool.has.held_root, some now kept pool.standing))))

      pub release_snapped : (metadata : M) (last : DiskState) (same : geometry metadata ≡ g) (later : IsLater old.disk last)
          (changing : (now kept : Contents) → stands old.metadata old.disk now kept → IsChanging g kept old.disk last)
          → ((now kept : Contents) → stands old.metadata old.disk now kept → 0 < now.held_root
          → ((meta_used : ℕ) × (meta_used ≤ now.meta_used) × stands metadata last (released_contents now meta_used) kept) × (marks metadata ≡ replicate g.data_blocks true))
          → (s : PlainPool) (now kept : Contents) → HasPool geometry stands old now kept s
          → HasSnapped laws ReleaseMetadataSnap release_snaps old works metadata last same later changing s now kept
      release_snapped metadata last same later changing made s now kept pool =
          let a = (made now kept pool.standing (some now kept pool.standing)).0 in
          let then = released_contents now a.0 in
          let plain = released_plain s a.0 in
          record {
            then = then;
            made = plain;
            few = a.1;
            checks = refl;
            standing = a.2;
            has = same_data_shows g then (seen old.disk.cells) (seen last.cells) plain (changing now kept pool.standing).same_data (release_makes g now (seen old.disk.cells) s pool.has a.0);
            makes = record { is = refl; taken = omega (arith, a.1, pool.has.meta_used) };
          }
