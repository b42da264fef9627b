-- How often the creation of a volume flushes the disk.
use Rattle.std.proofs.Common.{◌≡◌, inl, inr, ℕ, ◌+◌, ◌<◌, ◌≤◌, ◌↔◌, Bool, true, false, List, None, Option, Some, refl, sym, ◌∙◌, ap, arith, subst}
use Rattle.std.specs.Prelude.{IsTrue}
use Rattle.std.proofs.lemmas.Bool.{cases_lt, false≢true}
use Rattle.tp_model.specs.Geometry.{Geometry}
use Rattle.tp_model.specs.Pool.{PlainPool}
use Rattle.tp_model.specs.Calls.{Call, is_failed, refusal_of}
use Rattle.tp_model.specs.Disk.{DiskState}
use Rattle.tp_mapping.specs.Mapping.{free_places}
use Rattle.tp_stored.specs.Contents.{Contents}
use Rattle.tp_pool.specs.Held.{Held, shows}
use Rattle.tp_pool.specs.Flushes.{HasFlushed, Lacks}
use Rattle.tp_pool.specs.Messages.{create_call}
use Rattle.tp_pool.specs.Unkept.{HasReclaimed}
use Rattle.tp_pool.specs.Writing.{LacksMetadata}
use Rattle.tp_pool.proofs.Calling.{Laws}
use Rattle.tp_pool.proofs.Creating.{IsCreation, IsReady, create_accepts, create_short, is_creation}
use Rattle.tp_pool.proofs.Flushing.{counted_before, counted_short, reclaimed}

-- it wants metadata room
lacks_room : {M : Type 0} (geometry : M → Geometry) (stands : M → DiskState → Contents → Contents → Type 0) (marks : M → List Bool) (room : M → ℕ) (h : Held M) (id : ℕ) (origin : Option ℕ)
    → room h.metadata < 512 → Lacks geometry stands marks room h (create_call id origin)
lacks_room geometry stands marks room h id None lt = (refl, lt)
lacks_room geometry stands marks room h id (Some origin) lt = (refl, lt)

module _ {M : Type 0} {geometry : M → Geometry} {stands : M → DiskState → Contents → Contents → Type 0} {marks : M → List Bool} {room : M → ℕ}
    (laws : Laws geometry stands marks room) (id : ℕ) (origin : Option ℕ) (start old : Held M) (ready_is : IsReady stands id origin start old) (lacks : Bool)
    (told : (d : DiskState) (now kept : Contents) → stands old.metadata d now kept → IsTrue lacks ↔ LacksMetadata (geometry old.metadata) now) where
  abbrev call : Call
  call = create_call id origin

  is : IsCreation call
  is = is_creation id origin

  abbrev From : Held M → DiskState → Type 0
  From h new = HasFlushed geometry stands marks room h new call

  pub create_flushed_short : (new : DiskState) → lacks ≡ true → (old.disk.flushes ≤ new.flushes) × (new.flushes ≤ old.disk.flushes + 2) → From start new
  create_flushed_short new short some =
      subst (λ (h : Held M). From h new) ready_is.same
      (counted_short geometry stands marks room old call ready_is.works is.reclaims new (create_short laws id origin start old ready_is lacks told short).refused some)

  module _ (passes : lacks ≡ false) (mid : M) (d : DiskState) (some : (old.disk.flushes ≤ d.flushes) × (d.flushes ≤ old.disk.flushes + 2))
      (idle : 512 ≤ room old.metadata → (now kept : Contents) → stands old.metadata old.disk now kept → 0 ≤ free_places (geometry old.metadata) now.volumes kept.volumes
      → (mid ≡ old.metadata) × (d ≡ old.disk)) where
    rests : (s : PlainPool) → shows geometry stands old s → (Lacks geometry stands marks room old call → ⊥) → d.flushes ≡ old.disk.flushes
    rests s (inl w) enough =
        let free : 512 ≤ room old.metadata = elim (cases_lt (room old.metadata) 512) [ inl lt ↦ absurd (enough (lacks_room geometry stands marks room old id origin lt)) | inr ge ↦ omega (arith, ge) ] in
        ap (λ (x : DiskState). x.flushes) (idle free w.0 w.1 w.2.standing (omega arith)).1
    rests s (inr f) enough = absurd (false≢true (sym (ap is_failed ready_is.works) ∙ ap is_failed f.failed))

    accepted : (s : PlainPool) → shows geometry stands old s → refusal_of s call ≡ None
    accepted = create_accepts laws id origin start old ready_is lacks told passes

    pub create_before : (new : DiskState) → new.flushes ≡ d.flushes → From start new
    create_before new same =
        subst (λ (h : Held M). From h new) ready_is.same (counted_before geometry stands marks room old call ready_is.works is.reclaims accepted d some rests new same)

    pub create_reclaimed : (new : DiskState) → new.flushes ≡ d.flushes → HasReclaimed geometry stands marks room old new call
    create_reclaimed new same = reclaimed geometry stands marks room old call ready_is.works is.reclaims accepted d some rests new same
