-- A walk over the slots of a volume lists what the plain pool does.
use Rattle.std.proofs.Common.{Bool, ◌≡◌, inl, inr, ℕ, ◌^◌, ◌<◌, true, false, is_some, List, [], ◌∷◌, take, refl, sym, ◌∙◌, ap, subst}
use Rattle.std.specs.FinMap.{entries}
use Rattle.std.proofs.lemmas.Bool.{cases_lt}
use Rattle.std.proofs.lemmas.List.{take-map}
use Rattle.tp_model.specs.Geometry.{Geometry}
use Rattle.tp_model.specs.Sectors.{Sector}
use Rattle.tp_model.specs.Pool.{PlainPool, volume_slots}
use Rattle.tp_model.specs.Calls.{Answer, Listed, Walk, is_failed, piece_from, slots_from}
use Rattle.tp_model.specs.Clauses.{Meets}
use Rattle.tp_model.specs.Disk.{DiskState, seen}
use Rattle.tp_model.specs.DiskStops.{moment}
use Rattle.tp_model.proofs.Walking.{from_here, from_later}
use Rattle.tp_sharing.specs.Volumes.{BlockSlot, device_of}
use Rattle.tp_stored.specs.Contents.{Contents, HasContents}
use Rattle.tp_mapping.specs.Mapping.{IsWithin, from_block, slots_of}
use Rattle.tp_mapping.proofs.Filling.{from_no, from_yes}
use Rattle.tp_shown.proofs.Ordered.{slots_are_entries}
use Rattle.tp_pool.specs.Flushes.{served}
use Rattle.tp_pool.specs.Held.{Held, PoolCalled}
use Rattle.tp_model.specs.Slots.{listed}
use Rattle.tp_pool.specs.Shared.{IsSharedCall}
use Rattle.tp_pool.proofs.Answering.{Answered, IsLookUp, may_do, never_silent}
use Rattle.tp_pool.proofs.Calling.{Laws, Met, called_working, met_answered}
use Rattle.tp_pool.proofs.Flushing.{flushed_read}
use Rattle.tp_pool.proofs.Meeting.{meeting}
use Rattle.tp_pool.proofs.Serving.{a_device, exists_is, works_is}
use Rattle.tp_pool.proofs.Times.{at_once}

-- ---- the slots as pairs

pairs_from : (low : ℕ) (xs : List BlockSlot) → slots_from low (listed xs) ≡ listed (from_block low xs)
pairs_from low [] = refl
pairs_from low (x ∷ xs) =
    elim (cases_lt x.block low) [
      | inl l ↦ from_later low (x.block, x.place) (listed xs) l ∙ (pairs_from low xs ∙ ap listed (sym (from_no low x xs l)))
      | inr g ↦ from_here low (x.block, x.place) (listed xs) g ∙ (ap (λ l. (x.block, x.place) ∷ l) (pairs_from low xs) ∙ ap listed (sym (from_yes low x xs g)))
    ]

piece_is : (g : Geometry) (c : Contents) (image : List Sector) (p : PlainPool) (id from : ℕ) → IsWithin g c.volumes → HasContents g c image p
    → piece_from from (entries (volume_slots p id)) ≡ listed (take 252 (from_block from (slots_of id c.volumes)))
piece_is g c image p id from within has =
    let slots = slots_of id c.volumes in
    ap (piece_from from) (slots_are_entries g c image p id within has)
    ∙ (ap (take 252) (pairs_from from slots) ∙ take-map (λ (x : BlockSlot). (x.block, x.place)) 252 (from_block from slots))

-- ---- the call

pub walk_looks_up : (id from : ℕ) → IsLookUp (Walk id from)
walk_looks_up id from = record { writable = refl; read_only = refl; accepted = refl; writes_not = refl; looks = refl; asks = refl }

module _ {M : Type 0} {geometry : M → Geometry} {stands : M → DiskState → Contents → Contents → Type 0} {marks : M → List Bool} {room : M → ℕ} (laws : Laws geometry stands marks room) where
  pub walk_by : (old : Held M) (disk : DiskState) (id from : ℕ) (slots : List BlockSlot) → id < 2 ^ 24 → is_failed old.mode ≡ false → disk ≡ old.disk
      → ((now kept : Contents) → stands old.metadata old.disk now kept → true ≡ is_some (device_of id now.volumes))
      → ((now kept : Contents) → stands old.metadata old.disk now kept → slots ≡ take 252 (from_block from (slots_of id now.volumes)))
      → PoolCalled geometry stands old (record old { disk = disk }) (Walk id from) (Listed (listed slots))
  walk_by old disk id from slots low works same there told =
      subst (λ (d : DiskState). PoolCalled geometry stands old (record old { disk = d }) (Walk id from) (Listed (listed slots))) (sym same)
      (called_working laws old old (Walk id from) (Listed (listed slots)) works (at_once old.disk) refl (λ s now kept pool.
      let g = geometry old.metadata in
      let within = laws.within old.metadata old.disk now kept pool.standing in
      let works_s = works_is laws old s now kept works pool in
      let some = exists_is laws old s now kept id true low pool (there now kept pool.standing) in
      let is : piece_from from (entries (volume_slots s id)) ≡ listed slots =
      piece_is g now (seen old.disk.cells) s id from within.volumes_now pool.has ∙ ap listed (sym (told now kept pool.standing)) in
      subst (λ (a : Answer). Met laws old old s (Walk id from) a) (ap (λ (l : List (ℕ × ℕ)). Listed l) is)
      (met_answered laws old old s s (Walk id from) (inl (now, kept, pool)) (a_device s id works_s some) refl (inl (now, kept, pool)) refl refl)))

-- ---- what is known of it whatever the disk does

module _ {M : Type 0} (geometry : M → Geometry) (stands : M → DiskState → Contents → Contents → Type 0) where
  pub walk_answers : (id from : ℕ) (slots : List (ℕ × ℕ)) (old new : Held M) → is_failed old.mode ≡ false → new.mode ≡ old.mode → moment new.disk ≡ moment old.disk
      → Answered geometry stands old new (Walk id from) (Listed slots)
  walk_answers id from slots old new works same calm =
      let is = walk_looks_up id from in
      record {
        may = may_do geometry stands (Walk id from) is old new works same calm old.mode works;
        mode = same;
        reads = λ no. calm;
        silent = never_silent geometry stands (Walk id from) is old new works same calm;
      }

-- ---- for those who look at a pool at once

module _ {M : Type 0} {geometry : M → Geometry} {stands : M → DiskState → Contents → Contents → Type 0} {marks : M → List Bool} {room : M → ℕ} (laws : Laws geometry stands marks room) (changed : M → Bool) where
  pub shared_walk : (h : Held M) (id from : ℕ) (slots : List BlockSlot) → id < 2 ^ 24 → is_failed h.mode ≡ false
      → ((now kept : Contents) → stands h.metadata h.disk now kept → true ≡ is_some (device_of id now.volumes))
      → ((now kept : Contents) → stands h.metadata h.disk now kept → slots ≡ take 252 (from_block from (slots_of id now.volumes)))
      → IsSharedCall geometry stands marks room changed h (Walk id from) (Listed (listed slots))
  shared_walk h id from slots low works there told = record {
    called = walk_by laws h h.disk id from slots low works refl there told;
    answered = walk_answers geometry stands id from (listed slots) h h works refl refl;
    flushes = flushed_read geometry stands marks room changed h h (Walk id from) (Listed (listed slots)) refl refl refl refl;
  }

-- what it is to those who are served
module _ {M : Type 0} (geometry : M → Geometry) (stands : M → DiskState → Contents → Contents → Type 0) (marks : M → List Bool) (room : M → ℕ) (changed : M → Bool) where
  pub met_walk : (h : Held M) (id from : ℕ) (slots : List (ℕ × ℕ)) → IsSharedCall geometry stands marks room changed h (Walk id from) (Listed slots)
      → Meets (served geometry stands marks room changed) h h (Walk id from) (Listed slots)
  met_walk h id from slots r = meeting geometry stands marks room changed h h (Walk id from) refl (Listed slots) refl refl (λ i a b. refl) r.called r.answered r.flushes
