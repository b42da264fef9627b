-- A call that is refused for want of metadata room: from then on the pool wants a check, and that is kept.
use Rattle.std.proofs.Common.{◌≡◌, inl, inr, ℕ, ◌+◌, ◌≤◌, ◌<◌, Bool, true, false, Result, Err, List, refl, sym, ◌∙◌, ap, subst}
use Rattle.std.proofs.lemmas.Bool.{false≢true}
use Rattle.tp_model.specs.declared.mode.Mode.TheVariants as mode
use Rattle.tp_model.specs.declared.refusal.Refusal.{Refusal}
use Rattle.tp_model.specs.declared.refusal.Refusal.TheVariants.{Fault, NoMetadataSpace}
use Rattle.tp_model.specs.Geometry.{Geometry}
use Rattle.tp_model.specs.Sectors.{Sector}
use Rattle.tp_model.specs.Pool.{PlainPool}
use Rattle.tp_model.specs.Refusals.{is_fault, is_fault_refusal}
use Rattle.tp_model.specs.Calls.{Answer, Call, Read, Write, Trim, WriteZeroes, Flush, CreateThin, CreateSnap, Delete, SetTransactionId, Hold, LetGo, Status, ThinStatus, NextId, Close, Refused, Step, is_failed, Grow, VolumeBlocks, Walk, HeldRead, ReserveMetadataSnap, ReleaseMetadataSnap}
use Rattle.tp_model.specs.PoolStops.{Event, keeps}
use Rattle.tp_model.specs.Disk.{DiskState, FaultHasCause, seen}
use Rattle.tp_model.specs.DiskStops.{LeavesOnly}
use Rattle.tp_model.proofs.DiskStopLaws.{weakens}
use Rattle.tp_model.proofs.Steps.{step_refused}
use Rattle.tp_stored.specs.Contents.{Contents, HasContents, HoldsContents, SameData}
use Rattle.tp_meta.specs.Metadata.{IsLater}
use Rattle.tp_pool.specs.Held.{HasPool, Held, KnowsSizes, LacksRoom, PoolCalled, PoolRefused, failed_by}
use Rattle.tp_pool.specs.Writing.{IsKept, IsReclaiming}
use Rattle.tp_pool.proofs.Calling.{Laws, called_working, met_fault, opens_during, stops_within}
use Rattle.tp_pool.proofs.Keeping.{same_data_shows}
use Rattle.tp_pool.proofs.Stops.{IsLeft, during_still, reopens_made}

-- the same contents, and they want a check
abbrev pub to_check : Contents → Contents
to_check now = record now { needs_check = true }

-- the pool that is left
abbrev pub short_pool : PlainPool → PlainPool
short_pool s = record s { needs_check = true; mode = mode.ReadOnly }

short_has : (g : Geometry) (now : Contents) (image : List Sector) (s : PlainPool) → HasContents g now image s
    → HasContents g (to_check now) image (short_pool s)
short_has g now image s has = record {
  geometry = has.geometry;
  transaction_id = has.transaction_id;
  needs_check = refl;
  meta_used = has.meta_used;
  held_root = has.held_root;
  sizes = has.sizes;
  slots = has.slots;
  sectors = record { mapped = has.sectors.mapped; unmapped = has.sectors.unmapped };
}

-- no call is kept in which the disk failed
fault_keeps_not : (call : Call) → keeps call (Refused Fault) ≡ false
fault_keeps_not (Read id sector count) = refl
fault_keeps_not (Write id sector sectors fua) = refl
fault_keeps_not (Trim id sector count fua) = refl
fault_keeps_not (WriteZeroes id sector count no_hole fua) = refl
fault_keeps_not Flush = refl
fault_keeps_not (CreateThin id) = refl
fault_keeps_not (CreateSnap id origin) = refl
fault_keeps_not (Delete id) = refl
fault_keeps_not (Grow id blocks) = refl
fault_keeps_not (SetTransactionId current next) = refl
fault_keeps_not (Hold id) = refl
fault_keeps_not (LetGo id) = refl
fault_keeps_not Status = refl
fault_keeps_not (ThinStatus id) = refl
fault_keeps_not (NextId id) = refl
fault_keeps_not (VolumeBlocks id) = refl
fault_keeps_not (Walk id from) = refl
fault_keeps_not Close = refl
fault_keeps_not (HeldRead id sector count) = refl
fault_keeps_not ReserveMetadataSnap = refl
fault_keeps_not ReleaseMetadataSnap = refl

-- a fault is another refusal
pub no_room_is_no_fault : (r : Result (Unit {0}) Refusal) (y : Refusal) → r ≡ Err NoMetadataSpace → r ≡ Err y → y ≡ Fault → ⊥
no_room_is_no_fault r y is other fault =
    false≢true (ap is_fault (sym is ∙ other ∙ ap (λ (x : Refusal). let e : Result (Unit {0}) Refusal = Err x in e) fault))

module _ {M : Type 0} {geometry : M → Geometry} {stands : M → DiskState → Contents → Contents → Type 0} {marks : M → List Bool} {room : M → ℕ}
    (laws : Laws geometry stands marks room) (call : Call) (old : Held M)
    (short : LacksRoom geometry stands old call) (works : old.mode ≡ mode.Writable)
    (marked : M) (same_marked : geometry marked ≡ geometry old.metadata)
    (told : (disk : DiskState) (now kept : Contents) → stands old.metadata disk now kept → stands marked disk (to_check now) kept)
    (metadata : M) (d : DiskState) (same : geometry metadata ≡ geometry marked) (later : IsLater old.disk d)
    (left : (now kept : Contents) → stands marked old.disk now kept → now.meta_used + 128 ≤ (geometry marked).metadata_blocks
    → LeavesOnly old.disk d (IsReclaiming (geometry marked) now kept old.disk)) where
  abbrev g : Geometry
  g = geometry old.metadata

  -- the pool as it is answered, and as it is where the disk failed
  abbrev refused : Held M
  refused = record old { disk = d; metadata = metadata; mode = mode.ReadOnly }

  abbrev failed : Held M
  failed = record old { disk = d; metadata = metadata; mode = mode.Failed }

  module _ (s : PlainPool) (now kept : Contents) (pool : HasPool geometry stands old now kept s) where
    spare : (to_check now).meta_used + 128 ≤ (geometry marked).metadata_blocks
    spare = subst (λ (x : Geometry). now.meta_used + 128 ≤ x.metadata_blocks) (sym same_marked) pool.spare

    stands_marked : stands marked old.disk (to_check now) kept
    stands_marked = told old.disk now kept pool.standing

    has : HasContents g (to_check now) (seen old.disk.cells) (short_pool s)
    has = short_has g now (seen old.disk.cells) s pool.has

    step : Step s call (Refused NoMetadataSpace) (short_pool s)
    step = step_refused s call NoMetadataSpace (short.refused s (inl (now, kept, pool)))

    -- a stop leaves what the last commit kept, or the pool that wants a check
    found : (answer : Answer) → LeavesOnly old.disk d (IsLeft g old (record { before = s; call = call; answer = answer; made = short_pool s }))
    found answer =
        let within = laws.within old.metadata old.disk now kept pool.standing in
        let e : Event = record { before = s; call = call; answer = answer; made = short_pool s } in
        let left_kept : LeavesOnly old.disk d (IsReclaiming g (to_check now) kept old.disk) =
        subst (λ (x : Geometry). LeavesOnly old.disk d (IsReclaiming x (to_check now) kept old.disk)) same_marked
        (left (to_check now) kept stands_marked spare) in
        weakens {P = IsReclaiming g (to_check now) kept old.disk} {Q = IsLeft g old e}
        (λ image either. elim either [
          | inl still ↦ (
            (kept, still.2),
            λ P stands_for.
                during_still g within.limits old e kept image P within.volumes_kept (laws.left old.metadata old.disk now kept pool.standing) still stands_for,
          )
          | inr w ↦ (
            (to_check now, w.0),
            λ P stands_for.
                inr (reopens_made g within.limits (to_check now) (seen old.disk.cells) image (short_pool s) P within.volumes_now has w.0 w.1 stands_for),
          )
        ]) left_kept

    module _ (k : IsKept geometry stands marks marked metadata old.disk d (to_check now)) where
      shown : HasPool geometry stands refused (to_check now) (to_check now) (short_pool s)
      shown = record {
        standing = k.standing;
        has = subst (λ (x : Geometry). HasContents x (to_check now) (seen d.cells) (short_pool s)) (sym (same ∙ same_marked))
            (same_data_shows g (to_check now) (seen old.disk.cells) (seen d.cells) (short_pool s)
            (subst (λ (x : Geometry). SameData x (seen old.disk.cells) (seen d.cells)) same_marked k.same_data) has);
        mode_is = refl;
        holds = pool.holds;
        spare = subst (λ (x : Geometry). now.meta_used + 128 ≤ x.metadata_blocks) (sym (same ∙ same_marked)) pool.spare;
        works = refl;
        check = λ wants. refl;
        settled = λ read_only. record { contents = refl; cells = k.settled };
        sound = record {
          block_sectors = pool.sound.block_sectors;
          shaped = pool.sound.shaped;
          lawful = record { unmapped = pool.sound.lawful.unmapped; shared = pool.sound.lawful.shared };
        };
        found = pool.found;
        known = subst (λ (x : Geometry). KnowsSizes x old.holders s) (sym (same ∙ same_marked)) pool.known;
      }

  -- it was kept
  pub short_kept : d.failures ≡ old.disk.failures
      → ((now kept : Contents) → stands marked old.disk now kept → now.meta_used + 128 ≤ (geometry marked).metadata_blocks
      → IsKept geometry stands marks marked metadata old.disk d now)
      → PoolCalled geometry stands old refused call (Refused NoMetadataSpace)
  short_kept cause is_kept =
      called_working laws old refused call (Refused NoMetadataSpace) (ap is_failed works) later cause (λ s now kept pool.
      let within = laws.within old.metadata old.disk now kept pool.standing in
      let k = is_kept (to_check now) kept (stands_marked s now kept pool) (spare s now kept pool) in
      let e : Event = record { before = s; call = call; answer = Refused NoMetadataSpace; made = short_pool s } in (
        short_pool s,
        short_pool s,
        inl (step s now kept pool, refl),
        inl (to_check now, to_check now, shown s now kept pool k),
        stops_within laws old refused e (found s now kept pool (Refused NoMetadataSpace)) (λ yes P left_it.
            let l = k.left left_it.0 left_it.1 in
            let l_holds : HoldsContents g (to_check now) left_it.0 =
            subst (λ (x : Geometry). HoldsContents x (to_check now) left_it.0) same_marked l.0 in
            let l_data : SameData g (seen old.disk.cells) left_it.0 =
            subst (λ (x : Geometry). SameData x (seen old.disk.cells) left_it.0) same_marked l.1 in
            reopens_made g within.limits (to_check now) (seen old.disk.cells) left_it.0 (short_pool s) P within.volumes_now
            (has s now kept pool) l_holds l_data left_it.2),
        opens_during laws old refused e (found s now kept pool (Refused NoMetadataSpace)),
      ))

  -- the disk failed
  pub short_unkept : (reason : Refusal) → reason ≡ Fault → FaultHasCause (is_fault_refusal reason) old.disk d
      → PoolRefused geometry stands old (failed_by reason (record old { disk = d; metadata = metadata })) call reason
  short_unkept reason is cause =
      let faults : old.disk.failures < d.failures = cause.more (ap is_fault_refusal is) in
      subst (λ (r : Refusal). PoolRefused geometry stands old (failed_by r (record old { disk = d; metadata = metadata })) call r) (sym is)
      (called_working laws old failed call (Refused Fault) (ap is_failed works) later faults (λ s now kept pool.
      met_fault laws old failed s (short_pool s) call (Refused NoMetadataSpace) short.writes (fault_keeps_not call) (step s now kept pool) refl (same ∙ same_marked)
      (pool.has.geometry ∙ sym (same ∙ same_marked)) pool.holds (found s now kept pool (Refused Fault))))
