-- A write of some sectors to a volume that there is.
use Rattle.std.proofs.Common.{◌≡◌, ◌⊎◌, inl, inr, ℕ, zero, suc, ◌+◌, ◌/◌, ◌%◌, ◌≤◌, ◌<◌, ◌↔◌, Bool, true, false, not, Option, None, Some, Result, Ok, Err, List, [], ◌∷◌, length, refl, sym, ◌∙◌, ap, subst, arith}
use Rattle.std.specs.Prelude.{IfErr, IsSome, IsTrue, OnOk, nat_le, nat_lt, slice_get, ◌&&◌}
use Rattle.std.specs.List.{AllByRecursion}
use Rattle.std.proofs.lemmas.Bool.{false≢true, le-leb, lt-leb, lt-ltb}
use Rattle.std.proofs.lemmas.Option.{none-some, same_Some}
use Rattle.tp_model.specs.declared.mode.Mode.{Mode}
use Rattle.tp_model.specs.declared.mode.Mode.TheVariants as mode
use Rattle.tp_model.specs.declared.refusal.Refusal.{Refusal}
use Rattle.tp_model.specs.declared.refusal.Refusal.TheVariants.{Damaged, Failed, Fault, NoDataSpace, NoMetadataSpace, NoSuchDevice, ReadOnly}
use Rattle.tp_model.specs.Geometry.{Geometry}
use Rattle.tp_model.specs.Sectors.{Sector, sectors_of}
use Rattle.tp_model.specs.Pool.{PlainPool, used as used_by}
use Rattle.tp_model.specs.Refusals.{is_fault, is_fault_refusal}
use Rattle.tp_model.specs.Calls.{Answer, Call, Done, Edits, IsAllowed, Refused, Write, exists, first_failed, has_data_room, has_metadata_room, is_failed, is_read_only, need, refusal_of}
use Rattle.tp_model.specs.PoolStops.{Event, GivenBy}
use Rattle.tp_model.specs.Disk.{DiskState, FaultHasCause, after_read, seen}
use Rattle.tp_model.specs.DiskStops.{LeavesOnly}
use Rattle.tp_model.proofs.DiskStopLaws.{joins, weakens}
use Rattle.tp_sharing.specs.Volumes.{device_of, used}
use Rattle.tp_mapping.specs.Mapping.{IsWithin, free_places}
use Rattle.tp_stored.specs.Contents.{Contents, HasContents}
use Rattle.tp_shown.specs.Shown.{blocks_touched, blocks_wanted, first_block, own_sectors}
use Rattle.tp_shown.proofs.Tests.{exists_is_listed, need_is_wanted, used_is_listed}
use Rattle.tp_meta.specs.Metadata.{IsLater, Ran}
use Rattle.tp_pool.specs.Held.{Held, HasPool, LacksRoom, LiesIn, PoolCalled, PoolRefused, PoolTried, failed_by, shows}
use Rattle.tp_pool.specs.Writing.{HasFree, HasWritten, IsAsBefore, IsHalfWritten, IsKept, IsReclaiming, LacksMetadata, LeavesHalf, Reaches, blocks_taken}
use Rattle.tp_pool.proofs.Calling.{Laws, called_working, met_done, met_fault, pool_left, rests}
use Rattle.tp_model.proofs.DiskLaws.{length-sectors_of, whole-chopped}
use Rattle.tp_model.proofs.Holds.{Makes-FindsHeld}
use Rattle.tp_model.proofs.Nothing.{Edits-nothing}
use Rattle.tp_model.proofs.Shape.{Step-IsSound}
use Rattle.tp_shown.proofs.Values.{size_is, volume_is}
use Rattle.tp_pool.proofs.Create.{no_room_is, passes_room, room_is}
use Rattle.tp_pool.proofs.Keeping.{same_data_shows, not_read_only, shows_kept}
use Rattle.tp_pool.proofs.Phases.{EndStop, WriteStop, first_phase, found_at_end, found_in_write, second_phase, second_phase_kept, third_phase, third_phase_kept}
use Rattle.tp_pool.proofs.Rooms.{free_all, takes_wanted}
use Rattle.tp_pool.proofs.Ranges.{known_after}
use Rattle.tp_pool.proofs.Serving.{KeepsOutline, called_tested, exit_is, is_some_from, possible, write_refused}
use Rattle.tp_pool.proofs.Stops.{Given, IsLeft, reopens_made}
use Rattle.tp_pool.proofs.Times.{at_once, then_later as after_later}
use Rattle.tp_model.proofs.Steps.{step_accepted}

-- the tests of a write, by their verdicts
abbrev pub write_tests : Bool → Bool → Bool → Bool → Bool → Bool → Option Refusal
write_tests failed there read_only some room has_room =
    first_failed ((failed, Failed) ∷ (not there, NoSuchDevice) ∷ (read_only, ReadOnly) ∷ (some && not room, NoMetadataSpace) ∷ (not has_room, NoDataSpace) ∷ [])

pub write_tests_are : (s : PlainPool) (id sector : ℕ) (xs : List Sector) (fua failed there read_only some room has_room : Bool) → is_failed s.mode ≡ failed → exists s id ≡ there → is_read_only s.mode ≡ read_only
    → nat_lt 0 (length xs) ≡ some → has_metadata_room s 512 ≡ room → has_data_room s (Write id sector xs fua) id ≡ has_room
    → refusal_of s (Write id sector xs fua) ≡ write_tests failed there read_only some room has_room
write_tests_are s id sector xs fua failed there read_only some room has_room a b c d e f = (λ i. write_tests (a i) (b i) (c i) (d i) (e i) (f i))

-- sectors that one request may write
abbrev pub AreValues : List Sector → Type 0
AreValues xs = (length xs ≤ 2048) × ((k : ℕ) (x : Sector) → slice_get xs k ≡ Some x → length x ≡ 512)

value_whole : (xs : List Sector) → AllByRecursion (λ (value : Sector). length value ≡ 512) xs → (k : ℕ) (x : Sector) → slice_get xs k ≡ Some x → length x ≡ 512
value_whole [] whole k x e = absurd (none-some x e)
value_whole (s ∷ xs) whole zero x e = ap length (sym (same_Some s x e)) ∙ whole.0
value_whole (s ∷ xs) whole (suc k) x e = value_whole xs whole.1 k x e

pub values_are : (bytes : List ℕ) → length bytes % 512 ≡ 0 → length bytes / 512 ≤ 2048 → AreValues (sectors_of bytes)
values_are bytes whole most = (
  omega (arith, length-sectors_of bytes, most),
  value_whole (sectors_of bytes) (whole-chopped (length bytes / 512) bytes (omega (arith, whole))),
)

-- with fua the same sectors are written
pub with_fua : (s q : PlainPool) (id sector : ℕ) (xs : List Sector) (fua : Bool) → Edits s (Write id sector xs false) id q → Edits s (Write id sector xs fua) id q
with_fua s q id sector xs fua e = record { rest = e.rest; others = e.others; volume = e.volume; slots = e.slots; untouched = e.untouched }

pub write_keeps : (id sector : ℕ) (xs : List Sector) (fua : Bool) → KeepsOutline (Write id sector xs fua)
write_keeps id sector xs fua s q edits = (ap (λ (p : PlainPool). p.geometry) edits.rest, ap (λ (p : PlainPool). p.holds) edits.rest)

module _ {M : Type 0} {geometry : M → Geometry} {stands : M → DiskState → Contents → Contents → Type 0} {marks : M → List Bool} {room : M → ℕ} (laws : Laws geometry stands marks room) (id sector : ℕ) (xs : List Sector) (fua : Bool)
    (some : 0 < length xs) (old : Held M) (works : old.mode ≡ mode.Writable) (lies : LiesIn geometry stands old id (sector + length xs)) where
  abbrev call : Call
  call = Write id sector xs fua

  abbrev g : Geometry
  g = geometry old.metadata

  module _ (s : PlainPool) (now kept : Contents) (pool : HasPool geometry stands old now kept s) (device : IsSome (device_of id now.volumes)) where
    tests : (enough has_room : Bool) → has_metadata_room s 512 ≡ enough → has_data_room s call id ≡ has_room → refusal_of s call ≡ write_tests false true false true enough has_room
    tests enough has_room a b =
        write_tests_are s id sector xs fua false true false true enough has_room (ap is_failed (pool.mode_is ∙ works)) (exists_is_listed g now (seen old.disk.cells) s id lies.0 pool.has ∙ is_some_from (device_of id now.volumes) device)
        (ap is_read_only (pool.mode_is ∙ works)) (lt-ltb 0 (length xs) some) a b

    room_tested : nat_le (used_by s + need s call id) s.geometry.data_blocks ≡ nat_le (used now.volumes + blocks_wanted id now.volumes (first_block g sector) (blocks_touched g sector (length xs))) g.data_blocks
    room_tested =
        let within = laws.within old.metadata old.disk now kept pool.standing in
        let a = used_is_listed g now (seen old.disk.cells) s within.volumes_now pool.has in
        let b = need_is_wanted g now (seen old.disk.cells) s within.limits within.volumes_now pool.has id sector xs fua device (lies.1 now kept s pool device) in
        (λ i. nat_le (a i + b i) (pool.has.geometry i).data_blocks)

    flip : (b t : Bool) → not b ≡ t → b ≡ not t
    flip true t e = ap not e
    flip false t e = ap not e

    pub accepts : (LacksMetadata g now → ⊥) → used now.volumes + blocks_wanted id now.volumes (first_block g sector) (blocks_touched g sector (length xs)) ≤ g.data_blocks → refusal_of s call ≡ None
    accepts enough fits = tests true true (flip (has_metadata_room s 512) false (room_is s g now (seen old.disk.cells) pool.has enough)) (room_tested ∙ le-leb _ g.data_blocks fits)

    pub refuses_metadata : LacksMetadata g now → refusal_of s call ≡ Some NoMetadataSpace
    refuses_metadata lacks = tests false (has_data_room s call id) (flip (has_metadata_room s 512) true (no_room_is s g now (seen old.disk.cells) pool.has lacks)) refl

    pub refuses_data : (LacksMetadata g now → ⊥) → g.data_blocks < used now.volumes + blocks_wanted id now.volumes (first_block g sector) (blocks_touched g sector (length xs)) → refusal_of s call ≡ Some NoDataSpace
    refuses_data enough full = tests true false (flip (has_metadata_room s 512) false (room_is s g now (seen old.disk.cells) pool.has enough)) (room_tested ∙ lt-leb _ g.data_blocks full)

    given : (answer : Answer) (made : PlainPool) → refusal_of s call ≡ None → (i k : ℕ) (x : Sector) → Given g (Write id sector xs false) id [] i k x → GivenBy (record { before = s; call = call; answer = answer; made = made }) i k x
    given answer made accepted i k x h = (accepted, (sym h.0, h.1.0, h.1.1))

    -- what is found where a stop leaves what was written in part
    pub found : (answer : Answer) (made : PlainPool) (d : DiskState) → refusal_of s call ≡ None → LeavesOnly old.disk d (WriteStop g (Write id sector xs false) id [] now kept old.disk)
        → LeavesOnly old.disk d (IsLeft g old (record { before = s; call = call; answer = answer; made = made }))
    found answer made d accepted left =
        let within = laws.within old.metadata old.disk now kept pool.standing in
        let e : Event = record { before = s; call = call; answer = answer; made = made } in
        weakens {P = WriteStop g (Write id sector xs false) id [] now kept old.disk} {Q = IsLeft g old e}
        (found_in_write g (Write id sector xs false) id [] within.limits old e (given answer made accepted) now kept within.volumes_now within.volumes_kept (laws.left old.metadata old.disk now kept pool.standing) pool.has) left

    allowed : AreValues xs → IsAllowed s call
    allowed values = (
      record {
        inside = λ size e. let is = same_Some size (own_sectors g now.volumes id) (sym e ∙ size_is g now (seen old.disk.cells) s pool.has id device) in omega (arith, is, lies.1 now kept s pool device);
        most = values.0;
      },
      values.1,
    )

    -- the pool that was written
    pub written_shown : (metadata : M) (d : DiskState) (after kept' : Contents) (q : PlainPool) → geometry metadata ≡ g → 128 ≤ room metadata → stands metadata d after kept' → HasContents (geometry metadata) after (seen d.cells) q
        → Edits s (Write id sector xs false) id q → AreValues xs → refusal_of s call ≡ None → HasPool geometry stands (record old { disk = d; metadata = metadata }) after kept' q
    written_shown metadata d after kept' q same enough standing has edits values accepted =
        let checks : after.needs_check ≡ now.needs_check = sym has.needs_check ∙ ap (λ (p : PlainPool). p.needs_check) edits.rest ∙ pool.has.needs_check in
        record {
          standing = standing;
          has = has;
          mode_is = ap (λ (p : PlainPool). p.mode) edits.rest ∙ pool.mode_is;
          holds = ap (λ (p : PlainPool). p.holds) edits.rest ∙ pool.holds;
          spare = let r = (laws.within metadata d after kept' standing).room in omega (arith, r, enough);
          works = ap is_failed works;
          check = λ wants. pool.check (sym checks ∙ wants);
          settled = λ read_only. absurd (not_read_only old.mode works read_only);
          sound = Step-IsSound s call Done q (allowed values) pool.sound (step_accepted s call q accepted (with_fua s q id sector xs fua edits));
          found = Makes-FindsHeld s call q accepted (with_fua s q id sector xs fua edits) pool.found;
          known = known_after g (geometry metadata) old.holders s call q same accepted (with_fua s q id sector xs fua edits) (ap (λ (p : PlainPool). p.holds) edits.rest) pool.found pool.known;
        }

  -- ---- the answers, behind the tests

  module _ (there : (now kept : Contents) → stands old.metadata old.disk now kept → IsSome (device_of id now.volumes))
      (passed : (now kept : Contents) → stands old.metadata old.disk now kept
      → (LacksMetadata g now → ⊥) × (used now.volumes + blocks_wanted id now.volumes (first_block g sector) (blocks_touched g sector (length xs)) ≤ g.data_blocks)) where
    reaches : (s : PlainPool) (now kept : Contents) → HasPool geometry stands old now kept s → Reaches g id (sector + length xs) now.volumes
    reaches s now kept pool = let device = there now kept pool.standing in (device, lies.1 now kept s pool device)

    accepted_by : (s : PlainPool) (now kept : Contents) → HasPool geometry stands old now kept s → refusal_of s call ≡ None
    accepted_by s now kept pool = let p = passed now kept pool.standing in accepts s now kept pool (there now kept pool.standing) p.0 p.1

    some_sectors : (s : PlainPool) (now kept : Contents) → HasPool geometry stands old now kept s → 0 < s.geometry.block_sectors
    some_sectors s now kept pool =
        let limits = (laws.within old.metadata old.disk now kept pool.standing).limits in
        let same : s.geometry.block_sectors ≡ g.block_sectors = ap (λ (x : Geometry). x.block_sectors) pool.has.geometry in
        omega (arith, limits.block_least, same)

    -- the disk failed while it was written
    pub put_fault : (metadata : M) (d : DiskState) → geometry metadata ≡ g → IsLater old.disk d → old.disk.failures < d.failures
        → ((now kept : Contents) → stands old.metadata old.disk now kept → Reaches g id (sector + length xs) now.volumes → LeavesOnly old.disk d (WriteStop g (Write id sector xs false) id [] now kept old.disk))
        → PoolCalled geometry stands old (record old { disk = d; metadata = metadata; mode = mode.Failed }) call (Refused Fault)
    put_fault metadata d same later cause left =
        let new : Held M = record old { disk = d; metadata = metadata; mode = mode.Failed } in
        called_working laws old new call (Refused Fault) (ap is_failed works) later cause (λ s now kept pool.
        let p = possible s call (write_keeps id sector xs fua) (some_sectors s now kept pool) in
        met_fault laws old new s p.made call p.meant refl refl p.step refl same (p.geometry ∙ pool.has.geometry ∙ sym same) (p.holds ∙ pool.holds)
        (found s now kept pool (there now kept pool.standing) (Refused Fault) p.made d (accepted_by s now kept pool) (left now kept pool.standing (reaches s now kept pool))))

    -- what no pool answers that stands
    pub put_never : (metadata : M) (d : DiskState) → IsLater old.disk d → d.failures ≡ old.disk.failures
        → ((now kept : Contents) → stands old.metadata old.disk now kept → Reaches g id (sector + length xs) now.volumes → ⊥)
        → PoolCalled geometry stands old (record old { disk = d; metadata = metadata; mode = mode.Failed }) call (Refused Damaged)
    put_never metadata d later cause never =
        called_working laws old (record old { disk = d; metadata = metadata; mode = mode.Failed }) call (Refused Damaged) (ap is_failed works) later cause (λ s now kept pool. absurd (never now kept pool.standing (reaches s now kept pool)))

    module _ (metadata : M) (d : DiskState) (same : geometry metadata ≡ g) (enough : 128 ≤ room metadata) (later : IsLater old.disk d) (cause : d.failures ≡ old.disk.failures)
        (left : (now kept : Contents) → stands old.metadata old.disk now kept → Reaches g id (sector + length xs) now.volumes → LeavesOnly old.disk d (WriteStop g (Write id sector xs false) id [] now kept old.disk)) where
      abbrev Written : Contents → Contents → PlainPool → Type 0
      Written now kept s = (kept' : Contents) × HasWritten geometry stands marks id sector xs metadata d kept' s

      pub put_done : AreValues xs → fua ≡ false → ((s : PlainPool) (now kept : Contents) → HasPool geometry stands old now kept s → Written now kept s)
          → PoolCalled geometry stands old (record old { disk = d; metadata = metadata }) call Done
      put_done values no_fua written =
          let new : Held M = record old { disk = d; metadata = metadata } in
          called_working laws old new call Done (ap is_failed works) later cause (λ s now kept pool.
          let w = written s now kept pool in
          let device = there now kept pool.standing in
          met_done laws old new s w.1.pool call (accepted_by s now kept pool) refl (with_fua s w.1.pool id sector xs fua w.1.edits)
          (inl (w.1.contents, w.0, written_shown s now kept pool device metadata d w.1.contents w.0 w.1.pool same enough w.1.standing w.1.has w.1.edits values (accepted_by s now kept pool)))
          (found s now kept pool device Done w.1.pool d (accepted_by s now kept pool) (left now kept pool.standing (reaches s now kept pool)))
          (λ wants. absurd (false≢true (sym (ap (λ (b : Bool). b && nat_lt 0 (length xs)) no_fua) ∙ wants))))

      module _ (written : (s : PlainPool) (now kept : Contents) → HasPool geometry stands old now kept s → Written now kept s) (then_metadata : M) (then_d : DiskState) (then_same : geometry then_metadata ≡ geometry metadata) (then_later : IsLater d then_d)
          (ended : (s : PlainPool) (now kept : Contents) (pool : HasPool geometry stands old now kept s) → LeavesOnly d then_d (EndStop g (Write id sector xs false) id [] now kept old.disk (written s now kept pool).1.contents d)) where
        at_end_found : (s : PlainPool) (now kept : Contents) (pool : HasPool geometry stands old now kept s) (answer : Answer)
            → LeavesOnly old.disk then_d (IsLeft g old (record { before = s; call = call; answer = answer; made = (written s now kept pool).1.pool }))
        at_end_found s now kept pool answer =
            let w = written s now kept pool in
            let within = laws.within old.metadata old.disk now kept pool.standing in
            let within_then : IsWithin g w.1.contents.volumes = subst (λ (x : Geometry). IsWithin x w.1.contents.volumes) same (laws.within metadata d w.1.contents w.0 w.1.standing).volumes_now in
            let has_then : HasContents g w.1.contents (seen d.cells) w.1.pool = subst (λ (x : Geometry). HasContents x w.1.contents (seen d.cells) w.1.pool) same w.1.has in
            let e : Event = record { before = s; call = call; answer = answer; made = w.1.pool } in
            let E : List Sector → Type 0 = EndStop g (Write id sector xs false) id [] now kept old.disk w.1.contents d in
            weakens {P = E} {Q = IsLeft g old e}
            (found_at_end g (Write id sector xs false) id [] within.limits old e (given s now kept pool (there now kept pool.standing) answer w.1.pool (accepted_by s now kept pool)) now kept within.volumes_now within.volumes_kept
            (laws.left old.metadata old.disk now kept pool.standing) pool.has w.1.contents d within_then has_then)
            (joins (weakens {P = WriteStop g (Write id sector xs false) id [] now kept old.disk} {Q = E} (λ image h. inl h) (left now kept pool.standing (reaches s now kept pool))) (ended s now kept pool))

        pub put_kept : AreValues xs → then_d.failures ≡ d.failures → ((now kept : Contents) → stands metadata d now kept → now.meta_used + 128 ≤ (geometry metadata).metadata_blocks → IsKept geometry stands marks metadata then_metadata d then_d now)
            → PoolCalled geometry stands old (record old { disk = then_d; metadata = then_metadata }) call Done
        put_kept values then_cause is_kept =
            let mid : Held M = record old { disk = d; metadata = metadata } in
            let new : Held M = record old { disk = then_d; metadata = then_metadata } in
            called_working laws old new call Done (ap is_failed works) (after_later later then_later) (then_cause ∙ cause) (λ s now kept pool.
            let w = written s now kept pool in
            let device = there now kept pool.standing in
            let shown_mid = written_shown s now kept pool device metadata d w.1.contents w.0 w.1.pool same enough w.1.standing w.1.has w.1.edits values (accepted_by s now kept pool) in
            let k = is_kept w.1.contents w.0 w.1.standing shown_mid.spare in
            let within_then = laws.within metadata d w.1.contents w.0 w.1.standing in
            met_done laws old new s w.1.pool call (accepted_by s now kept pool) refl (with_fua s w.1.pool id sector xs fua w.1.edits)
            (inl (w.1.contents, w.1.contents, shows_kept laws mid then_d then_metadata w.1.contents w.0 w.1.pool works shown_mid then_same k))
            (at_end_found s now kept pool Done)
            (λ wants P found_it.
            let l = k.left found_it.0 found_it.1 in
            reopens_made (geometry metadata) within_then.limits w.1.contents (seen d.cells) found_it.0 w.1.pool P within_then.volumes_now w.1.has l.0 l.1 found_it.2))

        pub put_unkept : d.failures < then_d.failures → PoolCalled geometry stands old (record old { disk = then_d; metadata = then_metadata; mode = mode.Failed }) call (Refused Fault)
        put_unkept then_cause =
            let new : Held M = record old { disk = then_d; metadata = then_metadata; mode = mode.Failed } in
            called_working laws old new call (Refused Fault) (ap is_failed works) (after_later later then_later) (omega (arith, then_cause, cause)) (λ s now kept pool.
            let w = written s now kept pool in
            let rest = w.1.edits.rest in
            met_fault laws old new s w.1.pool call Done refl refl (step_accepted s call w.1.pool (accepted_by s now kept pool) (with_fua s w.1.pool id sector xs fua w.1.edits)) refl (then_same ∙ same)
            (w.1.has.geometry ∙ sym then_same) (ap (λ (p : PlainPool). p.holds) rest ∙ pool.holds) (at_end_found s now kept pool (Refused Fault)))

-- ---- the parts of the call

module _ {M : Type 0} {geometry : M → Geometry} {stands : M → DiskState → Contents → Contents → Type 0} {marks : M → List Bool} {room : M → ℕ} (laws : Laws geometry stands marks room) (id sector : ℕ) (xs : List Sector) (fua : Bool)
    (some : 0 < length xs) (old : Held M) (works : old.mode ≡ mode.Writable) (lies : LiesIn geometry stands old id (sector + length xs))
    (there : (now kept : Contents) → stands old.metadata old.disk now kept → IsSome (device_of id now.volumes)) where
  -- there is no metadata room for it
  pub put_short : ((now kept : Contents) → stands old.metadata old.disk now kept → LacksMetadata (geometry old.metadata) now)
      → LacksRoom geometry stands old (Write id sector xs fua)
  put_short lacks = record {
    writes = refl;
    refused = λ s shown. elim shown [
      | inl w ↦ refuses_metadata laws id sector xs fua some old works lies s w.0 w.1 w.2 (there w.0 w.1 w.2.standing) (lacks w.0 w.1 w.2.standing)
      | inr f ↦ absurd (false≢true (sym (ap is_failed works) ∙ ap is_failed f.failed))
    ];
  }

  -- the room was tested, and the disk was only read
  pub put_tested : (reason : Refusal) (d : DiskState) → d ≡ after_read (not (is_fault_refusal reason)) old.disk
      → ((now kept : Contents) → stands old.metadata old.disk now kept → LacksMetadata (geometry old.metadata) now → ⊥)
      → (reason ≡ NoDataSpace → (now kept : Contents) → stands old.metadata old.disk now kept
      → (geometry old.metadata).data_blocks
      < used now.volumes + blocks_wanted id now.volumes (first_block (geometry old.metadata) sector) (blocks_touched (geometry old.metadata) sector (length xs)))
      → (reason ≡ Damaged → (now kept : Contents) → stands old.metadata old.disk now kept → ⊥)
      → (reason ≡ Fault) ⊎ (reason ≡ Damaged) ⊎ (reason ≡ NoDataSpace)
      → PoolRefused geometry stands old (failed_by reason (record old { disk = d })) (Write id sector xs fua) reason
  put_tested reason d is enough full never (inl e) =
      subst (λ (x : DiskState). PoolRefused geometry stands old (failed_by reason (record old { disk = x })) (Write id sector xs fua) reason) (sym is)
      (write_refused laws old (Write id sector xs fua) reason (ap is_failed works) refl refl (write_keeps id sector xs fua) (inl e) never)
  put_tested reason d is enough full never (inr (inl e)) =
      subst (λ (x : DiskState). PoolRefused geometry stands old (failed_by reason (record old { disk = x })) (Write id sector xs fua) reason) (sym is)
      (write_refused laws old (Write id sector xs fua) reason (ap is_failed works) refl refl (write_keeps id sector xs fua) (inr e) never)
  put_tested reason d is enough full never (inr (inr e)) =
      subst (λ (r : Refusal). PoolRefused geometry stands old (failed_by r (record old { disk = d })) (Write id sector xs fua) r) (sym e)
      (let e' : d ≡ old.disk = is ∙ ap (λ (r : Refusal). after_read (not (is_fault_refusal r)) old.disk) e in
      subst (λ (x : DiskState). PoolCalled geometry stands old (record old { disk = x }) (Write id sector xs fua) (Refused NoDataSpace)) (sym e')
      (called_tested laws old (Write id sector xs fua) NoDataSpace (ap is_failed works) refl (λ s. refl) refl (λ s now kept pool.
      refuses_data laws id sector xs fua some old works lies s now kept pool (there now kept pool.standing) (enough now kept pool.standing)
      (full e now kept pool.standing))))

  -- the metadata stand as before, where nothing was committed
  stood : (metadata : M) (d : DiskState) (now kept : Contents) → stands old.metadata old.disk now kept → IsAsBefore geometry stands marks old.metadata metadata old.disk d → stands metadata d now kept
  stood metadata d now kept standing before = subst (λ (m : M). stands m d now kept) (sym before.metadata) (subst (λ (x : DiskState). stands old.metadata x now kept) (sym before.disk) standing)

  -- its sectors lie in the volume
  reached : (s : PlainPool) (now kept : Contents) → HasPool geometry stands old now kept s → Reaches (geometry old.metadata) id (sector + length xs) now.volumes
  reached s now kept pool = let device = there now kept pool.standing in (device, lies.1 now kept s pool device)

  reach_of : (metadata : M) (now : Contents) → geometry metadata ≡ geometry old.metadata → Reaches (geometry old.metadata) id (sector + length xs) now.volumes → Reaches (geometry metadata) id (sector + length xs) now.volumes
  reach_of metadata now same reach = subst (λ (g : Geometry). Reaches g id (sector + length xs) now.volumes) (sym same) reach

  -- what a stop leaves while it is written, where nothing was committed
  half_before : (metadata : M) (d last : DiskState) (now kept : Contents) → stands old.metadata old.disk now kept → Reaches (geometry old.metadata) id (sector + length xs) now.volumes → geometry metadata ≡ geometry old.metadata → IsAsBefore geometry stands marks old.metadata metadata old.disk d
      → LeavesHalf geometry stands marks id sector xs metadata d last → LeavesOnly old.disk last (IsHalfWritten (geometry old.metadata) id sector xs kept old.disk.cells)
  half_before metadata d last now kept standing reach same before half =
      let left : LeavesOnly d last (IsHalfWritten (geometry metadata) id sector xs kept d.cells) = half now kept (stood metadata d now kept standing before) (reach_of metadata now same reach) in
      let there_ : LeavesOnly old.disk last (IsHalfWritten (geometry metadata) id sector xs kept old.disk.cells) = subst (λ (x : DiskState). LeavesOnly x last (IsHalfWritten (geometry metadata) id sector xs kept x.cells)) before.disk left in
      subst (λ (g : Geometry). LeavesOnly old.disk last (IsHalfWritten g id sector xs kept old.disk.cells)) same there_

  -- and where there was a commit
  half_kept : (metadata : M) (d last : DiskState) (now kept : Contents) → stands old.metadata old.disk now kept → Reaches (geometry old.metadata) id (sector + length xs) now.volumes → geometry metadata ≡ geometry old.metadata → IsKept geometry stands marks old.metadata metadata old.disk d now
      → LeavesHalf geometry stands marks id sector xs metadata d last → LeavesOnly d last (IsHalfWritten (geometry old.metadata) id sector xs now d.cells)
  half_kept metadata d last now kept standing reach same is_kept half =
      subst (λ (g : Geometry). LeavesOnly d last (IsHalfWritten g id sector xs now d.cells)) same (half now now is_kept.standing (reach_of metadata now same reach))

  -- what a stop leaves behind the commit before the write, if there was one, and while it was written
  pub put_left : (metadata : M) (d last : DiskState) (now kept : Contents) → stands old.metadata old.disk now kept → Reaches (geometry old.metadata) id (sector + length xs) now.volumes → geometry metadata ≡ geometry old.metadata
      → LeavesOnly old.disk d (IsReclaiming (geometry old.metadata) now kept old.disk) → IsAsBefore geometry stands marks old.metadata metadata old.disk d ⊎ IsKept geometry stands marks old.metadata metadata old.disk d now
      → LeavesHalf geometry stands marks id sector xs metadata d last → LeavesOnly old.disk last (WriteStop (geometry old.metadata) (Write id sector xs false) id [] now kept old.disk)
  put_left metadata d last now kept standing reach same reclaimed (inl before) half =
      second_phase (geometry old.metadata) (Write id sector xs false) id [] now kept old.disk last (half_before metadata d last now kept standing reach same before half)
  put_left metadata d last now kept standing reach same reclaimed (inr is_kept) half =
      joins (first_phase (geometry old.metadata) (Write id sector xs false) id [] now kept old.disk d reclaimed)
      (second_phase_kept (geometry old.metadata) (Write id sector xs false) id [] now kept old.disk d last is_kept.left (half_kept metadata d last now kept standing reach same is_kept half))

  -- It is shown what was written, and a commit behind it leaves that or what a stop left before.
  abbrev pub WrittenOver : M → DiskState → PlainPool → Contents → Contents → Type 0
  WrittenOver metadata last s now kept =
      (kept' : Contents) × (w : HasWritten geometry stands marks id sector xs metadata last kept' s)
      × ((end : DiskState) → LeavesOnly last end (IsReclaiming (geometry old.metadata) w.contents kept' last) → LeavesOnly last end (EndStop (geometry old.metadata) (Write id sector xs false) id [] now kept old.disk w.contents last))

  pub put_written : (metadata then_metadata : M) (d last : DiskState) → geometry metadata ≡ geometry old.metadata
      → ((now kept : Contents) (s : PlainPool) → stands metadata d now kept → Reaches (geometry metadata) id (sector + length xs) now.volumes → HasContents (geometry metadata) now (seen d.cells) s → HasWritten geometry stands marks id sector xs then_metadata last kept s)
      → LeavesHalf geometry stands marks id sector xs metadata d last → (s : PlainPool) (now kept : Contents) (pool : HasPool geometry stands old now kept s)
      → IsAsBefore geometry stands marks old.metadata metadata old.disk d ⊎ IsKept geometry stands marks old.metadata metadata old.disk d now → WrittenOver then_metadata last s now kept
  put_written metadata then_metadata d last same written half s now kept pool (inl before) =
      let g = geometry old.metadata in
      let has' : HasContents (geometry metadata) now (seen d.cells) s = subst (λ (x : Geometry). HasContents x now (seen d.cells) s) (sym same) (subst (λ (x : DiskState). HasContents g now (seen x.cells) s) (sym before.disk) pool.has) in
      let w = written now kept s (stood metadata d now kept pool.standing before) (reach_of metadata now same (reached s now kept pool)) has' in
      (kept, w, λ end left. third_phase g (Write id sector xs false) id [] now kept w.contents old.disk last end (half_before metadata d last now kept pool.standing (reached s now kept pool) same before half) left)
  put_written metadata then_metadata d last same written half s now kept pool (inr is_kept) =
      let g = geometry old.metadata in
      let has' : HasContents (geometry metadata) now (seen d.cells) s =
      subst (λ (x : Geometry). HasContents x now (seen d.cells) s) (sym same) (same_data_shows g now (seen old.disk.cells) (seen d.cells) s is_kept.same_data pool.has) in
      let w = written now now s is_kept.standing (reach_of metadata now same (reached s now kept pool)) has' in
      (now, w, λ end left. third_phase_kept g (Write id sector xs false) id [] now kept w.contents old.disk d last end is_kept.left (half_kept metadata d last now kept pool.standing (reached s now kept pool) same is_kept half) left)

  -- there are as many free data blocks as the write takes
  pub put_free : (metadata : M) (d : DiskState) (taken : ℕ) (now kept : Contents) → stands old.metadata old.disk now kept → geometry metadata ≡ geometry old.metadata
      → used now.volumes + blocks_wanted id now.volumes (first_block (geometry old.metadata) sector) (blocks_touched (geometry old.metadata) sector (length xs)) ≤ (geometry old.metadata).data_blocks
      → taken ≡ blocks_taken id now.volumes (marks old.metadata) (first_block (geometry old.metadata) sector) (blocks_touched (geometry old.metadata) sector (length xs))
      → (IsAsBefore geometry stands marks old.metadata metadata old.disk d × (taken ≤ free_places (geometry old.metadata) now.volumes kept.volumes)) ⊎ IsKept geometry stands marks old.metadata metadata old.disk d now
      → (kept' : Contents) × stands metadata d now kept' × HasFree geometry stands marks id metadata now kept' (first_block (geometry old.metadata) sector) (blocks_touched (geometry old.metadata) sector (length xs))
  put_free metadata d taken now kept standing same fits taken_is (inl before) =
      let standing' = stood metadata d now kept standing before.0 in
      let first = first_block (geometry old.metadata) sector in
      let n = blocks_touched (geometry old.metadata) sector (length xs) in
      let enough : blocks_taken id now.volumes (marks old.metadata) first n ≤ free_places (geometry old.metadata) now.volumes kept.volumes = omega (arith, taken_is, before.1) in
      (kept, standing', subst (λ (m : M). HasFree geometry stands marks id m now kept first n) (sym before.0.metadata) enough)
  put_free metadata d taken now kept standing same fits taken_is (inr is_kept) =
      let first = first_block (geometry old.metadata) sector in
      let n = blocks_touched (geometry old.metadata) sector (length xs) in
      let within = (laws.within old.metadata old.disk now kept standing).volumes_now in
      let free = free_all (geometry old.metadata) now.volumes within in
      let takes = takes_wanted id now.volumes (marks metadata) (geometry old.metadata).data_blocks is_kept.unmarked first n in
      let enough : blocks_taken id now.volumes (marks metadata) first n ≤ free_places (geometry old.metadata) now.volumes now.volumes = omega (arith, takes, free, fits) in
      (now, is_kept.standing, subst (λ (g : Geometry). blocks_taken id now.volumes (marks metadata) first n ≤ free_places g now.volumes now.volumes) (sym same) enough)

-- the commit before the write failed, or the write itself did
module _ {M : Type 0} {geometry : M → Geometry} {stands : M → DiskState → Contents → Contents → Type 0} {marks : M → List Bool} {room : M → ℕ} (laws : Laws geometry stands marks room) (id sector : ℕ) (xs : List Sector) (fua : Bool)
    (some : 0 < length xs) (old : Held M) (works : old.mode ≡ mode.Writable) (lies : LiesIn geometry stands old id (sector + length xs))
    (there : (now kept : Contents) → stands old.metadata old.disk now kept → IsSome (device_of id now.volumes))
    (passed : (now kept : Contents) → stands old.metadata old.disk now kept
    → (LacksMetadata (geometry old.metadata) now → ⊥)
    × (used now.volumes + blocks_wanted id now.volumes (first_block (geometry old.metadata) sector) (blocks_touched (geometry old.metadata) sector (length xs)) ≤ (geometry old.metadata).data_blocks)) where
  -- no test refuses it
  pub put_accepts : (s : PlainPool) → shows geometry stands old s → refusal_of s (Write id sector xs fua) ≡ None
  put_accepts s (inl w) = accepted_by laws id sector xs fua some old works lies there passed s w.0 w.1 w.2
  put_accepts s (inr f) = absurd (false≢true (sym (ap is_failed works) ∙ ap is_failed f.failed))

  pub put_broken : (reason : Refusal) (metadata : M) (d : DiskState) → geometry metadata ≡ geometry old.metadata → IsLater old.disk d → FaultHasCause (is_fault_refusal reason) old.disk d
      → ((now kept : Contents) → stands old.metadata old.disk now kept → Reaches (geometry old.metadata) id (sector + length xs) now.volumes → LeavesOnly old.disk d (WriteStop (geometry old.metadata) (Write id sector xs false) id [] now kept old.disk))
      → (reason ≡ Damaged → (now kept : Contents) → stands old.metadata old.disk now kept → Reaches (geometry old.metadata) id (sector + length xs) now.volumes → ⊥) → (reason ≡ Fault) ⊎ (reason ≡ Damaged)
      → PoolRefused geometry stands old (failed_by reason (record old { disk = d; metadata = metadata })) (Write id sector xs fua) reason
  put_broken reason metadata d same later cause left never (inl e) =
      let faults : old.disk.failures < d.failures = cause.more (ap is_fault_refusal e) in
      subst (λ (r : Refusal). PoolRefused geometry stands old (failed_by r (record old { disk = d; metadata = metadata })) (Write id sector xs fua) r) (sym e)
      (put_fault laws id sector xs fua some old works lies there passed metadata d same later faults left)
  put_broken reason metadata d same later cause left never (inr e) =
      let none : d.failures ≡ old.disk.failures = cause.none (ap (λ (r : Refusal). not (is_fault_refusal r)) e) in
      subst (λ (r : Refusal). PoolRefused geometry stands old (failed_by r (record old { disk = d; metadata = metadata })) (Write id sector xs fua) r) (sym e)
      (put_never laws id sector xs fua some old works lies there passed metadata d later none (never e))

  pub put_unreclaimed : (reason : Refusal) (metadata : M) (start d : DiskState) → start ≡ old.disk → geometry metadata ≡ geometry old.metadata → IsLater start d → FaultHasCause (is_fault_refusal reason) start d
      → ((now kept : Contents) → stands old.metadata start now kept → (LacksMetadata (geometry old.metadata) now → ⊥) → LeavesOnly start d (IsReclaiming (geometry old.metadata) now kept start))
      → (reason ≡ Damaged → (now kept : Contents) → stands old.metadata start now kept → (LacksMetadata (geometry old.metadata) now → ⊥) → ⊥) → (reason ≡ Fault) ⊎ (reason ≡ Damaged)
      → PoolRefused geometry stands old (failed_by reason (record old { disk = d; metadata = metadata })) (Write id sector xs fua) reason
  put_unreclaimed reason metadata start d is same later cause left never only =
      put_broken reason metadata d same (subst (λ (x : DiskState). IsLater x d) is later) (subst (λ (x : DiskState). FaultHasCause (is_fault_refusal reason) x d) is cause)
      (λ now kept st reach.
      first_phase (geometry old.metadata) (Write id sector xs false) id [] now kept old.disk d
      (subst (λ (x : DiskState). LeavesOnly x d (IsReclaiming (geometry old.metadata) now kept x)) is (left now kept (subst (λ (x : DiskState). stands old.metadata x now kept) (sym is) st) (passed now kept st).0)))
      (λ e now kept st reach. never e now kept (subst (λ (x : DiskState). stands old.metadata x now kept) (sym is) st) (passed now kept st).0) only

-- The write, behind a commit if there was one: of a pool that is shown as `held`, whose disk was read up to `start`.
module _ {M : Type 0} {geometry : M → Geometry} {stands : M → DiskState → Contents → Contents → Type 0} {marks : M → List Bool} {room : M → ℕ} (laws : Laws geometry stands marks room) (id sector : ℕ) (xs : List Sector) (fua : Bool)
    (count : ℕ) (long : length xs ≡ count) (some : 0 < count) (was held : Held M) (shown : was ≡ held) (works : held.mode ≡ mode.Writable) (range : LiesIn geometry stands held id (sector + count))
    (there : (now kept : Contents) → stands held.metadata held.disk now kept → IsSome (device_of id now.volumes)) (start : DiskState) (read : start ≡ was.disk)
    (lacks : Bool) (lacks_told : (disk : DiskState) (now kept : Contents) → stands was.metadata disk now kept
    → IsTrue lacks ↔ LacksMetadata (geometry was.metadata) now) (passes : lacks ≡ false)
    (taken : ℕ) (tested : (now kept : Contents) → stands was.metadata was.disk now kept
    → (used now.volumes + blocks_wanted id now.volumes (first_block (geometry was.metadata) sector) (blocks_touched (geometry was.metadata) sector count) ≤ (geometry was.metadata).data_blocks)
    × (taken ≡ blocks_taken id now.volumes (marks was.metadata) (first_block (geometry was.metadata) sector) (blocks_touched (geometry was.metadata) sector count)))
    (mid : M) (d : DiskState) (same : geometry mid ≡ geometry was.metadata) (later : IsLater start d) (cause : FaultHasCause false start d)
    (left : (now kept : Contents) → stands was.metadata start now kept → (LacksMetadata (geometry was.metadata) now → ⊥) → LeavesOnly start d (IsReclaiming (geometry was.metadata) now kept start))
    (done : (now kept : Contents) → stands was.metadata start now kept → (LacksMetadata (geometry was.metadata) now → ⊥)
    → (IsAsBefore geometry stands marks was.metadata mid start d × (taken ≤ free_places (geometry was.metadata) now.volumes kept.volumes)) ⊎ IsKept geometry stands marks was.metadata mid start d now)
    (metadata : M) (last : DiskState) (half : LeavesHalf geometry stands marks id sector xs mid d last) where
  abbrev asked : Call
  asked = Write id sector xs fua

  abbrev before : Held M
  before = record was { disk = start }

  abbrev size : Geometry
  size = geometry was.metadata

  -- ---- what is told, of the pool whose disk was read

  is_held : before ≡ held
  is_held = (λ i. let h : Held M = record was { disk = read i } in h) ∙ shown

  some_sector : 0 < length xs
  some_sector = omega (arith, some, long)

  writable : before.mode ≡ mode.Writable
  writable = ap (λ (h : Held M). h.mode) is_held ∙ works

  lies : LiesIn geometry stands before id (sector + length xs)
  lies = subst (λ n. LiesIn geometry stands before id (sector + n)) (sym long) (subst (λ (h : Held M). LiesIn geometry stands h id (sector + count)) (sym is_held) range)

  has_device : (now kept : Contents) → stands was.metadata start now kept → IsSome (device_of id now.volumes)
  has_device = subst (λ (h : Held M). (now kept : Contents) → stands h.metadata h.disk now kept → IsSome (device_of id now.volumes)) (sym is_held) there

  abbrev Tested : Contents → ℕ → Type 0
  Tested now n =
      (LacksMetadata size now → ⊥) × (used now.volumes + blocks_wanted id now.volumes (first_block size sector) (blocks_touched size sector n) ≤ size.data_blocks)
      × (taken ≡ blocks_taken id now.volumes (marks was.metadata) (first_block size sector) (blocks_touched size sector n))

  told : (now kept : Contents) → stands was.metadata start now kept → Tested now (length xs)
  told now kept st =
      let t = tested now kept (subst (λ (x : DiskState). stands was.metadata x now kept) read st) in
      subst (Tested now) (sym long) (passes_room size now lacks (lacks_told start now kept st) passes, t.0, t.1)

  passed : (now kept : Contents) → stands was.metadata start now kept
      → (LacksMetadata size now → ⊥) × (used now.volumes + blocks_wanted id now.volumes (first_block size sector) (blocks_touched size sector (length xs)) ≤ size.data_blocks)
  passed now kept st = let t = told now kept st in (t.0, t.1)

  reclaimed : (now kept : Contents) → stands was.metadata start now kept → IsAsBefore geometry stands marks was.metadata mid start d ⊎ IsKept geometry stands marks was.metadata mid start d now
  reclaimed now kept st = elim (done now kept st (told now kept st).0) [ inl w ↦ inl w.0 | inr k ↦ inr k ]

  left_written : (now kept : Contents) → stands was.metadata start now kept → Reaches size id (sector + length xs) now.volumes → LeavesOnly start last (WriteStop size (Write id sector xs false) id [] now kept start)
  left_written now kept st reach = put_left laws id sector xs fua some_sector before writable lies has_device mid d last now kept st reach same (left now kept st (told now kept st).0) (reclaimed now kept st) half

  -- ---- the write failed

  unwritten : {r t : ℕ} (reason : Refusal) → Ran 272 (is_fault_refusal reason) r t (geometry mid) (geometry metadata) d last
      → (reason ≡ Damaged → (now kept : Contents) → stands mid d now kept → Reaches (geometry mid) id (sector + length xs) now.volumes
      → HasFree geometry stands marks id mid now kept (sector / (geometry mid).block_sectors) (blocks_touched (geometry mid) sector count) → ⊥) → (reason ≡ Fault) ⊎ (reason ≡ Damaged)
      → PoolRefused geometry stands before (failed_by reason (record was { disk = last; metadata = metadata })) asked reason
  unwritten reason ran never only =
      let none = cause.none refl in
      put_broken laws id sector xs fua some_sector before writable lies has_device passed reason metadata last (ran.geometry ∙ same) (after_later later ran.time)
      (record { no_fewer = omega (arith, none, ran.cause.no_fewer); more = λ f. omega (arith, none, ran.cause.more f); none = λ f. ran.cause.none f ∙ none }) left_written
      (λ e now kept st reach.
      let t = told now kept st in
      let free = put_free laws id sector xs fua some_sector before writable lies has_device mid d taken now kept st same t.1 t.2 (done now kept st t.0) in
      never e now free.0 free.1 (subst (λ (x : Geometry). Reaches x id (sector + length xs) now.volumes) (sym same) reach)
      (subst (λ (x : Geometry). HasFree geometry stands marks id mid now free.0 (sector / x.block_sectors) (blocks_touched x sector count)) (sym same)
      (subst (λ k. HasFree geometry stands marks id mid now free.0 (first_block size sector) (blocks_touched size sector k)) long free.2))) only

  -- which is answered at the exit of a `?`
  pub put_unwritten : {r t : ℕ} (reason y : Refusal) (result : Result (Unit {0}) Refusal) → result ≡ Err y → reason ≡ y → Ran 272 (is_fault_refusal reason) r t (geometry mid) (geometry metadata) d last
      → (reason ≡ Damaged → (now kept : Contents) → stands mid d now kept → Reaches (geometry mid) id (sector + length xs) now.volumes
      → HasFree geometry stands marks id mid now kept (sector / (geometry mid).block_sectors) (blocks_touched (geometry mid) sector count) → ⊥) → (reason ≡ Fault) ⊎ (reason ≡ Damaged)
      → PoolTried geometry stands held (record was { disk = last; metadata = metadata }) asked result
  put_unwritten reason y result is that ran never only =
      subst (λ (h : Held M). PoolTried geometry stands h (record was { disk = last; metadata = metadata }) asked result) is_held
      (exit_is (λ (r : Result (Unit {0}) Refusal). PoolTried geometry stands before (record was { disk = last; metadata = metadata }) asked r) result reason y is that (unwritten reason ran never only))

  -- ---- it was done

  module _ (ran : Ran 272 false (room mid) (room metadata) (geometry mid) (geometry metadata) d last) (enough : 512 ≤ room mid)
      (written : (now kept : Contents) (s : PlainPool) → stands mid d now kept → Reaches (geometry mid) id (sector + length xs) now.volumes → HasContents (geometry mid) now (seen d.cells) s
      → HasWritten geometry stands marks id sector xs metadata last kept s) (values : AreValues xs) where
    over : (s : PlainPool) (now kept : Contents) (pool : HasPool geometry stands before now kept s) → WrittenOver laws id sector xs fua some_sector before writable lies has_device metadata last s now kept
    over s now kept pool = put_written laws id sector xs fua some_sector before writable lies has_device mid metadata d last same written half s now kept pool (reclaimed now kept pool.standing)

    still_enough : 128 ≤ room metadata
    still_enough = omega (arith, enough, ran.room)

    same_end : geometry metadata ≡ size
    same_end = ran.geometry ∙ same

    no_fault_yet : last.failures ≡ start.failures
    no_fault_yet = ran.cause.none refl ∙ cause.none refl

    pub put_unkept_done : fua ≡ false → PoolCalled geometry stands held (record was { disk = last; metadata = metadata }) asked Done
    put_unkept_done no_fua =
        subst (λ (h : Held M). PoolCalled geometry stands h (record was { disk = last; metadata = metadata }) asked Done) is_held
        (put_done laws id sector xs fua some_sector before writable lies has_device passed metadata last same_end still_enough (after_later later ran.time) no_fault_yet left_written values no_fua
        (λ s now kept pool. let w = over s now kept pool in (w.0, w.1)))

    -- and then kept
    pub put_then_kept : (end_metadata : M) (end : DiskState) (result : Result (Unit {0}) Refusal)
        → OnOk result ((now kept : Contents) → stands metadata last now kept → now.meta_used + 128 ≤ (geometry metadata).metadata_blocks
        → IsKept geometry stands marks metadata end_metadata last end now × (room end_metadata + now.meta_used ≡ (geometry metadata).metadata_blocks))
        → ((now kept : Contents) → stands metadata last now kept → now.meta_used + 128 ≤ (geometry metadata).metadata_blocks → LeavesOnly last end (IsReclaiming (geometry metadata) now kept last))
        → IfErr result (λ refusal. refusal ≡ Fault) → geometry end_metadata ≡ geometry metadata → FaultHasCause (is_fault result) last end → IsLater last end
        → PoolTried geometry stands held (record was { disk = end; metadata = end_metadata }) asked result
    put_then_kept end_metadata end result kept_if end_left only end_same end_cause end_later =
        subst (λ (h : Held M). PoolTried geometry stands h (record was { disk = end; metadata = end_metadata }) asked result) is_held (by result kept_if only end_cause)
      where
        spare : (s : PlainPool) (now kept : Contents) (pool : HasPool geometry stands before now kept s) → (over s now kept pool).1.contents.meta_used + 128 ≤ (geometry metadata).metadata_blocks
        spare s now kept pool = let w = over s now kept pool in let r = (laws.within metadata last w.1.contents w.0 w.1.standing).room in omega (arith, r, still_enough)

        ended : (s : PlainPool) (now kept : Contents) (pool : HasPool geometry stands before now kept s) → LeavesOnly last end (EndStop size (Write id sector xs false) id [] now kept start (over s now kept pool).1.contents last)
        ended s now kept pool =
            let w = over s now kept pool in
            w.2 end (subst (λ (x : Geometry). LeavesOnly last end (IsReclaiming x w.1.contents w.0 last)) same_end (end_left w.1.contents w.0 w.1.standing (spare s now kept pool)))

        by : (r : Result (Unit {0}) Refusal)
            → OnOk r ((now kept : Contents) → stands metadata last now kept → now.meta_used + 128 ≤ (geometry metadata).metadata_blocks
            → IsKept geometry stands marks metadata end_metadata last end now × (room end_metadata + now.meta_used ≡ (geometry metadata).metadata_blocks))
            → IfErr r (λ refusal. refusal ≡ Fault) → FaultHasCause (is_fault r) last end → PoolTried geometry stands before (record was { disk = end; metadata = end_metadata }) asked r
        by (Ok x) is_kept only_fault end_cause =
            put_kept laws id sector xs fua some_sector before writable lies has_device passed metadata last same_end still_enough (after_later later ran.time) no_fault_yet left_written
            (λ s now kept pool. let w = over s now kept pool in (w.0, w.1)) end_metadata end end_same end_later ended values (end_cause.none refl) (λ now kept st few. (is_kept now kept st few).0)
        by (Err reason) is_kept only_fault end_cause =
            let faults : last.failures < end.failures = end_cause.more (ap is_fault_refusal only_fault) in
            subst (λ (r : Refusal). PoolRefused geometry stands before (failed_by r (record was { disk = end; metadata = end_metadata })) asked r) (sym only_fault)
            (put_unkept laws id sector xs fua some_sector before writable lies has_device passed metadata last same_end still_enough (after_later later ran.time) no_fault_yet left_written
            (λ s now kept pool. let w = over s now kept pool in (w.0, w.1)) end_metadata end end_same end_later ended faults)

-- ---- a write of no sectors

no_sectors : (fua : Bool) → (fua && nat_lt 0 0) ≡ false
no_sectors true = refl
no_sectors false = refl

module _ {M : Type 0} {geometry : M → Geometry} {stands : M → DiskState → Contents → Contents → Type 0} {marks : M → List Bool} {room : M → ℕ} (laws : Laws geometry stands marks room) (id sector : ℕ) (fua : Bool)
    (old : Held M) (works : old.mode ≡ mode.Writable) (lies : LiesIn geometry stands old id sector)
    (there : (now kept : Contents) → stands old.metadata old.disk now kept → IsSome (device_of id now.volumes)) where
  -- it passes the tests that it meets, and changes nothing
  pub put_nothing : (xs : List Sector) → length xs ≡ 0 → PoolCalled geometry stands old old (Write id sector xs fua) Done
  put_nothing (x ∷ xs) none = absurd (omega (arith, none))
  put_nothing [] none =
      called_working laws old old (Write id sector [] fua) Done (ap is_failed works) (at_once old.disk) refl (λ s now kept pool.
      let g = geometry old.metadata in
      let device = there now kept pool.standing in
      let within = laws.within old.metadata old.disk now kept pool.standing in
      let v = volume_is g now (seen old.disk.cells) s pool.has id device in
      let need_none : need s (Write id sector [] fua) id ≡ 0 = need_is_wanted g now (seen old.disk.cells) s within.limits within.volumes_now pool.has id sector [] fua device (omega (arith, lies.1 now kept s pool device)) in
      let used_is = used_is_listed g now (seen old.disk.cells) s within.volumes_now pool.has in
      let all = free_all g now.volumes within.volumes_now in
      let sizes : s.geometry.data_blocks ≡ g.data_blocks = ap (λ (x : Geometry). x.data_blocks) pool.has.geometry in
      let fits : has_data_room s (Write id sector [] fua) id ≡ true = le-leb (used_by s + need s (Write id sector [] fua) id) s.geometry.data_blocks (omega (arith, need_none, used_is, all, sizes)) in
      let accepted = write_tests_are s id sector [] fua false true false false (has_metadata_room s 512) true (ap is_failed (pool.mode_is ∙ works))
      (exists_is_listed g now (seen old.disk.cells) s id lies.0 pool.has ∙ is_some_from (device_of id now.volumes) device) (ap is_read_only (pool.mode_is ∙ works)) refl refl fits in
      met_done laws old old s s (Write id sector [] fua) accepted refl (Edits-nothing s id sector fua v.0 v.1) (inl (now, kept, pool))
      (rests laws old old (record { before = s; call = Write id sector [] fua; answer = Done; made = s }) refl (pool_left laws old now kept s pool)) (λ wants. absurd (false≢true (sym (no_sectors fua) ∙ wants))))

pub writable_is : (m : Mode) → is_failed m ≡ false → is_read_only m ≡ false → m ≡ mode.Writable
writable_is mode.Writable a b = refl
writable_is mode.ReadOnly a b = absurd (false≢true (sym b))
writable_is mode.Failed a b = absurd (false≢true (sym a))
