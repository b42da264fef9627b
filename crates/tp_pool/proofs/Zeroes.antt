-- Sectors of a volume that there is become zero.
use Rattle.std.proofs.Common.{◌≡◌, ◌⊎◌, inl, inr, ℕ, ◌+◌, ◌%◌, ◌≤◌, ◌<◌, ◌↔◌, Bool, true, false, None, Result, List, refl, sym, ◌∙◌, ap, subst, arith}
use Rattle.std.specs.Prelude.{IfErr, IsSome, IsTrue, OnOk, nat_le, nat_lt, ◌&&◌, if◌then◌else◌}
use Rattle.std.proofs.Math.Nat.{mod-lt}
use Rattle.std.proofs.lemmas.Bool.{cases_lt, false≢true, le-leb, lt-leb, lt-ltb}
use Rattle.std.proofs.lemmas.Option.{same_Some}
use Rattle.tp_model.specs.declared.mode.Mode.TheVariants as mode
use Rattle.tp_model.specs.declared.refusal.Refusal.{Refusal}
use Rattle.tp_model.specs.declared.refusal.Refusal.TheVariants.{Damaged, Fault, NoDataSpace}
use Rattle.tp_model.specs.Geometry.{Geometry}
use Rattle.tp_model.specs.Sectors.{Sector}
use Rattle.tp_model.specs.Pool.{PlainPool}
use Rattle.tp_model.specs.PoolStops.{Given as GivenIn}
use Rattle.tp_model.specs.Refusals.{is_fault, is_fault_refusal}
use Rattle.tp_model.specs.Calls.{Call, Done, Edits, IsAllowed, IsOneOf, Keeps, Owns, WriteZeroes, exists, has_data_room, has_metadata_room, is_failed, is_read_only, refusal_of, refusals_in_read_only, refusals_in_writable, slot_effect}
use Rattle.tp_model.specs.Disk.{DiskState, FaultHasCause, seen}
use Rattle.tp_model.specs.DiskStops.{LeavesOnly}
use Rattle.tp_model.proofs.Holds.{Makes-FindsHeld}
use Rattle.tp_model.proofs.Shape.{Step-IsSound}
use Rattle.tp_model.proofs.Steps.{step_accepted}
use Rattle.tp_sharing.specs.Volumes.{Volumes, device_of, slot_of, used}
use Rattle.tp_mapping.specs.Mapping.{free_places}
use Rattle.tp_stored.specs.Contents.{Contents, HasContents}
use Rattle.tp_shown.specs.Shown.{EditsLists, blocks_touched, blocks_wanted_by, first_block, own_sectors}
use Rattle.tp_shown.proofs.Edited.{edits_are_listed}
use Rattle.tp_shown.proofs.Partly.{values_are_listed}
use Rattle.tp_shown.proofs.Tests.{exists_is_listed, need_zeroes, used_is_listed}
use Rattle.tp_shown.proofs.Values.{size_is}
use Rattle.tp_meta.specs.Metadata.{IsLater, Ran}
use Rattle.tp_pool.specs.Flushes.{HasFlushed, Lacks}
use Rattle.tp_pool.specs.Held.{Held, HasPool, LacksRoom, LiesIn, PoolCalled, PoolRefused, PoolTried, failed_by, shows}
use Rattle.tp_pool.specs.Writing.{IsAsBefore, IsHalf, IsKept, IsReclaiming, LacksBlocks, Reaches, blocks_taken_by}
use Rattle.tp_pool.specs.Zeroing.{HasBlanked, HasFreeFor, LeavesZeroes}
use Rattle.tp_pool.proofs.Altering.{HasMade, IsAlteration, alter_accepts, alter_done, alter_failed, alter_then_kept, alter_unreclaimed}
use Rattle.tp_pool.proofs.Calling.{Laws, called_working, met_done, pool_left, rests}
use Rattle.tp_pool.proofs.Composing.{edits_alike}
use Rattle.tp_pool.proofs.Create.{enough_blocks_are, lacking_blocks_are, passes_blocks}
use Rattle.tp_pool.proofs.Discarding.{trim_no_end}
use Rattle.tp_pool.proofs.Flushing.{counted_before, counted_behind, counted_short}
use Rattle.tp_pool.proofs.Keeping.{not_read_only}
use Rattle.tp_pool.proofs.Putting.{write_tests}
use Rattle.tp_pool.proofs.Ranges.{known_after}
use Rattle.tp_pool.proofs.Requesting.{IsRequest}
use Rattle.tp_pool.proofs.Rooms.{free_all, takes_wanted_by}
use Rattle.tp_pool.proofs.Serving.{called_tested, is_some_from}
use Rattle.tp_pool.proofs.Stops.{Given}
use Rattle.tp_pool.proofs.Times.{at_once}
use Rattle.tp_pool.proofs.Zeroed.{edits_idle, idle_effect, not_touched}

pub zeroes_tests_are : (s : PlainPool) (id sector count : ℕ) (no_hole fua failed there read_only some room fits : Bool) → is_failed s.mode ≡ failed → exists s id ≡ there → is_read_only s.mode ≡ read_only
    → nat_lt 0 count ≡ some → has_metadata_room s 512 ≡ room → has_data_room s (WriteZeroes id sector count no_hole fua) id ≡ fits
    → refusal_of s (WriteZeroes id sector count no_hole fua) ≡ write_tests failed there read_only some room fits
zeroes_tests_are s id sector count no_hole fua failed there read_only some room fits a b c d e f = (λ i. write_tests (a i) (b i) (c i) (d i) (e i) (f i))

pub zeroes_alters : (id sector count : ℕ) (no_hole fua : Bool) → IsAlteration (WriteZeroes id sector count no_hole fua)
zeroes_alters id sector count no_hole fua = record {
  writes = refl;
  says = λ s. refl;
  keeps_not = refl;
  outline = λ s q edits. (ap (λ (p : PlainPool). p.geometry) edits.rest, ap (λ (p : PlainPool). p.holds) edits.rest);
  mode_is = λ s q edits. (ap (λ (p : PlainPool). p.mode) edits.rest, ap (λ (p : PlainPool). p.needs_check) edits.rest);
}

zeroes_failure : (id sector count : ℕ) (no_hole fua : Bool) (reason : Refusal) → (reason ≡ Fault) ⊎ (reason ≡ Damaged) → IsOneOf reason (refusals_in_writable (WriteZeroes id sector count no_hole fua))
zeroes_failure id sector count no_hole fua reason (inl e) = inr (inr (inr (inl e)))
zeroes_failure id sector count no_hole fua reason (inr e) = inr (inr (inr (inr (inl e))))

zeroes_failure_read_only : (id sector count : ℕ) (no_hole fua : Bool) (reason : Refusal) → (reason ≡ Fault) ⊎ (reason ≡ Damaged) → IsOneOf reason (refusals_in_read_only (WriteZeroes id sector count no_hole fua))
zeroes_failure_read_only id sector count no_hole fua reason (inl e) = inr (inr (inl e))
zeroes_failure_read_only id sector count no_hole fua reason (inr e) = inr (inr (inr (inl e)))

pub zeroes_requests : (id sector count : ℕ) (no_hole fua : Bool) → IsRequest (WriteZeroes id sector count no_hole fua)
zeroes_requests id sector count no_hole fua = record {
  asks = refl;
  looks = refl;
  failure = zeroes_failure id sector count no_hole fua;
  failure_read_only = zeroes_failure_read_only id sector count no_hole fua;
  missing = inl refl;
  missing_read_only = inl refl;
  only_read = inr (inl refl);
  short = inr (inl refl);
}

-- ---- whether it is kept does not matter to what it does

edits_flag : (s q : PlainPool) (id sector count : ℕ) (no_hole fua : Bool) → Edits s (WriteZeroes id sector count no_hole false) id q → Edits s (WriteZeroes id sector count no_hole fua) id q
edits_flag s q id sector count true fua e = record { rest = e.rest; others = e.others; volume = e.volume; slots = e.slots; untouched = e.untouched }
edits_flag s q id sector count false fua e = record { rest = e.rest; others = e.others; volume = e.volume; slots = e.slots; untouched = e.untouched }

given_flag : (s : PlainPool) (id sector count : ℕ) (no_hole fua : Bool) (i k : ℕ) (x : Sector) → GivenIn s (WriteZeroes id sector count no_hole false) i k x → GivenIn s (WriteZeroes id sector count no_hole fua) i k x
given_flag s id sector count true fua i k x v = v
given_flag s id sector count false fua i k x v = v

pub taken_flag : (g : Geometry) (id sector count : ℕ) (no_hole fua : Bool) (volumes : Volumes) (marks : List Bool) (first n : ℕ)
    → blocks_taken_by g (WriteZeroes id sector count no_hole false) id volumes marks first n ≡ blocks_taken_by g (WriteZeroes id sector count no_hole fua) id volumes marks first n
taken_flag g id sector count true fua volumes marks first n = refl
taken_flag g id sector count false fua volumes marks first n = refl

pub wanted_flag : (g : Geometry) (id sector count : ℕ) (no_hole fua : Bool) (volumes : Volumes) (first n : ℕ)
    → blocks_wanted_by g (WriteZeroes id sector count no_hole false) id volumes first n ≡ blocks_wanted_by g (WriteZeroes id sector count no_hole fua) id volumes first n
wanted_flag g id sector count true fua volumes first n = refl
wanted_flag g id sector count false fua volumes first n = refl

-- a range of no sectors does nothing
nothing_done : (g : Geometry) (pos : 0 < g.block_sectors) (id sector count : ℕ) (no_hole fua : Bool) → count ≡ 0 → (volumes : Volumes) (image : List Sector)
    → EditsLists g (WriteZeroes id sector count no_hole fua) id volumes volumes image image
nothing_done g pos id sector count no_hole fua none volumes image =
    let small : sector % g.block_sectors < g.block_sectors = mod-lt sector pos in
    let fits : sector % g.block_sectors + count ≤ g.block_sectors = omega (arith, small, none) in
    let part : count < g.block_sectors = omega (arith, none, pos) in
    edits_alike g (WriteZeroes id sector count false false) (WriteZeroes id sector count no_hole fua) id volumes volumes image image
    (λ b. idle_effect g pos id sector count fits part volumes (inl none) b ∙ sym (same b no_hole)) (λ k old. refl)
    (edits_idle g pos id sector count fits part volumes (inl none) image)
  where
    same : (b : ℕ) (h : Bool) → slot_effect g (WriteZeroes id sector count h fua) b (slot_of id b volumes) ≡ Keeps
    same b true =
        let small : sector % g.block_sectors < g.block_sectors = mod-lt sector pos in
        let fits : sector % g.block_sectors + count ≤ g.block_sectors = omega (arith, small, none) in
        (λ i. if not_touched g pos id sector count fits b (inl none) i then Owns else Keeps)
    same b false =
        let small : sector % g.block_sectors < g.block_sectors = mod-lt sector pos in
        let fits : sector % g.block_sectors + count ≤ g.block_sectors = omega (arith, small, none) in
        idle_effect g pos id sector count fits (omega (arith, none, pos)) volumes (inl none) b

-- Of a pool that is shown as `start`.
module _ {M : Type 0} {geometry : M → Geometry} {stands : M → DiskState → Contents → Contents → Type 0} {marks : M → List Bool} {room : M → ℕ} (laws : Laws geometry stands marks room)
    (id sector count : ℕ) (no_hole fua : Bool) (most : count ≤ 2048) (start old : Held M) (same_start : old ≡ start) (works_start : start.mode ≡ mode.Writable)
    (range_start : LiesIn geometry stands start id (sector + count))
    (there_start : (now kept : Contents) → stands start.metadata start.disk now kept → IsSome (device_of id now.volumes)) where
  abbrev call : Call
  call = WriteZeroes id sector count no_hole fua

  abbrev part : Call
  part = WriteZeroes id sector count no_hole false

  abbrev g : Geometry
  g = geometry old.metadata

  works : old.mode ≡ mode.Writable
  works = ap (λ (h : Held M). h.mode) same_start ∙ works_start

  lies : LiesIn geometry stands old id (sector + count)
  lies = subst (λ (h : Held M). LiesIn geometry stands h id (sector + count)) (sym same_start) range_start

  there : (now kept : Contents) → stands old.metadata old.disk now kept → IsSome (device_of id now.volumes)
  there = subst (λ (h : Held M). (now kept : Contents) → stands h.metadata h.disk now kept → IsSome (device_of id now.volumes)) (sym same_start) there_start

  -- it lies in the volume, in the geometry of later metadata too
  reaches : (x : Geometry) → x ≡ g → (s : PlainPool) (now kept : Contents) → HasPool geometry stands old now kept s → Reaches x id (sector + count) now.volumes
  reaches x same s now kept pool = let device = there now kept pool.standing in subst (λ (y : Geometry). Reaches y id (sector + count) now.volumes) (sym same) (device, lies.1 now kept s pool device)

  allowed : (s : PlainPool) (now kept : Contents) → HasPool geometry stands old now kept s → IsAllowed s call
  allowed s now kept pool = record {
    inside = λ size e.
        let device = there now kept pool.standing in
        let is = same_Some size (own_sectors g now.volumes id) (sym e ∙ size_is g now (seen old.disk.cells) s pool.has id device) in
        omega (arith, is, lies.1 now kept s pool device);
    most = most;
  }

  -- the data blocks in use and those that it takes
  abbrev asked : Contents → ℕ
  asked now = used now.volumes + blocks_wanted_by g call id now.volumes (first_block g sector) (blocks_touched g sector count)

  room_tested : (s : PlainPool) (now kept : Contents) → HasPool geometry stands old now kept s → has_data_room s call id ≡ nat_le (asked now) g.data_blocks
  room_tested s now kept pool =
      let within = laws.within old.metadata old.disk now kept pool.standing in
      let a = used_is_listed g now (seen old.disk.cells) s within.volumes_now pool.has in
      let b = need_zeroes g now (seen old.disk.cells) s within.limits within.volumes_now pool.has id sector count no_hole fua (there now kept pool.standing) (lies.1 now kept s pool (there now kept pool.standing)) in
      (λ i. nat_le (a i + b i) (pool.has.geometry i).data_blocks)

  tests : (some enough fits : Bool) → nat_lt 0 count ≡ some → (s : PlainPool) (now kept : Contents) → HasPool geometry stands old now kept s → has_metadata_room s 512 ≡ enough
      → has_data_room s call id ≡ fits → refusal_of s call ≡ write_tests false true false some enough fits
  tests some enough fits more s now kept pool room_is fits_is =
      zeroes_tests_are s id sector count no_hole fua false true false some enough fits (ap is_failed (pool.mode_is ∙ works))
      (exists_is_listed g now (seen old.disk.cells) s id lies.0 pool.has ∙ is_some_from (device_of id now.volumes) (there now kept pool.standing))
      (ap is_read_only (pool.mode_is ∙ works)) more room_is fits_is

  none_asked : (n : ℕ) → n ≡ 0 → blocks_touched g sector n ≡ 0
  none_asked n e = ap (blocks_touched g sector) e

  -- what a range of no sectors makes of a pool
  pub zeroes_nothing : count ≡ 0 → PoolCalled geometry stands start old call Done
  zeroes_nothing none =
      subst (λ (h : Held M). PoolCalled geometry stands h old call Done) same_start
      (called_working laws old old call Done (ap is_failed works) (at_once old.disk) refl (λ s now kept pool.
      let within = laws.within old.metadata old.disk now kept pool.standing in
      let pos : 0 < g.block_sectors = omega (arith, within.limits.block_least) in
      let done = nothing_done g pos id sector count no_hole fua none now.volumes (seen old.disk.cells) in
      let w = edits_are_listed g now (seen old.disk.cells) (seen old.disk.cells) s within.limits pool.has call id now.volumes now.meta_used (there now kept pool.standing) done (λ all. refl) in
      let blank : blocks_wanted_by g call id now.volumes (first_block g sector) (blocks_touched g sector count) ≡ 0 = ap (λ n. blocks_wanted_by g call id now.volumes (first_block g sector) n) (none_asked count none) in
      let all = free_all g now.volumes within.volumes_now in
      let fits : has_data_room s call id ≡ true = room_tested s now kept pool ∙ le-leb (asked now) g.data_blocks (omega (arith, blank, all)) in
      let accepted : refusal_of s call ≡ None = tests false (has_metadata_room s 512) true (ap (nat_lt 0) none) s now kept pool refl fits in
      let alters = zeroes_alters id sector count no_hole fua in
      let modes = alters.mode_is s w.0 w.2 in
      met_done laws old old s w.0 call accepted refl w.2
      (inl (
        now,
        kept,
        record {
          standing = pool.standing;
          has = w.1;
          mode_is = modes.0 ∙ pool.mode_is;
          holds = (alters.outline s w.0 w.2).1 ∙ pool.holds;
          spare = pool.spare;
          works = pool.works;
          check = pool.check;
          settled = λ read_only. absurd (not_read_only old.mode works read_only);
          sound = Step-IsSound s call Done w.0 (allowed s now kept pool) pool.sound (step_accepted s call w.0 accepted w.2);
          found = Makes-FindsHeld s call w.0 accepted w.2 pool.found;
          known = known_after g g old.holders s call w.0 refl accepted w.2 (alters.outline s w.0 w.2).1 pool.found pool.known;
        },
      ))
      (rests laws old old (record { before = s; call = call; answer = Done; made = w.0 }) refl (pool_left laws old now kept s pool))
      (λ wants. absurd (false≢true (sym (trim_no_end fua count none) ∙ wants)))))

  -- ---- behind the tests that read

  module _ (some : 0 < count) (lacks : Bool) (told : (d : DiskState) (now kept : Contents) → stands old.metadata d now kept → IsTrue lacks ↔ LacksBlocks 512 g now) where
    more : nat_lt 0 count ≡ true
    more = lt-ltb 0 count some

    -- there is no metadata room for it
    zeroes_short : lacks ≡ true → LacksRoom geometry stands old call
    zeroes_short short = record {
      writes = refl;
      refused = λ s shown. elim shown [
        | inl w ↦ tests true false (has_data_room s call id) more s w.0 w.1 w.2 (lacking_blocks_are 512 s g w.0 (seen old.disk.cells) w.2.has ((told old.disk w.0 w.1 w.2.standing).0 short)) refl
        | inr f ↦ absurd (false≢true (sym (ap is_failed works) ∙ ap is_failed f.failed))
      ];
    }

    pub zeroes_refused : (new : Held M) (result : Result (Unit {0}) Refusal) → lacks ≡ true
        → ((any : Call) → LacksRoom geometry stands start any → PoolTried geometry stands start new any result)
        → PoolTried geometry stands start new call result
    zeroes_refused new result short refused = refused call (subst (λ (h : Held M). LacksRoom geometry stands h call) same_start (zeroes_short short))

    pub zeroes_flushed_short : (new : DiskState) → lacks ≡ true → (start.disk.flushes ≤ new.flushes) × (new.flushes ≤ start.disk.flushes + 2) → HasFlushed geometry stands marks room start new call
    zeroes_flushed_short new short few =
        let refused = subst (λ (h : Held M). LacksRoom geometry stands h call) same_start (zeroes_short short) in
        counted_short geometry stands marks room start call works_start more new refused.refused few

    module _ (passes : lacks ≡ false) where
      spared : (now kept : Contents) → stands old.metadata old.disk now kept → LacksBlocks 512 g now → ⊥
      spared now kept st = passes_blocks 512 g now lacks (told old.disk now kept st) passes

      -- there is no data room for it
      pub zeroes_full : ((now kept : Contents) → stands old.metadata old.disk now kept → g.data_blocks < asked now) → PoolRefused geometry stands start old call NoDataSpace
      zeroes_full full =
          subst (λ (h : Held M). PoolRefused geometry stands h old call NoDataSpace) same_start
          (called_tested laws old call NoDataSpace (ap is_failed works) refl (λ s. refl) refl (λ s now kept pool.
          tests true true false more s now kept pool (enough_blocks_are 512 s g now (seen old.disk.cells) pool.has (spared now kept pool.standing))
          (room_tested s now kept pool ∙ lt-leb (asked now) g.data_blocks (full now kept pool.standing))))

      -- ---- behind the tests

      module _ (taken : ℕ) (tested : (now kept : Contents) → stands old.metadata old.disk now kept
          → (asked now ≤ g.data_blocks) × (taken ≡ blocks_taken_by g call id now.volumes (marks old.metadata) (first_block g sector) (blocks_touched g sector count))) where
        accepted : (s : PlainPool) (now kept : Contents) → HasPool geometry stands old now kept s → refusal_of s call ≡ None
        accepted s now kept pool =
            tests true true true more s now kept pool (enough_blocks_are 512 s g now (seen old.disk.cells) pool.has (spared now kept pool.standing))
            (room_tested s now kept pool ∙ le-leb (asked now) g.data_blocks (tested now kept pool.standing).0)

        gives : (s : PlainPool) (now kept : Contents) → HasPool geometry stands old now kept s → (i k : ℕ) (x : Sector) → Given g part id now.volumes i k x → GivenIn s call i k x
        gives s now kept pool i k x h =
            subst (λ j. GivenIn s call j k x) (sym h.0)
            (given_flag s id sector count no_hole fua id k x ((values_are_listed g now (seen old.disk.cells) s pool.has part id k x refl).0 h.1))

        -- the commit before it failed
        pub zeroes_unreclaimed : (reason : Refusal) (metadata : M) (d : DiskState) → geometry metadata ≡ g → IsLater old.disk d
            → FaultHasCause (is_fault_refusal reason) old.disk d
            → ((now kept : Contents) → stands old.metadata old.disk now kept → (LacksBlocks 512 g now → ⊥) → LeavesOnly old.disk d (IsReclaiming g now kept old.disk))
            → (reason ≡ Damaged → (now kept : Contents) → stands old.metadata old.disk now kept → (LacksBlocks 512 g now → ⊥) → ⊥)
            → (reason ≡ Fault) ⊎ (reason ≡ Damaged)
            → PoolRefused geometry stands start (failed_by reason (record old { disk = d; metadata = metadata })) call reason
        zeroes_unreclaimed = alter_unreclaimed laws call (zeroes_alters id sector count no_hole fua) part id (λ c. c.volumes) 512 start old same_start works allowed accepted spared gives

        module _ (mid : M) (d : DiskState) (same : geometry mid ≡ g) (later : IsLater old.disk d) (cause : FaultHasCause false old.disk d)
            (left : (now kept : Contents) → stands old.metadata old.disk now kept → (LacksBlocks 512 g now → ⊥) → LeavesOnly old.disk d (IsReclaiming g now kept old.disk))
            (done : (now kept : Contents) → stands old.metadata old.disk now kept → (LacksBlocks 512 g now → ⊥)
            → (IsAsBefore geometry stands marks old.metadata mid old.disk d × (taken ≤ free_places g now.volumes kept.volumes)) ⊎ IsKept geometry stands marks old.metadata mid old.disk d now)
            (metadata : M) (last : DiskState)
            (leaves : (now kept : Contents) → stands mid d now kept → Reaches (geometry mid) id (sector + count) now.volumes → LeavesZeroes geometry stands marks id sector count no_hole mid d last now kept) where
          done_alone : (now kept : Contents) → stands old.metadata old.disk now kept → (LacksBlocks 512 g now → ⊥)
              → IsAsBefore geometry stands marks old.metadata mid old.disk d ⊎ IsKept geometry stands marks old.metadata mid old.disk d now
          done_alone now kept st enough = elim (done now kept st enough) [ inl w ↦ inl w.0 | inr k ↦ inr k ]

          half : (s : PlainPool) (now kept before : Contents) → HasPool geometry stands old now kept s → stands mid d now before → LeavesOnly d last (IsHalf g part id now.volumes before d.cells)
          half s now kept before pool standing =
              subst (λ (x : Geometry). LeavesOnly d last (IsHalf x part id now.volumes before d.cells)) same (leaves now before standing (reaches (geometry mid) same s now kept pool))

          -- there are as many free data blocks as it takes
          free_by : (now kept : Contents) → stands old.metadata old.disk now kept
              → (IsAsBefore geometry stands marks old.metadata mid old.disk d × (taken ≤ free_places g now.volumes kept.volumes)) ⊎ IsKept geometry stands marks old.metadata mid old.disk d now
              → (before : Contents) × stands mid d now before × HasFreeFor geometry stands marks id sector count no_hole mid now before
          free_by now kept st (inl w) =
              let first = first_block g sector in
              let n = blocks_touched g sector count in
              let is = (tested now kept st).1 in
              let plain = taken_flag g id sector count no_hole fua now.volumes (marks old.metadata) first n in
              let enough : blocks_taken_by g part id now.volumes (marks old.metadata) first n ≤ free_places g now.volumes kept.volumes = omega (arith, is, plain, w.1) in
              let moved = subst (λ (m : M). stands m d now kept) (sym w.0.metadata) (subst (λ (x : DiskState). stands old.metadata x now kept) (sym w.0.disk) st) in
              (kept, moved, subst (λ (m : M). HasFreeFor geometry stands marks id sector count no_hole m now kept) (sym w.0.metadata) enough)
          free_by now kept st (inr k) =
              let first = first_block g sector in
              let n = blocks_touched g sector count in
              let within = (laws.within old.metadata old.disk now kept st).volumes_now in
              let all = free_all g now.volumes within in
              let takes = takes_wanted_by g part id now.volumes (marks mid) g.data_blocks k.unmarked first n in
              let plain = wanted_flag g id sector count no_hole fua now.volumes first n in
              let fits = (tested now kept st).0 in
              let enough : blocks_taken_by g part id now.volumes (marks mid) first n ≤ free_places g now.volumes now.volumes = omega (arith, takes, plain, all, fits) in
              (now, k.standing, subst (λ (x : Geometry). blocks_taken_by x part id now.volumes (marks mid) (first_block x sector) (blocks_touched x sector count) ≤ free_places x now.volumes now.volumes) (sym same) enough)

          -- it failed
          pub zeroes_failed : {n r t : ℕ} (reason : Refusal) → Ran n (is_fault_refusal reason) r t (geometry mid) (geometry metadata) d last
              → (reason ≡ Damaged → (now kept : Contents) → stands mid d now kept → Reaches (geometry mid) id (sector + count) now.volumes → HasFreeFor geometry stands marks id sector count no_hole mid now kept → ⊥)
              → (reason ≡ Fault) ⊎ (reason ≡ Damaged)
              → PoolRefused geometry stands start (failed_by reason (record old { disk = last; metadata = metadata })) call reason
          zeroes_failed reason ran never only =
              alter_failed laws call (zeroes_alters id sector count no_hole fua) part id (λ c. c.volumes) 512 start old same_start works allowed accepted spared gives mid d same later cause left done_alone
              metadata last (ran.geometry ∙ same) ran.time half reason ran.cause
              (λ e s now kept pool.
              let st = pool.standing in
              let m = free_by now kept st (done now kept st (spared now kept st)) in
              never e now m.0 m.1 (reaches (geometry mid) same s now kept pool) m.2) only

          -- it was done
          module _ {n : ℕ} (ran : Ran n false (room mid) (room metadata) (geometry mid) (geometry metadata) d last) (enough : 128 ≤ room metadata)
              (blanked : (now kept : Contents) (s : PlainPool) → stands mid d now kept → Reaches (geometry mid) id (sector + count) now.volumes → HasContents (geometry mid) now (seen d.cells) s
              → HasBlanked geometry stands marks id sector count no_hole metadata last kept s) where
            made : (s : PlainPool) (now kept : Contents) → HasPool geometry stands old now kept s → (before : Contents) → stands mid d now before → HasContents g now (seen d.cells) s
                → HasMade laws call (zeroes_alters id sector count no_hole fua) part id (λ c. c.volumes) 512 start old same_start works allowed accepted spared gives metadata last s before
            made s now kept pool before standing has =
                let w = blanked now before s standing (reaches (geometry mid) same s now kept pool) (subst (λ (x : Geometry). HasContents x now (seen d.cells) s) (sym same) has) in
                record {
                  contents = w.contents;
                  pool = w.pool;
                  standing = w.standing;
                  has = subst (λ (x : Geometry). HasContents x w.contents (seen last.cells) w.pool) (ran.geometry ∙ same) w.has;
                  makes = edits_flag s w.pool id sector count no_hole fua w.edits;
                }

            pub zeroes_done : fua ≡ false → PoolCalled geometry stands start (record old { disk = last; metadata = metadata }) call Done
            zeroes_done plain =
                alter_done laws call (zeroes_alters id sector count no_hole fua) part id (λ c. c.volumes) 512 start old same_start works allowed accepted spared gives mid d same later cause left done_alone
                metadata last (ran.geometry ∙ same) ran.time half (ran.cause.none refl) enough made (ap (λ (b : Bool). b && nat_lt 0 count) plain)

            -- and then kept
            pub zeroes_then_kept : (end_metadata : M) (end : DiskState) → geometry end_metadata ≡ geometry metadata → IsLater last end
                → ((now kept : Contents) → stands metadata last now kept → now.meta_used + 128 ≤ (geometry metadata).metadata_blocks
                → LeavesOnly last end (IsReclaiming (geometry metadata) now kept last))
                → (result : Result (Unit {0}) Refusal)
                → OnOk result ((now kept : Contents) → stands metadata last now kept → now.meta_used + 128 ≤ (geometry metadata).metadata_blocks
                → IsKept geometry stands marks metadata end_metadata last end now × (room end_metadata + now.meta_used ≡ (geometry metadata).metadata_blocks))
                → IfErr result (λ refusal. refusal ≡ Fault) → FaultHasCause (is_fault result) last end
                → PoolTried geometry stands start (record old { disk = end; metadata = end_metadata }) call result
            zeroes_then_kept end_metadata end end_same end_later end_left =
                alter_then_kept laws call (zeroes_alters id sector count no_hole fua) part id (λ c. c.volumes) 512 start old same_start works allowed accepted spared gives mid d same later cause left done_alone
                metadata last (ran.geometry ∙ same) ran.time half (ran.cause.none refl) enough made end_metadata end end_same end_later end_left

        -- ---- how often it flushes

        module _ (mid : M) (d : DiskState) (few : (old.disk.flushes ≤ d.flushes) × (d.flushes ≤ old.disk.flushes + 2))
            (idle : 512 ≤ room old.metadata → (now kept : Contents) → stands old.metadata old.disk now kept → taken ≤ free_places g now.volumes kept.volumes → (mid ≡ old.metadata) × (d ≡ old.disk)) where
          at_least : (a b : ℕ) → (b < a → ⊥) → a ≤ b
          at_least a b h = elim (cases_lt b a) [ inl lt ↦ absurd (h lt) | inr ge ↦ omega (arith, ge) ]

          rests_so : (s : PlainPool) → shows geometry stands old s → (Lacks geometry stands marks room old call → ⊥) → d.flushes ≡ old.disk.flushes
          rests_so s (inl w) enough =
              let is = (tested w.0 w.1 w.2.standing).1 in
              let free : blocks_taken_by g call id w.0.volumes (marks old.metadata) (first_block g sector) (blocks_touched g sector count) ≤ free_places g w.0.volumes w.1.volumes =
              at_least _ _ (λ less. enough (some, inr (w.0, w.1, w.2.standing, less))) in
              ap (λ (x : DiskState). x.flushes) (idle (at_least 512 (room old.metadata) (λ less. enough (some, inl less))) w.0 w.1 w.2.standing (omega (arith, is, free))).1
          rests_so s (inr f) enough = absurd (false≢true (sym (ap is_failed works) ∙ ap is_failed f.failed))

          accepts : (s : PlainPool) → shows geometry stands old s → refusal_of s call ≡ None
          accepts = alter_accepts laws call (zeroes_alters id sector count no_hole fua) part id (λ c. c.volumes) 512 start old same_start works allowed accepted spared gives

          pub zeroes_before : (new : DiskState) → new.flushes ≡ d.flushes → HasFlushed geometry stands marks room start new call
          zeroes_before new same =
              subst (λ (h : Held M). HasFlushed geometry stands marks room h new call) same_start
              (counted_before geometry stands marks room old call works more accepts d few rests_so new same)

          pub zeroes_behind : (last new : DiskState) → fua ≡ true → last.flushes ≡ d.flushes → (last.flushes ≤ new.flushes) × (new.flushes ≤ last.flushes + 2)
              → HasFlushed geometry stands marks room start new call
          zeroes_behind last new keeps same more_flushes =
              subst (λ (h : Held M). HasFlushed geometry stands marks room h new call) same_start
              (counted_behind geometry stands marks room old call works more accepts d few rests_so last new (λ i. keeps i && more i) same more_flushes)
