-- A trim of a volume that there is.
use Rattle.std.proofs.Common.{◌≡◌, ◌⊎◌, inl, inr, ℕ, ◌+◌, ◌≤◌, ◌<◌, ◌↔◌, Bool, true, false, None, Result, List, [], refl, sym, ◌∙◌, ap, subst, arith}
use Rattle.std.specs.Prelude.{IfErr, IsSome, IsTrue, OnOk, nat_lt, ◌&&◌}
use Rattle.std.proofs.lemmas.Bool.{cases_lt, false≢true, lt-ltb}
use Rattle.std.proofs.lemmas.Option.{same_Some}
use Rattle.tp_model.specs.declared.mode.Mode.TheVariants as mode
use Rattle.tp_model.specs.declared.refusal.Refusal.{Refusal}
use Rattle.tp_model.specs.declared.refusal.Refusal.TheVariants.{Damaged, Fault}
use Rattle.tp_model.specs.Geometry.{Geometry}
use Rattle.tp_model.specs.Sectors.{Sector}
use Rattle.tp_model.specs.Pool.{PlainPool}
use Rattle.tp_model.specs.PoolStops.{Given as GivenIn}
use Rattle.tp_model.specs.Refusals.{is_fault, is_fault_refusal}
use Rattle.tp_model.specs.Calls.{Call, Done, Flush, IsAllowed, IsOneOf, Trim, exists, has_metadata_room, is_failed, is_read_only, refusal_of, refusals_in_read_only, refusals_in_writable}
use Rattle.tp_model.specs.Disk.{DiskState, FaultHasCause, seen}
use Rattle.tp_model.specs.DiskStops.{LeavesOnly}
use Rattle.tp_model.proofs.Holds.{Makes-FindsHeld}
use Rattle.tp_model.proofs.Shape.{Step-IsSound}
use Rattle.tp_model.proofs.Steps.{step_accepted}
use Rattle.tp_sharing.specs.Volumes.{device_of}
use Rattle.tp_mapping.specs.Mapping.{free_places}
use Rattle.tp_stored.specs.Contents.{Contents, HasContents, IsStill, SameData}
use Rattle.tp_shown.specs.Shown.{HasLost, blocks_covered, first_covered, own_sectors}
use Rattle.tp_shown.proofs.Tests.{exists_is_listed}
use Rattle.tp_shown.proofs.Trimmed.{trim_makes}
use Rattle.tp_shown.proofs.Values.{size_is}
use Rattle.tp_meta.specs.Metadata.{IsChanging, IsLater, Ran}
use Rattle.tp_pool.specs.Flushes.{HasFlushed, Lacks}
use Rattle.tp_pool.specs.Held.{Held, HasPool, LacksRoom, LiesIn, PoolCalled, PoolRefused, PoolTried, failed_by, shows}
use Rattle.tp_pool.specs.Trimming.{HasUnmapped}
use Rattle.tp_pool.specs.Writing.{IsAsBefore, IsHalf, IsKept, IsReclaiming, LacksBlocks}
use Rattle.tp_pool.proofs.Altering.{HasMade, IsAlteration, alter_accepts, alter_done, alter_failed, alter_then_kept, alter_unreclaimed, stood_or_kept}
use Rattle.tp_pool.proofs.Calling.{Laws, called_working, met_done, pool_left, rests}
use Rattle.tp_pool.proofs.Create.{enough_blocks_are, lacking_blocks_are, passes_blocks}
use Rattle.tp_pool.proofs.Flushing.{counted_before, counted_behind, counted_short}
use Rattle.tp_pool.proofs.Halves.{half_changing}
use Rattle.tp_pool.proofs.Keeping.{not_read_only}
use Rattle.tp_pool.proofs.Putting.{write_tests}
use Rattle.tp_pool.proofs.Ranges.{known_after}
use Rattle.tp_pool.proofs.Requesting.{IsRequest}
use Rattle.tp_pool.proofs.Serving.{is_some_from}
use Rattle.tp_pool.proofs.Stops.{Given, nothing_given}
use Rattle.tp_pool.proofs.Times.{at_once}
use Rattle.tp_pool.proofs.Unmapping.{covered_none, lost_nothing}

pub trim_tests_are : (s : PlainPool) (id sector count : ℕ) (fua failed there read_only some room : Bool) → is_failed s.mode ≡ failed → exists s id ≡ there → is_read_only s.mode ≡ read_only
    → nat_lt 0 count ≡ some → has_metadata_room s 256 ≡ room → refusal_of s (Trim id sector count fua) ≡ write_tests failed there read_only some room true
trim_tests_are s id sector count fua failed there read_only some room a b c d e = (λ i. write_tests (a i) (b i) (c i) (d i) (e i) true)

pub trim_alters : (id sector count : ℕ) (fua : Bool) → IsAlteration (Trim id sector count fua)
trim_alters id sector count fua = record {
  writes = refl;
  says = λ s. refl;
  keeps_not = refl;
  outline = λ s q edits. (ap (λ (p : PlainPool). p.geometry) edits.rest, ap (λ (p : PlainPool). p.holds) edits.rest);
  mode_is = λ s q edits. (ap (λ (p : PlainPool). p.mode) edits.rest, ap (λ (p : PlainPool). p.needs_check) edits.rest);
}

trim_failure : (id sector count : ℕ) (fua : Bool) (reason : Refusal) → (reason ≡ Fault) ⊎ (reason ≡ Damaged) → IsOneOf reason (refusals_in_writable (Trim id sector count fua))
trim_failure id sector count fua reason (inl e) = inr (inr (inl e))
trim_failure id sector count fua reason (inr e) = inr (inr (inr (inl e)))

trim_failure_read_only : (id sector count : ℕ) (fua : Bool) (reason : Refusal) → (reason ≡ Fault) ⊎ (reason ≡ Damaged) → IsOneOf reason (refusals_in_read_only (Trim id sector count fua))
trim_failure_read_only id sector count fua reason (inl e) = inr (inr (inl e))
trim_failure_read_only id sector count fua reason (inr e) = inr (inr (inr (inl e)))

pub trim_requests : (id sector count : ℕ) (fua : Bool) → IsRequest (Trim id sector count fua)
trim_requests id sector count fua = record {
  asks = refl;
  looks = refl;
  failure = trim_failure id sector count fua;
  failure_read_only = trim_failure_read_only id sector count fua;
  missing = inl refl;
  missing_read_only = inl refl;
  only_read = inr (inl refl);
  short = inr (inl refl);
}

-- a range of no sectors is not kept
pub trim_no_end : (fua : Bool) (count : ℕ) → count ≡ 0 → (fua && nat_lt 0 count) ≡ false
trim_no_end fua count none = ap (λ n. fua && nat_lt 0 n) none ∙ by fua
  where
    by : (b : Bool) → (b && false) ≡ false
    by true = refl
    by false = refl

-- Of a pool that is shown as `start`.
module _ {M : Type 0} {geometry : M → Geometry} {stands : M → DiskState → Contents → Contents → Type 0} {marks : M → List Bool} {room : M → ℕ} (laws : Laws geometry stands marks room)
    (id sector count : ℕ) (fua : Bool) (most : count ≤ 2048) (start old : Held M) (same_start : old ≡ start) (works_start : start.mode ≡ mode.Writable)
    (range_start : LiesIn geometry stands start id (sector + count))
    (there_start : (now kept : Contents) → stands start.metadata start.disk now kept → IsSome (device_of id now.volumes)) where
  abbrev call : Call
  call = Trim id sector count fua

  abbrev g : Geometry
  g = geometry old.metadata

  works : old.mode ≡ mode.Writable
  works = ap (λ (h : Held M). h.mode) same_start ∙ works_start

  lies : LiesIn geometry stands old id (sector + count)
  lies = subst (λ (h : Held M). LiesIn geometry stands h id (sector + count)) (sym same_start) range_start

  there : (now kept : Contents) → stands old.metadata old.disk now kept → IsSome (device_of id now.volumes)
  there = subst (λ (h : Held M). (now kept : Contents) → stands h.metadata h.disk now kept → IsSome (device_of id now.volumes)) (sym same_start) there_start

  allowed : (s : PlainPool) (now kept : Contents) → HasPool geometry stands old now kept s → IsAllowed s call
  allowed s now kept pool = record {
    inside = λ size e.
        let device = there now kept pool.standing in
        let is = same_Some size (own_sectors g now.volumes id) (sym e ∙ size_is g now (seen old.disk.cells) s pool.has id device) in
        omega (arith, is, lies.1 now kept s pool device);
    most = most;
  }

  tests : (some enough : Bool) → nat_lt 0 count ≡ some → (s : PlainPool) (now kept : Contents) → HasPool geometry stands old now kept s → has_metadata_room s 256 ≡ enough
      → refusal_of s call ≡ write_tests false true false some enough true
  tests some enough more s now kept pool room_is =
      trim_tests_are s id sector count fua false true false some enough (ap is_failed (pool.mode_is ∙ works))
      (exists_is_listed g now (seen old.disk.cells) s id lies.0 pool.has ∙ is_some_from (device_of id now.volumes) (there now kept pool.standing))
      (ap is_read_only (pool.mode_is ∙ works)) more room_is

  -- what a range of no sectors makes of a pool
  pub trim_nothing : count ≡ 0 → PoolCalled geometry stands start old call Done
  trim_nothing none =
      subst (λ (h : Held M). PoolCalled geometry stands h old call Done) same_start
      (called_working laws old old call Done (ap is_failed works) (at_once old.disk) refl (λ s now kept pool.
      let within = laws.within old.metadata old.disk now kept pool.standing in
      let no_blocks : blocks_covered g sector count ≡ 0 = covered_none g within.limits sector count none in
      let w = trim_makes g now (seen old.disk.cells) (seen old.disk.cells) s within.limits pool.has (record { same_length = refl; same = λ i high. refl })
      id sector count fua now.volumes now.meta_used (there now kept pool.standing)
      (subst (λ n. HasLost id (first_covered g sector) n now.volumes now.volumes) (sym no_blocks) (lost_nothing id (first_covered g sector) now.volumes)) (λ same. refl) in
      let accepted : refusal_of s call ≡ None = tests false (has_metadata_room s 256) (ap (nat_lt 0) none) s now kept pool refl in
      let alters = trim_alters id sector count fua in
      let modes = alters.mode_is s w.0 w.2 in
      met_done laws old old s w.0 call accepted refl w.2
      (inl (
        now,
        kept,
        record {
          standing = pool.standing;
          has = w.1;
          mode_is = modes.0 ∙ pool.mode_is;
          holds = (alters.outline s w.0 w.2).1 ∙ pool.holds;
          spare = pool.spare;
          works = pool.works;
          check = pool.check;
          settled = λ read_only. absurd (not_read_only old.mode works read_only);
          sound = Step-IsSound s call Done w.0 (allowed s now kept pool) pool.sound (step_accepted s call w.0 accepted w.2);
          found = Makes-FindsHeld s call w.0 accepted w.2 pool.found;
          known = known_after g g old.holders s call w.0 refl accepted w.2 (alters.outline s w.0 w.2).1 pool.found pool.known;
        },
      ))
      (rests laws old old (record { before = s; call = call; answer = Done; made = w.0 }) refl (pool_left laws old now kept s pool))
      (λ wants. absurd (false≢true (sym (trim_no_end fua count none) ∙ wants)))))

  -- ---- behind the tests that read

  module _ (some : 0 < count) (lacks : Bool) (told : (d : DiskState) (now kept : Contents) → stands old.metadata d now kept → IsTrue lacks ↔ LacksBlocks 256 g now) where
    more : nat_lt 0 count ≡ true
    more = lt-ltb 0 count some

    -- there is no metadata room for it
    pub trim_short : lacks ≡ true → LacksRoom geometry stands old call
    trim_short short = record {
      writes = refl;
      refused = λ s shown. elim shown [
        | inl w ↦ tests true false more s w.0 w.1 w.2 (lacking_blocks_are 256 s g w.0 (seen old.disk.cells) w.2.has ((told old.disk w.0 w.1 w.2.standing).0 short))
        | inr f ↦ absurd (false≢true (sym (ap is_failed works) ∙ ap is_failed f.failed))
      ];
    }

    pub trim_refused : (new : Held M) (result : Result (Unit {0}) Refusal) → lacks ≡ true
        → ((any : Call) → LacksRoom geometry stands start any → PoolTried geometry stands start new any result)
        → PoolTried geometry stands start new call result
    trim_refused new result short refused = refused call (subst (λ (h : Held M). LacksRoom geometry stands h call) same_start (trim_short short))

    pub trim_flushed_short : (new : DiskState) → lacks ≡ true → (start.disk.flushes ≤ new.flushes) × (new.flushes ≤ start.disk.flushes + 2) → HasFlushed geometry stands marks room start new call
    trim_flushed_short new short few =
        let refused = subst (λ (h : Held M). LacksRoom geometry stands h call) same_start (trim_short short) in
        counted_short geometry stands marks room start call works_start more new refused.refused few

    module _ (passes : lacks ≡ false) where
      spared : (now kept : Contents) → stands old.metadata old.disk now kept → LacksBlocks 256 g now → ⊥
      spared now kept st = passes_blocks 256 g now lacks (told old.disk now kept st) passes

      accepted : (s : PlainPool) (now kept : Contents) → HasPool geometry stands old now kept s → refusal_of s call ≡ None
      accepted s now kept pool = tests true true more s now kept pool (enough_blocks_are 256 s g now (seen old.disk.cells) pool.has (spared now kept pool.standing))

      -- it gives no sector a value
      no_values : (s : PlainPool) (now kept : Contents) → HasPool geometry stands old now kept s → (i k : ℕ) (x : Sector) → Given g Flush 0 [] i k x → GivenIn s call i k x
      no_values s now kept pool i k x h = absurd (nothing_given g i k x h)

      -- the commit before it failed
      pub trim_unreclaimed : (reason : Refusal) (metadata : M) (d : DiskState) → geometry metadata ≡ g → IsLater old.disk d
          → FaultHasCause (is_fault_refusal reason) old.disk d
          → ((now kept : Contents) → stands old.metadata old.disk now kept → (LacksBlocks 256 g now → ⊥) → LeavesOnly old.disk d (IsReclaiming g now kept old.disk))
          → (reason ≡ Damaged → (now kept : Contents) → stands old.metadata old.disk now kept → (LacksBlocks 256 g now → ⊥) → ⊥)
          → (reason ≡ Fault) ⊎ (reason ≡ Damaged)
          → PoolRefused geometry stands start (failed_by reason (record old { disk = d; metadata = metadata })) call reason
      trim_unreclaimed = alter_unreclaimed laws call (trim_alters id sector count fua) Flush 0 (λ c. []) 256 start old same_start works allowed accepted spared no_values

      module _ (mid : M) (d : DiskState) (same : geometry mid ≡ g) (later : IsLater old.disk d) (cause : FaultHasCause false old.disk d)
          (left : (now kept : Contents) → stands old.metadata old.disk now kept → (LacksBlocks 256 g now → ⊥) → LeavesOnly old.disk d (IsReclaiming g now kept old.disk))
          (done : (now kept : Contents) → stands old.metadata old.disk now kept → (LacksBlocks 256 g now → ⊥)
          → (IsAsBefore geometry stands marks old.metadata mid old.disk d × (0 ≤ free_places g now.volumes kept.volumes)) ⊎ IsKept geometry stands marks old.metadata mid old.disk d now)
          (metadata : M) (last : DiskState) (changing : (now kept : Contents) → stands mid d now kept → IsChanging (geometry mid) kept d last) where
        done_alone : (now kept : Contents) → stands old.metadata old.disk now kept → (LacksBlocks 256 g now → ⊥)
            → IsAsBefore geometry stands marks old.metadata mid old.disk d ⊎ IsKept geometry stands marks old.metadata mid old.disk d now
        done_alone now kept st enough = elim (done now kept st enough) [ inl w ↦ inl w.0 | inr k ↦ inr k ]

        half : (s : PlainPool) (now kept before : Contents) → HasPool geometry stands old now kept s → stands mid d now before → LeavesOnly d last (IsHalf g Flush 0 [] before d.cells)
        half s now kept before pool standing =
            half_changing g Flush 0 [] before d last
            (subst (λ (x : Geometry). LeavesOnly d last (IsStill x before d.cells)) same (changing now before standing).any_moment)

        -- it failed
        pub trim_failed : {n r t : ℕ} (reason : Refusal) → Ran n (is_fault_refusal reason) r t (geometry mid) (geometry metadata) d last
            → (reason ≡ Damaged → (now kept : Contents) → stands mid d now kept → ⊥) → (reason ≡ Fault) ⊎ (reason ≡ Damaged)
            → PoolRefused geometry stands start (failed_by reason (record old { disk = last; metadata = metadata })) call reason
        trim_failed reason ran never only =
            alter_failed laws call (trim_alters id sector count fua) Flush 0 (λ c. []) 256 start old same_start works allowed accepted spared no_values mid d same later cause left done_alone
            metadata last (ran.geometry ∙ same) ran.time half reason ran.cause
            (λ e s now kept pool. let m = stood_or_kept laws call (trim_alters id sector count fua) Flush 0 (λ c. []) 256 start old same_start works allowed accepted spared no_values mid d same later cause left done_alone
            metadata last (ran.geometry ∙ same) ran.time half now kept pool.standing in never e now m.0 m.1) only

        -- it was done
        module _ {n : ℕ} (ran : Ran n false (room mid) (room metadata) (geometry mid) (geometry metadata) d last) (enough : 128 ≤ room metadata)
            (unmapped : (now kept : Contents) → stands mid d now kept
            → HasUnmapped geometry stands marks id (first_covered (geometry mid) sector) (blocks_covered (geometry mid) sector count) metadata last now kept) where
          made : (s : PlainPool) (now kept : Contents) → HasPool geometry stands old now kept s → (before : Contents) → stands mid d now before → HasContents g now (seen d.cells) s
              → HasMade laws call (trim_alters id sector count fua) Flush 0 (λ c. []) 256 start old same_start works allowed accepted spared no_values metadata last s before
          made s now kept pool before standing has =
              let u = unmapped now before standing in
              let limits = (laws.within old.metadata old.disk now kept pool.standing).limits in
              let same_data = subst (λ (x : Geometry). SameData x (seen d.cells) (seen last.cells)) same (changing now before standing).same_data in
              let lost = subst (λ (x : Geometry). HasLost id (first_covered x sector) (blocks_covered x sector count) now.volumes u.volumes) same u.lost in
              let w = trim_makes g now (seen d.cells) (seen last.cells) s limits has same_data id sector count fua u.volumes u.meta_used (there now kept pool.standing) lost u.untouched in
              record { contents = record now { volumes = u.volumes; meta_used = u.meta_used }; pool = w.0; standing = u.standing; has = w.1; makes = w.2 }

          pub trim_done : fua ≡ false → PoolCalled geometry stands start (record old { disk = last; metadata = metadata }) call Done
          trim_done plain =
              alter_done laws call (trim_alters id sector count fua) Flush 0 (λ c. []) 256 start old same_start works allowed accepted spared no_values mid d same later cause left done_alone
              metadata last (ran.geometry ∙ same) ran.time half (ran.cause.none refl) enough made (ap (λ (b : Bool). b && nat_lt 0 count) plain)

          -- and then kept
          pub trim_then_kept : (end_metadata : M) (end : DiskState) → geometry end_metadata ≡ geometry metadata → IsLater last end
              → ((now kept : Contents) → stands metadata last now kept → now.meta_used + 128 ≤ (geometry metadata).metadata_blocks
              → LeavesOnly last end (IsReclaiming (geometry metadata) now kept last))
              → (result : Result (Unit {0}) Refusal)
              → OnOk result ((now kept : Contents) → stands metadata last now kept → now.meta_used + 128 ≤ (geometry metadata).metadata_blocks
              → IsKept geometry stands marks metadata end_metadata last end now × (room end_metadata + now.meta_used ≡ (geometry metadata).metadata_blocks))
              → IfErr result (λ refusal. refusal ≡ Fault) → FaultHasCause (is_fault result) last end
              → PoolTried geometry stands start (record old { disk = end; metadata = end_metadata }) call result
          trim_then_kept end_metadata end end_same end_later end_left =
              alter_then_kept laws call (trim_alters id sector count fua) Flush 0 (λ c. []) 256 start old same_start works allowed accepted spared no_values mid d same later cause left done_alone
              metadata last (ran.geometry ∙ same) ran.time half (ran.cause.none refl) enough made end_metadata end end_same end_later end_left

      -- ---- how often it flushes

      module _ (mid : M) (d : DiskState) (few : (old.disk.flushes ≤ d.flushes) × (d.flushes ≤ old.disk.flushes + 2))
          (idle : 256 ≤ room old.metadata → (now kept : Contents) → stands old.metadata old.disk now kept → 0 ≤ free_places g now.volumes kept.volumes → (mid ≡ old.metadata) × (d ≡ old.disk)) where
        rests_so : (s : PlainPool) → shows geometry stands old s → (Lacks geometry stands marks room old call → ⊥) → d.flushes ≡ old.disk.flushes
        rests_so s (inl w) enough =
            let free : 256 ≤ room old.metadata = elim (cases_lt (room old.metadata) 256) [ inl lt ↦ absurd (enough (some, lt)) | inr ge ↦ omega (arith, ge) ] in
            ap (λ (x : DiskState). x.flushes) (idle free w.0 w.1 w.2.standing (omega arith)).1
        rests_so s (inr f) enough = absurd (false≢true (sym (ap is_failed works) ∙ ap is_failed f.failed))

        accepts : (s : PlainPool) → shows geometry stands old s → refusal_of s call ≡ None
        accepts = alter_accepts laws call (trim_alters id sector count fua) Flush 0 (λ c. []) 256 start old same_start works allowed accepted spared no_values

        pub trim_before : (new : DiskState) → new.flushes ≡ d.flushes → HasFlushed geometry stands marks room start new call
        trim_before new same =
            subst (λ (h : Held M). HasFlushed geometry stands marks room h new call) same_start
            (counted_before geometry stands marks room old call works more accepts d few rests_so new same)

        pub trim_behind : (last new : DiskState) → fua ≡ true → last.flushes ≡ d.flushes → (last.flushes ≤ new.flushes) × (new.flushes ≤ last.flushes + 2)
            → HasFlushed geometry stands marks room start new call
        trim_behind last new keeps same more_flushes =
            subst (λ (h : Held M). HasFlushed geometry stands marks room h new call) same_start
            (counted_behind geometry stands marks room old call works more accepts d few rests_so last new (λ i. keeps i && more i) same more_flushes)
