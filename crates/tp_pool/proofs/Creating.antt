-- The creation of a volume in a pool that works.
use Rattle.std.proofs.Common.{◌≡◌, ◌⊎◌, inl, inr, ℕ, ◌+◌, ◌^◌, ◌≤◌, ◌<◌, ◌↔◌, Bool, true, false, not, Option, None, Some, is_some, Result, Err, List, [], refl, sym, ◌∙◌, ap, subst, arith}
use Rattle.std.specs.Prelude.{IfSome, IsSome, IsTrue, nat_le}
use Rattle.std.proofs.lemmas.Bool.{cases_lt, false≢true, le-leb, lt-ltb, true≢false}
use Rattle.tp_model.specs.declared.mode.Mode.TheVariants as mode
use Rattle.tp_model.specs.declared.refusal.Refusal.{Refusal}
use Rattle.tp_model.specs.declared.refusal.Refusal.TheVariants.{Damaged, Exists, Failed, Fault, NoMetadataSpace, NoSuchDevice, ReadOnly, TooManyDevices}
use Rattle.tp_model.specs.Geometry.{Geometry, IsWithinLimits}
use Rattle.tp_model.specs.Sectors.{Sector}
use Rattle.tp_model.specs.Pool.{PlainPool, device_count}
use Rattle.tp_model.specs.Refusals.{is_fault_refusal}
use Rattle.tp_model.specs.Calls.{Answer, Call, Done, IsAllowed, Flush, Makes, Refused, exists, has_metadata_room, is_failed, is_flush, is_read_only, is_told_of_failed, is_writing, may_reclaim, refusal_of, reply}
use Rattle.tp_model.specs.PoolStops.{Event, GivenBy, keeps}
use Rattle.tp_model.specs.Disk.{DiskState, FaultHasCause, after_read, seen}
use Rattle.tp_model.specs.DiskStops.{LeavesOnly}
use Rattle.tp_model.proofs.DiskStopLaws.{joins, weakens}
use Rattle.tp_model.proofs.Holds.{Makes-FindsHeld}
use Rattle.tp_model.proofs.Shape.{Step-IsSound}
use Rattle.tp_model.proofs.Steps.{step_accepted}
use Rattle.tp_sharing.specs.Volumes.{device_of, devices_in}
use Rattle.tp_mapping.specs.Mapping.{IsWithin, free_places}
use Rattle.tp_stored.specs.Contents.{Contents, HasContents, IsStill, SameData}
use Rattle.tp_shown.proofs.Made.{create_makes, snapshot_makes}
use Rattle.tp_shown.proofs.Tests.{count_is_listed, exists_is_listed}
use Rattle.tp_meta.specs.Metadata.{IsChanging, IsLater, Ran}
use Rattle.tp_pool.specs.Held.{Held, HasPool, LacksRoom, PoolCalled, PoolRefused, PoolTried, failed_by, shows}
use Rattle.tp_pool.specs.Unkept.{HasReclaimed, IsUnkept}
use Rattle.tp_pool.specs.Messages.{CountsBlocks, RefusesNew, TestedSo, blocks_of_new, create_call, misses_origin, new_tests, with_new, with_volume}
use Rattle.tp_pool.specs.Writing.{IsAsBefore, IsHalf, IsKept, IsReclaiming, LacksMetadata}
use Rattle.tp_pool.proofs.Behind.{Over, unkept_before}
use Rattle.tp_pool.proofs.Calling.{Laws, called_working, met_fault}
use Rattle.tp_pool.proofs.Create.{create_verdict, lacks_origin, no_room_is, three_pass, passes_room, room_is, tests_are, verdict_first}
use Rattle.tp_pool.proofs.Halves.{half_changing}
use Rattle.tp_pool.proofs.Ranges.{known_after}
use Rattle.tp_pool.proofs.Keeping.{not_read_only, same_data_shows}
use Rattle.tp_pool.proofs.Phases.{WriteStop, first_phase, found_in_write, second_phase, second_phase_kept}
use Rattle.tp_pool.proofs.Putting.{writable_is}
use Rattle.tp_pool.proofs.Serving.{KeepsOutline, called_tested, write_refused}
use Rattle.tp_pool.proofs.Stops.{Given, IsLeft, nothing_given}
use Rattle.tp_pool.proofs.Times.{then_later as after_later}

-- ---- what holds of the call, with an origin or without one

-- what each of both is
pub record IsCreation (call : Call) : Type 0 where
  pub writes : is_writing call ≡ true
  pub says : (s : PlainPool) → reply s call ≡ Done
  pub reclaims : may_reclaim call ≡ true
  pub fault : keeps call (Refused Fault) ≡ false
  pub failed : keeps call (Refused Failed) ≡ false
  pub read_only : keeps call (Refused ReadOnly) ≡ false
  pub other : is_flush call ≡ false
  pub untold : is_told_of_failed call ≡ false
  pub missed : keeps call (Refused NoSuchDevice) ≡ false
  pub there : keeps call (Refused Exists) ≡ false
  pub many : keeps call (Refused TooManyDevices) ≡ false
  pub outline : KeepsOutline call

pub is_creation : (id : ℕ) (origin : Option ℕ) → IsCreation (create_call id origin)
is_creation id None = record {
  writes = refl;
  says = λ s. refl;
  reclaims = refl;
  fault = refl;
  failed = refl;
  read_only = refl;
  other = refl;
  untold = refl;
  missed = refl;
  there = refl;
  many = refl;
  outline = λ s q makes. (ap (λ (p : PlainPool). p.geometry) makes.is, ap (λ (p : PlainPool). p.holds) makes.is);
}
is_creation id (Some origin) = record {
  writes = refl;
  says = λ s. refl;
  reclaims = refl;
  fault = refl;
  failed = refl;
  read_only = refl;
  other = refl;
  untold = refl;
  missed = refl;
  there = refl;
  many = refl;
  outline = λ s q makes. (ap (λ (p : PlainPool). p.geometry) makes.is, ap (λ (p : PlainPool). p.holds) makes.is);
}

-- the ids of the volumes that it names are of 24 bits
abbrev pub AreLow : ℕ → Option ℕ → Type 0
AreLow id origin = (id < 2 ^ 24) × IfSome origin (λ other. other < 2 ^ 24)

is_allowed : (s : PlainPool) (id : ℕ) (origin : Option ℕ) → id < 2 ^ 24 → IsAllowed s (create_call id origin)
is_allowed s id None low = lt-ltb id (2 ^ 24) low
is_allowed s id (Some origin) low = lt-ltb id (2 ^ 24) low

-- so many metadata blocks in use are no more than the call may take
abbrev TakesFew : Option ℕ → PlainPool → ℕ → Type 0
TakesFew origin s meta_used = CountsBlocks origin s.held_root → meta_used ≤ s.meta_used + blocks_of_new origin

makes_it : (s : PlainPool) (id : ℕ) (origin : Option ℕ) (meta_used : ℕ) → TakesFew origin s meta_used → Makes s (create_call id origin) (with_volume s id origin meta_used)
makes_it s id None meta_used few = record { is = refl; taken = few tt }
makes_it s id (Some origin) meta_used few = record { is = refl; taken = few }

origin_there : {A : Type 0} (o : Option A) → not (is_some o) ≡ false → IsSome o
origin_there None e = absurd (true≢false e)
origin_there (Some x) e = refl

-- what stands shows the new pool
volume_shown : (g : Geometry) (c : Contents) (image : List Sector) (s : PlainPool) → IsWithinLimits g → IsWithin g c.volumes → HasContents g c image s → (id : ℕ) (origin : Option ℕ) (meta_used : ℕ)
    → device_of id c.volumes ≡ None → misses_origin origin c ≡ false → HasContents g (with_new c id origin meta_used) image (with_volume s id origin meta_used)
volume_shown g c image s limits within has id None meta_used absent there = create_makes g c image s limits within has id meta_used absent
volume_shown g c image s limits within has id (Some origin) meta_used absent there =
    snapshot_makes g c image s limits has id origin meta_used (origin_there (device_of origin c.volumes) there)

-- ---- the tests that read

-- All tests pass.
record IsCreatable (g : Geometry) (id : ℕ) (origin : Option ℕ) (now : Contents) : Type 0 where
  pub there : misses_origin origin now ≡ false
  pub absent : device_of id now.volumes ≡ None
  pub few : devices_in now.volumes < 65536
  pub enough : LacksMetadata g now → ⊥

none_from : {A : Type 0} (o : Option A) → is_some o ≡ false → o ≡ None
none_from None e = refl
none_from (Some x) e = absurd (true≢false e)

fewer : (n : ℕ) → nat_le 65536 n ≡ false → n < 65536
fewer n e = elim (cases_lt n 65536) [ inl lt ↦ lt | inr ge ↦ absurd (true≢false (sym (le-leb 65536 n (omega (arith, ge))) ∙ e)) ]

creatable : (g : Geometry) (id : ℕ) (origin : Option ℕ) (now : Contents) (lacks : Bool) → new_tests id origin now ≡ None
    → IsTrue lacks ↔ LacksMetadata g now → lacks ≡ false → IsCreatable g id origin now
creatable g id origin now lacks passed tested passes =
    let p = three_pass (misses_origin origin now) (is_some (device_of id now.volumes)) (nat_le 65536 (devices_in now.volumes)) passed in
    record {
      there = p.0;
      absent = none_from (device_of id now.volumes) p.1;
      few = fewer (devices_in now.volumes) p.2;
      enough = passes_room g now lacks tested passes;
    }

module _ {M : Type 0} (stands : M → DiskState → Contents → Contents → Type 0) (id : ℕ) (origin : Option ℕ) where
  -- The pool may be written, and the tests of what stands pass. It is as it was at the start of the call.
  pub record IsReady (start old : Held M) : Type 0 where
    pub same : old ≡ start
    pub works : old.mode ≡ mode.Writable
    pub low : AreLow id origin
    pub passed : (now kept : Contents) → stands old.metadata old.disk now kept → new_tests id origin now ≡ None

  pub ready : (start was : Held M) → was ≡ start → is_failed start.mode ≡ false → is_read_only start.mode ≡ false → AreLow id origin
      → ((now kept : Contents) → stands start.metadata start.disk now kept → new_tests id origin now ≡ None) → IsReady start was
  ready start was view works writes low told = record {
    low = low;
    same = view;
    works = ap (λ (h : Held M). h.mode) view ∙ writable_is start.mode works writes;
    passed = subst (λ (h : Held M). (now kept : Contents) → stands h.metadata h.disk now kept → new_tests id origin now ≡ None) (sym view) told;
  }

-- a test that reads refuses it, or the disk failed in one
module _ {M : Type 0} {geometry : M → Geometry} {stands : M → DiskState → Contents → Contents → Type 0} {marks : M → List Bool} {room : M → ℕ}
    (laws : Laws geometry stands marks room) (id : ℕ) (origin : Option ℕ) where
  verdict_is : (h : Held M) → AreLow id origin → is_failed h.mode ≡ false → is_read_only h.mode ≡ false → (s : PlainPool) (now kept : Contents) → HasPool geometry stands h now kept s
      → (short : Bool) → not (has_metadata_room s 512) ≡ short
      → refusal_of s (create_call id origin)
      ≡ create_verdict false false (misses_origin origin now) (is_some (device_of id now.volumes)) (nat_le 65536 (devices_in now.volumes)) short
  verdict_is h low works writes s now kept pool short e =
      let g = geometry h.metadata in
      let image = seen h.disk.cells in
      let within = laws.within h.metadata h.disk now kept pool.standing in
      tests_are s id origin false false (misses_origin origin now) (is_some (device_of id now.volumes)) (nat_le 65536 (devices_in now.volumes)) short
      (ap is_failed pool.mode_is ∙ works) (ap is_read_only pool.mode_is ∙ writes) (missing g now image s pool.has origin low.1)
      (exists_is_listed g now image s id low.0 pool.has) (ap (λ n. nat_le 65536 n) (count_is_listed g now image s within.volumes_now pool.has)) e
    where
      missing : (g : Geometry) (c : Contents) (image : List Sector) (p : PlainPool) → HasContents g c image p → (o : Option ℕ) → IfSome o (λ other. other < 2 ^ 24)
          → lacks_origin p o ≡ misses_origin o c
      missing g c image p has None small = refl
      missing g c image p has (Some other) small = ap not (exists_is_listed g c image p other small has)

  tested : (h : Held M) (reason : Refusal) → AreLow id origin → is_failed h.mode ≡ false → is_read_only h.mode ≡ false
      → ((now kept : Contents) → stands h.metadata h.disk now kept → new_tests id origin now ≡ Some reason)
      → (s : PlainPool) (now kept : Contents) → HasPool geometry stands h now kept s → refusal_of s (create_call id origin) ≡ Some reason
  tested h reason low works writes told s now kept pool =
      let short = not (has_metadata_room s 512) in
      verdict_is h low works writes s now kept pool short refl
      ∙ verdict_first (misses_origin origin now) (is_some (device_of id now.volumes)) (nat_le 65536 (devices_in now.volumes)) short reason (told now kept pool.standing)

  pub create_read_only_called : (h : Held M) → is_failed h.mode ≡ false → is_read_only h.mode ≡ true → PoolCalled geometry stands h h (create_call id origin) (Refused ReadOnly)
  create_read_only_called h works reads =
      called_tested laws h (create_call id origin) ReadOnly works refl (λ s. refl) (is_creation id origin).read_only (λ s now kept pool.
      tests_are s id origin false true (lacks_origin s origin) (exists s id) (nat_le 65536 (device_count s)) (not (has_metadata_room s 512))
      (ap is_failed pool.mode_is ∙ works) (ap is_read_only pool.mode_is ∙ reads) refl refl refl refl)

  pub create_tested : (h : Held M) (x : Refusal) → AreLow id origin → is_failed h.mode ≡ false → is_read_only h.mode ≡ false
      → ((now kept : Contents) → stands h.metadata h.disk now kept → TestedSo (Err x) (new_tests id origin now))
      → (x ≡ Damaged → (now kept : Contents) → stands h.metadata h.disk now kept → ⊥) → RefusesNew origin x
      → PoolRefused geometry stands h (failed_by x (record h { disk = after_read (not (is_fault_refusal x)) h.disk })) (create_call id origin) x
  create_tested h x low works writes told never (inl e) =
      let is = is_creation id origin in write_refused laws h (create_call id origin) x works is.writes is.fault is.outline (inl e) never
  create_tested h x low works writes told never (inr (inl e)) =
      let is = is_creation id origin in write_refused laws h (create_call id origin) x works is.writes is.fault is.outline (inr e) never
  create_tested h x low works writes told never (inr (inr (inl e))) =
      subst (λ (r : Refusal). PoolRefused geometry stands h (failed_by r (record h { disk = after_read (not (is_fault_refusal r)) h.disk })) (create_call id origin) r) (sym e)
      (called_tested laws h (create_call id origin) Exists works refl (λ s. refl) (is_creation id origin).there
      (tested h Exists low works writes (λ now kept st. subst (λ (r : Refusal). TestedSo (Err r) (new_tests id origin now)) e (told now kept st) refl)))
  create_tested h x low works writes told never (inr (inr (inr (inl e)))) =
      subst (λ (r : Refusal). PoolRefused geometry stands h (failed_by r (record h { disk = after_read (not (is_fault_refusal r)) h.disk })) (create_call id origin) r) (sym e)
      (called_tested laws h (create_call id origin) TooManyDevices works refl (λ s. refl) (is_creation id origin).many
      (tested h TooManyDevices low works writes (λ now kept st. subst (λ (r : Refusal). TestedSo (Err r) (new_tests id origin now)) e (told now kept st) refl)))
  create_tested h x low works writes told never (inr (inr (inr (inr e)))) =
      subst (λ (r : Refusal). PoolRefused geometry stands h (failed_by r (record h { disk = after_read (not (is_fault_refusal r)) h.disk })) (create_call id origin) r) (sym e.0)
      (called_tested laws h (create_call id origin) NoSuchDevice works refl (λ s. refl) (is_creation id origin).missed
      (tested h NoSuchDevice low works writes (λ now kept st. subst (λ (r : Refusal). TestedSo (Err r) (new_tests id origin now)) e.0 (told now kept st) refl)))

module _ {M : Type 0} {geometry : M → Geometry} {stands : M → DiskState → Contents → Contents → Type 0} {marks : M → List Bool} {room : M → ℕ}
    (laws : Laws geometry stands marks room) (id : ℕ) (origin : Option ℕ) (start old : Held M) (ready_is : IsReady stands id origin start old) where
  abbrev call : Call
  call = create_call id origin

  is : IsCreation call
  is = is_creation id origin

  abbrev g : Geometry
  g = geometry old.metadata

  works : old.mode ≡ mode.Writable
  works = ready_is.works

  no_values : (e : Event) (i k : ℕ) (x : Sector) → Given g Flush 0 [] i k x → GivenBy e i k x
  no_values e i k x h = absurd (nothing_given g i k x h)

  module _ (s : PlainPool) (now kept : Contents) (pool : HasPool geometry stands old now kept s) where
    passed_now : new_tests id origin now ≡ None
    passed_now = ready_is.passed now kept pool.standing

    refusal_is : (short : Bool) → not (has_metadata_room s 512) ≡ short → refusal_of s call ≡ create_verdict false false false false false short
    refusal_is short e =
        let p = three_pass (misses_origin origin now) (is_some (device_of id now.volumes)) (nat_le 65536 (devices_in now.volumes)) passed_now in
        verdict_is laws id origin old ready_is.low (ap is_failed works) (ap is_read_only works) s now kept pool short e
        ∙ (λ i. create_verdict false false (p.0 i) (p.1 i) (p.2 i) short)

    accepts : IsCreatable g id origin now → refusal_of s call ≡ None
    accepts p = refusal_is false (room_is s g now (seen old.disk.cells) pool.has p.enough)

    refuses_metadata : LacksMetadata g now → refusal_of s call ≡ Some NoMetadataSpace
    refuses_metadata lacks = refusal_is true (no_room_is s g now (seen old.disk.cells) pool.has lacks)

    -- what is found where a stop leaves what stood before
    found : (answer : Answer) (made : PlainPool) (d : DiskState) → LeavesOnly old.disk d (WriteStop g Flush 0 [] now kept old.disk)
        → LeavesOnly old.disk d (IsLeft g old (record { before = s; call = call; answer = answer; made = made }))
    found answer made d left =
        let within = laws.within old.metadata old.disk now kept pool.standing in
        let e : Event = record { before = s; call = call; answer = answer; made = made } in
        weakens {P = WriteStop g Flush 0 [] now kept old.disk} {Q = IsLeft g old e}
        (found_in_write g Flush 0 [] within.limits old e (no_values e) now kept within.volumes_now within.volumes_kept
        (laws.left old.metadata old.disk now kept pool.standing) pool.has) left

    -- the pool with the new volume
    created_shown : (metadata : M) (d : DiskState) (meta_used : ℕ) (before : Contents) → geometry metadata ≡ g → 128 ≤ room metadata
        → stands metadata d (with_new now id origin meta_used) before → HasContents g (with_new now id origin meta_used) (seen d.cells) (with_volume s id origin meta_used) → refusal_of s call ≡ None
        → TakesFew origin s meta_used
        → HasPool geometry stands (record old { disk = d; metadata = metadata }) (with_new now id origin meta_used) before (with_volume s id origin meta_used)
    created_shown metadata d meta_used before same enough standing has accepted few = record {
      standing = standing;
      has = subst (λ (x : Geometry). HasContents x (with_new now id origin meta_used) (seen d.cells) (with_volume s id origin meta_used)) (sym same) has;
      mode_is = pool.mode_is;
      holds = pool.holds;
      spare = let r = (laws.within metadata d (with_new now id origin meta_used) before standing).room in omega (arith, r, enough);
      works = pool.works;
      check = pool.check;
      settled = λ read_only. absurd (not_read_only old.mode works read_only);
      sound = Step-IsSound s call (reply s call) (with_volume s id origin meta_used) (is_allowed s id origin ready_is.low.0) pool.sound
          (step_accepted s call (with_volume s id origin meta_used) accepted (makes_it s id origin meta_used few));
      found = Makes-FindsHeld s call (with_volume s id origin meta_used) accepted (makes_it s id origin meta_used few) pool.found;
      known = known_after g (geometry metadata) old.holders s call (with_volume s id origin meta_used) same accepted (makes_it s id origin meta_used few) refl pool.found pool.known;
    }

  -- ---- the change between two commits

  -- the volume was created in s
  record HasCreated (metadata : M) (last : DiskState) (s : PlainPool) (now kept : Contents) : Type 0 where
    pub meta_used : ℕ
    pub before : Contents
    pub standing : stands metadata last (with_new now id origin meta_used) before
    pub few : TakesFew origin s meta_used
    pub has : HasContents g (with_new now id origin meta_used) (seen last.cells) (with_volume s id origin meta_used)

  -- nothing was committed before the change, or what stood then
  abbrev IsUnchanged : M → DiskState → Type 0
  IsUnchanged mid d = IsAsBefore geometry stands marks old.metadata mid old.disk d

  abbrev IsCommitted : M → DiskState → Contents → Type 0
  IsCommitted mid d now = IsKept geometry stands marks old.metadata mid old.disk d now

  module _ (mid : M) (d : DiskState) (same : geometry mid ≡ g) (last : DiskState)
      (changing : (now kept : Contents) → stands mid d now kept → IsChanging (geometry mid) kept d last) where
    half : (now kept : Contents) → stands mid d now kept → LeavesOnly d last (IsHalf g Flush 0 [] kept d.cells)
    half now kept standing =
        half_changing g Flush 0 [] kept d last
        (subst (λ (x : Geometry). LeavesOnly d last (IsStill x kept d.cells)) same (changing now kept standing).any_moment)

    stood : (now kept : Contents) → stands old.metadata old.disk now kept → IsUnchanged mid d → stands mid d now kept
    stood now kept standing before =
        subst (λ (m : M). stands m d now kept) (sym before.metadata)
        (subst (λ (x : DiskState). stands old.metadata x now kept) (sym before.disk) standing)

    half_before : (now kept : Contents) → stands old.metadata old.disk now kept → IsUnchanged mid d
        → LeavesOnly old.disk last (IsHalf g Flush 0 [] kept old.disk.cells)
    half_before now kept standing before =
        subst (λ (x : DiskState). LeavesOnly x last (IsHalf g Flush 0 [] kept x.cells)) before.disk (half now kept (stood now kept standing before))

    create_left : (now kept : Contents) → stands old.metadata old.disk now kept → LeavesOnly old.disk d (IsReclaiming g now kept old.disk)
        → IsUnchanged mid d ⊎ IsCommitted mid d now → LeavesOnly old.disk last (WriteStop g Flush 0 [] now kept old.disk)
    create_left now kept standing left (inl before) = second_phase g Flush 0 [] now kept old.disk last (half_before now kept standing before)
    create_left now kept standing left (inr is_kept) =
        joins (first_phase g Flush 0 [] now kept old.disk d left)
        (second_phase_kept g Flush 0 [] now kept old.disk d last is_kept.left (half now now is_kept.standing))

    module _ (metadata : M)
        (added : (now kept : Contents) → stands mid d now kept → device_of id now.volumes ≡ None → devices_in now.volumes < 65536
        → misses_origin origin now ≡ false → ((meta_used : ℕ) × stands metadata last (with_new now id origin meta_used) kept) × (marks metadata ≡ marks mid))
        (more : (now kept next before : Contents) → stands mid d now kept → stands metadata last next before → device_of id now.volumes ≡ None → devices_in now.volumes < 65536
        → misses_origin origin now ≡ false → CountsBlocks origin now.held_root → next.meta_used ≤ now.meta_used + blocks_of_new origin) where
      few_new : (s : PlainPool) (now before : Contents) (image : List Sector) (meta_used : ℕ) → HasContents g now image s → stands mid d now before
          → stands metadata last (with_new now id origin meta_used) before → IsCreatable g id origin now → TakesFew origin s meta_used
      few_new s now before image meta_used has standing then passed counts =
          let most = more now before (with_new now id origin meta_used) before standing then passed.absent passed.few passed.there (subst (CountsBlocks origin) has.held_root counts) in
          omega (arith, most, has.meta_used)

      has_new : (s : PlainPool) (now before : Contents) (meta_used : ℕ) → IsWithin g now.volumes → device_of id now.volumes ≡ None → misses_origin origin now ≡ false
          → stands mid d now before → HasContents g now (seen d.cells) s
          → HasContents g (with_new now id origin meta_used) (seen last.cells) (with_volume s id origin meta_used)
      has_new s now before meta_used within absent there standing has =
          let limits = subst IsWithinLimits same (laws.within mid d now before standing).limits in
          let same_data = subst (λ (x : Geometry). SameData x (seen d.cells) (seen last.cells)) same (changing now before standing).same_data in
          same_data_shows g (with_new now id origin meta_used) (seen d.cells) (seen last.cells) (with_volume s id origin meta_used) same_data
          (volume_shown g now (seen d.cells) s limits within has id origin meta_used absent there)

      created : (s : PlainPool) (now kept : Contents) (pool : HasPool geometry stands old now kept s) → IsCreatable g id origin now
          → IsUnchanged mid d ⊎ IsCommitted mid d now → HasCreated metadata last s now kept
      created s now kept pool passed (inl before) =
          let within = laws.within old.metadata old.disk now kept pool.standing in
          let standing = stood now kept pool.standing before in
          let a = added now kept standing passed.absent passed.few passed.there in
          let has = subst (λ (x : DiskState). HasContents g now (seen x.cells) s) (sym before.disk) pool.has in
          record {
            meta_used = a.0.0;
            before = kept;
            standing = a.0.1;
            few = few_new s now kept (seen old.disk.cells) a.0.0 pool.has standing a.0.1 passed;
            has = has_new s now kept a.0.0 within.volumes_now passed.absent passed.there standing has;
          }
      created s now kept pool passed (inr is_kept) =
          let within = laws.within old.metadata old.disk now kept pool.standing in
          let a = added now now is_kept.standing passed.absent passed.few passed.there in
          let has = same_data_shows g now (seen old.disk.cells) (seen d.cells) s is_kept.same_data pool.has in
          record {
            meta_used = a.0.0;
            before = now;
            standing = a.0.1;
            few = few_new s now now (seen old.disk.cells) a.0.0 pool.has is_kept.standing a.0.1 passed;
            has = has_new s now now a.0.0 within.volumes_now passed.absent passed.there is_kept.standing has;
          }

  -- ---- the answers of the call

  module _ (lacks : Bool)
      (told : (d : DiskState) (now kept : Contents) → stands old.metadata d now kept → IsTrue lacks ↔ LacksMetadata g now) where
    pub create_short : lacks ≡ true → LacksRoom geometry stands old call
    create_short short = record {
      writes = is.writes;
      refused = λ s shown. elim shown [
        | inl w ↦ refuses_metadata s w.0 w.1 w.2 ((told old.disk w.0 w.1 w.2.standing).0 short)
        | inr f ↦ absurd (false≢true (sym (ap is_failed works) ∙ ap is_failed f.failed))
      ];
    }

    -- it is refused for want of room
    pub create_refused : (new : Held M) (result : Result (Unit {0}) Refusal) → lacks ≡ true
        → ((any : Call) → LacksRoom geometry stands old any → PoolTried geometry stands old new any result)
        → PoolTried geometry stands start new call result
    create_refused new result short refused =
        subst (λ (h : Held M). PoolTried geometry stands h new call result) ready_is.same (refused call (create_short short))

    module _ (passes : lacks ≡ false) where
      passed : (now kept : Contents) → stands old.metadata old.disk now kept → IsCreatable g id origin now
      passed now kept st =
          creatable g id origin now lacks (ready_is.passed now kept st) (told old.disk now kept st) passes

      accepted : (s : PlainPool) (now kept : Contents) → HasPool geometry stands old now kept s → refusal_of s call ≡ None
      accepted s now kept pool = accepts s now kept pool (passed now kept pool.standing)

      -- no test refuses it
      pub create_accepts : (s : PlainPool) → shows geometry stands old s → refusal_of s call ≡ None
      create_accepts s (inl w) = accepted s w.0 w.1 w.2
      create_accepts s (inr f) = absurd (false≢true (sym (ap is_failed works) ∙ ap is_failed f.failed))

      -- the disk failed, or was none of a pool's
      create_broken : (reason : Refusal) (metadata : M) (d : DiskState) → geometry metadata ≡ g → IsLater old.disk d
          → FaultHasCause (is_fault_refusal reason) old.disk d
          → ((now kept : Contents) → stands old.metadata old.disk now kept → LeavesOnly old.disk d (WriteStop g Flush 0 [] now kept old.disk))
          → (reason ≡ Damaged → (now kept : Contents) → stands old.metadata old.disk now kept → ⊥) → (reason ≡ Fault) ⊎ (reason ≡ Damaged)
          → PoolRefused geometry stands start (failed_by reason (record old { disk = d; metadata = metadata })) call reason
      create_broken reason metadata d same later cause left never only =
          subst (λ (h : Held M). PoolRefused geometry stands h (failed_by reason (record old { disk = d; metadata = metadata })) call reason)
          ready_is.same (by only)
        where
          new : Held M
          new = record old { disk = d; metadata = metadata; mode = mode.Failed }

          by : (reason ≡ Fault) ⊎ (reason ≡ Damaged)
              → PoolRefused geometry stands old (failed_by reason (record old { disk = d; metadata = metadata })) call reason
          by (inl e) =
              let faults : old.disk.failures < d.failures = cause.more (ap is_fault_refusal e) in
              subst (λ (r : Refusal). PoolRefused geometry stands old (failed_by r (record old { disk = d; metadata = metadata })) call r) (sym e)
              (called_working laws old new call (Refused Fault) (ap is_failed works) later faults (λ s now kept pool.
              let made : PlainPool = with_volume s id origin s.meta_used in
              met_fault laws old new s made call (reply s call) is.writes is.fault (step_accepted s call made (accepted s now kept pool) (makes_it s id origin s.meta_used (λ _. omega arith))) refl same
              (pool.has.geometry ∙ sym same) pool.holds (found s now kept pool (Refused Fault) made d (left now kept pool.standing))))
          by (inr e) =
              let none_failed : d.failures ≡ old.disk.failures = cause.none (ap (λ (r : Refusal). not (is_fault_refusal r)) e) in
              subst (λ (r : Refusal). PoolRefused geometry stands old (failed_by r (record old { disk = d; metadata = metadata })) call r) (sym e)
              (called_working laws old new call (Refused Damaged) (ap is_failed works) later none_failed
              (λ s now kept pool. absurd (never e now kept pool.standing)))

      -- the commit before it failed
      pub create_unreclaimed : (reason : Refusal) (metadata : M) (d : DiskState) → geometry metadata ≡ g → IsLater old.disk d
          → FaultHasCause (is_fault_refusal reason) old.disk d
          → ((now kept : Contents) → stands old.metadata old.disk now kept → (LacksMetadata g now → ⊥)
          → LeavesOnly old.disk d (IsReclaiming g now kept old.disk))
          → (reason ≡ Damaged → (now kept : Contents) → stands old.metadata old.disk now kept → (LacksMetadata g now → ⊥) → ⊥)
          → (reason ≡ Fault) ⊎ (reason ≡ Damaged)
          → PoolRefused geometry stands start (failed_by reason (record old { disk = d; metadata = metadata })) call reason
      create_unreclaimed reason metadata d same later cause left never only =
          create_broken reason metadata d same later cause
          (λ now kept st. first_phase g Flush 0 [] now kept old.disk d (left now kept st (passed now kept st).enough))
          (λ e now kept st. never e now kept st (passed now kept st).enough) only

      -- the change, behind a commit if there was one
      module _ (mid : M) (d : DiskState) (same : geometry mid ≡ g) (later : IsLater old.disk d) (cause : FaultHasCause false old.disk d)
          (left : (now kept : Contents) → stands old.metadata old.disk now kept → (LacksMetadata g now → ⊥)
          → LeavesOnly old.disk d (IsReclaiming g now kept old.disk))
          (done : (now kept : Contents) → stands old.metadata old.disk now kept → (LacksMetadata g now → ⊥)
          → (IsUnchanged mid d × (0 ≤ free_places g now.volumes kept.volumes)) ⊎ IsCommitted mid d now)
          (metadata : M) (last : DiskState) (changing : (now kept : Contents) → stands mid d now kept → IsChanging (geometry mid) kept d last) where
        reclaimed : (now kept : Contents) → stands old.metadata old.disk now kept → IsUnchanged mid d ⊎ IsCommitted mid d now
        reclaimed now kept st = elim (done now kept st (passed now kept st).enough) [ inl w ↦ inl w.0 | inr k ↦ inr k ]

        left_created : (now kept : Contents) → stands old.metadata old.disk now kept → LeavesOnly old.disk last (WriteStop g Flush 0 [] now kept old.disk)
        left_created now kept st =
            create_left mid d same last changing now kept st (left now kept st (passed now kept st).enough) (reclaimed now kept st)

        stood_or_kept : (now kept : Contents) → stands old.metadata old.disk now kept → (before : Contents) × stands mid d now before
        stood_or_kept now kept st = elim (reclaimed now kept st) [
          | inl before ↦ (kept, stood mid d same last changing now kept st before)
          | inr k ↦ (now, k.standing)
        ]

        none_failed : d.failures ≡ old.disk.failures
        none_failed = cause.none refl

        -- it failed
        pub create_failed : {r t : ℕ} (reason : Refusal) → Ran 64 (is_fault_refusal reason) r t (geometry mid) (geometry metadata) d last
            → (reason ≡ Damaged → (now kept : Contents) → stands mid d now kept → device_of id now.volumes ≡ None → devices_in now.volumes < 65536 → misses_origin origin now ≡ false → ⊥)
            → (reason ≡ Fault) ⊎ (reason ≡ Damaged)
            → PoolRefused geometry stands start (failed_by reason (record old { disk = last; metadata = metadata })) call reason
        create_failed reason ran never only =
            let failing : FaultHasCause (is_fault_refusal reason) old.disk last = record {
              no_fewer = omega (arith, none_failed, ran.cause.no_fewer);
              more = λ f. omega (arith, none_failed, ran.cause.more f);
              none = λ f. ran.cause.none f ∙ none_failed;
            } in
            create_broken reason metadata last (ran.geometry ∙ same) (after_later later ran.time) failing left_created
            (λ e now kept st. let m = stood_or_kept now kept st in never e now m.0 m.1 (passed now kept st).absent (passed now kept st).few (passed now kept st).there) only

        -- it was done, and is not kept yet
        module _ (ran : Ran 64 false (room mid) (room metadata) (geometry mid) (geometry metadata) d last) (enough : 512 ≤ room mid)
            (added : (now kept : Contents) → stands mid d now kept → device_of id now.volumes ≡ None → devices_in now.volumes < 65536
            → misses_origin origin now ≡ false → ((meta_used : ℕ) × stands metadata last (with_new now id origin meta_used) kept) × (marks metadata ≡ marks mid))
            (more : (now kept next before : Contents) → stands mid d now kept → stands metadata last next before → device_of id now.volumes ≡ None → devices_in now.volumes < 65536
            → misses_origin origin now ≡ false → CountsBlocks origin now.held_root → next.meta_used ≤ now.meta_used + blocks_of_new origin) where
          still_enough : 128 ≤ room metadata
          still_enough = omega (arith, enough, ran.room)

          same_last : geometry metadata ≡ g
          same_last = ran.geometry ∙ same

          abbrev none_failed_last : last.failures ≡ old.disk.failures
          none_failed_last = ran.cause.none refl ∙ none_failed

          abbrev all_later : IsLater old.disk last
          all_later = after_later later ran.time

          over : (s : PlainPool) (now kept : Contents) → HasPool geometry stands old now kept s
              → Over laws old works call metadata last same_last all_later none_failed_last s now kept
          over s now kept pool =
              let w = created mid d same last changing metadata added more s now kept pool (passed now kept pool.standing) (reclaimed now kept pool.standing) in
              let passes_all = accepted s now kept pool in
              record {
                then = with_new now id origin w.meta_used;
                before = w.before;
                made = with_volume s id origin w.meta_used;
                accepted = passes_all;
                makes = makes_it s id origin w.meta_used w.few;
                shown = created_shown s now kept pool metadata last w.meta_used w.before same_last still_enough w.standing w.has passes_all w.few;
                left = left_created now kept pool.standing;
              }

          pub create_unkept : (changed : M → Bool) → HasReclaimed geometry stands marks room old last call
              → IsUnkept geometry stands marks room changed start (record old { disk = last; metadata = metadata }) call
          create_unkept changed counted =
              subst (λ (h : Held M). IsUnkept geometry stands marks room changed h (record old { disk = last; metadata = metadata }) call) ready_is.same
              (unkept_before laws old works call metadata last same_last all_later none_failed_last over changed counted)
