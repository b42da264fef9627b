-- A call that changes the metadata and gives sectors values, behind a commit if there was one.
use Rattle.std.proofs.Common.{◌≡◌, ◌⊎◌, inl, inr, ℕ, ◌+◌, ◌≤◌, ◌<◌, Bool, true, false, not, None, Result, Ok, Err, List, refl, sym, ◌∙◌, ap, subst, arith}
use Rattle.std.specs.Prelude.{IfErr, OnOk}
use Rattle.std.proofs.lemmas.Bool.{false≢true}
use Rattle.tp_model.specs.declared.mode.Mode.TheVariants as mode
use Rattle.tp_model.specs.declared.refusal.Refusal.{Refusal}
use Rattle.tp_model.specs.declared.refusal.Refusal.TheVariants.{Damaged, Fault}
use Rattle.tp_model.specs.Geometry.{Geometry}
use Rattle.tp_model.specs.Sectors.{Sector}
use Rattle.tp_model.specs.Pool.{PlainPool}
use Rattle.tp_model.specs.Refusals.{is_fault, is_fault_refusal}
use Rattle.tp_model.specs.Calls.{Answer, Call, Done, IsAllowed, Makes, Refused, Step, is_failed, is_writing, refusal_of, reply}
use Rattle.tp_model.specs.PoolStops.{Event, Given as GivenIn, keeps}
use Rattle.tp_model.specs.Disk.{DiskState, FaultHasCause, seen}
use Rattle.tp_model.specs.DiskStops.{LeavesOnly}
use Rattle.tp_model.proofs.DiskStopLaws.{joins, weakens}
use Rattle.tp_model.proofs.Holds.{Makes-FindsHeld}
use Rattle.tp_model.proofs.Shape.{Step-IsSound}
use Rattle.tp_model.proofs.Steps.{step_accepted}
use Rattle.tp_sharing.specs.Volumes.{Volumes}
use Rattle.tp_mapping.specs.Mapping.{IsWithin}
use Rattle.tp_stored.specs.Contents.{Contents, HasContents}
use Rattle.tp_meta.specs.Metadata.{IsLater}
use Rattle.tp_pool.specs.Held.{Held, HasPool, PoolCalled, PoolRefused, PoolTried, failed_by, shows}
use Rattle.tp_pool.specs.Unkept.{HasReclaimed, IsUnkept}
use Rattle.tp_pool.specs.Writing.{IsAsBefore, IsHalf, IsKept, IsReclaiming, LacksBlocks}
use Rattle.tp_pool.proofs.Calling.{Laws, called_working, met_done, met_fault}
use Rattle.tp_pool.proofs.Ranges.{known_after}
use Rattle.tp_pool.proofs.Keeping.{same_data_shows, not_read_only, shows_kept}
use Rattle.tp_pool.proofs.Phases.{EndStop, WriteStop, first_phase, found_at_end, found_in_write, second_phase, second_phase_kept, third_phase, third_phase_kept}
use Rattle.tp_pool.proofs.Serving.{KeepsOutline, possible}
use Rattle.tp_pool.proofs.Stops.{Given, IsLeft, reopens_made}
use Rattle.tp_pool.proofs.Unkeeping.{IsChanged, unkept_by}
use Rattle.tp_pool.proofs.Times.{then_later as after_later}

-- a call that changes volumes, slots or sectors
pub record IsAlteration (call : Call) : Type 0 where
  pub writes : is_writing call ≡ true
  pub says : (s : PlainPool) → reply s call ≡ Done
  pub keeps_not : keeps call (Refused Fault) ≡ false
  pub outline : KeepsOutline call
  pub mode_is : (s q : PlainPool) → Makes s call q → (q.mode ≡ s.mode) × (q.needs_check ≡ s.needs_check)

module _ {M : Type 0} {geometry : M → Geometry} {stands : M → DiskState → Contents → Contents → Type 0} {marks : M → List Bool} {room : M → ℕ}
    (laws : Laws geometry stands marks room) (call : Call) (is : IsAlteration call) (part : Call) (part_id : ℕ) (slots : Contents → Volumes) (least : ℕ) (start old : Held M) (same_start : old ≡ start) (works : old.mode ≡ mode.Writable)
    (allowed : (s : PlainPool) (now kept : Contents) → HasPool geometry stands old now kept s → IsAllowed s call)
    (accepted : (s : PlainPool) (now kept : Contents) → HasPool geometry stands old now kept s → refusal_of s call ≡ None)
    (spared : (now kept : Contents) → stands old.metadata old.disk now kept → LacksBlocks least (geometry old.metadata) now → ⊥)
    (gives : (s : PlainPool) (now kept : Contents) → HasPool geometry stands old now kept s → (i k : ℕ) (x : Sector) → Given (geometry old.metadata) part part_id (slots now) i k x → GivenIn s call i k x) where
  abbrev g : Geometry
  g = geometry old.metadata

  -- no test refuses it
  pub alter_accepts : (s : PlainPool) → shows geometry stands old s → refusal_of s call ≡ None
  alter_accepts s (inl w) = accepted s w.0 w.1 w.2
  alter_accepts s (inr f) = absurd (false≢true (sym (ap is_failed works) ∙ ap is_failed f.failed))

  module _ (s : PlainPool) (now kept : Contents) (pool : HasPool geometry stands old now kept s) where
    -- what is found where a stop leaves what stood before
    found : (answer : Answer) (made : PlainPool) (d : DiskState) → LeavesOnly old.disk d (WriteStop g part part_id (slots now) now kept old.disk)
        → LeavesOnly old.disk d (IsLeft g old (record { before = s; call = call; answer = answer; made = made }))
    found answer made d left =
        let within = laws.within old.metadata old.disk now kept pool.standing in
        let e : Event = record { before = s; call = call; answer = answer; made = made } in
        weakens {P = WriteStop g part part_id (slots now) now kept old.disk} {Q = IsLeft g old e}
        (found_in_write g part part_id (slots now) within.limits old e (λ i k x h. (accepted s now kept pool, gives s now kept pool i k x h)) now kept within.volumes_now within.volumes_kept
        (laws.left old.metadata old.disk now kept pool.standing) pool.has) left

    step_to : (made : PlainPool) → Makes s call made → Step s call Done made
    step_to made makes = subst (λ (a : Answer). Step s call a made) (is.says s) (step_accepted s call made (accepted s now kept pool) makes)

    -- the pool that it makes
    altered_shown : (metadata : M) (d : DiskState) (contents before : Contents) (made : PlainPool) → geometry metadata ≡ g → 128 ≤ room metadata
        → stands metadata d contents before → HasContents g contents (seen d.cells) made → Makes s call made
        → HasPool geometry stands (record old { disk = d; metadata = metadata }) contents before made
    altered_shown metadata d contents before made same enough standing has makes =
        let modes = is.mode_is s made makes in
        let checks : contents.needs_check ≡ now.needs_check = sym has.needs_check ∙ (modes.1 ∙ pool.has.needs_check) in
        record {
          standing = standing;
          has = subst (λ (x : Geometry). HasContents x contents (seen d.cells) made) (sym same) has;
          mode_is = modes.0 ∙ pool.mode_is;
          holds = (is.outline s made makes).1 ∙ pool.holds;
          spare = let r = (laws.within metadata d contents before standing).room in omega (arith, r, enough);
          works = pool.works;
          check = λ wants. pool.check (sym checks ∙ wants);
          settled = λ read_only. absurd (not_read_only old.mode works read_only);
          sound = Step-IsSound s call Done made (allowed s now kept pool) pool.sound (step_to made makes);
          found = Makes-FindsHeld s call made (accepted s now kept pool) makes pool.found;
          known = known_after g (geometry metadata) old.holders s call made same (accepted s now kept pool) makes (is.outline s made makes).1 pool.found pool.known;
        }

  -- ---- it failed

  alter_broken : (reason : Refusal) (metadata : M) (d : DiskState) → geometry metadata ≡ g → IsLater old.disk d
      → FaultHasCause (is_fault_refusal reason) old.disk d
      → ((s : PlainPool) (now kept : Contents) → HasPool geometry stands old now kept s → LeavesOnly old.disk d (WriteStop g part part_id (slots now) now kept old.disk))
      → (reason ≡ Damaged → (s : PlainPool) (now kept : Contents) → HasPool geometry stands old now kept s → ⊥) → (reason ≡ Fault) ⊎ (reason ≡ Damaged)
      → PoolRefused geometry stands start (failed_by reason (record old { disk = d; metadata = metadata })) call reason
  alter_broken reason metadata d same later cause left never only =
      subst (λ (h : Held M). PoolRefused geometry stands h (failed_by reason (record old { disk = d; metadata = metadata })) call reason) same_start (by only)
    where
      new : Held M
      new = record old { disk = d; metadata = metadata; mode = mode.Failed }

      some_sectors : (s : PlainPool) (now kept : Contents) → HasPool geometry stands old now kept s → 0 < s.geometry.block_sectors
      some_sectors s now kept pool =
          let limits = (laws.within old.metadata old.disk now kept pool.standing).limits in
          let sizes : s.geometry.block_sectors ≡ g.block_sectors = ap (λ (x : Geometry). x.block_sectors) pool.has.geometry in
          omega (arith, limits.block_least, sizes)

      by : (reason ≡ Fault) ⊎ (reason ≡ Damaged)
          → PoolRefused geometry stands old (failed_by reason (record old { disk = d; metadata = metadata })) call reason
      by (inl e) =
          let faults : old.disk.failures < d.failures = cause.more (ap is_fault_refusal e) in
          subst (λ (r : Refusal). PoolRefused geometry stands old (failed_by r (record old { disk = d; metadata = metadata })) call r) (sym e)
          (called_working laws old new call (Refused Fault) (ap is_failed works) later faults (λ s now kept pool.
          let p = possible s call is.outline (some_sectors s now kept pool) in
          met_fault laws old new s p.made call p.meant is.writes is.keeps_not p.step refl same (p.geometry ∙ pool.has.geometry ∙ sym same) (p.holds ∙ pool.holds)
          (found s now kept pool (Refused Fault) p.made d (left s now kept pool))))
      by (inr e) =
          let none_failed : d.failures ≡ old.disk.failures = cause.none (ap (λ (r : Refusal). not (is_fault_refusal r)) e) in
          subst (λ (r : Refusal). PoolRefused geometry stands old (failed_by r (record old { disk = d; metadata = metadata })) call r) (sym e)
          (called_working laws old new call (Refused Damaged) (ap is_failed works) later none_failed
          (λ s now kept pool. absurd (never e s now kept pool)))

  -- the commit before it failed
  pub alter_unreclaimed : (reason : Refusal) (metadata : M) (d : DiskState) → geometry metadata ≡ g → IsLater old.disk d
      → FaultHasCause (is_fault_refusal reason) old.disk d
      → ((now kept : Contents) → stands old.metadata old.disk now kept → (LacksBlocks least g now → ⊥) → LeavesOnly old.disk d (IsReclaiming g now kept old.disk))
      → (reason ≡ Damaged → (now kept : Contents) → stands old.metadata old.disk now kept → (LacksBlocks least g now → ⊥) → ⊥)
      → (reason ≡ Fault) ⊎ (reason ≡ Damaged)
      → PoolRefused geometry stands start (failed_by reason (record old { disk = d; metadata = metadata })) call reason
  alter_unreclaimed reason metadata d same later cause left never only =
      alter_broken reason metadata d same later cause
      (λ s now kept pool. first_phase g part part_id (slots now) now kept old.disk d (left now kept pool.standing (spared now kept pool.standing)))
      (λ e s now kept pool. never e now kept pool.standing (spared now kept pool.standing)) only

  -- ---- the change, behind a commit if there was one

  abbrev IsUnchanged : M → DiskState → Type 0
  IsUnchanged mid d = IsAsBefore geometry stands marks old.metadata mid old.disk d

  abbrev IsCommitted : M → DiskState → Contents → Type 0
  IsCommitted mid d now = IsKept geometry stands marks old.metadata mid old.disk d now

  -- What stands behind the change is what the call makes of s.
  pub record HasMade (metadata : M) (last : DiskState) (s : PlainPool) (before : Contents) : Type 0 where
    pub contents : Contents
    pub pool : PlainPool
    pub standing : stands metadata last contents before
    pub has : HasContents g contents (seen last.cells) pool
    pub makes : Makes s call pool

  -- the same, and a commit behind it leaves that or what a stop left before it
  record HasAltered (metadata : M) (last : DiskState) (s : PlainPool) (now kept : Contents) : Type 0 where
    pub before : Contents
    pub made : HasMade metadata last s before
    pub ends : (end : DiskState) → LeavesOnly last end (IsReclaiming g made.contents before last)
        → LeavesOnly last end (EndStop g part part_id (slots now) now kept old.disk made.contents last)

  module _ (mid : M) (d : DiskState) (same : geometry mid ≡ g) (later : IsLater old.disk d) (cause : FaultHasCause false old.disk d)
      (left : (now kept : Contents) → stands old.metadata old.disk now kept → (LacksBlocks least g now → ⊥) → LeavesOnly old.disk d (IsReclaiming g now kept old.disk))
      (done : (now kept : Contents) → stands old.metadata old.disk now kept → (LacksBlocks least g now → ⊥) → IsUnchanged mid d ⊎ IsCommitted mid d now)
      (metadata : M) (last : DiskState) (same_last : geometry metadata ≡ g) (last_later : IsLater d last)
      (half : (s : PlainPool) (now kept before : Contents) → HasPool geometry stands old now kept s → stands mid d now before → LeavesOnly d last (IsHalf g part part_id (slots now) before d.cells)) where
    stood : (now kept : Contents) → stands old.metadata old.disk now kept → IsUnchanged mid d → stands mid d now kept
    stood now kept standing before =
        subst (λ (m : M). stands m d now kept) (sym before.metadata)
        (subst (λ (x : DiskState). stands old.metadata x now kept) (sym before.disk) standing)

    half_before : (s : PlainPool) (now kept : Contents) → HasPool geometry stands old now kept s → IsUnchanged mid d
        → LeavesOnly old.disk last (IsHalf g part part_id (slots now) kept old.disk.cells)
    half_before s now kept pool before =
        subst (λ (x : DiskState). LeavesOnly x last (IsHalf g part part_id (slots now) kept x.cells)) before.disk (half s now kept kept pool (stood now kept pool.standing before))

    reclaimed : (now kept : Contents) → stands old.metadata old.disk now kept → IsUnchanged mid d ⊎ IsCommitted mid d now
    reclaimed now kept st = done now kept st (spared now kept st)

    left_by : (s : PlainPool) (now kept : Contents) → HasPool geometry stands old now kept s → IsUnchanged mid d ⊎ IsCommitted mid d now
        → LeavesOnly old.disk last (WriteStop g part part_id (slots now) now kept old.disk)
    left_by s now kept pool (inl before) = second_phase g part part_id (slots now) now kept old.disk last (half_before s now kept pool before)
    left_by s now kept pool (inr is_kept) =
        joins (first_phase g part part_id (slots now) now kept old.disk d (left now kept pool.standing (spared now kept pool.standing)))
        (second_phase_kept g part part_id (slots now) now kept old.disk d last is_kept.left (half s now kept now pool is_kept.standing))

    left_altered : (s : PlainPool) (now kept : Contents) → HasPool geometry stands old now kept s → LeavesOnly old.disk last (WriteStop g part part_id (slots now) now kept old.disk)
    left_altered s now kept pool = left_by s now kept pool (reclaimed now kept pool.standing)

    pub stood_or_kept : (now kept : Contents) → stands old.metadata old.disk now kept → (before : Contents) × stands mid d now before
    stood_or_kept now kept st = elim (reclaimed now kept st) [
      | inl before ↦ (kept, stood now kept st before)
      | inr k ↦ (now, k.standing)
    ]

    none_failed : d.failures ≡ old.disk.failures
    none_failed = cause.none refl

    -- it failed
    pub alter_failed : (reason : Refusal) → FaultHasCause (is_fault_refusal reason) d last
        → (reason ≡ Damaged → (s : PlainPool) (now kept : Contents) → HasPool geometry stands old now kept s → ⊥) → (reason ≡ Fault) ⊎ (reason ≡ Damaged)
        → PoolRefused geometry stands start (failed_by reason (record old { disk = last; metadata = metadata })) call reason
    alter_failed reason last_cause never only =
        let failing : FaultHasCause (is_fault_refusal reason) old.disk last = record {
          no_fewer = omega (arith, none_failed, last_cause.no_fewer);
          more = λ f. omega (arith, none_failed, last_cause.more f);
          none = λ f. last_cause.none f ∙ none_failed;
        } in
        alter_broken reason metadata last same_last (after_later later last_later) failing left_altered never only

    -- it was done
    module _ (no_fault : last.failures ≡ d.failures) (enough : 128 ≤ room metadata)
        (made : (s : PlainPool) (now kept : Contents) → HasPool geometry stands old now kept s → (before : Contents) → stands mid d now before
        → HasContents g now (seen d.cells) s → HasMade metadata last s before) where
      over_by : (s : PlainPool) (now kept : Contents) (pool : HasPool geometry stands old now kept s) → IsUnchanged mid d ⊎ IsCommitted mid d now
          → HasAltered metadata last s now kept
      over_by s now kept pool (inl before) =
          let has = subst (λ (x : DiskState). HasContents g now (seen x.cells) s) (sym before.disk) pool.has in
          let m = made s now kept pool kept (stood now kept pool.standing before) has in
          let half_still = half_before s now kept pool before in
          record { before = kept; made = m; ends = λ end left. third_phase g part part_id (slots now) now kept m.contents old.disk last end half_still left }
      over_by s now kept pool (inr is_kept) =
          let has = same_data_shows g now (seen old.disk.cells) (seen d.cells) s is_kept.same_data pool.has in
          let m = made s now kept pool now is_kept.standing has in
          let half_kept = half s now kept now pool is_kept.standing in
          record { before = now; made = m; ends = λ end left. third_phase_kept g part part_id (slots now) now kept m.contents old.disk d last end is_kept.left half_kept left }

      over : (s : PlainPool) (now kept : Contents) (pool : HasPool geometry stands old now kept s) → HasAltered metadata last s now kept
      over s now kept pool = over_by s now kept pool (reclaimed now kept pool.standing)

      shown : (s : PlainPool) (now kept : Contents) (pool : HasPool geometry stands old now kept s)
          → HasPool geometry stands (record old { disk = last; metadata = metadata }) (over s now kept pool).made.contents (over s now kept pool).before (over s now kept pool).made.pool
      shown s now kept pool =
          let w = over s now kept pool in
          altered_shown s now kept pool metadata last w.made.contents w.before w.made.pool same_last enough w.made.standing w.made.has w.made.makes

      -- and not kept
      pub alter_done : keeps call Done ≡ false → PoolCalled geometry stands start (record old { disk = last; metadata = metadata }) call Done
      alter_done keeps_none =
          let new : Held M = record old { disk = last; metadata = metadata } in
          subst (λ (h : Held M). PoolCalled geometry stands h new call Done) same_start
          (called_working laws old new call Done (ap is_failed works) (after_later later last_later) (no_fault ∙ none_failed) (λ s now kept pool.
          let w = over s now kept pool in
          met_done laws old new s w.made.pool call (accepted s now kept pool) (is.says s) w.made.makes
          (inl (w.made.contents, w.before, shown s now kept pool)) (found s now kept pool Done w.made.pool last (left_altered s now kept pool))
          (λ wants. absurd (false≢true (sym keeps_none ∙ wants)))))

      changed_by : (s : PlainPool) (now kept : Contents) → HasPool geometry stands old now kept s
          → IsChanged laws old works call metadata last same_last (after_later later last_later) (no_fault ∙ none_failed) s
      changed_by s now kept pool =
          let w = over s now kept pool in
          record {
            made = w.made.pool;
            accepted = accepted s now kept pool;
            makes = w.made.makes;
            shown = inl (w.made.contents, w.before, shown s now kept pool);
            left = found s now kept pool Done w.made.pool last (left_altered s now kept pool);
          }

      -- and not kept yet
      pub alter_unkept : (changed : M → Bool) → HasReclaimed geometry stands marks room old last call
          → IsUnkept geometry stands marks room changed start (record old { disk = last; metadata = metadata }) call
      alter_unkept changed counted =
          subst (λ (h : Held M). IsUnkept geometry stands marks room changed h (record old { disk = last; metadata = metadata }) call) same_start
          (unkept_by laws old works call metadata last same_last (after_later later last_later) (no_fault ∙ none_failed) changed_by changed counted)

      abbrev IsKeptThen : M → DiskState → Result (Unit {0}) Refusal → Type 0
      IsKeptThen end_metadata end result =
          OnOk result ((now kept : Contents) → stands metadata last now kept → now.meta_used + 128 ≤ (geometry metadata).metadata_blocks
          → IsKept geometry stands marks metadata end_metadata last end now
          × (room end_metadata + now.meta_used ≡ (geometry metadata).metadata_blocks))

      -- and then kept
      module _ (end_metadata : M) (end : DiskState) (end_same : geometry end_metadata ≡ geometry metadata) (end_later : IsLater last end)
          (end_left : (now kept : Contents) → stands metadata last now kept → now.meta_used + 128 ≤ (geometry metadata).metadata_blocks
          → LeavesOnly last end (IsReclaiming (geometry metadata) now kept last)) where
        at_end_found : (s : PlainPool) (now kept : Contents) (pool : HasPool geometry stands old now kept s) (answer : Answer)
            → LeavesOnly old.disk end (IsLeft g old (record { before = s; call = call; answer = answer; made = (over s now kept pool).made.pool }))
        at_end_found s now kept pool answer =
            let w = over s now kept pool in
            let c = w.made.contents in
            let within = laws.within old.metadata old.disk now kept pool.standing in
            let within_then : IsWithin g c.volumes =
            subst (λ (x : Geometry). IsWithin x c.volumes) same_last (laws.within metadata last c w.before w.made.standing).volumes_now in
            let e : Event = record { before = s; call = call; answer = answer; made = w.made.pool } in
            let E : List Sector → Type 0 = EndStop g part part_id (slots now) now kept old.disk c last in
            let ended : LeavesOnly last end (IsReclaiming g c w.before last) =
            subst (λ (x : Geometry). LeavesOnly last end (IsReclaiming x c w.before last)) same_last
            (end_left c w.before w.made.standing (shown s now kept pool).spare) in
            weakens {P = E} {Q = IsLeft g old e}
            (found_at_end g part part_id (slots now) within.limits old e (λ i k x h. (accepted s now kept pool, gives s now kept pool i k x h)) now kept within.volumes_now within.volumes_kept
            (laws.left old.metadata old.disk now kept pool.standing) pool.has c last within_then w.made.has)
            (joins (weakens {P = WriteStop g part part_id (slots now) now kept old.disk} {Q = E} (λ image h. inl h) (left_altered s now kept pool))
            (w.ends end ended))

        all_later : IsLater old.disk end
        all_later = after_later (after_later later last_later) end_later

        none_failed_last : last.failures ≡ old.disk.failures
        none_failed_last = no_fault ∙ none_failed

        by_result : (result : Result (Unit {0}) Refusal) → IsKeptThen end_metadata end result → IfErr result (λ refusal. refusal ≡ Fault)
            → FaultHasCause (is_fault result) last end
            → PoolTried geometry stands old (record old { disk = end; metadata = end_metadata }) call result
        by_result (Ok x) is_kept only end_cause =
            let new : Held M = record old { disk = end; metadata = end_metadata } in
            let behind : Held M = record old { disk = last; metadata = metadata } in
            called_working laws old new call Done (ap is_failed works) all_later (end_cause.none refl ∙ none_failed_last) (λ s now kept pool.
            let w = over s now kept pool in
            let c = w.made.contents in
            let made_pool = w.made.pool in
            let shown_last = shown s now kept pool in
            let k = (is_kept c w.before w.made.standing shown_last.spare).0 in
            let within_then = laws.within metadata last c w.before w.made.standing in
            met_done laws old new s made_pool call (accepted s now kept pool) (is.says s) w.made.makes
            (inl (c, c, shows_kept laws behind end end_metadata c w.before made_pool works shown_last end_same k)) (at_end_found s now kept pool Done)
            (λ wants P found_it.
            let l = k.left found_it.0 found_it.1 in
            reopens_made (geometry metadata) within_then.limits c (seen last.cells) found_it.0 made_pool P within_then.volumes_now shown_last.has
            l.0 l.1 found_it.2))
        by_result (Err reason) is_kept only end_cause =
            let new : Held M = record old { disk = end; metadata = end_metadata; mode = mode.Failed } in
            let faults : last.failures < end.failures = end_cause.more (ap is_fault_refusal only) in
            subst (λ (r : Refusal). PoolRefused geometry stands old (failed_by r (record old { disk = end; metadata = end_metadata })) call r)
            (sym only)
            (called_working laws old new call (Refused Fault) (ap is_failed works) all_later (omega (arith, faults, none_failed_last))
            (λ s now kept pool.
            let w = over s now kept pool in
            let outline = is.outline s w.made.pool w.made.makes in
            met_fault laws old new s w.made.pool call Done is.writes is.keeps_not (step_to s now kept pool w.made.pool w.made.makes) refl (end_same ∙ same_last)
            (outline.0 ∙ (pool.has.geometry ∙ sym (end_same ∙ same_last))) (outline.1 ∙ pool.holds) (at_end_found s now kept pool (Refused Fault))))

        pub alter_then_kept : (result : Result (Unit {0}) Refusal) → IsKeptThen end_metadata end result
            → IfErr result (λ refusal. refusal ≡ Fault) → FaultHasCause (is_fault result) last end
            → PoolTried geometry stands start (record old { disk = end; metadata = end_metadata }) call result
        alter_then_kept result is_kept only end_cause =
            subst (λ (h : Held M). PoolTried geometry stands h (record old { disk = end; metadata = end_metadata }) call result) same_start
            (by_result result is_kept only end_cause)
