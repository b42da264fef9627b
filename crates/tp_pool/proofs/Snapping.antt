-- A message that changes the metadata, with no commit before it, and leaves no more metadata blocks in use.
use Rattle.std.proofs.Common.{◌≡◌, ◌⊎◌, inl, inr, ℕ, ◌≤◌, ◌<◌, Bool, true, false, not, None, Result, Ok, Err, List, ◌∷◌, [], refl, sym, ◌∙◌, ap, subst, arith}
use Rattle.std.specs.Prelude.{IfErr}
use Rattle.std.proofs.lemmas.Bool.{false≢true}
use Rattle.tp_model.specs.declared.mode.Mode.{Mode}
use Rattle.tp_model.specs.declared.mode.Mode.TheVariants as mode
use Rattle.tp_model.specs.declared.refusal.Refusal.{Refusal}
use Rattle.tp_model.specs.declared.refusal.Refusal.TheVariants.{Damaged, Fault, NoMetadataSpace, ReadOnly}
use Rattle.tp_model.specs.Geometry.{Geometry}
use Rattle.tp_model.specs.Sectors.{Sector}
use Rattle.tp_model.specs.Pool.{PlainPool}
use Rattle.tp_model.specs.Refusals.{is_fault_refusal}
use Rattle.tp_model.specs.Calls.{Answer, Call, Done, Flush, IsAllowed, IsOneOf, Makes, MayAnswer, Refused, Step, ends_in_commit, is_failed, is_in_memory, is_read_only, is_writing, refusal_of, refusals_in_read_only, refusals_in_writable, refused_commits, reply}
use Rattle.tp_model.specs.PoolStops.{Event, GivenBy, keeps}
use Rattle.tp_model.specs.Disk.{DiskState, FaultHasCause, seen}
use Rattle.tp_model.specs.DiskStops.{LeavesOnly}
use Rattle.tp_model.proofs.DiskStopLaws.{weakens}
use Rattle.tp_model.proofs.Holds.{Makes-FindsHeld}
use Rattle.tp_model.proofs.Shape.{Step-IsSound}
use Rattle.tp_model.proofs.Steps.{step_accepted}
use Rattle.tp_stored.specs.Contents.{Contents, HasContents}
use Rattle.tp_meta.specs.Metadata.{IsChanging, IsLater}
use Rattle.tp_pool.specs.Held.{EndsShort, Held, HasPool, IsTried, PoolRefused, failed_by}
use Rattle.tp_pool.specs.Unkept.{IsUnkept}
use Rattle.tp_pool.specs.Writing.{IsHalf}
use Rattle.tp_pool.proofs.Answering.{tried_short, tried_writable}
use Rattle.tp_pool.proofs.Behind.{Over, unkept_before}
use Rattle.tp_pool.proofs.Calling.{Laws, called_working, met_fault}
use Rattle.tp_pool.proofs.Flushing.{reclaimed_nothing}
use Rattle.tp_pool.proofs.Halves.{half_changing}
use Rattle.tp_pool.proofs.Keeping.{not_read_only}
use Rattle.tp_pool.proofs.Phases.{WriteStop, found_in_write, second_phase}
use Rattle.tp_pool.proofs.Ranges.{known_after}
use Rattle.tp_pool.proofs.Serving.{block_some, possible}
use Rattle.tp_pool.proofs.Stops.{Given, IsLeft, nothing_given}

-- what such a message is
pub record IsSnapping (call : Call) : Type 0 where
  pub writes : is_writing call ≡ true
  pub says : (s : PlainPool) → reply s call ≡ Done
  pub keeps_not : keeps call (Refused Fault) ≡ false
  pub ends : ends_in_commit call ≡ true
  pub asks : is_in_memory call ≡ false
  pub outline : (s q : PlainPool) → Makes s call q → (q.geometry ≡ s.geometry) × (q.holds ≡ s.holds) × (q.mode ≡ s.mode)
  pub allowed : (s : PlainPool) → IsAllowed s call
  pub failure : (reason : Refusal) → (reason ≡ Fault) ⊎ (reason ≡ Damaged) → IsOneOf reason (refusals_in_writable call)
  pub only_read : refusals_in_read_only call ≡ ReadOnly ∷ []

-- ---- what is known of it

module _ {M : Type 0} (call : Call) (is : IsSnapping call) where
  pub snap_read_only : (h : Held M) → is_read_only h.mode ≡ true → IsTried h h call (Err ReadOnly)
  snap_read_only h reads = record { may = may h.mode reads; mode_is = refl; silent = λ yes. refl }
    where
      may : (m : Mode) → is_read_only m ≡ true → MayAnswer m call (Refused ReadOnly)
      may mode.Writable e = absurd (false≢true e)
      may mode.ReadOnly e = subst (IsOneOf ReadOnly) (sym is.only_read) (inl refl)
      may mode.Failed e = absurd (false≢true e)

  module _ (old new : Held M) (works : old.mode ≡ mode.Writable) where
    pub snap_refused : (reason : Refusal) → new.mode ≡ old.mode → IsOneOf reason (refusals_in_writable call) → refused_commits reason ≡ false → IsTried old new call (Err reason)
    snap_refused reason same one keeps_none = tried_writable old new call (Err reason) old.mode refl works same is.asks (one, keeps_none)

    no_commit : (reason : Refusal) → (reason ≡ Fault) ⊎ (reason ≡ Damaged) → refused_commits reason ≡ false
    no_commit reason (inl e) = ap refused_commits e
    no_commit reason (inr e) = ap refused_commits e

    pub snap_fails : (reason : Refusal) → new.mode ≡ old.mode → (reason ≡ Fault) ⊎ (reason ≡ Damaged) → IsTried old new call (Err reason)
    snap_fails reason same only = snap_refused reason same (is.failure reason only) (no_commit reason only)

    pub snap_kept : (result : Result (Unit {0}) Refusal) → new.mode ≡ old.mode → IfErr result (λ reason. reason ≡ Fault) → IsTried old new call result
    snap_kept (Ok x) same only = tried_writable old new call (Ok x) old.mode refl works same is.asks tt
    snap_kept (Err reason) same only = snap_fails reason same (inl only)

    pub snap_short : IsOneOf NoMetadataSpace (refusals_in_writable call) → (result : Result (Unit {0}) Refusal) → EndsShort old new result → IsTried old new call result
    snap_short one (Ok x) ends = absurd ends
    snap_short one (Err reason) (inl e) = snap_fails reason e.1 (inl e.0)
    snap_short one (Err reason) (inr e) = subst (λ (r : Refusal). IsTried old new call (Err r)) (sym e.0) (tried_short old new call works e.1 is.asks one)

-- ---- the change

module _ {M : Type 0} {geometry : M → Geometry} {stands : M → DiskState → Contents → Contents → Type 0} {marks : M → List Bool} {room : M → ℕ}
    (laws : Laws geometry stands marks room) (call : Call) (is : IsSnapping call) (old : Held M) (works : old.mode ≡ mode.Writable) where
  abbrev g : Geometry
  g = geometry old.metadata

  no_values : (e : Event) (i k : ℕ) (x : Sector) → Given g Flush 0 [] i k x → GivenBy e i k x
  no_values e i k x h = absurd (nothing_given g i k x h)

  module _ (metadata : M) (last : DiskState) (same : geometry metadata ≡ g) (later : IsLater old.disk last)
      (changing : (now kept : Contents) → stands old.metadata old.disk now kept → IsChanging g kept old.disk last) where
    half : (now kept : Contents) → stands old.metadata old.disk now kept → LeavesOnly old.disk last (IsHalf g Flush 0 [] kept old.disk.cells)
    half now kept st = half_changing g Flush 0 [] kept old.disk last (changing now kept st).any_moment

    left : (now kept : Contents) → stands old.metadata old.disk now kept → LeavesOnly old.disk last (WriteStop g Flush 0 [] now kept old.disk)
    left now kept st = second_phase g Flush 0 [] now kept old.disk last (half now kept st)

    found : (s : PlainPool) (now kept : Contents) → HasPool geometry stands old now kept s → (answer : Answer) (made : PlainPool)
        → LeavesOnly old.disk last (IsLeft g old (record { before = s; call = call; answer = answer; made = made }))
    found s now kept pool answer made =
        let within = laws.within old.metadata old.disk now kept pool.standing in
        let e : Event = record { before = s; call = call; answer = answer; made = made } in
        weakens {P = WriteStop g Flush 0 [] now kept old.disk} {Q = IsLeft g old e}
        (found_in_write g Flush 0 [] within.limits old e (no_values e) now kept within.volumes_now within.volumes_kept
        (laws.left old.metadata old.disk now kept pool.standing) pool.has) (left now kept pool.standing)

    -- it failed
    pub snap_broken : (reason : Refusal) → FaultHasCause (is_fault_refusal reason) old.disk last
        → (reason ≡ Damaged → (s : PlainPool) (now kept : Contents) → HasPool geometry stands old now kept s → ⊥) → (reason ≡ Fault) ⊎ (reason ≡ Damaged)
        → PoolRefused geometry stands old (failed_by reason (record old { disk = last; metadata = metadata })) call reason
    snap_broken reason cause never (inl e) =
        let new : Held M = record old { disk = last; metadata = metadata; mode = mode.Failed } in
        let faults : old.disk.failures < last.failures = cause.more (ap is_fault_refusal e) in
        subst (λ (r : Refusal). PoolRefused geometry stands old (failed_by r (record old { disk = last; metadata = metadata })) call r) (sym e)
        (called_working laws old new call (Refused Fault) (ap is_failed works) later faults (λ s now kept pool.
        let p = possible s call (λ a b makes. let o = is.outline a b makes in (o.0, o.1)) (block_some laws old now kept s pool) in
        met_fault laws old new s p.made call p.meant is.writes is.keeps_not p.step refl same (p.geometry ∙ pool.has.geometry ∙ sym same) (p.holds ∙ pool.holds)
        (found s now kept pool (Refused Fault) p.made)))
    snap_broken reason cause never (inr e) =
        let new : Held M = record old { disk = last; metadata = metadata; mode = mode.Failed } in
        let none_failed : last.failures ≡ old.disk.failures = cause.none (ap (λ (r : Refusal). not (is_fault_refusal r)) e) in
        subst (λ (r : Refusal). PoolRefused geometry stands old (failed_by r (record old { disk = last; metadata = metadata })) call r) (sym e)
        (called_working laws old new call (Refused Damaged) (ap is_failed works) later none_failed (λ s now kept pool. absurd (never e s now kept pool)))

    -- what it makes of a pool, where it was done
    pub record HasSnapped (s : PlainPool) (now kept : Contents) : Type 0 where
      pub then : Contents
      pub made : PlainPool
      pub few : then.meta_used ≤ now.meta_used
      pub checks : then.needs_check ≡ now.needs_check
      pub standing : stands metadata last then kept
      pub has : HasContents g then (seen last.cells) made
      pub makes : Makes s call made

    module _ (cause : FaultHasCause false old.disk last) (accepted : (s : PlainPool) (now kept : Contents) → HasPool geometry stands old now kept s → refusal_of s call ≡ None)
        (snapped : (s : PlainPool) (now kept : Contents) → HasPool geometry stands old now kept s → HasSnapped s now kept) where
      none_failed : last.failures ≡ old.disk.failures
      none_failed = cause.none refl

      over : (s : PlainPool) (now kept : Contents) → HasPool geometry stands old now kept s
          → Over laws old works call metadata last same later none_failed s now kept
      over s now kept pool =
          let w = snapped s now kept pool in
          let passes = accepted s now kept pool in
          let outline = is.outline s w.made w.makes in
          let blocks : (geometry metadata).metadata_blocks ≡ g.metadata_blocks = ap (λ (x : Geometry). x.metadata_blocks) same in
          let step : Step s call Done w.made = subst (λ (a : Answer). Step s call a w.made) (is.says s) (step_accepted s call w.made passes w.makes) in
          record {
            then = w.then;
            before = kept;
            made = w.made;
            accepted = passes;
            makes = w.makes;
            shown = record {
              standing = w.standing;
              has = subst (λ (x : Geometry). HasContents x w.then (seen last.cells) w.made) (sym same) w.has;
              mode_is = outline.2 ∙ pool.mode_is;
              holds = outline.1 ∙ pool.holds;
              spare = omega (arith, w.few, pool.spare, blocks);
              works = pool.works;
              check = λ wants. pool.check (sym w.checks ∙ wants);
              settled = λ read_only. absurd (not_read_only old.mode works read_only);
              sound = Step-IsSound s call Done w.made (is.allowed s) pool.sound step;
              found = Makes-FindsHeld s call w.made passes w.makes pool.found;
              known = known_after g (geometry metadata) old.holders s call w.made same passes w.makes outline.1 pool.found pool.known;
            };
            left = left now kept pool.standing;
          }

      -- it is not kept yet, and nothing was flushed
      pub snap_unkept : (changed : M → Bool) → last.flushes ≡ old.disk.flushes → IsUnkept geometry stands marks room changed old (record old { disk = last; metadata = metadata }) call
      snap_unkept changed no_flush =
          unkept_before laws old works call metadata last same later none_failed over changed (reclaimed_nothing geometry stands marks room old last call no_flush)
