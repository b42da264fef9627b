-- A commit of all that was done: FLUSH and closing.
use Rattle.std.proofs.Common.{◌≡◌, inl, inr, ℕ, ◌+◌, ◌≤◌, ◌<◌, Bool, true, false, None, Some, Result, Ok, Err, List, refl, sym, ◌∙◌, ap, subst, arith}
use Rattle.std.specs.Prelude.{OnOk, IfErr, if◌then◌else◌}
use Rattle.std.proofs.lemmas.Bool.{false≢true, true≢false}
use Rattle.tp_model.specs.declared.mode.Mode.{Mode}
use Rattle.tp_model.specs.declared.mode.Mode.TheVariants as mode
use Rattle.tp_model.specs.declared.refusal.Refusal.{Refusal}
use Rattle.tp_model.specs.declared.refusal.Refusal.TheVariants.{Failed, Fault}
use Rattle.tp_model.specs.Geometry.{Geometry, data_sector}
use Rattle.tp_model.specs.Sectors.{Sector}
use Rattle.tp_model.specs.Pool.{PlainPool}
use Rattle.tp_model.specs.Refusals.{is_fault, is_fault_refusal}
use Rattle.tp_model.specs.Calls.{Call, Answer, Close, Done, Flush, Refused, Step, Makes, refusal_of, reply, is_failed, is_read_only, is_writing}
use Rattle.tp_model.specs.PoolStops.{Event, keeps}
use Rattle.tp_model.specs.Disk.{DiskState, FaultHasCause, IsSettled, seen}
use Rattle.tp_model.specs.DiskStops.{LeavesOnly}
use Rattle.tp_model.proofs.DiskStopLaws.{leaves_settled, weakens}
use Rattle.tp_model.proofs.Steps.{step_accepted}
use Rattle.tp_stored.specs.Contents.{Contents, HasContents, HoldsContents, SameData}
use Rattle.tp_meta.specs.Metadata.{IsLater}
use Rattle.tp_pool.specs.Held.{HasPool, Held, IsFlush, KnowsSizes, PoolCalled, PoolRefused, PoolTried, failed_by, shows}
use Rattle.tp_pool.specs.Writing.{IsKept, IsReclaiming}
use Rattle.tp_shown.proofs.Made.{unnamed_may_change}
use Rattle.tp_pool.proofs.Stops.{IsLeft, during_reclaiming, reclaiming_is_pool, reopens_made}
use Rattle.tp_pool.proofs.Calling.{Laws, called_working, met_done, met_fault, pool_left, rests}
use Rattle.tp_pool.proofs.Times.{at_once}

-- what stands in the data blocks is the same, and so is the pool
pub same_data_shows : (g : Geometry) (c : Contents) (image seen : List Sector) (p : PlainPool) → SameData g image seen → HasContents g c image p → HasContents g c seen p
same_data_shows g c image seen p same has = unnamed_may_change g c image seen p has (λ id block place offset at low. same.same (data_sector g place + offset) (omega arith))

-- a commit of one of these calls is accepted in a pool that works, and makes the state that it is in
pub record Flushes (call : Call) : Type 0 where
  pub accepts : (s : PlainPool) → is_failed s.mode ≡ false → refusal_of s call ≡ None
  pub refuses : (s : PlainPool) → is_failed s.mode ≡ true → refusal_of s call ≡ Some Failed
  pub says : (s : PlainPool) → reply s call ≡ Done
  pub makes : (s : PlainPool) → Makes s call s
  pub writes : is_writing call ≡ true
  pub keeps_not : (reason : Refusal) → keeps call (Refused Fault) ≡ false
  pub failed_keeps_not : keeps call (Refused Failed) ≡ false

refusal_if : (b t : Bool) → b ≡ t → (if b then Some Failed else None) ≡ (if t then Some Failed else None)
refusal_if b t e = ap (λ (x : Bool). if x then Some Failed else None) e

flush_flushes : Flushes Flush
flush_flushes = record {
  accepts = λ s e. refusal_if (is_failed s.mode) false e;
  refuses = λ s e. refusal_if (is_failed s.mode) true e;
  says = λ s. refl;
  makes = λ s. refl;
  writes = refl;
  keeps_not = λ reason. refl;
  failed_keeps_not = refl;
}

close_flushes : Flushes Close
close_flushes = record {
  accepts = λ s e. refusal_if (is_failed s.mode) false e;
  refuses = λ s e. refusal_if (is_failed s.mode) true e;
  says = λ s. refl;
  makes = λ s. refl;
  writes = refl;
  keeps_not = λ reason. refl;
  failed_keeps_not = refl;
}

pub flushes_are : (call : Call) → IsFlush call → Flushes call
flushes_are call (inl e) = subst Flushes (sym e) flush_flushes
flushes_are call (inr e) = subst Flushes (sym e) close_flushes

pub not_read_only : (m : Mode) → m ≡ mode.Writable → m ≡ mode.ReadOnly → ⊥
not_read_only m is other = false≢true (sym (ap is_read_only is) ∙ ap is_read_only other)

module _ {M : Type 0} {geometry : M → Geometry} {stands : M → DiskState → Contents → Contents → Type 0} {marks : M → List Bool} {room : M → ℕ} (laws : Laws geometry stands marks room) where
  -- what was kept is shown as before
  pub shows_kept : (old : Held M) (disk : DiskState) (metadata : M) (now kept : Contents) (s : PlainPool) → old.mode ≡ mode.Writable → HasPool geometry stands old now kept s → geometry metadata ≡ geometry old.metadata
      → IsKept geometry stands marks old.metadata metadata old.disk disk now → HasPool geometry stands (record old { disk = disk; metadata = metadata }) now now s
  shows_kept old disk metadata now kept s works pool same is_kept = record {
    standing = is_kept.standing;
    has = subst (λ (g : Geometry). HasContents g now (seen disk.cells) s) (sym same) (same_data_shows (geometry old.metadata) now (seen old.disk.cells) (seen disk.cells) s is_kept.same_data pool.has);
    mode_is = pool.mode_is;
    holds = pool.holds;
    spare = subst (λ (g : Geometry). now.meta_used + 128 ≤ g.metadata_blocks) (sym same) pool.spare;
    works = pool.works;
    check = pool.check;
    settled = λ read_only. absurd (not_read_only old.mode works read_only);
    sound = pool.sound;
    found = pool.found;
    known = subst (λ (g : Geometry). KnowsSizes g old.holders s) (sym same) pool.known;
  }

  module _ (call : Call) (flushes : Flushes call) (old : Held M) (disk : DiskState) (metadata : M) (works : old.mode ≡ mode.Writable) (same : geometry metadata ≡ geometry old.metadata) (later : IsLater old.disk disk)
      (left : (now kept : Contents) → stands old.metadata old.disk now kept → now.meta_used + 128 ≤ (geometry old.metadata).metadata_blocks → LeavesOnly old.disk disk (IsReclaiming (geometry old.metadata) now kept old.disk)) where
    abbrev new : Held M
    new = record old { disk = disk; metadata = metadata }

    working : (s : PlainPool) (now kept : Contents) → HasPool geometry stands old now kept s → is_failed s.mode ≡ false
    working s now kept pool = ap is_failed (pool.mode_is ∙ works)

    left_during : (s : PlainPool) (now kept : Contents) (answer : Answer) (pool : HasPool geometry stands old now kept s)
        → LeavesOnly old.disk disk (IsLeft (geometry old.metadata) old (record { before = s; call = call; answer = answer; made = s }))
    left_during s now kept answer pool =
        let within = laws.within old.metadata old.disk now kept pool.standing in
        let e : Event = record { before = s; call = call; answer = answer; made = s } in
        weakens {P = IsReclaiming (geometry old.metadata) now kept old.disk} {Q = IsLeft (geometry old.metadata) old e}
        (λ image either. (
          reclaiming_is_pool (geometry old.metadata) now kept old.disk image either,
          λ P stands_for.
              during_reclaiming (geometry old.metadata) within.limits old e now kept image P within.volumes_now within.volumes_kept
              (laws.left old.metadata old.disk now kept pool.standing) pool.has either stands_for,
        ))
        (left now kept pool.standing pool.spare)

    pub kept_called : disk.failures ≡ old.disk.failures
        → ((now kept : Contents) → stands old.metadata old.disk now kept → now.meta_used + 128 ≤ (geometry old.metadata).metadata_blocks → IsKept geometry stands marks old.metadata metadata old.disk disk now)
        → PoolCalled geometry stands old new call Done
    kept_called cause is_kept =
        called_working laws old new call Done (ap is_failed works) later cause (λ s now kept pool.
        let within = laws.within old.metadata old.disk now kept pool.standing in
        let k = is_kept now kept pool.standing pool.spare in
        met_done laws old new s s call (flushes.accepts s (working s now kept pool)) (flushes.says s) (flushes.makes s) (inl (now, now, shows_kept old disk metadata now kept s works pool same k))
        (left_during s now kept Done pool)
        (λ yes P found.
        let w = k.left found.0 found.1 in
        reopens_made (geometry old.metadata) within.limits now (seen old.disk.cells) found.0 s P within.volumes_now pool.has w.0 w.1 found.2))

    pub fault_called : old.disk.failures < disk.failures → PoolCalled geometry stands old (record new { mode = mode.Failed }) call (Refused Fault)
    fault_called cause =
        let failed : Held M = record new { mode = mode.Failed } in
        called_working laws old failed call (Refused Fault) (ap is_failed works) later cause (λ s now kept pool.
        met_fault laws old failed s s call Done flushes.writes (flushes.keeps_not Fault)
        (subst (λ (a : Answer). Step s call a s) (flushes.says s) (step_accepted s call s (flushes.accepts s (working s now kept pool)) (flushes.makes s))) refl same
        (pool.has.geometry ∙ sym same) pool.holds (left_during s now kept (Refused Fault) pool))

    pub keep_tried : (result : Result (Unit {0}) Refusal) → FaultHasCause (is_fault result) old.disk disk → IfErr result (λ refusal. refusal ≡ Fault)
        → OnOk result ((now kept : Contents) → stands old.metadata old.disk now kept → now.meta_used + 128 ≤ (geometry old.metadata).metadata_blocks
        → IsKept geometry stands marks old.metadata metadata old.disk disk now × (room metadata + now.meta_used ≡ (geometry old.metadata).metadata_blocks))
        → PoolTried geometry stands old new call result
    keep_tried (Ok x) cause only kept = kept_called (cause.none refl) (λ now k st spare. (kept now k st spare).0)
    keep_tried (Err reason) cause only kept =
        let faults : old.disk.failures < disk.failures = cause.more (ap is_fault_refusal only) in
        subst (λ (r : Refusal). PoolRefused geometry stands old (failed_by r new) call r) (sym only) (fault_called faults)

  -- ---- pools that have nothing to keep

  -- what a pool shows that wants a check is kept already
  pub read_only_called : (call : Call) → Flushes call → (old : Held M) → old.mode ≡ mode.ReadOnly → PoolCalled geometry stands old old call Done
  read_only_called call flushes old read_only =
      called_working laws old old call Done (ap is_failed read_only) (at_once old.disk) refl (λ s now kept pool.
      let within = laws.within old.metadata old.disk now kept pool.standing in
      let settled_is = pool.settled read_only in
      let e : Event = record { before = s; call = call; answer = Done; made = s } in
      met_done laws old old s s call (flushes.accepts s (ap is_failed (pool.mode_is ∙ read_only))) (flushes.says s) (flushes.makes s) (inl (now, kept, pool)) (rests laws old old e refl (pool_left laws old now kept s pool))
      (λ wants P found.
      reopens_made (geometry old.metadata) within.limits now (seen old.disk.cells) found.0 s P within.volumes_now pool.has
      (subst (λ (c : Contents). HoldsContents (geometry old.metadata) c found.0) settled_is.contents (laws.left old.metadata old.disk now kept pool.standing found.0 found.1))
      (leaves_settled (SameData (geometry old.metadata) (seen old.disk.cells)) (seen old.disk.cells) old.disk.cells settled_is.cells (record { same_length = refl; same = λ i le. refl }) found.0 found.1) found.2))

  pub read_only_settled : (old : Held M) → old.mode ≡ mode.ReadOnly → (s : PlainPool) → shows geometry stands old s → IsSettled old.disk.cells
  read_only_settled old read_only s (inl w) = (w.2.settled read_only).cells
  read_only_settled old read_only s (inr f) = absurd (true≢false (sym (ap is_failed f.failed) ∙ ap is_failed read_only))
