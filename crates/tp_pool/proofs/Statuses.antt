-- The status lines: what is told of a pool is its line.
use Rattle.std.proofs.Common.{◌≡◌, inl, inr, ℕ, ◌^◌, ◌<◌, ◌&&◌, Bool, true, false, not, Option, None, Some, is_some, List, [], ◌∷◌, length, refl, sym, ◌∙◌, ap, subst, arith}
use Rattle.std.specs.Prelude.{codes}
use Rattle.std.specs.Option.{option_map}
use Rattle.std.proofs.lemmas.Bool.{false≢true}
use Rattle.std.proofs.lemmas.Option.{none-some, same_Some}
use Rattle.tp_model.specs.declared.mode.Mode.{Mode}
use Rattle.tp_model.specs.declared.mode.Mode.TheVariants as mode
use Rattle.tp_model.specs.declared.refusal.Refusal.{Refusal}
use Rattle.tp_model.specs.declared.refusal.Refusal.TheVariants.{Damaged, NoSuchDevice}
use Rattle.tp_model.specs.Geometry.{Geometry}
use Rattle.tp_model.specs.Pool.{PlainPool, used}
use Rattle.tp_model.specs.Refusals.{is_fault_refusal}
use Rattle.tp_model.specs.Calls.{Call, Line, MayAnswer, Refused, Status, ThinStatus, exists, first_failed, is_failed, may_accept, refusal_of}
use Rattle.tp_model.specs.Clauses.{Flushes, IsAnswered}
use Rattle.tp_model.specs.Status.{pool_line, unless_failed, volume_line}
use Rattle.tp_model.specs.DiskStops.{moment}
use Rattle.tp_model.specs.Disk.{DiskState, after_read, seen}
use Rattle.tp_sharing.specs.Volumes as listed
use Rattle.tp_sharing.specs.Volumes.{BlockSlot, device_of, mapped_of}
use Rattle.tp_mapping.specs.Mapping.{IsHighest, slots_or_none}
use Rattle.tp_stored.specs.Contents.{Contents}
use Rattle.tp_shown.proofs.Ordered.{highest_is_last, mapped_is_length}
use Rattle.tp_shown.proofs.Tests.{exists_is_listed, used_fits, used_is_listed}
use Rattle.tp_msg.specs.Told.{TellsPool, TellsVolume, status_line, thin_line}
use Rattle.tp_msg.specs.declared.status.PoolStatus.{PoolStatus}
use Rattle.tp_msg.specs.declared.status.VolumeStatus.{VolumeStatus}
use Rattle.tp_pool.specs.Held.{Held, PoolCalled, PoolRefused, shows, view}
use Rattle.tp_pool.specs.Flushes.{served}
use Rattle.tp_pool.specs.Telling.{TellsLine, TellsVolumeLine}
use Rattle.tp_pool.proofs.Answering.{IsLookUp, Missed, missed, missed_commits, quiet}
use Rattle.tp_pool.proofs.Calling.{Laws, Met, called, met_answered}
use Rattle.tp_pool.proofs.Flushing.{flushed_read}
use Rattle.tp_pool.proofs.Serving.{none_there, read_refused}
use Rattle.tp_pool.proofs.Times.{at_once}

-- ---- lines

fails_line : (m : Mode) (line : List ℕ) → m ≡ mode.Failed → unless_failed m line ≡ codes "Fail"
fails_line mode.Writable line e = absurd (false≢true (ap is_failed e))
fails_line mode.ReadOnly line e = absurd (false≢true (ap is_failed e))
fails_line mode.Failed line e = refl

pub line_told : (told : PoolStatus) (s : PlainPool) (line : List ℕ) → TellsLine told s → line ≡ status_line told → ((p : PlainPool) → TellsPool told p → line ≡ pool_line p)
    → line ≡ pool_line s
line_told told s line (inl f) is of_pool = is ∙ (fails_line told.mode _ f.0 ∙ sym (fails_line s.mode _ f.1))
line_told told s line (inr tells) is of_pool = of_pool s tells

pub volume_line_told : (told : VolumeStatus) (s : PlainPool) (id : ℕ) (line : List ℕ) → TellsVolumeLine told s id → line ≡ thin_line told
    → ((p : PlainPool) (i : ℕ) → TellsVolume told p i → line ≡ volume_line p i) → line ≡ volume_line s id
volume_line_told told s id line (inl f) is of_volume = is ∙ (fails_line told.mode _ f.0 ∙ sym (fails_line s.mode _ f.1))
volume_line_told told s id line (inr tells) is of_volume = of_volume s id tells

-- ---- tests of a volume's line

thin_tests : (s : PlainPool) (id : ℕ) (failed there : Bool) → is_failed s.mode ≡ failed → exists s id ≡ there
    → refusal_of s (ThinStatus id) ≡ first_failed ((not failed && not there, NoSuchDevice) ∷ [])
thin_tests s id failed there a b = (λ i. first_failed ((not (a i) && not (b i), NoSuchDevice) ∷ []))

mapped_here : (m : ℕ) (o : Option (List BlockSlot)) → Some m ≡ option_map length o → (m ≡ length (slots_or_none o)) × (is_some o ≡ true)
mapped_here m None e = absurd (none-some m (sym e))
mapped_here m (Some xs) e = (same_Some m (length xs) e, refl)

thin_looks_up : (id : ℕ) → IsLookUp (ThinStatus id)
thin_looks_up id = record { writable = refl; read_only = refl; accepted = refl; writes_not = refl; looks = refl; asks = refl }

module _ {M : Type 0} {geometry : M → Geometry} {stands : M → DiskState → Contents → Contents → Type 0} {marks : M → List Bool} {room : M → ℕ} (laws : Laws geometry stands marks room) where
  -- ---- the pool's line

  -- what is told of what stands
  pub record IsOf (h : Held M) (told : PoolStatus) (now : Contents) : Type 0 where
    pub transaction_id : told.transaction_id ≡ now.transaction_id
    pub used_metadata : told.used_metadata ≡ now.meta_used
    pub used_data : listed.used now.volumes < 4294967296 → told.used_data ≡ listed.used now.volumes
    pub needs_check : told.needs_check ≡ now.needs_check
    pub held_root : told.held_root ≡ now.held_root

  pub pool_told : (h : Held M) (told : PoolStatus) → told.mode ≡ h.mode → told.metadata_blocks ≡ (geometry h.metadata).metadata_blocks
      → told.data_blocks ≡ (geometry h.metadata).data_blocks → ((now kept : Contents) → stands h.metadata h.disk now kept → IsOf h told now)
      → (s : PlainPool) → shows geometry stands h s → TellsLine told s
  pool_told h told same metadata_blocks data_blocks of_now s (inl w) =
      let pool = w.2 in
      let g = geometry h.metadata in
      let is = of_now w.0 w.1 pool.standing in
      let within = laws.within h.metadata h.disk w.0 w.1 pool.standing in
      let counted : used s ≡ listed.used w.0.volumes = used_is_listed g w.0 (seen h.disk.cells) s within.volumes_now pool.has in
      let fits = used_fits g w.0 (seen h.disk.cells) s within.volumes_now pool.has in
      let blocks : s.geometry.data_blocks ≡ g.data_blocks = ap (λ (x : Geometry). x.data_blocks) pool.has.geometry in
      inr (record {
        transaction_id = pool.has.transaction_id ∙ sym is.transaction_id;
        used_metadata = pool.has.meta_used ∙ sym is.used_metadata;
        metadata_blocks = ap (λ (x : Geometry). x.metadata_blocks) pool.has.geometry ∙ sym metadata_blocks;
        used_data = counted ∙ sym (is.used_data (omega (arith, counted, fits, blocks, within.limits.data_most)));
        data_blocks = blocks ∙ sym data_blocks;
        mode = pool.mode_is ∙ sym same;
        needs_check = pool.has.needs_check ∙ sym is.needs_check;
        held_root = pool.has.held_root ∙ sym is.held_root;
      })
  pool_told h told same metadata_blocks data_blocks of_now s (inr f) = inl (same ∙ f.failed, f.mode_is)

  pub status_called : (h : Held M) (line : List ℕ) → ((s : PlainPool) → shows geometry stands h s → line ≡ pool_line s) → PoolCalled geometry stands h h Status (Line line)
  status_called h line is =
      called laws h h Status (Line line) (at_once h.disk) refl (λ s shown.
      subst (λ (l : List ℕ). Met laws h h s Status (Line l)) (sym (is s shown)) (met_answered laws h h s s Status shown refl refl shown refl refl))

  -- ---- a volume's line

  pub volume_failed : (h : Held M) (told : VolumeStatus) (id : ℕ) → told.mode ≡ h.mode → is_failed h.mode ≡ true
      → (s : PlainPool) → shows geometry stands h s → (refusal_of s (ThinStatus id) ≡ None) × TellsVolumeLine told s id
  volume_failed h told id same failed s (inl w) = absurd (false≢true (sym w.2.works ∙ failed))
  volume_failed h told id same failed s (inr f) = (thin_tests s id true (exists s id) (ap is_failed f.mode_is) refl, inl (same ∙ f.failed, f.mode_is))

  pub volume_told : (h : Held M) (told : VolumeStatus) (id : ℕ) → id < 2 ^ 24 → told.mode ≡ h.mode → told.block_sectors ≡ (geometry h.metadata).block_sectors
      → ((now kept : Contents) → stands h.metadata h.disk now kept → Some told.mapped_blocks ≡ mapped_of id now.volumes)
      → ((now kept : Contents) → stands h.metadata h.disk now kept → IsHighest id now.volumes told.highest_block) → is_failed h.mode ≡ false
      → (s : PlainPool) → shows geometry stands h s → (refusal_of s (ThinStatus id) ≡ None) × TellsVolumeLine told s id
  volume_told h told id low same block_sectors mapped highest works s (inl w) =
      let pool = w.2 in
      let g = geometry h.metadata in
      let image = seen h.disk.cells in
      let within = laws.within h.metadata h.disk w.0 w.1 pool.standing in
      let here = mapped_here told.mapped_blocks (device_of id w.0.volumes) (mapped w.0 w.1 pool.standing) in (
        thin_tests s id false true (ap is_failed pool.mode_is ∙ works) (exists_is_listed g w.0 image s id low pool.has ∙ here.1),
        inr (record {
          mode = pool.mode_is ∙ sym same;
          block_sectors = ap (λ (x : Geometry). x.block_sectors) pool.has.geometry ∙ sym block_sectors;
          mapped_blocks = mapped_is_length g w.0 image s id within.volumes_now pool.has ∙ sym here.0;
          highest_block = highest_is_last g w.0 image s id told.highest_block within.volumes_now pool.has (highest w.0 w.1 pool.standing);
        }),
      )
  volume_told h told id low same block_sectors mapped highest works s (inr f) = absurd (false≢true (sym works ∙ ap is_failed f.failed))

  pub thin_called : (h : Held M) (id : ℕ) (line : List ℕ) → ((s : PlainPool) → shows geometry stands h s → (refusal_of s (ThinStatus id) ≡ None) × (line ≡ volume_line s id))
      → PoolCalled geometry stands h (record h { disk = after_read true h.disk }) (ThinStatus id) (Line line)
  thin_called h id line is =
      called laws h h (ThinStatus id) (Line line) (at_once h.disk) refl (λ s shown.
      subst (λ (l : List ℕ). Met laws h h s (ThinStatus id) (Line l)) (sym (is s shown).1) (met_answered laws h h s s (ThinStatus id) shown (is s shown).0 refl shown refl refl))

  pub thin_refused : (h : Held M) (id : ℕ) (reason : Refusal) → id < 2 ^ 24 → is_failed h.mode ≡ false → Missed reason
      → (reason ≡ NoSuchDevice → (now kept : Contents) → stands h.metadata h.disk now kept → false ≡ is_some (device_of id now.volumes))
      → (reason ≡ Damaged → (now kept : Contents) → stands h.metadata h.disk now kept → ⊥)
      → PoolRefused geometry stands h (record h { disk = after_read (not (is_fault_refusal reason)) h.disk }) (ThinStatus id) reason
  thin_refused h id reason low works (inl e) none never =
      subst (λ (r : Refusal). PoolRefused geometry stands h (record h { disk = after_read (not (is_fault_refusal r)) h.disk }) (ThinStatus id) r) (sym e)
      (none_there laws h (ThinStatus id) id low works refl (none e) (λ s run absent. thin_tests s id false false run absent))
  thin_refused h id reason low works (inr (inl e)) none never = read_refused laws h (ThinStatus id) reason works refl refl (inl e) never
  thin_refused h id reason low works (inr (inr (inl e))) none never = read_refused laws h (ThinStatus id) reason works refl refl (inr e) never
  thin_refused h id reason low works (inr (inr (inr e))) none never = absurd e

module _ {M : Type 0} (geometry : M → Geometry) (stands : M → DiskState → Contents → Contents → Type 0) where
  accepted_in : (call : Call) (line : List ℕ) → may_accept mode.ReadOnly call ≡ true → may_accept mode.Failed call ≡ true → (m : Mode) → MayAnswer m call (Line line)
  accepted_in call line reads failed mode.Writable = refl
  accepted_in call line reads failed mode.ReadOnly = reads
  accepted_in call line reads failed mode.Failed = failed

  pub status_answers : (h : Held M) (line : List ℕ) → IsAnswered (view geometry stands) h h Status (Line line)
  status_answers h line = record { may = accepted_in Status line refl refl h.mode; mode = refl; reads = λ no. refl; silent = λ yes. quiet geometry stands h h refl }

  pub thin_answers : (h : Held M) (id : ℕ) (line : List ℕ) → IsAnswered (view geometry stands) h (record h { disk = after_read true h.disk }) (ThinStatus id) (Line line)
  thin_answers h id line = record {
    may = accepted_in (ThinStatus id) line refl refl h.mode;
    mode = refl;
    reads = λ no. refl;
    silent = λ yes. quiet geometry stands h (record h { disk = after_read true h.disk }) refl;
  }

  pub thin_missed : (h new : Held M) (id : ℕ) (reason : Refusal) → is_failed h.mode ≡ false → new.mode ≡ h.mode → moment new.disk ≡ moment h.disk → Missed reason
      → IsAnswered (view geometry stands) h new (ThinStatus id) (Refused reason)
  thin_missed h new id reason works same calm one = missed geometry stands (ThinStatus id) (thin_looks_up id) h new works same calm reason one

  module _ (marks : M → List Bool) (room : M → ℕ) (changed : M → Bool) where
    pub status_flushes : (h : Held M) (line : List ℕ) → Flushes (served geometry stands marks room changed) h h Status (Line line)
    status_flushes h line = flushed_read geometry stands marks room changed h h Status (Line line) refl refl refl refl

    pub thin_flushes : (h : Held M) (ok : Bool) (id : ℕ) (line : List ℕ)
        → Flushes (served geometry stands marks room changed) h (record h { disk = after_read ok h.disk }) (ThinStatus id) (Line line)
    thin_flushes h ok id line = flushed_read geometry stands marks room changed h (record h { disk = after_read ok h.disk }) (ThinStatus id) (Line line) refl refl refl refl

    pub thin_flushes_not : (h : Held M) (ok : Bool) (id : ℕ) (reason : Refusal) → Missed reason
        → Flushes (served geometry stands marks room changed) h (record h { disk = after_read ok h.disk }) (ThinStatus id) (Refused reason)
    thin_flushes_not h ok id reason one =
        flushed_read geometry stands marks room changed h (record h { disk = after_read ok h.disk }) (ThinStatus id) (Refused reason) refl refl refl (missed_commits reason one)
