-- The next volume in the order of the ids.
use Rattle.std.proofs.Common.{◌≡◌, ◌⊎◌, inl, inr, ℕ, ◌^◌, ◌<◌, Bool, true, false, not, Option, None, Some, is_some, Result, Ok, Err, List, [], ◌∷◌, refl, sym, ◌∙◌, ap, subst}
use Rattle.std.specs.Prelude.{IfErr, IfOk, IfSome, IsTrue, MatchResult, ◌&&◌}
use Rattle.std.specs.FinMap.{entries, get}
use Rattle.std.proofs.lemmas.Bool.{false≢true, lt-ltb, true≢false}
use Rattle.tp_model.specs.declared.mode.Mode.{Mode}
use Rattle.tp_model.specs.declared.mode.Mode.TheVariants as mode
use Rattle.tp_model.specs.declared.refusal.Refusal.{Refusal}
use Rattle.tp_model.specs.declared.refusal.Refusal.TheVariants.{Damaged, Failed, Fault}
use Rattle.tp_model.specs.Geometry.{Geometry}
use Rattle.tp_model.specs.Pool.{PlainPool, Volume}
use Rattle.tp_model.specs.Refusals.{is_fault}
use Rattle.tp_model.specs.Calls.{Answer, Found, MayAnswer, NextId, Refused, exists, first_failed, first_from, is_failed, is_silent, may_accept}
use Rattle.tp_model.specs.Clauses.{Flushes, IsAnswered}
use Rattle.tp_model.specs.DiskStops.{moment}
use Rattle.tp_model.specs.Disk.{DiskState, after_read, seen}
use Rattle.tp_model.proofs.Nexts.{first_none, first_some}
use Rattle.tp_sharing.specs.Volumes.{Volumes, device_of}
use Rattle.tp_stored.specs.Contents.{Contents}
use Rattle.tp_mapping.specs.Next.{IsNext}
use Rattle.tp_shown.proofs.Tests.{exists_is_listed}
use Rattle.tp_pool.specs.Flushes.{served}
use Rattle.tp_pool.specs.Held.{Held, PoolCalled, PoolRefused, view}
use Rattle.tp_holders.specs.Holders.{holds_of}
use Rattle.tp_pool.proofs.Answering.{Answered, keeps_mode}
use Rattle.tp_pool.proofs.Calling.{Laws, Met, called_working, met_answered}
use Rattle.tp_pool.proofs.Flushing.{Flushed, failure_commits, flushed_read}
use Rattle.tp_pool.proofs.Meeting.{Meeting, meeting, told_alike}
use Rattle.tp_pool.proofs.Serving.{is_some_from, is_some_to, read_refused, works_is}
use Rattle.tp_pool.proofs.Times.{at_once}

none_here : {X : Type 0} (o : Option X) → is_some o ≡ false → o ≡ None
none_here None e = refl
none_here (Some x) e = absurd (true≢false e)

some_here : {X : Type 0} (o : Option X) → is_some o ≡ true → (x : X) × (o ≡ Some x)
some_here None e = absurd (false≢true e)
some_here (Some x) e = (x, refl)

-- of the ids of volumes, those are in the map that exist
is_there : (s : PlainPool) (id : ℕ) → id < 2 ^ 24 → is_some (get s.volumes id) ≡ exists s id
is_there s id low = sym (ap (λ (b : Bool). b && is_some (get s.volumes id)) (lt-ltb id (2 ^ 24) low))

-- the first id of the plain pool is the next one of the lists
first_is_next : (s : PlainPool) (volumes : Volumes) (from : ℕ) → ((id : ℕ) → id < 2 ^ 24 → is_some (get s.volumes id) ≡ is_some (device_of id volumes)) → (found : Option ℕ)
    → IfSome found (λ id. id < 2 ^ 24) → IsNext from volumes found → first_from from (entries s.volumes) ≡ found
first_is_next s volumes from same None small next = first_none from s.volumes (λ id le low. none_here (get s.volumes id) (same id low ∙ ap (λ (o : Option _). is_some o) (next id le low)))
first_is_next s volumes from same (Some id) small next =
    let v = some_here (get s.volumes id) (same id small ∙ is_some_from (device_of id volumes) next.1) in
    first_some from id v.0 s.volumes next.0 small v.1
    (λ other w le low is. next.2 other le (is_some_to (device_of other volumes) (sym (ap (λ (o : Option Volume). is_some o) is) ∙ same other low)))

module _ {M : Type 0} {geometry : M → Geometry} {stands : M → DiskState → Contents → Contents → Type 0} {marks : M → List Bool} {room : M → ℕ} (laws : Laws geometry stands marks room) where
  pub next_by : (old : Held M) (disk : DiskState) (from : ℕ) (result : Result (Option ℕ) Refusal) → is_failed old.mode ≡ false → disk ≡ after_read (not (is_fault result)) old.disk
      → IfOk result (λ found. IfSome found (λ id. id < 2 ^ 24) × ((now kept : Contents) → stands old.metadata old.disk now kept → IsNext from now.volumes found))
      → (result ≡ Err Damaged → (now kept : Contents) → stands old.metadata old.disk now kept → ⊥) → IfErr result (λ refusal. (refusal ≡ Fault) ⊎ (refusal ≡ Damaged))
      → MatchResult result (λ found. PoolCalled geometry stands old (record old { disk = disk }) (NextId from) (Found found))
      (λ reason. PoolRefused geometry stands old (record old { disk = disk }) (NextId from) reason)
  next_by old disk from (Ok found) works state told damaged only =
      subst (λ (d : DiskState). PoolCalled geometry stands old (record old { disk = d }) (NextId from) (Found found)) (sym state)
      (called_working laws old old (NextId from) (Found found) works (at_once old.disk) refl (λ s now kept pool.
      let works_s = works_is laws old s now kept works pool in
      let there = λ (id : ℕ) (low : id < 2 ^ 24). is_there s id low ∙ exists_is_listed (geometry old.metadata) now (seen old.disk.cells) s id low pool.has in
      let is = first_is_next s now.volumes from there found told.0 (told.1 now kept pool.standing) in
      subst (λ (a : Answer). Met laws old old s (NextId from) a) (ap (λ (o : Option ℕ). Found o) is)
      (met_answered laws old old s s (NextId from) (inl (now, kept, pool)) (λ i. first_failed ((works_s i, Failed) ∷ [])) refl (inl (now, kept, pool)) refl refl)))
  next_by old disk from (Err reason) works state told damaged only =
      subst (λ (d : DiskState). PoolRefused geometry stands old (record old { disk = d }) (NextId from) reason) (sym state)
      (read_refused laws old (NextId from) reason works refl refl only (λ e now kept st. damaged (ap (λ (r : Refusal). Err r) e) now kept st))

-- ---- what is known of it whatever the disk does

module _ {M : Type 0} (geometry : M → Geometry) (stands : M → DiskState → Contents → Contents → Type 0) (from : ℕ) (old new : Held M) (works : is_failed old.mode ≡ false) (same : new.mode ≡ old.mode)
    (calm : moment new.disk ≡ moment old.disk) where
  may_refuse : (m : Mode) → is_failed m ≡ false → (reason : Refusal) → (reason ≡ Fault) ⊎ (reason ≡ Damaged) → MayAnswer m (NextId from) (Refused reason)
  may_refuse mode.Writable e reason (inl is) = inl is
  may_refuse mode.Writable e reason (inr is) = inr (inl is)
  may_refuse mode.ReadOnly e reason (inl is) = inl is
  may_refuse mode.ReadOnly e reason (inr is) = inr (inl is)
  may_refuse mode.Failed e reason is = absurd (false≢true (sym e))

  may_find : (m : Mode) → is_failed m ≡ false → IsTrue (may_accept m (NextId from))
  may_find mode.Writable e = refl
  may_find mode.ReadOnly e = refl
  may_find mode.Failed e = absurd (false≢true (sym e))

  looks : (m : Mode) → is_failed m ≡ false → is_silent m (NextId from) ≡ false
  looks mode.Writable e = refl
  looks mode.ReadOnly e = refl
  looks mode.Failed e = absurd (false≢true (sym e))

  pub next_answers : (result : Result (Option ℕ) Refusal) → IfErr result (λ reason. (reason ≡ Fault) ⊎ (reason ≡ Damaged))
      → MatchResult result (λ found. Answered geometry stands old new (NextId from) (Found found)) (λ reason. Answered geometry stands old new (NextId from) (Refused reason))
  next_answers (Ok found) only = record { may = may_find old.mode works; mode = same; reads = λ no. calm; silent = λ yes. absurd (false≢true (sym (looks old.mode works) ∙ yes)) }
  next_answers (Err reason) only = record {
    may = may_refuse old.mode works reason only;
    mode = same ∙ sym (keeps_mode (NextId from) reason old.mode refl (failure_commits reason only));
    reads = λ no. calm;
    silent = λ yes. absurd (false≢true (sym (looks old.mode works) ∙ yes));
  }

module _ {M : Type 0} (geometry : M → Geometry) (stands : M → DiskState → Contents → Contents → Type 0) (marks : M → List Bool) (room : M → ℕ) (changed : M → Bool) (old new : Held M) (from : ℕ) where
  pub next_flushes : new.disk.flushes ≡ old.disk.flushes → new.metadata ≡ old.metadata → (result : Result (Option ℕ) Refusal) → IfErr result (λ reason. (reason ≡ Fault) ⊎ (reason ≡ Damaged))
      → MatchResult result (λ found. Flushed geometry stands marks room changed old new (NextId from) (Found found)) (λ reason. Flushed geometry stands marks room changed old new (NextId from) (Refused reason))
  next_flushes flushes metadata (Ok found) only = flushed_read geometry stands marks room changed old new (NextId from) (Found found) flushes metadata refl refl
  next_flushes flushes metadata (Err reason) only = flushed_read geometry stands marks room changed old new (NextId from) (Refused reason) flushes metadata refl (failure_commits reason only)

  pub met_next : geometry new.metadata ≡ geometry old.metadata → new.holders ≡ old.holders → (result : Result (Option ℕ) Refusal)
      → MatchResult result (λ found. PoolCalled geometry stands old new (NextId from) (Found found)) (λ reason. PoolRefused geometry stands old new (NextId from) reason)
      → MatchResult result (λ found. IsAnswered (view geometry stands) old new (NextId from) (Found found)) (λ reason. IsAnswered (view geometry stands) old new (NextId from) (Refused reason))
      → MatchResult result (λ found. Flushes (served geometry stands marks room changed) old new (NextId from) (Found found))
      (λ reason. Flushes (served geometry stands marks room changed) old new (NextId from) (Refused reason))
      → MatchResult result (λ found. Meeting geometry stands marks room changed old new (NextId from) (Found found)) (λ reason. Meeting geometry stands marks room changed old new (NextId from) (Refused reason))
  met_next same holders (Ok found) c answered flushes = meeting geometry stands marks room changed old new (NextId from) same (Found found) refl (ap holds_of holders) (told_alike old.holders new.holders holders) c answered flushes
  met_next same holders (Err reason) c answered flushes = meeting geometry stands marks room changed old new (NextId from) same (Refused reason) refl (ap holds_of holders) (told_alike old.holders new.holders holders) c answered flushes
