-- A read of what a volume had when the mapping that is held was reserved.
use Rattle.std.proofs.Common.{◌≡◌, ◌⊎◌, inl, inr, ℕ, ◌+◌, ◌==◌, ◌≤◌, ◌<◌, Bool, true, false, not, Option, None, Some, is_some, Result, Ok, Err, List, [], ◌∷◌, refl, sym, ◌∙◌, ap, subst, arith}
use Rattle.std.specs.Prelude.{IfErr, IfSome, IsSome, IsTrue, MatchResult, OnOk}
use Rattle.std.specs.List.{concat}
use Rattle.std.proofs.lemmas.Result.{IfOk-weaker}
use Rattle.tp_counts.specs.declared.error.StoreError.{StoreError}
use Rattle.std.proofs.lemmas.Bool.{eq-eqb, false≢true, ne_eqb}
use Rattle.tp_model.specs.declared.mode.Mode.{Mode}
use Rattle.tp_model.specs.declared.mode.Mode.TheVariants as mode
use Rattle.tp_model.specs.declared.refusal.Refusal.{Refusal}
use Rattle.tp_model.specs.declared.refusal.Refusal.TheVariants.{Damaged, Failed, Fault, NoHeldRoot, NoSuchDevice}
use Rattle.tp_model.specs.Geometry.{Geometry, sectors_of_image}
use Rattle.tp_model.specs.Sectors.{Sector, sectors_of}
use Rattle.tp_model.specs.Pool.{PlainPool, copy_id}
use Rattle.tp_model.specs.Refusals.{is_fault, is_fault_refusal}
use Rattle.tp_model.specs.Calls.{Answer, Gave, HeldRead, IsOneOf, MayAnswer, Refused, first_failed, has_copy, is_failed, is_silent, may_accept, refusal_of, refused_commits, reply}
use Rattle.tp_model.specs.DiskStops.{moment}
use Rattle.tp_model.specs.Disk.{DiskState, IsWellFormed, after_read, seen}
use Rattle.tp_model.proofs.DiskLaws.{length-seen, sectors_of-concat, whole-seen}
use Rattle.tp_sharing.specs.Volumes.{Volumes, device_of}
use Rattle.tp_stored.specs.Contents.{Contents}
use Rattle.tp_meta.specs.Metadata.{AreTold, IsInside, LooksUp}
use Rattle.tp_meta.specs.declared.metadata.Home.{Home}
use Rattle.tp_shown.specs.Shown.{values_at}
use Rattle.tp_shown.proofs.Ranges.{read_gives}
use Rattle.tp_shown.proofs.Tests.{copy_is_listed}
use Rattle.tp_pool.specs.Held.{EndsIn, HasPool, Held, PoolCalled, PoolRefused}
use Rattle.tp_pool.specs.Reading.{ArePlaced, copied_home, id_read}
use Rattle.tp_pool.specs.Writing.{old_place}
use Rattle.tp_pool.proofs.Answering.{Answered, keeps_mode}
use Rattle.tp_pool.proofs.Calling.{Laws, Met, called_working, met_answered}
use Rattle.tp_pool.proofs.Fetching.{values_whole}
use Rattle.tp_pool.proofs.Flushing.{Flushed, flushed_read}
use Rattle.tp_pool.proofs.Serving.{called_tested, is_some_from, read_refused, works_is}
use Rattle.tp_pool.proofs.Taken.{old_is_slot}
use Rattle.tp_pool.proofs.Times.{at_once}
use Rattle.std.specs.Prelude.{slice_index_or}

-- ---- what is looked up

-- what is told of blocks tells their data blocks
pub placed_by : (id first n : ℕ) (volumes : Volumes) (marks : List Bool) (homes : List (Option Home)) → AreTold id first volumes marks n homes → ArePlaced id first volumes n homes
placed_by id first n volumes marks homes told i small = sym (old_is_slot id (first + i) volumes marks (slice_index_or homes i None) (told i small))

pub copied_place : (place : Option ℕ) → old_place (copied_home place) ≡ place
copied_place None = refl
copied_place (Some place) = refl

pub copied_inside : (data_blocks : ℕ) (place : Option ℕ) → IfSome place (λ p. p < data_blocks) → IsInside data_blocks (copied_home place)
copied_inside data_blocks None inside = tt
copied_inside data_blocks (Some place) inside = inside

-- a look-up of blocks of a volume, or of its held copy
module _ (stands : DiskState → Contents → Contents → Type 0) (before after : DiskState) (result : Result Bool StoreError) (id first n : ℕ) (homes : List (Option Home)) where
  abbrev Looked : ℕ → Type 0
  Looked i = LooksUp stands before after result (λ is_there now. (is_there ≡ is_some (device_of i now.volumes)) × ArePlaced i first now.volumes n homes)

  pub looked_as : (is_copy told : Bool) → is_copy ≡ told → Looked (id_read told id) → Looked (id_read is_copy id)
  looked_as is_copy told same looked = subst (λ (b : Bool). Looked (id_read b id)) (sym same) looked

  pub looked_now : (marks : List Bool) → LooksUp stands before after result (λ is_there now. (is_there ≡ is_some (device_of id now.volumes)) × AreTold id first now.volumes marks n homes) → Looked id
  looked_now marks looked = record {
    told = IfOk-weaker result _ _ (λ is_there told now kept st. let t = told now kept st in (t.0, placed_by id first n now.volumes marks homes t.1)) looked.told;
    damaged = looked.damaged;
    state = looked.state;
  }

-- ---- the tests

abbrev pub held_verdict : Bool → Bool → Bool → Option Refusal
held_verdict failed none misses = first_failed ((failed, Failed) ∷ (none, NoHeldRoot) ∷ (misses, NoSuchDevice) ∷ [])

pub held_tests : (s : PlainPool) (id sector n : ℕ) (failed none misses : Bool) → is_failed s.mode ≡ failed → (s.held_root == 0) ≡ none → not (has_copy s id) ≡ misses
    → refusal_of s (HeldRead id sector n) ≡ held_verdict failed none misses
held_tests s id sector n failed none misses a b c = (λ i. held_verdict (a i) (b i) (c i))

module _ {M : Type 0} {geometry : M → Geometry} {stands : M → DiskState → Contents → Contents → Type 0} {marks : M → List Bool} {room : M → ℕ}
    (laws : Laws geometry stands marks room) (old : Held M) (works : is_failed old.mode ≡ false) (id sector n : ℕ) where
  abbrev g : Geometry
  g = geometry old.metadata

  -- none is held
  pub held_none : ((now kept : Contents) → stands old.metadata old.disk now kept → now.held_root ≡ 0) → PoolCalled geometry stands old old (HeldRead id sector n) (Refused NoHeldRoot)
  held_none none =
      called_tested laws old (HeldRead id sector n) NoHeldRoot works refl (λ s. refl) refl (λ s now kept pool.
      held_tests s id sector n false true (not (has_copy s id)) (works_is laws old s now kept works pool) (eq-eqb s.held_root 0 (pool.has.held_root ∙ none now kept pool.standing)) refl)

  module _ (some : (now kept : Contents) → stands old.metadata old.disk now kept → 0 < now.held_root) where
    tests : (s : PlainPool) (now kept : Contents) → HasPool geometry stands old now kept s → (there : Bool) → there ≡ is_some (device_of (copy_id id) now.volumes)
        → refusal_of s (HeldRead id sector n) ≡ held_verdict false false (not there)
    tests s now kept pool there told =
        held_tests s id sector n false false (not there) (works_is laws old s now kept works pool)
        (ne_eqb s.held_root 0 (λ none. absurd (omega (arith, none, pool.has.held_root, some now kept pool.standing))))
        (ap not (copy_is_listed g now (seen old.disk.cells) s id pool.has ∙ sym told))

    -- it has no such volume
    pub held_missing : ((now kept : Contents) → stands old.metadata old.disk now kept → false ≡ is_some (device_of (copy_id id) now.volumes))
        → PoolCalled geometry stands old old (HeldRead id sector n) (Refused NoSuchDevice)
    held_missing none =
        called_tested laws old (HeldRead id sector n) NoSuchDevice works refl (λ s. refl) refl (λ s now kept pool. tests s now kept pool false (none now kept pool.standing))

    pub held_by : (mid disk : DiskState) (out : List ℕ) (result : Result (Unit {0}) Refusal) → mid ≡ old.disk
        → ((now kept : Contents) → stands old.metadata old.disk now kept → IsSome (device_of (copy_id id) now.volumes)) → EndsIn geometry stands old (copy_id id) (sector + n)
        → IsWellFormed old.disk.size old.disk.cells → sectors_of_image (geometry old.metadata) ≤ old.disk.size → disk ≡ after_read (not (is_fault result)) mid
        → OnOk result ((now kept : Contents) → stands old.metadata mid now kept → out ≡ concat (values_at (geometry old.metadata) now.volumes (seen mid.cells) (copy_id id) sector n))
        → (result ≡ Err Damaged → (now kept : Contents) → stands old.metadata mid now kept → ⊥) → IfErr result (λ refusal. (refusal ≡ Fault) ⊎ (refusal ≡ Damaged))
        → MatchResult result (λ _. PoolCalled geometry stands old (record old { disk = disk }) (HeldRead id sector n) (Gave (sectors_of out)))
        (λ reason. PoolRefused geometry stands old (record old { disk = disk }) (HeldRead id sector n) reason)
    held_by mid disk out (Ok x) same there ends formed room state bytes damaged only =
        let is : disk ≡ old.disk = state ∙ same in
        subst (λ (d : DiskState). PoolCalled geometry stands old (record old { disk = d }) (HeldRead id sector n) (Gave (sectors_of out))) (sym is)
        (called_working laws old old (HeldRead id sector n) (Gave (sectors_of out)) works (at_once old.disk) refl (λ s now kept pool.
        let within = laws.within old.metadata old.disk now kept pool.standing in
        let device = there now kept pool.standing in
        let accepted = tests s now kept pool true (sym (is_some_from (device_of (copy_id id) now.volumes) device)) in
        let values = values_at g now.volumes (seen old.disk.cells) (copy_id id) sector n in
        let out_is : out ≡ concat values =
        subst (λ (d : DiskState). stands old.metadata d now kept → out ≡ concat (values_at g now.volumes (seen d.cells) (copy_id id) sector n)) same (bytes now kept) pool.standing in
        let whole = values_whole g now.volumes (seen old.disk.cells) (copy_id id) sector n within.limits within.volumes_now (whole-seen formed) (omega (arith, room, length-seen formed)) in
        let gives : reply s (HeldRead id sector n) ≡ Gave (sectors_of out) =
        ap (λ (l : List (List ℕ)). Gave l)
        (read_gives g now (seen old.disk.cells) s within.limits pool.has (copy_id id) sector n device (ends now kept s pool device) ∙ sym (ap sectors_of out_is ∙ sectors_of-concat values whole)) in
        subst (λ (a : Answer). Met laws old old s (HeldRead id sector n) a) gives
        (met_answered laws old old s s (HeldRead id sector n) (inl (now, kept, pool)) accepted refl (inl (now, kept, pool)) refl refl)))
    held_by mid disk out (Err reason) same there ends formed room state bytes damaged only =
        let is : disk ≡ after_read (not (is_fault_refusal reason)) old.disk = state ∙ ap (after_read (not (is_fault_refusal reason))) same in
        subst (λ (d : DiskState). PoolRefused geometry stands old (record old { disk = d }) (HeldRead id sector n) reason) (sym is)
        (read_refused laws old (HeldRead id sector n) reason works refl refl only (λ e now kept st. damaged (ap (λ (r : Refusal). Err r) e) now kept (subst (λ (d : DiskState). stands old.metadata d now kept) (sym same) st)))

-- ---- what is known of it whatever the disk does

-- what it is refused for in a pool that works
abbrev pub MissesCopy : Refusal → Type 0
MissesCopy reason = IsOneOf reason (NoHeldRoot ∷ NoSuchDevice ∷ Fault ∷ Damaged ∷ [])

pub copy_missed : (reason : Refusal) → (reason ≡ Fault) ⊎ (reason ≡ Damaged) → MissesCopy reason
copy_missed reason (inl e) = inr (inr (inl e))
copy_missed reason (inr e) = inr (inr (inr (inl e)))

pub copy_commits : (reason : Refusal) → MissesCopy reason → refused_commits reason ≡ false
copy_commits reason (inl e) = ap refused_commits e
copy_commits reason (inr (inl e)) = ap refused_commits e
copy_commits reason (inr (inr (inl e))) = ap refused_commits e
copy_commits reason (inr (inr (inr (inl e)))) = ap refused_commits e
copy_commits reason (inr (inr (inr (inr e)))) = absurd e

module _ {M : Type 0} (geometry : M → Geometry) (stands : M → DiskState → Contents → Contents → Type 0) (id sector n : ℕ) (old new : Held M) (works : is_failed old.mode ≡ false) (same : new.mode ≡ old.mode)
    (calm : moment new.disk ≡ moment old.disk) where
  may_refuse : (m : Mode) → is_failed m ≡ false → (reason : Refusal) → MissesCopy reason → MayAnswer m (HeldRead id sector n) (Refused reason)
  may_refuse mode.Writable e reason one = one
  may_refuse mode.ReadOnly e reason one = one
  may_refuse mode.Failed e reason one = absurd (false≢true (sym e))

  may_give : (m : Mode) → is_failed m ≡ false → IsTrue (may_accept m (HeldRead id sector n))
  may_give mode.Writable e = refl
  may_give mode.ReadOnly e = refl
  may_give mode.Failed e = absurd (false≢true (sym e))

  looks : (m : Mode) → is_failed m ≡ false → is_silent m (HeldRead id sector n) ≡ false
  looks mode.Writable e = refl
  looks mode.ReadOnly e = refl
  looks mode.Failed e = absurd (false≢true (sym e))

  pub held_gives : (sectors : List Sector) → Answered geometry stands old new (HeldRead id sector n) (Gave sectors)
  held_gives sectors = record { may = may_give old.mode works; mode = same; reads = λ no. calm; silent = λ yes. absurd (false≢true (sym (looks old.mode works) ∙ yes)) }

  pub held_misses : (reason : Refusal) → MissesCopy reason → Answered geometry stands old new (HeldRead id sector n) (Refused reason)
  held_misses reason one = record {
    may = may_refuse old.mode works reason one;
    mode = same ∙ sym (keeps_mode (HeldRead id sector n) reason old.mode refl (copy_commits reason one));
    reads = λ no. calm;
    silent = λ yes. absurd (false≢true (sym (looks old.mode works) ∙ yes));
  }

module _ {M : Type 0} (geometry : M → Geometry) (stands : M → DiskState → Contents → Contents → Type 0) (marks : M → List Bool) (room : M → ℕ) (changed : M → Bool) (id sector n : ℕ) (old new : Held M)
    (flushes : new.disk.flushes ≡ old.disk.flushes) (metadata : new.metadata ≡ old.metadata) where
  pub held_flushes : (sectors : List Sector) → Flushed geometry stands marks room changed old new (HeldRead id sector n) (Gave sectors)
  held_flushes sectors = flushed_read geometry stands marks room changed old new (HeldRead id sector n) (Gave sectors) flushes metadata refl refl

  pub held_flushes_not : (reason : Refusal) → MissesCopy reason → Flushed geometry stands marks room changed old new (HeldRead id sector n) (Refused reason)
  held_flushes_not reason one = flushed_read geometry stands marks room changed old new (HeldRead id sector n) (Refused reason) flushes metadata refl (copy_commits reason one)
