-- How many blocks a volume has.
use Rattle.std.proofs.Common.{◌≡◌, inl, ℕ, ◌+◌, ◌*◌, ◌/◌, ◌^◌, ◌<◌, Bool, true, false, not, Option, None, Some, is_some, Result, Ok, Err, List, [], ◌∷◌, length, refl, sym, ◌∙◌, ap, subst, arith}
use Rattle.std.specs.Prelude.{MatchResult}
use Rattle.std.specs.Option.{option_map, option_map_or}
use Rattle.std.specs.FinMap.{get}
use Rattle.std.proofs.lemmas.Nat.{div-mul-add}
use Rattle.std.proofs.lemmas.Option.{none-some, same_Some}
use Rattle.tp_model.specs.declared.refusal.Refusal.{Refusal}
use Rattle.tp_model.specs.declared.refusal.Refusal.TheVariants.{Failed, NoSuchDevice}
use Rattle.tp_model.specs.Geometry.{Geometry, sectors_of_volume}
use Rattle.tp_model.specs.Told.{told_blocks, told_sectors}
use Rattle.tp_model.specs.Pool.{PlainPool, Volume, hold_count, volume_sectors, volume_size}
use Rattle.tp_model.specs.Calls.{Answer, Call, Refused, Sized, VolumeBlocks, exists, first_failed, is_failed, volume_blocks}
use Rattle.tp_model.specs.Clauses.{Flushes, IsAnswered}
use Rattle.tp_model.specs.Disk.{DiskState}
use Rattle.tp_sharing.specs.Volumes.{size_of}
use Rattle.tp_sharing.proofs.Told.{size_changes}
use Rattle.tp_stored.specs.Contents.{Contents}
use Rattle.tp_holders.specs.Holders.{Holding, holds_of}
use Rattle.tp_pool.specs.Flushes.{served}
use Rattle.tp_pool.specs.Held.{HasPool, Held, PoolCalled, PoolRefused, blocks_of_held, more_held, view}
use Rattle.tp_pool.proofs.Calling.{Laws, Met, called_working, met_answered}
use Rattle.tp_pool.proofs.Meeting.{Meeting, answers_of_served, meeting, more_told, of_served, told_alike}
use Rattle.tp_pool.proofs.Serving.{exists_is, size_told, works_is}
use Rattle.tp_pool.proofs.Times.{at_once}

-- the volume that is asked for, and the size that is told
asked_of : Call → ℕ
asked_of (VolumeBlocks id) = id
asked_of call = 0

told_of : Answer → ℕ
told_of (Sized blocks) = blocks
told_of answer = 0

-- the blocks of a volume by its sectors
pub blocks_by : (s : PlainPool) (id blocks n : ℕ) → 0 < n → s.geometry.block_sectors ≡ n → volume_size s id ≡ Some (blocks * n) → volume_blocks s id ≡ blocks
blocks_by s id blocks n some same is =
    let long : length (volume_sectors s id) ≡ blocks * n = by (get s.volumes id) is in
    (λ i. long i / same i) ∙ (ap (λ k. k / n) (let plain : blocks * n ≡ blocks * n + 0 = omega arith in plain) ∙ div-mul-add blocks n 0 some)
  where
    by : (o : Option Volume) → option_map (λ (v : Volume). length v.sectors) o ≡ Some (blocks * n) → length (option_map_or (λ (v : Volume). v.sectors) o []) ≡ blocks * n
    by (Some v) e = same_Some (length v.sectors) (blocks * n) e
    by None e = absurd (none-some (blocks * n) e)

-- the blocks of one that is held, in sectors
pub held_sectors : (g : Geometry) (holders : List Holding) (id : ℕ) → blocks_of_held g holders id * g.block_sectors ≡ sectors_of_volume g + more_held g holders id
held_sectors g holders id = omega arith

module _ {M : Type 0} {geometry : M → Geometry} {stands : M → DiskState → Contents → Contents → Type 0} {marks : M → List Bool} {room : M → ℕ} (laws : Laws geometry stands marks room) where
  sized_by : (old : Held M) (id blocks : ℕ) → is_failed old.mode ≡ false
      → ((s : PlainPool) (now kept : Contents) → HasPool geometry stands old now kept s → (exists s id ≡ true) × (volume_size s id ≡ Some (blocks * (geometry old.metadata).block_sectors)))
      → PoolCalled geometry stands old old (VolumeBlocks id) (Sized blocks)
  sized_by old id blocks works told =
      called_working laws old old (VolumeBlocks id) (Sized blocks) works (at_once old.disk) refl (λ s now kept pool.
      let g = geometry old.metadata in
      let within = laws.within old.metadata old.disk now kept pool.standing in
      let t = told s now kept pool in
      let works_s = works_is laws old s now kept works pool in
      let same : s.geometry.block_sectors ≡ g.block_sectors = ap (λ (x : Geometry). x.block_sectors) pool.has.geometry in
      let is = blocks_by s id blocks g.block_sectors (omega (arith, within.limits.block_least)) same t.1 in
      subst (λ n. Met laws old old s (VolumeBlocks id) (Sized n)) is
      (met_answered laws old old s s (VolumeBlocks id) (inl (now, kept, pool)) (λ i. first_failed ((works_s i, Failed) ∷ (not (t.0 i), NoSuchDevice) ∷ [])) refl (inl (now, kept, pool)) refl refl))

  -- one that is held
  pub size_of_held : (old : Held M) (id : ℕ) → is_failed old.mode ≡ false → 0 < hold_count (holds_of old.holders) id
      → PoolCalled geometry stands old old (VolumeBlocks id) (Sized (blocks_of_held (geometry old.metadata) old.holders id))
  size_of_held old id works held =
      sized_by old id (blocks_of_held (geometry old.metadata) old.holders id) works (λ s now kept pool.
      let some : 0 < hold_count s.holds id = subst (λ m. 0 < hold_count m id) (sym pool.holds) held in
      (pool.found id some, pool.known id some ∙ ap Some (sym (held_sectors (geometry old.metadata) old.holders id))))

  -- or another one
  pub size_by : (old : Held M) (id blocks : ℕ) → id < 2 ^ 24 → is_failed old.mode ≡ false
      → ((now kept : Contents) → stands old.metadata old.disk now kept → Some blocks ≡ option_map (told_blocks (geometry old.metadata)) (size_of id now.volumes))
      → PoolCalled geometry stands old old (VolumeBlocks id) (Sized blocks)
  size_by old id blocks low works told =
      sized_by old id blocks works (λ s now kept pool.
      let g = geometry old.metadata in
      let size = size_told laws g now.volumes id blocks (told now kept pool.standing) in (
        exists_is laws old s now kept id true low pool (sym (ap is_some size.1) ∙ size_changes.told id now.volumes),
        pool.has.sizes id ∙ (ap (option_map (told_sectors g)) size.1 ∙ ap (λ n. Some (n * g.block_sectors)) (sym size.2)),
      ))

-- what it is to those who are served
module _ {M : Type 0} (geometry : M → Geometry) (stands : M → DiskState → Contents → Contents → Type 0) (marks : M → List Bool) (room : M → ℕ) (changed : M → Bool) (old new : Held M) (id : ℕ) where
  pub met_size : geometry new.metadata ≡ geometry old.metadata → new.holders ≡ old.holders → (result : Result ℕ Refusal)
      → (0 < hold_count (holds_of old.holders) id → MatchResult result (λ blocks. blocks ≡ blocks_of_held (geometry old.metadata) old.holders id) (λ reason. Unit {0}))
      → MatchResult result (λ blocks. PoolCalled geometry stands old new (VolumeBlocks id) (Sized blocks)) (λ reason. PoolRefused geometry stands old new (VolumeBlocks id) reason)
      → MatchResult result (λ blocks. IsAnswered (view geometry stands) old new (VolumeBlocks id) (Sized blocks)) (λ reason. IsAnswered (view geometry stands) old new (VolumeBlocks id) (Refused reason))
      → MatchResult result (λ blocks. Flushes (served geometry stands marks room changed) old new (VolumeBlocks id) (Sized blocks))
      (λ reason. Flushes (served geometry stands marks room changed) old new (VolumeBlocks id) (Refused reason))
      → MatchResult result (λ blocks. Meeting geometry stands marks room changed old new (VolumeBlocks id) (Sized blocks)) (λ reason. Meeting geometry stands marks room changed old new (VolumeBlocks id) (Refused reason))
  unfolding asked_of told_of
  met_size same holders (Ok blocks) known c answered flushes = record {
    geometry = same;
    holds = ap holds_of holders;
    more = λ other was is. more_told geometry stands marks room changed old new same (told_alike old.holders new.holders holders) other was is;
    told = λ other n asked sized some.
        let here : other ≡ id = ap asked_of (sym asked) in
        let many : n ≡ blocks = ap told_of (sym sized) in
        let it = known (subst (λ i. 0 < hold_count (holds_of old.holders) i) here some) in
        ap (λ k. k * (geometry old.metadata).block_sectors) (many ∙ it) ∙ (held_sectors (geometry old.metadata) old.holders id ∙ ap (λ i. sectors_of_volume (geometry old.metadata) + more_held (geometry old.metadata) old.holders i) (sym here));
    answered = answers_of_served geometry stands marks room changed old new (VolumeBlocks id) (Sized blocks) answered;
    flushes = flushes;
    called = of_served geometry stands marks room changed old new (VolumeBlocks id) (Sized blocks) c.called;
  }
  met_size same holders (Err reason) known c answered flushes =
      meeting geometry stands marks room changed old new (VolumeBlocks id) same (Refused reason) refl (ap holds_of holders) (told_alike old.holders new.holders holders) c answered flushes
