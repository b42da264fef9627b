-- A volume grows, in a pool that works.
use Rattle.std.proofs.Common.{◌≡◌, ◌⊎◌, inl, inr, ℕ, ◌+◌, ◌^◌, ◌≤◌, ◌<◌, ◌↔◌, Bool, true, false, not, Option, None, Some, is_some, Result, Ok, Err, List, [], ◌∷◌, length, refl, sym, ◌∙◌, ap, subst, arith}
use Rattle.std.specs.Prelude.{IsSome, IsTrue, OnOk, is_err, nat_lt, if◌then◌else◌}
use Rattle.std.specs.Option.{option_map, option_map_or}
use Rattle.std.proofs.lemmas.Bool.{cases_eq, cases_lt, eq-eqb, false≢true, ne_eqb, true≢false}
use Rattle.std.proofs.lemmas.Option.{none-some, same_Some}
use Rattle.tp_model.specs.declared.mode.Mode.TheVariants as mode
use Rattle.tp_model.specs.declared.refusal.Refusal.{Refusal}
use Rattle.tp_model.specs.declared.refusal.Refusal.TheVariants.{BadSize, Busy, Damaged, Failed, Fault, NoMetadataSpace, NoSuchDevice, ReadOnly}
use Rattle.tp_model.specs.Geometry.{Geometry, IsWithinLimits}
use Rattle.tp_model.specs.Told.{IsToldSize, told_blocks, told_sectors}
use Rattle.tp_model.specs.Sectors.{Sector}
use Rattle.tp_model.specs.Pool.{PlainPool, hold_count}
use Rattle.tp_model.specs.PoolStops.{Given as GivenIn}
use Rattle.tp_model.specs.Refusals.{is_fault, is_fault_refusal}
use Rattle.tp_model.specs.Calls.{Call, Flush, Grow, IsAllowed, Refused, exists, first_failed, has_metadata_room, is_failed, is_failure, is_read_only, refusal_of, volume_blocks, refused_commits}
use Rattle.tp_model.specs.Disk.{DiskState, FaultHasCause, after_read, seen}
use Rattle.tp_model.specs.DiskStops.{LeavesOnly}
use Rattle.tp_model.proofs.DiskStopLaws.{starts}
use Rattle.tp_counts.specs.declared.error.StoreError.{StoreError}
use Rattle.tp_counts.specs.declared.error.StoreError.TheVariants as errors
use Rattle.tp_counts.specs.StoreErrors as errors_of
use Rattle.tp_sharing.specs.Volumes.{Volumes, device_of, resized, size_of}
use Rattle.tp_sharing.proofs.Sized.{resized_here, resized_later}
use Rattle.tp_sharing.proofs.Slots.{size_here, size_later}
use Rattle.tp_sharing.proofs.Told.{size_changes}
use Rattle.tp_mapping.specs.Mapping.{IsWithin, free_places, size_for}
use Rattle.tp_stored.specs.Contents.{Contents, HasContents, IsStill, SameData}
use Rattle.tp_shown.specs.Shown.{own_blocks}
use Rattle.tp_shown.proofs.Made.{grow_makes}
use Rattle.tp_shown.proofs.Tests.{exists_is_listed}
use Rattle.tp_meta.specs.Metadata.{IsAltered, IsChanging, IsLater, Ran, StandsWith}
use Rattle.tp_holders.specs.Holders.{Holding, holds_of}
use Rattle.tp_pool.specs.Flushes.{HasFlushed, Lacks}
use Rattle.tp_pool.specs.Held.{Held, HasPool, LacksRoom, PoolCalled, PoolRefused, PoolTried, failed_by, shows}
use Rattle.tp_pool.specs.Messages.{HasBlocks, RefusesGrown, SizedSo, grown_tests, is_bad_size, size_verdict, with_blocks, with_grown}
use Rattle.tp_pool.specs.Shown.{told_within}
use Rattle.tp_pool.specs.Unkept.{HasReclaimed, IsUnkept}
use Rattle.tp_pool.specs.Writing.{IsAsBefore, IsHalf, IsKept, IsReclaiming, LacksMetadata}
use Rattle.tp_pool.proofs.Altering.{HasMade, IsAlteration, alter_accepts, alter_failed, alter_unkept, alter_unreclaimed, stood_or_kept}
use Rattle.tp_pool.proofs.Calling.{Laws}
use Rattle.tp_pool.proofs.Create.{no_room_is, passes_room, room_is}
use Rattle.tp_pool.proofs.Flushing.{counted_before, counted_short, reclaimed}
use Rattle.tp_pool.proofs.Halves.{half_changing}
use Rattle.tp_pool.proofs.Keeping.{same_data_shows}
use Rattle.tp_pool.proofs.Putting.{writable_is}
use Rattle.tp_pool.proofs.Serving.{called_tested, is_some_to, write_refused}
use Rattle.tp_pool.proofs.Sizes.{blocks_by}
use Rattle.tp_pool.proofs.Stops.{Given, nothing_given}
use Rattle.tp_pool.proofs.Times.{at_once}

-- ---- how many blocks a volume has

module _ (g : Geometry) (id present : ℕ) (now : Contents) (has : HasBlocks g id present now) where
  there_told : is_some (device_of id now.volumes) ≡ true
  there_told = sym (size_changes.told id now.volumes) ∙ ap is_some has.1

  is_there : IsSome (device_of id now.volumes)
  is_there = is_some_to (device_of id now.volumes) (sym there_told)

  own_are : own_blocks g now.volumes id ≡ present
  own_are = ap (λ (o : Option ℕ). told_blocks g (option_map_or (λ n. n) o 0)) has.1 ∙ sym has.2

  -- and in a pool with these contents
  plain_are : (image : List Sector) (s : PlainPool) → IsWithinLimits g → HasContents g now image s → volume_blocks s id ≡ present
  plain_are image s limits contents =
      let same : s.geometry.block_sectors ≡ g.block_sectors = ap (λ (x : Geometry). x.block_sectors) contents.geometry in
      blocks_by s id (told_blocks g has.0) g.block_sectors (omega (arith, limits.block_least)) same (contents.sizes id ∙ ap (option_map (told_sectors g)) has.1) ∙ sym has.2

  -- no fewer than the pool's own size has
  own_least : IsWithinLimits g → IsWithin g now.volumes → g.virtual_blocks ≤ present
  own_least limits within =
      let b = told_within g limits has.0 (within.sized.told id has.0 has.1) in
      omega (arith, b.0, has.2)

-- so many blocks may be told, and are told so
may_be_told : (g : Geometry) (blocks : ℕ) → g.virtual_blocks ≤ blocks → blocks ≤ 2 ^ 24 → IsToldSize g (size_for g blocks)
may_be_told g blocks least most =
    elim (cases_eq blocks g.virtual_blocks) [
      | inl e ↦ inl (ap (λ (b : Bool). if b then 0 else blocks) (eq-eqb blocks g.virtual_blocks e))
      | inr n ↦
          let is : size_for g blocks ≡ blocks = ap (λ (b : Bool). if b then 0 else blocks) (ne_eqb blocks g.virtual_blocks n) in
          inr (omega (arith, is, least, n), omega (arith, is, most))
    ]

told_for : (g : Geometry) (blocks : ℕ) → 0 < blocks → told_blocks g (size_for g blocks) ≡ blocks
told_for g blocks some =
    elim (cases_eq blocks g.virtual_blocks) [
      | inl e ↦ ap (told_blocks g) (ap (λ (b : Bool). if b then 0 else blocks) (eq-eqb blocks g.virtual_blocks e)) ∙ sym e
      | inr n ↦
          ap (told_blocks g) (ap (λ (b : Bool). if b then 0 else blocks) (ne_eqb blocks g.virtual_blocks n))
          ∙ ap (λ (b : Bool). if b then g.virtual_blocks else blocks) (ne_eqb blocks 0 (λ e. absurd (omega (arith, e, some))))
    ]

-- the size that is told of a volume is the one of as many blocks
size_again : (g : Geometry) (size : ℕ) → IsToldSize g size → 0 < g.virtual_blocks → size_for g (told_blocks g size) ≡ size
size_again g size (inl none) some =
    ap (λ n. size_for g (told_blocks g n)) none ∙ (ap (λ (b : Bool). if b then 0 else g.virtual_blocks) (eq-eqb g.virtual_blocks g.virtual_blocks refl) ∙ sym none)
size_again g size (inr told) some =
    ap (size_for g) (ap (λ (b : Bool). if b then g.virtual_blocks else size) (ne_eqb size 0 (λ e. absurd (omega (arith, e, told.0)))))
    ∙ ap (λ (b : Bool). if b then 0 else size) (ne_eqb size g.virtual_blocks (λ e. absurd (omega (arith, e, told.0))))

-- a device that tells the size that it told before
same_size : (id size : ℕ) (ds : Volumes) → size_of id ds ≡ Some size → resized id size ds ≡ ds
same_size id size [] told = refl
same_size id size (d ∷ ds) told =
    elim (cases_eq d.id id) [
      | inl e ↦
          let is : d.size ≡ size = same_Some d.size size (sym (size_here id d ds e) ∙ told) in
          resized_here id size d ds e ∙ (λ i. record { id = d.id; size = sym is i; slots = d.slots } ∷ ds)
      | inr n ↦ resized_later id size d ds n ∙ ap (λ ys. d ∷ ys) (same_size id size ds (sym (size_later id d ds n) ∙ told))
    ]

-- with as many blocks as it has nothing changes
resized_same : (g : Geometry) (id present : ℕ) (now : Contents) → IsWithinLimits g → IsWithin g now.volumes → HasBlocks g id present now → resized id (size_for g present) now.volumes ≡ now.volumes
resized_same g id present now limits within has =
    let told = within.sized.told id has.0 has.1 in
    let is : size_for g present ≡ has.0 = ap (size_for g) has.2 ∙ size_again g has.0 told (omega (arith, limits.virtual_least)) in
    ap (λ n. resized id n now.volumes) is ∙ same_size id has.0 now.volumes has.1

-- ---- the tests that read

-- the verdict of three tests
abbrev verdict_of : Bool → Bool → Bool → Option Refusal
verdict_of misses held bad = first_failed ((misses, NoSuchDevice) ∷ (held, Busy) ∷ (bad, BadSize) ∷ [])

-- there is no such volume
pub grown_missing : (g : Geometry) (id blocks : ℕ) (holders : List Holding) (now : Contents) → false ≡ is_some (device_of id now.volumes) → grown_tests g id blocks holders now ≡ Some NoSuchDevice
grown_missing g id blocks holders now none =
    ap (λ (b : Bool). verdict_of (not b) (nat_lt 0 (hold_count (holds_of holders) id)) (is_bad_size (own_blocks g now.volumes id) blocks)) (sym none)

-- there is one, and its size is tested
pub grown_sized : (g : Geometry) (id blocks present : ℕ) (holders : List Holding) (now : Contents) (is_busy : Bool) (result : Result ℕ Refusal) → result ≡ size_verdict is_busy present blocks
    → is_busy ≡ nat_lt 0 (hold_count (holds_of holders) id) → HasBlocks g id present now → SizedSo g id now result (grown_tests g id blocks holders now)
grown_sized g id blocks present holders now is_busy result is busy has =
    let tests : verdict_of false is_busy (is_bad_size present blocks) ≡ grown_tests g id blocks holders now =
    (λ i. verdict_of (not (sym (there_told g id present now has) i)) (busy i) (is_bad_size (sym (own_are g id present now has) i) blocks)) in
    subst (λ (r : Result ℕ Refusal). SizedSo g id now r (grown_tests g id blocks holders now)) (sym is)
    (subst (SizedSo g id now (size_verdict is_busy present blocks)) tests (by is_busy (is_bad_size present blocks)))
  where
    by : (held bad : Bool) → SizedSo g id now (if held then Err Busy else (if bad then Err BadSize else Ok present)) (verdict_of false held bad)
    by true bad = λ e. refl
    by false true = λ e. refl
    by false false = (refl, has)

-- a failure
pub grown_failure : (reason : Refusal) → (reason ≡ Fault) ⊎ (reason ≡ Damaged) → RefusesGrown reason
grown_failure reason (inl e) = inl e
grown_failure reason (inr e) = inr (inl e)

-- ---- the tests of the plain pool

abbrev pub grow_verdict : Bool → Bool → Bool → Bool → Bool → Bool → Option Refusal
grow_verdict failed read_only misses held bad short = first_failed (
    (failed, Failed) ∷ (read_only, ReadOnly) ∷ (misses, NoSuchDevice) ∷ (held, Busy) ∷ (bad, BadSize) ∷ (short, NoMetadataSpace) ∷ [])

pub grown_commits : (reason : Refusal) → RefusesGrown reason → refused_commits reason ≡ false
grown_commits reason (inl e) = ap refused_commits e
grown_commits reason (inr (inl e)) = ap refused_commits e
grown_commits reason (inr (inr (inl e))) = ap refused_commits e
grown_commits reason (inr (inr (inr (inl e)))) = ap refused_commits e
grown_commits reason (inr (inr (inr (inr e)))) = ap refused_commits e

pub growth_tests : (s : PlainPool) (id blocks : ℕ) (failed read_only misses held bad short : Bool) → is_failed s.mode ≡ failed → is_read_only s.mode ≡ read_only → not (exists s id) ≡ misses
    → nat_lt 0 (hold_count s.holds id) ≡ held → is_bad_size (volume_blocks s id) blocks ≡ bad → not (has_metadata_room s 512) ≡ short
    → refusal_of s (Grow id blocks) ≡ grow_verdict failed read_only misses held bad short
growth_tests s id blocks failed read_only misses held bad short a b c d e f = (λ i. grow_verdict (a i) (b i) (c i) (d i) (e i) (f i))

-- the first of them that fails, where the size is known of a volume that is there
verdict_first : (misses held bad told short : Bool) (reason : Refusal) → (misses ≡ false → told ≡ bad) → verdict_of misses held bad ≡ Some reason
    → grow_verdict false false misses held told short ≡ Some reason
verdict_first true held bad told short reason same e = e
verdict_first false true bad told short reason same e = e
verdict_first false false bad told short reason same e = ap (λ (b : Bool). grow_verdict false false false false b short) (same refl) ∙ by bad e
  where
    by : (b : Bool) → verdict_of false false b ≡ Some reason → grow_verdict false false false false b short ≡ Some reason
    by true e = e
    by false e = absurd (none-some reason e)

three_pass : (misses held bad : Bool) → verdict_of misses held bad ≡ None → (misses ≡ false) × (held ≡ false) × (bad ≡ false)
three_pass true held bad e = absurd (none-some NoSuchDevice (sym e))
three_pass false true bad e = absurd (none-some Busy (sym e))
three_pass false false true e = absurd (none-some BadSize (sym e))
three_pass false false false e = (refl, refl, refl)

pub grow_alters : (id blocks : ℕ) → IsAlteration (Grow id blocks)
grow_alters id blocks = record {
  writes = refl;
  says = λ s. refl;
  keeps_not = refl;
  outline = λ s q makes. (ap (λ (p : PlainPool). p.geometry) makes.is, ap (λ (p : PlainPool). p.holds) makes.is);
  mode_is = λ s q makes. (ap (λ (p : PlainPool). p.mode) makes.is, ap (λ (p : PlainPool). p.needs_check) makes.is);
}

module _ {M : Type 0} {geometry : M → Geometry} {stands : M → DiskState → Contents → Contents → Type 0} {marks : M → List Bool} {room : M → ℕ}
    (laws : Laws geometry stands marks room) (id blocks : ℕ) where
  abbrev Tests : Held M → Contents → Option Refusal
  Tests h now = grown_tests (geometry h.metadata) id blocks h.holders now

  -- the size of a volume that there is
  size_is_told : (h : Held M) (s : PlainPool) (now kept : Contents) → HasPool geometry stands h now kept s → not (is_some (device_of id now.volumes)) ≡ false
      → volume_blocks s id ≡ own_blocks (geometry h.metadata) now.volumes id
  size_is_told h s now kept pool there = by (size_of id now.volumes) refl
    where
      by : (o : Option ℕ) → size_of id now.volumes ≡ o → volume_blocks s id ≡ own_blocks (geometry h.metadata) now.volumes id
      by None e = absurd (true≢false (sym (ap not (sym (size_changes.told id now.volumes) ∙ ap is_some e)) ∙ there))
      by (Some size) e =
          let g = geometry h.metadata in
          let has : HasBlocks g id (told_blocks g size) now = (size, e, refl) in
          plain_are g id (told_blocks g size) now has (seen h.disk.cells) s (laws.within h.metadata h.disk now kept pool.standing).limits pool.has
          ∙ sym (own_are g id (told_blocks g size) now has)

  refusal_by : (h : Held M) → id < 2 ^ 24 → is_failed h.mode ≡ false → is_read_only h.mode ≡ false → (s : PlainPool) (now kept : Contents) → HasPool geometry stands h now kept s → (short : Bool)
      → not (has_metadata_room s 512) ≡ short
      → refusal_of s (Grow id blocks)
      ≡ grow_verdict false false (not (is_some (device_of id now.volumes))) (nat_lt 0 (hold_count (holds_of h.holders) id)) (is_bad_size (volume_blocks s id) blocks) short
  refusal_by h low works writes s now kept pool short e =
      growth_tests s id blocks false false (not (is_some (device_of id now.volumes))) (nat_lt 0 (hold_count (holds_of h.holders) id)) (is_bad_size (volume_blocks s id) blocks) short
      (ap is_failed pool.mode_is ∙ works) (ap is_read_only pool.mode_is ∙ writes) (ap not (exists_is_listed (geometry h.metadata) now (seen h.disk.cells) s id low pool.has))
      (ap (λ m. nat_lt 0 (hold_count m id)) pool.holds) refl e

  tested : (h : Held M) (reason : Refusal) → id < 2 ^ 24 → is_failed h.mode ≡ false → is_read_only h.mode ≡ false
      → ((now kept : Contents) → stands h.metadata h.disk now kept → Tests h now ≡ Some reason)
      → (s : PlainPool) (now kept : Contents) → HasPool geometry stands h now kept s → refusal_of s (Grow id blocks) ≡ Some reason
  tested h reason low works writes told s now kept pool =
      let g = geometry h.metadata in
      let short = not (has_metadata_room s 512) in
      refusal_by h low works writes s now kept pool short refl
      ∙ verdict_first (not (is_some (device_of id now.volumes))) (nat_lt 0 (hold_count (holds_of h.holders) id)) (is_bad_size (own_blocks g now.volumes id) blocks) (is_bad_size (volume_blocks s id) blocks) short reason
      (λ there. ap (λ n. is_bad_size n blocks) (size_is_told h s now kept pool there)) (told now kept pool.standing)

  pub grow_read_only_called : (h : Held M) → is_failed h.mode ≡ false → is_read_only h.mode ≡ true → PoolCalled geometry stands h h (Grow id blocks) (Refused ReadOnly)
  grow_read_only_called h works reads =
      called_tested laws h (Grow id blocks) ReadOnly works refl (λ s. refl) refl (λ s now kept pool.
      growth_tests s id blocks false true (not (exists s id)) (nat_lt 0 (hold_count s.holds id)) (is_bad_size (volume_blocks s id) blocks) (not (has_metadata_room s 512))
      (ap is_failed pool.mode_is ∙ works) (ap is_read_only pool.mode_is ∙ reads) refl refl refl refl)

  -- a test that reads refuses it, or the disk failed in one
  pub grow_tested : (h : Held M) (x : Refusal) → id < 2 ^ 24 → is_failed h.mode ≡ false → is_read_only h.mode ≡ false
      → ((now kept : Contents) → stands h.metadata h.disk now kept → is_failure x ≡ false → Tests h now ≡ Some x)
      → (x ≡ Damaged → (now kept : Contents) → stands h.metadata h.disk now kept → ⊥) → RefusesGrown x
      → PoolRefused geometry stands h (failed_by x (record h { disk = after_read (not (is_fault_refusal x)) h.disk })) (Grow id blocks) x
  grow_tested h x low works writes told never (inl e) = write_refused laws h (Grow id blocks) x works refl refl (grow_alters id blocks).outline (inl e) never
  grow_tested h x low works writes told never (inr (inl e)) = write_refused laws h (Grow id blocks) x works refl refl (grow_alters id blocks).outline (inr e) never
  grow_tested h x low works writes told never (inr (inr (inl e))) =
      subst (λ (r : Refusal). PoolRefused geometry stands h (failed_by r (record h { disk = after_read (not (is_fault_refusal r)) h.disk })) (Grow id blocks) r) (sym e)
      (called_tested laws h (Grow id blocks) NoSuchDevice works refl (λ s. refl) refl
      (tested h NoSuchDevice low works writes (λ now kept st. subst (λ (r : Refusal). is_failure r ≡ false → Tests h now ≡ Some r) e (told now kept st) refl)))
  grow_tested h x low works writes told never (inr (inr (inr (inl e)))) =
      subst (λ (r : Refusal). PoolRefused geometry stands h (failed_by r (record h { disk = after_read (not (is_fault_refusal r)) h.disk })) (Grow id blocks) r) (sym e)
      (called_tested laws h (Grow id blocks) Busy works refl (λ s. refl) refl
      (tested h Busy low works writes (λ now kept st. subst (λ (r : Refusal). is_failure r ≡ false → Tests h now ≡ Some r) e (told now kept st) refl)))
  grow_tested h x low works writes told never (inr (inr (inr (inr e)))) =
      subst (λ (r : Refusal). PoolRefused geometry stands h (failed_by r (record h { disk = after_read (not (is_fault_refusal r)) h.disk })) (Grow id blocks) r) (sym e)
      (called_tested laws h (Grow id blocks) BadSize works refl (λ s. refl) refl
      (tested h BadSize low works writes (λ now kept st. subst (λ (r : Refusal). is_failure r ≡ false → Tests h now ≡ Some r) e (told now kept st) refl)))

-- ---- what changes the metadata

-- the premises of what is told of a volume that grows
abbrev MayTell : Geometry → ℕ → ℕ → Contents → Type 0
MayTell g id blocks now =
    IsSome (device_of id now.volumes) × IsToldSize g (size_for g blocks) × ((size : ℕ) → size_of id now.volumes ≡ Some size → told_blocks g size ≤ blocks)

may_tell : (g : Geometry) (id present blocks : ℕ) (now : Contents) → IsWithinLimits g → IsWithin g now.volumes → present ≤ blocks → blocks ≤ 2 ^ 24 → HasBlocks g id present now → MayTell g id blocks now
may_tell g id present blocks now limits within more most has =
    let least = own_least g id present now has limits within in (
      is_there g id present now has,
      may_be_told g blocks (omega (arith, least, more)) most,
      λ size told.
          let same : has.0 ≡ size = same_Some has.0 size (sym has.1 ∙ told) in
          omega (arith, more, has.2, ap (told_blocks g) same),
    )

where_ok : (P : Type 0) (r : Result (Unit {0}) StoreError) → r ≡ Ok tt → OnOk r P → P
where_ok P (Ok x) e told = told
where_ok P (Err x) e told = absurd (true≢false (ap is_err e))

-- nothing was done
ran_none : {M : Type 0} (geometry : M → Geometry) (room : M → ℕ) (metadata : M) (d : DiskState) → Ran 64 false (room metadata) (room metadata) (geometry metadata) (geometry metadata) d d
ran_none geometry room metadata d = record {
  geometry = refl;
  room = omega arith;
  same_disk = record { size = refl; is_honest = refl };
  cause = record { no_fewer = omega arith; more = λ faulted. absurd (false≢true faulted); none = λ faulted. refl };
  flushes = refl;
  time = at_once d;
}

module _ {M : Type 0} {geometry : M → Geometry} {stands : M → DiskState → Contents → Contents → Type 0} {marks : M → List Bool} {room : M → ℕ}
    (laws : Laws geometry stands marks room) (id present blocks : ℕ) (more : present ≤ blocks) (most : blocks ≤ 2 ^ 24) (mid : M) (d : DiskState) (metadata : M) (last : DiskState)
    (result : Result (Unit {0}) StoreError) (same : blocks ≡ present → (is_err result ≡ false) × (metadata ≡ mid) × (last ≡ d))
    (altered : (blocks ≡ present → ⊥) → IsAltered geometry stands room 64 mid metadata d last result
    (λ P. (now kept : Contents) → stands mid d now kept → IsSome (device_of id now.volumes) → IsToldSize (geometry mid) (size_for (geometry mid) blocks)
    → ((size : ℕ) → size_of id now.volumes ≡ Some size → told_blocks (geometry mid) size ≤ blocks) → P now kept)
    (λ done now kept. StandsWith stands marks metadata last now kept (resized id (size_for (geometry mid) blocks) now.volumes) (marks mid))) where
  no_fault : (r : Result (Unit {0}) StoreError) → is_err r ≡ false → errors_of.is_fault r ≡ false
  no_fault (Ok x) none = refl
  no_fault (Err e) none = absurd (true≢false none)

  told_may : (now kept : Contents) → stands mid d now kept → HasBlocks (geometry mid) id present now → MayTell (geometry mid) id blocks now
  told_may now kept st has =
      let within = laws.within mid d now kept st in
      may_tell (geometry mid) id present blocks now within.limits within.volumes_now more most has

  pub enlarge_ran : Ran 64 (errors_of.is_fault result) (room mid) (room metadata) (geometry mid) (geometry metadata) d last
  enlarge_ran = elim (cases_eq blocks present) [
    | inl e ↦
        let s = same e in
        subst (λ (b : Bool). Ran 64 b (room mid) (room metadata) (geometry mid) (geometry metadata) d last) (sym (no_fault result s.0))
        (subst (λ (x : DiskState). Ran 64 false (room mid) (room metadata) (geometry mid) (geometry metadata) d x) (sym s.2)
        (subst (λ (m : M). Ran 64 false (room mid) (room m) (geometry mid) (geometry m) d d) (sym s.1) (ran_none geometry room mid d)))
    | inr n ↦ (altered n).ran
  ]

  pub enlarge_changing : (now kept : Contents) → stands mid d now kept → IsChanging (geometry mid) kept d last
  enlarge_changing now kept st = elim (cases_eq blocks present) [
    | inl e ↦
        subst (λ (x : DiskState). IsChanging (geometry mid) kept d x) (sym (same e).2)
        (record {
          any_moment = starts {P = IsStill (geometry mid) kept d.cells} d (λ image stop. (image, stop, laws.left mid d now kept st image stop, record { same_length = refl; same = λ i high. refl }));
          same_data = record { same_length = refl; same = λ i high. refl };
        })
    | inr n ↦ (altered n).changing now kept st
  ]

  pub enlarge_damaged : result ≡ Err errors.Damaged → (now kept : Contents) → stands mid d now kept → HasBlocks (geometry mid) id present now → ⊥
  enlarge_damaged damaged now kept st has = elim (cases_eq blocks present) [
    | inl e ↦ true≢false (sym (ap is_err damaged) ∙ (same e).0)
    | inr n ↦ let m = told_may now kept st has in (altered n).damaged damaged now kept st m.0 m.1 m.2
  ]

  -- what it made, where it was done
  pub record IsEnlarged (now kept : Contents) : Type 0 where
    pub meta_used : ℕ
    pub standing : stands metadata last (with_blocks (geometry mid) now id blocks meta_used) kept
    pub taken : now.held_root ≡ 0 → meta_used ≤ now.meta_used + 1
    pub untouched : blocks ≡ present → meta_used ≡ now.meta_used

  -- at most one metadata block more is in use then
  abbrev Used : Type 0
  Used = (now kept next before : Contents) → stands mid d now kept → stands metadata last next before → IsSome (device_of id now.volumes)
      → IsToldSize (geometry mid) (size_for (geometry mid) blocks) → ((size : ℕ) → size_of id now.volumes ≡ Some size → told_blocks (geometry mid) size ≤ blocks)
      → now.held_root ≡ 0 → next.meta_used ≤ now.meta_used + 1

  abbrev Made : Type 0
  Made = (now kept : Contents) → stands mid d now kept → IsSome (device_of id now.volumes) → IsToldSize (geometry mid) (size_for (geometry mid) blocks)
      → ((size : ℕ) → size_of id now.volumes ≡ Some size → told_blocks (geometry mid) size ≤ blocks)
      → StandsWith stands marks metadata last now kept (resized id (size_for (geometry mid) blocks) now.volumes) (marks mid)

  pub enlarge_made : result ≡ Ok tt
      → ((blocks ≡ present → ⊥) → OnOk result ((now kept next before : Contents) → stands mid d now kept → stands metadata last next before → IsSome (device_of id now.volumes)
      → IsToldSize (geometry mid) (size_for (geometry mid) blocks) → ((size : ℕ) → size_of id now.volumes ≡ Some size → told_blocks (geometry mid) size ≤ blocks)
      → now.held_root ≡ 0 → next.meta_used ≤ now.meta_used + 1))
      → (now kept : Contents) → stands mid d now kept → HasBlocks (geometry mid) id present now → IsEnlarged now kept
  enlarge_made done used now kept st has = elim (cases_eq blocks present) [
    | inl e ↦
        let s = same e in
        let within = laws.within mid d now kept st in
        let still : resized id (size_for (geometry mid) blocks) now.volumes ≡ now.volumes =
        ap (λ n. resized id (size_for (geometry mid) n) now.volumes) e ∙ resized_same (geometry mid) id present now within.limits within.volumes_now has in
        record {
          meta_used = now.meta_used;
          standing =
              subst (λ (v : Volumes). stands metadata last (record now { volumes = v }) kept) (sym still)
              (subst (λ (x : DiskState). stands metadata x now kept) (sym s.2) (subst (λ (m : M). stands m d now kept) (sym s.1) st));
          taken = λ none. omega arith;
          untouched = λ same_blocks. refl;
        }
    | inr n ↦
        let m = told_may now kept st has in
        let w = where_ok Made result done (altered n).made now kept st m.0 m.1 m.2 in
        let next : Contents = with_blocks (geometry mid) now id blocks w.0.0 in
        record {
          meta_used = w.0.0;
          standing = w.0.1;
          taken = λ none. where_ok Used result done (used n) now kept next kept st w.0.1 m.0 m.1 m.2 none;
          untouched = λ same_blocks. absurd (n same_blocks);
        }
  ]

-- ---- behind the tests that read

module _ {M : Type 0} (geometry : M → Geometry) (stands : M → DiskState → Contents → Contents → Type 0) (id blocks present : ℕ) where
  -- The pool may be written, and the tests of what stands pass. It is as it was at the start of the call.
  pub record IsGrowable (start old : Held M) : Type 0 where
    pub same : old ≡ start
    pub works : old.mode ≡ mode.Writable
    pub low : id < 2 ^ 24
    pub passed : (now kept : Contents) → stands old.metadata old.disk now kept
        → (grown_tests (geometry old.metadata) id blocks old.holders now ≡ None) × HasBlocks (geometry old.metadata) id present now

  pub growable : (start was : Held M) → was ≡ start → is_failed start.mode ≡ false → is_read_only start.mode ≡ false → id < 2 ^ 24
      → ((now kept : Contents) → stands start.metadata start.disk now kept → (grown_tests (geometry start.metadata) id blocks start.holders now ≡ None) × HasBlocks (geometry start.metadata) id present now)
      → IsGrowable start was
  growable start was view works writes low told = record {
    low = low;
    same = view;
    works = ap (λ (h : Held M). h.mode) view ∙ writable_is start.mode works writes;
    passed = subst (λ (h : Held M). (now kept : Contents) → stands h.metadata h.disk now kept → (grown_tests (geometry h.metadata) id blocks h.holders now ≡ None) × HasBlocks (geometry h.metadata) id present now)
        (sym view) told;
  }

module _ {M : Type 0} {geometry : M → Geometry} {stands : M → DiskState → Contents → Contents → Type 0} {marks : M → List Bool} {room : M → ℕ}
    (laws : Laws geometry stands marks room) (id blocks present : ℕ) (more : present ≤ blocks) (most : blocks ≤ 2 ^ 24) (start old : Held M) (ready_is : IsGrowable geometry stands id blocks present start old)
    (lacks : Bool) (told : (d : DiskState) (now kept : Contents) → stands old.metadata d now kept → IsTrue lacks ↔ LacksMetadata (geometry old.metadata) now) where
  abbrev call : Call
  call = Grow id blocks

  abbrev g : Geometry
  g = geometry old.metadata

  works : old.mode ≡ mode.Writable
  works = ready_is.works

  allowed : (s : PlainPool) (now kept : Contents) → HasPool geometry stands old now kept s → IsAllowed s call
  allowed s now kept pool = tt

  refusal_is : (s : PlainPool) (now kept : Contents) → HasPool geometry stands old now kept s → (short : Bool) → not (has_metadata_room s 512) ≡ short
      → refusal_of s call ≡ grow_verdict false false false false false short
  refusal_is s now kept pool short e =
      let tests = (ready_is.passed now kept pool.standing).0 in
      let p = three_pass (not (is_some (device_of id now.volumes))) (nat_lt 0 (hold_count (holds_of old.holders) id)) (is_bad_size (own_blocks g now.volumes id) blocks) tests in
      let size : is_bad_size (volume_blocks s id) blocks ≡ false = ap (λ n. is_bad_size n blocks) (size_is_told laws id blocks old s now kept pool p.0) ∙ p.2 in
      refusal_by laws id blocks old ready_is.low (ap is_failed works) (ap is_read_only works) s now kept pool short e
      ∙ (λ i. grow_verdict false false (p.0 i) (p.1 i) (size i) short)

  -- there is no metadata room for it
  pub grow_short : lacks ≡ true → LacksRoom geometry stands old call
  grow_short short = record {
    writes = refl;
    refused = λ s shown. elim shown [
      | inl w ↦ refusal_is s w.0 w.1 w.2 true (no_room_is s g w.0 (seen old.disk.cells) w.2.has ((told old.disk w.0 w.1 w.2.standing).0 short))
      | inr f ↦ absurd (false≢true (sym (ap is_failed works) ∙ ap is_failed f.failed))
    ];
  }

  pub grow_refused : (new : Held M) (result : Result (Unit {0}) Refusal) → lacks ≡ true
      → ((any : Call) → LacksRoom geometry stands old any → PoolTried geometry stands old new any result)
      → PoolTried geometry stands start new call result
  grow_refused new result short refused =
      subst (λ (h : Held M). PoolTried geometry stands h new call result) ready_is.same (refused call (grow_short short))

  abbrev From : Held M → DiskState → Type 0
  From h new = HasFlushed geometry stands marks room h new call

  pub grow_flushed_short : (new : DiskState) → lacks ≡ true → (old.disk.flushes ≤ new.flushes) × (new.flushes ≤ old.disk.flushes + 2) → From start new
  grow_flushed_short new short few =
      subst (λ (h : Held M). From h new) ready_is.same (counted_short geometry stands marks room old call works refl new (grow_short short).refused few)

  module _ (passes : lacks ≡ false) where
    spared : (now kept : Contents) → stands old.metadata old.disk now kept → LacksMetadata g now → ⊥
    spared now kept st = passes_room g now lacks (told old.disk now kept st) passes

    accepted : (s : PlainPool) (now kept : Contents) → HasPool geometry stands old now kept s → refusal_of s call ≡ None
    accepted s now kept pool = refusal_is s now kept pool false (room_is s g now (seen old.disk.cells) pool.has (spared now kept pool.standing))

    -- it gives no sector a value
    no_values : (s : PlainPool) (now kept : Contents) → HasPool geometry stands old now kept s → (i k : ℕ) (x : Sector) → Given g Flush 0 [] i k x → GivenIn s call i k x
    no_values s now kept pool i k x h = absurd (nothing_given g i k x h)

    -- the commit before it failed
    pub grow_unreclaimed : (reason : Refusal) (metadata : M) (d : DiskState) → geometry metadata ≡ g → IsLater old.disk d
        → FaultHasCause (is_fault_refusal reason) old.disk d
        → ((now kept : Contents) → stands old.metadata old.disk now kept → (LacksMetadata g now → ⊥) → LeavesOnly old.disk d (IsReclaiming g now kept old.disk))
        → (reason ≡ Damaged → (now kept : Contents) → stands old.metadata old.disk now kept → (LacksMetadata g now → ⊥) → ⊥)
        → (reason ≡ Fault) ⊎ (reason ≡ Damaged)
        → PoolRefused geometry stands start (failed_by reason (record old { disk = d; metadata = metadata })) call reason
    grow_unreclaimed = alter_unreclaimed laws call (grow_alters id blocks) Flush 0 (λ c. []) 512 start old ready_is.same works allowed accepted spared no_values

    module _ (mid : M) (d : DiskState) (same : geometry mid ≡ g) (later : IsLater old.disk d) (cause : FaultHasCause false old.disk d)
        (left : (now kept : Contents) → stands old.metadata old.disk now kept → (LacksMetadata g now → ⊥) → LeavesOnly old.disk d (IsReclaiming g now kept old.disk))
        (done : (now kept : Contents) → stands old.metadata old.disk now kept → (LacksMetadata g now → ⊥)
        → (IsAsBefore geometry stands marks old.metadata mid old.disk d × (0 ≤ free_places g now.volumes kept.volumes)) ⊎ IsKept geometry stands marks old.metadata mid old.disk d now)
        (metadata : M) (last : DiskState) (result : Result (Unit {0}) StoreError) (same_blocks : blocks ≡ present → (is_err result ≡ false) × (metadata ≡ mid) × (last ≡ d))
        (altered : (blocks ≡ present → ⊥) → IsAltered geometry stands room 64 mid metadata d last result
        (λ P. (now kept : Contents) → stands mid d now kept → IsSome (device_of id now.volumes) → IsToldSize (geometry mid) (size_for (geometry mid) blocks)
        → ((size : ℕ) → size_of id now.volumes ≡ Some size → told_blocks (geometry mid) size ≤ blocks) → P now kept)
        (λ done now kept. StandsWith stands marks metadata last now kept (resized id (size_for (geometry mid) blocks) now.volumes) (marks mid))) where
      done_alone : (now kept : Contents) → stands old.metadata old.disk now kept → (LacksMetadata g now → ⊥)
          → IsAsBefore geometry stands marks old.metadata mid old.disk d ⊎ IsKept geometry stands marks old.metadata mid old.disk d now
      done_alone now kept st enough = elim (done now kept st enough) [ inl w ↦ inl w.0 | inr k ↦ inr k ]

      ran : Ran 64 (errors_of.is_fault result) (room mid) (room metadata) (geometry mid) (geometry metadata) d last
      ran = enlarge_ran laws id present blocks more most mid d metadata last result same_blocks altered

      changing : (now kept : Contents) → stands mid d now kept → IsChanging (geometry mid) kept d last
      changing = enlarge_changing laws id present blocks more most mid d metadata last result same_blocks altered

      same_last : geometry metadata ≡ g
      same_last = ran.geometry ∙ same

      half : (s : PlainPool) (now kept before : Contents) → HasPool geometry stands old now kept s → stands mid d now before → LeavesOnly d last (IsHalf g Flush 0 [] before d.cells)
      half s now kept before pool standing =
          half_changing g Flush 0 [] before d last
          (subst (λ (x : Geometry). LeavesOnly d last (IsStill x before d.cells)) same (changing now before standing).any_moment)

      stood : (now kept : Contents) → stands old.metadata old.disk now kept → (before : Contents) × stands mid d now before
      stood =
          stood_or_kept laws call (grow_alters id blocks) Flush 0 (λ c. []) 512 start old ready_is.same works allowed accepted spared no_values mid d same later cause left done_alone
          metadata last same_last ran.time half

      has_blocks : (now kept : Contents) → stands old.metadata old.disk now kept → HasBlocks (geometry mid) id present now
      has_blocks now kept st = subst (λ (x : Geometry). HasBlocks x id present now) (sym same) (ready_is.passed now kept st).1

      -- it failed
      pub grow_failed : (error : StoreError) (reason : Refusal) → result ≡ Err error → errors_of.is_fault result ≡ is_fault_refusal reason → (reason ≡ Damaged → error ≡ errors.Damaged)
          → (reason ≡ Fault) ⊎ (reason ≡ Damaged) → PoolRefused geometry stands start (failed_by reason (record old { disk = last; metadata = metadata })) call reason
      grow_failed error reason is faults never only =
          alter_failed laws call (grow_alters id blocks) Flush 0 (λ c. []) 512 start old ready_is.same works allowed accepted spared no_values mid d same later cause left done_alone
          metadata last same_last ran.time half reason (subst (λ (b : Bool). FaultHasCause b d last) faults ran.cause)
          (λ e s now kept pool.
          let m = stood now kept pool.standing in
          enlarge_damaged laws id present blocks more most mid d metadata last result same_blocks altered (is ∙ ap (λ (x : StoreError). Err x) (never e)) now m.0 m.1 (has_blocks now kept pool.standing)) only

      -- it was done
      module _ (is_done : result ≡ Ok tt) (enough : 512 ≤ room mid)
          (used : (blocks ≡ present → ⊥) → OnOk result ((now kept next before : Contents) → stands mid d now kept → stands metadata last next before → IsSome (device_of id now.volumes)
          → IsToldSize (geometry mid) (size_for (geometry mid) blocks) → ((size : ℕ) → size_of id now.volumes ≡ Some size → told_blocks (geometry mid) size ≤ blocks)
          → now.held_root ≡ 0 → next.meta_used ≤ now.meta_used + 1)) where
        no_failure : last.failures ≡ d.failures
        no_failure = ran.cause.none (ap (λ (r : Result (Unit {0}) StoreError). not (errors_of.is_fault r)) is_done)

        still_enough : 128 ≤ room metadata
        still_enough = omega (arith, enough, ran.room)

        enlarged : (now before kept : Contents) → stands old.metadata old.disk now kept → stands mid d now before
            → IsEnlarged laws id present blocks more most mid d metadata last result same_blocks altered now before
        enlarged now before kept st standing =
            enlarge_made laws id present blocks more most mid d metadata last result same_blocks altered is_done used now before standing (has_blocks now kept st)

        -- what stands shows the volume that has grown
        grown_shown : (s : PlainPool) (now kept before : Contents) → HasPool geometry stands old now kept s → stands mid d now before → HasContents g now (seen d.cells) s → (meta_used : ℕ)
            → HasContents g (with_blocks g now id blocks meta_used) (seen last.cells) (with_grown s id blocks meta_used)
        grown_shown s now kept before pool standing has meta_used =
            let within = laws.within old.metadata old.disk now kept pool.standing in
            let volume = (ready_is.passed now kept pool.standing).1 in
            let least = own_least g id present now volume within.limits within.volumes_now in
            let size : told_blocks g (size_for g blocks) ≡ blocks = told_for g blocks (omega (arith, least, more, within.limits.virtual_least)) in
            let same_data = subst (λ (x : Geometry). SameData x (seen d.cells) (seen last.cells)) same (changing now before standing).same_data in
            same_data_shows g (with_blocks g now id blocks meta_used) (seen d.cells) (seen last.cells) (with_grown s id blocks meta_used) same_data
            (subst (λ n. HasContents g (with_blocks g now id blocks meta_used) (seen d.cells) (with_grown s id n meta_used)) size
            (grow_makes g now (seen d.cells) s within.limits within.volumes_now has id (size_for g blocks) meta_used (is_there g id present now volume)
            (omega (arith, own_are g id present now volume, more, size))))

        made : (s : PlainPool) (now kept : Contents) → HasPool geometry stands old now kept s → (before : Contents) → stands mid d now before → HasContents g now (seen d.cells) s
            → HasMade laws call (grow_alters id blocks) Flush 0 (λ c. []) 512 start old ready_is.same works allowed accepted spared no_values metadata last s before
        made s now kept pool before standing has =
            let w = enlarged now before kept pool.standing standing in
            let limits = (laws.within old.metadata old.disk now kept pool.standing).limits in
            let volume = (ready_is.passed now kept pool.standing).1 in
            let as_told = plain_are g id present now volume (seen old.disk.cells) s limits pool.has in
            record {
              contents = with_blocks g now id blocks w.meta_used;
              pool = with_grown s id blocks w.meta_used;
              standing = subst (λ (x : Geometry). stands metadata last (with_blocks x now id blocks w.meta_used) before) same w.standing;
              has = grown_shown s now kept before pool standing has w.meta_used;
              makes = record {
                is = refl;
                taken = λ none. omega (arith, w.taken (sym pool.has.held_root ∙ none), pool.has.meta_used);
                untouched = λ equal. w.untouched (equal ∙ as_told) ∙ sym pool.has.meta_used;
              };
            }

        -- and is not kept yet
        pub grow_unkept : (changed : M → Bool) → HasReclaimed geometry stands marks room old last call
            → IsUnkept geometry stands marks room changed start (record old { disk = last; metadata = metadata }) call
        grow_unkept =
            alter_unkept laws call (grow_alters id blocks) Flush 0 (λ c. []) 512 start old ready_is.same works allowed accepted spared no_values mid d same later cause left done_alone
            metadata last same_last ran.time half no_failure still_enough made

    -- ---- how often it flushes

    module _ (mid : M) (d : DiskState) (few : (old.disk.flushes ≤ d.flushes) × (d.flushes ≤ old.disk.flushes + 2))
        (idle : 512 ≤ room old.metadata → (now kept : Contents) → stands old.metadata old.disk now kept → 0 ≤ free_places g now.volumes kept.volumes → (mid ≡ old.metadata) × (d ≡ old.disk)) where
      rests : (s : PlainPool) → shows geometry stands old s → (Lacks geometry stands marks room old call → ⊥) → d.flushes ≡ old.disk.flushes
      rests s (inl w) enough =
          let free : 512 ≤ room old.metadata = elim (cases_lt (room old.metadata) 512) [ inl lt ↦ absurd (enough (refl, lt)) | inr ge ↦ omega (arith, ge) ] in
          ap (λ (x : DiskState). x.flushes) (idle free w.0 w.1 w.2.standing (omega arith)).1
      rests s (inr f) enough = absurd (false≢true (sym (ap is_failed works) ∙ ap is_failed f.failed))

      accepts : (s : PlainPool) → shows geometry stands old s → refusal_of s call ≡ None
      accepts = alter_accepts laws call (grow_alters id blocks) Flush 0 (λ c. []) 512 start old ready_is.same works allowed accepted spared no_values

      pub grow_before : (new : DiskState) → new.flushes ≡ d.flushes → From start new
      grow_before new same = subst (λ (h : Held M). From h new) ready_is.same (counted_before geometry stands marks room old call works refl accepts d few rests new same)

      pub grow_reclaimed : (new : DiskState) → new.flushes ≡ d.flushes → HasReclaimed geometry stands marks room old new call
      grow_reclaimed new same = reclaimed geometry stands marks room old call works refl accepts d few rests new same
