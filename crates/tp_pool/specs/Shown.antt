-- Internal: the laws of what a pool shows: it has the pool's outline, and each volume has the size that is known of it.
use Rattle.std.proofs.Common.{◌≡◌, ◌≢◌, ℕ, ◌+◌, ◌-◌, ◌*◌, ◌^◌, ◌<◌, Option, None, Some, is_some, length, Bool, false, refl, sym, ap, subst, ◌∙◌, ◌≤◌, List, inl, inr, arith}
use Rattle.std.specs.Option.{option_map}
use Rattle.std.specs.Prelude.{nat_le, if◌then◌else◌}
use Rattle.std.specs.Ordering.{nat_cmp}
use Rattle.std.specs.FinMap.{FinMap, get}
use Rattle.std.proofs.Math.Nat.{mul-le-mul_right}
use Rattle.tp_model.specs.declared.mode.Mode.{Mode}
use Rattle.tp_model.specs.declared.mode.Mode.TheVariants as mode
use Rattle.std.proofs.lemmas.Bool.{cases_lt, false≢true, ne_eqb, true≢false}
use Rattle.std.proofs.lemmas.Option.{none-some, same_Some}
use Rattle.tp_model.specs.Geometry.{Geometry, IsWithinLimits, sectors_of_volume}
use Rattle.tp_model.specs.Pool.{IsConsistent, PlainPool, Volume, hold_count, outline_of, volume_size}
use Rattle.tp_model.specs.Calls.{is_failed, is_read_only}
use Rattle.tp_model.specs.Disk.{DiskState, seen}
use Rattle.tp_model.specs.Told.{IsToldSize, told_blocks, told_sectors}
use Rattle.tp_sharing.specs.Volumes.{AreSized, Volumes, device_of, size_of}
use Rattle.tp_sharing.proofs.Told.{size_changes}
use Rattle.tp_mapping.specs.Mapping.{IsWithin}
use Rattle.tp_stored.specs.Contents.{Contents, HasContents}
use Rattle.tp_stored.specs.Laws.{AreBounded}
use Rattle.tp_shown.proofs.Mapped.{pool_is_bounded}
use Rattle.tp_shown.proofs.Tests.{used_fits}
use Rattle.tp_holders.specs.Holders.{blocks_held, holds_of}
use Rattle.tp_holders.proofs.Rows.{none_held}
use Rattle.tp_pool.specs.Held.{HasPool, HasUse, Held, IsSomePool, moment_of, more_held, outline, shows}
use Rattle.tp_model.specs.DiskStops.{AfterStop, StoppedSince}
use Rattle.tp_model.specs.Sectors.{Sector}
use Rattle.tp_model.specs.PoolStops.{reopened}
use Rattle.tp_image.specs.Stands.{HasTrees, StandsFor}
use Rattle.tp_model.proofs.Moments.{stopped_at, stopped_longer, stopped_now}
use Rattle.tp_model.proofs.Found.{MayReopen-nothing}

-- a size that is told is no less than the pool's own, and no more than 2^24 blocks
pub told_within : (g : Geometry) → IsWithinLimits g → (size : ℕ) → IsToldSize g size → (g.virtual_blocks ≤ told_blocks g size) × (told_blocks g size ≤ 2 ^ 24)
told_within g limits size (inl none) = let is : told_blocks g size ≡ g.virtual_blocks = ap (told_blocks g) none in (omega (arith, is), omega (arith, is, limits.virtual_most))
told_within g limits size (inr told) =
    let is : told_blocks g size ≡ size = ap (λ (b : Bool). if b then g.virtual_blocks else size) (ne_eqb size 0 (λ e. absurd (omega (arith, e, told.0)))) in
    (omega (arith, is, told.0), omega (arith, is, told.1))

told_between : (g : Geometry) (ds : Volumes) (id size : ℕ) → IsWithinLimits g → AreSized g ds → Some size ≡ option_map (told_sectors g) (size_of id ds)
    → (sectors_of_volume g ≤ size) × (size ≤ 2 ^ 24 * g.block_sectors)
told_between g ds id size limits w e = go (size_of id ds) refl where
  go : (o : Option ℕ) → size_of id ds ≡ o → (sectors_of_volume g ≤ size) × (size ≤ 2 ^ 24 * g.block_sectors)
  go (Some n) k =
      let is : size ≡ told_sectors g n = same_Some size (told_sectors g n) (e ∙ ap (option_map (told_sectors g)) k) in
      let b = told_within g limits n (w.told id n k) in
      let low : g.virtual_blocks * g.block_sectors ≤ told_blocks g n * g.block_sectors = mul-le-mul_right g.block_sectors b.0 in
      let up : told_blocks g n * g.block_sectors ≤ 2 ^ 24 * g.block_sectors = mul-le-mul_right g.block_sectors b.1 in
      (omega (arith, is, low), omega (arith, is, up))
  go None k = absurd (none-some size (sym (e ∙ ap (option_map (told_sectors g)) k)))

module _ {M : Type 0} (geometry : M → Geometry) (stands : M → DiskState → Contents → Contents → Type 0) where
  pub shown : (h : Held M) (s : PlainPool) → shows geometry stands h s → outline_of s ≡ outline geometry h
  shown h s (inl w) = (λ i. record { geometry = w.2.has.geometry i; mode = w.2.mode_is i; holds = w.2.holds i })
  shown h s (inr f) = (λ i. record { geometry = f.geometry_is i; mode = (f.mode_is ∙ sym f.failed) i; holds = f.holds i })

  abbrev pub TreesLaw : Type 0
  TreesLaw = (metadata : M) (disk : DiskState) (now kept : Contents) (p : PlainPool) → stands metadata disk now kept
      → HasContents (geometry metadata) now (seen disk.cells) p → HasTrees (seen disk.cells) p

  -- what stands is within the sizes of the pool, and where no root is held, it has no copies
  abbrev pub WithinLaw : Type 0
  WithinLaw = (metadata : M) (disk : DiskState) (now kept : Contents) → stands metadata disk now kept
      → IsWithinLimits (geometry metadata) × IsWithin (geometry metadata) now.volumes × (now.held_root ≡ 0 → (id : ℕ) → 2 ^ 24 ≤ id → device_of id now.volumes ≡ None)

  -- and is one list of volumes
  abbrev pub OneLaw : Type 0
  OneLaw = (metadata : M) (disk : DiskState) (now kept next last : Contents) → stands metadata disk now kept → stands metadata disk next last → next.volumes ≡ now.volumes

  -- what is known of a volume that is held, and of another one
  more_known : (h : Held M) (s : PlainPool) (now kept : Contents) (id size : ℕ) → HasPool geometry stands h now kept s → volume_size s id ≡ Some size → sectors_of_volume (geometry h.metadata) ≤ size
      → sectors_of_volume (geometry h.metadata) + more_held (geometry h.metadata) h.holders id ≤ size
  more_known h s now kept id size pool is least = elim (cases_lt 0 (hold_count (holds_of h.holders) id)) [
    | inl some ↦
        let known = pool.known id (subst (λ (m : FinMap nat_cmp ℕ). 0 < hold_count m id) (sym pool.holds) some) in
        let same = same_Some size (sectors_of_volume (geometry h.metadata) + more_held (geometry h.metadata) h.holders id) (sym is ∙ known) in
        omega (arith, same)
    | inr none ↦
        let zero_ : blocks_held h.holders id ≡ 0 = none_held h.holders id (omega (arith, none)) in
        let gone : 0 - (geometry h.metadata).virtual_blocks ≡ 0 = omega arith in
        let product : 0 * (geometry h.metadata).block_sectors ≡ 0 = omega arith in
        let nothing : more_held (geometry h.metadata) h.holders id ≡ 0 =
        ap (λ n. ((if nat_le n (2 ^ 24) then n else 2 ^ 24) - (geometry h.metadata).virtual_blocks) * (geometry h.metadata).block_sectors) zero_
        ∙ (ap (λ n. n * (geometry h.metadata).block_sectors) gone ∙ product) in
        omega (arith, least, nothing)
  ]

  pub sized : WithinLaw → (h : Held M) (s : PlainPool) (id size : ℕ) → shows geometry stands h s → is_failed s.mode ≡ false → volume_size s id ≡ Some size
      → (sectors_of_volume s.geometry + more_held (geometry h.metadata) h.holders id ≤ size) × (size ≤ 2 ^ 24 * s.geometry.block_sectors)
  sized within h s id size (inl w) works is =
      let g = geometry h.metadata in
      let law = within h.metadata h.disk w.0 w.1 w.2.standing in
      let between = told_between g w.0.volumes id size law.0 law.1.sized (sym is ∙ w.2.has.sizes id) in
      let known = more_known h s w.0 w.1 id size w.2 is between.0 in
      subst (λ (x : Geometry). (sectors_of_volume x + more_held g h.holders id ≤ size) × (size ≤ 2 ^ 24 * x.block_sectors)) (sym w.2.has.geometry) (known, between.1)
  sized within h s id size (inr f) works is = absurd (false≢true (sym works ∙ ap is_failed f.mode_is))

  pub one_size : OneLaw → (h : Held M) (s t : PlainPool) (id : ℕ) → shows geometry stands h s → shows geometry stands h t → is_failed s.mode ≡ false → volume_size t id ≡ volume_size s id
  one_size one h s t id (inl w) (inl v) works =
      let g = geometry h.metadata in
      v.2.has.sizes id ∙ (ap (λ (ds : Volumes). option_map (told_sectors g) (size_of id ds)) (one h.metadata h.disk w.0 w.1 v.0 v.1 w.2.standing v.2.standing) ∙ sym (w.2.has.sizes id))
  one_size one h s t id (inl w) (inr f) works = absurd (false≢true (sym w.2.works ∙ ap is_failed f.failed))
  one_size one h s t id (inr f) b works = absurd (false≢true (sym works ∙ ap is_failed f.mode_is))

  -- what stands uses no more metadata blocks than its volumes may
  abbrev pub BoundLaw : Type 0
  BoundLaw = (metadata : M) (disk : DiskState) (now kept : Contents) → stands metadata disk now kept → AreBounded (geometry metadata) now

  pub used : TreesLaw → WithinLaw → BoundLaw → (h : Held M) (s : PlainPool) → shows geometry stands h s → HasUse s
  used trees within bounded h s (inl w) =
      let m = h.metadata in
      let pool = w.2 in
      inr (
        seen h.disk.cells,
        trees m h.disk w.0 w.1 s pool.standing pool.has,
        λ none. pool_is_bounded (geometry m) w.0 (seen h.disk.cells) s (within m h.disk w.0 w.1 pool.standing).1 pool.has none (bounded m h.disk w.0 w.1 pool.standing),
      )
  used trees within bounded h s (inr f) = inl f.mode_is

  not_writable : (m : Mode) → m ≡ mode.ReadOnly → m ≢ mode.Writable
  not_writable m is other = false≢true (sym (ap is_read_only other) ∙ ap is_read_only is)

  -- a device that is not there has no volume
  no_volume : (g : Geometry) (s : PlainPool) (ds : Volumes) (id : ℕ) → volume_size s id ≡ option_map (told_sectors g) (size_of id ds) → device_of id ds ≡ None → get s.volumes id ≡ None
  no_volume g s ds id sized none =
      by (get s.volumes id) (sized ∙ ap (option_map (told_sectors g)) (no_size (size_of id ds) (size_changes.told id ds ∙ ap is_some none)))
    where
      no_size : (o : Option ℕ) → is_some o ≡ false → o ≡ None
      no_size None e = refl
      no_size (Some n) e = absurd (true≢false e)

      by : (o : Option Volume) → option_map (λ (v : Volume). length v.sectors) o ≡ None → o ≡ None
      by None e = refl
      by (Some v) e = absurd (none-some (length v.sectors) (sym e))

  pub consistent : WithinLaw → (h : Held M) (s : PlainPool) → shows geometry stands h s → is_failed s.mode ≡ false → IsConsistent s
  consistent within h s (inl w) works =
      let pool = w.2 in
      let blocks : s.geometry.metadata_blocks ≡ (geometry h.metadata).metadata_blocks = ap (λ (g : Geometry). g.metadata_blocks) pool.has.geometry in
      record {
        sound = pool.sound;
        held = pool.found;
        data_room = used_fits (geometry h.metadata) w.0 (seen h.disk.cells) s (within h.metadata h.disk w.0 w.1 pool.standing).1 pool.has;
        metadata_room = omega (arith, pool.spare, pool.has.meta_used, blocks);
        check = λ wants. not_writable s.mode (pool.mode_is ∙ pool.check (sym pool.has.needs_check ∙ wants));
        copies = λ none id high.
            no_volume (geometry h.metadata) s w.0.volumes id (pool.has.sizes id)
            ((within h.metadata h.disk w.0 w.1 pool.standing).2 (sym pool.has.held_root ∙ none) id high);
      }
  consistent within h s (inr f) works = absurd (false≢true (sym works ∙ ap is_failed f.mode_is))

  pub at_now : (h : Held M) (image : List Sector) → AfterStop h.disk.cells image → StoppedSince (moment_of h) h.disk image
  at_now h image stop = stopped_at image h.disk stop

  pub only_now : (h : Held M) (image : List Sector) → StoppedSince (moment_of h) h.disk image → AfterStop h.disk.cells image
  only_now h image stop = stopped_now image h.disk stop

  pub wider : (h : Held M) (t u : ℕ) (image : List Sector) → t ≤ u → StoppedSince u h.disk image → StoppedSince t h.disk image
  wider h t u image le stop = stopped_longer image h.disk t u le stop

pub at_rest : (image : List Sector) (P : PlainPool) → IsSomePool image × StandsFor image P → P ≡ reopened P
at_rest image P is = let st = is.1 in MayReopen-nothing P P (record {
  geometry = refl;
  ids_and_sizes = λ _. refl;
  slots = λ _ _. refl;
  transaction_id = refl;
  needs_check = refl;
  meta_used = refl;
  held_root = refl;
  mode = st.mode ∙ ap (λ (b : Bool). if b then mode.ReadOnly else mode.Writable) (sym st.needs_check);
  holds = st.holds;
  sectors = λ _ _. inl refl;
})
