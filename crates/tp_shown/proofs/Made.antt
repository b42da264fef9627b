-- Pools that have given contents.
use Rattle.std.proofs.Common.{◌≡◌, ◌≢◌, ℕ, zero, suc, ◌+◌, ◌-◌, ◌*◌, ◌/◌, ◌%◌, ◌<◌, ◌≤◌, cond, List, [], ◌∷◌, length, map, replicate, Option, Some, None, ◌⊎◌, inl, inr, refl, sym, ap, subst, ◌∙◌, arith}
use Rattle.std.specs.Prelude.{slice_get}
use Rattle.std.specs.Option.{IsSome, option_map, option_map_or}
use Rattle.std.specs.List.{range_with_len}
use Rattle.std.specs.Ordering.{nat_cmp}
use Rattle.std.specs.FinMap.{FinMap, empty, get, insert, remove}
use Rattle.std.proofs.Math.Nat.{div-lt_iff_lt-mul, mod-lt, mul-le-mul_right}
use Rattle.std.proofs.lemmas.Bool.{cases_eq, cases_lt, eq-eqb, ne_eqb}
use Rattle.std.proofs.lemmas.List.{length-append, length-replicate}
use Rattle.std.proofs.lemmas.List.FromFn.{length-map-range_with_len}
use Rattle.std.proofs.lemmas.Option.{none-some, same_Some}
use Rattle.tp_model.specs.declared.mode.Mode.TheVariants.{ReadOnly, Writable}
use Rattle.tp_model.specs.Geometry.{Geometry, IsWithinLimits, data_sector, sectors_of_volume}
use Rattle.tp_model.specs.Told.{told_blocks, told_sectors}
use Rattle.tp_model.specs.Sectors.{Sector, sector_at, zero_sector}
use Rattle.tp_model.specs.Pool.{PlainPool, Volume, slot_at, volume_sector, volume_size}
use Rattle.tp_model.specs.Calls.{grown, new_volume, volume_of}
use Rattle.tp_model.proofs.Growing.{behind, in_front}
use Rattle.tp_model.proofs.Maps.{get_empty, get_insert, get_remove}
use Rattle.tp_model.proofs.Steps.{other_of_insert}
use Rattle.tp_sharing.specs.Volumes.{BlockSlot, DeviceSlots, Volumes, device_of, place_in, place_or_none, resized, size_of, slot_of, with_device, without_device}
use Rattle.tp_sharing.proofs.Changes.{device_changes}
use Rattle.tp_sharing.proofs.Sized.{resized_is_put}
use Rattle.tp_sharing.proofs.Slots.{device_here, device_later, place_here, place_later, size_here, size_later}
use Rattle.tp_sharing.proofs.Told.{size_changes}
use Rattle.tp_mapping.specs.Mapping.{IsWithin, slots_of, slots_or_none, size_or_none}
use Rattle.tp_stored.specs.Contents.{Contents, HasContents}
use Rattle.tp_mapping.proofs.Between.{size_there}
use Rattle.tp_shown.specs.Laws.{CreateMakes, DeleteMakes, GrowMakes, OpenedExists, SnapshotMakes, UnnamedMayChange}
use Rattle.tp_shown.specs.Shown.{own_blocks, own_sectors, value_of}
use Rattle.tp_shown.proofs.Values.{device_is_there, flat, no_value, of_device, slice_get-map-range, some_sectors}

pub get_same : {X : Type 0} (m : FinMap nat_cmp X) (k : ℕ) (v : X) → get (insert m k v) k ≡ Some v
get_same m k v = get_insert m k v k ∙ ap (λ b. cond b (Some v) (get m k)) (eq-eqb k k refl)

-- ---- maps of the lists

pub slots_map : List BlockSlot → FinMap nat_cmp ℕ
slots_map [] = empty
slots_map (x ∷ xs) = insert (slots_map xs) x.block x.place

pub get_slots_map : (xs : List BlockSlot) (block : ℕ) → get (slots_map xs) block ≡ place_in block xs
unfolding slots_map
get_slots_map [] block = get_empty block
get_slots_map (x ∷ xs) block = elim (cases_eq x.block block) [
  | inl e ↦ ap (λ b. get (insert (slots_map xs) x.block x.place) b) (sym e) ∙ (get_same (slots_map xs) x.block x.place ∙ sym (place_here block x xs e))
  | inr n ↦ other_of_insert (slots_map xs) x.block x.place block (λ e. n (sym e)) ∙ (get_slots_map xs block ∙ sym (place_later block x xs n))
]

module _ (g : Geometry) (image : List Sector) where
  -- a volume of n sectors with these slots, with what stands at their data blocks
  abbrev volume_of_slots : ℕ → List BlockSlot → Volume
  volume_of_slots n xs = record {
    sectors = map (λ k. value_of g image (place_in (k / g.block_sectors) xs) (k % g.block_sectors)) (range_with_len 0 n);
    slots = slots_map xs;
  }

  volumes_map : Volumes → FinMap nat_cmp Volume
  volumes_map [] = empty
  volumes_map (d ∷ ds) = insert (volumes_map ds) d.id (volume_of_slots (told_sectors g d.size) d.slots)

  get_volumes_map : (ds : Volumes) (id : ℕ) → get (volumes_map ds) id ≡ option_map (volume_of_slots (own_sectors g ds id)) (device_of id ds)
  unfolding volumes_map
  get_volumes_map [] id = get_empty id
  get_volumes_map (d ∷ ds) id = elim (cases_eq d.id id) [
    | inl e ↦
        ap (λ b. get (insert (volumes_map ds) d.id (volume_of_slots (told_sectors g d.size) d.slots)) b) (sym e)
        ∙ (get_same (volumes_map ds) d.id (volume_of_slots (told_sectors g d.size) d.slots) ∙ sym (λ i. option_map (volume_of_slots (told_sectors g (option_map_or (λ n. n) (size_here id d ds e i) 0))) (device_here id d ds e i)))
    | inr n ↦
        other_of_insert (volumes_map ds) d.id (volume_of_slots (told_sectors g d.size) d.slots) id (λ e. n (sym e))
        ∙ (get_volumes_map ds id ∙ sym (λ i. option_map (volume_of_slots (told_sectors g (option_map_or (λ n. n) (size_later id d ds n i) 0))) (device_later id d ds n i)))
  ]

  -- ---- a pool with the contents

  module _ (c : Contents) where
    abbrev opened : PlainPool
    opened = record {
      geometry = g;
      volumes = volumes_map c.volumes;
      held_root = c.held_root;
      transaction_id = c.transaction_id;
      needs_check = c.needs_check;
      mode = cond c.needs_check ReadOnly Writable;
      holds = empty;
      meta_used = c.meta_used;
    }

    sizes_by : (n : ℕ) (o : Option (List BlockSlot)) → option_map (λ (v : Volume). length v.sectors) (option_map (volume_of_slots n) o) ≡ option_map (λ slots. n) o
    sizes_by n None = refl
    sizes_by n (Some xs) = ap Some (length-map-range_with_len (λ k. value_of g image (place_in (k / g.block_sectors) xs) (k % g.block_sectors)) 0 n)

    slots_by : (n block : ℕ) (o : Option (List BlockSlot)) → get (option_map_or (λ v. v.slots) (option_map (volume_of_slots n) o) empty) block ≡ place_or_none block o
    slots_by n block None = get_empty block
    slots_by n block (Some xs) = get_slots_map xs block

    sectors_by : (n k : ℕ) → k < n → (o : Option (List BlockSlot)) → IsSome o
        → slice_get (option_map_or (λ v. v.sectors) (option_map (volume_of_slots n) o) []) k ≡ Some (value_of g image (place_or_none (k / g.block_sectors) o) (k % g.block_sectors))
    sectors_by n k lt None s = absurd (no_value {A = List BlockSlot} None refl s)
    sectors_by n k lt (Some xs) s = slice_get-map-range (λ k. value_of g image (place_in (k / g.block_sectors) xs) (k % g.block_sectors)) n k [] lt

    slots_are : (id block : ℕ) → slot_at opened id block ≡ slot_of id block c.volumes
    slots_are id block = ap (λ (o : Option Volume). get (option_map_or (λ v. v.slots) o empty) block) (get_volumes_map c.volumes id) ∙ slots_by (own_sectors g c.volumes id) block (device_of id c.volumes)

    sizes_are : (id : ℕ) → volume_size opened id ≡ option_map (told_sectors g) (size_of id c.volumes)
    sizes_are id =
        ap (option_map (λ (v : Volume). length v.sectors)) (get_volumes_map c.volumes id)
        ∙ (sizes_by (own_sectors g c.volumes id) (device_of id c.volumes) ∙ sym (flat g c.volumes id))

    told_here : (id size : ℕ) → volume_size opened id ≡ Some size → IsSome (device_of id c.volumes) × (size ≡ own_sectors g c.volumes id)
    told_here id size sized = of_device (own_sectors g c.volumes id) size (device_of id c.volumes) (sym (sizes_are id ∙ flat g c.volumes id) ∙ sized)

    sectors_are : (id k : ℕ) → k < own_sectors g c.volumes id → IsSome (device_of id c.volumes) → volume_sector opened id k ≡ Some (value_of g image (slot_of id (k / g.block_sectors) c.volumes) (k % g.block_sectors))
    sectors_are id k lt s = ap (λ (o : Option Volume). slice_get (option_map_or (λ v. v.sectors) o []) k) (get_volumes_map c.volumes id) ∙ sectors_by (own_sectors g c.volumes id) k lt (device_of id c.volumes) s

    has : HasContents g c image opened
    has = record {
      geometry = refl;
      transaction_id = refl;
      needs_check = refl;
      meta_used = refl;
      held_root = refl;
      sizes = sizes_are;
      slots = slots_are;
      sectors = record {
        mapped = λ id k place size sized lt e.
            let slot = sym (slots_are id (k / g.block_sectors)) ∙ e in
            let told = told_here id size sized in
            sectors_are id k (omega (arith, lt, told.1)) (device_is_there id (k / g.block_sectors) place c.volumes slot) ∙ ap (λ o. Some (value_of g image o (k % g.block_sectors))) slot;
        unmapped = λ id k size sized lt e.
            let slot = sym (slots_are id (k / g.block_sectors)) ∙ e in
            let told = told_here id size sized in
            sectors_are id k (omega (arith, lt, told.1)) told.0 ∙ ap (λ o. Some (value_of g image o (k % g.block_sectors))) slot;
      };
    }

pub opened_exists : OpenedExists
opened_exists g c image limits within = (opened g image c, record { has = has g image c; mode = refl; holds = refl })

-- ---- another image

pub unnamed_may_change : UnnamedMayChange
unnamed_may_change g c image seen p h same = record {
  geometry = h.geometry;
  transaction_id = h.transaction_id;
  needs_check = h.needs_check;
  meta_used = h.meta_used;
  held_root = h.held_root;
  sizes = h.sizes;
  slots = h.slots;
  sectors = record {
    mapped = λ id k place size sized lt e.
        let told = of_device (own_sectors g c.volumes id) size (device_of id c.volumes) (sym (h.sizes id ∙ flat g c.volumes id) ∙ sized) in
        let inside : k % g.block_sectors < g.block_sectors = mod-lt k (some_sectors (own_blocks g c.volumes id) g.block_sectors k (omega (arith, lt, told.1))) in
        h.sectors.mapped id k place size sized lt e
        ∙ ap Some (sym (same id (k / g.block_sectors) place (k % g.block_sectors) (sym (h.slots id (k / g.block_sectors)) ∙ e) inside));
    unmapped = h.sectors.unmapped;
  };
}

-- ---- a new volume

blank_at : (n k : ℕ) → k < n → slice_get (replicate n zero_sector) k ≡ Some zero_sector
blank_at zero k h = absurd (omega arith)
blank_at (suc n) zero h = refl
blank_at (suc n) (suc k) h = blank_at n k (omega arith)

-- a volume of n sectors with these slots, and what stands at their data blocks
record IsVolume (g : Geometry) (image : List Sector) (n : ℕ) (v : Volume) (slots : List BlockSlot) : Type 0 where
  pub size : length v.sectors ≡ n
  pub slots_are : (block : ℕ) → get v.slots block ≡ place_in block slots
  pub mapped : (k place : ℕ) → k < n → get v.slots (k / g.block_sectors) ≡ Some place
      → slice_get v.sectors k ≡ Some (sector_at image (data_sector g place + k % g.block_sectors))
  pub unmapped : (k : ℕ) → k < n → get v.slots (k / g.block_sectors) ≡ None → slice_get v.sectors k ≡ Some zero_sector

module _ (g : Geometry) (c : Contents) (image : List Sector) (p : PlainPool) (h : HasContents g c image p) (id meta_used : ℕ) (v : Volume) (slots : List BlockSlot)
    (told : ℕ) (is : IsVolume g image (told_sectors g told) v slots) where
  abbrev added : DeviceSlots
  added = record { id = id; size = told; slots = slots }

  abbrev q : PlainPool
  q = record p { volumes = insert p.volumes id v; meta_used = meta_used }

  abbrev after : Volumes
  after = with_device added c.volumes

  new_here : get q.volumes id ≡ Some v
  new_here = get_same p.volumes id v

  new_there : (i : ℕ) → i ≢ id → get q.volumes i ≡ get p.volumes i
  new_there i n = other_of_insert p.volumes id v i n

  device_new : device_of id after ≡ Some slots
  device_new = device_changes.with_same added c.volumes

  device_old : (i : ℕ) → i ≢ id → device_of i after ≡ device_of i c.volumes
  device_old i n = device_changes.with_other added i c.volumes n

  new_slot : (block : ℕ) → slot_at q id block ≡ get v.slots block
  new_slot block = ap (λ (o : Option Volume). get (option_map_or (λ v. v.slots) o empty) block) new_here

  new_slots : (i block : ℕ) → (i ≡ id) ⊎ (i ≢ id) → slot_at q i block ≡ slot_of i block after
  new_slots i block (inl e) =
      ap (λ j. slot_at q j block) e
      ∙ (new_slot block ∙ (is.slots_are block ∙ sym (ap (λ j. slot_of j block after) e ∙ ap (place_or_none block) device_new)))
  new_slots i block (inr n) =
      ap (λ (o : Option Volume). get (option_map_or (λ v. v.slots) o empty) block) (new_there i n)
      ∙ (h.slots i block ∙ sym (ap (place_or_none block) (device_old i n)))

  new_sizes : (i : ℕ) → (i ≡ id) ⊎ (i ≢ id) → volume_size q i ≡ option_map (told_sectors g) (size_of i after)
  new_sizes i (inl e) =
      ap (volume_size q) e
      ∙ (ap (option_map (λ (v : Volume). length v.sectors)) new_here
      ∙ (ap Some is.size
      ∙ sym (ap (λ j. option_map (told_sectors g) (size_of j after)) e ∙ ap (option_map (told_sectors g)) (size_changes.with_same added c.volumes))))
  new_sizes i (inr n) =
      ap (option_map (λ (v : Volume). length v.sectors)) (new_there i n)
      ∙ (h.sizes i ∙ sym (ap (option_map (told_sectors g)) (size_changes.with_other added i c.volumes n)))

  new_size : (i size : ℕ) → i ≡ id → volume_size q i ≡ Some size → size ≡ told_sectors g told
  new_size i size e sized =
      let here : volume_size q i ≡ Some (length v.sectors) = ap (volume_size q) e ∙ ap (option_map (λ (v : Volume). length v.sectors)) new_here in
      same_Some size (told_sectors g told) (sym sized ∙ (here ∙ ap Some is.size))

  new_sector : (k : ℕ) → volume_sector q id k ≡ slice_get v.sectors k
  new_sector k = ap (λ (o : Option Volume). slice_get (option_map_or (λ v. v.sectors) o []) k) new_here

  old_sector : (i k : ℕ) → i ≢ id → volume_sector q i k ≡ volume_sector p i k
  old_sector i k n = ap (λ (o : Option Volume). slice_get (option_map_or (λ v. v.sectors) o []) k) (new_there i n)

  old_slot : (i block : ℕ) → i ≢ id → slot_at q i block ≡ slot_at p i block
  old_slot i block n = ap (λ (o : Option Volume). get (option_map_or (λ v. v.slots) o empty) block) (new_there i n)

  -- what the slot of the new volume is
  slot_is : (i block : ℕ) (o : Option ℕ) → i ≡ id → slot_at q i block ≡ o → get v.slots block ≡ o
  slot_is i block o x e = sym (ap (λ j. slot_at q j block) x ∙ new_slot block) ∙ e

  new_mapped : (i k place size : ℕ) → volume_size q i ≡ Some size → k < size → slot_at q i (k / g.block_sectors) ≡ Some place → (i ≡ id) ⊎ (i ≢ id)
      → volume_sector q i k ≡ Some (sector_at image (data_sector g place + k % g.block_sectors))
  new_mapped i k place size sized lt e (inl x) =
      ap (λ j. volume_sector q j k) x ∙ (new_sector k ∙ is.mapped k place (omega (arith, lt, new_size i size x sized)) (slot_is i (k / g.block_sectors) (Some place) x e))
  new_mapped i k place size sized lt e (inr n) =
      old_sector i k n
      ∙ h.sectors.mapped i k place size (sym (ap (option_map (λ (v : Volume). length v.sectors)) (new_there i n)) ∙ sized) lt (sym (old_slot i (k / g.block_sectors) n) ∙ e)

  new_unmapped : (i k size : ℕ) → volume_size q i ≡ Some size → k < size → slot_at q i (k / g.block_sectors) ≡ None → (i ≡ id) ⊎ (i ≢ id) → volume_sector q i k ≡ Some zero_sector
  new_unmapped i k size sized lt e (inl x) =
      ap (λ j. volume_sector q j k) x ∙ (new_sector k ∙ is.unmapped k (omega (arith, lt, new_size i size x sized)) (slot_is i (k / g.block_sectors) None x e))
  new_unmapped i k size sized lt e (inr n) =
      old_sector i k n
      ∙ h.sectors.unmapped i k size (sym (ap (option_map (λ (v : Volume). length v.sectors)) (new_there i n)) ∙ sized) lt (sym (old_slot i (k / g.block_sectors) n) ∙ e)

  with_volume : HasContents g (record c { volumes = after; meta_used = meta_used }) image q
  with_volume = record {
    geometry = h.geometry;
    transaction_id = h.transaction_id;
    needs_check = h.needs_check;
    meta_used = refl;
    held_root = h.held_root;
    sizes = λ i. new_sizes i (cases_eq i id);
    slots = λ i block. new_slots i block (cases_eq i id);
    sectors = record {
      mapped = λ i k place size sized lt e. new_mapped i k place size sized lt e (cases_eq i id);
      unmapped = λ i k size sized lt e. new_unmapped i k size sized lt e (cases_eq i id);
    };
  }

blank_volume : (g x : Geometry) (image : List Sector) → x ≡ g → IsVolume g image (told_sectors g 0) (new_volume x) []
blank_volume g x image same = record {
  size = length-replicate (sectors_of_volume x) zero_sector ∙ ap sectors_of_volume same;
  slots_are = λ block. get_empty block;
  mapped = λ k place lt e. absurd (none-some place (sym (get_empty (k / g.block_sectors)) ∙ e));
  unmapped = λ k lt e. blank_at (sectors_of_volume x) k (subst (λ (y : Geometry). k < sectors_of_volume y) (sym same) lt);
}

pub create_makes : CreateMakes
create_makes g c image p limits within h id meta_used absent =
    with_volume g c image p h id meta_used (new_volume p.geometry) [] 0 (blank_volume g p.geometry image h.geometry)

-- ---- a copy of a volume

copied_volume : (g : Geometry) (c : Contents) (image : List Sector) (p : PlainPool) (h : HasContents g c image p) (origin : ℕ) → IsSome (device_of origin c.volumes)
    → IsVolume g image (own_sectors g c.volumes origin) (volume_of p origin) (slots_of origin c.volumes)
copied_volume g c image p h origin some =
    let own = own_sectors g c.volumes origin in
    let size = copied_size own (get p.volumes origin) (device_of origin c.volumes) (h.sizes origin ∙ flat g c.volumes origin) some in
    record {
      size = size.1;
      slots_are = λ block. h.slots origin block ∙ copied_slots (device_of origin c.volumes) block some;
      mapped = λ k place lt e. h.sectors.mapped origin k place own size.0 lt e;
      unmapped = λ k lt e. h.sectors.unmapped origin k own size.0 lt e;
    }
  where
    copied_size : (n : ℕ) (o : Option Volume) (d : Option (List BlockSlot)) → option_map (λ v. length v.sectors) o ≡ option_map (λ slots. n) d → IsSome d
        → (option_map (λ v. length v.sectors) o ≡ Some n) × (length (option_map_or (λ v. v.sectors) o []) ≡ n)
    copied_size n None None e there = absurd (no_value {A = List BlockSlot} None refl there)
    copied_size n (Some v) None e there = absurd (no_value {A = List BlockSlot} None refl there)
    copied_size n None (Some xs) e there = absurd (none-some n e)
    copied_size n (Some v) (Some xs) e there = (e, same_Some (length v.sectors) n e)

    copied_slots : (d : Option (List BlockSlot)) (block : ℕ) → IsSome d → place_or_none block d ≡ place_in block (slots_or_none d)
    copied_slots None block there = absurd (no_value {A = List BlockSlot} None refl there)
    copied_slots (Some xs) block there = refl

pub snapshot_makes : SnapshotMakes
snapshot_makes g c image p limits h id origin meta_used some =
    with_volume g c image p h id meta_used (volume_of p origin) (slots_of origin c.volumes) (size_or_none c.volumes origin) (copied_volume g c image p h origin some)

-- ---- a volume that grows

module _ (g : Geometry) (c : Contents) (image : List Sector) (p : PlainPool) (limits : IsWithinLimits g) (within : IsWithin g c.volumes) (h : HasContents g c image p)
    (id size : ℕ) (some : IsSome (device_of id c.volumes)) (more : own_blocks g c.volumes id ≤ told_blocks g size) where
  abbrev was : Volume
  was = volume_of p id

  abbrev own : ℕ
  own = own_sectors g c.volumes id

  is_volume : IsVolume g image own was (slots_of id c.volumes)
  is_volume = copied_volume g c image p h id some

  abbrev then : Volume
  then = grown p.geometry (told_blocks g size) was

  abbrev added_sectors : ℕ
  added_sectors = told_blocks g size * p.geometry.block_sectors - length was.sectors

  fits : own ≤ told_sectors g size
  fits = mul-le-mul_right g.block_sectors more

  same_blocks : told_blocks g size * p.geometry.block_sectors ≡ told_sectors g size
  same_blocks = ap (λ (x : Geometry). told_blocks g size * x.block_sectors) h.geometry

  -- a block with a slot is one of those that were there
  had_slot : (block place : ℕ) → get was.slots block ≡ Some place → block < own_blocks g c.volumes id
  had_slot block place e = go (device_of id c.volumes) refl where
    go : (o : Option (List BlockSlot)) → device_of id c.volumes ≡ o → block < own_blocks g c.volumes id
    go None d = absurd (no_value (device_of id c.volumes) d some)
    go (Some xs) d =
        let told = size_there id c.volumes xs d in
        let at : slot_of id block c.volumes ≡ Some place = ap (place_or_none block) d ∙ (sym (ap (λ o. place_in block (slots_or_none o)) d) ∙ (sym (is_volume.slots_are block) ∙ e)) in
        subst (λ n. block < told_blocks g n) (sym (ap (λ (o : Option ℕ). option_map_or (λ n. n) o 0) told.1)) (within.sized.inside id told.0 block place told.1 at)

  is_grown : IsVolume g image (told_sectors g size) then (slots_of id c.volumes)
  is_grown = record {
    size =
        let both = length-append was.sectors (replicate added_sectors zero_sector) in
        let long = length-replicate added_sectors zero_sector in
        omega (arith, both, long, is_volume.size, fits, same_blocks);
    slots_are = is_volume.slots_are;
    mapped = λ k place lt e.
        let low : k < own = (div-lt_iff_lt-mul (omega (arith, limits.block_least))).0 (had_slot (k / g.block_sectors) place e) in
        in_front was.sectors (replicate added_sectors zero_sector) k (omega (arith, low, is_volume.size)) ∙ is_volume.mapped k place low e;
    unmapped = λ k lt e. elim (cases_lt k own) [
      | inl low ↦ in_front was.sectors (replicate added_sectors zero_sector) k (omega (arith, low, is_volume.size)) ∙ is_volume.unmapped k low e
      | inr high ↦
          behind was.sectors (replicate added_sectors zero_sector) k (omega (arith, high, is_volume.size))
          ∙ blank_at added_sectors (k - length was.sectors) (omega (arith, lt, high, is_volume.size, same_blocks))
    ];
  }

grown_as : (g : Geometry) (c : Contents) (image : List Sector) (p after : PlainPool) (within : IsWithin g c.volumes) (id size meta_used : ℕ) → IsSome (device_of id c.volumes)
    → HasContents g (record c { volumes = with_device (record { id = id; size = size; slots = slots_of id c.volumes }) c.volumes; meta_used = meta_used }) image after
    → HasContents g (record c { volumes = resized id size c.volumes; meta_used = meta_used }) image after
grown_as g c image p after within id size meta_used some has = go (device_of id c.volumes) refl where
  go : (o : Option (List BlockSlot)) → device_of id c.volumes ≡ o → HasContents g (record c { volumes = resized id size c.volumes; meta_used = meta_used }) image after
  go None d = absurd (no_value (device_of id c.volumes) d some)
  go (Some xs) d =
      subst (λ (ds : Volumes). HasContents g (record c { volumes = ds; meta_used = meta_used }) image after)
      ((λ i. with_device (record { id = id; size = size; slots = slots_or_none (d i) }) c.volumes) ∙ resized_is_put 0 id size xs c.volumes within.ascend d) has

pub grow_makes : GrowMakes
grow_makes g c image p limits within h id size meta_used some more =
    grown_as g c image p (record p { volumes = insert p.volumes id (grown p.geometry (told_blocks g size) (volume_of p id)); meta_used = meta_used }) within id size meta_used some
    (with_volume g c image p h id meta_used (grown p.geometry (told_blocks g size) (volume_of p id)) (slots_of id c.volumes) size (is_grown g c image p limits within h id size some more))

-- ---- without a volume

module _ (g : Geometry) (c : Contents) (image : List Sector) (p : PlainPool) (within : IsWithin g c.volumes) (h : HasContents g c image p) (id meta_used : ℕ) where
  abbrev less : PlainPool
  less = record p { volumes = remove p.volumes id; meta_used = meta_used }

  abbrev rest : Volumes
  rest = without_device id c.volumes

  gone : get less.volumes id ≡ None
  gone = get_remove p.volumes id id ∙ ap (λ b. cond b None (get p.volumes id)) (eq-eqb id id refl)

  stays : (i : ℕ) → i ≢ id → get less.volumes i ≡ get p.volumes i
  stays i n = get_remove p.volumes id i ∙ ap (λ b. cond b None (get p.volumes i)) (ne_eqb i id n)

  device_gone : device_of id rest ≡ None
  device_gone = device_changes.without_same 0 id c.volumes within.ascend

  device_stays : (i : ℕ) → i ≢ id → device_of i rest ≡ device_of i c.volumes
  device_stays i n = device_changes.without_other id i c.volumes n

  gone_slot : (i block : ℕ) → i ≡ id → slot_at less i block ≡ None
  gone_slot i block x = ap (λ j. slot_at less j block) x ∙ (ap (λ (o : Option Volume). get (option_map_or (λ v. v.slots) o empty) block) gone ∙ get_empty block)

  stays_slot : (i block : ℕ) → i ≢ id → slot_at less i block ≡ slot_at p i block
  stays_slot i block n = ap (λ (o : Option Volume). get (option_map_or (λ v. v.slots) o empty) block) (stays i n)

  stays_sector : (i k : ℕ) → i ≢ id → volume_sector less i k ≡ volume_sector p i k
  stays_sector i k n = ap (λ (o : Option Volume). slice_get (option_map_or (λ v. v.sectors) o []) k) (stays i n)

  gone_size : (i : ℕ) → i ≡ id → volume_size less i ≡ None
  gone_size i x = ap (volume_size less) x ∙ ap (option_map (λ (v : Volume). length v.sectors)) gone

  less_slots : (i block : ℕ) → (i ≡ id) ⊎ (i ≢ id) → slot_at less i block ≡ slot_of i block rest
  less_slots i block (inl x) = gone_slot i block x ∙ sym (ap (λ j. slot_of j block rest) x ∙ ap (place_or_none block) device_gone)
  less_slots i block (inr n) = stays_slot i block n ∙ (h.slots i block ∙ sym (ap (place_or_none block) (device_stays i n)))

  less_sizes : (i : ℕ) → (i ≡ id) ⊎ (i ≢ id) → volume_size less i ≡ option_map (told_sectors g) (size_of i rest)
  less_sizes i (inl x) = gone_size i x ∙ sym (ap (λ j. option_map (told_sectors g) (size_of j rest)) x ∙ ap (option_map (told_sectors g)) (size_changes.without_same 0 id c.volumes within.ascend))
  less_sizes i (inr n) =
      ap (option_map (λ (v : Volume). length v.sectors)) (stays i n) ∙ (h.sizes i ∙ sym (ap (option_map (told_sectors g)) (size_changes.without_other id i c.volumes n)))

  less_mapped : (i k place size : ℕ) → volume_size less i ≡ Some size → k < size → slot_at less i (k / g.block_sectors) ≡ Some place → (i ≡ id) ⊎ (i ≢ id)
      → volume_sector less i k ≡ Some (sector_at image (data_sector g place + k % g.block_sectors))
  less_mapped i k place size sized lt e (inl x) = absurd (none-some place (sym (gone_slot i (k / g.block_sectors) x) ∙ e))
  less_mapped i k place size sized lt e (inr n) =
      stays_sector i k n ∙ h.sectors.mapped i k place size (sym (ap (option_map (λ (v : Volume). length v.sectors)) (stays i n)) ∙ sized) lt (sym (stays_slot i (k / g.block_sectors) n) ∙ e)

  less_unmapped : (i k size : ℕ) → volume_size less i ≡ Some size → k < size → slot_at less i (k / g.block_sectors) ≡ None → (i ≡ id) ⊎ (i ≢ id) → volume_sector less i k ≡ Some zero_sector
  less_unmapped i k size sized lt e (inl x) = absurd (none-some size (sym (gone_size i x) ∙ sized))
  less_unmapped i k size sized lt e (inr n) =
      stays_sector i k n
      ∙ h.sectors.unmapped i k size (sym (ap (option_map (λ (v : Volume). length v.sectors)) (stays i n)) ∙ sized) lt (sym (stays_slot i (k / g.block_sectors) n) ∙ e)

  without_volume : HasContents g (record c { volumes = rest; meta_used = meta_used }) image less
  without_volume = record {
    geometry = h.geometry;
    transaction_id = h.transaction_id;
    needs_check = h.needs_check;
    meta_used = refl;
    held_root = h.held_root;
    sizes = λ i. less_sizes i (cases_eq i id);
    slots = λ i block. less_slots i block (cases_eq i id);
    sectors = record {
      mapped = λ i k place size sized lt e. less_mapped i k place size sized lt e (cases_eq i id);
      unmapped = λ i k size sized lt e. less_unmapped i k size sized lt e (cases_eq i id);
    };
  }

pub delete_makes : DeleteMakes
delete_makes g c image p within h id meta_used = without_volume g c image p within h id meta_used
