-- Trusted reading: the plain pool: volumes of sectors, whose blocks share data blocks by labels (the kernel's
-- thin-provisioning.rst: thin volumes, snapshots, sharing; the modes are own).
use Rattle.std.specs.Prelude.{◌≡◌, ◌≢◌, ℕ, ◌+◌, ◌*◌, ◌/◌, ◌^◌, ◌<◌, ◌≤◌, nat_lt, Bool, false, not, ◌&&◌, ◌||◌, ◌==◌, if◌then◌else◌, List, [], ◌∷◌, map, length, slice_get, Option, None, Some, IsSome, IsTrue}
use Rattle.std.specs.Option.{option_map, option_map_or, unwrap_or}
use Rattle.std.specs.List.{count_by, flat_map, list_any, list_all, sum_by}
use Rattle.std.specs.Ordering.{nat_cmp}
use Rattle.std.specs.FinMap.{FinMap, contains_key, empty, get, entries}
use Rattle.tp_model.specs.declared.mode.Mode.{Mode}
use Rattle.tp_model.specs.declared.mode.Mode.TheVariants as modes
use Rattle.tp_model.specs.Geometry.{Geometry}
use Rattle.tp_model.specs.Sectors.{Sector, zero_sector}

-- A volume: its sectors, and a slot for each block that is mapped, with the label of its data block.
pub record Volume : Type 0 where
  pub sectors : List Sector
  pub slots : FinMap nat_cmp ℕ

-- A held copy of the whole mapping stands in the same map as the volumes: each of its volumes under its id and 2 ^ 24, which no device has.
abbrev pub copy_id : ℕ → ℕ
copy_id id = 2 ^ 24 + id

abbrev pub is_now : ℕ → Bool
is_now id = nat_lt id (2 ^ 24)

pub record PlainPool : Type 0 where
  pub geometry : Geometry
  pub volumes : FinMap nat_cmp Volume  -- by device id, and behind them the held copies
  pub held_root : ℕ  -- the number of the held metadata root; 0 where there is no held copy
  pub transaction_id : ℕ
  pub needs_check : Bool
  pub mode : Mode
  pub holds : FinMap nat_cmp ℕ  -- how many sessions hold a volume
  pub meta_used : ℕ  -- metadata blocks that the pool names

-- The outline of a pool: what is known of it at any moment, also where nothing is known of its volumes.
pub record Outline : Type 0 where
  pub geometry : Geometry
  pub mode : Mode
  pub holds : FinMap nat_cmp ℕ

abbrev pub outline_of : PlainPool → Outline
outline_of p = record { geometry = p.geometry; mode = p.mode; holds = p.holds }

-- how many holds of a volume stand, and of all volumes
abbrev pub hold_count : FinMap nat_cmp ℕ → ℕ → ℕ
hold_count holds id = unwrap_or (get holds id) 0

abbrev pub hold_total : FinMap nat_cmp ℕ → ℕ
hold_total holds = sum_by (λ e. e.1) (entries holds)

-- ---- what stands at a place

abbrev pub volume_sectors : PlainPool → ℕ → List Sector
volume_sectors p id = option_map_or (λ v. v.sectors) (get p.volumes id) []

abbrev pub volume_slots : PlainPool → ℕ → FinMap nat_cmp ℕ
volume_slots p id = option_map_or (λ v. v.slots) (get p.volumes id) empty

-- how many volumes there are, held copies aside
abbrev pub device_count : PlainPool → ℕ
device_count p = count_by (λ e. is_now e.0) (entries p.volumes)

-- how many sectors a volume has
abbrev pub volume_size : PlainPool → ℕ → Option ℕ
volume_size p id = option_map (λ v. length v.sectors) (get p.volumes id)

abbrev pub volume_sector : PlainPool → ℕ → ℕ → Option Sector
volume_sector p id k = slice_get (volume_sectors p id) k

abbrev pub slot_at : PlainPool → ℕ → ℕ → Option ℕ
slot_at p id block = get (volume_slots p id) block

-- ---- sharing (kernel, thin-provisioning.rst: "internal snapshots")

-- each slot of the pool: its volume, its block, its label
abbrev pub all_slots : PlainPool → List (ℕ × ℕ × ℕ)
all_slots p = flat_map (λ e. map (λ s. (e.0, s.0, s.1)) (entries e.1.slots)) (entries p.volumes)

-- how many different numbers a list has
abbrev pub different : List ℕ → ℕ
different [] = 0
different (x ∷ xs) = (if list_any (λ y. y == x) xs then 0 else 1) + different xs

-- data blocks in use: the different labels
abbrev pub used : PlainPool → ℕ
used p = different (map (λ s. s.2) (all_slots p))

-- Another slot has the label of this one.
pub record IsShared (p : PlainPool) (id block : ℕ) : Type 0 where
  pub other_id : ℕ
  pub other_block : ℕ
  pub mapped : IsSome (slot_at p id block)
  pub same_label : slot_at p other_id other_block ≡ slot_at p id block
  pub another : ((other_id ≡ id) × (other_block ≡ block)) → ⊥

-- A block is exclusive where its slot is there and no other slot has its label.
pub record IsExclusive (p : PlainPool) (id block : ℕ) : Type 0 where
  pub mapped : IsSome (slot_at p id block)
  pub alone : (i b : ℕ) → slot_at p i b ≡ slot_at p id block → (i ≡ id) × (b ≡ block)

-- the same, as a test
abbrev pub is_exclusive : PlainPool → ℕ → ℕ → Bool
is_exclusive p id block =
    option_map_or (λ label. list_all (λ s. not (s.2 == label) || (s.0 == id && s.1 == block)) (all_slots p)) (slot_at p id block) false

-- ---- what holds of each pool (kernel: new blocks are zeroed, snapshots are copies)

pub record IsLawful (p : PlainPool) : Type 0 where
  -- a block without a slot is all zero
  pub unmapped : (id k : ℕ) (s : Sector) → slot_at p id (k / p.geometry.block_sectors) ≡ None → volume_sector p id k ≡ Some s → s ≡ zero_sector
  -- two slots with one label have equal blocks
  pub shared : (i b j c o : ℕ) → o < p.geometry.block_sectors → IsSome (slot_at p i b) → slot_at p i b ≡ slot_at p j c → volume_sector p i (b * p.geometry.block_sectors + o) ≡ volume_sector p j (c * p.geometry.block_sectors + o)

-- A volume has whole blocks of sectors of 512 bytes, and its slots lie in it.
pub record IsShapedVolume (block_sectors : ℕ) (v : Volume) : Type 0 where
  pub whole : (blocks : ℕ) × (length v.sectors ≡ blocks * block_sectors)
  pub inside : (block label : ℕ) → get v.slots block ≡ Some label → (block + 1) * block_sectors ≤ length v.sectors
  pub bytes : (k : ℕ) (s : Sector) → slice_get v.sectors k ≡ Some s → length s ≡ 512

abbrev pub IsShaped : PlainPool → Type 0
IsShaped p = (id : ℕ) (v : Volume) → get p.volumes id ≡ Some v → IsShapedVolume p.geometry.block_sectors v

-- what holds of each pool that calls make
pub record IsSound (p : PlainPool) : Type 0 where
  pub block_sectors : 0 < p.geometry.block_sectors
  pub shaped : IsShaped p
  pub lawful : IsLawful p

-- who holds a volume finds it
abbrev pub FindsHeld : PlainPool → Type 0
FindsHeld p = (id : ℕ) → 0 < hold_count p.holds id → IsTrue (is_now id && contains_key p.volumes id)

-- what holds of each pool that serves (own)
pub record IsConsistent (p : PlainPool) : Type 0 where
  pub sound : IsSound p
  pub held : FindsHeld p
  -- slots have no more data blocks than there are, and nodes no more metadata blocks
  pub data_room : used p ≤ p.geometry.data_blocks
  pub metadata_room : p.meta_used ≤ p.geometry.metadata_blocks
  -- a pool that wants a check is not written to
  pub check : IsTrue p.needs_check → p.mode ≢ modes.Writable
  -- where no root is held, there are no copies
  pub copies : p.held_root ≡ 0 → (id : ℕ) → 2 ^ 24 ≤ id → get p.volumes id ≡ None

-- ---- pools that differ in their labels alone (own)

-- two slots have one label in p exactly where they have one in q
pub record IsRenamed (p q : PlainPool) : Type 0 where
  pub geometry : q.geometry ≡ p.geometry
  pub ids_and_sizes : (id : ℕ) → volume_size q id ≡ volume_size p id
  pub sectors : (id k : ℕ) → volume_sector q id k ≡ volume_sector p id k
  pub mapped : (id b : ℕ) → IsSome (slot_at p id b) → IsSome (slot_at q id b)
  pub unmapped : (id b : ℕ) → slot_at p id b ≡ None → slot_at q id b ≡ None
  pub together : (i b j c : ℕ) → slot_at p i b ≡ slot_at p j c → slot_at q i b ≡ slot_at q j c
  pub apart : (i b j c : ℕ) → slot_at q i b ≡ slot_at q j c → slot_at p i b ≡ slot_at p j c
  pub transaction_id : q.transaction_id ≡ p.transaction_id
  pub needs_check : q.needs_check ≡ p.needs_check
  pub mode : q.mode ≡ p.mode
  pub holds : q.holds ≡ p.holds
  pub meta_used : q.meta_used ≡ p.meta_used
  pub held_root : q.held_root ≡ p.held_root
