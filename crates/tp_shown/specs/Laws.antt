-- Internal: laws of what is shown (own).
use Rattle.std.specs.Prelude.{◌≡◌, ℕ, ◌+◌, ◌^◌, ◌<◌, ◌≤◌, Bool, List, [], ◌++◌, length, map, take, drop, Option, None, Some, IsSome, is_some, ◌↔◌}
use Rattle.std.specs.List.{last_or}
use Rattle.std.specs.FinMap.{entries, insert, keys, remove, retain_keys}
use Rattle.tp_model.specs.Geometry.{Geometry, IsWithinLimits, data_sector, sectors_of_image}
use Rattle.tp_model.specs.Told.{told_blocks}
use Rattle.tp_model.specs.Sectors.{Sector, sector_at}
use Rattle.tp_model.specs.Pool.{IsSound, PlainPool, copy_id, device_count, is_now, used, volume_sectors, volume_slots}
use Rattle.tp_model.specs.Calls.{Call, Edits, Reserves, Trim, Write, WriteZeroes, exists, has_copy, need, new_volume, volume_asked, volume_of, grown}
use Rattle.tp_model.specs.PoolStops.{Given, MayReopen}
use Rattle.tp_image.specs.Bound.{IsBounded, mapped_in}
use Rattle.tp_sharing.specs.Sizes.{mapped_counts}
use Rattle.tp_sharing.specs.Volumes as listed
use Rattle.tp_sharing.specs.Volumes.{BlockSlot, OtherSlot, Volumes, as_copy, device_of, devices_in, slot_of, resized, with_device, without_device}
use Rattle.tp_mapping.specs.Mapping.{IsHighest, IsWithin, slots_of, size_or_none, without_copies}
use Rattle.tp_stored.specs.Contents.{Contents, HasContents, IsOpened, SameData}
use Rattle.tp_stored.specs.Laws.{AreBounded}
use Rattle.tp_shown.specs.Shown.{EditsLists, GivesValue, HasLost, IsPartlyDone, blocks_covered, blocks_touched, blocks_wanted, blocks_wanted_by, first_block, first_covered, own_blocks, own_sectors, values_at}

-- There is a pool with each contents over each image.
abbrev pub OpenedExists : Type 0
OpenedExists = (g : Geometry) (c : Contents) (image : List Sector) → IsWithinLimits g → IsWithin g c.volumes → (p : PlainPool) × IsOpened g c image p

-- Over whole sectors, as many as an image has, a pool with the contents of a commit is sound.
abbrev pub ContentsAreSound : Type 0
ContentsAreSound =
    (g : Geometry) (c : Contents) (image : List Sector) (p : PlainPool) → IsWithinLimits g → IsWithin g c.volumes → HasContents g c image p
    → sectors_of_image g ≤ length image → ((i : ℕ) → i < length image → length (sector_at image i) ≡ 512) → IsSound p

-- ---- tests

abbrev pub UsedIsListed : Type 0
UsedIsListed = (g : Geometry) (c : Contents) (image : List Sector) (p : PlainPool) → IsWithin g c.volumes → HasContents g c image p → used p ≡ listed.used c.volumes

-- There are as many data blocks as slots have.
abbrev pub UsedFits : Type 0
UsedFits = (g : Geometry) (c : Contents) (image : List Sector) (p : PlainPool) → IsWithin g c.volumes → HasContents g c image p → used p ≤ p.geometry.data_blocks

abbrev pub ExistsIsListed : Type 0
ExistsIsListed = (g : Geometry) (c : Contents) (image : List Sector) (p : PlainPool) (id : ℕ) → id < 2 ^ 24 → HasContents g c image p → exists p id ≡ is_some (device_of id c.volumes)

abbrev pub CopyIsListed : Type 0
CopyIsListed = (g : Geometry) (c : Contents) (image : List Sector) (p : PlainPool) (id : ℕ) → HasContents g c image p → has_copy p id ≡ is_some (device_of (copy_id id) c.volumes)

abbrev pub CountIsListed : Type 0
CountIsListed = (g : Geometry) (c : Contents) (image : List Sector) (p : PlainPool) → IsWithin g c.volumes → HasContents g c image p → device_count p ≡ devices_in c.volumes

-- The slots of a volume, in the order of their blocks.
abbrev pub SlotsAreEntries : Type 0
SlotsAreEntries =
    (g : Geometry) (c : Contents) (image : List Sector) (p : PlainPool) (id : ℕ) → IsWithin g c.volumes → HasContents g c image p
    → entries (volume_slots p id) ≡ map (λ (x : BlockSlot). (x.block, x.place)) (slots_of id c.volumes)

-- The highest block that is mapped.
abbrev pub HighestIsLast : Type 0
HighestIsLast =
    (g : Geometry) (c : Contents) (image : List Sector) (p : PlainPool) (id : ℕ) (top : Option ℕ) → IsWithin g c.volumes → HasContents g c image p
    → IsHighest id c.volumes top → last_or None (keys (volume_slots p id)) ≡ top

-- What a write needs is the number of its blocks that want a data block.
abbrev pub NeedIsWanted : Type 0
NeedIsWanted =
    (g : Geometry) (c : Contents) (image : List Sector) (p : PlainPool) → IsWithinLimits g → IsWithin g c.volumes → HasContents g c image p
    → (id sector : ℕ) (sectors : List Sector) (fua : Bool) → IsSome (device_of id c.volumes) → sector + length sectors ≤ own_sectors g c.volumes id
    → need p (Write id sector sectors fua) id ≡ blocks_wanted id c.volumes (first_block g sector) (blocks_touched g sector (length sectors))

-- What a request of zeros needs is the number of its blocks that it gives a data block that they lack.
abbrev pub NeedZeroes : Type 0
NeedZeroes =
    (g : Geometry) (c : Contents) (image : List Sector) (p : PlainPool) → IsWithinLimits g → IsWithin g c.volumes → HasContents g c image p
    → (id sector count : ℕ) (no_hole fua : Bool) → IsSome (device_of id c.volumes) → sector + count ≤ own_sectors g c.volumes id
    → need p (WriteZeroes id sector count no_hole fua) id ≡ blocks_wanted_by g (WriteZeroes id sector count no_hole fua) id c.volumes (first_block g sector) (blocks_touched g sector count)

-- ---- calls

abbrev pub ReadGives : Type 0
ReadGives =
    (g : Geometry) (c : Contents) (image : List Sector) (p : PlainPool) → IsWithinLimits g → HasContents g c image p
    → (id sector count : ℕ) → IsSome (device_of id c.volumes) → sector + count ≤ own_sectors g c.volumes id
    → take count (drop sector (volume_sectors p id)) ≡ values_at g c.volumes image id sector count

-- A request of which the lists are left as it leaves them makes a pool with these lists.
abbrev pub EditsAreListed : Type 0
EditsAreListed =
    (g : Geometry) (c : Contents) (image seen : List Sector) (p : PlainPool) → IsWithinLimits g → HasContents g c image p
    → (call : Call) (id : ℕ) (after : Volumes) (meta_used : ℕ) → IsSome (device_of id c.volumes) → EditsLists g call id c.volumes after image seen
    → (((block : ℕ) → slot_of id block after ≡ slot_of id block c.volumes) → meta_used ≡ c.meta_used)
    → (q : PlainPool) × HasContents g (record c { volumes = after; meta_used = meta_used }) seen q × Edits p call id q

abbrev pub CreateMakes : Type 0
CreateMakes =
    (g : Geometry) (c : Contents) (image : List Sector) (p : PlainPool) → IsWithinLimits g → IsWithin g c.volumes → HasContents g c image p
    → (id meta_used : ℕ) → device_of id c.volumes ≡ None
    → HasContents g (record c { volumes = with_device (record { id = id; size = 0; slots = [] }) c.volumes; meta_used = meta_used }) image
    (record p { volumes = insert p.volumes id (new_volume p.geometry); meta_used = meta_used })

-- A copy of a volume has its slots.
abbrev pub SnapshotMakes : Type 0
SnapshotMakes =
    (g : Geometry) (c : Contents) (image : List Sector) (p : PlainPool) → IsWithinLimits g → HasContents g c image p
    → (id origin meta_used : ℕ) → IsSome (device_of origin c.volumes)
    → HasContents g (record c { volumes = with_device (record { id = id; size = size_or_none c.volumes origin; slots = slots_of origin c.volumes }) c.volumes; meta_used = meta_used }) image
    (record p { volumes = insert p.volumes id (volume_of p origin); meta_used = meta_used })

-- A volume that tells another size, no less than it has, keeps its slots; the blocks behind its old end are zero.
abbrev pub GrowMakes : Type 0
GrowMakes =
    (g : Geometry) (c : Contents) (image : List Sector) (p : PlainPool) → IsWithinLimits g → IsWithin g c.volumes → HasContents g c image p
    → (id size meta_used : ℕ) → IsSome (device_of id c.volumes) → own_blocks g c.volumes id ≤ told_blocks g size
    → HasContents g (record c { volumes = resized id size c.volumes; meta_used = meta_used }) image
    (record p { volumes = insert p.volumes id (grown p.geometry (told_blocks g size) (volume_of p id)); meta_used = meta_used })

-- A trim takes the data blocks of the blocks that lie wholly in its range. What stands at data blocks stays.
abbrev pub TrimMakes : Type 0
TrimMakes =
    (g : Geometry) (c : Contents) (image seen : List Sector) (p : PlainPool) → IsWithinLimits g → HasContents g c image p → SameData g image seen
    → (id sector count : ℕ) (fua : Bool) (after : Volumes) (meta_used : ℕ) → IsSome (device_of id c.volumes)
    → HasLost id (first_covered g sector) (blocks_covered g sector count) c.volumes after
    → (((block : ℕ) → slot_of id block after ≡ slot_of id block c.volumes) → meta_used ≡ c.meta_used)
    → (q : PlainPool) × HasContents g (record c { volumes = after; meta_used = meta_used }) seen q × Edits p (Trim id sector count fua) id q

abbrev pub DeleteMakes : Type 0
DeleteMakes =
    (g : Geometry) (c : Contents) (image : List Sector) (p : PlainPool) → IsWithin g c.volumes → HasContents g c image p
    → (id meta_used : ℕ) → HasContents g (record c { volumes = without_device id c.volumes; meta_used = meta_used }) image
    (record p { volumes = remove p.volumes id; meta_used = meta_used })

-- Behind volumes without copies stand the copies of all of them.
abbrev pub ReserveMakes : Type 0
ReserveMakes =
    (g : Geometry) (c : Contents) (image : List Sector) (p : PlainPool) → HasContents g c image p → ((id : ℕ) → 2 ^ 24 ≤ id → device_of id c.volumes ≡ None)
    → (root : ℕ) → 0 < root
    → (q : PlainPool) × HasContents g (record c { volumes = c.volumes ++ map as_copy c.volumes; held_root = root }) image q × Reserves p q

-- Without the copies the volumes stay.
abbrev pub ReleaseMakes : Type 0
ReleaseMakes =
    (g : Geometry) (c : Contents) (image : List Sector) (p : PlainPool) → HasContents g c image p
    → (meta_used : ℕ) → HasContents g (record c { volumes = without_copies c.volumes; held_root = 0; meta_used = meta_used }) image
    (record p { volumes = retain_keys p.volumes is_now; held_root = 0; meta_used = meta_used })

-- What stands at no slot's data block does not matter.
abbrev pub UnnamedMayChange : Type 0
UnnamedMayChange =
    (g : Geometry) (c : Contents) (image seen : List Sector) (p : PlainPool) → HasContents g c image p
    → ((id block place offset : ℕ) → slot_of id block c.volumes ≡ Some place → offset < g.block_sectors
    → sector_at seen (data_sector g place + offset) ≡ sector_at image (data_sector g place + offset))
    → HasContents g c seen p

-- ---- stops

-- An image with the contents of a commit, in which a request was partly done, stands for a pool that may be found where the other one
-- stood for S.
abbrev pub PartlyReopens : Type 0
PartlyReopens =
    (g : Geometry) (kept : Contents) (before image : List Sector) (S P : PlainPool) → IsOpened g kept before S → IsOpened g kept image P
    → (call : Call) (id : ℕ) (now : Volumes) → IsPartlyDone g call id now kept.volumes before image
    → MayReopen S (λ i k x. (i ≡ id) × GivesValue g call id now k x) P

-- The values that a request gives are those of the plain pool's.
abbrev pub ValuesAreListed : Type 0
ValuesAreListed =
    (g : Geometry) (c : Contents) (image : List Sector) (p : PlainPool) → HasContents g c image p
    → (call : Call) (id k : ℕ) (x : Sector) → volume_asked call ≡ Some id → GivesValue g call id c.volumes k x ↔ Given p call id k x

-- ---- metadata

-- How many blocks of each volume of a pool are mapped is what the lists tell.
abbrev pub MappedIsListed : Type 0
MappedIsListed = (g : Geometry) (c : Contents) (image : List Sector) (p : PlainPool) → IsWithin g c.volumes → HasContents g c image p → mapped_in p ≡ mapped_counts c.volumes

-- Where no root is held, and contents use no more metadata blocks than their volumes may, a pool with them does not.
abbrev pub PoolIsBounded : Type 0
PoolIsBounded =
    (g : Geometry) (c : Contents) (image : List Sector) (p : PlainPool) → IsWithin g c.volumes → HasContents g c image p → p.held_root ≡ 0 → AreBounded g c → IsBounded p
