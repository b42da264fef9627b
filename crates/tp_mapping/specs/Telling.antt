-- Internal: what there is of a device in trees on a disk, and what entries tell of its slots (own).
use Rattle.std.specs.Prelude.{◌≡◌, ℕ, ◌+◌, ◌-◌, ◌<◌, ◌^◌, ◌||◌, Bool, IsSome, List, Option, None, Some, length, slice_index_or}
use Rattle.std.specs.Option.{option_map}
use Rattle.tp_model.specs.Disk.{DiskState}
use Rattle.tp_layout.specs.declared.entry.Entry.{Entry}
use Rattle.tp_layout.specs.Entries.{found}
use Rattle.tp_refs.specs.Store.{Store}
use Rattle.tp_trees.specs.Tree.{blank}
use Rattle.tp_sharing.specs.Forest.{content}
use Rattle.tp_sharing.specs.Volumes.{BlockSlot, Volumes, copy_id, device_of, size_of, slot_of}
use Rattle.tp_btree.specs.declared.look_up.Found.{Found}
use Rattle.tp_mapping.specs.declared.mapped.Mapped.{Mapped}
use Rattle.tp_mapping.specs.declared.trees.TreeMapping.{TreeMapping}
use Rattle.tp_mapping.specs.declared.volume.There.{There}
use Rattle.tp_mapping.specs.declared.volume.Volume.{Volume}
use Rattle.tp_mapping.specs.Held.{HasThere, HoldsVolume}

-- There is no such device, or this is its volume, and its trees stand on the disk.
abbrev pub IsThere : TreeMapping → DiskState → Volumes → ℕ → Option There → Type 0
IsThere m disk now device None = device_of device now ≡ None
IsThere m disk now device (Some x) = HasThere m.tm.geometry m.tm disk m.root now device x

-- the slot that an entry of a volume's tree tells, as its leaf has it
abbrev pub as_slot : Entry → BlockSlot
as_slot e = record { block = e.key; place = e.value }

-- the entry names a virtual block and one of n data blocks
abbrev pub NamesBlocks : ℕ → Entry → Type 0
NamesBlocks n e = (e.key < 2 ^ 24) × (e.value < n)

abbrev pub NameBlocks : ℕ → List Entry → Type 0
NameBlocks n es = (i : ℕ) → i < length es → NamesBlocks n (slice_index_or es i blank)

-- the place that an entry of a volume's tree tells, as its leaf has it; it is shared too where the path to the volume's root is
abbrev pub IsMappedOf : Bool → Option Found → Option Mapped → Type 0
IsMappedOf above None None = Unit {0}
IsMappedOf above None (Some at) = ⊥
IsMappedOf above (Some found) None = ⊥
IsMappedOf above (Some found) (Some at) = (at.place ≡ found.entry.value) × (at.is_shared ≡ (above || found.is_shared))

-- the data blocks that are told of n virtual blocks from this one on are those of a volume's tree with these entries, among m metadata blocks
abbrev pub NameSlots : ℕ → List Entry → ℕ → ℕ → List (Option Mapped) → Type 0
NameSlots m es first n places =
    (i : ℕ) → i < n → option_map (λ (at : Mapped). at.place) (slice_index_or places i None) ≡ option_map (λ (x : Entry). x.value - m) (found (first + i) es)

-- ---- a held copy

-- The held copy has this volume of a device, and its tree stands on the disk.
pub record HasCopy (m : TreeMapping) (disk : DiskState) (now : Volumes) (device : ℕ) (v : Volume) : Type 0 where
  pub refs : List ℕ
  pub store : Store
  pub volume : HoldsVolume m.tm disk refs store v.root
  pub there : IsSome (device_of (copy_id device) now)
  pub size : size_of (copy_id device) now ≡ Some v.size
  pub slots : (block : ℕ) → slot_of (copy_id device) block now ≡ option_map (λ (x : Entry). x.value - m.tm.geometry.metadata_blocks) (found block (content 1 store v.root))

-- There is no such device in the held copy, or no copy, or this is its volume.
abbrev pub IsCopied : TreeMapping → DiskState → Volumes → ℕ → Option There → Type 0
IsCopied m disk now device None = device_of (copy_id device) now ≡ None
IsCopied m disk now device (Some x) = HasCopy m disk now device x.volume

-- what is told of n virtual blocks of a device of the held copy from this one on
abbrev pub AreCopied : ℕ → ℕ → Volumes → ℕ → List (Option ℕ) → Type 0
AreCopied device first now n places = (i : ℕ) → i < n → slice_index_or places i None ≡ slot_of (copy_id device) (first + i) now
