-- Internal: trees on a disk while they are changed (own).
use Rattle.std.specs.Prelude.{◌≡◌, ℕ, ◌+◌, ◌-◌, ◌<◌, ◌≤◌, List, [], ◌∷◌, ◌++◌, ◌^◌, Option, None, Some, Err, IfOk, Result, length, map}
use Rattle.tp_model.specs.Disk.{DiskState}
use Rattle.tp_model.specs.Geometry.{Geometry, IsWithinLimits}
use Rattle.tp_layout.specs.declared.entry.Entry.{Entry}
use Rattle.tp_layout.specs.Entries.{found}
use Rattle.tp_refs.specs.Store.{Store, node_at}
use Rattle.tp_refs.specs.Balance.{Frame, HasRoomFor, occurrences}
use Rattle.tp_trees.specs.Tree.{IsWhole, is_shared_path}
use Rattle.tp_sharing.specs.Forest.{Forest, HeldForest, IsVolume, content}
use Rattle.tp_model.specs.Told.{IsToldSize, told_blocks}
use Rattle.tp_sharing.specs.Volumes.{AreSized, BlockSlot, Volumes, copies_below, devices_in, place_in, slot_from, volumes_below, volumes_of}
use Rattle.tp_stored.specs.Commit.{fixed_blocks, held_by}
use Rattle.tp_counts.specs.Counts.{used_in}
use Rattle.tp_counts.specs.StoreErrors.{is_fault}
use Rattle.tp_counts.specs.declared.error.StoreError.{StoreError}
use Rattle.tp_counts.specs.declared.error.StoreError.TheVariants.{Damaged}
use Rattle.tp_tm.specs.Tm.{Tm, counts_now}
use Rattle.tp_tm.specs.Holds.{Holds}
use Rattle.tp_btree.specs.Inserts.{Ran}
use Rattle.tp_btree.specs.Trees.{StandsBelow}
use Rattle.tp_layout.specs.declared.kind.TreeKind.TheVariants.{Mapping}
use Rattle.tp_mapping.specs.declared.volume.There.{There}
use Rattle.tp_mapping.specs.declared.volume.Volume.{Volume}

-- how many metadata blocks have a count over 0, by the row of all counts
abbrev pub in_use : Tm → ℕ
in_use t = used_in t.geometry.metadata_blocks (counts_now t)

-- The device tree below a root stands for these volumes, and that of a held copy, if there is one, for their copies. References to both roots, to the fixed part and to these blocks are held.
pub record HoldTrees (g : Geometry) (t : Tm) (disk : DiskState) (root : ℕ) (more : List ℕ) (now : Volumes) : Type 0 where
  pub store : Store
  pub geometry : t.geometry ≡ g
  pub holds : Holds t disk [] (more ++ held_by g root t.held_root) store
  pub limits : IsWithinLimits g
  pub counted : length store.counts ≡ g.metadata_blocks + g.data_blocks
  pub forest : Forest store root (fixed_blocks g) (2 ^ 24)
  pub copy : HeldForest store t.held_root (fixed_blocks g) (2 ^ 24)
  pub listed : now ≡ volumes_of g.metadata_blocks store root t.held_root
  pub few : devices_in now ≤ 65536
  pub few_held : length (copies_below g.metadata_blocks store t.held_root) ≤ 65536
  pub sizes : AreSized g now

-- The trees below a root, that of the devices or that of a held copy of it, stand on the disk. One of these held references is to the root.
pub record HoldsRoot (g : Geometry) (t : Tm) (disk : DiskState) (refs : List ℕ) (root : ℕ) (s : Store) : Type 0 where
  pub geometry : t.geometry ≡ g
  pub holds : Holds t disk [] refs s
  pub named : 0 < occurrences root refs
  pub forest : Forest s root (fixed_blocks g) (2 ^ 24)
  pub few : length (content 5 s root) ≤ 65536
  pub sizes : AreSized g (volumes_below g.metadata_blocks s root)

-- the entry of a device with this volume
abbrev pub entry_of : ℕ → Volume → Entry
entry_of device v = record { key = device; value = v.root; mapped = v.mapped; size = v.size }

-- The device tree tells this of a device: its entry, and whether a node on the path to that is named more than once.
abbrev pub TellsVolume : ℕ → Store → ℕ → Option There → Type 0
TellsVolume device s root None = (device < 2 ^ 24) × (found device (content 5 s root) ≡ None)
TellsVolume device s root (Some x) = (found device (content 5 s root) ≡ Some (entry_of device x.volume)) × (x.is_shared ≡ is_shared_path ((node_at s root).rank - 5) s device root)

pub record HasVolume (g : Geometry) (t : Tm) (disk : DiskState) (root : ℕ) (more : List ℕ) (now : Volumes) (device : ℕ) (v : Volume) : Type 0 where
  pub trees : HoldTrees g t disk root more now
  pub told : found device (content 5 trees.store root) ≡ Some (entry_of device v)

-- the same, and whether the path to the volume's root is shared
pub record HasThere (g : Geometry) (t : Tm) (disk : DiskState) (root : ℕ) (now : Volumes) (device : ℕ) (x : There) : Type 0 where
  pub volume : HasVolume g t disk root [] now device x.volume
  pub shared : x.is_shared ≡ is_shared_path ((node_at volume.trees.store root).rank - 5) volume.trees.store device root

-- A volume's tree stands below this root, and its values are data blocks of the pool.
pub record HoldsVolume (t : Tm) (disk : DiskState) (refs : List ℕ) (s : Store) (root : ℕ) : Type 0 where
  pub stands : StandsBelow t disk Mapping [] refs s ((node_at s root).rank - 1) 0 (2 ^ 24) root
  pub blocks : (block : ℕ) (x : Entry) → found block (content 1 s root) ≡ Some x → x.value < t.geometry.metadata_blocks + t.geometry.data_blocks

-- A volume's tree with these slots stands beside the device tree, and references to its root and to these blocks are held. Its size is one that it may have, and its
-- virtual blocks are below it.
pub record HoldBeside (g : Geometry) (t : Tm) (disk : DiskState) (root : ℕ) (more : List ℕ) (v : Volume) (slots : List BlockSlot) (now : Volumes) : Type 0 where
  pub trees : HoldTrees g t disk root (v.root ∷ more) now
  pub volume : (device : ℕ) → IsVolume trees.store (2 ^ 24) (entry_of device v)
  pub content_is : map (slot_from g.metadata_blocks) (content 1 trees.store v.root) ≡ slots
  pub told : IsToldSize g v.size
  pub inside : (block place : ℕ) → place_in block slots ≡ Some place → block < told_blocks g v.size

-- the same with no other block held
abbrev pub HoldVolume : Geometry → Tm → DiskState → ℕ → Volume → List BlockSlot → Volumes → Type 0
HoldVolume g t disk root v slots now = HoldBeside g t disk root [] v slots now

-- A volume's tree stands whose virtual blocks are below `top`, and references to its root and to these blocks are held. Others
-- may be open.
pub record HoldsSlots (t : Tm) (disk : DiskState) (opens held : List ℕ) (s : Store) (top : ℕ) (v : Volume) : Type 0 where
  pub holds : Holds t disk opens (v.root ∷ held) s
  pub volume : (device : ℕ) → IsVolume s top (entry_of device v)
  pub most : top ≤ 2 ^ 24
  pub room : HasRoomFor 2000 opens held

-- It was changed where it stands, and has this content. What stands under the other held blocks is as it was.
pub record Slotted (s : Store) (new : Tm) (disk : DiskState) (opens held : List ℕ) (top : ℕ) (v : Volume) (es : List Entry) : Type 0 where
  pub after : Store
  pub holds : Holds new disk opens (v.root ∷ held) after
  pub frame : Frame s after held
  pub volume : (device : ℕ) → IsVolume after top (entry_of device v)
  pub content_is : content 1 after v.root ≡ es

-- the entry of a virtual block in a volume's tree, among m metadata blocks
abbrev pub slot_at : ℕ → ℕ → ℕ → Entry
slot_at m block place = record { key = block; value = m + place; mapped = 0; size = 0 }

-- A tree of a volume that no device names any more stands beside the device tree, and a reference to its root is held.
pub record HoldsOld (g : Geometry) (t : Tm) (disk : DiskState) (root old : ℕ) (now : Volumes) : Type 0 where
  pub trees : HoldTrees g t disk root (old ∷ []) now
  pub tree : IsWhole 1 ((node_at trees.store old).rank - 1) trees.store (2 ^ 24) old

-- A call changed trees, by n free metadata blocks at most. `OfAll P` says P of all that may stand before it, by two values of it. Of all that it made what it was to make, and where any stands it
-- found nothing damaged.
pub record ChangesBelow {A V W : Type 0} (n : ℕ) (old new : Tm) (before after : DiskState) (result : Result A StoreError) (OfAll : (V → W → Type 0) → Type 0) (Made : A → V → W → Type 0) : Type 0 where
  pub made : IfOk result (λ answer. OfAll (Made answer))
  pub damaged : result ≡ Err Damaged → OfAll (λ v w. ⊥)
  pub ran : Ran n (is_fault result) old new before after
