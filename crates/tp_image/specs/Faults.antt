-- Trusted reading: what is wrong with an image that is not clean: the faults that a check tells, each as a statement on the image alone (own).
use Rattle.std.specs.Prelude.{◌≡◌, ◌⊎◌, ℕ, suc, ◌<◌, ◌≤◌, ◌^◌, ◌%◌, ◌==◌, Bool, true, false, List, length, Option, None, Some, MatchOption, slice_get, slice_index, Contains, Ok, Err, count_by}
use Rattle.std.specs.List.Sorted.{IsStrictlyIncreasing}
use Rattle.tp_model.specs.declared.refusal.Refusal.{Refusal}
use Rattle.tp_model.specs.Geometry.{Geometry, IsTreeBlock, sectors_of_image}
use Rattle.tp_model.specs.Told.{IsToldSize, told_blocks}
use Rattle.tp_model.specs.Sectors.{Sector}
use Rattle.tp_layout.specs.Node.{NodeValue, IsFormed, keys, node_bytes}
use Rattle.tp_layout.specs.Super.{roots_of, slot_number}
use Rattle.tp_layout.specs.declared.counts.Part.{Part}
use Rattle.tp_layout.specs.declared.counts.Part.TheVariants.{Metadata}
use Rattle.tp_layout.specs.declared.entry.Entry.{Entry}
use Rattle.tp_layout.specs.declared.kind.TreeKind.{TreeKind}
use Rattle.tp_layout.specs.declared.kind.TreeKind.TheVariants.{Device, Mapping}
use Rattle.tp_layout.specs.declared.superblock.SlotId.{SlotId}
use Rattle.tp_layout.specs.declared.superblock.Superblock.{Superblock}
use Rattle.tp_layout.specs.declared.superblock.Version.{Version}
use Rattle.tp_layout.specs.declared.superblock.Version.TheVariants.{OneSize, OwnSizes}
use Rattle.tp_image.specs.Areas.{HoldsCounts, blocks_of}
use Rattle.tp_image.specs.Clean.{true_count}
use Rattle.tp_image.specs.Counts.{AreReachable, is_naming_data}
use Rattle.tp_image.specs.Nodes.{IsDevice, block_at}
use Rattle.tp_image.specs.Rules.{BeginsAt, IsContent, IsInRange, least_of}
use Rattle.tp_image.specs.Slots.{Chooses}

-- ---- names

-- A block that is named, and as what: a node of this kind for the keys from `low` up to, not including, `high`. A root may have any level of its kind, a
-- child has the level that its parent's leaves it.
pub record Name : Type 0 where
  pub kind : TreeKind
  pub level : Option ℕ  -- of a root none
  pub low : ℕ
  pub high : ℕ
  pub block : ℕ

-- a root's keys begin at 0 and lie below their limit
abbrev pub root_name : TreeKind → ℕ → ℕ → Name
root_name kind limit block = record { kind = kind; level = None; low = 0; high = limit; block = block }

-- a child's keys lie from its own up to the next one of its parent, or up to the end of its parent's
abbrev pub end_of : Option Entry → ℕ → ℕ
end_of None high = high
end_of (Some e) high = e.key

abbrev pub child_name : Name → NodeValue → ℕ → ℕ → Entry → Name
child_name x n level i e = record { kind = x.kind; level = Some level; low = e.key; high = end_of (slice_get n.entries (suc i)) x.high; block = e.value }

-- in the block stands a node of the form, kind and level that its name demands, whatever its keys and values
pub record IsFormedAs (image : List Sector) (g : Geometry) (x : Name) (n : NodeValue) : Type 0 where
  pub place : IsTreeBlock g x.block
  pub form : IsFormed n
  pub own : n.own ≡ x.block
  pub bytes : block_at image x.block ≡ node_bytes n
  pub kind : n.kind ≡ x.kind
  pub level : MatchOption x.level (Unit {0}) (λ level. n.level ≡ level)

-- and its keys ascend
pub record IsGoodAs (image : List Sector) (g : Geometry) (x : Name) (n : NodeValue) : Type 0 where
  pub formed : IsFormedAs image g x n
  pub ascending : IsStrictlyIncreasing (keys n.entries)

-- the names that paths lead to: the roots of the devices, the children of an inner node, and the volumes' roots in the records of a device leaf
pub data IsNamed (image : List Sector) (g : Geometry) (roots : List ℕ) : Name → Type 0 where
  devices : (root : ℕ) → Contains roots root → IsNamed image g roots (root_name Device (2 ^ 24) root)
  child : (x : Name) (n : NodeValue) (level i : ℕ) (e : Entry) → IsNamed image g roots x → IsGoodAs image g x n → n.level ≡ suc level → slice_get n.entries i ≡ Some e
      → IsNamed image g roots (child_name x n level i e)
  volume : (x : Name) (n : NodeValue) (e : Entry) → IsNamed image g roots x → IsGoodAs image g x n → n.kind ≡ Device → n.level ≡ 0 → Contains n.entries e
      → IsNamed image g roots (root_name Mapping (told_blocks g e.size) e.value)

-- ---- faults of superblocks

-- no superblock can be chosen, or the disk is shorter than the chosen one says
abbrev pub HasBadSuper : List Sector → Type 0
HasBadSuper image =
    ((refusal : Refusal) × Chooses image (Err refusal))
    ⊎ ((superblock : Superblock) × Chooses image (Ok superblock) × (length image < sectors_of_image superblock.geometry))

-- ---- faults of trees, below the roots of the devices

-- A tree block is named in which no node stands of the form, kind and level that are demanded. In version 1 also: the last field of a record is not zero.
pub data HasBadNode (image : List Sector) (version : Version) (g : Geometry) (roots : List ℕ) : Type 0 where
  unformed : (x : Name) → IsNamed image g roots x → IsTreeBlock g x.block → ((n : NodeValue) → IsFormedAs image g x n → ⊥) → HasBadNode image version g roots
  nonzero : (root : ℕ) → Contains roots root → (id volume_root mapped size : ℕ) → version ≡ OneSize → IsDevice image root id volume_root mapped size → (size ≡ 0 → ⊥)
      → HasBadNode image version g roots

-- the keys of a node do not ascend, or lie outside their interval, or those of an inner node do not begin at its lower end
abbrev pub IsOutOfOrder : Name → NodeValue → Type 0
IsOutOfOrder x n =
    (IsStrictlyIncreasing (keys n.entries) → ⊥)
    ⊎ ((e : Entry) × Contains n.entries e × ((e.key < x.low) ⊎ (x.high ≤ e.key)))
    ⊎ ((0 < n.level) × (0 < length n.entries) × (BeginsAt x.low n.entries → ⊥))

pub record HasBadOrder (image : List Sector) (g : Geometry) (roots : List ℕ) : Type 0 where
  pub name : Name
  pub node : NodeValue
  pub named : IsNamed image g roots name
  pub formed : IsFormedAs image g name node
  pub broken : IsOutOfOrder name node

-- a number of a root, a child or a data block is out of its range, or there are more than 65536 volumes
pub data HasOutOfPlace (image : List Sector) (g : Geometry) (roots : List ℕ) : Type 0 where
  entry : (x : Name) (n : NodeValue) (e : Entry) → IsNamed image g roots x → IsGoodAs image g x n → Contains n.entries e
      → (IsInRange g (is_naming_data n.kind n.level) e.value → ⊥) → HasOutOfPlace image g roots
  many : (root : ℕ) → Contains roots root → (level : ℕ) (records : List Entry) → IsContent image Device level root records → 65536 < length records → HasOutOfPlace image g roots

-- a name that demands no level is that of a root
abbrev pub is_root : Option ℕ → Bool
is_root None = true
is_root (Some level) = false

-- a node has fewer entries than the least
pub record HasHalfEmpty (image : List Sector) (g : Geometry) (roots : List ℕ) : Type 0 where
  pub name : Name
  pub node : NodeValue
  pub named : IsNamed image g roots name
  pub good : IsGoodAs image g name node
  pub few : length node.entries < least_of (is_root name.level) node.kind node.level

-- a record tells another number of mapped blocks than the leaves of its volume's tree have entries
pub record HasBadMapped (image : List Sector) (g : Geometry) (roots : List ℕ) : Type 0 where
  pub root : ℕ
  pub known : Contains roots root
  pub id : ℕ
  pub volume_root : ℕ
  pub mapped : ℕ
  pub size : ℕ
  pub level : ℕ
  pub entries : List Entry
  pub device : IsDevice image root id volume_root mapped size
  pub content : IsContent image Mapping level volume_root entries
  pub differs : length entries ≡ mapped → ⊥

-- in version 2 a record tells a size that no volume may have
pub record HasBadRecordSize (image : List Sector) (version : Version) (g : Geometry) (roots : List ℕ) : Type 0 where
  pub version_is : version ≡ OwnSizes
  pub root : ℕ
  pub known : Contains roots root
  pub id : ℕ
  pub volume_root : ℕ
  pub mapped : ℕ
  pub size : ℕ
  pub device : IsDevice image root id volume_root mapped size
  pub bad : IsToldSize g size → ⊥

-- ---- faults of counts, in the area of the superblock

-- No counts that stand in the area are the true ones, or too few metadata blocks have the count 0.
pub data HasBadCount (image : List Sector) (superblock : Superblock) : Type 0 where
  untrue : (part : Part) (area : SlotId) (nodes : List NodeValue) → slot_number area ≡ superblock.sequence % 2 → AreReachable image (roots_of superblock) nodes
      → ((counts : List ℕ) → HoldsCounts image superblock.geometry part area counts
      → ((b : ℕ) → b < blocks_of superblock.geometry part → slice_index counts b ≡ true_count superblock.geometry (roots_of superblock) nodes part b) → ⊥)
      → HasBadCount image superblock
  few : (area : SlotId) (counts : List ℕ) → slot_number area ≡ superblock.sequence % 2
      → HoldsCounts image superblock.geometry Metadata area counts → count_by (λ n. n == 0) counts < 128 → HasBadCount image superblock

-- so it is with the superblock of the image
abbrev pub IsSo : List Sector → (Superblock → Type 0) → Type 0
IsSo image Fault = (superblock : Superblock) × Chooses image (Ok superblock) × (sectors_of_image superblock.geometry ≤ length image) × Fault superblock
