-- Internal: what a check knows of the blocks that it walked.
use Rattle.std.specs.Prelude.{◌≡◌, ◌⊎◌, ℕ, zero, suc, ◌+◌, ◌-◌, ◌^◌, ◌<◌, ◌≤◌, ◌==◌, nat_eq, Bool, List, [], length, set, count_by, map, take, Option, None, Some, MatchOption, slice_get, slice_index, slice_index_or, IsTrue, All, Contains}
use Rattle.std.specs.List.{IsDistinct}
use Rattle.tp_model.specs.Disk.{DiskState, seen}
use Rattle.tp_model.specs.Geometry.{Geometry}
use Rattle.tp_model.specs.Told.{IsToldSize, told_blocks}
use Rattle.tp_model.specs.Sectors.{Sector}
use Rattle.tp_layout.specs.Node.{NodeValue, keys}
use Rattle.tp_layout.specs.declared.entry.Entry.{Entry}
use Rattle.tp_layout.specs.declared.kind.TreeKind.{TreeKind}
use Rattle.tp_layout.specs.declared.kind.TreeKind.TheVariants.{Device, Mapping}
use Rattle.tp_layout.specs.declared.superblock.Version.{Version}
use Rattle.tp_layout.specs.declared.superblock.Version.TheVariants.{OneSize, OwnSizes}
use Rattle.tp_image.specs.Nodes.{IsDevice, IsNodeAt}
use Rattle.tp_image.specs.Counts.{AreReachable, IsReachable, data_count, data_names, is_naming_data, metadata_count, metadata_names}
use Rattle.tp_image.specs.Rules.{BeginsAt, IsContent, IsInRange, IsRecordSize, IsTree, IsWholeTree, Joined, KeepTheRules, least_of}
use Rattle.tp_image.specs.Faults.{HasBadMapped, HasBadNode, HasBadOrder, HasBadRecordSize, HasHalfEmpty, HasOutOfPlace, IsFormedAs, IsNamed, Name, end_of, is_root}
use Rattle.tp_check.specs.declared.error.CheckError.{CheckError}
use Rattle.tp_check.specs.declared.error.CheckError.TheVariants.{Fault, Memory, BadSuper, BadNode, BadOrder, BadCount, OutOfPlace, HalfEmpty, BadMapped, BadRecordSize}
use Rattle.tp_check.specs.declared.summary.Demand.{Demand}
use Rattle.tp_check.specs.declared.summary.Summary.{Summary}

-- ---- names

abbrev pub name_of : Demand → Name
name_of d = record { kind = d.kind; level = d.level; low = d.low; high = d.high; block = d.block }

-- what an entry of a node of this level names: the root of a volume in a leaf of the device tree, and else a child
abbrev pub under_at : ℕ → Geometry → Demand → Option Entry → Entry → Demand
under_at zero g d next e = record { kind = Mapping; level = None; low = 0; high = told_blocks g e.size; block = e.value; mapped = Some e.mapped }
under_at (suc level) g d next e = record { kind = d.kind; level = Some level; low = e.key; high = end_of next d.high; block = e.value; mapped = None }

abbrev pub demand_under : Geometry → Demand → NodeValue → ℕ → Entry → Demand
demand_under g d n i e = under_at n.level g d (slice_get n.entries (suc i)) e

-- what the root of the device tree is named as
abbrev pub root_demand : ℕ → Demand
root_demand root = record { kind = Device; level = None; low = 0; high = 2 ^ 24; block = root; mapped = None }

-- what is wrong in the trees, by the error that tells it
abbrev pub HasTreeFault : List Sector → Version → Geometry → List ℕ → CheckError → Type 0
HasTreeFault image version g roots Fault = Unit {0}
HasTreeFault image version g roots Memory = Unit {0}
HasTreeFault image version g roots BadSuper = ⊥
HasTreeFault image version g roots BadNode = HasBadNode image version g roots
HasTreeFault image version g roots BadOrder = HasBadOrder image g roots
HasTreeFault image version g roots BadCount = ⊥
HasTreeFault image version g roots OutOfPlace = HasOutOfPlace image g roots
HasTreeFault image version g roots HalfEmpty = HasHalfEmpty image g roots
HasTreeFault image version g roots BadMapped = HasBadMapped image g roots
HasTreeFault image version g roots BadRecordSize = HasBadRecordSize image version g roots

-- ---- a block's summary against a name

abbrev pub IsLike : Summary → Demand → Type 0
IsLike s d = (s.kind ≡ d.kind) × MatchOption d.level (Unit {0}) (λ level. s.level ≡ level)

-- full enough, and its keys lie from `low` up to, not including, `high`
pub record Suits (s : Summary) (is_root : Bool) (low high : ℕ) : Type 0 where
  pub filled : least_of is_root s.kind s.level ≤ s.len
  pub above : 0 < s.len → low ≤ s.first
  pub begins : 0 < s.len → 0 < s.level → s.first ≡ low
  pub under : 0 < s.len → s.last < high

abbrev pub IsCounted : Summary → Demand → Type 0
IsCounted s d = MatchOption d.mapped (Unit {0}) (λ mapped. s.below ≡ mapped)

pub record Passes (s : Summary) (d : Demand) : Type 0 where
  pub like : IsLike s d
  pub suits : Suits s (is_root d.level) d.low d.high
  pub counted : IsCounted s d

abbrev pub IsAstray : Summary → Demand → Type 0
IsAstray s d = (s.first < d.low) ⊎ ((0 < s.level) × (s.first ≡ d.low → ⊥)) ⊎ (d.high ≤ s.last)

abbrev pub Fails : CheckError → Summary → Demand → Type 0
Fails Fault s d = ⊥
Fails Memory s d = ⊥
Fails BadSuper s d = ⊥
Fails BadNode s d = IsLike s d → ⊥
Fails BadOrder s d = IsLike s d × (0 < s.len) × IsAstray s d
Fails BadCount s d = ⊥
Fails OutOfPlace s d = ⊥
Fails HalfEmpty s d = IsLike s d × (s.len < least_of (is_root d.level) s.kind s.level)
Fails BadMapped s d = IsLike s d × (IsCounted s d → ⊥)
Fails BadRecordSize s d = ⊥

-- ---- the sizes that records tell

-- the error that tells what is wrong with a size in an image of this version
abbrev pub IsMissized : Version → Geometry → ℕ → CheckError → Type 0
IsMissized version g size e = ((e ≡ BadNode) × (version ≡ OneSize) × (size ≡ 0 → ⊥)) ⊎ ((e ≡ BadRecordSize) × (version ≡ OwnSizes) × (IsToldSize g size → ⊥))

-- where the node has records, each tells a size that it may tell
abbrev pub AreRecorded : Version → Geometry → NodeValue → Type 0
AreRecorded version g n = n.kind ≡ Device → n.level ≡ 0 → (e : Entry) → Contains n.entries e → IsRecordSize version g e.size

-- ---- what a summary says of the image

pub record Knows (image : List Sector) (g : Geometry) (roots : List ℕ) (b : ℕ) (s : Summary) : Type 0 where
  pub node : NodeValue
  pub here : IsNodeAt image b node
  pub kind_is : s.kind ≡ node.kind
  pub level_is : s.level ≡ node.level
  pub len_is : s.len ≡ length node.entries
  pub begins : 0 < s.len → BeginsAt s.first node.entries
  pub keys : 0 < s.len → All (λ (e : Entry). (s.first ≤ e.key) × (e.key ≤ s.last)) node.entries
  pub tree : (is_root : Bool) (low high : ℕ) → Suits s is_root low high → IsTree image g s.kind is_root s.level low high b
  pub content : (all : List Entry) × IsContent image s.kind s.level b all × (length all ≡ s.below)
  -- under a name that ends before the last key, some node has a key past its end
  pub late : (x : Name) → IsNamed image g roots x → IsFormedAs image g x node → 0 < s.len → x.high ≤ s.last → HasBadOrder image g roots

-- the block was walked
abbrev pub IsKept : List (Option Summary) → ℕ → Type 0
IsKept known b = (s : Summary) × (slice_index_or known b None ≡ Some s)

-- blocks that were walked stay so
abbrev pub Grows : List (Option Summary) → List (Option Summary) → Type 0
Grows old new = (b : ℕ) → IsKept old b → IsKept new b

-- what a record says is so of its volume's tree
pub record IsGoodVolume (image : List Sector) (version : Version) (g : Geometry) (e : Entry) : Type 0 where
  pub size : IsRecordSize version g e.size
  pub tree : IsWholeTree image g Mapping 3 (told_blocks g e.size) e.value
  pub mapped : (level : ℕ) (entries : List Entry) → IsContent image Mapping level e.value entries → length entries ≡ e.mapped

-- a node that was walked, with all below it
pub record IsClosed (image : List Sector) (version : Version) (g : Geometry) (roots : List ℕ) (known : List (Option Summary)) (n : NodeValue) : Type 0 where
  pub here : IsNodeAt image n.own n
  pub reached : IsReachable image roots n
  pub kept : IsKept known n.own
  pub below : (v : ℕ) → Contains (metadata_names n) v → IsKept known v
  pub volumes : n.kind ≡ Device → n.level ≡ 0 → (e : Entry) → Contains n.entries e → IsGoodVolume image version g e

-- how far a walk came: for each metadata block what is known of the tree below it, and how often each block is named
pub record Progress : Type 0 where
  pub version : Version
  pub geometry : Geometry
  pub roots : List ℕ
  pub known : List (Option Summary)
  pub metadata : List ℕ
  pub others : List ℕ

pub record IsSized (g : Geometry) (known : List (Option Summary)) (metadata others : List ℕ) : Type 0 where
  pub known_long : length known ≡ g.metadata_blocks
  pub metadata_long : length metadata ≡ g.metadata_blocks
  pub others_long : length others ≡ g.data_blocks

-- Some nodes are closed, each summary is true of its block, which is one of these nodes, and the names are those that they have.
pub record IsWalked (image : List Sector) (p : Progress) : Type 0 where
  pub few_roots : length p.roots ≤ 2  -- so that no count comes near 2 ^ 32
  pub nodes : List NodeValue
  pub closed : (n : NodeValue) → Contains nodes n → IsClosed image p.version p.geometry p.roots p.known n
  pub once : IsDistinct nat_eq (map (λ n. n.own) nodes)
  pub knows : (b : ℕ) (s : Summary) → slice_index_or p.known b None ≡ Some s → Knows image p.geometry p.roots b s
  pub listed : (b : ℕ) → IsKept p.known b → (n : NodeValue) × Contains nodes n × (n.own ≡ b)
  pub metadata_named : (b : ℕ) → b < length p.metadata → slice_index p.metadata b ≡ metadata_count p.geometry p.roots nodes b
  pub others_named : (b : ℕ) → b < length p.others → slice_index p.others b ≡ data_count nodes b

-- nothing was walked yet
pub record IsFresh (version : Version) (g : Geometry) (roots : List ℕ) (p : Progress) : Type 0 where
  pub version_is : p.version ≡ version
  pub geometry : p.geometry ≡ g
  pub roots_is : p.roots ≡ roots
  pub known : (b : ℕ) → slice_index_or p.known b None ≡ None
  pub metadata : (b : ℕ) → b < length p.metadata → slice_index p.metadata b ≡ metadata_count g roots [] b
  pub others : (b : ℕ) → slice_index p.others b ≡ 0

-- how a node's names are counted where no count comes near 2 ^ 32
abbrev pub Counted : (NodeValue → List ℕ) → NodeValue → List ℕ → List ℕ → Type 0
Counted names n old new = (b : ℕ) → b < length old → slice_index old b + length n.entries < 2 ^ 32 → slice_index new b ≡ slice_index old b + count_by (λ x. x == b) (names n)

pub record CountsNames (n : NodeValue) (old new : Progress) : Type 0 where
  pub metadata : Counted metadata_names n old.metadata new.metadata
  pub others : Counted data_names n old.others new.others

-- what is the same after each step of a walk
pub record IsSame (old new : Progress) : Type 0 where
  pub version : new.version ≡ old.version
  pub geometry : new.geometry ≡ old.geometry
  pub roots : new.roots ≡ old.roots
  pub known_long : length new.known ≡ length old.known
  pub metadata_long : length new.metadata ≡ length old.metadata
  pub others_long : length new.others ≡ length old.others

-- A node is closed: its block's summary is kept, and its names are counted, unless this block was closed before.
pub record Closes (n : NodeValue) (s : Summary) (old new : Progress) : Type 0 where
  pub same : IsSame old new
  pub known : new.known ≡ set old.known n.own (Some s)
  pub first : slice_index_or old.known n.own None ≡ None → CountsNames n old new
  pub again : IsKept old.known n.own → (new.metadata ≡ old.metadata) × (new.others ≡ old.others)

-- a walk below a name begins on an honest disk
abbrev pub IsBegun : DiskState → Progress → Demand → Type 0
IsBegun disk p d = IsTrue disk.is_honest × IsNamed (seen disk.cells) p.geometry p.roots (name_of d) × IsWalked (seen disk.cells) p

-- what a walk below a name brings
pub record Comes (image : List Sector) (old new : Progress) (d : Demand) (s : Summary) : Type 0 where
  pub walked : IsWalked image new
  pub knows : Knows image old.geometry old.roots d.block s
  pub kept : IsKept new.known d.block
  pub grows : Grows old.known new.known

-- where a record names a volume's root, it is one of a device tree
abbrev pub IsTold : List Sector → List ℕ → Demand → Type 0
IsTold image roots d = MatchOption d.mapped (Unit {0}) (λ mapped. (root : ℕ) × Contains roots root × (id : ℕ) × (size : ℕ) × IsDevice image root id d.block mapped size × (d.kind ≡ Mapping))

-- the tree below one of the roots was walked, and keeps the rules
pub record IsRooted (image : List Sector) (old new : Progress) (root : ℕ) : Type 0 where
  pub walked : IsWalked image new
  pub grows : Grows old.known new.known
  pub kept : IsKept new.known root
  pub rules : KeepTheRules image new.version new.geometry root

-- the trees keep the rules, and all of their names are counted
pub record IsWhole (image : List Sector) (p : Progress) : Type 0 where
  pub nodes : List NodeValue
  pub reachable : AreReachable image p.roots nodes
  pub rules : (root : ℕ) → Contains p.roots root → KeepTheRules image p.version p.geometry root
  pub metadata : (b : ℕ) → b < length p.metadata → slice_index p.metadata b ≡ metadata_count p.geometry p.roots nodes b
  pub others : (b : ℕ) → b < length p.others → slice_index p.others b ≡ data_count nodes b

-- ---- the entries of a node, up to one

-- the tree that an entry names was walked, and passed
pub record IsUnder (image : List Sector) (g : Geometry) (roots : List ℕ) (d : Demand) : Type 0 where
  pub summary : Summary
  pub knows : Knows image g roots d.block summary
  pub passes : Passes summary d

-- those of the first `i` entries; `last` is the last key below the last of them, and `below` is how many entries there are
pub record IsBelow (image : List Sector) (g : Geometry) (roots : List ℕ) (d : Demand) (n : NodeValue) (i last below : ℕ) : Type 0 where
  pub each : (k : ℕ) (e : Entry) → k < i → slice_get n.entries k ≡ Some e
      → (u : IsUnder image g roots (demand_under g d n k e)) × (suc k ≡ i → u.summary.last ≡ last)
  pub content : (level : ℕ) → n.level ≡ suc level
      → (all : List Entry) × Joined (λ child entries. IsContent image n.kind level child entries) (take i n.entries) all × (length all ≡ below)

-- so far the entries of a node were walked
pub record WalksOn (image : List Sector) (old now : Progress) (d : Demand) (n : NodeValue) (i last below : ℕ) : Type 0 where
  pub walked : IsWalked image now
  pub grows : Grows old.known now.known
  pub kept : (k : ℕ) (e : Entry) → k < i → slice_get n.entries k ≡ Some e → IsKept now.known e.value
  pub under : IsBelow image old.geometry old.roots d n i last below

-- the first in a leaf, and else the second
abbrev pub leaf_or : ℕ → ℕ → ℕ → ℕ
leaf_or zero leaf inner = leaf
leaf_or (suc level) leaf inner = inner

-- what is kept of a node
abbrev pub summary_of : NodeValue → ℕ → ℕ → Summary
summary_of n last below = record {
  kind = n.kind;
  level = n.level;
  len = length n.entries;
  first = slice_index (keys n.entries) 0;
  last = leaf_or n.level (slice_index (keys n.entries) (length n.entries - 1)) last;
  below = leaf_or n.level (length n.entries) below;
}

-- the values of a node's entries lie where they should
abbrev pub IsInside : Geometry → NodeValue → Type 0
IsInside g n = (e : Entry) → Contains n.entries e → IsInRange g (is_naming_data n.kind n.level) e.value

-- ---- the depth of the walk

-- the greatest depth below a name: 0 for a leaf of a volume's tree
abbrev pub depth : TreeKind → Option ℕ → ℕ
depth Mapping None = 3
depth Mapping (Some level) = level
depth Device None = 6
depth Device (Some level) = 4 + level
