-- Trusted reading: the rules of the trees of an image: order, intervals, least and most entries, levels, ranges (own layout).
use Rattle.std.specs.Prelude.{◌≡◌, ℕ, zero, suc, ◌<◌, ◌≤◌, ◌^◌, Bool, true, false, List, [], ◌∷◌, ◌++◌, length, All}
use Rattle.tp_model.specs.Geometry.{Geometry, IsTreeBlock}
use Rattle.tp_model.specs.Told.{IsToldSize, told_blocks}
use Rattle.tp_model.specs.Sectors.{Sector}
use Rattle.tp_layout.specs.Node.{NodeValue, is_long, least_entries}
use Rattle.tp_layout.specs.declared.entry.Entry.{Entry}
use Rattle.tp_layout.specs.declared.kind.TreeKind.{TreeKind}
use Rattle.tp_layout.specs.declared.kind.TreeKind.TheVariants.{Device, Mapping}
use Rattle.tp_layout.specs.declared.superblock.Version.{Version}
use Rattle.tp_layout.specs.declared.superblock.Version.TheVariants.{OneSize, OwnSizes}
use Rattle.tp_image.specs.Nodes.{IsNodeAt, IsDevice}
use Rattle.tp_image.specs.Counts.{is_naming_data}

-- a root that is a leaf may be empty, one that is not has two entries at least
abbrev pub least_of_root : ℕ → ℕ
least_of_root zero = 0
least_of_root (suc level) = 2

abbrev pub least_of : Bool → TreeKind → ℕ → ℕ
least_of true kind level = least_of_root level
least_of false kind level = least_entries (is_long kind level)

-- where the values of a node's entries lie
abbrev pub IsInRange : Geometry → Bool → ℕ → Type 0
IsInRange g true p = p < g.data_blocks
IsInRange g false b = IsTreeBlock g b

-- A node of this level for the keys from `low` up to, not including, `high`.
pub record KeepsRules (image : List Sector) (g : Geometry) (kind : TreeKind) (is_root : Bool) (level low high b : ℕ) (n : NodeValue) : Type 0 where
  pub here : IsNodeAt image b n
  pub kind_is : n.kind ≡ kind
  pub level_is : n.level ≡ level
  pub filled : least_of is_root kind level ≤ length n.entries
  pub keys : All (λ (e : Entry). (low ≤ e.key) × (e.key < high)) n.entries
  pub values : All (λ (e : Entry). IsInRange g (is_naming_data kind level) e.value) n.entries

-- the first key of an inner node is the lower end of its interval
abbrev pub BeginsAt : ℕ → List Entry → Type 0
BeginsAt low [] = ⊥
BeginsAt low (e ∷ entries) = e.key ≡ low

-- each child has the interval from its key up to the next one, or up to the end
abbrev pub Children : (ℕ → ℕ → ℕ → Type 0) → ℕ → List Entry → Type 0
Children Under high [] = Unit {0}
Children Under high (e ∷ []) = Under e.key high e.value
Children Under high (e ∷ next ∷ entries) = Under e.key next.key e.value × Children Under high (next ∷ entries)

-- A tree of this many levels over a block keeps the rules of nodes.
unfoldable pub IsTree : List Sector → Geometry → TreeKind → Bool → ℕ → ℕ → ℕ → ℕ → Type 0
IsTree image g kind is_root zero low high b = (n : NodeValue) × KeepsRules image g kind is_root zero low high b n
IsTree image g kind is_root (suc level) low high b =
    (n : NodeValue) × KeepsRules image g kind is_root (suc level) low high b n × BeginsAt low n.entries × Children (λ from to child. IsTree image g kind false level from to child) high n.entries

-- a whole tree, of at most 3 levels for devices and 4 for a volume, whose keys lie below their limit
pub record IsWholeTree (image : List Sector) (g : Geometry) (kind : TreeKind) (most_level limit root : ℕ) : Type 0 where
  pub level : ℕ
  pub low_enough : level ≤ most_level
  pub tree : IsTree image g kind true level 0 limit root

-- ---- the entries of all leaves, in order

-- the entries under each of these, one after another
abbrev pub Joined : (ℕ → List Entry → Type 0) → List Entry → List Entry → Type 0
Joined Under [] all = all ≡ []
Joined Under (e ∷ entries) all = (first : List Entry) × (rest : List Entry) × Under e.value first × Joined Under entries rest × (all ≡ first ++ rest)

-- these are the entries of the leaves of a tree of this many levels over a block
unfoldable pub IsContent : List Sector → TreeKind → ℕ → ℕ → List Entry → Type 0
IsContent image kind zero b all = (n : NodeValue) × IsNodeAt image b n × (n.kind ≡ kind) × (n.level ≡ 0) × (all ≡ n.entries)
IsContent image kind (suc level) b all =
    (n : NodeValue) × IsNodeAt image b n × (n.kind ≡ kind) × (n.level ≡ suc level) × Joined (λ child entries. IsContent image kind level child entries) n.entries all

-- the size that a record may tell in an image of this version
abbrev pub IsRecordSize : Version → Geometry → ℕ → Type 0
IsRecordSize OneSize g size = size ≡ 0
IsRecordSize OwnSizes g size = IsToldSize g size

-- The device tree, of at most 65536 records, and each volume's tree keep the rules, and each record tells a size that the version has, and how many
-- blocks its volume maps.
pub record KeepTheRules (image : List Sector) (version : Version) (g : Geometry) (root : ℕ) : Type 0 where
  pub devices : IsWholeTree image g Device 2 (2 ^ 24) root
  pub sizes : (id volume_root mapped size : ℕ) → IsDevice image root id volume_root mapped size → IsRecordSize version g size
  pub volumes : (id volume_root mapped size : ℕ) → IsDevice image root id volume_root mapped size → IsWholeTree image g Mapping 3 (told_blocks g size) volume_root
  pub few_devices : (level : ℕ) (records : List Entry) → IsContent image Device level root records → length records ≤ 65536
  pub mapped_is : (id volume_root mapped size level : ℕ) (entries : List Entry) → IsDevice image root id volume_root mapped size → IsContent image Mapping level volume_root entries → length entries ≡ mapped
