-- Trusted reading: the nodes of an image, and the entries that paths lead to (own layout).
use Rattle.std.specs.Prelude.{◌≡◌, ◌⊎◌, ℕ, ◌+◌, ◌*◌, ◌<◌, ◌≤◌, List, Option, Some, slice_get, MatchOption, Contains}
use Rattle.tp_model.specs.Pool.{copy_id}
use Rattle.tp_model.specs.Sectors.{Sector, bytes_at}
use Rattle.tp_layout.specs.Node.{NodeValue, IsNode, node_bytes}
use Rattle.tp_layout.specs.declared.entry.Entry.{Entry}
use Rattle.tp_layout.specs.declared.kind.TreeKind.{TreeKind}
use Rattle.tp_layout.specs.declared.kind.TreeKind.TheVariants.{Device, Mapping}

-- the 4096 bytes of a metadata block
abbrev pub block_at : List Sector → ℕ → List ℕ
block_at image b = bytes_at image (8 * b) 8

-- this good node stands in its block
pub record IsNodeAt (image : List Sector) (b : ℕ) (n : NodeValue) : Type 0 where
  pub good : IsNode n
  pub own : n.own ≡ b
  pub bytes : block_at image b ≡ node_bytes n

-- A path of entries leads from a block to this entry of a leaf, through nodes of one kind.
pub data LeadsTo (image : List Sector) (kind : TreeKind) : ℕ → Entry → Type 0 where
  ends : {b : ℕ} {e : Entry} (n : NodeValue) → IsNodeAt image b n → n.kind ≡ kind → n.level ≡ 0 → Contains n.entries e → LeadsTo image kind b e
  goes : {b : ℕ} {e : Entry} (n : NodeValue) (child : Entry) → IsNodeAt image b n → n.kind ≡ kind → 0 < n.level → Contains n.entries child
      → LeadsTo image kind child.value e → LeadsTo image kind b e

-- the volume of this id has this root, and its record says that so many of its blocks are mapped, and tells this size
abbrev pub IsDevice : List Sector → ℕ → ℕ → ℕ → ℕ → ℕ → Type 0
IsDevice image root id volume_root mapped size = LeadsTo image Device root (record { key = id; value = volume_root; mapped = mapped; size = size })

-- the block of the volume stands at this data block
pub record IsMapped (image : List Sector) (root id block place : ℕ) : Type 0 where
  pub volume_root : ℕ
  pub mapped : ℕ
  pub size : ℕ
  pub device : IsDevice image root id volume_root mapped size
  pub entry : LeadsTo image Mapping volume_root (record { key = block; value = place; mapped = 0; size = 0 })

-- ---- below two roots: that of now, and that of a held copy, if there is one (0 is no tree block)

-- a device below the one has its own id, and one below the other that of a copy
abbrev pub IsDeviceOf : List Sector → ℕ → ℕ → ℕ → ℕ → ℕ → ℕ → Type 0
IsDeviceOf image root held id volume_root mapped size =
    IsDevice image root id volume_root mapped size ⊎ ((device : ℕ) × (0 < held) × (id ≡ copy_id device) × IsDevice image held device volume_root mapped size)

abbrev pub IsMappedOf : List Sector → ℕ → ℕ → ℕ → ℕ → ℕ → Type 0
IsMappedOf image root held id block place =
    IsMapped image root id block place ⊎ ((device : ℕ) × (0 < held) × (id ≡ copy_id device) × IsMapped image held device block place)

-- ---- by intervals

-- the key lies before that of the next entry, if there is one
abbrev pub IsBefore : ℕ → Option Entry → Type 0
IsBefore key next = MatchOption next (Unit {0}) (λ e. key < e.key)

-- A path whose intervals all hold the key leads from a block to this entry of a leaf, which has the key: child i of a
-- node holds the keys from key i up to, not including, key i + 1.
pub data HasEntry (image : List Sector) (kind : TreeKind) (key : ℕ) : ℕ → Entry → Type 0 where
  found : {b : ℕ} {e : Entry} (n : NodeValue) → IsNodeAt image b n → n.kind ≡ kind → n.level ≡ 0 → Contains n.entries e → e.key ≡ key → HasEntry image kind key b e
  under : {b : ℕ} {e : Entry} (n : NodeValue) (i : ℕ) (child : Entry) → IsNodeAt image b n → n.kind ≡ kind → 0 < n.level → slice_get n.entries i ≡ Some child
      → child.key ≤ key → IsBefore key (slice_get n.entries (i + 1)) → HasEntry image kind key child.value e → HasEntry image kind key b e
