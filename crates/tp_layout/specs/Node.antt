-- Trusted reading: what a node is, and the one spelling of each.
use Rattle.std.specs.Prelude.{◌≡◌, ℕ, zero, suc, ◌-◌, ◌*◌, ◌^◌, ◌≤◌, ◌<◌, Bool, true, false, List, ◌++◌, length, map, All}
use Rattle.std.specs.List.{flat_map}
use Rattle.std.specs.List.Sorted.{IsStrictlyIncreasing}
use Rattle.tp_layout.specs.Numbers.{le32, le64, zeros}
use Rattle.tp_layout.specs.declared.entry.Entry.{Entry}
use Rattle.tp_layout.specs.declared.kind.TreeKind.{TreeKind}
use Rattle.tp_layout.specs.declared.kind.TreeKind.TheVariants.{Device, Mapping}

-- a node without where it lies in memory
pub record NodeValue : Type 0 where
  pub kind : TreeKind
  pub level : ℕ
  pub own : ℕ
  pub entries : List Entry

abbrev pub kind_number : TreeKind → ℕ
kind_number Device = 1
kind_number Mapping = 2

abbrev pub most_level : TreeKind → ℕ
most_level Device = 2
most_level Mapping = 3

-- whether the entries are the long ones: those of a leaf of the device tree
abbrev pub is_long : TreeKind → ℕ → Bool
is_long Device zero = true
is_long Device (suc level) = false
is_long Mapping level = false

abbrev pub entry_len : Bool → ℕ
entry_len true = 32
entry_len false = 16

abbrev pub most_entries : Bool → ℕ
most_entries true = 126
most_entries false = 252

-- the least entries of a node that is no root
abbrev pub least_entries : Bool → ℕ
least_entries true = 63
least_entries false = 126

abbrev pub keys : List Entry → List ℕ
keys entries = map (λ e. e.key) entries

-- The bytes of one entry. The last field of a long one is the size of its volume.
unfoldable pub entry_bytes : Bool → Entry → List ℕ
entry_bytes true e = le64 e.key ++ le64 e.value ++ le64 e.mapped ++ le64 e.size
entry_bytes false e = le64 e.key ++ le64 e.value

-- the bytes of a node: a head of 64 bytes, the entries, and zeros up to 4096 bytes
unfoldable pub node_bytes : NodeValue → List ℕ
node_bytes n =
    le32 (kind_number n.kind) ++ le32 n.level ++ le64 n.own ++ le32 (length n.entries) ++ zeros 44
    ++ flat_map (entry_bytes (is_long n.kind n.level)) n.entries
    ++ zeros (4032 - entry_len (is_long n.kind n.level) * length n.entries)

-- what an entry of this length can say
pub record FitsEntry (long : Bool) (e : Entry) : Type 0 where
  pub key : e.key < 2 ^ 64
  pub value : e.value < 2 ^ 64
  pub mapped : e.mapped < 2 ^ 64
  pub size : e.size < 2 ^ 64
  pub short : long ≡ false → e.mapped ≡ 0
  pub sizeless : long ≡ false → e.size ≡ 0

-- A node whose form is good, whatever the order of its keys.
pub record IsFormed (n : NodeValue) : Type 0 where
  pub level : n.level ≤ most_level n.kind
  pub own : n.own < 65536
  pub room : length n.entries ≤ most_entries (is_long n.kind n.level)
  pub entries : All (FitsEntry (is_long n.kind n.level)) n.entries

-- A good node. Its least filling, its interval and the ranges of its numbers belong to the tree
-- that it stands in, and are no part of this.
pub record IsNode (n : NodeValue) : Type 0 where
  pub form : IsFormed n
  pub ascending : IsStrictlyIncreasing (keys n.entries)

-- these bytes are the spelling of a good node of this kind
abbrev pub SpellsNode : TreeKind → List ℕ → Type 0
SpellsNode kind bytes = (n : NodeValue) × (IsNode n × (n.kind ≡ kind) × (bytes ≡ node_bytes n))
