-- Trusted reading: the nodes and the counts of a pool as data, with one row of numbers for all references: metadata block b is b, and
-- data block p is the number of metadata blocks plus p (own).
use Rattle.std.specs.Prelude.{◌≡◌, ◌≢◌, ℕ, zero, suc, ◌+◌, ◌<◌, List, [], ◌∷◌, map, slice_index, slice_index_or, set}
use Rattle.tp_layout.specs.Node.{NodeValue}
use Rattle.tp_layout.specs.declared.entry.Entry.{Entry}
use Rattle.tp_layout.specs.declared.kind.TreeKind.{TreeKind}
use Rattle.tp_layout.specs.declared.kind.TreeKind.TheVariants.{Device, Mapping}

-- A node of either tree. Its rank says what it is: 0 no node, 1 a leaf of a mapping tree, 2 to 4 an inner node of one, 5 a
-- leaf of the device tree, 6 and 7 an inner node of it. The values of its entries are references.
pub record Node : Type 0 where
  pub rank : ℕ
  pub entries : List Entry

-- the number of references to each block now and at the last commit, and the node in each metadata block
pub record Store : Type 0 where
  pub counts : List ℕ
  pub kept : List ℕ
  pub nodes : List Node

abbrev pub no_node : Node
no_node = record { rank = 0; entries = [] }

abbrev pub count_of : Store → ℕ → ℕ
count_of s b = slice_index s.counts b

abbrev pub kept_of : Store → ℕ → ℕ
kept_of s b = slice_index s.kept b

abbrev pub node_at : Store → ℕ → Node
node_at s b = slice_index_or s.nodes b no_node

abbrev pub values : List Entry → List ℕ
values [] = []
values (e ∷ es) = e.value ∷ values es

abbrev pub named_by : ℕ → List Entry → List ℕ
named_by zero es = []
named_by (suc rank) es = values es

-- the references that a node has, each as often as it has it
abbrev pub children : Node → List ℕ
children n = named_by n.rank n.entries

-- the store with another count of a block
abbrev pub with_count : Store → ℕ → ℕ → Store
with_count s b n = record { counts = set s.counts b n; kept = s.kept; nodes = s.nodes }

-- the store with another node in a block
abbrev pub with_node : Store → ℕ → Node → Store
with_node s b n = record { counts = s.counts; kept = s.kept; nodes = set s.nodes b n }

-- A node of this rank may name a node of that rank: the children of a leaf of the device tree are the roots of mapping
-- trees, of any level; those of any other node stand one rank lower.
pub record MayName (parent child : ℕ) : Type 0 where
  pub below : child < parent
  pub next : parent ≢ 5 → parent ≡ child + 1
  pub root : parent ≡ 5 → 0 < child

-- the store when a commit was kept: its counts are those of the commit
abbrev pub committed : Store → Store
committed s = record { counts = s.counts; kept = s.counts; nodes = s.nodes }

-- ---- from a node of the layout

abbrev pub rank_of : TreeKind → ℕ → ℕ
rank_of Mapping level = suc level
rank_of Device level = 5 + level

-- the reference to block 0 of the part whose blocks such a node names, with m metadata blocks
abbrev pub first_named : ℕ → TreeKind → ℕ → ℕ
first_named m Mapping zero = m
first_named m Mapping (suc level) = 0
first_named m Device level = 0

abbrev pub moved_by : ℕ → Entry → Entry
moved_by first e = record { key = e.key; value = first + e.value; mapped = e.mapped; size = e.size }

-- the node that a node of the layout is, among m metadata blocks
abbrev pub node_from : ℕ → NodeValue → Node
node_from m n = record { rank = rank_of n.kind n.level; entries = map (moved_by (first_named m n.kind n.level)) n.entries }
