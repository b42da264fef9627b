-- Trusted reading: when nodes and counts as data are those of the blocks (own).
use Rattle.std.specs.Prelude.{◌≡◌, ℕ, ◌<◌, ◌≤◌, List, ◌∷◌, ◌++◌, length, nat_lt, if◌then◌else◌}
use Rattle.tp_model.specs.Sectors.{Sector}
use Rattle.tp_model.specs.Disk.{DiskState, seen}
use Rattle.tp_layout.specs.Node.{NodeValue}
use Rattle.tp_layout.specs.declared.kind.TreeKind.{TreeKind}
use Rattle.tp_layout.specs.declared.kind.TreeKind.TheVariants.{Device, Mapping}
use Rattle.tp_image.specs.Nodes.{IsNodeAt}
use Rattle.tp_refs.specs.Store.{Node, Store, children, count_of, node_at, node_from}
use Rattle.tp_refs.specs.Balance.{Balanced, LowerStay, SameNodes, occurrences}
use Rattle.tp_tm.specs.Tm.{Tm, counts_now, counts_kept}

-- the block spells this node
abbrev pub IsSpelled : ℕ → List Sector → ℕ → Node → Type 0
IsSpelled m image b node = (n : NodeValue) × (IsNodeAt image b n × (node ≡ node_from m n))

-- The counts are those in memory, and each live block that is not open spells the node that the store has there.
pub record Stands (t : Tm) (image : List Sector) (opens : List ℕ) (s : Store) : Type 0 where
  pub counts : s.counts ≡ counts_now t
  pub kept : s.kept ≡ counts_kept t
  pub sized : length s.nodes ≡ t.geometry.metadata_blocks
  pub nodes : (b : ℕ) → 0 < count_of s b → occurrences b opens ≡ 0 → 0 < (node_at s b).rank → IsSpelled t.geometry.metadata_blocks image b (node_at s b)

-- the store stands in memory and on the disk, and its counts are those of its references
pub record Holds (t : Tm) (disk : DiskState) (opens held : List ℕ) (s : Store) : Type 0 where
  pub stands : Stands t (seen disk.cells) opens s
  pub balanced : Balanced s opens held

-- the ranks of the nodes of a tree
abbrev pub IsRankOf : TreeKind → ℕ → Type 0
IsRankOf Mapping rank = (0 < rank) × (rank < 5)
IsRankOf Device rank = (4 < rank) × (rank < 8)

-- the kind of the nodes that a node of this rank names
abbrev pub kind_below : ℕ → TreeKind
kind_below rank = if nat_lt 5 rank then Device else Mapping

-- a rank of this kind that is at most so great, or 0 where that is 0
abbrev pub IsUnder : TreeKind → ℕ → ℕ → Type 0
IsUnder kind top rank = (rank ≤ top) × (0 < top → IsRankOf kind rank)

-- What stands after references were given up: a store with the same nodes.
pub record Released (s : Store) (new : Tm) (disk : DiskState) (opens held : List ℕ) : Type 0 where
  pub after : Store
  pub holds : Holds new disk opens held after
  pub same : SameNodes s after

-- What stands after a reference to the node in `block` was traded for the open block `to`: a store with the same nodes,
-- where the holder has a reference to each block that the node names.
pub record Shadowed (s : Store) (new : Tm) (disk : DiskState) (to block : ℕ) (opens held : List ℕ) : Type 0 where
  pub after : Store
  pub holds : Holds new disk (to ∷ opens) (children (node_at s block) ++ held) after
  pub same : SameNodes s after
  pub lower : LowerStay (node_at s block).rank opens s after
