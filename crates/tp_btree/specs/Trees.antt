-- Internal: trees that stand on the disk, and what is read of them.
use Rattle.std.specs.Prelude.{◌≡◌, ℕ, zero, suc, ◌+◌, ◌<◌, ◌≤◌, List, Bool, Option, Some, None, slice_get, slice_index_or, length}
use Rattle.tp_model.specs.Disk.{DiskState}
use Rattle.tp_layout.specs.Node.{most_level}
use Rattle.tp_layout.specs.Entries.{rank_of}
use Rattle.tp_layout.specs.declared.entry.Entry.{Entry}
use Rattle.tp_layout.specs.declared.kind.TreeKind.{TreeKind}
use Rattle.tp_layout.specs.declared.kind.TreeKind.TheVariants.{Device, Mapping}
use Rattle.tp_refs.specs.Store.{Store, count_of, first_named, moved_by, node_at}
use Rattle.tp_refs.specs.Balance.{occurrences}
use Rattle.tp_trees.specs.Tree.{IsTree, blank}
use Rattle.tp_tm.specs.Tm.{Tm}
use Rattle.tp_tm.specs.Holds.{Holds}
use Rattle.tp_btree.specs.declared.look_up.Found.{Found}
use Rattle.tp_btree.specs.declared.step.NodeStep.{NodeStep}

-- the rank of the leaves
abbrev pub base_of : TreeKind → ℕ
base_of Mapping = 1
base_of Device = 5

-- The store stands on the disk, and in it a tree of k levels above the leaves below a live block that is not open.
pub record StandsBelow (t : Tm) (disk : DiskState) (kind : TreeKind) (opens held : List ℕ) (s : Store) (k low high b : ℕ) : Type 0 where
  pub holds : Holds t disk opens held s
  pub tree : IsTree (base_of kind) k s low high b
  pub levels : k ≤ most_level kind
  pub live : 0 < count_of s b
  pub closed : occurrences b opens ≡ 0

-- A look-up in a tree of this kind, among m metadata blocks, tells an entry as its leaf has it, and this of its path.
abbrev pub Told : ℕ → TreeKind → Option Entry → Bool → Option Found → Type 0
Told m kind entry is_shared None = entry ≡ None
Told m kind entry is_shared (Some found) = (entry ≡ Some (moved_by (first_named m kind 0) found.entry)) × (found.is_shared ≡ is_shared)

-- the entry before this place, if there is one
abbrev pub before : List Entry → ℕ → Option Entry
before es zero = None
before es (suc i) = slice_get es i

-- the last entry with a key up to this one, if there is one
abbrev pub last_up_to : ℕ → List Entry → Option Entry
last_up_to key es = before es (rank_of key es)

-- the last entry of a store's node with a key up to this one is this entry of a node of this level
abbrev pub IsLast : ℕ → TreeKind → ℕ → ℕ → List Entry → Option Entry → Type 0
IsLast m kind level key es None = rank_of key es ≡ 0
IsLast m kind level key es (Some e) = (i : ℕ) × (rank_of key es ≡ suc i) × (i < length es) × (slice_index_or es i blank ≡ moved_by (first_named m kind level) e)

-- what is found of a key in the node of a block
pub record IsStep (m : ℕ) (kind : TreeKind) (s : Store) (key b : ℕ) (step : NodeStep) : Type 0 where
  pub rank : (node_at s b).rank ≡ base_of kind + step.level
  pub entry : IsLast m kind step.level key (node_at s b).entries step.entry
