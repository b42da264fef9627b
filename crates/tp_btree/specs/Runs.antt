-- Internal: the leaf that a key leads to, and what it says of a run of keys.
use Rattle.std.specs.Prelude.{◌≡◌, ℕ, ◌<◌, ◌≤◌, List, Bool, Option, nat_lt, slice_index, ◌||◌}
use Rattle.tp_model.specs.Disk.{DiskState, seen}
use Rattle.tp_layout.specs.Entries.{found}
use Rattle.tp_layout.specs.declared.kind.TreeKind.{TreeKind}
use Rattle.tp_image.specs.Nodes.{block_at}
use Rattle.tp_refs.specs.Store.{Store}
use Rattle.tp_trees.specs.Tree.{is_shared_path, pairs}
use Rattle.tp_tm.specs.Tm.{Tm, counts_now}
use Rattle.tp_btree.specs.declared.look_up.Found.{Found}
use Rattle.tp_btree.specs.Trees.{StandsBelow, Told}

-- These bytes are those of the leaf that a key leads to from a block, in a tree of k levels above the leaves: it tells of the key
-- what the tree tells, and the last `Bool` whether something above it, or itself, is named more than once, as the first one is for
-- the block.
pub record LeadsToLeaf (t : Tm) (disk : DiskState) (kind : TreeKind) (opens held : List ℕ) (s : Store) (k key b : ℕ) (above : Bool) (bytes : List ℕ) (here : Bool) : Type 0 where
  pub leaf : ℕ
  pub low : ℕ
  pub high : ℕ
  pub over : Bool
  pub stands : StandsBelow t disk kind opens held s 0 low high leaf
  pub lower : low ≤ key
  pub upper : key < high
  pub spelled : bytes ≡ block_at (seen disk.cells) leaf
  pub counted : here ≡ (over || nat_lt 1 (slice_index (counts_now t) leaf))
  pub same_found : found key (pairs k s b) ≡ found key (pairs 0 s leaf)
  pub same_path : (above || is_shared_path k s key b) ≡ (over || is_shared_path 0 s key leaf)

-- what the bytes of a leaf tell of a key, where a key leads to them
abbrev pub LeafTells : Tm → TreeKind → ℕ → List ℕ → Bool → Option Found → Type 0
LeafTells t kind key bytes here answer = (disk : DiskState) (opens held : List ℕ) (s : Store) (k b : ℕ) (above : Bool) → LeadsToLeaf t disk kind opens held s k key b above bytes here
    → Told t.geometry.metadata_blocks kind (found key (pairs k s b)) (above || is_shared_path k s key b) answer

-- no key leads to a leaf of these bytes
abbrev pub IsNoLeaf : Tm → TreeKind → ℕ → List ℕ → Bool → Type 0
IsNoLeaf t kind key bytes here = (disk : DiskState) (opens held : List ℕ) (s : Store) (k b : ℕ) (above : Bool) → LeadsToLeaf t disk kind opens held s k key b above bytes here → ⊥
