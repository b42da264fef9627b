-- Internal: what a replacement makes of a tree on the disk.
use Rattle.std.specs.Prelude.{◌≡◌, ℕ, suc, ◌+◌, ◌*◌, ◌<◌, ◌≤◌, List, ◌∷◌, ◌++◌, length, slice_index_or}
use Rattle.tp_model.specs.Disk.{DiskState}
use Rattle.tp_layout.specs.Node.{NodeValue, most_level}
use Rattle.tp_layout.specs.Entries.{rank_of}
use Rattle.tp_layout.specs.declared.entry.Entry.{Entry}
use Rattle.tp_layout.specs.declared.kind.TreeKind.{TreeKind}
use Rattle.tp_refs.specs.Store.{Store, children, first_named, moved_by, node_at, node_from}
use Rattle.tp_refs.specs.Balance.{HasRoomFor, SameNodes}
use Rattle.tp_trees.specs.Tree.{blank}
use Rattle.tp_trees.specs.Replacement.{Replaced, Replacing}
use Rattle.tp_tm.specs.Tm.{Tm}
use Rattle.tp_tm.specs.Holds.{Holds}
use Rattle.tp_btree.specs.declared.opening.Way.{Way}
use Rattle.tp_btree.specs.declared.replacement.Changed.{Changed}
use Rattle.tp_btree.specs.Trees.{base_of}

-- an entry of a leaf of this kind, among m metadata blocks, with its value as a reference
abbrev pub as_reference : ℕ → TreeKind → Entry → Entry
as_reference m kind e = moved_by (first_named m kind 0) e

-- The node of a block was opened: the reference to the block became those to what the node names.
pub record Opened (m : ℕ) (s : Store) (new : Tm) (disk : DiskState) (block : ℕ) (n : NodeValue) (opens held : List ℕ) : Type 0 where
  pub after : Store
  pub holds : Holds new disk (n.own ∷ opens) (children (node_at s block) ++ held) after
  pub same : SameNodes s after
  pub node : node_at s block ≡ node_from m n

-- the entry at this place is the last one with a key up to this, and names this block
pub record IsWay (m : ℕ) (es : List Entry) (key : ℕ) (way : Way) : Type 0 where
  pub rank : rank_of key es ≡ suc way.index
  pub within : way.index < length es
  pub child : way.child ≡ (slice_index_or es way.index blank).value
  pub inside : way.child < m

-- no entry has a key up to this, or the last one that has names none of m blocks
abbrev pub NoWay : ℕ → List Entry → ℕ → Type 0
NoWay m es key = (i : ℕ) → rank_of key es ≡ suc i → m ≤ (slice_index_or es i blank).value

-- An entry may be put in the place of another one below a block, in a tree of k levels above the leaves.
pub record CanReplace (t : Tm) (disk : DiskState) (kind : TreeKind) (opens held : List ℕ) (s : Store) (k low high b : ℕ) (x was : Entry) : Type 0 where
  pub holds : Holds t disk opens (b ∷ x.value ∷ held) s
  pub replacing : Replacing (base_of kind) s b x was k low high opens held
  pub levels : k ≤ most_level kind
  pub room : HasRoomFor (302 + 252 * k) opens held

-- It stands in the place of that one, which is told.
pub record Swapped (m : ℕ) (s : Store) (new : Tm) (disk : DiskState) (kind : TreeKind) (opens held : List ℕ) (k low high b : ℕ) (x was : Entry) (done : Changed) : Type 0 where
  pub after : Store
  pub holds : Holds new disk opens (done.root ∷ was.value ∷ held) after
  pub replaced : Replaced (base_of kind) s after b x was k low high opens held done.root
  pub told : was ≡ as_reference m kind done.was
