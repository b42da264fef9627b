-- Internal: what a removal makes of a tree on the disk.
use Rattle.std.specs.Prelude.{◌≡◌, ℕ, suc, ◌+◌, ◌*◌, ◌<◌, ◌≤◌, List, ◌∷◌, ◌++◌, drop, take}
use Rattle.tp_model.specs.Disk.{DiskState}
use Rattle.tp_layout.specs.Node.{NodeValue, most_level}
use Rattle.tp_layout.specs.declared.entry.Entry.{Entry}
use Rattle.tp_layout.specs.declared.kind.TreeKind.{TreeKind}
use Rattle.tp_refs.specs.Store.{MayName, Store, children, node_at, node_from, values, with_count, with_node}
use Rattle.tp_refs.specs.Balance.{Frame, HasRoomFor, occurrences}
use Rattle.tp_refs.specs.Lower.{LowerLast}
use Rattle.tp_trees.specs.Growth.{Grown, StandsIn, roots}
use Rattle.tp_trees.specs.Removal.{Refitted, Refitting, Removed, Removing, Taken}
use Rattle.tp_tm.specs.Tm.{Tm}
use Rattle.tp_tm.specs.Holds.{Holds}
use Rattle.tp_btree.specs.declared.replacement.Changed.{Changed}
use Rattle.tp_btree.specs.Trees.{base_of}
use Rattle.tp_btree.specs.Replaces.{as_reference}

-- Entries of a rank were written to one of two open blocks, or to both. The blocks are closed then.
pub record Mended (base : ℕ) (s : Store) (new : Tm) (disk : DiskState) (at other : ℕ) (opens held : List ℕ) (g : Grown) (rank : ℕ) (es : List Entry) : Type 0 where
  pub after : Store
  pub holds : Holds new disk opens (roots g ++ held) after
  pub stands : StandsIn after g rank es
  pub frame : Frame s after (values es ++ held)
  pub last : LowerLast base (other ∷ at ∷ opens) opens s after

-- A node was written to its open block, and the open block `other` given up.
abbrev pub IsWrittenAlone : ℕ → Tm → DiskState → Tm → DiskState → ℕ → NodeValue → Type 0
IsWrittenAlone m t before u after other n =
    (opens held : List ℕ) (s : Store) → Holds t before (other ∷ n.own ∷ opens) (children (node_from m n) ++ held) s
    → ((c : ℕ) → 0 < occurrences c (children (node_from m n)) → MayName (node_from m n).rank (node_at s c).rank)
    → Holds u after opens (n.own ∷ held) (with_node (with_count s other 0) n.own (node_from m n))

-- The entries of two nodes side by side can be written so, where the blocks of both are open.
abbrev pub CanMend : ℕ → Tm → DiskState → Tm → DiskState → NodeValue → NodeValue → Grown → Type 0
CanMend m t before u after l r g =
    (base : ℕ) (opens held : List ℕ) (s : Store) → Holds t before (r.own ∷ l.own ∷ opens) (values ((node_from m l).entries ++ (node_from m r).entries) ++ held) s
    → ((c : ℕ) → 0 < occurrences c (values ((node_from m l).entries ++ (node_from m r).entries)) → MayName (node_from m l).rank (node_at s c).rank)
    → Mended base s u after l.own r.own opens held g (node_from m l).rank ((node_from m l).entries ++ (node_from m r).entries)

-- A part below the entry at a place of a node, of which k levels lie below the node, may be written to its open block.
pub record CanRefit (m : ℕ) (t : Tm) (disk : DiskState) (kind : TreeKind) (es : List Entry) (i : ℕ) (part : NodeValue) (opens held : List ℕ) (s : Store) (k low high : ℕ) : Type 0 where
  pub holds : Holds t disk (part.own ∷ opens) (values (node_from m part).entries ++ (values (take i es) ++ (values (drop (suc i) es) ++ held))) s
  pub refitting : Refitting (base_of kind) k s low high es i part.own (node_from m part) opens held
  pub levels : k < most_level kind
  pub room : HasRoomFor 806 opens held

-- It was written, alone or with a sibling, and the node has these entries.
pub record Refit (m : ℕ) (s : Store) (new : Tm) (disk : DiskState) (kind : TreeKind) (es : List Entry) (i : ℕ) (part : NodeValue) (opens held : List ℕ) (k low high : ℕ) (fs : List Entry) : Type 0 where
  pub after : Store
  pub holds : Holds new disk opens (values fs ++ held) after
  pub refitted : Refitted (base_of kind) k s after low high es i part.own (node_from m part) fs opens held

-- An entry may be taken out below a block, of a tree of k levels above the leaves.
pub record CanRemove (t : Tm) (disk : DiskState) (kind : TreeKind) (opens held : List ℕ) (s : Store) (k low high b key : ℕ) (was : Entry) : Type 0 where
  pub holds : Holds t disk opens (b ∷ held) s
  pub removing : Removing (base_of kind) s b key was k low high opens held
  pub levels : k ≤ most_level kind
  pub room : HasRoomFor (808 + 252 * k) opens held

-- It was taken out: the reference to the block became an open block, and this node is to be written there.
pub record Cutout (m : ℕ) (s : Store) (new : Tm) (disk : DiskState) (kind : TreeKind) (opens held : List ℕ) (k low high b key : ℕ) (was : Entry) (node : NodeValue) (told : Entry) : Type 0 where
  pub after : Store
  pub holds : Holds new disk (node.own ∷ opens) (values (node_from m node).entries ++ was.value ∷ held) after
  pub taken : Taken (base_of kind) s after b key was k low high opens held node.own (node_from m node)
  pub told_is : was ≡ as_reference m kind told

-- The node, or its only child, is the root of the tree then.
pub record Settled (s : Store) (new : Tm) (disk : DiskState) (kind : TreeKind) (opens held : List ℕ) (k high root key : ℕ) (was : Entry) (to : ℕ) : Type 0 where
  pub after : Store
  pub holds : Holds new disk opens (to ∷ was.value ∷ held) after
  pub removed : Removed (base_of kind) k s after high root key was opens held to

-- It was taken out of a whole tree, and told.
pub record WasRemoved (m : ℕ) (s : Store) (new : Tm) (disk : DiskState) (kind : TreeKind) (opens held : List ℕ) (k high root key : ℕ) (was : Entry) (done : Changed) : Type 0 where
  pub after : Store
  pub holds : Holds new disk opens (done.root ∷ was.value ∷ held) after
  pub removed : Removed (base_of kind) k s after high root key was opens held done.root
  pub told : was ≡ as_reference m kind done.was
