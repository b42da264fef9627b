-- Internal: what replaces the value at a key of a tree (own).
use Rattle.std.specs.Prelude.{◌≡◌, ℕ, ◌<◌, ◌≤◌, List, ◌∷◌, length, Some}
use Rattle.tp_layout.specs.declared.entry.Entry.{Entry}
use Rattle.tp_layout.specs.Entries.{found, with_entry}
use Rattle.tp_refs.specs.Store.{MayName, Store, node_at}
use Rattle.tp_refs.specs.Balance.{Balanced, Frame, LowerStay}
use Rattle.tp_trees.specs.Tree.{IsTree, pairs}
use Rattle.tp_trees.specs.Sizes.{nodes_of}

-- The block is the root of a tree that has an entry at the key of this one, and references to the block and to the new
-- entry's value are held. A leaf may name the value.
pub record Replacing (base : ℕ) (s : Store) (b : ℕ) (x was : Entry) (height low high : ℕ) (opens held : List ℕ) : Type 0 where
  pub tree : IsTree base height s low high b
  pub lower : low ≤ x.key
  pub upper : x.key < high
  pub present : found x.key (pairs height s b) ≡ Some was
  pub balance : Balanced s opens (b ∷ x.value ∷ held)
  pub value_rank : MayName base (node_at s x.value).rank

-- The entry stands in place of the one that had its key: the references to the block and to its value became those to a
-- block and to the value before. What stands under that value and the other held blocks, and below the leaves, is as it was.
-- There are as many nodes as before.
pub record Replaced (base : ℕ) (s v : Store) (b : ℕ) (x was : Entry) (height low high : ℕ) (opens held : List ℕ) (to : ℕ) : Type 0 where
  pub tree : IsTree base height v low high to
  pub content : pairs height v to ≡ with_entry x (pairs height s b)
  pub same : length (node_at v to).entries ≡ length (node_at s b).entries
  pub size : length (nodes_of height v to) ≡ length (nodes_of height s b)
  pub balance : Balanced v opens (to ∷ was.value ∷ held)
  pub frame : Frame s v (was.value ∷ held)
  pub stay : LowerStay base opens s v
