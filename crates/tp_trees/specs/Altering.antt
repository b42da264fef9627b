-- Internal: what changes the value at a key of a tree while the path to it is open (own).
use Rattle.std.specs.Prelude.{◌≡◌, ◌≢◌, ℕ, ◌<◌, ◌≤◌, List, ◌∷◌, ◌++◌, length, Some}
use Rattle.tp_layout.specs.declared.entry.Entry.{Entry}
use Rattle.tp_layout.specs.Entries.{found, with_entry}
use Rattle.tp_refs.specs.Store.{MayName, Store, node_at}
use Rattle.tp_refs.specs.Balance.{Balanced, Frame, SameBelow}
use Rattle.tp_trees.specs.Tree.{IsTree, pairs}

-- The block is the root of a tree that has an entry at the key. References to the block, and to what the change of the
-- entry's value uses up, are held.
pub record Altering (base : ℕ) (s : Store) (b key : ℕ) (was : Entry) (height low high : ℕ) (opens spent held : List ℕ) : Type 0 where
  pub tree : IsTree base height s low high b
  pub lower : low ≤ key
  pub upper : key < high
  pub present : found key (pairs height s b) ≡ Some was
  pub balance : Balanced s opens (b ∷ (spent ++ held))

-- While the path was open, the reference to the value before became one to another value. What stands under the other held
-- blocks is as it was.
pub record Turned (base : ℕ) (t u : Store) (key : ℕ) (x : Entry) (opens held : List ℕ) : Type 0 where
  pub key_is : x.key ≡ key
  pub balance : Balanced u opens (x.value ∷ held)
  pub sized : length u.nodes ≡ length t.nodes
  pub frame : Frame t u held
  pub names : MayName base (node_at u x.value).rank

-- The path was written: the tree has the new entry, what stands under it is as the change left it, and what stands under
-- each other entry and the held blocks is as it was.
pub record Altered (base : ℕ) (s u v : Store) (b : ℕ) (x : Entry) (height low high : ℕ) (opens held : List ℕ) (to : ℕ) : Type 0 where
  pub tree : IsTree base height v low high to
  pub content : pairs height v to ≡ with_entry x (pairs height s b)
  pub same : length (node_at v to).entries ≡ length (node_at s b).entries
  pub balance : Balanced v opens (to ∷ held)
  pub frame : Frame s v held
  pub value : (j : ℕ) → SameBelow j u v x.value
  pub others : (key : ℕ) (e : Entry) → low ≤ key → key < high → found key (pairs height s b) ≡ Some e → key ≢ x.key → (j : ℕ) → SameBelow j s v e.value
