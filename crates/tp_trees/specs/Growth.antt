-- Internal: what an insertion makes of a tree: what stands where a node was that grew, and may have been split (own).
use Rattle.std.specs.Prelude.{◌≡◌, ℕ, suc, ◌+◌, ◌<◌, ◌≤◌, List, [], ◌∷◌, ◌++◌, length, None, take, drop, slice_index_or}
use Rattle.tp_layout.specs.declared.entry.Entry.{Entry}
use Rattle.tp_layout.specs.Entries.{first_key, found, with_entry}
use Rattle.tp_refs.specs.Store.{Store, MayName, node_at, values}
use Rattle.tp_refs.specs.Balance.{Balanced, Frame, LowerStay}
use Rattle.tp_refs.specs.Lower.{LowerLast}
use Rattle.tp_trees.specs.Tree.{IsTree, IsWhole, blank, least_of, pairs}
use Rattle.tp_trees.specs.Sizes.{nodes_of}

-- one node, or two with the first key of the second
pub data Grown : Type 0 where
  One : ℕ → Grown
  Two : ℕ → ℕ → ℕ → Grown

-- the blocks to which references are held then
abbrev pub roots : Grown → List ℕ
roots (One b) = b ∷ []
roots (Two b middle c) = b ∷ c ∷ []

-- how many nodes the trees below them have
abbrev pub nodes_in : ℕ → Store → Grown → ℕ
nodes_in k s (One b) = length (nodes_of k s b)
nodes_in k s (Two b middle c) = length (nodes_of k s b) + length (nodes_of k s c)

-- an entry of an inner node
abbrev pub branch : ℕ → ℕ → Entry
branch key child = record { key = key; value = child; mapped = 0; size = 0 }

-- the entries that name them, from a first key on
abbrev pub branches : ℕ → Grown → List Entry
branches low (One b) = branch low b ∷ []
branches low (Two b middle c) = branch low b ∷ branch middle c ∷ []

-- the entries of a node whose child at a place grew
abbrev pub traded : List Entry → ℕ → Grown → List Entry
traded es i g = take i es ++ (branches (slice_index_or es i blank).key g ++ drop (suc i) es)

-- what a node names beside the child at a place
abbrev pub others : List Entry → ℕ → List ℕ
others es i = values (take i es) ++ values (drop (suc i) es)

-- the entries of two nodes of this rank, side by side, are these, and neither has too few
pub record Halves (s : Store) (b middle c rank : ℕ) (es : List Entry) : Type 0 where
  pub left : List Entry
  pub right : List Entry
  pub whole : es ≡ left ++ right
  pub at_left : node_at s b ≡ record { rank = rank; entries = left }
  pub at_right : node_at s c ≡ record { rank = rank; entries = right }
  pub between : (high : ℕ) → first_key right high ≡ middle
  pub left_full : least_of rank ≤ length left
  pub right_full : least_of rank ≤ length right

-- the entries stand in one node of this rank, or in two
abbrev pub StandsIn : Store → Grown → ℕ → List Entry → Type 0
StandsIn s (One b) rank es = node_at s b ≡ record { rank = rank; entries = es }
StandsIn s (Two b middle c) rank es = Halves s b middle c rank es

-- one tree with this content, whose root has at least n entries
pub record Whole (base k : ℕ) (s : Store) (low high b n : ℕ) (ps : List Entry) : Type 0 where
  pub tree : IsTree base k s low high b
  pub content : pairs k s b ≡ ps
  pub full : n ≤ length (node_at s b).entries

-- two trees side by side with this content
pub record Parts (base k : ℕ) (s : Store) (low high b middle c : ℕ) (ps : List Entry) : Type 0 where
  pub left : IsTree base k s low middle b
  pub right : IsTree base k s middle high c
  pub content : pairs k s b ++ pairs k s c ≡ ps
  pub left_full : least_of (base + k) ≤ length (node_at s b).entries
  pub right_full : least_of (base + k) ≤ length (node_at s c).entries
  pub lower : low < middle
  pub upper : middle < high

abbrev pub Grows : ℕ → ℕ → Store → ℕ → ℕ → Grown → ℕ → List Entry → Type 0
Grows base k s low high (One b) n ps = Whole base k s low high b n ps
Grows base k s low high (Two b middle c) n ps = Parts base k s low high b middle c ps

-- The block is the root of a tree that has a place for the entry's key and does not have it, and references to the block
-- and to the entry's value are held. A leaf may name the value.
pub record Adding (base : ℕ) (s : Store) (b : ℕ) (x : Entry) (height low high : ℕ) (opens held : List ℕ) : Type 0 where
  pub tree : IsTree base height s low high b
  pub lower : low ≤ x.key
  pub upper : x.key < high
  pub absent : found x.key (pairs height s b) ≡ None
  pub balance : Balanced s opens (b ∷ x.value ∷ held)
  pub value_rank : MayName base (node_at s x.value).rank

-- The entry was added below the block: the references to the block and to the entry's value became those to what stands
-- there. What stands under the other held blocks, and below the leaves, is as it was. There is one node more for each level at most.
pub record Added (base : ℕ) (s v : Store) (b : ℕ) (x : Entry) (height low high : ℕ) (opens held : List ℕ) (g : Grown) : Type 0 where
  pub grows : Grows base height v low high g (length (node_at s b).entries) (with_entry x (pairs height s b))
  pub size : nodes_in height v g + 1 ≤ length (nodes_of height s b) + height + length (roots g)
  pub balance : Balanced v opens (roots g ++ held)
  pub frame : Frame s v held
  pub stay : LowerStay base opens s v

-- Entries of a node of this rank were written to an open block, or to that and a second one, which are then closed. The
-- references to them are held in place of those of the entries.
pub record Placed (base : ℕ) (s v : Store) (at : ℕ) (opens held : List ℕ) (g : Grown) (rank : ℕ) (es : List Entry) : Type 0 where
  pub stands : StandsIn v g rank es
  pub balance : Balanced v opens (roots g ++ held)
  pub frame : Frame s v (values es ++ held)
  pub last : LowerLast base (at ∷ opens) opens s v

-- The entry was added to a whole tree: the references to its root and to the entry's value became one to a root, whose
-- tree has one level more at most.
pub record Inserted (base k : ℕ) (s w : Store) (high root : ℕ) (x : Entry) (opens held : List ℕ) (top : ℕ) : Type 0 where
  pub height : ℕ
  pub higher : height ≤ k + 1
  pub whole : IsWhole base height w high top
  pub content : pairs height w top ≡ with_entry x (pairs k s root)
  pub size : length (nodes_of height w top) ≤ length (nodes_of k s root) + height + 1
  pub balance : Balanced w opens (top ∷ held)
  pub frame : Frame s w held
  pub stay : LowerStay base opens s w

-- A tree without entries was written to a block that was free, and a reference to it is held.
pub record Started (base : ℕ) (s v : Store) (b : ℕ) (opens held : List ℕ) : Type 0 where
  pub whole : (high : ℕ) → IsWhole base 0 v high b
  pub content : pairs 0 v b ≡ []
  pub balance : Balanced v opens (b ∷ held)
  pub frame : Frame s v held
  pub stay : LowerStay base opens s v
