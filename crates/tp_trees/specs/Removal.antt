-- Internal: what takes an entry out of a tree (own).
use Rattle.std.specs.Prelude.{◌≡◌, ℕ, zero, suc, ◌+◌, ◌<◌, ◌≤◌, List, ◌∷◌, ◌++◌, length, Some, take, drop, slice_index_or}
use Rattle.tp_layout.specs.declared.entry.Entry.{Entry}
use Rattle.tp_layout.specs.Entries.{Ascend, first_key, found, without_key}
use Rattle.tp_refs.specs.Store.{MayName, Node, Store, children, node_at, values}
use Rattle.tp_refs.specs.Balance.{Balanced, Frame, LowerStay, occurrences}
use Rattle.tp_refs.specs.Lower.{LowerLast}
use Rattle.tp_trees.specs.Tree.{IsTree, IsWhole, Parted, blank, joined, least_of, pairs}
use Rattle.tp_trees.specs.Sizes.{gathered, nodes_of, nodes_under}

-- the entries are those of the root of a tree of k levels above the leaves
abbrev pub Shape : ℕ → ℕ → Store → ℕ → ℕ → List Entry → Type 0
Shape base zero s low high es = Ascend low high es
Shape base (suc k) s low high es = Parted (λ from to c. IsTree base k s from to c × (least_of (base + k) ≤ length (node_at s c).entries)) low high es

-- the entries of the leaves below the entries of a node of k levels above them
abbrev pub contents : ℕ → Store → List Entry → List Entry
contents zero s es = es
contents (suc k) s es = joined (pairs k s) es

-- The block is the root of a tree that has an entry at the key, and a reference to it is held. A root that is no leaf has
-- two entries.
pub record Removing (base : ℕ) (s : Store) (b key : ℕ) (was : Entry) (height low high : ℕ) (opens held : List ℕ) : Type 0 where
  pub tree : IsTree base height s low high b
  pub lower : low ≤ key
  pub upper : key < high
  pub present : found key (pairs height s b) ≡ Some was
  pub branches : 0 < height → 2 ≤ length (node_at s b).entries
  pub balance : Balanced s opens (b ∷ held)

-- the node is the root of a tree with this content, and has at most one entry less than n
pub record Shrinks (base k : ℕ) (s : Store) (low high : ℕ) (node : Node) (n : ℕ) (ps : List Entry) : Type 0 where
  pub rank : node.rank ≡ base + k
  pub shape : Shape base k s low high node.entries
  pub content : contents k s node.entries ≡ ps
  pub full : n ≤ length node.entries + 1
  pub names : (c : ℕ) → 0 < occurrences c (values node.entries) → MayName node.rank (node_at s c).rank

-- The entry was taken out below the block: the reference to the block became an open block and the node that is to be
-- written there, which may have one entry too few. The reference to the entry's value is handed out.
pub record Taken (base : ℕ) (s u : Store) (b key : ℕ) (was : Entry) (height low high : ℕ) (opens held : List ℕ) (at : ℕ) (node : Node) : Type 0 where
  pub shrinks : Shrinks base height u low high node (length (node_at s b).entries) (without_key key (pairs height s b))
  pub size : length (nodes_under height u node.entries) + 1 ≤ length (nodes_of height s b)
  pub balance : Balanced u (at ∷ opens) (values node.entries ++ was.value ∷ held)
  pub frame : Frame s u (was.value ∷ held)
  pub last : LowerLast base opens (at ∷ opens) s u

-- Entries of a node of k + 1 levels above the leaves: the part below the one at a place is to be written to an open block.
pub record Refitting (base k : ℕ) (s : Store) (low high : ℕ) (es : List Entry) (i at : ℕ) (part : Node) (opens held : List ℕ) : Type 0 where
  pub within : i < length es
  pub several : 2 ≤ length es
  pub front : Shape base (suc k) s low (slice_index_or es i blank).key (take i es)
  pub ordered : (slice_index_or es i blank).key < first_key (drop (suc i) es) high
  pub rest : Shape base (suc k) s (first_key (drop (suc i) es) high) high (drop (suc i) es)
  pub rank : part.rank ≡ base + k
  pub shape : Shape base k s (slice_index_or es i blank).key (first_key (drop (suc i) es) high) part.entries
  pub nearly : least_of (base + k) ≤ length part.entries + 1
  pub balance : Balanced s (at ∷ opens) (values part.entries ++ (values (take i es) ++ (values (drop (suc i) es) ++ held)))
  pub names : (c : ℕ) → 0 < occurrences c (values part.entries) → MayName part.rank (node_at s c).rank

-- the entries once it was written, and no part below has too few
pub record Refitted (base k : ℕ) (s v : Store) (low high : ℕ) (es : List Entry) (i at : ℕ) (part : Node) (fs : List Entry) (opens held : List ℕ) : Type 0 where
  pub shape : Shape base (suc k) v low high fs
  pub content : joined (pairs k v) fs ≡ joined (pairs k s) (take i es) ++ (contents k s part.entries ++ joined (pairs k s) (drop (suc i) es))
  pub size : length (gathered (nodes_of k v) fs) ≤ length (gathered (nodes_of k s) (take i es)) + (1 + length (nodes_under k s part.entries)) + length (gathered (nodes_of k s) (drop (suc i) es))
  pub full : length es ≤ length fs + 1
  pub balance : Balanced v opens (values fs ++ held)
  pub frame : Frame s v held
  pub last : LowerLast base (at ∷ opens) opens s v

-- Entries of this rank are to stand in an open block and a sibling's: what the sibling names and the references held are
-- those of the entries and the references kept.
pub record Mends (s : Store) (at sibling rank : ℕ) (es : List Entry) (opens held kept : List ℕ) : Type 0 where
  pub balance : Balanced s (at ∷ opens) (sibling ∷ held)
  pub parts : (c : ℕ) → occurrences c (children (node_at s sibling)) + occurrences c held ≡ occurrences c (values es) + occurrences c kept
  pub names : (c : ℕ) → 0 < occurrences c (values es) → MayName rank (node_at s c).rank
  pub rank_there : (node_at s sibling).rank ≡ rank

-- The entry was taken out of a whole tree: the reference to its root became one to the root of a tree that is no higher.
-- The reference to the entry's value is handed out.
pub record Removed (base k : ℕ) (s v : Store) (high root key : ℕ) (was : Entry) (opens held : List ℕ) (to : ℕ) : Type 0 where
  pub height : ℕ
  pub lower : height ≤ k
  pub whole : IsWhole base height v high to
  pub content : pairs height v to ≡ without_key key (pairs k s root)
  pub size : length (nodes_of height v to) ≤ length (nodes_of k s root)
  pub balance : Balanced v opens (to ∷ was.value ∷ held)
  pub frame : Frame s v (was.value ∷ held)
  pub stay : LowerStay base opens s v
