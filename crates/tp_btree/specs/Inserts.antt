-- Internal: what an insertion makes of a tree on the disk.
use Rattle.std.specs.Prelude.{◌≡◌, ℕ, ◌+◌, ◌*◌, ◌<◌, ◌≤◌, Bool, List, ◌∷◌, ◌++◌, None, drop, length, slice_index_or, suc, ◌^◌}
use Rattle.tp_model.specs.Disk.{DiskState, FaultHasCause, IsSameDisk}
use Rattle.tp_layout.specs.Node.{NodeValue, most_level}
use Rattle.tp_layout.specs.Entries.{first_key, found, with_entry}
use Rattle.tp_layout.specs.declared.entry.Entry.{Entry}
use Rattle.tp_layout.specs.declared.kind.TreeKind.{TreeKind}
use Rattle.tp_layout.specs.declared.kind.TreeKind.TheVariants.{Device, Mapping}
use Rattle.tp_refs.specs.Store.{MayName, Node, Store, children, node_at, count_of, node_from, values, with_count, with_node}
use Rattle.tp_refs.specs.Balance.{Balanced, HasRoomFor, occurrences}
use Rattle.tp_trees.specs.Growth.{Added, Adding, Grown, Inserted, One, Placed, Two, branches, roots, traded}
use Rattle.tp_trees.specs.Tree.{IsWhole, blank, pairs}
use Rattle.tp_tm.specs.Tm.{Tm, free_metadata, used_metadata}
use Rattle.tp_tm.specs.Holds.{Holds}
use Rattle.tp_tm.specs.Keeps.{LeavesKept}
use Rattle.tp_btree.specs.declared.split.Parts.{Parts}
use Rattle.tp_btree.specs.declared.split.Parts.TheVariants.{Whole, Halves}
use Rattle.tp_btree.specs.Trees.{base_of}

-- A call that took n free blocks at most, as many more are in use then, and read and wrote on one disk: a stop at any moment of it changes nothing that
-- the last commit names, a fault is answered exactly where the disk failed, and nothing was flushed.
pub record Ran (n : ℕ) (faulted : Bool) (old new : Tm) (before after : DiskState) : Type 0 where
  pub geometry : new.geometry ≡ old.geometry
  pub metadata_kept : new.metadata_kept ≡ old.metadata_kept
  pub data_kept : new.data_kept ≡ old.data_kept
  pub held_root : new.held_root ≡ old.held_root
  pub room : free_metadata old ≤ free_metadata new + n
  pub used : used_metadata new ≤ used_metadata old + n
  pub any_moment : LeavesKept old.metadata_kept before after
  pub same_disk : IsSameDisk before after
  pub cause : FaultHasCause faulted before after
  pub flushes : after.flushes ≡ before.flushes

-- the blocks in place of a node that grew
abbrev pub grown : Parts → Grown
grown (Whole b) = One b
grown (Halves b middle c) = Two b middle c

-- they are metadata blocks, of which no pool has more than 65536
abbrev pub AreInside : ℕ → Parts → Type 0
AreInside m (Whole b) = (b < m) × (b < 65536)
AreInside m (Halves b middle c) = (b < m) × (b < 65536) × (c < m)

-- what stands once the node was written to its open block, which is then closed
abbrev pub IsWritten : ℕ → Tm → DiskState → Tm → DiskState → NodeValue → Type 0
IsWritten m t before u after n =
    (opens held : List ℕ) (s : Store) → Holds t before (n.own ∷ opens) (children (node_from m n) ++ held) s
    → ((c : ℕ) → 0 < occurrences c (children (node_from m n)) → MayName (node_from m n).rank (node_at s c).rank)
    → Holds u after opens (n.own ∷ held) (with_node s n.own (node_from m n))

-- The same for two nodes, of which the one with the greater keys was written first.
abbrev pub AreWritten : ℕ → Tm → DiskState → Tm → DiskState → NodeValue → NodeValue → Type 0
AreWritten m t before u after lower upper =
    (opens held : List ℕ) (s : Store) → Holds t before (upper.own ∷ lower.own ∷ opens) (children (node_from m upper) ++ (children (node_from m lower) ++ held)) s
    → ((c : ℕ) → 0 < occurrences c (children (node_from m upper)) → MayName (node_from m upper).rank (node_at s c).rank)
    → Balanced (with_node s upper.own (node_from m upper)) (lower.own ∷ opens) (children (node_from m lower) ++ (upper.own ∷ held))
    → ((c : ℕ) → 0 < occurrences c (children (node_from m lower))
    → MayName (node_from m lower).rank (node_at (with_node s upper.own (node_from m upper)) c).rank)
    → Holds u after opens (lower.own ∷ upper.own ∷ held) (with_node (with_node s upper.own (node_from m upper)) lower.own (node_from m lower))

-- a node with one entry more
abbrev pub with_new : Entry → NodeValue → NodeValue
with_new x n = record n { entries = with_entry x n.entries }

-- entries of a node of this rank were written to an open block, or to that and a second one
pub record Lands (base : ℕ) (s : Store) (new : Tm) (disk : DiskState) (at : ℕ) (opens held : List ℕ) (g : Grown) (rank : ℕ) (es : List Entry) : Type 0 where
  pub after : Store
  pub holds : Holds new disk opens (roots g ++ held) after
  pub placed : Placed base s after at opens held g rank es

-- this node can be written so to the open block `at`, where references to what it names are held
abbrev pub CanLand : Tm → DiskState → Tm → DiskState → ℕ → Node → Grown → Type 0
CanLand t before u after at n g =
    (base : ℕ) (opens held : List ℕ) (s : Store) → Holds t before (at ∷ opens) (values n.entries ++ held) s
    → ((c : ℕ) → 0 < occurrences c (values n.entries) → MayName n.rank (node_at s c).rank) → Lands base s u after at opens held g n.rank n.entries

-- the same for a node of the layout, to its own block
abbrev pub CanPlace : ℕ → Tm → DiskState → Tm → DiskState → NodeValue → Grown → Type 0
CanPlace m t before u after n g = CanLand t before u after n.own (node_from m n) g

-- a node whose child at a place grew
abbrev pub with_traded : ℕ → Grown → NodeValue → NodeValue
with_traded i g n = record n { entries = traded n.entries i g }

-- the first key of a second part lies between those of the child at a place and of the next one
abbrev pub IsBetween : List Entry → ℕ → Grown → Type 0
IsBetween es i (One b) = Unit {0}
IsBetween es i (Two b middle c) = ((slice_index_or es i blank).key < middle) × (high : ℕ) × (middle < first_key (drop (suc i) es) high)

-- an entry may be added below a block, to a tree of k levels above the leaves
pub record Wanted (t : Tm) (disk : DiskState) (kind : TreeKind) (opens held : List ℕ) (s : Store) (k low high b : ℕ) (x : Entry) : Type 0 where
  pub holds : Holds t disk opens (b ∷ x.value ∷ held) s
  pub adding : Adding (base_of kind) s b x k low high opens held
  pub levels : k ≤ most_level kind
  pub room : HasRoomFor (302 + 252 * k) opens held

-- it was added below the block
pub record Grew (s : Store) (new : Tm) (disk : DiskState) (kind : TreeKind) (opens held : List ℕ) (k low high b : ℕ) (x : Entry) (g : Grown) : Type 0 where
  pub after : Store
  pub holds : Holds new disk opens (roots g ++ held) after
  pub added : Added (base_of kind) s after b x k low high opens held g

-- A tree with so many entries and keys below `high` has no level too many: a mapping tree has at most 2^24 keys, the
-- device tree at most 65536 entries.
abbrev pub IsFew : TreeKind → ℕ → ℕ → Type 0
IsFew Mapping high count = high ≤ 2 ^ 24
IsFew Device high count = count ≤ 65536

-- An entry may be added to a whole tree of k levels above the leaves: its key is new, and references to the root and to
-- the entry's value are held.
pub record Insertable (t : Tm) (disk : DiskState) (kind : TreeKind) (opens held : List ℕ) (s : Store) (k high root : ℕ) (x : Entry) : Type 0 where
  pub holds : Holds t disk opens (root ∷ x.value ∷ held) s
  pub whole : IsWhole (base_of kind) k s high root
  pub levels : k ≤ most_level kind
  pub upper : x.key < high
  pub absent : found x.key (pairs k s root) ≡ None
  pub value_rank : MayName (base_of kind) (node_at s x.value).rank
  pub few : IsFew kind high (length (pairs k s root) + 1)
  pub room : HasRoomFor (302 + 252 * k) opens held

-- it was added, and the tree stands below another root
pub record InsertedAt (s : Store) (new : Tm) (disk : DiskState) (kind : TreeKind) (opens held : List ℕ) (k high root : ℕ) (x : Entry) (top : ℕ) : Type 0 where
  pub after : Store
  pub holds : Holds new disk opens (top ∷ held) after
  pub inserted : Inserted (base_of kind) k s after high root x opens held top

-- a root with two children was written to a block that was free
pub record Crowned (v : Store) (new : Tm) (disk : DiskState) (kind : TreeKind) (opens held : List ℕ) (k lower middle upper top : ℕ) : Type 0 where
  pub free : count_of v top ≡ 0
  pub inside : top < length v.nodes
  pub opened : Balanced (with_count v top 1) (top ∷ opens) (lower ∷ upper ∷ held)
  pub written : Balanced (with_count v top 1) (top ∷ opens) (values (branches 0 (Two lower middle upper)) ++ held)
      → ((y : ℕ) → 0 < occurrences y (values (branches 0 (Two lower middle upper))) → MayName (base_of kind + suc k) (node_at v y).rank)
      → Holds new disk opens (top ∷ held) (with_node (with_count v top 1) top (record { rank = base_of kind + suc k; entries = branches 0 (Two lower middle upper) }))
