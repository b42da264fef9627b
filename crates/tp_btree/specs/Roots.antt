-- Internal: what a call makes of the trees below held roots.
use Rattle.std.specs.Prelude.{◌≡◌, ℕ, List, [], ◌∷◌}
use Rattle.tp_model.specs.Disk.{DiskState}
use Rattle.tp_layout.specs.declared.kind.TreeKind.{TreeKind}
use Rattle.tp_refs.specs.Store.{Store, node_at}
use Rattle.tp_refs.specs.Balance.{Frame, LowerStay}
use Rattle.tp_trees.specs.Tree.{IsTree, pairs}
use Rattle.tp_tm.specs.Tm.{Tm}
use Rattle.tp_tm.specs.Holds.{Holds}
use Rattle.tp_btree.specs.Trees.{base_of}

-- A tree without entries stands below a root that is held. What stands under the other held blocks is as it was, and so
-- is each node that was live.
pub record Begun (s : Store) (new : Tm) (disk : DiskState) (kind : TreeKind) (opens held : List ℕ) (root : ℕ) : Type 0 where
  pub after : Store
  pub holds : Holds new disk opens (root ∷ held) after
  pub tree : (high : ℕ) → IsTree (base_of kind) 0 after 0 high root
  pub content : pairs 0 after root ≡ []
  pub frame : Frame s after held
  pub stay : (rank : ℕ) → LowerStay rank opens s after

-- References were passed on: no node was written, so each tree has what it had.
pub record Passed (s : Store) (new : Tm) (disk : DiskState) (opens held : List ℕ) : Type 0 where
  pub after : Store
  pub holds : Holds new disk opens held after
  pub nodes : (b : ℕ) → node_at after b ≡ node_at s b
  pub trees : (base k low high b : ℕ) → IsTree base k s low high b → IsTree base k after low high b
  pub content : (base k low high b : ℕ) → IsTree base k s low high b → pairs k after b ≡ pairs k s b
  pub frame : Frame s after held
