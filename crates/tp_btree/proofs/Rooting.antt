-- Roots that are made, and passed on.
use Rattle.std.proofs.Common.{◌≡◌, ℕ, ◌<◌, List, [], ◌∷◌, ◌++◌, length, refl, sym, ap, subst, ◌∙◌, arith, get_or-set_same}
use Rattle.tp_model.specs.Disk.{DiskState}
use Rattle.tp_layout.specs.Node.{NodeValue}
use Rattle.tp_layout.specs.Entries.{Ascend}
use Rattle.tp_layout.specs.declared.kind.TreeKind.{TreeKind}
use Rattle.tp_layout.specs.declared.kind.TreeKind.TheVariants.{Device, Mapping}
use Rattle.tp_refs.specs.Store.{MayName, Node, Store, children, count_of, no_node, node_at, node_from, with_count, with_node}
use Rattle.tp_refs.specs.Balance.{occurrences}
use Rattle.tp_refs.proofs.Steps.{frame_same, frame_trans}
use Rattle.tp_refs.proofs.Moves.{written_frame}
use Rattle.tp_refs.proofs.Children.{same_node}
use Rattle.tp_refs.proofs.Lower.{last_taken, last_trans, last_written, stay_from_last}
use Rattle.tp_trees.proofs.Frames.{pairs_same, tree_same}
use Rattle.tp_trees.proofs.Insertion.{same_below}
use Rattle.tp_tm.specs.Tm.{Tm}
use Rattle.tp_tm.specs.Holds.{Holds, Released}
use Rattle.tp_btree.specs.Trees.{base_of}
use Rattle.tp_btree.specs.Roots.{Begun, Passed}

abbrev pub empty_leaf : TreeKind → ℕ → NodeValue
empty_leaf kind own = record { kind = kind; level = 0; own = own; entries = [] }

abbrev bare : TreeKind → Node
bare kind = record { rank = base_of kind; entries = [] }

bare_is : (m : ℕ) (kind : TreeKind) (own : ℕ) → node_from m (empty_leaf kind own) ≡ bare kind
bare_is m Mapping own = refl
bare_is m Device own = refl

bare_children : (kind : TreeKind) → children (bare kind) ≡ []
bare_children Mapping = refl
bare_children Device = refl

pub no_children : (m : ℕ) (kind : TreeKind) (own : ℕ) → children (node_from m (empty_leaf kind own)) ≡ []
no_children m kind own = ap children (bare_is m kind own) ∙ bare_children kind

-- what the write of the leaf needs
pub leaf_ready : (m : ℕ) (t : Tm) (disk : DiskState) (kind : TreeKind) (opens held : List ℕ) (s : Store) (own : ℕ) → Holds t disk opens held s → Holds t disk opens (children (node_from m (empty_leaf kind own)) ++ held) s
leaf_ready m t disk kind opens held s own h = subst (λ xs. Holds t disk opens (xs ++ held) s) (sym (no_children m kind own)) h

pub names_nothing : (m : ℕ) (kind : TreeKind) (s : Store) (own c : ℕ) → 0 < occurrences c (children (node_from m (empty_leaf kind own))) → MayName (node_from m (empty_leaf kind own)).rank (node_at s c).rank
names_nothing m kind s own c here = absurd (omega (arith, ap (occurrences c) (no_children m kind own), here))

pub begun : (m : ℕ) (u v : Tm) (before disk : DiskState) (kind : TreeKind) (opens held : List ℕ) (s : Store) (root : ℕ) → count_of s root ≡ 0 → root < length s.nodes
    → Holds u before (root ∷ opens) held (with_count s root 1)
    → Holds v disk opens (root ∷ held) (with_node (with_count s root 1) root (node_from m (empty_leaf kind root)))
    → Begun s v disk kind opens held root
begun m u v before disk kind opens held s root free inside opened h =
    let t = with_count s root 1 in
    let n = node_from m (empty_leaf kind root) in
    let stood : node_at (with_node t root n) root ≡ bare kind = get_or-set_same s.nodes root n no_node inside ∙ bare_is m kind root in
    record {
      after = with_node t root n;
      holds = h;
      tree = λ high. subst (λ (y : Node). (y.rank ≡ base_of kind) × Ascend 0 high y.entries) (sym stood) (refl, omega arith);
      content = ap (λ (y : Node). y.entries) stood;
      frame = frame_trans s t (with_node t root n) held (frame_same s t held refl) (written_frame t opens held root n opened.balanced);
      stay = λ rank. stay_from_last rank opens opens s (with_node t root n) (last_trans rank opens (root ∷ opens) opens s t (with_node t root n) (last_taken rank opens s root 1 free) (last_written rank opens t root n));
    }

pub passed : (s : Store) (new : Tm) (disk : DiskState) (opens held : List ℕ) → Released s new disk opens held → Passed s new disk opens held
passed s new disk opens held r = record {
  after = r.after;
  holds = r.holds;
  nodes = same_node s r.after r.same;
  trees = λ base k low high b. tree_same base k s r.after low high b (same_below s r.after r.same k b);
  content = λ base k low high b. pairs_same base k s r.after low high b (same_below s r.after r.same k b);
  frame = frame_same s r.after held r.same.nodes;
}
