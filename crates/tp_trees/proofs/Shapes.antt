-- The entries of a tree's root, whatever its height.
use Rattle.std.proofs.Common.{◌≡◌, ℕ, zero, suc, ◌+◌, ◌<◌, List, ◌++◌, length, refl, sym, subst, arith}
use Rattle.tp_layout.specs.declared.entry.Entry.{Entry}
use Rattle.tp_layout.specs.Entries.{Ascend, first_key}
use Rattle.tp_layout.proofs.Ordered.{ascend-append}
use Rattle.tp_refs.specs.Store.{Node, Store, node_at, values}
use Rattle.tp_refs.specs.Balance.{SameBelow, occurrences}
use Rattle.tp_trees.specs.Tree.{IsTree, Parted, pairs}
use Rattle.tp_trees.specs.Removal.{Shape, contents}
use Rattle.tp_trees.specs.Sizes.{nodes_under}
use Rattle.tp_trees.proofs.Trees.{joined-append, parted-append, parted_ascend, parted_split}
use Rattle.tp_trees.proofs.Growth.{ascend_less, ascend_split, parted_less}
use Rattle.tp_trees.proofs.Frames.{Below, below_same, joined_same}
use Rattle.tp_trees.proofs.Nodes.{gathered_same}

pub tree_shape : (base k : ℕ) (s : Store) (low high b : ℕ) → IsTree base k s low high b → Shape base k s low high (node_at s b).entries
tree_shape base zero s low high b h = h.1
tree_shape base (suc k) s low high b h = h.1

pub tree_contents : (k : ℕ) (s : Store) (b : ℕ) → pairs k s b ≡ contents k s (node_at s b).entries
tree_contents zero s b = refl
tree_contents (suc k) s b = refl

pub shape_tree : (base k : ℕ) (s : Store) (low high b : ℕ) (n : Node) → node_at s b ≡ n → n.rank ≡ base + k → Shape base k s low high n.entries → IsTree base k s low high b
shape_tree base zero s low high b n e l h = subst (λ (m : Node). (m.rank ≡ base) × Ascend low high m.entries) (sym e) (omega (arith, l), h)
shape_tree base (suc k) s low high b n e l h = subst (λ (m : Node). (m.rank ≡ base + suc k) × Parted (Below base k s) low high m.entries) (sym e) (l, h)

pub shape-append : (base k : ℕ) (s : Store) (low mid high : ℕ) (es fs : List Entry) → Shape base k s low mid es → Shape base k s mid high fs → Shape base k s low high (es ++ fs)
shape-append base zero s low mid high es fs h g = ascend-append low mid high es fs h g
shape-append base (suc k) s low mid high es fs h g = parted-append (Below base k s) low mid high es fs h g

pub contents-append : (k : ℕ) (s : Store) (es fs : List Entry) → contents k s (es ++ fs) ≡ contents k s es ++ contents k s fs
contents-append zero s es fs = refl
contents-append (suc k) s es fs = joined-append (pairs k s) es fs

pub shape_split : (base k : ℕ) (s : Store) (low high : ℕ) (es fs : List Entry) → Shape base k s low high (es ++ fs) → Shape base k s low (first_key fs high) es × Shape base k s (first_key fs high) high fs
shape_split base zero s low high es fs h = ascend_split low high es fs h
shape_split base (suc k) s low high es fs h = parted_split (Below base k s) low high es fs h

pub shape_less : (base k : ℕ) (s : Store) (low high : ℕ) (es : List Entry) → 0 < length es → Shape base k s low high es → low < high
shape_less base zero s low high es l h = ascend_less low high es l h
shape_less base (suc k) s low high es l h = parted_less (Below base k s) low high es l h

pub shape_same : (base k : ℕ) (s t : Store) (low high : ℕ) (es : List Entry) → ((c j : ℕ) → 0 < occurrences c (values es) → SameBelow j s t c) → Shape base k s low high es → Shape base k t low high es
shape_same base zero s t low high es f h = h
shape_same base (suc k) s t low high es f h = below_same base k s t low high es (λ c here. f c k here) h

pub contents_same : (base k : ℕ) (s t : Store) (low high : ℕ) (es : List Entry) → ((c j : ℕ) → 0 < occurrences c (values es) → SameBelow j s t c) → Shape base k s low high es → contents k t es ≡ contents k s es
contents_same base zero s t low high es f h = refl
contents_same base (suc k) s t low high es f h = joined_same base k s t low high es (λ c here. f c k here) h

pub under_same : (base k : ℕ) (s t : Store) (low high : ℕ) (es : List Entry) → ((c j : ℕ) → 0 < occurrences c (values es) → SameBelow j s t c) → Shape base k s low high es → nodes_under k t es ≡ nodes_under k s es
under_same base zero s t low high es f h = refl
under_same base (suc k) s t low high es f h = gathered_same base k s t low high es (λ c here. f c k here) h

-- the keys ascend
pub shape_ascend : (base k : ℕ) (s : Store) (low high : ℕ) (es : List Entry) → Shape base k s low high es → Ascend low high es
shape_ascend base zero s low high es h = h
shape_ascend base (suc k) s low high es h = parted_ascend (Below base k s) low high es h
