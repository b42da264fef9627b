-- A change of a copy: a tree's root is shared first, so that the tree itself stays.
use Rattle.std.proofs.Common.{◌≡◌, ℕ, ◌+◌, List, [], ◌∷◌, refl, sym, subst, arith, Some, None}
use Rattle.tp_layout.specs.declared.entry.Entry.{Entry}
use Rattle.tp_layout.specs.Entries.{found}
use Rattle.tp_refs.specs.Store.{Store, count_of, with_count}
use Rattle.tp_refs.specs.Balance.{Balanced, SameBelow, SameNodes}
use Rattle.tp_refs.proofs.Steps.{frame_same, held_closed, held_live, one_same}
use Rattle.tp_refs.proofs.Moves.{reordered, shared}
use Rattle.tp_trees.specs.Tree.{IsTree, IsWhole, pairs}
use Rattle.tp_trees.specs.Growth.{Adding}
use Rattle.tp_trees.specs.Replacement.{Replacing}
use Rattle.tp_trees.specs.Removal.{Removing}
use Rattle.tp_trees.proofs.Frames.{framed_tree, framed_whole, pairs_same, tree_same}

-- where no node was written, trees stay
pub tree_same_nodes : (base k : ℕ) (s t : Store) (low high b : ℕ) → SameNodes s t → IsTree base k s low high b → IsTree base k t low high b × (pairs k t b ≡ pairs k s b)
tree_same_nodes base k s t low high b same h = framed_tree base k s t low high b (b ∷ []) (frame_same s t (b ∷ []) same.nodes) (omega (arith, one_same b b refl)) h

pub whole_same_nodes : (base k : ℕ) (s t : Store) (high b : ℕ) → SameNodes s t → IsWhole base k s high b → IsWhole base k t high b × (pairs k t b ≡ pairs k s b)
whole_same_nodes base k s t high b same h = framed_whole base k s t high b (b ∷ []) (frame_same s t (b ∷ []) same.nodes) (omega (arith, one_same b b refl)) h

-- one reference more to a held block
pub shared_held : (s : Store) (opens held : List ℕ) (b : ℕ) → Balanced s opens (b ∷ held) → Balanced (with_count s b (count_of s b + 1)) opens (b ∷ b ∷ held)
shared_held s opens held b h =
    shared s opens (b ∷ held) b h (held_live s opens (b ∷ held) b h (omega (arith, one_same b b refl))) (held_closed s opens (b ∷ held) b h (omega (arith, one_same b b refl)))

pub adding_apart : (base : ℕ) (s : Store) (b : ℕ) (x : Entry) (k low high : ℕ) (opens held : List ℕ) → Adding base s b x k low high opens held → Adding base (with_count s b (count_of s b + 1)) b x k low high opens (b ∷ held)
adding_apart base s b x k low high opens held a =
    let below : SameBelow k s (with_count s b (count_of s b + 1)) b = frame_same s (with_count s b (count_of s b + 1)) (b ∷ []) refl b k (omega (arith, one_same b b refl)) in
    let content : pairs k (with_count s b (count_of s b + 1)) b ≡ pairs k s b = pairs_same base k s (with_count s b (count_of s b + 1)) low high b below a.tree in
    record {
      tree = tree_same base k s (with_count s b (count_of s b + 1)) low high b below a.tree;
      lower = a.lower;
      upper = a.upper;
      absent = subst (λ ps. found x.key ps ≡ None) (sym content) a.absent;
      balance = reordered (with_count s b (count_of s b + 1)) opens (b ∷ b ∷ x.value ∷ held) (b ∷ x.value ∷ b ∷ held) (λ c. omega arith) (shared_held s opens (x.value ∷ held) b a.balance);
      value_rank = a.value_rank;
    }

pub replacing_apart : (base : ℕ) (s : Store) (b : ℕ) (x was : Entry) (k low high : ℕ) (opens held : List ℕ) → Replacing base s b x was k low high opens held
    → Replacing base (with_count s b (count_of s b + 1)) b x was k low high opens (b ∷ held)
replacing_apart base s b x was k low high opens held a =
    let below : SameBelow k s (with_count s b (count_of s b + 1)) b = frame_same s (with_count s b (count_of s b + 1)) (b ∷ []) refl b k (omega (arith, one_same b b refl)) in
    let content : pairs k (with_count s b (count_of s b + 1)) b ≡ pairs k s b = pairs_same base k s (with_count s b (count_of s b + 1)) low high b below a.tree in
    record {
      tree = tree_same base k s (with_count s b (count_of s b + 1)) low high b below a.tree;
      lower = a.lower;
      upper = a.upper;
      present = subst (λ ps. found x.key ps ≡ Some was) (sym content) a.present;
      balance = reordered (with_count s b (count_of s b + 1)) opens (b ∷ b ∷ x.value ∷ held) (b ∷ x.value ∷ b ∷ held) (λ c. omega arith) (shared_held s opens (x.value ∷ held) b a.balance);
      value_rank = a.value_rank;
    }

pub removing_apart : (base : ℕ) (s : Store) (b key : ℕ) (was : Entry) (k low high : ℕ) (opens held : List ℕ) → Removing base s b key was k low high opens held
    → Removing base (with_count s b (count_of s b + 1)) b key was k low high opens (b ∷ held)
removing_apart base s b key was k low high opens held a =
    let below : SameBelow k s (with_count s b (count_of s b + 1)) b = frame_same s (with_count s b (count_of s b + 1)) (b ∷ []) refl b k (omega (arith, one_same b b refl)) in
    let content : pairs k (with_count s b (count_of s b + 1)) b ≡ pairs k s b = pairs_same base k s (with_count s b (count_of s b + 1)) low high b below a.tree in
    record {
      tree = tree_same base k s (with_count s b (count_of s b + 1)) low high b below a.tree;
      lower = a.lower;
      upper = a.upper;
      present = subst (λ ps. found key ps ≡ Some was) (sym content) a.present;
      branches = a.branches;
      balance = shared_held s opens held b a.balance;
    }
