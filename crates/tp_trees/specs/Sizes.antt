-- Internal: the nodes of a tree (own).
use Rattle.std.specs.Prelude.{ℕ, zero, suc, List, [], ◌∷◌, ◌++◌}
use Rattle.tp_layout.specs.declared.entry.Entry.{Entry}
use Rattle.tp_refs.specs.Store.{Store, node_at}

-- the blocks that a function gives for each entry's value, one list after another
abbrev pub gathered : (ℕ → List ℕ) → List Entry → List ℕ
gathered f [] = []
gathered f (e ∷ es) = f e.value ++ gathered f es

-- the blocks of the nodes of a tree of k levels above the leaves, each as often as a path leads to it
abbrev pub nodes_of : ℕ → Store → ℕ → List ℕ
nodes_of zero s b = b ∷ []
nodes_of (suc k) s b = b ∷ gathered (nodes_of k s) (node_at s b).entries

-- the same of the nodes below a node with these entries
abbrev pub nodes_under : ℕ → Store → List Entry → List ℕ
nodes_under zero s es = []
nodes_under (suc k) s es = gathered (nodes_of k s) es
