-- The nodes of trees, by the entries that name them.
use Rattle.std.proofs.Common.{◌≡◌, ℕ, zero, suc, ◌+◌, ◌<◌, ◌≤◌, List, [], ◌∷◌, ◌++◌, length, get_or, take, drop, refl, ap, ◌∙◌, arith, length-append}
use Rattle.tp_layout.specs.declared.entry.Entry.{Entry}
use Rattle.tp_layout.specs.Entries.{first_key}
use Rattle.tp_refs.specs.Store.{Node, Store, node_at, values}
use Rattle.tp_refs.specs.Balance.{SameBelow, occurrences}
use Rattle.tp_refs.proofs.Steps.{one_same}
use Rattle.tp_trees.specs.Tree.{IsTree, Parted, blank}
use Rattle.tp_trees.specs.Sizes.{gathered, nodes_of, nodes_under}
use Rattle.tp_trees.specs.Growth.{Grown, One, StandsIn, Two, branches, nodes_in, roots}
use Rattle.tp_trees.proofs.Trees.{around}
use Rattle.tp_trees.proofs.Frames.{Below, child_below}

pub gathered-append : (f : ℕ → List ℕ) (es fs : List Entry) → length (gathered f (es ++ fs)) ≡ length (gathered f es) + length (gathered f fs)
gathered-append f [] fs = omega arith
gathered-append f (e ∷ es) fs = omega (arith, length-append (f e.value) (gathered f (es ++ fs)), length-append (f e.value) (gathered f es), gathered-append f es fs)

pub gathered_around : (f : ℕ → List ℕ) (es : List Entry) (i : ℕ) → i < length es
    → length (gathered f es) ≡ length (gathered f (take i es)) + (length (f (get_or es i blank).value) + length (gathered f (drop (suc i) es)))
gathered_around f es i h =
    ap (λ xs. length (gathered f xs)) (around es i h)
    ∙ (gathered-append f (take i es) (get_or es i blank ∷ drop (suc i) es)
    ∙ ap (λ n. length (gathered f (take i es)) + n) (length-append (f (get_or es i blank).value) (gathered f (drop (suc i) es))))

-- ---- nodes that stay

gathered_map : (P : ℕ → ℕ → ℕ → Type 0) (f g : ℕ → List ℕ) (low high : ℕ) (es : List Entry) → Parted P low high es → ((from to c : ℕ) → 0 < occurrences c (values es) → P from to c → f c ≡ g c) → gathered f es ≡ gathered g es
gathered_map P f g low high [] h k = refl
gathered_map P f g low high (e ∷ es) h k =
    ap (λ xs. xs ++ gathered f es) (k low (first_key es high) e.value (omega (arith, one_same e.value e.value refl)) h.2)
    ∙ ap (λ xs. g e.value ++ xs) (gathered_map P f g (first_key es high) high es h.3 (λ from to c m. k from to c (omega arith)))

pub nodes_same : (base k : ℕ) (s t : Store) (low high b : ℕ) → SameBelow k s t b → IsTree base k s low high b → nodes_of k t b ≡ nodes_of k s b
nodes_same base zero s t low high b same h = refl
nodes_same base (suc k) s t low high b same h =
    ap (λ (n : Node). b ∷ gathered (nodes_of k t) n.entries) same.0
    ∙ ap (λ xs. b ∷ xs) (gathered_map (Below base k s) (nodes_of k t) (nodes_of k s) low high (node_at s b).entries h.1 (λ from to c here p.
    nodes_same base k s t from to c (child_below base k s t low high b c h same here) p.0))

pub gathered_same : (base k : ℕ) (s t : Store) (low high : ℕ) (es : List Entry) → ((c : ℕ) → 0 < occurrences c (values es) → SameBelow k s t c) → Parted (Below base k s) low high es
    → gathered (nodes_of k t) es ≡ gathered (nodes_of k s) es
gathered_same base k s t low high es stays h =
    gathered_map (Below base k s) (nodes_of k t) (nodes_of k s) low high es h (λ from to c here p. nodes_same base k s t from to c (stays c here) p.0)

-- ---- nodes by their entries

pub nodes_are : (k : ℕ) (s : Store) (b : ℕ) → nodes_of k s b ≡ b ∷ nodes_under k s (node_at s b).entries
nodes_are zero s b = refl
nodes_are (suc k) s b = refl

pub under-append : (k : ℕ) (s : Store) (es fs : List Entry) → length (nodes_under k s (es ++ fs)) ≡ length (nodes_under k s es) + length (nodes_under k s fs)
under-append zero s es fs = omega arith
under-append (suc k) s es fs = gathered-append (nodes_of k s) es fs

-- a node with these entries
pub node_with : (k : ℕ) (s : Store) (b : ℕ) (n : Node) → node_at s b ≡ n → length (nodes_of k s b) ≡ 1 + length (nodes_under k s n.entries)
node_with k s b n e =
    let here : length (nodes_of k s b) ≡ length (b ∷ nodes_under k s (node_at s b).entries) = ap (λ (xs : List ℕ). length xs) (nodes_are k s b) in
    let same : length (nodes_under k s (node_at s b).entries) ≡ length (nodes_under k s n.entries) = ap (λ (m : Node). length (nodes_under k s m.entries)) e in
    omega (arith, here, same)

pub stands_nodes : (k : ℕ) (s : Store) (g : Grown) (rank : ℕ) (es : List Entry) → StandsIn s g rank es → nodes_in k s g ≡ length (roots g) + length (nodes_under k s es)
stands_nodes k s (One b) rank es h = node_with k s b (record { rank = rank; entries = es }) h
stands_nodes k s (Two b middle c) rank es h =
    let l = node_with k s b (record { rank = rank; entries = h.left }) h.at_left in
    let r = node_with k s c (record { rank = rank; entries = h.right }) h.at_right in
    let both : length (nodes_under k s es) ≡ length (nodes_under k s (h.left ++ h.right)) = ap (λ xs. length (nodes_under k s xs)) h.whole in
    omega (arith, l, r, both, under-append k s h.left h.right)

pub branches_nodes : (k : ℕ) (s : Store) (low : ℕ) (g : Grown) → length (gathered (nodes_of k s) (branches low g)) ≡ nodes_in k s g
branches_nodes k s low (One b) = omega (arith, length-append (nodes_of k s b) [])
branches_nodes k s low (Two b middle c) = omega (arith, length-append (nodes_of k s b) (nodes_of k s c ++ []), length-append (nodes_of k s c) [])

pub roots_few : (g : Grown) → length (roots g) ≤ 2
roots_few (One c) = omega arith
roots_few (Two c m d) = omega arith
