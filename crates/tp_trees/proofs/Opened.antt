-- An inner node was opened, to change what stands below one of its entries.
use Rattle.std.proofs.Common.{◌≡◌, ℕ, suc, ◌+◌, ◌<◌, ◌≤◌, List, [], ◌∷◌, ◌++◌, length, get_or, take, drop, refl, sym, ap, subst, ◌∙◌, arith, Some}
use Rattle.tp_layout.specs.declared.entry.Entry.{Entry}
use Rattle.tp_layout.specs.Entries.{Ascend, found, first_key, rank_of, with_entry, without_key}
use Rattle.tp_layout.proofs.Ordered.{found_above, found_below, found_left, found_right, with_entry_left, with_entry_right, without_key_left, without_key_right}
use Rattle.tp_refs.specs.Store.{MayName, Node, Store, children, node_at, values}
use Rattle.tp_refs.specs.Balance.{Frame, SameBelow, SameNodes, occurrences}
use Rattle.tp_refs.proofs.Steps.{below_trans, frame_same, occurrences-append, one_same}
use Rattle.tp_refs.proofs.Children.{same_node}
use Rattle.tp_trees.specs.Tree.{IsTree, Parted, blank, joined, least_of, pairs}
use Rattle.tp_trees.specs.Growth.{others}
use Rattle.tp_trees.specs.Sizes.{gathered, nodes_of}
use Rattle.tp_trees.proofs.Trees.{Chosen, choose, ascend_joined, ascend_tree, children_values, joined-append, joined_around, parted-append, tree_rank}
use Rattle.tp_trees.proofs.Frames.{Below, below_same, joined_same, pairs_same, parted_rank, tree_same}
use Rattle.tp_trees.proofs.Nodes.{gathered_around, gathered_same, nodes_same}

-- what stands under a block stays where no node was written
pub same_below : (s t : Store) → SameNodes s t → (k c : ℕ) → SameBelow k s t c
same_below s t same k c = frame_same s t (c ∷ []) same.nodes c k (omega (arith, one_same c c refl))

-- the place of the entry whose interval holds a key is the one before the key's rank
pub chosen_at : (P : ℕ → ℕ → ℕ → Type 0) (low high q : ℕ) (es : List Entry) → Parted P low high es → low ≤ q → q < high → (i : ℕ) → rank_of q es ≡ suc i → Chosen P low high q es i
chosen_at P low high q es h l u i at = let r = choose P low high q es h l u in let e : r.0 ≡ i = omega (arith, r.1.at) in subst (Chosen P low high q es) e r.1

-- a node of the next rank may name a node
pub may_name_next : (parent child : ℕ) → parent ≡ suc child → MayName parent child
may_name_next parent child e = record { below = omega arith; next = λ ne. omega arith; root = λ f. omega arith }

module _ (base k : ℕ) (s t : Store) (b q low high : ℕ)
    (tree : IsTree base (suc k) s low high b) (lower : low ≤ q) (upper : q < high)
    (same : SameNodes s t)
    (i : ℕ) (place : rank_of q (node_at s b).entries ≡ suc i) where
  abbrev es : List Entry
  es = (node_at s b).entries

  abbrev pub from_key : ℕ
  from_key = (get_or (node_at s b).entries i blank).key

  abbrev pub to_key : ℕ
  to_key = first_key (drop (suc i) (node_at s b).entries) high

  abbrev pub child : ℕ
  child = (get_or (node_at s b).entries i blank).value

  pub chosen : Chosen (Below base k s) low high q (node_at s b).entries i
  chosen = chosen_at (Below base k s) low high q es tree.1 lower upper i place

  pub names : children (node_at s b) ≡ values (node_at s b).entries
  names = children_values (node_at s b) (omega (arith, tree.0))

  pub child_tree : IsTree base k t from_key to_key child
  child_tree = tree_same base k s t from_key to_key child (same_below s t same k child) chosen.child.0

  pub child_pairs : pairs k t child ≡ pairs k s child
  child_pairs = pairs_same base k s t from_key to_key child (same_below s t same k child) chosen.child.0

  pub child_nodes : nodes_of k t child ≡ nodes_of k s child
  child_nodes = nodes_same base k s t from_key to_key child (same_below s t same k child) chosen.child.0

  -- the nodes below the block, with those of the child
  pub nodes_around : length (nodes_of (suc k) s b) ≡ 1 + (length (gathered (nodes_of k s) (take i (node_at s b).entries)) + (length (nodes_of k t child) + length (gathered (nodes_of k s) (drop (suc i) (node_at s b).entries))))
  nodes_around = omega (arith, gathered_around (nodes_of k s) es i chosen.within, ap (λ (xs : List ℕ). length xs) child_nodes)

  pub child_full : least_of (base + k) ≤ length (node_at t child).entries
  child_full = subst (λ (n : Node). least_of (base + k) ≤ length n.entries) (sym (same_node s t same child)) chosen.child.1

  pub child_rank : (node_at s b).rank ≡ suc (node_at t child).rank
  child_rank = omega (arith, tree.0, tree_rank base k t from_key to_key child child_tree)

  rise : (from to d : ℕ) → Below base k s from to d → Ascend from to (pairs k s d)
  rise from to d p = ascend_tree base k s from to d p.0

  fore : Ascend low from_key (joined (pairs k s) (take i es))
  fore = ascend_joined (Below base k s) (pairs k s) low from_key (take i es) rise chosen.front

  aft : Ascend to_key high (joined (pairs k s) (drop (suc i) es))
  aft = ascend_joined (Below base k s) (pairs k s) to_key high (drop (suc i) es) rise chosen.rest

  abbrev before : List Entry
  before = joined (pairs k s) (take i (node_at s b).entries)

  abbrev behind : List Entry
  behind = joined (pairs k s) (drop (suc i) (node_at s b).entries)

  here_found : found q (pairs (suc k) s b) ≡ found q (pairs k s child)
  here_found =
      ap (found q) (joined_around (pairs k s) es i chosen.within)
      ∙ (found_right q before (pairs k s child ++ behind) (found_above low from_key q before fore chosen.lower)
      ∙ found_left q (pairs k s child) behind (found_below to_key high q behind aft chosen.upper))

  pub child_found : found q (pairs k t child) ≡ found q (pairs (suc k) s b)
  child_found = ap (found q) child_pairs ∙ sym here_found

  pub with_around : (x : Entry) → x.key ≡ q → with_entry x (pairs (suc k) s b) ≡ joined (pairs k s) (take i (node_at s b).entries) ++ (with_entry x (pairs k t child) ++ joined (pairs k s) (drop (suc i) (node_at s b).entries))
  with_around x e =
      ap (with_entry x) (joined_around (pairs k s) es i chosen.within)
      ∙ (with_entry_right low from_key high x before (pairs k s child ++ behind) fore (omega (arith, chosen.lower))
      ∙ (ap (λ xs. before ++ xs) (with_entry_left to_key high x (pairs k s child) behind aft (omega (arith, chosen.upper)))
      ∙ ap (λ xs. before ++ (with_entry x xs ++ behind)) (sym child_pairs)))

  pub without_around : (v : Entry) → found q (pairs (suc k) s b) ≡ Some v → without_key q (pairs (suc k) s b) ≡ joined (pairs k s) (take i (node_at s b).entries) ++ (without_key q (pairs k t child) ++ joined (pairs k s) (drop (suc i) (node_at s b).entries))
  without_around v f =
      ap (without_key q) (joined_around (pairs k s) es i chosen.within)
      ∙ (without_key_right q before (pairs k s child ++ behind) (found_above low from_key q before fore chosen.lower)
      ∙ (ap (λ xs. before ++ xs) (without_key_left q v (pairs k s child) behind (sym here_found ∙ f))
      ∙ ap (λ xs. before ++ (without_key q xs ++ behind)) (sym child_pairs)))

  -- what stands beside the child stayed
  module _ (u : Store) (later : Frame t u (others (node_at s b).entries i)) where
    other_stays : (c : ℕ) → 0 < occurrences c (others es i) → SameBelow k s u c
    other_stays c here = below_trans k s t u c (same_below s t same k c) (later c k here)

    front_stays : (c : ℕ) → 0 < occurrences c (values (take i es)) → SameBelow k s u c
    front_stays c here = other_stays c (omega (arith, occurrences-append c (values (take i es)) (values (drop (suc i) es))))

    rest_stays : (c : ℕ) → 0 < occurrences c (values (drop (suc i) es)) → SameBelow k s u c
    rest_stays c here = other_stays c (omega (arith, occurrences-append c (values (take i es)) (values (drop (suc i) es))))

    pub front_parted : Parted (Below base k u) low from_key (take i (node_at s b).entries)
    front_parted = below_same base k s u low from_key (take i es) front_stays chosen.front

    pub rest_parted : Parted (Below base k u) to_key high (drop (suc i) (node_at s b).entries)
    rest_parted = below_same base k s u to_key high (drop (suc i) es) rest_stays chosen.rest

    pub front_joined : joined (pairs k u) (take i (node_at s b).entries) ≡ joined (pairs k s) (take i (node_at s b).entries)
    front_joined = joined_same base k s u low from_key (take i es) front_stays chosen.front

    pub rest_joined : joined (pairs k u) (drop (suc i) (node_at s b).entries) ≡ joined (pairs k s) (drop (suc i) (node_at s b).entries)
    rest_joined = joined_same base k s u to_key high (drop (suc i) es) rest_stays chosen.rest

    pub front_gathered : gathered (nodes_of k u) (take i (node_at s b).entries) ≡ gathered (nodes_of k s) (take i (node_at s b).entries)
    front_gathered = gathered_same base k s u low from_key (take i es) front_stays chosen.front

    pub rest_gathered : gathered (nodes_of k u) (drop (suc i) (node_at s b).entries) ≡ gathered (nodes_of k s) (drop (suc i) (node_at s b).entries)
    rest_gathered = gathered_same base k s u to_key high (drop (suc i) es) rest_stays chosen.rest

-- entries with another middle
pub spliced : (base k : ℕ) (u : Store) (low from to high : ℕ) (front mid rest : List Entry) → Parted (Below base k u) low from front → Parted (Below base k u) from to mid → Parted (Below base k u) to high rest → Parted (Below base k u) low high (front ++ (mid ++ rest))
spliced base k u low from to high front mid rest f m r = parted-append (Below base k u) low from high front (mid ++ rest) f (parted-append (Below base k u) from to high mid rest m r)

pub joined_spliced : (f : ℕ → List Entry) (front mid rest : List Entry) (a m z : List Entry) → joined f front ≡ a → joined f mid ≡ m → joined f rest ≡ z → joined f (front ++ (mid ++ rest)) ≡ a ++ (m ++ z)
joined_spliced f front mid rest a m z ea em ez =
    joined-append f front (mid ++ rest)
    ∙ (ap (λ xs. joined f front ++ xs) (joined-append f mid rest)
    ∙ (ap (λ xs. xs ++ (joined f mid ++ joined f rest)) ea
    ∙ (ap (λ xs. a ++ (xs ++ joined f rest)) em ∙ ap (λ xs. a ++ (m ++ xs)) ez)))

-- what entries of an inner node name may be named by it
pub parted_names : (base k : ℕ) (u : Store) (low high rank : ℕ) (es : List Entry) → rank ≡ base + suc k → Parted (Below base k u) low high es → (c : ℕ) → 0 < occurrences c (values es) → MayName rank (node_at u c).rank
parted_names base k u low high rank es r h c here = may_name_next rank (node_at u c).rank (omega (arith, r, parted_rank base k u low high c es h here))
