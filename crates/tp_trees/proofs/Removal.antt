-- An entry that is taken out below a node: what each step of it needs and gives.
use Rattle.std.proofs.Common.{◌≡◌, ℕ, zero, suc, ◌+◌, ◌<◌, ◌≤◌, List, [], ◌∷◌, ◌++◌, length, get_or, take, drop, refl, sym, ap, subst, ◌∙◌, arith, Some, length-append}
use Rattle.std.proofs.lemmas.List.{append-nil}
use Rattle.tp_layout.specs.declared.entry.Entry.{Entry}
use Rattle.tp_layout.specs.Entries.{Ascend, found, first_key, rank_of, without_key}
use Rattle.tp_layout.proofs.Ordered.{ascend_without_key, length-without_key}
use Rattle.tp_refs.specs.Store.{MayName, Node, Store, children, node_at, values, with_count}
use Rattle.tp_refs.specs.Balance.{Balanced, Frame, HasRoomFor, SameBelow, SameNodes, occurrences, one_if_same}
use Rattle.tp_refs.specs.Lower.{LowerLast}
use Rattle.tp_refs.proofs.Steps.{frame_part, frame_same, frame_trans, held_closed, held_live, occurrences-append, one_same}
use Rattle.tp_refs.proofs.Moves.{abandoned, reordered}
use Rattle.tp_refs.proofs.Children.{same_node}
use Rattle.tp_refs.proofs.Lower.{last_abandoned, last_opened, last_passed_on, last_trans, stay_from_last}
use Rattle.tp_trees.specs.Tree.{IsTree, IsWhole, blank, joined, least_of, pairs}
use Rattle.tp_trees.specs.Growth.{One, Placed, others}
use Rattle.tp_trees.specs.Removal.{Refitted, Refitting, Removed, Removing, Shape, Shrinks, Taken, contents}
use Rattle.tp_trees.specs.Sizes.{gathered, nodes_of, nodes_under}
use Rattle.tp_trees.proofs.Trees.{children_values, least_positive, tree_rank}
use Rattle.tp_trees.proofs.Frames.{pairs_same, same_head, tree_same}
use Rattle.tp_trees.proofs.Nodes.{node_with, nodes_same}
use Rattle.tp_trees.proofs.Places.{length_others, occurrences_others, occurrences_without}
use Rattle.tp_trees.proofs.Opened.{child_found, child_full, child_rank, child_tree, chosen, front_gathered, front_joined, front_parted, names, nodes_around, parted_names, rest_gathered, rest_joined, rest_parted, without_around}
use Rattle.tp_trees.proofs.Shapes.{contents_same, shape_same, shape_tree, tree_contents, under_same}

-- ---- a node was opened
module _ (base height : ℕ) (s t : Store) (b at key : ℕ) (was : Entry) (low high : ℕ) (opens held : List ℕ)
    (a : Removing base s b key was height low high opens held) (pos : 0 < base)
    (same : SameNodes s t)
    (now : Balanced t (at ∷ opens) (children (node_at s b) ++ held)) where
  node_names : children (node_at s b) ≡ values (node_at s b).entries
  node_names = children_values (node_at s b) (omega (arith, tree_rank base height s low high b a.tree))

  pub remove_opened_last : LowerLast base opens (at ∷ opens) s t
  remove_opened_last = last_opened base s t opens held b at a.balance now same (omega (arith, tree_rank base height s low high b a.tree))

  -- a leaf loses the entry
  module _ (leaf : (node_at s b).rank ≡ base) where
    no_levels : height ≡ 0
    no_levels = omega (arith, tree_rank base height s low high b a.tree)

    present_at : (k : ℕ) → k ≡ 0 → IsTree base k s low high b → found key (pairs k s b) ≡ Some was
        → Ascend low high (node_at s b).entries × (found key (node_at s b).entries ≡ Some was) × Shape base k t low high (without_key key (node_at s b).entries) × (contents k t (without_key key (node_at s b).entries) ≡ without_key key (pairs k s b))
    present_at zero e tree h = (tree.1, h, ascend_without_key low high key (node_at s b).entries tree.1, refl)
    present_at (suc k) e tree h = absurd (omega arith)

    here : Ascend low high (node_at s b).entries × (found key (node_at s b).entries ≡ Some was) × Shape base height t low high (without_key key (node_at s b).entries) × (contents height t (without_key key (node_at s b).entries) ≡ without_key key (pairs height s b))
    here = present_at height no_levels a.tree a.present

    pub remove_leaf_present : found key (node_at s b).entries ≡ Some was
    remove_leaf_present = here.1

    leaf_size : (k : ℕ) → k ≡ 0 → (es : List Entry) → length (nodes_under k t es) + 1 ≤ length (nodes_of k s b)
    leaf_size zero e es = omega arith
    leaf_size (suc k) e es = absurd (omega arith)

    leaf_node_taken : Taken base s t b key was height low high opens held at (record { rank = (node_at s b).rank; entries = without_key key (node_at s b).entries })
    leaf_node_taken =
        let es = (node_at s b).entries in
        let count = λ (c : ℕ). occurrences_without c key was es here.1 in
        record {
          shrinks = record {
            rank = omega (arith, leaf, no_levels);
            shape = here.2;
            content = here.3;
            full = omega (arith, length-without_key low high key was es here.0 here.1);
            names = λ c some.
                let me : one_if_same b b ≡ 1 = one_same b b refl in
                subst (λ (m : Node). MayName (node_at s b).rank m.rank) (sym (same_node s t same c))
                (a.balance.ranks b c (held_live s opens (b ∷ held) b a.balance (omega arith)) (held_closed s opens (b ∷ held) b a.balance (omega arith))
                (subst (λ xs. 0 < occurrences c xs) (sym node_names) (omega (arith, count c))));
          };
          size = leaf_size height no_levels (without_key key es);
          balance = reordered t (at ∷ opens) (children (node_at s b) ++ held) (values (without_key key es) ++ was.value ∷ held)
              (λ c.
              let m : occurrences c (children (node_at s b)) ≡ occurrences c (values es) = ap (occurrences c) node_names in
              omega (arith, count c, occurrences-append c (children (node_at s b)) held, occurrences-append c (values (without_key key es)) (was.value ∷ held))) now;
          frame = frame_same s t (was.value ∷ held) same.nodes;
          last = remove_opened_last;
        }

    pub leaf_taken : (n : Node) → n.rank ≡ (node_at s b).rank → n.entries ≡ without_key key (node_at s b).entries → Taken base s t b key was height low high opens held at n
    leaf_taken n r e =
        let is : record { rank = (node_at s b).rank; entries = without_key key (node_at s b).entries } ≡ n = sym (ap (λ q. record { rank = q; entries = n.entries }) r ∙ ap (λ (xs : List Entry). record { rank = (node_at s b).rank; entries = xs }) e) in
        subst (λ (m : Node). Taken base s t b key was height low high opens held at m) is leaf_node_taken

-- ---- an inner node was opened, and the key leads to its entry at i
module _ (base k : ℕ) (s t : Store) (b at key : ℕ) (was : Entry) (low high : ℕ) (opens held : List ℕ)
    (a : Removing base s b key was (suc k) low high opens held) (pos : 0 < base)
    (same : SameNodes s t)
    (now : Balanced t (at ∷ opens) (children (node_at s b) ++ held))
    (i : ℕ) (place : rank_of key (node_at s b).entries ≡ suc i) where
  abbrev es : List Entry
  es = (node_at s b).entries

  abbrev from_key : ℕ
  from_key = (get_or (node_at s b).entries i blank).key

  abbrev to_key : ℕ
  to_key = first_key (drop (suc i) (node_at s b).entries) high

  abbrev child : ℕ
  child = (get_or (node_at s b).entries i blank).value

  way_names : children (node_at s b) ≡ values es
  way_names = names base k s t b key low high a.tree a.lower a.upper same i place

  pub remove_within : i < length (node_at s b).entries
  remove_within = (chosen base k s t b key low high a.tree a.lower a.upper same i place).within

  full_child : least_of (base + k) ≤ length (node_at t child).entries
  full_child = child_full base k s t b key low high a.tree a.lower a.upper same i place

  -- the same for the child
  pub remove_child : Removing base t (get_or (node_at s b).entries i blank).value key was k (get_or (node_at s b).entries i blank).key (first_key (drop (suc i) (node_at s b).entries) high) (at ∷ opens) (others (node_at s b).entries i ++ held)
  remove_child =
      let c = chosen base k s t b key low high a.tree a.lower a.upper same i place in
      record {
        tree = child_tree base k s t b key low high a.tree a.lower a.upper same i place;
        lower = c.lower;
        upper = c.upper;
        present = child_found base k s t b key low high a.tree a.lower a.upper same i place ∙ a.present;
        branches = λ z. omega (arith, full_child, least_positive (base + k));
        balance = reordered t (at ∷ opens) (children (node_at s b) ++ held) (child ∷ (others es i ++ held))
            (λ y.
            let n : occurrences y (children (node_at s b)) ≡ occurrences y (values es) = ap (occurrences y) way_names in
            omega (arith, occurrences-append y (children (node_at s b)) held, occurrences-append y (others es i) held, occurrences_others y es i remove_within)) now;
      }

  pub remove_child_rank : (node_at s b).rank ≡ suc (node_at t (get_or (node_at s b).entries i blank).value).rank
  remove_child_rank = child_rank base k s t b key low high a.tree a.lower a.upper same i place

  pub remove_child_room : (n : ℕ) → HasRoomFor (n + 252) opens held → HasRoomFor n (at ∷ opens) (others (node_at s b).entries i ++ held)
  remove_child_room n h = omega (arith, length-append (others es i) held, length_others es i remove_within, a.balance.small b)

  -- it was taken out of the child
  module _ (u : Store) (c : ℕ) (part : Node) (done : Taken base t u child key was k from_key to_key (at ∷ opens) (others es i ++ held) c part) where
    later : Frame t u (others es i)
    later = frame_part t u (was.value ∷ (others es i ++ held)) (others es i) done.frame (λ y h. omega (arith, occurrences-append y (others es i) held))

    pub refitting : Refitting base k u low high (node_at s b).entries i c part (at ∷ opens) (was.value ∷ held)
    refitting =
        let w = chosen base k s t b key low high a.tree a.lower a.upper same i place in
        record {
          within = w.within;
          several = a.branches (omega arith);
          front = front_parted base k s t b key low high a.tree a.lower a.upper same i place u later;
          ordered = w.ordered;
          rest = rest_parted base k s t b key low high a.tree a.lower a.upper same i place u later;
          rank = done.shrinks.rank;
          shape = done.shrinks.shape;
          nearly = omega (arith, done.shrinks.full, full_child);
          balance = reordered u (c ∷ at ∷ opens) (values part.entries ++ was.value ∷ (others es i ++ held)) (values part.entries ++ (values (take i es) ++ (values (drop (suc i) es) ++ was.value ∷ held)))
              (λ x. omega (
                arith,
                occurrences-append x (values part.entries) (was.value ∷ (others es i ++ held)),
                occurrences-append x (others es i) held,
                occurrences-append x (values (take i es)) (values (drop (suc i) es)),
                occurrences-append x (values part.entries) (values (take i es) ++ (values (drop (suc i) es) ++ was.value ∷ held)),
                occurrences-append x (values (take i es)) (values (drop (suc i) es) ++ was.value ∷ held),
                occurrences-append x (values (drop (suc i) es)) (was.value ∷ held),
              )) done.balance;
          names = done.shrinks.names;
        }

    -- and the part was written
    pub inner_taken : (v : Store) (n : Node) → n.rank ≡ (node_at s b).rank → Refitted base k u v low high (node_at s b).entries i c part n.entries (at ∷ opens) (was.value ∷ held)
        → Taken base s v b key was (suc k) low high opens held at n
    inner_taken v n l r = record {
      shrinks = record {
        rank = l ∙ a.tree.0;
        shape = r.shape;
        content = r.content ∙ equal;
        full = r.full;
        names = parted_names base k v low high n.rank n.entries (l ∙ a.tree.0) r.shape;
      };
      size =
          let fore : length (gathered (nodes_of k u) (take i es)) ≡ length (gathered (nodes_of k s) (take i es)) = ap (λ (xs : List ℕ). length xs) (front_gathered base k s t b key low high a.tree a.lower a.upper same i place u later) in
          let aft : length (gathered (nodes_of k u) (drop (suc i) es)) ≡ length (gathered (nodes_of k s) (drop (suc i) es)) = ap (λ (xs : List ℕ). length xs) (rest_gathered base k s t b key low high a.tree a.lower a.upper same i place u later) in
          omega (arith, r.size, done.size, fore, aft, nodes_around base k s t b key low high a.tree a.lower a.upper same i place);
      balance = r.balance;
      frame = frame_trans s u v (was.value ∷ held)
          (frame_trans s t u (was.value ∷ held) (frame_same s t (was.value ∷ held) same.nodes)
          (frame_part t u (was.value ∷ (others es i ++ held)) (was.value ∷ held) done.frame (λ y h. omega (arith, occurrences-append y (others es i) held))))
          r.frame;
      last = last_trans base opens (at ∷ opens) (at ∷ opens) s t v (remove_opened_last base (suc k) s t b at key was low high opens held a pos same now)
          (last_trans base (at ∷ opens) (c ∷ at ∷ opens) (at ∷ opens) t u v done.last r.last);
    }
      where
        equal : joined (pairs k u) (take i es) ++ (contents k u part.entries ++ joined (pairs k u) (drop (suc i) es)) ≡ without_key key (pairs (suc k) s b)
        equal =
            ap (λ xs. xs ++ (contents k u part.entries ++ joined (pairs k u) (drop (suc i) es))) (front_joined base k s t b key low high a.tree a.lower a.upper same i place u later)
            ∙ (ap (λ xs. joined (pairs k s) (take i es) ++ (xs ++ joined (pairs k u) (drop (suc i) es))) done.shrinks.content
            ∙ (ap (λ xs. joined (pairs k s) (take i es) ++ (without_key key (pairs k t child) ++ xs)) (rest_joined base k s t b key low high a.tree a.lower a.upper same i place u later)
            ∙ sym (without_around base k s t b key low high a.tree a.lower a.upper same i place was a.present)))

-- ---- the root

-- a node that was written
written_tree : (base k : ℕ) (u v : Store) (low high b : ℕ) (node : Node) (n : ℕ) (ps : List Entry) → Shrinks base k u low high node n ps → node_at v b ≡ node
    → ((c j : ℕ) → 0 < occurrences c (values node.entries) → SameBelow j u v c) → IsTree base k v low high b × (pairs k v b ≡ ps)
written_tree base k u v low high b node n ps h e stays = (
  shape_tree base k v low high b node e h.rank (shape_same base k u v low high node.entries stays h.shape),
  tree_contents k v b ∙ (ap (λ (m : Node). contents k v m.entries) e ∙ (contents_same base k u v low high node.entries stays h.shape ∙ h.content)),
)

module _ (base k : ℕ) (s u : Store) (high root key : ℕ) (was : Entry) (opens held : List ℕ) (at : ℕ) (node : Node)
    (taken : Taken base s u root key was k 0 high opens held at node) where
  -- it is written, as a leaf or with two entries
  pub root_removed : (v : Store) → (0 < k → 2 ≤ length node.entries) → Placed base u v at opens (was.value ∷ held) (One at) node.rank node.entries → Removed base k s v high root key was opens held at
  root_removed v several p =
      let tree = written_tree base k u v 0 high at node (length (node_at s root).entries) (without_key key (pairs k s root)) taken.shrinks p.stands
      (λ c j some. p.frame c j (omega (arith, occurrences-append c (values node.entries) (was.value ∷ held)))) in
      record {
        height = k;
        lower = omega arith;
        whole = record { tree = tree.0; branches = λ z. subst (λ (n : Node). 2 ≤ length n.entries) (sym p.stands) (several z) };
        content = tree.1;
        size =
            let under : length (nodes_under k v node.entries) ≡ length (nodes_under k u node.entries) =
            ap (λ (xs : List ℕ). length xs) (under_same base k u v 0 high node.entries (λ c j some. p.frame c j (let o : occurrences c (values node.entries ++ was.value ∷ held) ≡ occurrences c (values node.entries) + occurrences c (was.value ∷ held) = occurrences-append c (values node.entries) (was.value ∷ held) in omega arith)) taken.shrinks.shape) in
            omega (arith, node_with k v at (record { rank = node.rank; entries = node.entries }) p.stands, under, taken.size);
        balance = p.balance;
        frame = frame_trans s u v (was.value ∷ held) taken.frame (frame_part u v (values node.entries ++ was.value ∷ held) (was.value ∷ held) p.frame (λ c some. omega (arith, occurrences-append c (values node.entries) (was.value ∷ held))));
        stay = stay_from_last base opens opens s v (last_trans base opens (at ∷ opens) opens s u v taken.last p.last);
      }

  -- it has one entry alone, and is given up: the only child is the root then
  module _ (inner : 0 < k) (single : length node.entries ≡ 1) (v : Store)
      (balance : Balanced v opens ((get_or node.entries 0 blank).value ∷ was.value ∷ held))
      (frame : Frame u v (values node.entries ++ was.value ∷ held))
      (last : LowerLast base (at ∷ opens) opens u v) where
    only_child : (k : ℕ) (es ps : List Entry) → Shape base k u 0 high es → contents k u es ≡ ps → 0 < k → length es ≡ 1 → ((c j : ℕ) → 0 < occurrences c (values es) → SameBelow j u v c)
        → (below : ℕ) × ((suc below ≡ k) × (IsWhole base below v high (get_or es 0 blank).value × (pairs below v (get_or es 0 blank).value ≡ ps) × (length (nodes_of below v (get_or es 0 blank).value) ≤ length (nodes_under k u es))))
    only_child zero es ps h e z l stays = absurd (omega arith)
    only_child (suc j) [] ps h e z l stays = absurd (omega arith)
    only_child (suc j) (x ∷ y ∷ es) ps h e z l stays = absurd (omega arith)
    only_child (suc j) (x ∷ []) ps h e z l stays =
        let f : SameBelow j u v x.value = stays x.value j (omega (arith, one_same x.value x.value refl)) in (
          j,
          (
            refl,
            (
              record {
                tree = tree_same base j u v 0 high x.value f h.2.0;
                branches = λ p. subst (λ (m : Node). 2 ≤ length m.entries) (sym (same_head j u v x.value f)) (omega (arith, h.2.1, least_positive (base + j)));
              },
              pairs_same base j u v 0 high x.value f h.2.0 ∙ (sym (append-nil (pairs j u x.value)) ∙ e),
              (let kept : length (nodes_of j v x.value) ≡ length (nodes_of j u x.value) = ap (λ (xs : List ℕ). length xs) (nodes_same base j u v 0 high x.value f h.2.0) in omega (arith, kept, length-append (nodes_of j u x.value) [])),
            ),
          ),
        )

    pub child_removed : Removed base k s v high root key was opens held (get_or node.entries 0 blank).value
    child_removed =
        let r = only_child k node.entries (without_key key (pairs k s root)) taken.shrinks.shape taken.shrinks.content inner single
        (λ c j some. frame c j (omega (arith, occurrences-append c (values node.entries) (was.value ∷ held)))) in
        record {
          height = r.0;
          lower = omega (arith, r.1.0);
          whole = r.1.1.0;
          content = r.1.1.1;
          size = omega (arith, r.1.1.2, taken.size);
          balance = balance;
          frame = frame_trans s u v (was.value ∷ held) taken.frame (frame_part u v (values node.entries ++ was.value ∷ held) (was.value ∷ held) frame (λ c some. omega (arith, occurrences-append c (values node.entries) (was.value ∷ held))));
          stay = stay_from_last base opens opens s v (last_trans base opens (at ∷ opens) opens s u v taken.last last);
        }

-- A node with one entry is written, and the reference to it becomes one to its child; or its block is given up unwritten.
module _ (base : ℕ) (u : Store) (opens held : List ℕ) (at : ℕ) (node : Node) (base_below : base ≤ node.rank) (pos : 0 < node.rank) (single : length node.entries ≡ 1)
    (before : Balanced u (at ∷ opens) (values node.entries ++ held)) where
  one_value : (es : List Entry) → length es ≡ 1 → values es ≡ (get_or es 0 blank).value ∷ []
  one_value [] l = absurd (omega arith)
  one_value (x ∷ []) l = refl
  one_value (x ∷ y ∷ es) l = absurd (omega arith)

  -- written and passed on
  module _ (v w : Store) (p : Placed base u v at opens held (One at) node.rank node.entries) (same : SameNodes v w) (now : Balanced w opens (children (node_at v at) ++ held)) where
    stood : children (node_at v at) ≡ (get_or node.entries 0 blank).value ∷ []
    stood = ap children p.stands ∙ (children_values (record { rank = node.rank; entries = node.entries }) pos ∙ one_value node.entries single)

    pub passed_balance : Balanced w opens ((get_or node.entries 0 blank).value ∷ held)
    passed_balance = subst (λ xs. Balanced w opens (xs ++ held)) stood now

    pub passed_frame : Frame u w (values node.entries ++ held)
    passed_frame = frame_trans u v w (values node.entries ++ held) p.frame (frame_same v w (values node.entries ++ held) same.nodes)

    pub passed_last : LowerLast base (at ∷ opens) opens u w
    passed_last = last_trans base (at ∷ opens) opens opens u v w p.last (last_passed_on base v w opens held at p.balance now same (omega (arith, ap (λ (n : Node). n.rank) p.stands)))

  -- given up
  pub given_up_balance : Balanced (with_count u at 0) opens ((get_or node.entries 0 blank).value ∷ held)
  given_up_balance = subst (λ xs. Balanced (with_count u at 0) opens (xs ++ held)) (one_value node.entries single) (abandoned u opens (values node.entries ++ held) at before)

  pub given_up_frame : Frame u (with_count u at 0) (values node.entries ++ held)
  given_up_frame = frame_same u (with_count u at 0) (values node.entries ++ held) refl

  pub given_up_last : LowerLast base (at ∷ opens) opens u (with_count u at 0)
  given_up_last = last_abandoned base opens u at 0
