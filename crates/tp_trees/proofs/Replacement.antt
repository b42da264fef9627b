-- A value that is replaced below a node: what each step of it needs and gives.
use Rattle.std.proofs.Common.{◌≡◌, ℕ, zero, suc, ◌+◌, ◌<◌, ◌≤◌, List, ◌∷◌, ◌++◌, length, get_or, take, drop, refl, sym, ap, subst, ◌∙◌, arith, inl, inr, Some, length-append}
use Rattle.std.proofs.lemmas.Bool.{cases_eq}
use Rattle.std.proofs.lemmas.List.{append-nil}
use Rattle.tp_layout.specs.declared.entry.Entry.{Entry}
use Rattle.tp_layout.specs.Entries.{Ascend, found, first_key, rank_of, with_entry}
use Rattle.tp_layout.proofs.Ordered.{ascend_with_entry, length-with_known}
use Rattle.tp_refs.specs.Store.{MayName, Node, Store, children, node_at, values}
use Rattle.tp_refs.specs.Balance.{Balanced, Frame, HasRoomFor, SameNodes, occurrences, one_if_same}
use Rattle.tp_refs.specs.Lower.{LowerLast}
use Rattle.tp_refs.proofs.Steps.{frame_part, frame_same, frame_trans, held_closed, held_live, occurrences-append, one_other, one_same}
use Rattle.tp_refs.proofs.Moves.{reordered}
use Rattle.tp_refs.proofs.Children.{same_node}
use Rattle.tp_refs.proofs.Lower.{last_from_stay, last_opened, last_trans, stay_from_last}
use Rattle.tp_trees.specs.Tree.{IsTree, Parted, blank, joined, least_of, pairs}
use Rattle.tp_trees.specs.Growth.{One, Placed, branches, others, traded}
use Rattle.tp_trees.specs.Replacement.{Replaced, Replacing}
use Rattle.tp_trees.specs.Sizes.{gathered, nodes_of}
use Rattle.tp_trees.proofs.Trees.{children_values, tree_rank}
use Rattle.tp_trees.proofs.Frames.{Below, below_same, joined_same}
use Rattle.tp_trees.proofs.Nodes.{branches_nodes, gathered-append, gathered_same, node_with}
use Rattle.tp_trees.proofs.Places.{length_others, length_traded, occurrences_others, occurrences_traded, occurrences_with_other}
use Rattle.tp_trees.proofs.Opened.{child_found, child_full, child_rank, child_tree, chosen, front_gathered, front_joined, front_parted, joined_spliced, names, nodes_around, parted_names, rest_gathered, rest_joined, rest_parted, spliced, with_around}

-- ---- a node was opened
module _ (base height : ℕ) (s t : Store) (b at : ℕ) (x was : Entry) (low high : ℕ) (opens held : List ℕ)
    (a : Replacing base s b x was height low high opens held) (pos : 0 < base)
    (same : SameNodes s t)
    (now : Balanced t (at ∷ opens) (children (node_at s b) ++ x.value ∷ held)) where
  node_names : children (node_at s b) ≡ values (node_at s b).entries
  node_names = children_values (node_at s b) (omega (arith, tree_rank base height s low high b a.tree))

  pub replace_opened_last : LowerLast base opens (at ∷ opens) s t
  replace_opened_last = last_opened base s t opens (x.value ∷ held) b at a.balance now same (omega (arith, tree_rank base height s low high b a.tree))

  -- a leaf takes the entry
  module _ (leaf : (node_at s b).rank ≡ base) where
    no_levels : height ≡ 0
    no_levels = omega (arith, tree_rank base height s low high b a.tree)

    present_at : (k : ℕ) → k ≡ 0 → IsTree base k s low high b → found x.key (pairs k s b) ≡ Some was → Ascend low high (node_at s b).entries × (found x.key (node_at s b).entries ≡ Some was)
    present_at zero e tree h = (tree.1, h)
    present_at (suc k) e tree h = absurd (omega arith)

    here : Ascend low high (node_at s b).entries × (found x.key (node_at s b).entries ≡ Some was)
    here = present_at height no_levels a.tree a.present

    pub replace_leaf_present : found x.key (node_at s b).entries ≡ Some was
    replace_leaf_present = here.1

    pub replace_leaf_balance : Balanced t (at ∷ opens) (values (with_entry x (node_at s b).entries) ++ was.value ∷ held)
    replace_leaf_balance = reordered t (at ∷ opens) (children (node_at s b) ++ x.value ∷ held) (values (with_entry x (node_at s b).entries) ++ was.value ∷ held)
        (λ c.
        let m : occurrences c (children (node_at s b)) ≡ occurrences c (values (node_at s b).entries) = ap (occurrences c) node_names in
        omega (arith, occurrences-append c (children (node_at s b)) (x.value ∷ held), occurrences-append c (values (with_entry x (node_at s b).entries)) (was.value ∷ held), occurrences_with_other c x was (node_at s b).entries here.1 low high here.0)) now

    pub replace_leaf_names : (c : ℕ) → 0 < occurrences c (values (with_entry x (node_at s b).entries)) → MayName base (node_at t c).rank
    replace_leaf_names c some =
        subst (λ (m : Node). MayName base m.rank) (sym (same_node s t same c))
        (elim (cases_eq c x.value) [
          | inl e ↦ subst (λ y. MayName base (node_at s y).rank) (sym e) a.value_rank
          | inr d ↦
              let o : one_if_same x.value c ≡ 0 = one_other x.value c (λ e. d (sym e)) in
              let m : occurrences c (children (node_at s b)) ≡ occurrences c (values (node_at s b).entries) = ap (occurrences c) node_names in
              let named_here : 0 < occurrences c (children (node_at s b)) = omega (arith, occurrences_with_other c x was (node_at s b).entries here.1 low high here.0) in
              let me : one_if_same b b ≡ 1 = one_same b b refl in
              subst (λ r. MayName r (node_at s c).rank) leaf
              (a.balance.ranks b c (held_live s opens (b ∷ x.value ∷ held) b a.balance (omega arith)) (held_closed s opens (b ∷ x.value ∷ held) b a.balance (omega arith)) named_here)
        ])

    leaf_tree : (k : ℕ) → k ≡ 0 → (v : Store) (to : ℕ) → node_at v to ≡ record { rank = base; entries = with_entry x (node_at s b).entries } → IsTree base k v low high to × (pairs k v to ≡ with_entry x (pairs k s b))
    leaf_tree zero e v to stands = (
      subst (λ (n : Node). (n.rank ≡ base) × Ascend low high n.entries) (sym stands) (refl, ascend_with_entry low high x (node_at s b).entries here.0 a.lower a.upper),
      ap (λ (n : Node). n.entries) stands,
    )
    leaf_tree (suc k) e v to stands = absurd (omega arith)

    leaf_size : (k : ℕ) → k ≡ 0 → (v : Store) (to : ℕ) → length (nodes_of k v to) ≡ length (nodes_of k s b)
    leaf_size zero e v to = refl
    leaf_size (suc k) e v to = absurd (omega arith)

    -- once it was written
    pub leaf_replaced : (v : Store) (to : ℕ) → Placed base t v at opens (was.value ∷ held) (One to) base (with_entry x (node_at s b).entries) → Replaced base s v b x was height low high opens held to
    leaf_replaced v to p =
        let done = leaf_tree height no_levels v to p.stands in
        record {
          tree = done.0;
          content = done.1;
          same = ap (λ (n : Node). length n.entries) p.stands ∙ length-with_known low high x was (node_at s b).entries here.0 here.1;
          size = leaf_size height no_levels v to;
          balance = p.balance;
          frame = frame_trans s t v (was.value ∷ held) (frame_same s t (was.value ∷ held) same.nodes)
              (frame_part t v (values (with_entry x (node_at s b).entries) ++ was.value ∷ held) (was.value ∷ held) p.frame (λ c h. omega (arith, occurrences-append c (values (with_entry x (node_at s b).entries)) (was.value ∷ held))));
          stay = stay_from_last base opens opens s v (last_trans base opens (at ∷ opens) opens s t v replace_opened_last p.last);
        }

-- ---- an inner node was opened, and the key leads to its entry at i
module _ (base k : ℕ) (s t : Store) (b at : ℕ) (x was : Entry) (low high : ℕ) (opens held : List ℕ)
    (a : Replacing base s b x was (suc k) low high opens held) (pos : 0 < base)
    (same : SameNodes s t)
    (now : Balanced t (at ∷ opens) (children (node_at s b) ++ x.value ∷ held))
    (i : ℕ) (place : rank_of x.key (node_at s b).entries ≡ suc i) where
  abbrev es : List Entry
  es = (node_at s b).entries

  abbrev from_key : ℕ
  from_key = (get_or (node_at s b).entries i blank).key

  abbrev to_key : ℕ
  to_key = first_key (drop (suc i) (node_at s b).entries) high

  abbrev child : ℕ
  child = (get_or (node_at s b).entries i blank).value

  way_names : children (node_at s b) ≡ values es
  way_names = names base k s t b x.key low high a.tree a.lower a.upper same i place

  pub replace_within : i < length (node_at s b).entries
  replace_within = (chosen base k s t b x.key low high a.tree a.lower a.upper same i place).within

  -- the same for the child
  pub replace_child : Replacing base t child x was k from_key to_key (at ∷ opens) (others es i ++ held)
  replace_child =
      let c = chosen base k s t b x.key low high a.tree a.lower a.upper same i place in
      record {
        tree = child_tree base k s t b x.key low high a.tree a.lower a.upper same i place;
        lower = c.lower;
        upper = c.upper;
        present = child_found base k s t b x.key low high a.tree a.lower a.upper same i place ∙ a.present;
        balance = reordered t (at ∷ opens) (children (node_at s b) ++ x.value ∷ held) (child ∷ x.value ∷ (others es i ++ held))
            (λ y.
            let n : occurrences y (children (node_at s b)) ≡ occurrences y (values es) = ap (occurrences y) way_names in
            omega (arith, occurrences-append y (children (node_at s b)) (x.value ∷ held), occurrences-append y (others es i) held, occurrences_others y es i replace_within)) now;
        value_rank = subst (λ (n : Node). MayName base n.rank) (sym (same_node s t same x.value)) a.value_rank;
      }

  pub replace_child_rank : (node_at s b).rank ≡ suc (node_at t child).rank
  replace_child_rank = child_rank base k s t b x.key low high a.tree a.lower a.upper same i place

  pub replace_child_room : (n : ℕ) → HasRoomFor (n + 252) opens held → HasRoomFor n (at ∷ opens) (others es i ++ held)
  replace_child_room n h = omega (arith, length-append (others es i) held, length_others es i replace_within, a.balance.small b)

  -- it was replaced in the child
  module _ (u : Store) (c : ℕ) (done : Replaced base t u child x was k from_key to_key (at ∷ opens) (others es i ++ held) c) where
    later : Frame t u (others es i)
    later = frame_part t u (was.value ∷ (others es i ++ held)) (others es i) done.frame (λ y h. omega (arith, occurrences-append y (others es i) held))

    pub replaced_balance : Balanced u (at ∷ opens) (values (traded es i (One c)) ++ was.value ∷ held)
    replaced_balance = reordered u (at ∷ opens) (c ∷ was.value ∷ (others es i ++ held)) (values (traded es i (One c)) ++ was.value ∷ held)
        (λ y. omega (arith, occurrences-append y (values (traded es i (One c))) (was.value ∷ held), occurrences_traded y es i (One c), occurrences-append y (others es i) held)) done.balance

    pub replaced_parted : Parted (Below base k u) low high (traded es i (One c))
    replaced_parted =
        let f : least_of (base + k) ≤ length (node_at t child).entries = child_full base k s t b x.key low high a.tree a.lower a.upper same i place in
        spliced base k u low from_key to_key high (take i es) (branches from_key (One c)) (drop (suc i) es)
        (front_parted base k s t b x.key low high a.tree a.lower a.upper same i place u later)
        (refl, (chosen base k s t b x.key low high a.tree a.lower a.upper same i place).ordered, (done.tree, omega (arith, done.same)), refl)
        (rest_parted base k s t b x.key low high a.tree a.lower a.upper same i place u later)

    pub replaced_names : (y : ℕ) → 0 < occurrences y (values (traded es i (One c))) → MayName (node_at s b).rank (node_at u y).rank
    replaced_names = parted_names base k u low high (node_at s b).rank (traded es i (One c)) a.tree.0 replaced_parted

    pub replaced_joined : joined (pairs k u) (traded es i (One c)) ≡ with_entry x (pairs (suc k) s b)
    replaced_joined =
        joined_spliced (pairs k u) (take i es) (branches from_key (One c)) (drop (suc i) es) (joined (pairs k s) (take i es)) (with_entry x (pairs k t child)) (joined (pairs k s) (drop (suc i) es))
        (front_joined base k s t b x.key low high a.tree a.lower a.upper same i place u later)
        (append-nil (pairs k u c) ∙ done.content)
        (rest_joined base k s t b x.key low high a.tree a.lower a.upper same i place u later)
        ∙ sym (with_around base k s t b x.key low high a.tree a.lower a.upper same i place x refl)

    -- and the node was written
    pub inner_replaced : (v : Store) (to : ℕ) → Placed base u v at opens (was.value ∷ held) (One to) (node_at s b).rank (traded es i (One c)) → Replaced base s v b x was (suc k) low high opens held to
    inner_replaced v to p =
        let stays = λ (y : ℕ) (some : 0 < occurrences y (values (traded es i (One c)))). p.frame y k (let o : occurrences y (values (traded es i (One c)) ++ was.value ∷ held) ≡ occurrences y (values (traded es i (One c))) + occurrences y (was.value ∷ held) = occurrences-append y (values (traded es i (One c))) (was.value ∷ held) in omega arith) in
        record {
          tree = subst (λ (n : Node). (n.rank ≡ base + suc k) × Parted (Below base k v) low high n.entries) (sym p.stands) (a.tree.0, below_same base k u v low high (traded es i (One c)) stays replaced_parted);
          content = ap (λ (n : Node). joined (pairs k v) n.entries) p.stands ∙ (joined_same base k u v low high (traded es i (One c)) stays replaced_parted ∙ replaced_joined);
          same = ap (λ (n : Node). length n.entries) p.stands ∙ omega (arith, length_traded es i (One c) replace_within);
          size =
              let kept : length (gathered (nodes_of k v) (traded es i (One c))) ≡ length (gathered (nodes_of k u) (traded es i (One c))) = ap (λ (xs : List ℕ). length xs) (gathered_same base k u v low high (traded es i (One c)) stays replaced_parted) in
              let fore : length (gathered (nodes_of k u) (take i es)) ≡ length (gathered (nodes_of k s) (take i es)) = ap (λ (xs : List ℕ). length xs) (front_gathered base k s t b x.key low high a.tree a.lower a.upper same i place u later) in
              let aft : length (gathered (nodes_of k u) (drop (suc i) es)) ≡ length (gathered (nodes_of k s) (drop (suc i) es)) = ap (λ (xs : List ℕ). length xs) (rest_gathered base k s t b x.key low high a.tree a.lower a.upper same i place u later) in
              omega (
                arith,
                node_with (suc k) v to (record { rank = (node_at s b).rank; entries = traded es i (One c) }) p.stands,
                kept,
                gathered-append (nodes_of k u) (take i es) (branches from_key (One c) ++ drop (suc i) es),
                gathered-append (nodes_of k u) (branches from_key (One c)) (drop (suc i) es),
                branches_nodes k u from_key (One c),
                done.size,
                fore,
                aft,
                nodes_around base k s t b x.key low high a.tree a.lower a.upper same i place,
              );
          balance = p.balance;
          frame = frame_trans s u v (was.value ∷ held)
              (frame_trans s t u (was.value ∷ held) (frame_same s t (was.value ∷ held) same.nodes) (frame_part t u (was.value ∷ (others es i ++ held)) (was.value ∷ held) done.frame (λ y h. omega (arith, occurrences-append y (others es i) held))))
              (frame_part u v (values (traded es i (One c)) ++ was.value ∷ held) (was.value ∷ held) p.frame (λ y h. omega (arith, occurrences-append y (values (traded es i (One c))) (was.value ∷ held))));
          stay = stay_from_last base opens opens s v
              (last_trans base opens (at ∷ opens) opens s t v (replace_opened_last base (suc k) s t b at x was low high opens held a pos same now)
              (last_trans base (at ∷ opens) (at ∷ opens) opens t u v (last_from_stay base (at ∷ opens) t u done.stay) p.last));
        }
