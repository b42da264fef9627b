-- An entry that is added below a node: what each step of it needs and gives.
use Rattle.std.proofs.Common.{◌≡◌, ℕ, zero, suc, ◌+◌, ◌<◌, ◌≤◌, List, ◌∷◌, ◌++◌, length, get_or, take, drop, refl, sym, ap, subst, ◌∙◌, arith, inl, inr, None, length-append}
use Rattle.std.proofs.lemmas.Bool.{cases_eq}
use Rattle.std.proofs.lemmas.List.{append-nil}
use Rattle.tp_layout.specs.declared.entry.Entry.{Entry}
use Rattle.tp_layout.specs.Entries.{found, first_key, rank_of, with_entry}
use Rattle.tp_layout.proofs.Ordered.{ascend_with_entry, length-with_new}
use Rattle.tp_refs.specs.Store.{MayName, Node, Store, children, node_at, values}
use Rattle.tp_refs.specs.Balance.{Balanced, Frame, HasRoomFor, SameBelow, SameNodes, occurrences, one_if_same}
use Rattle.tp_refs.specs.Lower.{LowerLast}
use Rattle.tp_refs.proofs.Steps.{frame_part, frame_same, frame_trans, held_closed, held_live, occurrences-append, one_other, one_same}
use Rattle.tp_refs.proofs.Moves.{reordered}
use Rattle.tp_refs.proofs.Children.{same_node}
use Rattle.tp_refs.proofs.Lower.{last_from_stay, last_opened, last_trans, stay_from_last}
use Rattle.tp_trees.specs.Tree.{IsTree, Parted, blank, joined, least_of, pairs}
use Rattle.tp_trees.specs.Growth.{Added, Adding, Grown, Grows, One, Placed, StandsIn, Two, branches, nodes_in, others, roots, traded}
use Rattle.tp_trees.specs.Sizes.{gathered, nodes_of}
use Rattle.tp_trees.proofs.Trees.{children_values, tree_rank}
use Rattle.tp_trees.proofs.Growth.{grown_inner, grown_leaf}
use Rattle.tp_trees.proofs.Frames.{Below, below_same, joined_same}
pub use Rattle.tp_trees.proofs.Opened.{same_below}
use Rattle.tp_trees.proofs.Opened.{joined_spliced, parted_names, spliced}
use Rattle.tp_trees.proofs.Opened as opened
use Rattle.tp_trees.proofs.Nodes.{branches_nodes, gathered-append, gathered_same, roots_few, stands_nodes}
use Rattle.tp_trees.proofs.Places.{length_others, length_traded, occurrences_others, occurrences_traded, occurrences_with_new}

-- the entries that name what became of a child
pub branches_parted : (base k : ℕ) (u : Store) (low up n : ℕ) (g : Grown) (ps : List Entry) → low < up → least_of (base + k) ≤ n → Grows base k u low up g n ps → Parted (Below base k u) low up (branches low g)
branches_parted base k u low up n (One c) ps o f g = (refl, o, (g.tree, omega (arith, f, g.full)), refl)
branches_parted base k u low up n (Two c m d) ps o f g = (refl, g.lower, (g.left, g.left_full), (refl, g.upper, (g.right, g.right_full), refl))

pub branches_joined : (base k : ℕ) (u : Store) (low up n : ℕ) (g : Grown) (ps : List Entry) → Grows base k u low up g n ps → joined (pairs k u) (branches low g) ≡ ps
branches_joined base k u low up n (One c) ps g = append-nil (pairs k u c) ∙ g.content
branches_joined base k u low up n (Two c m d) ps g = ap (λ xs. pairs k u c ++ xs) (append-nil (pairs k u d)) ∙ g.content

-- ---- a node was opened
module _ (base height : ℕ) (s t : Store) (b at : ℕ) (x : Entry) (low high : ℕ) (opens held : List ℕ)
    (a : Adding base s b x height low high opens held) (pos : 0 < base)
    (same : SameNodes s t)
    (now : Balanced t (at ∷ opens) (children (node_at s b) ++ x.value ∷ held)) where
  names : children (node_at s b) ≡ values (node_at s b).entries
  names = children_values (node_at s b) (omega (arith, tree_rank base height s low high b a.tree))

  -- below the leaves nothing changed
  pub opened_last : LowerLast base opens (at ∷ opens) s t
  opened_last = last_opened base s t opens (x.value ∷ held) b at a.balance now same (omega (arith, tree_rank base height s low high b a.tree))

  -- a leaf takes the entry
  module _ (leaf : (node_at s b).rank ≡ base) where
    no_levels : height ≡ 0
    no_levels = omega (arith, tree_rank base height s low high b a.tree)

    leaf_absent : (k : ℕ) → k ≡ 0 → found x.key (pairs k s b) ≡ None → found x.key (node_at s b).entries ≡ None
    leaf_absent zero e h = h
    leaf_absent (suc k) e h = absurd (omega arith)

    absent_here : found x.key (node_at s b).entries ≡ None
    absent_here = leaf_absent height no_levels a.absent

    pub leaf_new : found x.key (node_at s b).entries ≡ None
    leaf_new = absent_here

    pub leaf_balance : Balanced t (at ∷ opens) (values (with_entry x (node_at s b).entries) ++ held)
    leaf_balance = reordered t (at ∷ opens) (children (node_at s b) ++ x.value ∷ held) (values (with_entry x (node_at s b).entries) ++ held)
        (λ c.
        let m : occurrences c (children (node_at s b)) ≡ occurrences c (values (node_at s b).entries) = ap (occurrences c) names in
        omega (arith, occurrences-append c (children (node_at s b)) (x.value ∷ held), occurrences-append c (values (with_entry x (node_at s b).entries)) held, occurrences_with_new c x (node_at s b).entries absent_here)) now

    pub leaf_names : (c : ℕ) → 0 < occurrences c (values (with_entry x (node_at s b).entries)) → MayName base (node_at t c).rank
    leaf_names c here =
        subst (λ (m : Node). MayName base m.rank) (sym (same_node s t same c))
        (elim (cases_eq c x.value) [
          | inl e ↦ subst (λ y. MayName base (node_at s y).rank) (sym e) a.value_rank
          | inr d ↦
              let o : one_if_same x.value c ≡ 0 = one_other x.value c (λ e. d (sym e)) in
              let m : occurrences c (children (node_at s b)) ≡ occurrences c (values (node_at s b).entries) = ap (occurrences c) names in
              let named_here : 0 < occurrences c (children (node_at s b)) = omega (arith, occurrences_with_new c x (node_at s b).entries absent_here) in
              let me : one_if_same b b ≡ 1 = one_same b b refl in
              subst (λ r. MayName r (node_at s c).rank) leaf
              (a.balance.ranks b c (held_live s opens (b ∷ x.value ∷ held) b a.balance (omega arith)) (held_closed s opens (b ∷ x.value ∷ held) b a.balance (omega arith)) named_here)
        ])

    leaf_grown : (k : ℕ) → k ≡ 0 → (v : Store) (g : Grown) → IsTree base k s low high b → StandsIn v g base (with_entry x (node_at s b).entries)
        → Grows base k v low high g (length (node_at s b).entries) (with_entry x (pairs k s b))
    leaf_grown zero e v g h stands =
        grown_leaf base v low high g (length (node_at s b).entries) (with_entry x (node_at s b).entries) stands (ascend_with_entry low high x (node_at s b).entries h.1 a.lower a.upper)
        (omega (arith, length-with_new x (node_at s b).entries absent_here))
    leaf_grown (suc k) e v g h stands = absurd (omega arith)

    leaf_size : (k : ℕ) → k ≡ 0 → (v : Store) (g : Grown) → nodes_in k v g + 1 ≤ length (nodes_of k s b) + k + length (roots g)
    leaf_size zero e v (One c) = omega arith
    leaf_size zero e v (Two c m d) = omega arith
    leaf_size (suc k) e v g = absurd (omega arith)

    -- once it was written
    pub leaf_added : (v : Store) (g : Grown) → Placed base t v at opens held g base (with_entry x (node_at s b).entries) → Added base s v b x height low high opens held g
    leaf_added v g p = record {
      grows = leaf_grown height no_levels v g a.tree p.stands;
      size = leaf_size height no_levels v g;
      balance = p.balance;
      frame = frame_trans s t v held (frame_same s t held same.nodes)
          (frame_part t v (values (with_entry x (node_at s b).entries) ++ held) held p.frame (λ c h. omega (arith, occurrences-append c (values (with_entry x (node_at s b).entries)) held)));
      stay = stay_from_last base opens opens s v (last_trans base opens (at ∷ opens) opens s t v opened_last p.last);
    }

-- ---- an inner node was opened, and the key leads to its entry at i
module _ (base k : ℕ) (s t : Store) (b at : ℕ) (x : Entry) (low high : ℕ) (opens held : List ℕ)
    (a : Adding base s b x (suc k) low high opens held) (pos : 0 < base)
    (same : SameNodes s t)
    (now : Balanced t (at ∷ opens) (children (node_at s b) ++ x.value ∷ held))
    (i : ℕ) (place : rank_of x.key (node_at s b).entries ≡ suc i) where
  abbrev es : List Entry
  es = (node_at s b).entries

  abbrev pub from_key : ℕ
  from_key = (get_or (node_at s b).entries i blank).key

  abbrev pub to_key : ℕ
  to_key = first_key (drop (suc i) (node_at s b).entries) high

  abbrev pub child : ℕ
  child = (get_or (node_at s b).entries i blank).value

  pub child_within : i < length (node_at s b).entries
  child_within = (opened.chosen base k s t b x.key low high a.tree a.lower a.upper same i place).within

  -- the same for the child
  pub child_adding : Adding base t child x k from_key to_key (at ∷ opens) (others es i ++ held)
  child_adding =
      let c = opened.chosen base k s t b x.key low high a.tree a.lower a.upper same i place in
      record {
        tree = opened.child_tree base k s t b x.key low high a.tree a.lower a.upper same i place;
        lower = c.lower;
        upper = c.upper;
        absent = opened.child_found base k s t b x.key low high a.tree a.lower a.upper same i place ∙ a.absent;
        balance = reordered t (at ∷ opens) (children (node_at s b) ++ x.value ∷ held) (child ∷ x.value ∷ (others es i ++ held))
            (λ y.
            let n : occurrences y (children (node_at s b)) ≡ occurrences y (values es) = ap (occurrences y) (opened.names base k s t b x.key low high a.tree a.lower a.upper same i place) in
            omega (arith, occurrences-append y (children (node_at s b)) (x.value ∷ held), occurrences-append y (others es i) held, occurrences_others y es i child_within)) now;
        value_rank = subst (λ (n : Node). MayName base n.rank) (sym (same_node s t same x.value)) a.value_rank;
      }

  pub child_rank : (node_at s b).rank ≡ suc (node_at t child).rank
  child_rank = opened.child_rank base k s t b x.key low high a.tree a.lower a.upper same i place

  pub child_room : (n : ℕ) → HasRoomFor (n + 252) opens held → HasRoomFor n (at ∷ opens) (others es i ++ held)
  child_room n h = omega (arith, length-append (others es i) held, length_others es i child_within, a.balance.small b)

  -- the child grew
  module _ (u : Store) (g : Grown) (added : Added base t u child x k from_key to_key (at ∷ opens) (others es i ++ held) g) where
    later : Frame t u (others es i)
    later = frame_part t u (others es i ++ held) (others es i) added.frame (λ y h. omega (arith, occurrences-append y (others es i) held))

    pub traded_balance : Balanced u (at ∷ opens) (values (traded es i g) ++ held)
    traded_balance = reordered u (at ∷ opens) (roots g ++ (others es i ++ held)) (values (traded es i g) ++ held)
        (λ c. omega (arith, occurrences-append c (values (traded es i g)) held, occurrences_traded c es i g, occurrences-append c (roots g) (others es i ++ held), occurrences-append c (others es i) held)) added.balance

    pub traded_parted : Parted (Below base k u) low high (traded es i g)
    traded_parted =
        spliced base k u low from_key to_key high (take i es) (branches from_key g) (drop (suc i) es)
        (opened.front_parted base k s t b x.key low high a.tree a.lower a.upper same i place u later)
        (branches_parted base k u from_key to_key (length (node_at t child).entries) g (with_entry x (pairs k t child)) (opened.chosen base k s t b x.key low high a.tree a.lower a.upper same i place).ordered
        (opened.child_full base k s t b x.key low high a.tree a.lower a.upper same i place) added.grows)
        (opened.rest_parted base k s t b x.key low high a.tree a.lower a.upper same i place u later)

    pub traded_names : (c : ℕ) → 0 < occurrences c (values (traded es i g)) → MayName (node_at s b).rank (node_at u c).rank
    traded_names = parted_names base k u low high (node_at s b).rank (traded es i g) a.tree.0 traded_parted

    pub traded_joined : joined (pairs k u) (traded es i g) ≡ with_entry x (pairs (suc k) s b)
    traded_joined =
        joined_spliced (pairs k u) (take i es) (branches from_key g) (drop (suc i) es) (joined (pairs k s) (take i es)) (with_entry x (pairs k t child)) (joined (pairs k s) (drop (suc i) es))
        (opened.front_joined base k s t b x.key low high a.tree a.lower a.upper same i place u later)
        (branches_joined base k u from_key to_key (length (node_at t child).entries) g (with_entry x (pairs k t child)) added.grows)
        (opened.rest_joined base k s t b x.key low high a.tree a.lower a.upper same i place u later)
        ∙ sym (opened.with_around base k s t b x.key low high a.tree a.lower a.upper same i place x refl)

    -- and the node was written
    pub inner_added : (v : Store) (q : Grown) → Placed base u v at opens held q (node_at s b).rank (traded es i g) → Added base s v b x (suc k) low high opens held q
    inner_added v q p =
        let stays = λ (c : ℕ) (here : 0 < occurrences c (values (traded es i g))). p.frame c k (let o : occurrences c (values (traded es i g) ++ held) ≡ occurrences c (values (traded es i g)) + occurrences c held = occurrences-append c (values (traded es i g)) held in omega arith) in
        let stands : StandsIn v q (base + suc k) (traded es i g) = subst (λ r. StandsIn v q r (traded es i g)) a.tree.0 p.stands in
        record {
          grows = subst (λ ps. Grows base (suc k) v low high q (length es) ps) (joined_same base k u v low high (traded es i g) stays traded_parted ∙ traded_joined)
              (grown_inner base k v low high q (length es) (traded es i g) stands (below_same base k u v low high (traded es i g) stays traded_parted) (longer g));
          size = sized q stands stays;
          balance = p.balance;
          frame = frame_trans s u v held
              (frame_trans s t u held (frame_same s t held same.nodes) (frame_part t u (others es i ++ held) held added.frame (λ c h. omega (arith, occurrences-append c (others es i) held))))
              (frame_part u v (values (traded es i g) ++ held) held p.frame (λ c h. omega (arith, occurrences-append c (values (traded es i g)) held)));
          stay = stay_from_last base opens opens s v
              (last_trans base opens (at ∷ opens) opens s t v (opened_last base (suc k) s t b at x low high opens held a pos same now)
              (last_trans base (at ∷ opens) (at ∷ opens) opens t u v (last_from_stay base (at ∷ opens) t u added.stay) p.last));
        }
      where
        sized : (q : Grown) → StandsIn v q (base + suc k) (traded es i g) → ((c : ℕ) → 0 < occurrences c (values (traded es i g)) → SameBelow k u v c)
            → nodes_in (suc k) v q + 1 ≤ length (nodes_of (suc k) s b) + suc k + length (roots q)
        sized q stands stays =
            let all : nodes_in (suc k) v q ≡ length (roots q) + length (gathered (nodes_of k v) (traded es i g)) = stands_nodes (suc k) v q (base + suc k) (traded es i g) stands in
            let kept : length (gathered (nodes_of k v) (traded es i g)) ≡ length (gathered (nodes_of k u) (traded es i g)) = ap (λ (xs : List ℕ). length xs) (gathered_same base k u v low high (traded es i g) stays traded_parted) in
            let fore : length (gathered (nodes_of k u) (take i es)) ≡ length (gathered (nodes_of k s) (take i es)) = ap (λ (xs : List ℕ). length xs) (opened.front_gathered base k s t b x.key low high a.tree a.lower a.upper same i place u later) in
            let aft : length (gathered (nodes_of k u) (drop (suc i) es)) ≡ length (gathered (nodes_of k s) (drop (suc i) es)) = ap (λ (xs : List ℕ). length xs) (opened.rest_gathered base k s t b x.key low high a.tree a.lower a.upper same i place u later) in
            omega (
              arith,
              all,
              kept,
              gathered-append (nodes_of k u) (take i es) (branches from_key g ++ drop (suc i) es),
              gathered-append (nodes_of k u) (branches from_key g) (drop (suc i) es),
              branches_nodes k u from_key g,
              fore,
              aft,
              opened.nodes_around base k s t b x.key low high a.tree a.lower a.upper same i place,
              added.size,
              roots_few g,
            )

        roots_some : (g : Grown) → 1 ≤ length (roots g)
        roots_some (One c) = omega arith
        roots_some (Two c m d) = omega arith

        longer : (g : Grown) → length es ≤ length (traded es i g)
        longer g = omega (arith, length_traded es i g child_within, roots_some g)
