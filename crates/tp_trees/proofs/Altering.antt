-- A value that is changed below a node while the path to it is open: what each step of it needs and gives.
use Rattle.std.proofs.Common.{◌≡◌, ◌≢◌, ℕ, zero, suc, ◌+◌, ◌-◌, ◌<◌, ◌≤◌, List, [], ◌∷◌, ◌++◌, length, get_or, take, drop, length-append, refl, sym, ap, subst, ◌∙◌, arith, inl, inr, Some}
use Rattle.std.proofs.lemmas.Bool.{cases_eq}
use Rattle.std.proofs.lemmas.List.{append-nil}
use Rattle.tp_layout.specs.declared.entry.Entry.{Entry}
use Rattle.tp_layout.specs.Entries.{Ascend, first_key, found, rank_of, with_entry, without_key}
use Rattle.tp_layout.proofs.Ordered.{ascend_with_entry, found_with_other, found_with_same, found_without_other, length-with_known}
use Rattle.tp_refs.specs.Store.{MayName, Node, Store, children, node_at, values}
use Rattle.tp_refs.specs.Balance.{Balanced, Frame, HasRoomFor, SameBelow, SameNodes, occurrences, one_if_same}
use Rattle.tp_refs.proofs.Steps.{below_trans, frame_part, frame_same, frame_trans, held_closed, held_live, occurrences-append, one_other, one_same}
use Rattle.tp_refs.proofs.Moves.{reordered}
use Rattle.tp_refs.proofs.Children.{same_node}
use Rattle.tp_trees.specs.Tree.{IsTree, Parted, blank, joined, least_of, led_to, pairs}
use Rattle.tp_trees.specs.Growth.{One, Placed, branches, others, traded}
use Rattle.tp_trees.specs.Altering.{Altered, Altering, Turned}
use Rattle.tp_trees.proofs.Trees.{children_values, led, tree_rank}
use Rattle.tp_trees.proofs.Frames.{Below, below_same, joined_same}
use Rattle.tp_trees.proofs.Places.{found_named, length_others, length_traded, occurrences_others, occurrences_traded, occurrences_with_other, occurrences_without}
use Rattle.tp_trees.proofs.Opened.{child_found, child_full, child_tree, chosen, front_joined, front_parted, joined_spliced, names, parted_names, rest_joined, rest_parted, spliced, with_around}

-- another entry of a node names a block that is held besides
others_named : (es : List Entry) (i j : ℕ) → j ≢ i → j < length es → 0 < occurrences (get_or es j blank).value (others es i)
others_named [] i j n h = absurd (omega (arith, h))
others_named (e ∷ es) zero zero n h = absurd (n refl)
others_named (e ∷ es) zero (suc j) n h =
    omega (arith, occurrences_others (get_or es j blank).value es j (omega (arith, h)), one_same (get_or es j blank).value (get_or es j blank).value refl)
others_named (e ∷ es) (suc i) zero n h = omega (arith, one_same e.value e.value refl)
others_named (e ∷ es) (suc i) (suc j) n h = omega (arith, others_named es i j (λ q. n (ap suc q)) (omega (arith, h)))

-- no node was written below a block
same_nodes_below : (s t : Store) → SameNodes s t → (k b : ℕ) → SameBelow k s t b
same_nodes_below s t e zero b = same_node s t e b
same_nodes_below s t e (suc k) b = (same_node s t e b, λ c here. same_nodes_below s t e k c)

-- what stands below a tree's value is as it was where all below the tree's root is
pub value_below : (base k : ℕ) (s t : Store) (low high b q : ℕ) (v : Entry) → IsTree base k s low high b → 0 < base → low ≤ q → q < high → found q (pairs k s b) ≡ Some v
    → ((j : ℕ) → SameBelow j s t b) → (j : ℕ) → SameBelow j s t v.value
value_below base zero s t low high b q v h pos l u f same j =
    (same (suc j)).1 v.value (subst (λ xs. 0 < occurrences v.value xs) (sym (children_values (node_at s b) (omega (arith, pos, h.0)))) (found_named q v (node_at s b).entries f))
value_below base (suc k) s t low high b q v h pos l u f same j =
    let d = led base k s low high b q h l u in
    value_below base k s t d.from d.to (led_to q (node_at s b).entries) q v d.tree pos d.lower d.upper (sym d.same_found ∙ f) (λ i. (same (suc i)).1 (led_to q (node_at s b).entries) d.child) j

module _ (base height : ℕ) (s t : Store) (b at key : ℕ) (was : Entry) (low high : ℕ) (opens spent held : List ℕ)
    (a : Altering base s b key was height low high opens spent held) (pos : 0 < base) (same : SameNodes s t)
    (now : Balanced t (at ∷ opens) (children (node_at s b) ++ (spent ++ held))) (leaf : (node_at s b).rank ≡ base) where
  abbrev es : List Entry
  es = (node_at s b).entries

  -- what the leaf names besides
  abbrev rest : List ℕ
  rest = values (without_key key (node_at s b).entries)

  no_levels : height ≡ 0
  no_levels = omega (arith, tree_rank base height s low high b a.tree)

  here_at : (k : ℕ) → k ≡ 0 → IsTree base k s low high b → found key (pairs k s b) ≡ Some was → Ascend low high (node_at s b).entries × (found key (node_at s b).entries ≡ Some was)
  here_at zero e tree h = (tree.1, h)
  here_at (suc k) e tree h = absurd (omega arith)

  here : Ascend low high (node_at s b).entries × (found key (node_at s b).entries ≡ Some was)
  here = here_at height no_levels a.tree a.present

  named : (c : ℕ) → occurrences c (children (node_at s b)) ≡ occurrences c rest + one_if_same was.value c
  named c = ap (occurrences c) (children_values (node_at s b) (omega (arith, tree_rank base height s low high b a.tree))) ∙ occurrences_without c key was es here.1

  -- what the change is given
  pub alter_leaf_held : Balanced t (at ∷ opens) (was.value ∷ (spent ++ (rest ++ held)))
  alter_leaf_held = reordered t (at ∷ opens) (children (node_at s b) ++ (spent ++ held)) (was.value ∷ (spent ++ (rest ++ held)))
      (λ c. omega (arith, named c, occurrences-append c (children (node_at s b)) (spent ++ held), occurrences-append c spent held, occurrences-append c spent (rest ++ held), occurrences-append c rest held)) now

  module _ (u : Store) (x : Entry) (d : Turned base t u key x (at ∷ opens) (rest ++ held)) where
    known : found x.key (node_at s b).entries ≡ Some was
    known = ap (λ k. found k (node_at s b).entries) d.key_is ∙ here.1

    put_named : (c : ℕ) → occurrences c (values (with_entry x es)) ≡ occurrences c rest + one_if_same x.value c
    put_named c = omega (arith, occurrences_with_other c x was es known low high here.0, occurrences_without c key was es here.1)

    pub alter_leaf_balance : Balanced u (at ∷ opens) (values (with_entry x (node_at s b).entries) ++ held)
    alter_leaf_balance = reordered u (at ∷ opens) (x.value ∷ (rest ++ held)) (values (with_entry x es) ++ held)
        (λ c. omega (arith, put_named c, occurrences-append c rest held, occurrences-append c (values (with_entry x es)) held)) d.balance

    pub alter_leaf_names : (c : ℕ) → 0 < occurrences c (values (with_entry x (node_at s b).entries)) → MayName base (node_at u c).rank
    alter_leaf_names c some =
        elim (cases_eq c x.value) [
          | inl e ↦ subst (λ y. MayName base (node_at u y).rank) (sym e) d.names
          | inr n ↦
              let o : one_if_same x.value c ≡ 0 = one_other x.value c (λ e. n (sym e)) in
              let r : 0 < occurrences c rest = omega (arith, some, put_named c, o) in
              let me : one_if_same b b ≡ 1 = one_same b b refl in
              let at_t : node_at u c ≡ node_at t c = d.frame c 0 (omega (arith, r, occurrences-append c rest held)) in
              subst (λ (m : Node). MayName base m.rank) (sym (at_t ∙ same_node s t same c))
              (subst (λ q. MayName q (node_at s c).rank) leaf
              (a.balance.ranks b c (held_live s opens (b ∷ (spent ++ held)) b a.balance (omega (arith, me))) (held_closed s opens (b ∷ (spent ++ held)) b a.balance (omega (arith, me))) (omega (arith, r, named c))))
        ]

    rest_named : (c : ℕ) → 0 < occurrences c (rest ++ held) → 0 < occurrences c (values (with_entry x es) ++ held)
    rest_named c h = omega (arith, h, put_named c, occurrences-append c rest held, occurrences-append c (values (with_entry x es)) held)

    -- once it was written
    leaf_tree : (k : ℕ) → k ≡ 0 → (v : Store) (to : ℕ) → node_at v to ≡ record { rank = base; entries = with_entry x (node_at s b).entries } → IsTree base k v low high to × (pairs k v to ≡ with_entry x (pairs k s b))
    leaf_tree zero e v to stands = (
      subst (λ (n : Node). (n.rank ≡ base) × Ascend low high n.entries) (sym stands) (refl, ascend_with_entry low high x (node_at s b).entries here.0 (omega (arith, a.lower, d.key_is)) (omega (arith, a.upper, d.key_is))),
      ap (λ (n : Node). n.entries) stands,
    )
    leaf_tree (suc k) e v to stands = absurd (omega arith)

    entry_in : (k : ℕ) → k ≡ 0 → (other : ℕ) (e : Entry) → found other (pairs k s b) ≡ Some e → found other (node_at s b).entries ≡ Some e
    entry_in zero q other e h = h
    entry_in (suc k) q other e h = absurd (omega arith)

    pub leaf_altered : (v : Store) (to : ℕ) → Placed base u v at opens held (One to) base (with_entry x (node_at s b).entries) → Altered base s u v b x height low high opens held to
    leaf_altered v to p =
        let done = leaf_tree height no_levels v to p.stands in
        let all : Frame s v (rest ++ held) = frame_trans s u v (rest ++ held)
        (frame_trans s t u (rest ++ held) (frame_same s t (rest ++ held) same.nodes) d.frame)
        (frame_part u v (values (with_entry x es) ++ held) (rest ++ held) p.frame rest_named) in
        record {
          tree = done.0;
          content = done.1;
          same = ap (λ (n : Node). length n.entries) p.stands ∙ length-with_known low high x was (node_at s b).entries here.0 known;
          balance = p.balance;
          frame = frame_part s v (rest ++ held) held all (λ c h. omega (arith, h, occurrences-append c rest held));
          value = λ j. p.frame x.value j (omega (arith, put_named x.value, one_same x.value x.value refl, occurrences-append x.value (values (with_entry x es)) held));
          others = λ other e l g h n j.
              let f : found other (without_key key es) ≡ Some e = found_without_other key other (node_at s b).entries (λ q. n (q ∙ sym d.key_is)) ∙ entry_in height no_levels other e h in
              all e.value j (omega (arith, found_named other e (without_key key es) f, occurrences-append e.value rest held));
        }

-- ---- an inner node was opened, and the key leads to its entry at i
module _ (base k : ℕ) (s t : Store) (b at key : ℕ) (was : Entry) (low high : ℕ) (opens spent held : List ℕ)
    (a : Altering base s b key was (suc k) low high opens spent held) (pos : 0 < base) (same : SameNodes s t)
    (now : Balanced t (at ∷ opens) (children (node_at s b) ++ (spent ++ held)))
    (i : ℕ) (place : rank_of key (node_at s b).entries ≡ suc i) where
  abbrev ns : List Entry
  ns = (node_at s b).entries

  abbrev from_key : ℕ
  from_key = (get_or (node_at s b).entries i blank).key

  abbrev to_key : ℕ
  to_key = first_key (drop (suc i) (node_at s b).entries) high

  abbrev child : ℕ
  child = (get_or (node_at s b).entries i blank).value

  way_names : children (node_at s b) ≡ values ns
  way_names = names base k s t b key low high a.tree a.lower a.upper same i place

  pub alter_within : i < length (node_at s b).entries
  alter_within = (chosen base k s t b key low high a.tree a.lower a.upper same i place).within

  -- the same for the child
  pub alter_child : Altering base t child key was k from_key to_key (at ∷ opens) spent (others ns i ++ held)
  alter_child =
      let c = chosen base k s t b key low high a.tree a.lower a.upper same i place in
      record {
        tree = child_tree base k s t b key low high a.tree a.lower a.upper same i place;
        lower = c.lower;
        upper = c.upper;
        present = child_found base k s t b key low high a.tree a.lower a.upper same i place ∙ a.present;
        balance = reordered t (at ∷ opens) (children (node_at s b) ++ (spent ++ held)) (child ∷ (spent ++ (others ns i ++ held)))
            (λ y.
            let n : occurrences y (children (node_at s b)) ≡ occurrences y (values ns) = ap (occurrences y) way_names in
            omega (arith, n, occurrences-append y (children (node_at s b)) (spent ++ held), occurrences-append y spent held, occurrences-append y spent (others ns i ++ held), occurrences-append y (others ns i) held, occurrences_others y ns i alter_within)) now;
      }

  pub alter_child_room : (n : ℕ) → HasRoomFor (n + 252) opens held → HasRoomFor n (at ∷ opens) (others ns i ++ held)
  alter_child_room n h = omega (arith, length-append (others ns i) held, length_others ns i alter_within, a.balance.small b)

  -- it was changed in the child
  module _ (u w : Store) (x : Entry) (is : x.key ≡ key) (c : ℕ) (done : Altered base t u w child x k from_key to_key (at ∷ opens) (others ns i ++ held) c) where
    later : Frame t w (others ns i)
    later = frame_part t w (others ns i ++ held) (others ns i) done.frame (λ y h. omega (arith, h, occurrences-append y (others ns i) held))

    pub altered_balance : Balanced w (at ∷ opens) (values (traded ns i (One c)) ++ held)
    altered_balance = reordered w (at ∷ opens) (c ∷ (others ns i ++ held)) (values (traded ns i (One c)) ++ held)
        (λ y. omega (arith, occurrences-append y (values (traded ns i (One c))) held, occurrences_traded y ns i (One c), occurrences-append y (others ns i) held)) done.balance

    pub altered_parted : Parted (Below base k w) low high (traded ns i (One c))
    altered_parted =
        let f : least_of (base + k) ≤ length (node_at t child).entries = child_full base k s t b key low high a.tree a.lower a.upper same i place in
        spliced base k w low from_key to_key high (take i ns) (branches from_key (One c)) (drop (suc i) ns)
        (front_parted base k s t b key low high a.tree a.lower a.upper same i place w later)
        (refl, (chosen base k s t b key low high a.tree a.lower a.upper same i place).ordered, (done.tree, omega (arith, done.same, f)), refl)
        (rest_parted base k s t b key low high a.tree a.lower a.upper same i place w later)

    pub altered_names : (y : ℕ) → 0 < occurrences y (values (traded ns i (One c))) → MayName (node_at s b).rank (node_at w y).rank
    altered_names = parted_names base k w low high (node_at s b).rank (traded ns i (One c)) a.tree.0 altered_parted

    pub altered_joined : joined (pairs k w) (traded ns i (One c)) ≡ with_entry x (pairs (suc k) s b)
    altered_joined =
        joined_spliced (pairs k w) (take i ns) (branches from_key (One c)) (drop (suc i) ns) (joined (pairs k s) (take i ns)) (with_entry x (pairs k t child)) (joined (pairs k s) (drop (suc i) ns))
        (front_joined base k s t b key low high a.tree a.lower a.upper same i place w later)
        (append-nil (pairs k w c) ∙ done.content)
        (rest_joined base k s t b key low high a.tree a.lower a.upper same i place w later)
        ∙ sym (with_around base k s t b key low high a.tree a.lower a.upper same i place x is)

    -- and the node was written
    module _ (v : Store) (to : ℕ) (p : Placed base w v at opens held (One to) (node_at s b).rank (traded (node_at s b).entries i (One c))) where
      kept_named : (y : ℕ) → 0 < occurrences y (others ns i) → 0 < occurrences y (values (traded ns i (One c)) ++ held)
      kept_named y h = omega (arith, h, occurrences_traded y ns i (One c), occurrences-append y (values (traded ns i (One c))) held)

      all_kept : Frame s v (others ns i)
      all_kept = frame_trans s w v (others ns i) (frame_trans s t w (others ns i) (frame_same s t (others ns i) same.nodes) later) (frame_part w v (values (traded ns i (One c)) ++ held) (others ns i) p.frame kept_named)

      child_kept : (j : ℕ) → SameBelow j w v c
      child_kept j = p.frame c j (omega (arith, one_same c c refl, occurrences_traded c ns i (One c), occurrences-append c (values (traded ns i (One c))) held))

      child_value : (other : ℕ) (e : Entry) → from_key ≤ other → other < to_key → found other (pairs k w c) ≡ Some e → (j : ℕ) → SameBelow j w v e.value
      child_value other e l g f j = value_below base k w v from_key to_key c other e done.tree pos l g f child_kept j

      pub inner_value : (j : ℕ) → SameBelow j u v x.value
      inner_value j =
          let z = chosen base k s t b key low high a.tree a.lower a.upper same i place in
          below_trans j u w v x.value (done.value j)
          (child_value x.key x (omega (arith, z.lower, is)) (omega (arith, z.upper, is)) (ap (found x.key) done.content ∙ found_with_same x (pairs k t child)) j)

      pub inner_others : (other : ℕ) (e : Entry) → low ≤ other → other < high → found other (pairs (suc k) s b) ≡ Some e → other ≢ x.key → (j : ℕ) → SameBelow j s v e.value
      inner_others other e l g f n j =
          elim (cases_eq (rank_of other (node_at s b).entries) (suc i)) [
            | inl q ↦
                let z = chosen base k s t b other low high a.tree l g same i q in
                let there : found other (pairs k t child) ≡ Some e = child_found base k s t b other low high a.tree l g same i q ∙ f in
                below_trans j s w v e.value
                (below_trans j s t w e.value (same_nodes_below s t same j e.value) (done.others other e z.lower z.upper there n j))
                (child_value other e z.lower z.upper (ap (found other) done.content ∙ (found_with_other x other (pairs k t child) n ∙ there)) j)
            | inr d ↦
                let r = led base k s low high b other a.tree l g in
                let at_r : rank_of other (node_at s b).entries ≡ suc (rank_of other (node_at s b).entries - 1) = omega (arith, r.placed) in
                let z = chosen base k s t b other low high a.tree l g same (rank_of other (node_at s b).entries - 1) at_r in
                let in_others : 0 < occurrences (get_or (node_at s b).entries (rank_of other (node_at s b).entries - 1) blank).value (others (node_at s b).entries i) =
                others_named (node_at s b).entries i (rank_of other (node_at s b).entries - 1) (λ q. d (omega (arith, q, r.placed))) z.within in
                value_below base k s v r.from r.to (led_to other (node_at s b).entries) other e r.tree pos r.lower r.upper (sym r.same_found ∙ f)
                (λ m. all_kept (led_to other (node_at s b).entries) m in_others) j
          ]

      pub inner_altered : Altered base s u v b x (suc k) low high opens held to
      inner_altered =
          let stays = λ (y : ℕ) (some : 0 < occurrences y (values (traded ns i (One c)))). p.frame y k (let o : occurrences y (values (traded ns i (One c)) ++ held) ≡ occurrences y (values (traded ns i (One c))) + occurrences y held = occurrences-append y (values (traded ns i (One c))) held in omega arith) in
          record {
            tree = subst (λ (m : Node). (m.rank ≡ base + suc k) × Parted (Below base k v) low high m.entries) (sym p.stands) (a.tree.0, below_same base k w v low high (traded ns i (One c)) stays altered_parted);
            content = ap (λ (m : Node). joined (pairs k v) m.entries) p.stands ∙ (joined_same base k w v low high (traded ns i (One c)) stays altered_parted ∙ altered_joined);
            same = ap (λ (m : Node). length m.entries) p.stands ∙ omega (arith, length_traded ns i (One c) alter_within);
            balance = p.balance;
            frame = frame_trans s w v held
                (frame_trans s t w held (frame_same s t held same.nodes) (frame_part t w (others ns i ++ held) held done.frame (λ y h. omega (arith, h, occurrences-append y (others ns i) held))))
                (frame_part w v (values (traded ns i (One c)) ++ held) held p.frame (λ y h. omega (arith, h, occurrences-append y (values (traded ns i (One c))) held)));
            value = inner_value;
            others = inner_others;
          }
