-- The writes of each step, with the node that is written: what the store needs before, and what the step has done then.
use Rattle.std.proofs.Common.{◌≡◌, ℕ, suc, ◌+◌, ◌<◌, ◌≤◌, List, [], ◌∷◌, ◌++◌, length, get_or, take, drop, refl, sym, ap, subst, arith}
use Rattle.tp_layout.specs.declared.entry.Entry.{Entry}
use Rattle.tp_layout.specs.Entries.{Ascend, first_key, rank_of, with_entry}
use Rattle.tp_refs.specs.Store.{MayName, Node, Store, children, count_of, node_at, values, with_count, with_node}
use Rattle.tp_refs.specs.Balance.{Balanced, SameNodes, occurrences}
use Rattle.tp_refs.proofs.Steps.{frame_same, frame_trans}
use Rattle.tp_refs.proofs.Lower.{last_taken, last_trans, stay_from_last}
use Rattle.tp_trees.specs.Tree.{blank, least_of}
use Rattle.tp_trees.specs.Growth.{Added, Adding, Grown, One, Placed, Started, Two, branch, others, traded}
use Rattle.tp_trees.specs.Replacement.{Replaced, Replacing}
use Rattle.tp_trees.specs.Removal.{Mends, Refitted, Refitting, Removed, Taken}
use Rattle.tp_trees.proofs.Placing.{Both, both_halves, placed_one, placed_two, ready_names, ready_one}
use Rattle.tp_trees.proofs.Insertion.{inner_added, leaf_added, leaf_balance, leaf_names, traded_balance, traded_names}
use Rattle.tp_trees.proofs.Replacement.{inner_replaced, leaf_replaced, replace_leaf_balance, replace_leaf_names, replaced_balance, replaced_names}
use Rattle.tp_trees.proofs.Mending.{evened_balance, evened_last, joined_balance, joined_names, whole_refitted}
use Rattle.tp_trees.proofs.Removal.{root_removed}

-- an open block may be written with a node, and then closed
pub record Ready (t : Store) (opens held : List ℕ) (at : ℕ) (n : Node) : Type 0 where
  pub balance : Balanced t (at ∷ opens) (children n ++ held)
  pub names : (c : ℕ) → 0 < occurrences c (children n) → MayName n.rank (node_at t c).rank

-- entries that are to stand in an open block
module _ (base : ℕ) (t : Store) (opens held : List ℕ) (at rank : ℕ) (es : List Entry)
    (balance : Balanced t (at ∷ opens) (values es ++ held)) (may : (c : ℕ) → 0 < occurrences c (values es) → MayName rank (node_at t c).rank) (pos : 0 < rank)
    (n : Node) (r : n.rank ≡ rank) (e : n.entries ≡ es) where
  balance_there : Balanced t (at ∷ opens) (values n.entries ++ held)
  balance_there = subst (λ (xs : List Entry). Balanced t (at ∷ opens) (values xs ++ held)) (sym e) balance

  may_there : (c : ℕ) → 0 < occurrences c (values n.entries) → MayName n.rank (node_at t c).rank
  may_there c here = subst (λ q. MayName q (node_at t c).rank) (sym r) (may c (subst (λ (xs : List Entry). 0 < occurrences c (values xs)) e here))

  pub ready : Ready t opens held at n
  ready = record { balance = ready_one t opens held at n balance_there (omega (arith, r)); names = ready_names t n (omega (arith, r)) may_there }

  pub written_one : at < length t.nodes → length n.entries ≤ 252 → Placed base t (with_node t at n) at opens held (One at) rank es
  written_one inside fits =
      subst (λ q. Placed base t (with_node t at n) at opens held (One at) q es) r
      (subst (λ (xs : List Entry). Placed base t (with_node t at n) at opens held (One at) n.rank xs) e
      (placed_one base t opens held at n balance_there inside (omega (arith, r)) fits may_there))

-- two halves of entries that are to stand in an open block and a fresh one
pub record Halved (rank middle : ℕ) (es : List Entry) (left right : Node) : Type 0 where
  pub whole : es ≡ left.entries ++ right.entries
  pub rank_left : left.rank ≡ rank
  pub rank_right : right.rank ≡ rank
  pub full_left : least_of rank ≤ length left.entries
  pub full_right : least_of rank ≤ length right.entries
  pub fits_left : length left.entries ≤ 252
  pub fits_right : length right.entries ≤ 252
  pub between : (high : ℕ) → first_key right.entries high ≡ middle

module _ (base : ℕ) (t : Store) (opens held : List ℕ) (at other middle rank : ℕ) (es : List Entry) (left right : Node) (h : Halved rank middle es left right)
    (free : count_of t other ≡ 0) (balance : Balanced (with_count t other 1) (other ∷ at ∷ opens) (values es ++ held))
    (inside : at < length t.nodes) (inside_too : other < length t.nodes) (pos : 0 < rank)
    (may : (c : ℕ) → 0 < occurrences c (values es) → MayName rank (node_at t c).rank) where
  pub ready_two : Both base (with_count t other 1) opens held (values es) other at right left
  ready_two =
      both_halves base t (with_count t other 1) opens held at other middle rank left right es (record { nodes = refl; kept = refl }) (last_taken base (at ∷ opens) t other 1 free) balance inside inside_too
      h.whole h.rank_left h.rank_right pos h.full_left h.full_right h.fits_left h.fits_right h.between may

  pub written_two : Placed base t (with_node (with_node (with_count t other 1) other right) at left) at opens held (Two at middle other) rank es
  written_two =
      placed_two base t (with_count t other 1) opens held at other middle rank left right es (record { nodes = refl; kept = refl }) (last_taken base (at ∷ opens) t other 1 free) balance inside inside_too
      h.whole h.rank_left h.rank_right pos h.full_left h.full_right h.fits_left h.fits_right h.between may

-- ---- insertion

module _ (base height : ℕ) (s t : Store) (b at : ℕ) (x : Entry) (low high : ℕ) (opens held : List ℕ)
    (a : Adding base s b x height low high opens held) (pos : 0 < base) (same : SameNodes s t)
    (now : Balanced t (at ∷ opens) (children (node_at s b) ++ x.value ∷ held))
    (leaf : (node_at s b).rank ≡ base) (inside : at < length t.nodes) where
  -- a leaf with room
  pub leaf_ready : (n : Node) → n.rank ≡ base → n.entries ≡ with_entry x (node_at s b).entries → Ready t opens held at n
  leaf_ready n r e =
      ready base t opens held at base (with_entry x (node_at s b).entries) (leaf_balance base height s t b at x low high opens held a pos same now leaf) (leaf_names base height s t b at x low high opens held a pos same now leaf) pos n r e

  pub leaf_written : (n : Node) → n.rank ≡ base → n.entries ≡ with_entry x (node_at s b).entries → length n.entries ≤ 252 → Added base s (with_node t at n) b x height low high opens held (One at)
  leaf_written n r e fits =
      leaf_added base height s t b at x low high opens held a pos same now leaf (with_node t at n) (One at)
      (written_one base t opens held at base (with_entry x (node_at s b).entries) (leaf_balance base height s t b at x low high opens held a pos same now leaf) (leaf_names base height s t b at x low high opens held a pos same now leaf) pos n r e inside fits)

  -- a full leaf
  module _ (other middle : ℕ) (left right : Node) (h : Halved base middle (with_entry x (node_at s b).entries) left right)
      (free : count_of t other ≡ 0) (balance : Balanced (with_count t other 1) (other ∷ at ∷ opens) (values (with_entry x (node_at s b).entries) ++ held)) (inside_too : other < length t.nodes) where
    pub leaf_halves_ready : Both base (with_count t other 1) opens held (values (with_entry x (node_at s b).entries)) other at right left
    leaf_halves_ready = ready_two base t opens held at other middle base (with_entry x (node_at s b).entries) left right h free balance inside inside_too pos (leaf_names base height s t b at x low high opens held a pos same now leaf)

    pub leaf_split : Added base s (with_node (with_node (with_count t other 1) other right) at left) b x height low high opens held (Two at middle other)
    leaf_split =
        leaf_added base height s t b at x low high opens held a pos same now leaf (with_node (with_node (with_count t other 1) other right) at left) (Two at middle other)
        (written_two base t opens held at other middle base (with_entry x (node_at s b).entries) left right h free balance inside inside_too pos (leaf_names base height s t b at x low high opens held a pos same now leaf))

module _ (base k : ℕ) (s t : Store) (b at : ℕ) (x : Entry) (low high : ℕ) (opens held : List ℕ)
    (a : Adding base s b x (suc k) low high opens held) (pos : 0 < base) (same : SameNodes s t)
    (now : Balanced t (at ∷ opens) (children (node_at s b) ++ x.value ∷ held))
    (i : ℕ) (place : rank_of x.key (node_at s b).entries ≡ suc i)
    (u : Store) (g : Grown)
    (added : Added base t u (get_or (node_at s b).entries i blank).value x k (get_or (node_at s b).entries i blank).key (first_key (drop (suc i) (node_at s b).entries) high) (at ∷ opens) (others (node_at s b).entries i ++ held) g)
    (inside : at < length u.nodes) where
  abbrev es : List Entry
  es = traded (node_at s b).entries i g

  rank_over : 0 < (node_at s b).rank
  rank_over = omega (arith, a.tree.0)

  -- the child stayed one, or became two and there is room
  pub inner_ready : (n : Node) → n.rank ≡ (node_at s b).rank → n.entries ≡ traded (node_at s b).entries i g → Ready u opens held at n
  inner_ready n r e =
      ready base u opens held at (node_at s b).rank es (traded_balance base k s t b at x low high opens held a pos same now i place u g added) (traded_names base k s t b at x low high opens held a pos same now i place u g added) rank_over n r e

  pub inner_written : (n : Node) → n.rank ≡ (node_at s b).rank → n.entries ≡ traded (node_at s b).entries i g → length n.entries ≤ 252 → Added base s (with_node u at n) b x (suc k) low high opens held (One at)
  inner_written n r e fits =
      inner_added base k s t b at x low high opens held a pos same now i place u g added (with_node u at n) (One at)
      (written_one base u opens held at (node_at s b).rank es (traded_balance base k s t b at x low high opens held a pos same now i place u g added) (traded_names base k s t b at x low high opens held a pos same now i place u g added) rank_over n r e inside fits)

  -- the child became two, and the node is full
  module _ (other middle : ℕ) (left right : Node) (h : Halved (node_at s b).rank middle (traded (node_at s b).entries i g) left right)
      (free : count_of u other ≡ 0) (balance : Balanced (with_count u other 1) (other ∷ at ∷ opens) (values (traded (node_at s b).entries i g) ++ held)) (inside_too : other < length u.nodes) where
    pub inner_halves_ready : Both base (with_count u other 1) opens held (values (traded (node_at s b).entries i g)) other at right left
    inner_halves_ready = ready_two base u opens held at other middle (node_at s b).rank es left right h free balance inside inside_too rank_over (traded_names base k s t b at x low high opens held a pos same now i place u g added)

    pub inner_split : Added base s (with_node (with_node (with_count u other 1) other right) at left) b x (suc k) low high opens held (Two at middle other)
    inner_split =
        inner_added base k s t b at x low high opens held a pos same now i place u g added (with_node (with_node (with_count u other 1) other right) at left) (Two at middle other)
        (written_two base u opens held at other middle (node_at s b).rank es left right h free balance inside inside_too rank_over (traded_names base k s t b at x low high opens held a pos same now i place u g added))

-- ---- replacement

module _ (base height : ℕ) (s t : Store) (b at : ℕ) (x was : Entry) (low high : ℕ) (opens held : List ℕ)
    (a : Replacing base s b x was height low high opens held) (pos : 0 < base) (same : SameNodes s t)
    (now : Balanced t (at ∷ opens) (children (node_at s b) ++ x.value ∷ held))
    (leaf : (node_at s b).rank ≡ base) (inside : at < length t.nodes)
    (n : Node) (r : n.rank ≡ base) (e : n.entries ≡ with_entry x (node_at s b).entries) where
  pub replace_leaf_ready : Ready t opens (was.value ∷ held) at n
  replace_leaf_ready =
      ready base t opens (was.value ∷ held) at base (with_entry x (node_at s b).entries) (replace_leaf_balance base height s t b at x was low high opens held a pos same now leaf)
      (replace_leaf_names base height s t b at x was low high opens held a pos same now leaf) pos n r e

  pub replace_leaf_written : length n.entries ≤ 252 → Replaced base s (with_node t at n) b x was height low high opens held at
  replace_leaf_written fits =
      leaf_replaced base height s t b at x was low high opens held a pos same now leaf (with_node t at n) at
      (written_one base t opens (was.value ∷ held) at base (with_entry x (node_at s b).entries) (replace_leaf_balance base height s t b at x was low high opens held a pos same now leaf)
      (replace_leaf_names base height s t b at x was low high opens held a pos same now leaf) pos n r e inside fits)

module _ (base k : ℕ) (s t : Store) (b at : ℕ) (x was : Entry) (low high : ℕ) (opens held : List ℕ)
    (a : Replacing base s b x was (suc k) low high opens held) (pos : 0 < base) (same : SameNodes s t)
    (now : Balanced t (at ∷ opens) (children (node_at s b) ++ x.value ∷ held))
    (i : ℕ) (place : rank_of x.key (node_at s b).entries ≡ suc i)
    (u : Store) (c : ℕ)
    (done : Replaced base t u (get_or (node_at s b).entries i blank).value x was k (get_or (node_at s b).entries i blank).key (first_key (drop (suc i) (node_at s b).entries) high) (at ∷ opens) (others (node_at s b).entries i ++ held) c)
    (inside : at < length u.nodes)
    (n : Node) (r : n.rank ≡ (node_at s b).rank) (e : n.entries ≡ traded (node_at s b).entries i (One c)) where
  over_zero : 0 < (node_at s b).rank
  over_zero = omega (arith, a.tree.0)

  pub replace_inner_ready : Ready u opens (was.value ∷ held) at n
  replace_inner_ready =
      ready base u opens (was.value ∷ held) at (node_at s b).rank (traded (node_at s b).entries i (One c)) (replaced_balance base k s t b at x was low high opens held a pos same now i place u c done)
      (replaced_names base k s t b at x was low high opens held a pos same now i place u c done) over_zero n r e

  pub replace_inner_written : length n.entries ≤ 252 → Replaced base s (with_node u at n) b x was (suc k) low high opens held at
  replace_inner_written fits =
      inner_replaced base k s t b at x was low high opens held a pos same now i place u c done (with_node u at n) at
      (written_one base u opens (was.value ∷ held) at (node_at s b).rank (traded (node_at s b).entries i (One c)) (replaced_balance base k s t b at x was low high opens held a pos same now i place u c done)
      (replaced_names base k s t b at x was low high opens held a pos same now i place u c done) over_zero n r e inside fits)

-- ---- removal

-- the part has enough entries
module _ (base k : ℕ) (u : Store) (low high : ℕ) (es : List Entry) (i at : ℕ) (part : Node) (opens held : List ℕ) (a : Refitting base k u low high es i at part opens held) (pos : 0 < base) where
  abbrev part_kept : List ℕ
  part_kept = values (take i es) ++ (values (drop (suc i) es) ++ held)

  pub part_ready : Ready u opens (values (take i es) ++ (values (drop (suc i) es) ++ held)) at part
  part_ready = ready base u opens part_kept at part.rank part.entries a.balance a.names (omega (arith, a.rank)) part refl refl

  pub part_written : at < length u.nodes → length part.entries ≤ 252 → least_of (base + k) ≤ length part.entries
      → Refitted base k u (with_node u at part) low high es i at part (take i es ++ (branch (get_or es i blank).key at ∷ drop (suc i) es)) opens held
  part_written inside fits many =
      whole_refitted base k u low high es i at part opens held a many (with_node u at part)
      (written_one base u opens part_kept at part.rank part.entries a.balance a.names (omega (arith, a.rank)) part refl refl inside fits)

-- both parts into one block
module _ (base : ℕ) (s t : Store) (at sibling rank : ℕ) (es : List Entry) (opens held kept : List ℕ) (m : Mends s at sibling rank es opens held kept)
    (pos : 0 < rank) (above : base ≤ rank) (same : SameNodes s t) (now : Balanced t (at ∷ opens) (children (node_at s sibling) ++ held))
    (n : Node) (r : n.rank ≡ rank) (e : n.entries ≡ es) where
  pub joined_ready : Ready t opens kept at n
  joined_ready = ready base t opens kept at rank es (joined_balance base s t at sibling rank es opens held kept m pos above same now) (joined_names base s t at sibling rank es opens held kept m pos above same now) pos n r e

-- both parts into two blocks
module _ (base : ℕ) (s t : Store) (at sibling other middle rank : ℕ) (es : List Entry) (opens held kept : List ℕ) (m : Mends s at sibling rank es opens held kept)
    (pos : 0 < rank) (above : base ≤ rank) (same : SameNodes s t) (now : Balanced t (other ∷ at ∷ opens) (children (node_at s sibling) ++ held))
    (inside : at < length t.nodes) (inside_too : other < length t.nodes)
    (left right : Node) (h : Halved rank middle es left right) where
  pub evened_ready : Both base t opens kept (values es) other at right left
  evened_ready =
      both_halves base s t opens kept at other middle rank left right es same (evened_last base s t at sibling other rank es opens held kept m above same now) (evened_balance base s t at sibling other rank es opens held kept m above same now) inside inside_too
      h.whole h.rank_left h.rank_right pos h.full_left h.full_right h.fits_left h.fits_right h.between m.names

  pub evened_placed : Placed base s (with_node (with_node t other right) at left) at opens kept (Two at middle other) rank es
  evened_placed =
      placed_two base s t opens kept at other middle rank left right es same (evened_last base s t at sibling other rank es opens held kept m above same now) (evened_balance base s t at sibling other rank es opens held kept m above same now) inside inside_too
      h.whole h.rank_left h.rank_right pos h.full_left h.full_right h.fits_left h.fits_right h.between m.names

-- the root
module _ (base k : ℕ) (s u : Store) (high root key : ℕ) (was : Entry) (opens held : List ℕ) (at : ℕ) (node : Node)
    (taken : Taken base s u root key was k 0 high opens held at node) (pos : 0 < base) where
  pub root_ready : Ready u opens (was.value ∷ held) at node
  root_ready = ready base u opens (was.value ∷ held) at node.rank node.entries taken.balance taken.shrinks.names (omega (arith, taken.shrinks.rank)) node refl refl

  pub root_placed : at < length u.nodes → length node.entries ≤ 252 → Placed base u (with_node u at node) at opens (was.value ∷ held) (One at) node.rank node.entries
  root_placed inside fits = written_one base u opens (was.value ∷ held) at node.rank node.entries taken.balance taken.shrinks.names (omega (arith, taken.shrinks.rank)) node refl refl inside fits

  pub root_written : at < length u.nodes → length node.entries ≤ 252 → (0 < k → 2 ≤ length node.entries) → Removed base k s (with_node u at node) high root key was opens held at
  root_written inside fits several = root_removed base k s u high root key was opens held at node taken (with_node u at node) several (root_placed inside fits)

-- ---- a tree without entries
module _ (base : ℕ) (s : Store) (b : ℕ) (opens held : List ℕ) (pos : 0 < base) (free : count_of s b ≡ 0) (now : Balanced (with_count s b 1) (b ∷ opens) held)
    (n : Node) (r : n.rank ≡ base) (e : n.entries ≡ []) where
  abbrev none : List Entry
  none = []

  no_names : (c : ℕ) → 0 < occurrences c (values none) → MayName base (node_at (with_count s b 1) c).rank
  no_names c here = absurd (omega arith)

  pub start_ready : Ready (with_count s b 1) opens held b n
  start_ready = ready base (with_count s b 1) opens held b base none now no_names pos n r e

  pub started : b < length s.nodes → Started base s (with_node (with_count s b 1) b n) b opens held
  started inside =
      let p : Placed base (with_count s b 1) (with_node (with_count s b 1) b n) b opens held (One b) base none = written_one base (with_count s b 1) opens held b base none now no_names pos n r e inside (omega (arith, ap length e)) in
      record {
        whole = λ high. record {
          tree = subst (λ (m : Node). (m.rank ≡ base) × Ascend 0 high m.entries) (sym p.stands) (refl, omega arith);
          branches = λ z. absurd (omega arith);
        };
        content = ap (λ (m : Node). m.entries) p.stands;
        balance = p.balance;
        frame = frame_trans s (with_count s b 1) (with_node (with_count s b 1) b n) held (frame_same s (with_count s b 1) held refl) p.frame;
        stay = stay_from_last base opens opens s (with_node (with_count s b 1) b n) (last_trans base opens (b ∷ opens) opens s (with_count s b 1) (with_node (with_count s b 1) b n) (last_taken base opens s b 1 free) p.last);
      }
