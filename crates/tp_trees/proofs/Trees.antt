-- Parts of trees.
use Rattle.std.proofs.Common.{◌≡◌, ◌≢◌, ℕ, zero, suc, ◌+◌, ◌-◌, ◌<◌, ◌≤◌, List, [], ◌∷◌, ◌++◌, length, get_or, take, drop, refl, sym, ap, subst, ◌∙◌, arith, inl, inr, append_assoc, take-append-drop, drop-cons}
use Rattle.std.proofs.lemmas.Bool.{cases_lt, cases_eq}
use Rattle.std.proofs.lemmas.Bool.Decides.{nat_tests}
use Rattle.std.proofs.lemmas.List.{get_or_past}
use Rattle.tp_layout.specs.declared.entry.Entry.{Entry}
use Rattle.tp_layout.specs.Entries.{rank_of, found, first_key, Ascend}
use Rattle.tp_layout.proofs.Ordered.{rank_of_yes, rank_of_no, ascend-append, found_below, found_above, found_right, found_left}
use Rattle.tp_refs.specs.Store.{Node, Store, children, named_by, node_at, no_node, values}
use Rattle.tp_refs.specs.Balance.{occurrences}
use Rattle.tp_refs.proofs.Names.{get-values, length-values, occurrences_here}
use Rattle.tp_trees.specs.Tree.{Parted, joined, IsTree, pairs, least_of, most_of, blank, led_to}

module _ (P : ℕ → ℕ → ℕ → Type 0) where
  pub parted_ends : (low high : ℕ) (es : List Entry) → Parted P low high es → low ≤ high
  parted_ends low high [] h = omega (arith, h)
  parted_ends low high (e ∷ es) h = omega (arith, h.1, parted_ends (first_key es high) high es h.3)

  pub first_parted : (low high : ℕ) (es : List Entry) → Parted P low high es → first_key es high ≡ low
  first_parted low high [] h = sym h
  first_parted low high (e ∷ es) h = h.0

  pub first_key-append : (high : ℕ) (es fs : List Entry) → first_key (es ++ fs) high ≡ first_key es (first_key fs high)
  first_key-append high [] fs = refl
  first_key-append high (e ∷ es) fs = refl

  pub parted-append : (low mid high : ℕ) (es fs : List Entry) → Parted P low mid es → Parted P mid high fs → Parted P low high (es ++ fs)
  parted-append low mid high [] fs h k = subst (λ n. Parted P n high fs) (sym h) k
  parted-append low mid high (e ∷ es) fs h k =
      let f : first_key (es ++ fs) high ≡ first_key es mid = first_key-append high es fs ∙ ap (first_key es) (first_parted mid high fs k) in (
        h.0,
        subst (λ n. low < n) (sym f) h.1,
        subst (λ n. P low n e.value) (sym f) h.2,
        subst (λ n. Parted P n high (es ++ fs)) (sym f) (parted-append (first_key es mid) mid high es fs h.3 k),
      )

  pub parted_split : (low high : ℕ) (es fs : List Entry) → Parted P low high (es ++ fs) → Parted P low (first_key fs high) es × Parted P (first_key fs high) high fs
  parted_split low high [] fs h = (sym (first_parted low high fs h), subst (λ n. Parted P n high fs) (sym (first_parted low high fs h)) h)
  parted_split low high (e ∷ es) fs h =
      let f : first_key (es ++ fs) high ≡ first_key es (first_key fs high) = first_key-append high es fs in
      let r : Parted P (first_key (es ++ fs) high) (first_key fs high) es × Parted P (first_key fs high) high fs = parted_split (first_key (es ++ fs) high) high es fs h.3 in
      ((h.0, subst (λ n. low < n) f h.1, subst (λ n. P low n e.value) f h.2, subst (λ n. Parted P n (first_key fs high) es) f r.0), r.1)

-- the entry whose interval holds a key
pub record Chosen (P : ℕ → ℕ → ℕ → Type 0) (low high q : ℕ) (es : List Entry) (i : ℕ) : Type 0 where
  pub at : rank_of q es ≡ suc i
  pub within : i < length es
  pub front : Parted P low (get_or es i blank).key (take i es)
  pub ordered : (get_or es i blank).key < first_key (drop (suc i) es) high
  pub child : P (get_or es i blank).key (first_key (drop (suc i) es) high) (get_or es i blank).value
  pub rest : Parted P (first_key (drop (suc i) es) high) high (drop (suc i) es)
  pub lower : (get_or es i blank).key ≤ q
  pub upper : q < first_key (drop (suc i) es) high

pub choose : (P : ℕ → ℕ → ℕ → Type 0) (low high q : ℕ) (es : List Entry) → Parted P low high es → low ≤ q → q < high → (i : ℕ) × Chosen P low high q es i
choose P low high q [] h l u = absurd (omega (arith, h))
choose P low high q (e ∷ es) h l u =
    let a : rank_of q (e ∷ es) ≡ suc (rank_of q es) = rank_of_yes q e es (omega (arith, h.0)) in
    elim (cases_lt q (first_key es high)) [
      | inl less ↦ (
        0,
        record {
          at = a ∙ ap suc (none_yet high q es less);
          within = omega arith;
          front = sym h.0;
          ordered = omega (arith, h.0, h.1);
          child = subst (λ n. P n (first_key es high) e.value) (sym h.0) h.2;
          rest = h.3;
          lower = omega (arith, h.0);
          upper = less;
        },
      )
      | inr more ↦
          let r = choose P (first_key es high) high q es h.3 more u in (
            suc r.0,
            record {
              at = a ∙ ap suc r.1.at;
              within = omega (arith, r.1.within);
              front = (h.0, first_less es high low r.0 h.1 r.1.within, first_child es high r.0 h.2 r.1.within, first_front es high r.0 r.1.within r.1.front);
              ordered = r.1.ordered;
              child = r.1.child;
              rest = r.1.rest;
              lower = r.1.lower;
              upper = r.1.upper;
            },
          )
    ]
  where
    none_yet : (high q : ℕ) (es : List Entry) → q < first_key es high → rank_of q es ≡ 0
    none_yet high q [] h = refl
    none_yet high q (e ∷ es) h = rank_of_no q e es h

    front_key : (es : List Entry) (high i : ℕ) → i < length es → first_key (take i es) (get_or es i blank).key ≡ first_key es high
    front_key [] high i h = absurd (omega arith)
    front_key (e ∷ es) high zero h = refl
    front_key (e ∷ es) high (suc i) h = refl

    first_less : (es : List Entry) (high low i : ℕ) → low < first_key es high → i < length es → low < first_key (take i es) (get_or es i blank).key
    first_less es high low i h w = subst (λ n. low < n) (sym (front_key es high i w)) h

    first_child : (es : List Entry) (high i : ℕ) → P low (first_key es high) e.value → i < length es → P low (first_key (take i es) (get_or es i blank).key) e.value
    first_child es high i h w = subst (λ n. P low n e.value) (sym (front_key es high i w)) h

    first_front : (es : List Entry) (high i : ℕ) → i < length es → Parted P (first_key es high) (get_or es i blank).key (take i es) → Parted P (first_key (take i es) (get_or es i blank).key) (get_or es i blank).key (take i es)
    first_front es high i w h = subst (λ n. Parted P n (get_or es i blank).key (take i es)) (sym (front_key es high i w)) h

-- a list as what is before a place, what is at it, and what is behind it
pub around : (es : List Entry) (i : ℕ) → i < length es → es ≡ take i es ++ (get_or es i blank ∷ drop (suc i) es)
around es i h = sym (take-append-drop i es) ∙ ap (λ xs. take i es ++ xs) (drop-cons es i blank h)

pub joined-append : (f : ℕ → List Entry) (es fs : List Entry) → joined f (es ++ fs) ≡ joined f es ++ joined f fs
joined-append f [] fs = refl
joined-append f (e ∷ es) fs = ap (λ xs. f e.value ++ xs) (joined-append f es fs) ∙ sym (append_assoc (f e.value) (joined f es) (joined f fs))

-- the content of parts in order is in order
pub ascend_joined : (P : ℕ → ℕ → ℕ → Type 0) (f : ℕ → List Entry) (low high : ℕ) (es : List Entry) → ((from to c : ℕ) → P from to c → Ascend from to (f c)) → Parted P low high es → Ascend low high (joined f es)
ascend_joined P f low high [] up h = omega (arith, h)
ascend_joined P f low high (e ∷ es) up h = ascend-append low (first_key es high) high (f e.value) (joined f es) (up low (first_key es high) e.value h.2) (ascend_joined P f (first_key es high) high es up h.3)

pub ascend_tree : (base k : ℕ) (s : Store) (low high b : ℕ) → IsTree base k s low high b → Ascend low high (pairs k s b)
ascend_tree base zero s low high b h = h.1
ascend_tree base (suc k) s low high b h =
    ascend_joined (λ from to c. IsTree base k s from to c × (least_of (base + k) ≤ length (node_at s c).entries)) (pairs k s) low high (node_at s b).entries (λ from to c t. ascend_tree base k s from to c t.0) h.1

-- the content of a node by the entry whose interval holds a key
pub joined_around : (f : ℕ → List Entry) (es : List Entry) (i : ℕ) → i < length es → joined f es ≡ joined f (take i es) ++ (f (get_or es i blank).value ++ joined f (drop (suc i) es))
joined_around f es i h = ap (joined f) (around es i h) ∙ joined-append f (take i es) (get_or es i blank ∷ drop (suc i) es)

-- the keys of a node ascend
pub parted_ascend : (P : ℕ → ℕ → ℕ → Type 0) (low high : ℕ) (es : List Entry) → Parted P low high es → Ascend low high es
parted_ascend P low high [] h = omega (arith, h)
parted_ascend P low high (e ∷ es) h = (omega (arith, h.0), first_above es (first_key es high) high (omega (arith, h.0, h.1)) (parted_ascend P (first_key es high) high es h.3) refl)
  where
    first_above : (es : List Entry) (from high : ℕ) → suc e.key ≤ from → Ascend from high es → first_key es high ≡ from → Ascend (suc e.key) high es
    first_above [] from high l h f = omega (arith, h)
    first_above (x ∷ xs) from high l h f = (omega (arith, f), h.1)

pub node_ascend : (base k : ℕ) (s : Store) (low high b : ℕ) → IsTree base k s low high b → Ascend low high (node_at s b).entries
node_ascend base zero s low high b h = h.1
node_ascend base (suc k) s low high b h =
    parted_ascend (λ from to c. IsTree base k s from to c × (least_of (base + k) ≤ length (node_at s c).entries)) low high (node_at s b).entries h.1

-- the part of an inner node that a key leads to
pub record Descent (base k : ℕ) (s : Store) (low high b q : ℕ) : Type 0 where
  pub i : ℕ
  pub below : ℕ
  pub deeper : k ≡ suc below
  pub content : pairs k s b ≡ joined (pairs below s) (node_at s b).entries
  pub chosen : Chosen (λ from to c. IsTree base below s from to c × (least_of (base + below) ≤ length (node_at s c).entries)) low high q (node_at s b).entries i
  pub same_found : found q (pairs k s b) ≡ found q (pairs below s (get_or (node_at s b).entries i blank).value)
  pub lower_rank : (node_at s (get_or (node_at s b).entries i blank).value).rank < (node_at s b).rank

pub tree_rank : (base k : ℕ) (s : Store) (low high b : ℕ) → IsTree base k s low high b → (node_at s b).rank ≡ base + k
tree_rank base zero s low high b h = omega (arith, h.0)
tree_rank base (suc k) s low high b h = h.0

pub descend : (base k : ℕ) (s : Store) (low high b q : ℕ) → IsTree base k s low high b → (node_at s b).rank ≢ base → low ≤ q → q < high → Descent base k s low high b q
descend base zero s low high b q h ne l u = absurd (ne h.0)
descend base (suc k) s low high b q h ne l u =
    let es = (node_at s b).entries in
    let r = choose (λ from to c. IsTree base k s from to c × (least_of (base + k) ≤ length (node_at s c).entries)) low high q es h.1 l u in
    let i = r.0 in
    let c = r.1 in
    let up = λ (from to d : ℕ) (t : IsTree base k s from to d × (least_of (base + k) ≤ length (node_at s d).entries)). ascend_tree base k s from to d t.0 in
    let fore : Ascend low (get_or es i blank).key (joined (pairs k s) (take i es)) = ascend_joined _ (pairs k s) low (get_or es i blank).key (take i es) up c.front in
    let aft : Ascend (first_key (drop (suc i) es) high) high (joined (pairs k s) (drop (suc i) es)) = ascend_joined _ (pairs k s) (first_key (drop (suc i) es) high) high (drop (suc i) es) up c.rest in
    record {
      i = i;
      below = k;
      deeper = refl;
      content = refl;
      chosen = c;
      same_found =
          ap (found q) (joined_around (pairs k s) es i c.within)
          ∙ (found_right q (joined (pairs k s) (take i es)) (pairs k s (get_or es i blank).value ++ joined (pairs k s) (drop (suc i) es)) (found_above low (get_or es i blank).key q (joined (pairs k s) (take i es)) fore c.lower)
          ∙ found_left q (pairs k s (get_or es i blank).value) (joined (pairs k s) (drop (suc i) es)) (found_below (first_key (drop (suc i) es) high) high q (joined (pairs k s) (drop (suc i) es)) aft c.upper));
      lower_rank = omega (arith, tree_rank base k s (get_or es i blank).key (first_key (drop (suc i) es) high) (get_or es i blank).value c.child.0, h.0);
    }

-- a leaf's content is its entries
pub leaf_pairs : (base k : ℕ) (s : Store) (low high b : ℕ) → IsTree base k s low high b → (node_at s b).rank ≡ base → k ≡ 0
leaf_pairs base k s low high b h e = omega (arith, tree_rank base k s low high b h)

-- a node of a rank is one of the store's
pub rank_inside : (s : Store) (b : ℕ) → 0 < (node_at s b).rank → b < length s.nodes
rank_inside s b h =
    elim (cases_lt b (length s.nodes)) [
      | inl l ↦ l
      | inr g ↦ let e : (node_at s b).rank ≡ 0 = ap (λ (n : Node). n.rank) (get_or_past s.nodes b no_node g) in absurd (omega arith)
    ]

-- an inner node stands above another level
pub inner_height : (base k : ℕ) (s : Store) (low high b : ℕ) → IsTree base k s low high b → (node_at s b).rank ≢ base → (below : ℕ) × (k ≡ suc below)
inner_height base zero s low high b h ne = absurd (ne h.0)
inner_height base (suc k) s low high b h ne = (k, refl)

-- ---- the child of an inner node that a key leads to

-- it is a tree whose interval holds the key, and has what the whole has there
pub record Led (base k : ℕ) (s : Store) (low high b q : ℕ) : Type 0 where
  pub from : ℕ
  pub to : ℕ
  pub tree : IsTree base k s from to (led_to q (node_at s b).entries)
  pub full : least_of (base + k) ≤ length (node_at s (led_to q (node_at s b).entries)).entries
  pub lower : from ≤ q
  pub upper : q < to
  pub placed : 0 < rank_of q (node_at s b).entries
  pub child : 0 < occurrences (led_to q (node_at s b).entries) (children (node_at s b))
  pub rank : (node_at s b).rank ≡ suc (node_at s (led_to q (node_at s b).entries)).rank
  pub same_found : found q (pairs (suc k) s b) ≡ found q (pairs k s (led_to q (node_at s b).entries))

-- where a key leads to, by the place of its entry
pub led_by_place : (q i : ℕ) (es : List Entry) → rank_of q es ≡ suc i → led_to q es ≡ (get_or es i blank).value
led_by_place q i es h = let e : rank_of q es - 1 ≡ i = omega (arith, h) in ap (λ n. (get_or es n blank).value) e

-- what a node of a rank names is the values of its entries
pub children_values : (n : Node) → 0 < n.rank → children n ≡ values n.entries
children_values n h = go n.rank n.entries h where
  go : (rank : ℕ) (es : List Entry) → 0 < rank → named_by rank es ≡ values es
  go zero es h = absurd (omega arith)
  go (suc rank) es h = refl

-- the value of an entry stands among the values
pub value_here : (es : List Entry) (i : ℕ) → i < length es → 0 < occurrences (get_or es i blank).value (values es)
value_here es i h = subst (λ x. 0 < occurrences x (values es)) (get-values es i) (occurrences_here (values es) i (omega (arith, length-values es)))

pub led : (base k : ℕ) (s : Store) (low high b q : ℕ) → IsTree base (suc k) s low high b → low ≤ q → q < high → Led base k s low high b q
led base k s low high b q h l u =
    let es = (node_at s b).entries in
    let d = descend base (suc k) s low high b q h (λ e. absurd (omega (arith, e, h.0))) l u in
    let same : d.below ≡ k = omega (arith, d.deeper) in
    go d.below same d.i d.chosen d.same_found
  where
    go : (below : ℕ) → below ≡ k → (i : ℕ)
        → Chosen (λ from to c. IsTree base below s from to c × (least_of (base + below) ≤ length (node_at s c).entries)) low high q (node_at s b).entries i
        → found q (pairs (suc k) s b) ≡ found q (pairs below s (get_or (node_at s b).entries i blank).value)
        → Led base k s low high b q
    go below same i c f =
        let es = (node_at s b).entries in
        let at : (get_or es i blank).value ≡ led_to q es = sym (led_by_place q i es c.at) in
        let child : IsTree base k s (get_or es i blank).key (first_key (drop (suc i) es) high) (led_to q es) × (least_of (base + k) ≤ length (node_at s (led_to q es)).entries) =
        subst (λ n. IsTree base n s (get_or es i blank).key (first_key (drop (suc i) es) high) (led_to q es) × (least_of (base + n) ≤ length (node_at s (led_to q es)).entries)) same
        (subst (λ x. IsTree base below s (get_or es i blank).key (first_key (drop (suc i) es) high) x × (least_of (base + below) ≤ length (node_at s x).entries)) at c.child) in
        record {
          from = (get_or es i blank).key;
          to = first_key (drop (suc i) es) high;
          tree = child.0;
          full = child.1;
          lower = c.lower;
          upper = c.upper;
          placed = omega (arith, c.at);
          child = subst (λ xs. 0 < occurrences (led_to q es) xs) (sym (children_values (node_at s b) (omega (arith, h.0)))) (subst (λ x. 0 < occurrences x (values es)) at (value_here es i c.within));
          rank = omega (arith, h.0, tree_rank base k s (get_or es i blank).key (first_key (drop (suc i) es) high) (led_to q es) child.0);
          same_found = f ∙ (ap (λ x. found q (pairs below s x)) at ∙ ap (λ n. found q (pairs n s (led_to q es))) same);
        }

-- the same by the rank of the node alone
pub led_inner : (base k : ℕ) (s : Store) (low high b q : ℕ) → IsTree base k s low high b → (node_at s b).rank ≢ base → low ≤ q → q < high
    → (below : ℕ) × (k ≡ suc below) × Led base below s low high b q
led_inner base zero s low high b q h ne l u = absurd (ne h.0)
led_inner base (suc k) s low high b q h ne l u = (k, refl, led base k s low high b q h l u)

-- ---- heights and fills by the rank

-- a mapping tree has at most 3 levels above the leaves, as its ranks are 1 to 4; the device tree at most 2, its ranks are 5 to 7
pub mapping_height : (k : ℕ) (s : Store) (low high b : ℕ) → IsTree 1 k s low high b → (node_at s b).rank < 5 → k ≤ 3
mapping_height k s low high b h few = omega (arith, tree_rank 1 k s low high b h)

pub device_height : (k : ℕ) (s : Store) (low high b : ℕ) → IsTree 5 k s low high b → (node_at s b).rank < 8 → k ≤ 2
device_height k s low high b h few = omega (arith, tree_rank 5 k s low high b h)

pub least_at_device_leaf : (rank : ℕ) → rank ≡ 5 → least_of rank ≡ 63
least_at_device_leaf rank h = grind (arith, nat_tests)

pub least_elsewhere : (rank : ℕ) → rank ≢ 5 → least_of rank ≡ 126
least_elsewhere rank h = grind (arith, nat_tests)

pub most_at_device_leaf : (rank : ℕ) → rank ≡ 5 → most_of rank ≡ 126
most_at_device_leaf rank h = grind (arith, nat_tests)

pub most_elsewhere : (rank : ℕ) → rank ≢ 5 → most_of rank ≡ 252
most_elsewhere rank h = grind (arith, nat_tests)

-- two halves of a full node are not too small, and two nodes too small for one another fit into one
pub most_is_twice_least : (rank : ℕ) → most_of rank ≡ least_of rank + least_of rank
most_is_twice_least rank =
    elim (cases_eq rank 5) [
      | inl e ↦ omega (arith, most_at_device_leaf rank e, least_at_device_leaf rank e)
      | inr n ↦ omega (arith, most_elsewhere rank n, least_elsewhere rank n)
    ]

pub least_positive : (rank : ℕ) → 63 ≤ least_of rank
least_positive rank =
    elim (cases_eq rank 5) [
      | inl e ↦ omega (arith, least_at_device_leaf rank e)
      | inr n ↦ omega (arith, least_elsewhere rank n)
    ]

pub most_fits : (rank : ℕ) → most_of rank ≤ 252
most_fits rank =
    elim (cases_eq rank 5) [
      | inl e ↦ omega (arith, most_at_device_leaf rank e)
      | inr n ↦ omega (arith, most_elsewhere rank n)
    ]
