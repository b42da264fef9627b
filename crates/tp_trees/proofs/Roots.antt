-- An entry that was added to a whole tree: its root stayed one, or gets another one above it.
use Rattle.std.proofs.Common.{◌≡◌, ℕ, suc, ◌+◌, ◌<◌, ◌≤◌, List, [], ◌∷◌, ◌++◌, length, refl, sym, ap, subst, ◌∙◌, arith, get_or-set_same}
use Rattle.tp_layout.specs.declared.entry.Entry.{Entry}
use Rattle.tp_layout.specs.Entries.{with_entry}
use Rattle.tp_refs.specs.Store.{MayName, Node, Store, count_of, no_node, node_at, values, with_count, with_node}
use Rattle.tp_refs.specs.Balance.{Balanced, SameBelow, occurrences}
use Rattle.tp_refs.proofs.Steps.{frame_part, frame_same, frame_trans, occurrences-append}
use Rattle.tp_refs.proofs.Moves.{reordered}
use Rattle.tp_refs.proofs.Lower.{last_from_stay, last_taken, last_trans, stay_from_last}
use Rattle.tp_trees.specs.Tree.{IsWhole, Parted, joined, least_of, pairs}
use Rattle.tp_trees.specs.Growth.{Added, Inserted, One, Placed, Two, branches}
use Rattle.tp_trees.specs.Sizes.{gathered, nodes_of}
use Rattle.tp_trees.proofs.Frames.{Below, below_same, joined_same, parted_rank}
use Rattle.tp_trees.proofs.Nodes.{branches_nodes, gathered_same, node_with}
use Rattle.tp_trees.proofs.Places.{occurrences_branches}
use Rattle.tp_trees.proofs.Insertion.{branches_joined, branches_parted}
use Rattle.tp_trees.proofs.Opened.{may_name_next}
use Rattle.tp_trees.proofs.Placing.{placed_one}

-- the root stayed one
pub inserted_one : (base k : ℕ) (s v : Store) (high root : ℕ) (x : Entry) (opens held : List ℕ) (b : ℕ) → IsWhole base k s high root → Added base s v root x k 0 high opens held (One b)
    → Inserted base k s v high root x opens held b
inserted_one base k s v high root x opens held b w a = record {
  height = k;
  higher = omega arith;
  whole = record { tree = a.grows.tree; branches = λ z. omega (arith, a.grows.full, w.branches z) };
  content = a.grows.content;
  size = omega (arith, a.size);
  balance = a.balance;
  frame = a.frame;
  stay = a.stay;
}

-- the root became two, and another one is written above them, to a block that was free
module _ (base k : ℕ) (s v : Store) (high root : ℕ) (x : Entry) (opens held : List ℕ) (b middle c top : ℕ) (n : Node)
    (a : Added base s v root x k 0 high opens held (Two b middle c))
    (free : count_of v top ≡ 0)
    (h : Balanced (with_count v top 1) (top ∷ opens) (b ∷ c ∷ held))
    (inside : top < length v.nodes)
    (rank : n.rank ≡ base + suc k) (entries : n.entries ≡ branches 0 (Two b middle c)) where
  names : (y : ℕ) → occurrences y (values n.entries) ≡ occurrences y (b ∷ c ∷ [])
  names y = ap (λ es. occurrences y (values es)) entries ∙ occurrences_branches y 0 (Two b middle c)

  pub root_balance : Balanced (with_count v top 1) (top ∷ opens) (values n.entries ++ held)
  root_balance = reordered (with_count v top 1) (top ∷ opens) (b ∷ c ∷ held) (values n.entries ++ held)
      (λ y. omega (arith, names y, occurrences-append y (values n.entries) held)) h

  parts : Parted (Below base k v) 0 high (branches 0 (Two b middle c))
  parts = branches_parted base k v 0 high (least_of (base + k)) (Two b middle c) (with_entry x (pairs k s root)) (omega (arith, a.grows.lower, a.grows.upper)) (omega arith) a.grows

  pub root_names : (y : ℕ) → 0 < occurrences y (values n.entries) → MayName n.rank (node_at v y).rank
  root_names y here = may_name_next n.rank (node_at v y).rank
      (omega (arith, rank, parted_rank base k v 0 high y (branches 0 (Two b middle c)) parts (subst (λ es. 0 < occurrences y (values es)) entries here)))

  placed : Placed base (with_count v top 1) (with_node (with_count v top 1) top n) top opens held (One top) n.rank n.entries
  placed = placed_one base (with_count v top 1) opens held top n root_balance inside (omega (arith, rank)) (omega (arith, ap length entries)) root_names

  under : (y : ℕ) → 0 < occurrences y (values (branches 0 (Two b middle c))) → SameBelow k v (with_node (with_count v top 1) top n) y
  under y here =
      frame_trans v (with_count v top 1) (with_node (with_count v top 1) top n) (values n.entries ++ held) (frame_same v (with_count v top 1) (values n.entries ++ held) refl) placed.frame y k
      (omega (arith, occurrences-append y (values n.entries) held, ap (λ es. occurrences y (values es)) entries))

  stood : node_at (with_node (with_count v top 1) top n) top ≡ record { rank = base + suc k; entries = branches 0 (Two b middle c) }
  stood = get_or-set_same v.nodes top n no_node inside ∙ (ap (λ r. record { rank = r; entries = n.entries }) rank ∙ ap (λ (es : List Entry). record { rank = base + suc k; entries = es }) entries)

  pub inserted_two : Inserted base k s (with_node (with_count v top 1) top n) high root x opens held top
  inserted_two = record {
    height = suc k;
    higher = omega arith;
    whole = record {
      tree = subst (λ (m : Node). (m.rank ≡ base + suc k) × Parted (Below base k (with_node (with_count v top 1) top n)) 0 high m.entries) (sym stood)
          (refl, below_same base k v (with_node (with_count v top 1) top n) 0 high (branches 0 (Two b middle c)) under parts);
      branches = λ z. subst (λ (m : Node). 2 ≤ length m.entries) (sym stood) (omega arith);
    };
    content =
        ap (λ (m : Node). joined (pairs k (with_node (with_count v top 1) top n)) m.entries) stood
        ∙ (joined_same base k v (with_node (with_count v top 1) top n) 0 high (branches 0 (Two b middle c)) under parts
        ∙ branches_joined base k v 0 high (least_of (base + k)) (Two b middle c) (with_entry x (pairs k s root)) a.grows);
    size =
        let w = with_node (with_count v top 1) top n in
        let kept : length (gathered (nodes_of k w) (branches 0 (Two b middle c))) ≡ length (gathered (nodes_of k v) (branches 0 (Two b middle c))) = ap (λ (xs : List ℕ). length xs) (gathered_same base k v w 0 high (branches 0 (Two b middle c)) under parts) in
        omega (arith, node_with (suc k) w top (record { rank = base + suc k; entries = branches 0 (Two b middle c) }) stood, kept, branches_nodes k v 0 (Two b middle c), a.size);
    balance = placed.balance;
    frame = frame_trans s v (with_node (with_count v top 1) top n) held a.frame
        (frame_trans v (with_count v top 1) (with_node (with_count v top 1) top n) held (frame_same v (with_count v top 1) held refl)
        (frame_part (with_count v top 1) (with_node (with_count v top 1) top n) (values n.entries ++ held) held placed.frame (λ y here. omega (arith, occurrences-append y (values n.entries) held))));
    stay = stay_from_last base opens opens s (with_node (with_count v top 1) top n)
        (last_trans base opens opens opens s v (with_node (with_count v top 1) top n) (last_from_stay base opens s v a.stay)
        (last_trans base opens (top ∷ opens) opens v (with_count v top 1) (with_node (with_count v top 1) top n) (last_taken base opens v top 1 free) placed.last));
  }
