-- An entry that is put into one half of a node.
use Rattle.std.proofs.Common.{◌≡◌, ℕ, zero, suc, ◌+◌, ◌<◌, ◌≤◌, ◌^◌, List, [], ◌∷◌, ◌++◌, length, get_or, map, refl, sym, ap, subst, ◌∙◌, arith, inl, inr, rules, Some, None, Bool, true, false}
use Rattle.std.proofs.lemmas.List.{length-map, map-append}
use Rattle.tp_model.specs.Disk.{DiskState}
use Rattle.tp_layout.specs.Node.{is_long, least_entries, most_level}
use Rattle.tp_layout.specs.declared.kind.TreeKind.{TreeKind}
use Rattle.tp_layout.specs.declared.kind.TreeKind.TheVariants.{Device, Mapping}
use Rattle.tp_refs.specs.Store.{Store, children, count_of, first_named, moved_by, node_from, rank_of, values, with_count, with_node}
use Rattle.tp_refs.proofs.Lower.{last_taken}
use Rattle.tp_trees.specs.Tree.{blank, least_of}
use Rattle.tp_trees.specs.Growth.{One, Two}
use Rattle.tp_trees.proofs.Trees.{least_at_device_leaf, least_elsewhere}
use Rattle.tp_trees.proofs.Placing.{both_halves, placed_one, placed_two, ready_names, ready_one}
use Rattle.tp_tm.specs.Tm.{Tm}
use Rattle.tp_tm.specs.Holds.{Holds}
use Rattle.tp_tm.proofs.Releasing.{rank_positive}
use Rattle.tp_tm.proofs.Standing.{few_entries}
use Rattle.tp_btree.specs.Inserts.{AreWritten, CanPlace, IsWritten}
use Rattle.std.proofs.lemmas.Bool.{cases_eq}
use Rattle.tp_layout.specs.Node.{IsNode, NodeValue}
use Rattle.tp_layout.specs.Entries.{Ascend, first_key, found, with_entry}
use Rattle.tp_layout.specs.declared.entry.Entry.{Entry}
use Rattle.tp_layout.proofs.Ordered.{found_here, found_later, found_right}
use Rattle.tp_nodes.proofs.GoodNodes.{ascend_node}
use Rattle.tp_trees.proofs.Placing.{first_key_head, put_left_half, put_right_half}

pub some_none : (e : Entry) → Some e ≡ None → ⊥
some_none e h = search (rules, h)

pub none_left : (q : ℕ) (es fs : List Entry) → found q (es ++ fs) ≡ None → found q es ≡ None
none_left q [] fs h = refl
none_left q (e ∷ es) fs h =
    elim (cases_eq e.key q) [
      | inl s ↦ absurd (some_none e (sym (found_here q e (es ++ fs) s) ∙ h))
      | inr d ↦ found_later q e es d ∙ none_left q es fs (sym (found_later q e (es ++ fs) d) ∙ h)
    ]

pub none_right : (q : ℕ) (es fs : List Entry) → found q (es ++ fs) ≡ None → found q fs ≡ None
none_right q es fs h = sym (found_right q es fs (none_left q es fs h)) ∙ h

module _ (n : NodeValue) (good : IsNode n) (x d : Entry) (left right : List Entry) (whole : left ++ right ≡ n.entries) (some : 0 < length right) where
  up : Ascend 0 (2 ^ 64) (left ++ right)
  up = subst (Ascend 0 (2 ^ 64)) (sym whole) (ascend_node n good)

  pub halves_left : x.key < (get_or right 0 d).key → with_entry x left ++ right ≡ with_entry x n.entries
  halves_left l = put_left_half 0 (2 ^ 64) x left right up (omega (arith, l, first_key_head right (2 ^ 64) d some)) ∙ ap (with_entry x) whole

  pub halves_right : (get_or right 0 d).key ≤ x.key → left ++ with_entry x right ≡ with_entry x n.entries
  halves_right g = put_right_half 0 (2 ^ 64) x left right up (omega (arith, g, first_key_head right (2 ^ 64) d some)) ∙ ap (with_entry x) whole

pub least_some : (long : Bool) → 0 < least_entries long
least_some true = omega arith
least_some false = omega arith

-- the least fill of a node, by its rank
pub least_is : (kind : TreeKind) (level : ℕ) → level ≤ most_level kind → least_of (rank_of kind level) ≡ least_entries (is_long kind level)
least_is Mapping level low = least_elsewhere (rank_of Mapping level) (λ e. omega (arith, e))
least_is Device zero low = least_at_device_leaf 5 refl
least_is Device (suc level) low = least_elsewhere (5 + suc level) (λ e. omega (arith, e))

-- ---- a node's entries in its block, or in that and a second one

pub lands_one : (m : ℕ) (t : Tm) (before : DiskState) (u : Tm) (after : DiskState) (n : NodeValue) → t.geometry.metadata_blocks ≡ m → n.own < m → IsNode n → IsWritten m t before u after n → CanPlace m t before u after n (One n.own)
lands_one m t before u after n size inside good w base opens held s h names =
    let node = node_from m n in
    let pos : 0 < node.rank = rank_positive n.kind n.level in
    let ready : Holds t before (n.own ∷ opens) (children node ++ held) s = record { stands = h.stands; balanced = ready_one s opens held n.own node h.balanced pos } in
    record {
      after = with_node s n.own node;
      holds = w opens held s ready (ready_names s node pos names);
      placed = placed_one base s opens held n.own node h.balanced (omega (arith, inside, size, h.stands.sized)) pos (few_entries m n good) names;
    }

pub first_moved : (f : ℕ) (es : List Entry) (high middle : ℕ) (d : Entry) → 0 < length es → (get_or es 0 d).key ≡ middle → first_key (map (moved_by f) es) high ≡ middle
first_moved f [] high middle d some e = absurd (omega arith)
first_moved f (x ∷ es) high middle d some e = e

abbrev pub upper_of : NodeValue → ℕ → List Entry → NodeValue
upper_of n own right = record { kind = n.kind; level = n.level; own = own; entries = right }

abbrev pub lower_of : NodeValue → List Entry → NodeValue
lower_of n left = record { kind = n.kind; level = n.level; own = n.own; entries = left }

module _
    (m : ℕ) (t0 t : Tm) (before : DiskState) (u : Tm) (after : DiskState) (n : NodeValue) (left right : List Entry) (other middle : ℕ)
    (size0 : t0.geometry.metadata_blocks ≡ m) (inside : n.own < m) (inside_too : other < m)
    (whole : left ++ right ≡ n.entries) (low : n.level ≤ most_level n.kind)
    (full : least_entries (is_long n.kind n.level) ≤ length left) (full_too : least_entries (is_long n.kind n.level) ≤ length right)
    (good : IsNode (lower_of n left)) (good_too : IsNode (upper_of n other right))
    (at : (get_or right 0 blank).key ≡ middle)
    (free : (opens held : List ℕ) (s : Store) → Holds t0 before opens held s → count_of s other ≡ 0)
    (taken : (opens held : List ℕ) (s : Store) → Holds t0 before opens held s → Holds t before (other ∷ opens) held (with_count s other 1))
    (w : AreWritten m t before u after (lower_of n left) (upper_of n other right)) where
  pub lands_two : CanPlace m t0 before u after n (Two n.own middle other)
  lands_two base opens held s h names =
      let f = first_named m n.kind n.level in
      let node = node_from m n in
      let lo = node_from m (lower_of n left) in
      let up = node_from m (upper_of n other right) in
      let pos : 0 < node.rank = rank_positive n.kind n.level in
      let es : node.entries ≡ lo.entries ++ up.entries = ap (map (moved_by f)) (sym whole) ∙ map-append (moved_by f) left right in
      let took = taken (n.own ∷ opens) (values node.entries ++ held) s h in
      let sized : length s.nodes ≡ m = h.stands.sized ∙ size0 in
      let least : least_of node.rank ≡ least_entries (is_long n.kind n.level) = least_is n.kind n.level low in
      let b = both_halves base s (with_count s other 1) opens held n.own other middle node.rank lo up node.entries (record { nodes = refl; kept = refl }) (last_taken base (n.own ∷ opens) s other 1 (free (n.own ∷ opens) (values node.entries ++ held) s h)) took.balanced
      (omega (arith, inside, sized)) (omega (arith, inside_too, sized)) es refl refl pos (omega (arith, least, full, length-map left (moved_by f))) (omega (arith, least, full_too, length-map right (moved_by f)))
      (few_entries m (lower_of n left) good) (few_entries m (upper_of n other right) good_too)
      (λ high. first_moved f right high middle blank (omega (arith, full_too, least_some (is_long n.kind n.level))) at) names in
      record {
        after = with_node (with_node (with_count s other 1) other up) n.own lo;
        holds = w opens held (with_count s other 1) (record { stands = took.stands; balanced = b.first }) b.first_names b.second b.second_names;
        placed = placed_two base s (with_count s other 1) opens held n.own other middle node.rank lo up node.entries (record { nodes = refl; kept = refl }) (last_taken base (n.own ∷ opens) s other 1 (free (n.own ∷ opens) (values node.entries ++ held) s h)) took.balanced
            (omega (arith, inside, sized)) (omega (arith, inside_too, sized)) es refl refl pos (omega (arith, least, full, length-map left (moved_by f))) (omega (arith, least, full_too, length-map right (moved_by f)))
            (few_entries m (lower_of n left) good) (few_entries m (upper_of n other right) good_too)
            (λ high. first_moved f right high middle blank (omega (arith, full_too, least_some (is_long n.kind n.level))) at) names;
      }

-- two nodes, one after the other
pub two_written : (m : ℕ) (t t1 : Tm) (d0 d1 : DiskState) (u : Tm) (d2 : DiskState) (lo up : NodeValue) → IsWritten m t d0 t1 d1 up → IsWritten m t1 d1 u d2 lo → AreWritten m t d0 u d2 lo up
two_written m t t1 d0 d1 u d2 lo up w1 w2 opens held s h names balanced names2 =
    let node = node_from m up in
    let mid = w1 (lo.own ∷ opens) (children (node_from m lo) ++ held) s h names in
    w2 opens (up.own ∷ held) (with_node s up.own node) (record { stands = mid.stands; balanced = balanced }) names2
