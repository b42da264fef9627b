-- What a look-up tells, from what it tells below the child that the key leads to.
use Rattle.std.proofs.Common.{◌≡◌, ◌≢◌, ℕ, zero, suc, ◌+◌, ◌<◌, ◌≤◌, List, length, get_or, refl, sym, ap, subst, ◌∙◌, arith, Bool, true, false}
use Rattle.std.specs.Prelude.{Option, Some, None, nat_lt, ◌||◌}
use Rattle.tp_model.specs.Disk.{DiskState}
use Rattle.tp_layout.specs.Entries.{Ascend, found}
use Rattle.tp_layout.specs.Entries as entries
use Rattle.tp_layout.specs.declared.entry.Entry.{Entry}
use Rattle.tp_layout.specs.declared.kind.TreeKind.{TreeKind}
use Rattle.tp_layout.specs.declared.kind.TreeKind.TheVariants.{Device, Mapping}
use Rattle.tp_layout.proofs.Ordered.{found_at_rank, found_none_at_rank, found_none_first}
use Rattle.tp_refs.specs.Store.{Store, children, count_of, first_named, moved_by, node_at}
use Rattle.tp_refs.specs.Balance.{occurrences}
use Rattle.tp_refs.proofs.Steps.{child_closed, child_live, live_below}
use Rattle.tp_trees.specs.Tree.{IsTree, blank, is_shared_path, led_to, pairs}
use Rattle.tp_trees.proofs.Trees.{Led, children_values, led_by_place, led_inner, rank_inside, tree_rank, value_here}
use Rattle.tp_tm.specs.Tm.{Tm, counts_now}
use Rattle.tp_tm.specs.Holds.{IsRankOf}
use Rattle.tp_btree.specs.declared.look_up.Found.{Found}
use Rattle.tp_btree.specs.declared.step.NodeStep.{NodeStep}
use Rattle.tp_btree.specs.Trees.{IsLast, IsStep, StandsBelow, Told, base_of}
use Rattle.tp_btree.proofs.Steps.{ranked}

or_assoc : (a b c : Bool) → ((a || b) || c) ≡ (a || (b || c))
or_assoc true b c = refl
or_assoc false b c = refl

pub first_none : (m : ℕ) (kind : TreeKind) (level : ℕ) → 0 < level → first_named m kind level ≡ 0
first_none m Mapping zero h = absurd (omega arith)
first_none m Mapping (suc level) h = refl
first_none m Device level h = refl

pub base_positive : (kind : TreeKind) → 0 < base_of kind
base_positive Mapping = omega arith
base_positive Device = omega arith

pub tree_ranked : (t : Tm) (disk : DiskState) (kind : TreeKind) (opens held : List ℕ) (s : Store) (k low high x : ℕ) → StandsBelow t disk kind opens held s k low high x → IsRankOf kind (node_at s x).rank
tree_ranked t disk kind opens held s k low high x st = ranked kind k (node_at s x).rank (tree_rank (base_of kind) k s low high x st.tree) st.levels

pub tree_low : (t : Tm) (disk : DiskState) (kind : TreeKind) (opens held : List ℕ) (s : Store) (k low high x top : ℕ) → StandsBelow t disk kind opens held s k low high x → k ≤ top
    → (node_at s x).rank ≤ base_of kind + top
tree_low t disk kind opens held s k low high x top st low_enough = omega (arith, tree_rank (base_of kind) k s low high x st.tree, low_enough)

module _
    (t : Tm) (disk : DiskState) (kind : TreeKind) (opens held : List ℕ) (s : Store) (k low high x key : ℕ)
    (st : StandsBelow t disk kind opens held s k low high x)
    (l : low ≤ key) (u : key < high) (step : NodeStep) (is : IsStep t.geometry.metadata_blocks kind s key x step) where
  abbrev m : ℕ
  m = t.geometry.metadata_blocks

  abbrev es : List Entry
  es = (node_at s x).entries

  abbrev child : ℕ
  child = led_to key es

  pub level_is : step.level ≡ k
  level_is = omega (arith, is.rank, tree_rank (base_of kind) k s low high x st.tree)

  rank_is : (node_at s x).rank ≡ base_of kind + k
  rank_is = tree_rank (base_of kind) k s low high x st.tree

  pub inner : 0 < step.level → (below : ℕ) × (k ≡ suc below) × Led (base_of kind) below s low high x key
  inner more = led_inner (base_of kind) k s low high x key st.tree (λ e. absurd (omega (arith, e, rank_is, level_is, more))) l u

  last : (o : Option Entry) → step.entry ≡ o → IsLast m kind step.level key es o
  last o e = subst (IsLast m kind step.level key es) e is.entry

  pub some_inner : step.entry ≡ None → 0 < step.level → ⊥
  some_inner e more = let r = inner more in omega (arith, last None e, r.2.placed)

  pub child_is : (e : Entry) → step.entry ≡ Some e → 0 < step.level → e.value ≡ child
  child_is e at more =
      let q = last (Some e) at in
      let f : first_named m kind step.level ≡ 0 = first_none m kind step.level more in
      let v : (get_or es q.0 blank).value ≡ first_named m kind step.level + e.value = ap (λ (y : Entry). y.value) q.3 in
      omega (arith, v, f, led_by_place key q.0 es q.1)

  pub child_stands : (below : ℕ) → k ≡ suc below → (led : Led (base_of kind) below s low high x key) → StandsBelow t disk kind opens held s below led.from led.to child
  child_stands below deeper led = record {
    holds = st.holds;
    tree = led.tree;
    levels = omega (arith, st.levels, deeper);
    live = child_live s opens held x child st.holds.balanced st.live st.closed led.child;
    closed = child_closed s opens held x child st.holds.balanced st.live st.closed led.child;
  }

  pub child_inside : 0 < step.level → child < m
  child_inside more =
      let r = inner more in
      omega (arith, st.holds.stands.sized, rank_inside s child (omega (arith, base_positive kind, tree_rank (base_of kind) r.0 s r.2.from r.2.to child r.2.tree)))

  here_is : (above here : Bool) → here ≡ (above || nat_lt 1 (get_or (counts_now t) x 0)) → here ≡ (above || nat_lt 1 (count_of s x))
  here_is above here e = e ∙ ap (λ n. above || nat_lt 1 n) (sym (ap (λ c. get_or c x 0) st.holds.stands.counts))

  pub path_inner : (above here : Bool) → here ≡ (above || nat_lt 1 (get_or (counts_now t) x 0)) → (below : ℕ) → k ≡ suc below
      → (here || is_shared_path below s key child) ≡ (above || is_shared_path k s key x)
  path_inner above here e below deeper =
      ap (λ b. b || is_shared_path below s key child) (here_is above here e)
      ∙ (or_assoc above (nat_lt 1 (count_of s x)) (is_shared_path below s key child) ∙ ap (λ j. above || is_shared_path j s key x) (sym deeper))

  pub told_inner : (above here : Bool) → here ≡ (above || nat_lt 1 (get_or (counts_now t) x 0)) → (answer : Option Found) → (below : ℕ) → k ≡ suc below → Led (base_of kind) below s low high x key
      → Told m kind (found key (pairs below s child)) (here || is_shared_path below s key child) answer
      → Told m kind (found key (pairs k s x)) (above || is_shared_path k s key x) answer
  told_inner above here e answer below deeper led told =
      let shared : (here || is_shared_path below s key child) ≡ (above || is_shared_path (suc below) s key x) =
      ap (λ b. b || is_shared_path below s key child) (here_is above here e) ∙ or_assoc above (nat_lt 1 (count_of s x)) (is_shared_path below s key child) in
      subst (λ j. Told m kind (found key (pairs j s x)) (above || is_shared_path j s key x) answer) (sym deeper)
      (subst (λ b. Told m kind (found key (pairs (suc below) s x)) b answer) shared
      (subst (λ o. Told m kind o (here || is_shared_path below s key child) answer) (sym led.same_found) told))

  -- ---- a leaf

  pub leaf : step.level ≤ 0 → k ≡ 0
  leaf low = omega (arith, level_is, low)

  content : step.level ≤ 0 → pairs k s x ≡ es
  content low = ap (λ j. pairs j s x) (leaf low)

  ascends : step.level ≤ 0 → Ascend low high es
  ascends flat = let tree : IsTree (base_of kind) 0 s low high x = subst (λ j. IsTree (base_of kind) j s low high x) (leaf flat) st.tree in tree.1

  pub none_in_leaf : step.entry ≡ None → step.level ≤ 0 → found key (pairs k s x) ≡ None
  none_in_leaf e flat = ap (found key) (content flat) ∙ found_none_first low high key es (ascends flat) (last None e)

  leaf_entry : (e : Entry) → step.entry ≡ Some e → step.level ≤ 0 → (i : ℕ) × (entries.rank_of key es ≡ suc i) × (i < length es) × (get_or es i blank ≡ moved_by (first_named m kind 0) e)
  leaf_entry e at flat =
      let z : step.level ≡ 0 = omega (arith, flat) in
      subst (λ n. IsLast m kind n key es (Some e)) z (last (Some e) at)

  pub value_inside : (e : Entry) → step.entry ≡ Some e → step.level ≤ 0 → first_named m kind 0 + e.value < length (counts_now t)
  value_inside e at flat =
      let q = leaf_entry e at flat in
      let v : (get_or es q.0 blank).value ≡ first_named m kind 0 + e.value = ap (λ (y : Entry). y.value) q.3 in
      let named : 0 < occurrences (get_or es q.0 blank).value (children (node_at s x)) =
      subst (λ xs. 0 < occurrences (get_or es q.0 blank).value xs) (sym (children_values (node_at s x) (omega (arith, rank_is, base_positive kind)))) (value_here es q.0 q.2) in
      omega (arith, v, live_below s (get_or es q.0 blank).value (child_live s opens held x (get_or es q.0 blank).value st.holds.balanced st.live st.closed named), ap length st.holds.stands.counts)

  pub none_at_key : (e : Entry) → step.entry ≡ Some e → step.level ≤ 0 → e.key ≢ key → found key (pairs k s x) ≡ None
  none_at_key e at flat ne =
      let q = leaf_entry e at flat in
      ap (found key) (content flat) ∙ found_none_at_rank low high key q.0 blank es (ascends flat) q.1 (λ same. ne (sym (ap (λ (y : Entry). y.key) q.3) ∙ same))

  pub told_leaf : (above here many : Bool) (e : Entry) (reference : ℕ) → step.entry ≡ Some e → step.level ≤ 0 → e.key ≡ key → reference ≡ first_named m kind 0 + e.value
      → here ≡ (above || nat_lt 1 (get_or (counts_now t) x 0)) → many ≡ (here || nat_lt 1 (get_or (counts_now t) reference 0))
      → Told m kind (found key (pairs k s x)) (above || is_shared_path k s key x) (Some (record { entry = e; is_shared = many }))
  told_leaf above here many e reference at flat same named h mm =
      let q = leaf_entry e at flat in
      let v : (get_or es q.0 blank).value ≡ first_named m kind 0 + e.value = ap (λ (y : Entry). y.value) q.3 in
      let to : child ≡ reference = led_by_place key q.0 es q.1 ∙ (v ∙ sym named) in
      let there : get_or (counts_now t) reference 0 ≡ count_of s child = ap (λ c. get_or c reference 0) (sym st.holds.stands.counts) ∙ ap (count_of s) (sym to) in
      let shared : many ≡ (above || is_shared_path 0 s key x) =
      mm ∙ (ap (λ b. b || nat_lt 1 (get_or (counts_now t) reference 0)) (here_is above here h) ∙ (ap (λ n. (above || nat_lt 1 (count_of s x)) || nat_lt 1 n) there ∙ or_assoc above (nat_lt 1 (count_of s x)) (nat_lt 1 (count_of s child)))) in (
        ap (found key) (content flat) ∙ (found_at_rank low high key q.0 blank es (ascends flat) q.1 (ap (λ (y : Entry). y.key) q.3 ∙ same) ∙ ap Some q.3),
        shared ∙ ap (λ j. above || is_shared_path j s key x) (sym (leaf flat)),
      )
