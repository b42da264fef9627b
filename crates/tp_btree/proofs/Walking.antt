-- A walk over the children of a node.
use Rattle.std.proofs.Common.{◌≡◌, ℕ, zero, suc, ◌+◌, ◌-◌, ◌<◌, ◌≤◌, List, [], ◌∷◌, ◌++◌, length, get_or, map, take, refl, sym, ap, subst, ◌∙◌, arith}
use Rattle.std.specs.Prelude.{IsTrue, Some, slice_get}
use Rattle.std.proofs.lemmas.List.{length-map}
use Rattle.tp_model.specs.Disk.{DiskState}
use Rattle.tp_layout.specs.Node.{NodeValue}
use Rattle.tp_layout.specs.Entries as entries
use Rattle.tp_layout.specs.declared.entry.Entry.{Entry}
use Rattle.tp_layout.specs.declared.kind.TreeKind.{TreeKind}
use Rattle.tp_refs.specs.Store.{Node, Store, children, first_named, moved_by, node_at, node_from, rank_of}
use Rattle.tp_refs.specs.Balance.{occurrences}
use Rattle.tp_refs.proofs.Names.{take_whole}
use Rattle.tp_refs.proofs.Steps.{child_closed, child_live}
use Rattle.tp_trees.specs.Tree.{IsTree, Parted, blank, joined, least_of, pairs}
use Rattle.tp_trees.proofs.Trees.{ascend_tree, children_values, rank_inside, tree_rank, value_here}
use Rattle.tp_tm.specs.Tm.{Tm}
use Rattle.tp_btree.specs.Trees.{StandsBelow, base_of}
use Rattle.tp_btree.specs.Walks.{IsFilled, as_references, from_key}
use Rattle.tp_btree.proofs.Steps.{moved_at, rank_by_level, rank_moved}
use Rattle.tp_btree.proofs.Looking.{base_positive, first_none}
use Rattle.tp_btree.proofs.Filling.{filled_leaf, filled_nothing, filled_on, next_child, none_before}

-- each child is a part
part_at : (P : ℕ → ℕ → ℕ → Type 0) (low high : ℕ) (es : List Entry) (i : ℕ) → Parted P low high es → i < length es → (from to : ℕ) × P from to (get_or es i blank).value
part_at P low high [] i h w = absurd (omega arith)
part_at P low high (e ∷ es) zero h w = (low, entries.first_key es high, h.2)
part_at P low high (e ∷ es) (suc i) h w = part_at P (entries.first_key es high) high es i h.3 (omega arith)

module _
    (t : Tm) (disk : DiskState) (kind : TreeKind) (opens held : List ℕ) (s : Store) (k low high x : ℕ)
    (st : StandsBelow t disk kind opens held s k low high x) (n : NodeValue) (kind_is : n.kind ≡ kind) (same : node_at s x ≡ node_from t.geometry.metadata_blocks n) where
  abbrev m : ℕ
  m = t.geometry.metadata_blocks

  abbrev es : List Entry
  es = (node_at s x).entries

  pub level_of : n.level ≡ k
  level_of =
      omega (arith, tree_rank (base_of kind) k s low high x st.tree, ap (λ (y : Node). y.rank) same, ap (λ c. rank_of c n.level) kind_is, rank_by_level kind n.level)

  pub entries_are : es ≡ map (moved_by (first_named m kind n.level)) n.entries
  entries_are = ap (λ (y : Node). y.entries) same ∙ ap (λ c. map (moved_by (first_named m c n.level)) n.entries) kind_is

  pub entries_long : length es ≡ length n.entries
  entries_long = ap length entries_are ∙ length-map n.entries (moved_by (first_named m kind n.level))

  -- a leaf
  pub leaf_filled : (q : ℕ) (old new : List Entry) → n.level ≡ 0 → new ≡ take 252 (old ++ from_key q n.entries) → IsFilled m kind (from_key q (pairs k s x)) old new
  leaf_filled q old new flat h =
      let z : k ≡ 0 = sym level_of ∙ flat in
      let e : pairs k s x ≡ as_references m kind n.entries = ap (λ j. pairs j s x) z ∙ (entries_are ∙ ap (λ l. map (moved_by (first_named m kind l)) n.entries) flat) in
      filled_leaf 252 m kind q n.entries old new h ∙ ap (λ l. take 252 (as_references m kind old ++ from_key q l)) (sym e)

  -- the child at a place
  pub record Child (i below : ℕ) : Type 0 where
    pub from : ℕ
    pub to : ℕ
    pub stands : StandsBelow t disk kind opens held s below from to (get_or es i blank).value
    pub inside : (get_or es i blank).value < m

  pub child_at : (i : ℕ) → i < length n.entries → 0 < n.level → (below : ℕ) × (k ≡ suc below) × Child i below
  child_at i w more = go k refl st.tree where
    go : (j : ℕ) → k ≡ j → IsTree (base_of kind) j s low high x → (below : ℕ) × (k ≡ suc below) × Child i below
    go zero e tree = absurd (omega (arith, e, level_of, more))
    go (suc below) e tree =
        let r = part_at (λ from to c. IsTree (base_of kind) below s from to c × (least_of (base_of kind + below) ≤ length (node_at s c).entries)) low high es i tree.1 (omega (arith, w, entries_long)) in
        let c = (get_or es i blank).value in
        let named : 0 < occurrences c (children (node_at s x)) =
        subst (λ xs. 0 < occurrences c xs) (sym (children_values (node_at s x) (omega (arith, tree.0)))) (value_here es i (omega (arith, w, entries_long))) in (
          below,
          e,
          record {
            from = r.0;
            to = r.1;
            stands = record {
              holds = st.holds;
              tree = r.2.0;
              levels = omega (arith, st.levels, e);
              live = child_live s opens held x c st.holds.balanced st.live st.closed named;
              closed = child_closed s opens held x c st.holds.balanced st.live st.closed named;
            };
            inside = omega (arith, st.holds.stands.sized, rank_inside s c (omega (arith, base_positive kind, tree_rank (base_of kind) below s r.0 r.1 c r.2.0)));
          },
        )

  pub number_is : (i : ℕ) (e : Entry) → slice_get n.entries i ≡ Some e → 0 < n.level → e.value ≡ (get_or es i blank).value
  number_is i e at more =
      let f : first_named m kind n.level ≡ 0 = first_none m kind n.level more in
      let g : get_or es i blank ≡ moved_by (first_named m kind n.level) e = ap (λ l. get_or l i blank) entries_are ∙ (moved_at (first_named m kind n.level) n.entries i e at).at in
      omega (arith, f, ap (λ (y : Entry). y.value) g)

-- What the walk has added from the children before a place.
abbrev pub Walked : Tm → DiskState → TreeKind → ℕ → ℕ → ℕ → NodeValue → ℕ → List Entry → List Entry → Type 0
Walked t disk kind x top q n i old new =
    IsTrue disk.is_honest → (opens held : List ℕ) (s : Store) (k low high : ℕ) → StandsBelow t disk kind opens held s k low high x → k ≤ top
    → (below : ℕ) × (k ≡ suc below) × (node_at s x ≡ node_from t.geometry.metadata_blocks n)
    × IsFilled t.geometry.metadata_blocks kind (from_key q (joined (pairs below s) (take i (node_at s x).entries))) old new

module _
    (t : Tm) (disk : DiskState) (kind : TreeKind) (opens held : List ℕ) (s : Store) (k low high x : ℕ)
    (st : StandsBelow t disk kind opens held s k low high x) (n : NodeValue) (kind_is : n.kind ≡ kind) (same : node_at s x ≡ node_from t.geometry.metadata_blocks n) where
  abbrev mm : ℕ
  mm = t.geometry.metadata_blocks

  abbrev all : List Entry
  all = (node_at s x).entries

  -- the children before the one that a key leads to have nothing from there on
  pub nothing_before : (q start : ℕ) → start ≡ entries.rank_of q n.entries - 1 → 0 < n.level
      → (below : ℕ) × (k ≡ suc below) × (from_key q (joined (pairs below s) (take start all)) ≡ [])
  nothing_before q start at more = go k refl st.tree where
    ranks : entries.rank_of q all ≡ entries.rank_of q n.entries
    ranks = ap (entries.rank_of q) (entries_are t disk kind opens held s k low high x st n kind_is same) ∙ rank_moved (first_named mm kind n.level) q n.entries

    go : (j : ℕ) → k ≡ j → IsTree (base_of kind) j s low high x → (below : ℕ) × (k ≡ suc below) × (from_key q (joined (pairs below s) (take start all)) ≡ [])
    go zero e tree = absurd (omega (arith, e, level_of t disk kind opens held s k low high x st n kind_is same, more))
    go (suc below) e tree = (
      below,
      e,
      ap (λ i. from_key q (joined (pairs below s) (take i all))) at
          ∙ none_before (λ from to c. IsTree (base_of kind) below s from to c × (least_of (base_of kind + below) ≤ length (node_at s c).entries)) (pairs below s) low high q (entries.rank_of q n.entries) all
          (λ from to c h. ascend_tree (base_of kind) below s from to c h.0) tree.1 ranks,
    )

  pub walk_starts : (q start : ℕ) (old : List Entry) → start ≡ entries.rank_of q n.entries - 1 → length old ≤ 252 → 0 < n.level
      → (below : ℕ) × (k ≡ suc below) × (node_at s x ≡ node_from mm n) × IsFilled mm kind (from_key q (joined (pairs below s) (take start all))) old old
  walk_starts q start old at fits more =
      let w = nothing_before q start at more in
      (w.0, w.1, same, filled_nothing 252 mm kind (from_key q (joined (pairs w.0 s) (take start all))) old fits w.2)

  pub walk_goes : (q i below : ℕ) (old mid new : List Entry) → i < length n.entries → k ≡ suc below
      → IsFilled mm kind (from_key q (joined (pairs below s) (take i all))) old mid
      → IsFilled mm kind (from_key q (pairs below s (get_or all i blank).value)) mid new
      → (b : ℕ) × (k ≡ suc b) × (node_at s x ≡ node_from mm n) × IsFilled mm kind (from_key q (joined (pairs b s) (take (i + 1) all))) old new
  walk_goes q i below old mid new w deeper before here = (
    below,
    deeper,
    same,
    filled_on 252 mm kind (from_key q (joined (pairs below s) (take i all))) (from_key q (pairs below s (get_or all i blank).value)) old mid new before here
        ∙ ap (λ l. take 252 (as_references mm kind old ++ l)) (sym (next_child (pairs below s) q i all (omega (arith, w, entries_long t disk kind opens held s k low high x st n kind_is same)))),
  )

  pub walk_ends : (q i below : ℕ) (old new : List Entry) → length n.entries ≤ i → k ≡ suc below → IsFilled mm kind (from_key q (joined (pairs below s) (take i all))) old new → IsFilled mm kind (from_key q (pairs k s x)) old new
  walk_ends q i below old new past deeper h =
      h ∙ ap (λ l. take 252 (as_references mm kind old ++ from_key q l))
      (ap (joined (pairs below s)) (take_whole i all (omega (arith, past, entries_long t disk kind opens held s k low high x st n kind_is same))) ∙ ap (λ j. pairs j s x) (sym deeper))
