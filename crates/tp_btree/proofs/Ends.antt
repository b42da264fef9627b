-- How many entries a tree has, and the last of them, from those below its root.
use Rattle.std.proofs.Common.{◌≡◌, ℕ, zero, suc, ◌+◌, ◌-◌, ◌<◌, ◌≤◌, List, [], ◌∷◌, ◌++◌, length, get_or, take, refl, sym, ap, subst, ◌∙◌, arith}
use Rattle.std.specs.Prelude.{◌^◌, IsTrue, Option, None, Some}
use Rattle.std.specs.Option.{option_map}
use Rattle.std.proofs.lemmas.List.{append-nil, length-append, length-map}
use Rattle.std.proofs.lemmas.Bool.Decides.{nat_tests}
use Rattle.tp_model.specs.Disk.{DiskState}
use Rattle.tp_layout.specs.Node.{NodeValue}
use Rattle.tp_layout.specs.Entries.{Ascend}
use Rattle.tp_layout.specs.Entries as entries
use Rattle.tp_layout.specs.declared.entry.Entry.{Entry}
use Rattle.tp_layout.specs.declared.kind.TreeKind.{TreeKind}
use Rattle.tp_layout.proofs.Ordered.{ascend_ends, rank_of_yes}
use Rattle.tp_refs.specs.Store.{Node, Store, children, first_named, moved_by, node_at, node_from}
use Rattle.tp_refs.specs.Balance.{occurrences}
use Rattle.tp_refs.proofs.Names.{take_whole}
use Rattle.tp_refs.proofs.Steps.{child_closed, child_live}
use Rattle.tp_trees.specs.Tree.{IsTree, Parted, blank, joined, least_of, pairs}
use Rattle.tp_trees.proofs.Trees.{children_values, parted_ends, rank_inside, tree_rank, value_here}
use Rattle.tp_tm.specs.Tm.{Tm}
use Rattle.tp_btree.specs.declared.step.NodeStep.{NodeStep}
use Rattle.tp_btree.specs.Trees.{IsLast, IsStep, StandsBelow, base_of}
use Rattle.tp_btree.specs.Walks.{last_entry}
use Rattle.tp_btree.proofs.Filling.{next_child}
use Rattle.tp_btree.proofs.Looking.{base_positive, first_none}
use Rattle.tp_btree.proofs.Walking.{entries_are, entries_long, level_of}

-- ---- how many

-- What was counted below the children before a index.
abbrev pub Counted : Tm → DiskState → TreeKind → ℕ → ℕ → NodeValue → ℕ → ℕ → Type 0
Counted t disk kind x top n i count =
    IsTrue disk.is_honest → (opens held : List ℕ) (s : Store) (k low high : ℕ) → StandsBelow t disk kind opens held s k low high x → k ≤ top
    → (below : ℕ) × (k ≡ suc below) × (node_at s x ≡ node_from t.geometry.metadata_blocks n)
    × (count ≡ length (joined (pairs below s) (take i (node_at s x).entries)))

length-joined_take : (f : ℕ → List Entry) (i : ℕ) (es : List Entry) → length (joined f (take i es)) ≤ length (joined f es)
length-joined_take f zero es = omega arith
length-joined_take f (suc i) [] = omega arith
length-joined_take f (suc i) (e ∷ es) = omega (arith, length-append (f e.value) (joined f (take i es)), length-append (f e.value) (joined f es), length-joined_take f i es)

length-joined_next : (f : ℕ → List Entry) (i : ℕ) (es : List Entry) → i < length es → length (joined f (take (suc i) es)) ≡ length (joined f (take i es)) + length (f (get_or es i blank).value)
length-joined_next f i [] w = absurd (omega arith)
length-joined_next f zero (e ∷ es) w = omega (arith, ap length (append-nil (f e.value)))
length-joined_next f (suc i) (e ∷ es) w = omega (arith, length-append (f e.value) (joined f (take (suc i) es)), length-append (f e.value) (joined f (take i es)), length-joined_next f i es (omega (arith, w)))

least_some : (rank : ℕ) → 0 < least_of rank
least_some rank = grind (arith, nat_tests)

module _
    (t : Tm) (disk : DiskState) (kind : TreeKind) (opens held : List ℕ) (s : Store) (k low high x : ℕ)
    (st : StandsBelow t disk kind opens held s k low high x) (n : NodeValue) (kind_is : n.kind ≡ kind) (same : node_at s x ≡ node_from t.geometry.metadata_blocks n) where
  abbrev here : List Entry
  here = (node_at s x).entries

  long : length here ≡ length n.entries
  long = entries_long t disk kind opens held s k low high x st n kind_is same

  level : n.level ≡ k
  level = level_of t disk kind opens held s k low high x st n kind_is same

  pub leaf_counted : n.level ≡ 0 → length (pairs k s x) ≡ length n.entries
  leaf_counted flat = let z : k ≡ 0 = sym level ∙ flat in ap (λ j. length (pairs j s x)) z ∙ long

  pub count_starts : 0 < n.level → (below : ℕ) × (k ≡ suc below) × (node_at s x ≡ node_from t.geometry.metadata_blocks n) × (0 ≡ length (joined (pairs below s) (take 0 here)))
  count_starts more = go k refl where
    go : (j : ℕ) → k ≡ j → (below : ℕ) × (k ≡ suc below) × (node_at s x ≡ node_from t.geometry.metadata_blocks n) × (0 ≡ length (joined (pairs below s) (take 0 here)))
    go zero e = absurd (omega (arith, e, level, more))
    go (suc below) e = (below, e, same, refl)

  pub count_goes : (i below old more : ℕ) → i < length n.entries → old ≡ length (joined (pairs below s) (take i here)) → more ≡ length (pairs below s (get_or here i blank).value)
      → old + more ≡ length (joined (pairs below s) (take (i + 1) here))
  count_goes i below old more w p q =
      let k : suc i ≡ i + 1 = omega arith in
      omega (arith, p, q, length-joined_next (pairs below s) i here (omega (arith, w, long)), ap (λ j. length (joined (pairs below s) (take j here))) k)

  pub count_fits : (i below old more : ℕ) → i < length n.entries → k ≡ suc below → old ≡ length (joined (pairs below s) (take i here)) → more ≡ length (pairs below s (get_or here i blank).value)
      → old + more ≤ length (pairs k s x)
  count_fits i below old more w deeper p q =
      omega (arith, count_goes i below old more w p q, length-joined_take (pairs below s) (i + 1) here, ap (λ j. length (pairs j s x)) deeper)

  pub count_ends : (i below count : ℕ) → length n.entries ≤ i → k ≡ suc below → count ≡ length (joined (pairs below s) (take i here)) → count ≡ length (pairs k s x)
  count_ends i below count past deeper h = h ∙ (ap (λ l. length (joined (pairs below s) l)) (take_whole i here (omega (arith, past, long))) ∙ ap (λ j. length (pairs j s x)) (sym deeper))

-- ---- the last one

last_of_two : (xs ys : List Entry) (y : Entry) → last_entry ys ≡ Some y → last_entry (xs ++ ys) ≡ Some y
last_of_two [] ys y h = h
last_of_two (x ∷ []) [] y h = absurd (cc)
last_of_two (x ∷ []) (z ∷ zs) y h = h
last_of_two (x ∷ w ∷ xs) ys y h = last_of_two (w ∷ xs) ys y h

last_joined : (f : ℕ → List Entry) (i : ℕ) (es : List Entry) (y : Entry) → i + 1 ≡ length es → last_entry (f (get_or es i blank).value) ≡ Some y → last_entry (joined f es) ≡ Some y
last_joined f i [] y e h = absurd (omega (arith, e))
last_joined f zero (x ∷ []) y e h = ap last_entry (append-nil (f x.value)) ∙ h
last_joined f zero (x ∷ z ∷ es) y e h = absurd (omega (arith, e))
last_joined f (suc i) (x ∷ es) y e h = last_of_two (f x.value) (joined f es) y (last_joined f i es y (omega (arith, e)) h)

some_last : (es : List Entry) → 0 < length es → (y : Entry) × (last_entry es ≡ Some y)
some_last [] h = absurd (omega arith)
some_last (x ∷ []) h = (x, refl)
some_last (x ∷ z ∷ es) h = some_last (z ∷ es) (omega arith)

-- the last part ends at the end
last_part : (P : ℕ → ℕ → ℕ → Type 0) (low high : ℕ) (es : List Entry) → Parted P low high es → low < high → (i from : ℕ) × (i + 1 ≡ length es) × (from < high) × (low ≤ from) × P from high (get_or es i blank).value
last_part P low high [] h l = absurd (omega (arith, h, l))
last_part P low high (e ∷ []) h l = (0, low, omega arith, l, omega arith, h.2)
last_part P low high (e ∷ f ∷ fs) h l =
    let r = last_part P f.key high (f ∷ fs) h.3 (omega (arith, h.3.1, parted_ends P (entries.first_key fs high) high fs h.3.3)) in
    (suc r.0, r.1, omega (arith, r.2), r.3, omega (arith, h.1, r.4), r.5)

-- each key is at most this
all_up_to : (q low high : ℕ) (es : List Entry) → Ascend low high es → high ≤ q + 1 → entries.rank_of q es ≡ length es
all_up_to q low high [] h f = refl
all_up_to q low high (e ∷ es) h f = rank_of_yes q e es (omega (arith, ascend_ends (suc e.key) high es h.1, f)) ∙ ap suc (all_up_to q (suc e.key) high es h.1 f)

parts_up_to : (P : ℕ → ℕ → ℕ → Type 0) (q low high : ℕ) (es : List Entry) → Parted P low high es → high ≤ q + 1 → entries.rank_of q es ≡ length es
parts_up_to P q low high [] h f = refl
parts_up_to P q low high (e ∷ es) h f =
    rank_of_yes q e es (omega (arith, h.0, h.1, parted_ends P (entries.first_key es high) high es h.3, f)) ∙ ap suc (parts_up_to P q (entries.first_key es high) high es h.3 f)

last_at : (i : ℕ) (es : List Entry) → i + 1 ≡ length es → last_entry es ≡ Some (get_or es i blank)
last_at i [] e = absurd (omega (arith, e))
last_at zero (x ∷ []) e = refl
last_at zero (x ∷ z ∷ es) e = absurd (omega (arith, e))
last_at (suc i) (x ∷ []) e = absurd (omega (arith, e))
last_at (suc i) (x ∷ z ∷ es) e = last_at i (z ∷ es) (omega (arith, e))

none_if_empty : (es : List Entry) → length es ≡ 0 → last_entry es ≡ None
none_if_empty [] e = refl
none_if_empty (x ∷ es) e = absurd (omega (arith, e))

parts_have_some : (P : ℕ → ℕ → ℕ → Type 0) (f : ℕ → List Entry) (low high : ℕ) (xs : List Entry) → ((from to c : ℕ) → P from to c → 0 < length (f c)) → Parted P low high xs → 0 < length xs → 0 < length (joined f xs)
parts_have_some P f low high [] each p h = absurd (omega arith)
parts_have_some P f low high (e ∷ xs) each p h = omega (arith, length-append (f e.value) (joined f xs), each low (entries.first_key xs high) e.value p.2)

-- a tree whose root has entries has some
tree_has_some : (base k : ℕ) (s : Store) (low high b : ℕ) → IsTree base k s low high b → 0 < length (node_at s b).entries → 0 < length (pairs k s b)
tree_has_some base zero s low high b h some = some
tree_has_some base (suc k) s low high b h some =
    parts_have_some (λ from to c. IsTree base k s from to c × (least_of (base + k) ≤ length (node_at s c).entries)) (pairs k s) low high (node_at s b).entries
    (λ from to c p. tree_has_some base k s from to c p.0 (omega (arith, p.1, least_some (base + k)))) h.1 some

module _
    (t : Tm) (disk : DiskState) (kind : TreeKind) (opens held : List ℕ) (s : Store) (k low high x key : ℕ)
    (st : StandsBelow t disk kind opens held s k low high x) (step : NodeStep) (is : IsStep t.geometry.metadata_blocks kind s key x step) (all : high ≤ key + 1) where
  abbrev m : ℕ
  m = t.geometry.metadata_blocks

  abbrev own : List Entry
  own = (node_at s x).entries

  pub step_level : step.level ≡ k
  step_level = omega (arith, is.rank, tree_rank (base_of kind) k s low high x st.tree)

  step_entry : (o : Option Entry) → step.entry ≡ o → IsLast m kind step.level key own o
  step_entry o e = subst (IsLast m kind step.level key own) e is.entry

  -- a leaf
  pub leaf_last : step.level ≡ 0 → option_map (moved_by (first_named m kind 0)) step.entry ≡ last_entry (pairs k s x)
  leaf_last flat = go step.entry refl where
    z : k ≡ 0
    z = sym step_level ∙ flat

    tree : IsTree (base_of kind) 0 s low high x
    tree = subst (λ j. IsTree (base_of kind) j s low high x) z st.tree

    ranks : entries.rank_of key own ≡ length own
    ranks = all_up_to key low high own tree.1 all

    content : last_entry (pairs k s x) ≡ last_entry own
    content = ap (λ j. last_entry (pairs j s x)) z

    go : (o : Option Entry) → step.entry ≡ o → option_map (moved_by (first_named m kind 0)) step.entry ≡ last_entry (pairs k s x)
    go None e = ap (option_map (moved_by (first_named m kind 0))) e ∙ sym (content ∙ none_if_empty own (sym ranks ∙ step_entry None e))
    go (Some y) e =
        let q = subst (λ n. IsLast m kind n key own (Some y)) flat (step_entry (Some y) e) in
        ap (option_map (moved_by (first_named m kind 0))) e ∙ (ap Some (sym q.3) ∙ sym (content ∙ last_at q.0 own (omega (arith, q.1, ranks))))

  -- the last child of an inner node
  pub record LastChild (below : ℕ) : Type 0 where
    pub index : ℕ
    pub from : ℕ
    pub ends : index + 1 ≡ length own
    pub ranks : entries.rank_of key own ≡ length own
    pub less : from < high
    pub stands : StandsBelow t disk kind opens held s below from high (get_or own index blank).value
    pub inside : (get_or own index blank).value < m
    pub has : 0 < length (pairs below s (get_or own index blank).value)

  pub last_child : 0 < step.level → low < high → (below : ℕ) × (k ≡ suc below) × LastChild below
  last_child more l = go k refl st.tree where
    go : (j : ℕ) → k ≡ j → IsTree (base_of kind) j s low high x → (below : ℕ) × (k ≡ suc below) × LastChild below
    go zero e tree = absurd (omega (arith, e, step_level, more))
    go (suc below) e tree =
        let r = last_part (λ from to c. IsTree (base_of kind) below s from to c × (least_of (base_of kind + below) ≤ length (node_at s c).entries)) low high own tree.1 l in
        let c = (get_or own r.0 blank).value in
        let named : 0 < occurrences c (children (node_at s x)) =
        subst (λ xs. 0 < occurrences c xs) (sym (children_values (node_at s x) (omega (arith, tree.0)))) (value_here own r.0 (omega (arith, r.2))) in (
          below,
          e,
          record {
            index = r.0;
            from = r.1;
            ends = r.2;
            ranks = parts_up_to (λ from to c. IsTree (base_of kind) below s from to c × (least_of (base_of kind + below) ≤ length (node_at s c).entries)) key low high own tree.1 all;
            less = r.3;
            stands = record {
              holds = st.holds;
              tree = r.5.0;
              levels = omega (arith, st.levels, e);
              live = child_live s opens held x c st.holds.balanced st.live st.closed named;
              closed = child_closed s opens held x c st.holds.balanced st.live st.closed named;
            };
            inside = omega (arith, st.holds.stands.sized, rank_inside s c (omega (arith, base_positive kind, tree_rank (base_of kind) below s r.1 high c r.5.0)));
            has = tree_has_some (base_of kind) below s r.1 high c r.5.0 (omega (arith, r.5.1, least_some (base_of kind + below)));
          },
        )

  pub some_child : (below : ℕ) → LastChild below → step.entry ≡ None → ⊥
  some_child below r e = let z : entries.rank_of key own ≡ 0 = step_entry None e in omega (arith, z, r.ranks, r.ends)

  pub child_value : (below : ℕ) → (r : LastChild below) → (e : Entry) → step.entry ≡ Some e → 0 < step.level → e.value ≡ (get_or own r.index blank).value
  child_value below r e at more =
      let q = step_entry (Some e) at in
      let f : first_named m kind step.level ≡ 0 = first_none m kind step.level more in
      let v : (get_or own q.0 blank).value ≡ first_named m kind step.level + e.value = ap (λ (y : Entry). y.value) q.3 in
      let p : q.0 ≡ r.index = omega (arith, q.1, r.ranks, r.ends) in
      omega (arith, v, f, ap (λ i. (get_or own i blank).value) p)

  pub last_inner : (below : ℕ) → (r : LastChild below) → k ≡ suc below → (o : Option Entry) → option_map (moved_by (first_named m kind 0)) o ≡ last_entry (pairs below s (get_or own r.index blank).value)
      → option_map (moved_by (first_named m kind 0)) o ≡ last_entry (pairs k s x)
  last_inner below r deeper o h =
      let y = some_last (pairs below s (get_or own r.index blank).value) r.has in
      h ∙ (y.1 ∙ sym (ap (λ j. last_entry (pairs j s x)) deeper ∙ last_joined (pairs below s) r.index own y.0 r.ends y.1))
