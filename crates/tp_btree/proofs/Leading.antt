-- The leaf that a key leads to, from the one that it leads to below a child.
use Rattle.std.proofs.Common.{◌≡◌, ◌≢◌, ℕ, suc, ◌+◌, ◌<◌, ◌≤◌, List, length, get_or, sym, ap, subst, ◌∙◌, arith, Bool, set, inl, inr}
use Rattle.std.proofs.lemmas.Bool.{cases_lt}
use Rattle.std.proofs.lemmas.List.{get_or-set_other, get_or-set_same}
use Rattle.std.specs.Prelude.{Some, None, nat_lt, ◌||◌}
use Rattle.std.specs.List.Sorted.{IsStrictlyIncreasing}
use Rattle.tp_model.specs.Disk.{DiskState, seen}
use Rattle.tp_layout.specs.Entries.{found}
use Rattle.tp_layout.specs.Entries as entries
use Rattle.tp_layout.specs.Node.{IsNode, NodeValue, keys, node_bytes}
use Rattle.tp_layout.specs.declared.entry.Entry.{Entry}
use Rattle.tp_layout.specs.declared.kind.TreeKind.{TreeKind}
use Rattle.tp_layout.proofs.Ordered.{keys_in_order, rank_of_from_bounds}
use Rattle.tp_image.specs.Nodes.{block_at}
use Rattle.tp_refs.specs.Store.{Store, first_named, node_at}
use Rattle.tp_trees.specs.Tree.{is_shared_path, led_to, pairs}
use Rattle.tp_trees.proofs.Trees.{Led, tree_rank}
use Rattle.tp_tm.specs.Tm.{Tm, counts_now}
use Rattle.tp_btree.specs.declared.step.NodeStep.{NodeStep}
use Rattle.tp_btree.specs.Runs.{IsNoLeaf, LeadsToLeaf, LeafTells}
use Rattle.tp_btree.specs.Trees.{IsStep, StandsBelow, base_of, before, last_up_to}
use Rattle.tp_btree.proofs.Looking.{level_is, none_at_key, none_in_leaf, path_inner, told_leaf, tree_ranked, value_inside}
use Rattle.tp_btree.proofs.Steps.{standing, step_is}

-- a key and one behind it, both before the next one that a node has
pub rank_between : (key next r : ℕ) (es : List Entry) → IsStrictlyIncreasing (keys es) → r ≤ length es → ((i : ℕ) → i < r → get_or (keys es) i 0 ≤ key) → key ≤ next
    → (r < length es → next < get_or (keys es) r 0) → entries.rank_of next es ≡ r
rank_between key next r es up within below le above =
    rank_of_from_bounds next r es within (λ i l. omega (arith, below i l, le))
    (λ i l w. omega (arith, above (omega (arith, l, w)), keys_in_order es r i up l w))

pub same_entry : (key next r : ℕ) (es : List Entry) → IsStrictlyIncreasing (keys es) → r ≤ length es → ((i : ℕ) → i < r → get_or (keys es) i 0 ≤ key) → key ≤ next
    → (r < length es → next < get_or (keys es) r 0) → last_up_to key es ≡ last_up_to next es
same_entry key next r es up within below le above =
    ap (before es)
    (rank_between key key r es up within below (omega arith) (λ l. omega (arith, le, above l)) ∙ sym (rank_between key next r es up within below le above))

-- the leaf itself
pub leads_here : (t : Tm) (disk : DiskState) (kind : TreeKind) (opens held : List ℕ) (s : Store) (k low high x key : ℕ) → StandsBelow t disk kind opens held s k low high x → low ≤ key → key < high
    → (first : ℕ) (step : NodeStep) → IsStep t.geometry.metadata_blocks kind s first x step → (above here : Bool) (bytes : List ℕ) → step.level ≤ 0 → bytes ≡ block_at (seen disk.cells) x
    → here ≡ (above || nat_lt 1 (get_or (counts_now t) x 0)) → LeadsToLeaf t disk kind opens held s k key x above bytes here
leads_here t disk kind opens held s k low high x key st l u first step is above here bytes flat spelled counted =
    let e : k ≡ 0 = omega (arith, is.rank, tree_rank (base_of kind) k s low high x st.tree, flat) in
    record {
      leaf = x;
      low = low;
      high = high;
      over = above;
      stands = subst (λ j. StandsBelow t disk kind opens held s j low high x) e st;
      lower = l;
      upper = u;
      spelled = spelled;
      counted = counted;
      same_found = ap (λ j. found key (pairs j s x)) e;
      same_path = ap (λ j. above || is_shared_path j s key x) e;
    }

module _
    (t : Tm) (disk : DiskState) (kind : TreeKind) (opens held : List ℕ) (s : Store) (k low high x key : ℕ)
    (st : StandsBelow t disk kind opens held s k low high x)
    (l : low ≤ key) (u : key < high) (step : NodeStep) (is : IsStep t.geometry.metadata_blocks kind s key x step) where
  -- the leaf below a child
  pub leads_below : (above here : Bool) (bytes : List ℕ) (there : Bool) → here ≡ (above || nat_lt 1 (get_or (counts_now t) x 0)) → (below : ℕ) → k ≡ suc below → Led (base_of kind) below s low high x key
      → LeadsToLeaf t disk kind opens held s below key (led_to key (node_at s x).entries) here bytes there
      → LeadsToLeaf t disk kind opens held s k key x above bytes there
  leads_below above here bytes there counted below deeper led r = record {
    leaf = r.leaf;
    low = r.low;
    high = r.high;
    over = r.over;
    stands = r.stands;
    lower = r.lower;
    upper = r.upper;
    spelled = r.spelled;
    counted = r.counted;
    same_found = ap (λ j. found key (pairs j s x)) deeper ∙ (led.same_found ∙ r.same_found);
    same_path = sym (path_inner t disk kind opens held s k low high x key st l u step is above here counted below deeper) ∙ r.same_path;
  }

-- what its bytes tell of the key
pub leaf_step : (t : Tm) (disk : DiskState) (kind : TreeKind) (opens held : List ℕ) (s : Store) (k key b : ℕ) (above here : Bool) (bytes : List ℕ)
    → (r : LeadsToLeaf t disk kind opens held s k key b above bytes here) → (step : NodeStep)
    → ((n : NodeValue) → IsNode n → n.kind ≡ kind → bytes ≡ node_bytes n → (step.level ≡ n.level) × (step.entry ≡ last_up_to key n.entries))
    → IsStep t.geometry.metadata_blocks kind s key r.leaf step
leaf_step t disk kind opens held s k key b above here bytes r step says =
    let st = r.stands in
    let n = standing t disk kind opens held s r.leaf st.holds st.live st.closed (tree_ranked t disk kind opens held s 0 r.low r.high r.leaf st) in
    let e = says n.node n.there.good n.kind_is (r.spelled ∙ n.there.bytes) in
    step_is t.geometry.metadata_blocks kind s key r.leaf step n.node n.kind_is n.same e.0 e.1

-- what they tell of it
module _ (t : Tm) (kind : TreeKind) (key : ℕ) (here : Bool) (bytes : List ℕ) (step : NodeStep)
    (says : (n : NodeValue) → IsNode n → n.kind ≡ kind → bytes ≡ node_bytes n → (step.level ≡ n.level) × (step.entry ≡ last_up_to key n.entries)) where
  flat_leaf : (disk : DiskState) (opens held : List ℕ) (s : Store) (k b : ℕ) (above : Bool) → (r : LeadsToLeaf t disk kind opens held s k key b above bytes here) → step.level ≤ 0
  flat_leaf disk opens held s k b above r =
      omega (arith, level_is t disk kind opens held s 0 r.low r.high r.leaf key r.stands r.lower r.upper step (leaf_step t disk kind opens held s k key b above here bytes r step says))

  pub no_entry : step.entry ≡ None → LeafTells t kind key bytes here None
  no_entry e disk opens held s k b above r =
      r.same_found
      ∙ none_in_leaf t disk kind opens held s 0 r.low r.high r.leaf key r.stands r.lower r.upper step (leaf_step t disk kind opens held s k key b above here bytes r step says) e
      (flat_leaf disk opens held s k b above r)

  pub other_key : (e : Entry) → step.entry ≡ Some e → e.key ≢ key → LeafTells t kind key bytes here None
  other_key e at ne disk opens held s k b above r =
      r.same_found
      ∙ none_at_key t disk kind opens held s 0 r.low r.high r.leaf key r.stands r.lower r.upper step (leaf_step t disk kind opens held s k key b above here bytes r step says) e at
      (flat_leaf disk opens held s k b above r) ne

  pub no_reference : (e : Entry) → step.entry ≡ Some e → length (counts_now t) ≤ first_named t.geometry.metadata_blocks kind 0 + e.value → IsNoLeaf t kind key bytes here
  no_reference e at high disk opens held s k b above r =
      omega (
        arith,
        high,
        value_inside t disk kind opens held s 0 r.low r.high r.leaf key r.stands r.lower r.upper step (leaf_step t disk kind opens held s k key b above here bytes r step says) e at
            (flat_leaf disk opens held s k b above r),
      )

  pub this_entry : (many : Bool) (e : Entry) (reference : ℕ) → step.entry ≡ Some e → e.key ≡ key → reference ≡ first_named t.geometry.metadata_blocks kind 0 + e.value
      → many ≡ (here || nat_lt 1 (get_or (counts_now t) reference 0)) → LeafTells t kind key bytes here (Some (record { entry = e; is_shared = many }))
  this_entry many e reference at same named mm disk opens held s k b above r =
      let w =
      told_leaf t disk kind opens held s 0 r.low r.high r.leaf key r.stands r.lower r.upper step (leaf_step t disk kind opens held s k key b above here bytes r step says) r.over here many e reference at
      (flat_leaf disk opens held s k b above r) same named r.counted mm in
      (r.same_found ∙ w.0, w.1 ∙ sym r.same_path)

-- ---- the places of a run

-- one place more was told
pub told_more : {A : Type 0} (P : ℕ → A → Type 0) (from at : ℕ) (xs : List A) (x d : A) → at < length xs → ((i : ℕ) → from ≤ i → i < at → P i (get_or xs i d)) → P at x
    → (i : ℕ) → from ≤ i → i < at + 1 → P i (get_or (set xs at x) i d)
told_more P from at xs x d w told here i low high =
    elim (cases_lt i at) [
      | inl l ↦ subst (P i) (sym (get_or-set_other xs at i x d (λ e. omega (arith, e, l)))) (told i low l)
      | inr h ↦
          let e : at ≡ i = omega (arith, h, high) in
          subst (λ j. P j (get_or (set xs at x) j d)) e (subst (P at) (sym (get_or-set_same xs at x d w)) here)
    ]
