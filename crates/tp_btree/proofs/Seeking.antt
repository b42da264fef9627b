-- The first entry with a key from some key on.
use Rattle.std.proofs.Common.{◌≡◌, ℕ, zero, suc, ◌+◌, ◌-◌, ◌<◌, ◌≤◌, List, [], ◌∷◌, ◌++◌, length, get_or, map, take, drop, refl, sym, ap, subst, ◌∙◌, arith, take-append-drop}
use Rattle.std.specs.Prelude.{IsTrue, None, Option, Some, false, is_some, slice_get, true}
use Rattle.std.specs.Option.{option_map}
use Rattle.std.proofs.lemmas.Bool.{false≢true}
use Rattle.std.proofs.lemmas.Option.{none-some}
use Rattle.tp_model.specs.Disk.{DiskState}
use Rattle.tp_layout.specs.Node.{NodeValue, keys}
use Rattle.tp_layout.specs.declared.entry.Entry.{Entry}
use Rattle.tp_layout.specs.declared.kind.TreeKind.{TreeKind}
use Rattle.tp_refs.specs.Store.{Store, first_named, moved_by, node_at, node_from}
use Rattle.tp_refs.proofs.Names.{take_whole}
use Rattle.tp_trees.specs.Tree.{blank, joined, pairs}
use Rattle.tp_trees.proofs.Trees.{joined-append}
use Rattle.tp_tm.specs.Tm.{Tm}
use Rattle.tp_btree.specs.Least.{first_entry}
use Rattle.tp_btree.specs.Trees.{StandsBelow}
use Rattle.tp_btree.specs.Walks.{from_key}
use Rattle.tp_btree.proofs.Filling.{from_key-append, from_key_moved, from_no, from_yes, next_child}
use Rattle.tp_btree.proofs.Walking.{child_at, entries_are, entries_long, level_of, number_is}

-- ---- in a node

pub first_at : (q r : ℕ) (es : List Entry) → r ≤ length es → ((i : ℕ) → i < r → get_or (keys es) i 0 < q) → ((i : ℕ) → r ≤ i → i < length es → q ≤ get_or (keys es) i 0)
    → first_entry (from_key q es) ≡ slice_get es r
first_at q r [] le under others = refl
first_at q zero (e ∷ es) le under others = ap first_entry (from_yes q e es (others 0 (omega arith) (omega arith)))
first_at q (suc r) (e ∷ es) le under others =
    ap first_entry (from_no q e es (under 0 (omega arith))) ∙ first_at q r es (omega arith) (λ i lt. under (suc i) (omega arith)) (λ i h lt. others (suc i) (omega arith) (omega arith))

first_moved : (f : ℕ) (es : List Entry) → first_entry (map (moved_by f) es) ≡ option_map (moved_by f) (first_entry es)
first_moved f [] = refl
first_moved f (e ∷ es) = refl

-- ---- of two rows

none_first : (xs : List Entry) → None ≡ first_entry xs → xs ≡ []
none_first [] e = refl
none_first (x ∷ xs) e = absurd (none-some x e)

first_of_two : (xs ys : List Entry) (f : Entry → Entry) (o : Option Entry) → is_some o ≡ true → option_map f o ≡ first_entry xs → option_map f o ≡ first_entry (xs ++ ys)
first_of_two [] ys f None some e = absurd (false≢true some)
first_of_two [] ys f (Some x) some e = absurd (none-some (f x) (sym e))
first_of_two (x ∷ xs) ys f o some e = e

pub is_none : (o : Option Entry) → is_some o ≡ false → o ≡ None
is_none None e = refl
is_none (Some x) e = absurd (false≢true (sym e))

-- Nothing is found below the children before a place.
abbrev pub Sought : Tm → DiskState → TreeKind → ℕ → ℕ → ℕ → NodeValue → ℕ → Type 0
Sought t disk kind x top q n i =
    IsTrue disk.is_honest → (opens held : List ℕ) (s : Store) (k low high : ℕ) → StandsBelow t disk kind opens held s k low high x → k ≤ top
    → (below : ℕ) × (k ≡ suc below) × (node_at s x ≡ node_from t.geometry.metadata_blocks n)
    × (from_key q (joined (pairs below s) (take i (node_at s x).entries)) ≡ [])

module _
    (t : Tm) (disk : DiskState) (kind : TreeKind) (opens held : List ℕ) (s : Store) (k low high x : ℕ)
    (st : StandsBelow t disk kind opens held s k low high x) (n : NodeValue) (kind_is : n.kind ≡ kind) (same : node_at s x ≡ node_from t.geometry.metadata_blocks n) where
  abbrev m : ℕ
  m = t.geometry.metadata_blocks

  abbrev all : List Entry
  all = (node_at s x).entries

  abbrev moved : Option Entry → Option Entry
  moved = option_map (moved_by (first_named m kind 0))

  pub sought_in_leaf : (q : ℕ) (answer : Option Entry) → n.level ≡ 0 → answer ≡ first_entry (from_key q n.entries) → moved answer ≡ first_entry (from_key q (pairs k s x))
  sought_in_leaf q answer flat h =
      let z : k ≡ 0 = sym (level_of t disk kind opens held s k low high x st n kind_is same) ∙ flat in
      let e : pairs k s x ≡ map (moved_by (first_named m kind 0)) n.entries =
      ap (λ j. pairs j s x) z ∙ (entries_are t disk kind opens held s k low high x st n kind_is same ∙ ap (λ l. map (moved_by (first_named m kind l)) n.entries) flat) in
      ap moved h ∙ (sym (first_moved (first_named m kind 0) (from_key q n.entries)) ∙ ap first_entry (sym (from_key_moved q (first_named m kind 0) n.entries) ∙ ap (from_key q) (sym e)))

  module _ (q i below : ℕ) (w : i < length n.entries) (deeper : k ≡ suc below) (before : from_key q (joined (pairs below s) (take i all)) ≡ []) where
    abbrev here : List Entry
    here = from_key q (pairs below s (get_or all i blank).value)

    up_to : from_key q (joined (pairs below s) (take (i + 1) all)) ≡ here
    up_to =
        next_child (pairs below s) q i all (omega (arith, w, entries_long t disk kind opens held s k low high x st n kind_is same))
        ∙ ap (λ l. l ++ here) before

    -- the child has none
    pub sought_on : (found : Option Entry) → found ≡ None → moved found ≡ first_entry here → (b : ℕ) × (k ≡ suc b) × (node_at s x ≡ node_from m n) × (from_key q (joined (pairs b s) (take (i + 1) all)) ≡ [])
    sought_on found none told = (below, deeper, same, up_to ∙ none_first here (sym (ap moved none) ∙ told))

    -- the child has the first
    pub sought_here : (found : Option Entry) → is_some found ≡ true → moved found ≡ first_entry here → moved found ≡ first_entry (from_key q (pairs k s x))
    sought_here found some told =
        let rest = from_key q (joined (pairs below s) (drop (i + 1) all)) in
        let whole : here ++ rest ≡ from_key q (pairs k s x) =
        ap (λ l. l ++ rest) (sym up_to)
        ∙ (sym (from_key-append q (joined (pairs below s) (take (i + 1) all)) (joined (pairs below s) (drop (i + 1) all)))
        ∙ (ap (from_key q) (sym (joined-append (pairs below s) (take (i + 1) all) (drop (i + 1) all)) ∙ ap (joined (pairs below s)) (take-append-drop (i + 1) all)) ∙ ap (λ j. from_key q (pairs j s x)) (sym deeper))) in
        first_of_two here rest (moved_by (first_named m kind 0)) found some told ∙ ap first_entry whole

  -- no child has one
  pub sought_all : (q i below : ℕ) → length n.entries ≤ i → k ≡ suc below → from_key q (joined (pairs below s) (take i all)) ≡ [] → None ≡ first_entry (from_key q (pairs k s x))
  sought_all q i below past deeper h =
      ap first_entry (sym h ∙ (ap (λ l. from_key q (joined (pairs below s) l)) (take_whole i all (omega (arith, past, entries_long t disk kind opens held s k low high x st n kind_is same))) ∙ ap (λ j. from_key q (pairs j s x)) (sym deeper)))

-- the child that the search is at
pub record Under (t : Tm) (disk : DiskState) (kind : TreeKind) (x q : ℕ) (n : NodeValue) (i value : ℕ) (opens held : List ℕ) (s : Store) (k : ℕ) : Type 0 where
  pub from : ℕ
  pub to : ℕ
  pub below : ℕ
  pub deeper : k ≡ suc below
  pub at : node_at s x ≡ node_from t.geometry.metadata_blocks n
  pub named : value ≡ (get_or (node_at s x).entries i blank).value
  pub before : from_key q (joined (pairs below s) (take i (node_at s x).entries)) ≡ []
  pub stands : StandsBelow t disk kind opens held s below from to value
  pub inside : value < t.geometry.metadata_blocks
  pub fits : below ≤ n.level - 1

pub child_under : (t : Tm) (disk : DiskState) (kind : TreeKind) (x top q : ℕ) (n : NodeValue) (i : ℕ) (e : Entry) → Sought t disk kind x top q n i → n.kind ≡ kind → 0 < n.level
    → i < length n.entries → slice_get n.entries i ≡ Some e → IsTrue disk.is_honest → (opens held : List ℕ) (s : Store) (k low high : ℕ)
    → StandsBelow t disk kind opens held s k low high x → k ≤ top → Under t disk kind x q n i e.value opens held s k
child_under t disk kind x top q n i e sought kind_is more within there honest opens held s k low high st fits =
    let w = sought honest opens held s k low high st fits in
    let r = child_at t disk kind opens held s k low high x st n kind_is w.2 i within more in
    let same : r.0 ≡ w.0 = omega (arith, r.1, w.1) in
    let at : e.value ≡ (get_or (node_at s x).entries i blank).value = number_is t disk kind opens held s k low high x st n kind_is w.2 i e there more in
    record {
      from = r.2.from;
      to = r.2.to;
      below = w.0;
      deeper = w.1;
      at = w.2;
      named = at;
      before = w.3;
      stands = subst (λ b. StandsBelow t disk kind opens held s w.0 r.2.from r.2.to b) (sym at) (subst (λ j. StandsBelow t disk kind opens held s j r.2.from r.2.to (get_or (node_at s x).entries i blank).value) same r.2.stands);
      inside = omega (arith, at, r.2.inside);
      fits = omega (arith, w.1, level_of t disk kind opens held s k low high x st n kind_is w.2);
    }
