-- An entry that is added below a block: from what stands once the block was opened, and the child grew.
use Rattle.std.proofs.Common.{◌≡◌, ℕ, suc, ◌+◌, ◌*◌, ◌<◌, List, [], ◌∷◌, ◌++◌, length, get_or, map, drop, refl, sym, ap, subst, ◌∙◌, arith, inl, inr, None}
use Rattle.std.proofs.lemmas.Bool.{cases_lt, cases_eq}
use Rattle.tp_model.specs.Disk.{DiskState}
use Rattle.tp_layout.specs.Node.{NodeValue}
use Rattle.tp_layout.specs.Entries.{first_key, found, with_entry}
use Rattle.tp_layout.specs.Entries as entries
use Rattle.tp_layout.specs.declared.entry.Entry.{Entry}
use Rattle.tp_layout.specs.declared.kind.TreeKind.{TreeKind}
use Rattle.tp_layout.proofs.Ordered.{found_here, found_later, with_entry_first, with_entry_here, with_entry_later}
use Rattle.tp_refs.specs.Store.{Node, Store, first_named, moved_by, node_at, node_from, rank_of}
use Rattle.tp_refs.specs.Balance.{occurrences}
use Rattle.tp_refs.proofs.Steps.{held_closed, held_live, one_same}
use Rattle.tp_trees.specs.Tree.{blank}
use Rattle.tp_trees.specs.Growth.{Added, Adding, Grown, One, Two, others, traded}
use Rattle.tp_trees.proofs.Trees.{rank_inside, tree_rank}
use Rattle.tp_trees.proofs.Insertion.{child_adding, child_room, child_within, inner_added, leaf_added, leaf_balance, leaf_names, traded_balance, traded_names}
use Rattle.tp_tm.specs.Tm.{Tm}
use Rattle.tp_tm.specs.Holds.{Shadowed}
use Rattle.tp_btree.specs.Trees.{StandsBelow, base_of}
use Rattle.tp_btree.specs.Inserts.{CanLand, CanPlace, Grew, IsBetween, Wanted, with_new, with_traded}
use Rattle.tp_btree.proofs.Steps.{rank_by_level}
use Rattle.tp_btree.proofs.Splitting.{some_none}
use Rattle.tp_btree.proofs.Looking.{base_positive, first_none}

pub wanted_stands : (t : Tm) (d : DiskState) (kind : TreeKind) (opens held : List ℕ) (s : Store) (k low high b : ℕ) (x : Entry) → Wanted t d kind opens held s k low high b x
    → StandsBelow t d kind opens (b ∷ x.value ∷ held) s k low high b
wanted_stands t d kind opens held s k low high b x w =
    let here : 0 < occurrences b (b ∷ x.value ∷ held) = omega (arith, one_same b b refl) in
    record {
      holds = w.holds;
      tree = w.adding.tree;
      levels = w.levels;
      live = held_live s opens (b ∷ x.value ∷ held) b w.holds.balanced here;
      closed = held_closed s opens (b ∷ x.value ∷ held) b w.holds.balanced here;
    }

-- ---- values as references

pub with_moved : (f : ℕ) (e : Entry) (es : List Entry) → map (moved_by f) (with_entry e es) ≡ with_entry (moved_by f e) (map (moved_by f) es)
with_moved f e [] = refl
with_moved f e (d ∷ es) =
    elim (cases_lt e.key d.key) [
      | inl l ↦ ap (map (moved_by f)) (with_entry_first e d es l) ∙ sym (with_entry_first (moved_by f e) (moved_by f d) (map (moved_by f) es) l)
      | inr g ↦ elim (cases_eq d.key e.key) [
        | inl q ↦ ap (map (moved_by f)) (with_entry_here e d es q) ∙ sym (with_entry_here (moved_by f e) (moved_by f d) (map (moved_by f) es) q)
        | inr n ↦
            let l : d.key < e.key = omega (arith, g, n) in
            ap (map (moved_by f)) (with_entry_later e d es l) ∙ (ap (λ (xs : List Entry). moved_by f d ∷ xs) (with_moved f e es) ∙ sym (with_entry_later (moved_by f e) (moved_by f d) (map (moved_by f) es) l))
      ]
    ]

pub none_moved : (f q : ℕ) (es : List Entry) → found q (map (moved_by f) es) ≡ None → found q es ≡ None
none_moved f q [] h = refl
none_moved f q (e ∷ es) h =
    elim (cases_eq e.key q) [
      | inl s ↦ absurd (some_none (moved_by f e) (sym (found_here q (moved_by f e) (map (moved_by f) es) s) ∙ h))
      | inr d ↦ found_later q e es d ∙ none_moved f q es (sym (found_later q (moved_by f e) (map (moved_by f) es) d) ∙ h)
    ]

pub not_moved : (f : ℕ) → f ≡ 0 → (es : List Entry) → map (moved_by f) es ≡ es
not_moved f z [] = refl
not_moved f z (e ∷ es) =
    let v : f + e.value ≡ e.value = omega (arith, z) in
    let head : moved_by f e ≡ e = ap (λ (n : ℕ). record { key = e.key; value = n; mapped = e.mapped; size = e.size }) v in
    (λ i. head i ∷ not_moved f z es i)

-- ---- once the block was opened
module _
    (t : Tm) (d : DiskState) (kind : TreeKind) (opens held : List ℕ) (s : Store) (k low high b : ℕ) (x : Entry) (w : Wanted t d kind opens held s k low high b x)
    (u : Tm) (at : ℕ) (sh : Shadowed s u d at b opens (x.value ∷ held)) where
  pub leaf_grew : k ≡ 0 → (u2 : Tm) (d2 : DiskState) (g : Grown) → CanLand u d u2 d2 at (record { rank = base_of kind; entries = with_entry x (node_at s b).entries }) g
      → Grew s u2 d2 kind opens held k low high b x g
  leaf_grew z u2 d2 g can =
      let base = base_of kind in
      let pos = base_positive kind in
      let leaf : (node_at s b).rank ≡ base_of kind = omega (arith, tree_rank base k s low high b w.adding.tree, z) in
      let bal = leaf_balance base k s sh.after b at x low high opens held w.adding pos sh.same sh.holds.balanced leaf in
      let r = can base opens held sh.after (record { stands = sh.holds.stands; balanced = bal }) (leaf_names base k s sh.after b at x low high opens held w.adding pos sh.same sh.holds.balanced leaf) in
      record { after = r.after; holds = r.holds; added = leaf_added base k s sh.after b at x low high opens held w.adding pos sh.same sh.holds.balanced leaf r.after g r.placed }

  module _ (below i : ℕ) (deeper : k ≡ suc below) (place : entries.rank_of x.key (node_at s b).entries ≡ suc i) where
    abbrev es : List Entry
    es = (node_at s b).entries

    adding : Adding (base_of kind) s b x (suc below) low high opens held
    adding = subst (λ j. Adding (base_of kind) s b x j low high opens held) deeper w.adding

    pub inside_node : i < length (node_at s b).entries
    inside_node = child_within (base_of kind) below s sh.after b at x low high opens held adding (base_positive kind) sh.same sh.holds.balanced i place

    pub child_wanted : Wanted u d kind (at ∷ opens) (others (node_at s b).entries i ++ held) sh.after below (get_or (node_at s b).entries i blank).key (first_key (drop (suc i) (node_at s b).entries) high)
        (get_or (node_at s b).entries i blank).value x
    child_wanted =
        let a = child_adding (base_of kind) below s sh.after b at x low high opens held adding (base_positive kind) sh.same sh.holds.balanced i place in
        record {
          holds = record { stands = sh.holds.stands; balanced = a.balance };
          adding = a;
          levels = omega (arith, w.levels, deeper);
          room = child_room (base_of kind) below s sh.after b at x low high opens held adding (base_positive kind) sh.same sh.holds.balanced i place (302 + 252 * below) (omega (arith, w.room, deeper));
        }

    pub child_place : (get_or (node_at s b).entries i blank).value < u.geometry.metadata_blocks
    child_place =
        let a = child_adding (base_of kind) below s sh.after b at x low high opens held adding (base_positive kind) sh.same sh.holds.balanced i place in
        omega (
          arith,
          sh.holds.stands.sized,
          rank_inside sh.after (get_or (node_at s b).entries i blank).value
              (omega (arith, base_positive kind, tree_rank (base_of kind) below sh.after (get_or (node_at s b).entries i blank).key (first_key (drop (suc i) (node_at s b).entries) high) (get_or (node_at s b).entries i blank).value a.tree)),
        )

    module _ (u2 : Tm) (d2 : DiskState) (g : Grown)
        (gr : Grew sh.after u2 d2 kind (at ∷ opens) (others (node_at s b).entries i ++ held) below (get_or (node_at s b).entries i blank).key (first_key (drop (suc i) (node_at s b).entries) high)
        (get_or (node_at s b).entries i blank).value x g) where
      pub between : IsBetween (node_at s b).entries i g
      between = go g gr where
        go : (g : Grown) → Grew sh.after u2 d2 kind (at ∷ opens) (others (node_at s b).entries i ++ held) below (get_or (node_at s b).entries i blank).key (first_key (drop (suc i) (node_at s b).entries) high)
            (get_or (node_at s b).entries i blank).value x g → IsBetween (node_at s b).entries i g
        go (One c) gr = tt
        go (Two c middle e) gr = (gr.added.grows.lower, high, gr.added.grows.upper)

      pub inner_grew : (u3 : Tm) (d3 : DiskState) (q : Grown) → CanLand u2 d2 u3 d3 at (record { rank = (node_at s b).rank; entries = traded (node_at s b).entries i g }) q → Grew s u3 d3 kind opens held k low high b x q
      inner_grew u3 d3 q can =
          let base = base_of kind in
          let pos = base_positive kind in
          let bal = traded_balance base below s sh.after b at x low high opens held adding pos sh.same sh.holds.balanced i place gr.after g gr.added in
          let r = can base opens held gr.after (record { stands = gr.holds.stands; balanced = bal })
          (traded_names base below s sh.after b at x low high opens held adding pos sh.same sh.holds.balanced i place gr.after g gr.added) in
          record {
            after = r.after;
            holds = r.holds;
            added = subst (λ j. Added base s r.after b x j low high opens held q) (sym deeper) (inner_added base below s sh.after b at x low high opens held adding pos sh.same sh.holds.balanced i place gr.after g gr.added r.after q r.placed);
          }

-- ---- the node in memory is that of the store
module _
    (m0 m : ℕ) (size : m ≡ m0) (kind : TreeKind) (s : Store) (b own : ℕ) (n nv : NodeValue) (is : nv ≡ record n { own = own }) (kind_is : n.kind ≡ kind) (same : node_at s b ≡ node_from m0 n) where
  pub entries_are : (node_at s b).entries ≡ map (moved_by (first_named m0 kind n.level)) n.entries
  entries_are = ap (λ (y : Node). y.entries) same ∙ ap (λ c. map (moved_by (first_named m0 c n.level)) n.entries) kind_is

  abbrev put_node : Entry → NodeValue
  put_node e = record { kind = n.kind; level = n.level; own = own; entries = with_entry e n.entries }

  leaf_node : (e : Entry) → n.level ≡ 0 → node_from m0 (put_node e) ≡ record { rank = base_of kind; entries = with_entry (moved_by (first_named m0 kind 0) e) (node_at s b).entries }
  leaf_node e flat =
      let f = first_named m0 kind 0 in
      let rank : rank_of n.kind n.level ≡ base_of kind = omega (arith, ap (λ c. rank_of c n.level) kind_is, rank_by_level kind n.level, flat) in
      let es : map (moved_by (first_named m0 n.kind n.level)) (with_entry e n.entries) ≡ with_entry (moved_by (first_named m0 kind 0) e) (node_at s b).entries =
      ap (λ c. map (moved_by (first_named m0 c n.level)) (with_entry e n.entries)) kind_is ∙ (ap (λ l. map (moved_by (first_named m0 kind l)) (with_entry e n.entries)) flat
      ∙ (with_moved f e n.entries ∙ sym (ap (with_entry (moved_by f e)) (entries_are ∙ ap (λ l. map (moved_by (first_named m0 kind l)) n.entries) flat)))) in
      (λ i. record { rank = rank i; entries = es i })

  pub leaf_lands : (e : Entry) → n.level ≡ 0 → (u : Tm) (d0 d : DiskState) (u2 : Tm) (d2 : DiskState) (g : Grown) → d0 ≡ d → CanPlace m u d0 u2 d2 (with_new e nv) g
      → CanLand u d u2 d2 own (record { rank = base_of kind; entries = with_entry (moved_by (first_named m0 kind 0) e) (node_at s b).entries }) g
  leaf_lands e flat u d0 d u2 d2 g still can =
      let one : CanPlace m u d u2 d2 (with_new e nv) g = subst (λ z. CanPlace m u z u2 d2 (with_new e nv) g) still can in
      let two : CanPlace m0 u d u2 d2 (with_new e nv) g = subst (λ z. CanPlace z u d u2 d2 (with_new e nv) g) size one in
      let three : CanPlace m0 u d u2 d2 (put_node e) g = subst (λ z. CanPlace m0 u d u2 d2 (with_new e z) g) is two in
      subst (λ y. CanLand u d u2 d2 own y g) (leaf_node e flat) three

  -- an inner node names metadata blocks
  pub entries_raw : 0 < n.level → (node_at s b).entries ≡ nv.entries
  entries_raw more = entries_are ∙ (not_moved (first_named m0 kind n.level) (first_none m0 kind n.level more) n.entries ∙ sym (ap (λ (v : NodeValue). v.entries) is))

  abbrev traded_node : ℕ → Grown → NodeValue
  traded_node i g = record { kind = n.kind; level = n.level; own = own; entries = traded n.entries i g }

  inner_node : (i : ℕ) (g : Grown) → 0 < n.level → node_from m0 (traded_node i g) ≡ record { rank = (node_at s b).rank; entries = traded (node_at s b).entries i g }
  inner_node i g more =
      let z : first_named m0 n.kind n.level ≡ 0 = first_none m0 n.kind n.level more in
      let rank : rank_of n.kind n.level ≡ (node_at s b).rank = sym (ap (λ (y : Node). y.rank) same) in
      let raw : (node_at s b).entries ≡ n.entries = entries_raw more ∙ ap (λ (v : NodeValue). v.entries) is in
      let es : map (moved_by (first_named m0 n.kind n.level)) (traded n.entries i g) ≡ traded (node_at s b).entries i g =
      not_moved (first_named m0 n.kind n.level) z (traded n.entries i g) ∙ ap (λ (xs : List Entry). traded xs i g) (sym raw) in
      (λ j. record { rank = rank j; entries = es j })

  pub inner_lands : (i : ℕ) (g : Grown) → 0 < n.level → (u : Tm) (d : DiskState) (u2 : Tm) (d2 : DiskState) (q : Grown) → CanPlace m u d u2 d2 (with_traded i g nv) q
      → CanLand u d u2 d2 own (record { rank = (node_at s b).rank; entries = traded (node_at s b).entries i g }) q
  inner_lands i g more u d u2 d2 q can =
      let two : CanPlace m0 u d u2 d2 (with_traded i g nv) q = subst (λ z. CanPlace z u d u2 d2 (with_traded i g nv) q) size can in
      let three : CanPlace m0 u d u2 d2 (traded_node i g) q = subst (λ z. CanPlace m0 u d u2 d2 (with_traded i g z) q) is two in
      subst (λ y. CanLand u d u2 d2 own y q) (inner_node i g more) three
