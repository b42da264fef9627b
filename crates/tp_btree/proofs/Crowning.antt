-- A root above the two halves of the one before.
use Rattle.std.proofs.Common.{◌≡◌, ℕ, suc, ◌+◌, ◌*◌, ◌<◌, ◌≤◌, List, ◌∷◌, ◌++◌, length, map, refl, sym, ap, subst, ◌∙◌, arith, length-append}
use Rattle.tp_model.specs.Disk.{DiskState}
use Rattle.tp_layout.specs.Node.{NodeValue, most_level}
use Rattle.tp_layout.specs.declared.entry.Entry.{Entry}
use Rattle.tp_layout.specs.declared.kind.TreeKind.{TreeKind}
use Rattle.tp_layout.specs.declared.kind.TreeKind.TheVariants.{Device, Mapping}
use Rattle.tp_layout.proofs.Ordered.{ascend-append, length-with_new}
use Rattle.tp_refs.specs.Store.{MayName, Node, Store, children, count_of, first_named, moved_by, node_at, node_from, rank_of, with_count, with_node}
use Rattle.tp_refs.specs.Balance.{Balanced, occurrences}
use Rattle.tp_trees.specs.Tree.{pairs}
use Rattle.tp_trees.specs.Growth.{One, Two, branches}
use Rattle.tp_trees.proofs.Trees.{ascend_tree}
use Rattle.tp_trees.proofs.Placing.{ready_names, ready_one}
use Rattle.tp_trees.proofs.Roots.{inserted_one, inserted_two, root_balance, root_names}
use Rattle.tp_trees.proofs.Heights.{ascend_few, below_many, least_under, over_device, over_mapping}
use Rattle.tp_tm.specs.Tm.{Tm}
use Rattle.tp_tm.specs.Holds.{Holds}
use Rattle.tp_btree.specs.Trees.{base_of}
use Rattle.tp_btree.specs.Inserts.{Crowned, Grew, Insertable, InsertedAt, IsFew, IsWritten, Wanted}
use Rattle.tp_btree.proofs.Steps.{rank_by_level}
use Rattle.tp_btree.proofs.Looking.{first_none}
use Rattle.tp_btree.proofs.Adding.{not_moved}

pub wanted : (t : Tm) (d : DiskState) (kind : TreeKind) (opens held : List ℕ) (s : Store) (k high root : ℕ) (x : Entry) → Insertable t d kind opens held s k high root x → Wanted t d kind opens held s k 0 high root x
wanted t d kind opens held s k high root x a = record {
  holds = a.holds;
  adding = record { tree = a.whole.tree; lower = omega arith; upper = a.upper; absent = a.absent; balance = a.holds.balanced; value_rank = a.value_rank };
  levels = a.levels;
  room = a.room;
}

abbrev pub over : TreeKind → ℕ → ℕ → ℕ → ℕ → ℕ → NodeValue
over kind level own lower middle upper = record { kind = kind; level = level; own = own; entries = branches 0 (Two lower middle upper) }

over_is : (m : ℕ) (kind : TreeKind) (k level own lower middle upper : ℕ) → level ≡ suc k → node_from m (over kind level own lower middle upper) ≡ record { rank = base_of kind + suc k; entries = branches 0 (Two lower middle upper) }
over_is m kind k level own lower middle upper e =
    let rank : rank_of kind level ≡ base_of kind + suc k = rank_by_level kind level ∙ ap (λ l. base_of kind + l) e in
    let es : map (moved_by (first_named m kind level)) (branches 0 (Two lower middle upper)) ≡ branches 0 (Two lower middle upper) = not_moved (first_named m kind level) (first_none m kind level (omega (arith, e))) (branches 0 (Two lower middle upper)) in
    (λ i. record { rank = rank i; entries = es i })

pub crowned : (m : ℕ) (t t1 : Tm) (d d1 : DiskState) (u : Tm) (d2 : DiskState) (kind : TreeKind) (opens held : List ℕ) (s : Store) (k level own lower middle upper : ℕ) → level ≡ suc k → t.geometry.metadata_blocks ≡ m → own < m
    → Holds t d opens (lower ∷ upper ∷ held) s → count_of s own ≡ 0 → Holds t1 d1 (own ∷ opens) (lower ∷ upper ∷ held) (with_count s own 1)
    → IsWritten m t1 d1 u d2 (over kind level own lower middle upper) → Crowned s u d2 kind opens held k lower middle upper own
crowned m t t1 d d1 u d2 kind opens held s k level own lower middle upper e size inside h free took w =
    let n = node_from m (over kind level own lower middle upper) in
    let is = over_is m kind k level own lower middle upper e in
    record {
      free = free;
      inside = omega (arith, h.stands.sized, size, inside);
      opened = took.balanced;
      written = λ b names.
          let y : Node = record { rank = base_of kind + suc k; entries = branches 0 (Two lower middle upper) } in
          subst (λ z. Holds u d2 opens (own ∷ held) (with_node (with_count s own 1) own z)) is
          (w opens held (with_count s own 1)
          (record { stands = took.stands; balanced = subst (λ (z : Node). Balanced (with_count s own 1) (own ∷ opens) (children z ++ held)) (sym is) (ready_one (with_count s own 1) opens held own (record { rank = base_of kind + suc k; entries = branches 0 (Two lower middle upper) }) b (omega arith)) })
          (subst (λ (z : Node). (c : ℕ) → 0 < occurrences c (children z) → MayName z.rank (node_at s c).rank) (sym is)
          (ready_names (with_count s own 1) (record { rank = base_of kind + suc k; entries = branches 0 (Two lower middle upper) }) (omega arith) names)));
    }

-- ---- the whole insertion

too_many : (kind : TreeKind) (k high count : ℕ) → k ≡ most_level kind → IsFew kind high count → count ≤ high → 2 * least_under (base_of kind) k ≤ count → ⊥
too_many Mapping k high count e few below many = omega (arith, few, below, many, ap (least_under 1) e, over_mapping)
too_many Device k high count e few below many = omega (arith, few, many, ap (least_under 5) e, over_device)

module _ (t : Tm) (d : DiskState) (kind : TreeKind) (opens held : List ℕ) (s : Store) (k high root : ℕ) (x : Entry) (a : Insertable t d kind opens held s k high root x) where
  pub whole_inserted : (u : Tm) (d1 : DiskState) (b : ℕ) → Grew s u d1 kind opens held k 0 high root x (One b) → InsertedAt s u d1 kind opens held k high root x b
  whole_inserted u d1 b g = record {
    after = g.after;
    holds = g.holds;
    inserted = inserted_one (base_of kind) k s g.after high root x opens held b a.whole g.added;
  }

  module _ (u : Tm) (d1 : DiskState) (b middle c : ℕ) (g : Grew s u d1 kind opens held k 0 high root x (Two b middle c)) where
    pub halves_inserted : (v : Tm) (d2 : DiskState) (top : ℕ) → Crowned g.after v d2 kind opens held k b middle c top → InsertedAt s v d2 kind opens held k high root x top
    halves_inserted v d2 top r =
        let n : Node = record { rank = base_of kind + suc k; entries = branches 0 (Two b middle c) } in
        let base = base_of kind in
        record {
          after = with_node (with_count g.after top 1) top (record { rank = base_of kind + suc k; entries = branches 0 (Two b middle c) });
          holds = r.written (root_balance base k s g.after high root x opens held b middle c top (record { rank = base_of kind + suc k; entries = branches 0 (Two b middle c) }) g.added r.free r.opened r.inside refl refl)
              (root_names base k s g.after high root x opens held b middle c top (record { rank = base_of kind + suc k; entries = branches 0 (Two b middle c) }) g.added r.free r.opened r.inside refl refl);
          inserted = inserted_two base k s g.after high root x opens held b middle c top (record { rank = base_of kind + suc k; entries = branches 0 (Two b middle c) }) g.added r.free r.opened r.inside refl refl;
        }

    -- two halves have too many entries for the greatest level
    pub not_highest : k ≡ most_level kind → ⊥
    not_highest e =
        let base = base_of kind in
        let v = g.after in
        let parts = g.added.grows in
        let left : least_under (base_of kind) k ≤ length (pairs k g.after b) = below_many base k v 0 middle b (parts.left, parts.left_full) in
        let right : least_under (base_of kind) k ≤ length (pairs k g.after c) = below_many base k v middle high c (parts.right, parts.right_full) in
        let few : 0 + length (pairs k g.after b ++ pairs k g.after c) ≤ high = ascend_few 0 high (pairs k v b ++ pairs k v c)
        (ascend-append 0 middle high (pairs k v b) (pairs k v c) (ascend_tree base k v 0 middle b parts.left) (ascend_tree base k v middle high c parts.right)) in
        let count : length (pairs k g.after b ++ pairs k g.after c) ≡ length (pairs k s root) + 1 = ap length parts.content ∙ length-with_new x (pairs k s root) a.absent in
        too_many kind k high (length (pairs k s root) + 1) e a.few (omega (arith, few, count)) (omega (arith, left, right, count, length-append (pairs k v b) (pairs k v c)))
