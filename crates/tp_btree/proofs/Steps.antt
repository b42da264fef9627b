-- One step down a tree, and what it says of a key.
use Rattle.std.proofs.Common.{◌≡◌, ℕ, zero, suc, ◌+◌, ◌-◌, ◌<◌, ◌≤◌, List, [], ◌∷◌, length, get_or, map, refl, sym, ap, subst, ◌∙◌, arith, inl, inr, rules}
use Rattle.std.specs.Prelude.{Option, Some, None, slice_get}
use Rattle.std.proofs.lemmas.Bool.{cases_lt}
use Rattle.tp_model.specs.Disk.{DiskState, seen}
use Rattle.tp_layout.specs.Node.{NodeValue, most_level}
use Rattle.tp_layout.specs.Entries.{Ascend, found}
use Rattle.tp_layout.specs.Entries as entries
use Rattle.tp_layout.specs.declared.entry.Entry.{Entry}
use Rattle.tp_layout.specs.declared.kind.TreeKind.{TreeKind}
use Rattle.tp_layout.specs.declared.kind.TreeKind.TheVariants.{Device, Mapping}
use Rattle.tp_layout.proofs.Ordered.{rank_of_yes, rank_of_no, rank_of_le}
use Rattle.tp_image.specs.Nodes.{IsNodeAt}
use Rattle.tp_refs.specs.Store.{Node, Store, count_of, first_named, moved_by, node_at, node_from, rank_of}
use Rattle.tp_refs.specs.Balance.{occurrences}
use Rattle.tp_trees.specs.Tree.{blank}
use Rattle.tp_tm.specs.Tm.{Tm}
use Rattle.tp_tm.specs.Holds.{Holds, IsRankOf}
use Rattle.tp_tm.proofs.Releasing.{kind_by_rank, rank_above}
use Rattle.tp_btree.specs.declared.step.NodeStep.{NodeStep}
use Rattle.tp_btree.specs.Trees.{IsLast, IsStep, base_of, before, last_up_to}

-- ---- a node's last entry

pub first_entry : (key : ℕ) (es : List Entry) → entries.rank_of key es ≡ 0 → last_up_to key es ≡ None
first_entry key es h = ap (before es) h

pub entry_before : (key r : ℕ) (es : List Entry) (e : Entry) → entries.rank_of key es ≡ r → 0 < r → slice_get es (r - 1) ≡ Some e → last_up_to key es ≡ Some e
entry_before key zero es e h more at = absurd (omega arith)
entry_before key (suc r) es e h more at =
    let place : suc r - 1 ≡ r = omega arith in
    ap (before es) h ∙ (ap (slice_get es) (sym place) ∙ at)

pub rank_moved : (f key : ℕ) (es : List Entry) → entries.rank_of key (map (moved_by f) es) ≡ entries.rank_of key es
rank_moved f key [] = refl
rank_moved f key (e ∷ es) =
    elim (cases_lt key e.key) [
      | inl l ↦ rank_of_no key (moved_by f e) (map (moved_by f) es) l ∙ sym (rank_of_no key e es l)
      | inr g ↦ rank_of_yes key (moved_by f e) (map (moved_by f) es) g ∙ (ap suc (rank_moved f key es) ∙ sym (rank_of_yes key e es g))
    ]

-- an entry at a place of the node and of the store's node
pub record MovedAt (f : ℕ) (es : List Entry) (i : ℕ) (e : Entry) : Type 0 where
  pub within : i < length (map (moved_by f) es)
  pub at : get_or (map (moved_by f) es) i blank ≡ moved_by f e

pub moved_at : (f : ℕ) (es : List Entry) (i : ℕ) (e : Entry) → slice_get es i ≡ Some e → MovedAt f es i e
moved_at f [] i e h = search (rules, h)
moved_at f (d ∷ es) zero e h = let same : d ≡ e = search (rules, h) in record { within = omega arith; at = ap (moved_by f) same }
moved_at f (d ∷ es) (suc i) e h = let r = moved_at f es i e h in record { within = omega (arith, r.within); at = r.at }

some_entry : (es : List Entry) (i : ℕ) → i < length es → None ≡ slice_get es i → ⊥
some_entry [] i w h = omega arith
some_entry (e ∷ es) zero w h = search (rules, h)
some_entry (e ∷ es) (suc i) w h = some_entry es i (omega arith) h

last_moved : (m : ℕ) (kind : TreeKind) (level key : ℕ) (es : List Entry) (entry : Option Entry) → entry ≡ last_up_to key es → IsLast m kind level key (map (moved_by (first_named m kind level)) es) entry
last_moved m kind level key es entry h = go (entries.rank_of key es) refl entry h where
  go : (r : ℕ) → entries.rank_of key es ≡ r → (entry : Option Entry) → entry ≡ before es r → IsLast m kind level key (map (moved_by (first_named m kind level)) es) entry
  go zero at None h = rank_moved (first_named m kind level) key es ∙ at
  go zero at (Some e) h = search (rules, h)
  go (suc i) at None h = absurd (some_entry es i (omega (arith, at, rank_of_le key es)) h)
  go (suc i) at (Some e) h =
      let r = moved_at (first_named m kind level) es i e (sym h) in
      (i, rank_moved (first_named m kind level) key es ∙ at, r.within, r.at)

-- ---- the node that stands in a block

pub rank_by_level : (kind : TreeKind) (level : ℕ) → rank_of kind level ≡ base_of kind + level
rank_by_level Mapping level = omega arith
rank_by_level Device level = refl

pub ranked : (kind : TreeKind) (k r : ℕ) → r ≡ base_of kind + k → k ≤ most_level kind → IsRankOf kind r
ranked Mapping k r h low = (omega (arith, h), omega (arith, h))
ranked Device k r h low = (omega (arith, h), omega (arith, h))

pub record Standing (m : ℕ) (disk : DiskState) (kind : TreeKind) (s : Store) (x : ℕ) : Type 0 where
  pub node : NodeValue
  pub there : IsNodeAt (seen disk.cells) x node
  pub kind_is : node.kind ≡ kind
  pub same : node_at s x ≡ node_from m node

pub standing : (t : Tm) (disk : DiskState) (kind : TreeKind) (opens held : List ℕ) (s : Store) (x : ℕ) → Holds t disk opens held s → 0 < count_of s x → occurrences x opens ≡ 0
    → IsRankOf kind (node_at s x).rank → Standing t.geometry.metadata_blocks disk kind s x
standing t disk kind opens held s x h live closed rank =
    let sp = h.stands.nodes x live closed (rank_above kind (node_at s x).rank rank) in
    record {
      node = sp.0;
      there = sp.1.0;
      kind_is = kind_by_rank sp.0.kind kind sp.0.level sp.1.0.good.form.level (subst (IsRankOf kind) (ap (λ (n : Node). n.rank) sp.1.1) rank);
      same = sp.1.1;
    }

pub step_is : (m : ℕ) (kind : TreeKind) (s : Store) (key x : ℕ) (step : NodeStep) (n : NodeValue) → n.kind ≡ kind → node_at s x ≡ node_from m n → step.level ≡ n.level → step.entry ≡ last_up_to key n.entries
    → IsStep m kind s key x step
step_is m kind s key x step n kinds same level entry = record {
  rank = ap (λ (n : Node). n.rank) same ∙ (ap (λ k. rank_of k n.level) kinds ∙ (rank_by_level kind n.level ∙ ap (λ l. base_of kind + l) (sym level)));
  entry =
      subst (λ (y : Node). IsLast m kind step.level key y.entries step.entry) (sym same)
      (subst (λ k. IsLast m kind step.level key (map (moved_by (first_named m k n.level)) n.entries) step.entry) (sym kinds)
      (subst (λ l. IsLast m kind step.level key (map (moved_by (first_named m kind l)) n.entries) step.entry) level (last_moved m kind step.level key n.entries step.entry entry)));
}
