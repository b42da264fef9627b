-- A volume's tree is changed where it stands.
use Rattle.std.proofs.Common.{◌≡◌, ℕ, ◌+◌, ◌-◌, ◌<◌, ◌≤◌, List, ◌∷◌, length, refl, sym, ap, subst, ◌∙◌, arith, Some, None}
use Rattle.std.proofs.lemmas.List.{get_or_past}
use Rattle.tp_model.specs.Geometry.{Geometry}
use Rattle.tp_model.specs.Disk.{DiskState}
use Rattle.tp_layout.specs.declared.entry.Entry.{Entry}
use Rattle.tp_layout.specs.declared.kind.TreeKind.TheVariants.{Mapping}
use Rattle.tp_layout.specs.Entries.{found, with_entry, without_key}
use Rattle.tp_layout.proofs.Ordered.{length-without_key}
use Rattle.tp_refs.specs.Store.{MayName, Node, Store, count_of, no_node, node_at, with_count}
use Rattle.tp_refs.specs.Balance.{Frame}
use Rattle.tp_refs.proofs.Moves.{reordered}
use Rattle.tp_refs.proofs.Steps.{frame_part, frame_same, frame_trans, held_closed, held_live, one_same}
use Rattle.tp_trees.specs.Tree.{IsWhole, pairs}
use Rattle.tp_trees.proofs.Frames.{pairs_same, tree_same}
use Rattle.tp_trees.proofs.Heights.{mapping_low}
use Rattle.tp_trees.proofs.Trees.{ascend_tree}
use Rattle.tp_sharing.specs.Forest.{content}
use Rattle.tp_sharing.specs.Later.{mapped_after}
use Rattle.tp_sharing.proofs.Later.{content_is_pairs, volume_with_entry, volume_without_entry}
use Rattle.tp_sharing.proofs.Lists.{found_within, value_from}
use Rattle.tp_tm.specs.Tm.{Tm}
use Rattle.tp_tm.specs.Holds.{Holds}
use Rattle.tp_btree.specs.Inserts.{Insertable, InsertedAt}
use Rattle.tp_btree.specs.Removes.{CanRemove, WasRemoved}
use Rattle.tp_btree.specs.Replaces.{CanReplace, Swapped, as_reference}
use Rattle.tp_btree.specs.Trees.{StandsBelow}
use Rattle.tp_btree.specs.declared.replacement.Changed.{Changed}
use Rattle.tp_mapping.specs.declared.volume.Volume.{Volume}
use Rattle.tp_mapping.specs.Held.{HoldsSlots, Slotted, entry_of, slot_at}
use Rattle.tp_mapping.proofs.Copies.{all_below}
use Rattle.tp_mapping.proofs.Holding.{height}

-- what stands before
module _ (t : Tm) (d : DiskState) (opens held : List ℕ) (s : Store) (top : ℕ) (v : Volume) (h : HoldsSlots t d opens held s top v) where
  abbrev k : ℕ
  k = height 1 s v.root

  low : k ≤ 3
  low = mapping_low k s top v.root (h.volume 0).tree h.most

  pub slots_stand : StandsBelow t d Mapping opens (v.root ∷ held) s k 0 top v.root
  slots_stand = record {
    holds = h.holds;
    tree = (h.volume 0).tree.tree;
    levels = low;
    live = held_live s opens (v.root ∷ held) v.root h.holds.balanced (omega (arith, one_same v.root v.root refl));
    closed = held_closed s opens (v.root ∷ held) v.root h.holds.balanced (omega (arith, one_same v.root v.root refl));
  }

  sized_then : (u : Tm) (later : DiskState) (next : List ℕ) (after : Store) → u.geometry ≡ t.geometry → Holds u later opens next after → length after.nodes ≡ length s.nodes
  sized_then u later next after same q = q.stands.sized ∙ (ap (λ (z : Geometry). z.metadata_blocks) same ∙ sym h.holds.stands.sized)

-- a count is another then
module _ (r : Store) (b : ℕ) where
  abbrev fewer : Store
  fewer = with_count r b (count_of r b - 1)

  whole_still : (k top root : ℕ) → IsWhole 1 k r top root → IsWhole 1 k fewer top root
  whole_still k top root w = record { tree = tree_same 1 k r fewer 0 top root (all_below r fewer (λ y. refl) k root) w.tree; branches = w.branches }

  pairs_still : (k top root : ℕ) → IsWhole 1 k r top root → pairs k fewer root ≡ pairs k r root
  pairs_still k top root w = pairs_same 1 k r fewer 0 top root (all_below r fewer (λ y. refl) k root) w.tree

  frame_still : (s : Store) (old : ℕ) (held : List ℕ) → Frame s r (old ∷ held) → Frame s fewer held
  frame_still s old held f = frame_trans s r fewer held (frame_part s r (old ∷ held) held f (λ y here. omega (arith, here))) (frame_same r fewer held refl)

-- ---- the data block that a slot had

module _ (t u : Tm) (later : DiskState) (opens held : List ℕ) (r : Store) (done : Changed) (old : Entry) (same : u.geometry ≡ t.geometry) (told : old ≡ as_reference t.geometry.metadata_blocks Mapping done.was) where
  value_is : old.value ≡ u.geometry.metadata_blocks + done.was.value
  value_is = omega (arith, ap (λ (y : Entry). y.value) told, ap (λ (z : Geometry). z.metadata_blocks) same)

  -- a reference to it is held
  pub swapped_order : Holds u later opens (done.root ∷ old.value ∷ held) r → Holds u later opens ((u.geometry.metadata_blocks + done.was.value) ∷ done.root ∷ held) r
  swapped_order h =
      subst (λ n. Holds u later opens (n ∷ done.root ∷ held) r) value_is
      (record { stands = h.stands; balanced = reordered r opens (done.root ∷ old.value ∷ held) (old.value ∷ done.root ∷ held) (λ x. omega arith) h.balanced })

  -- and given up
  pub freed_holds : (w : Tm)
      → Holds w later opens (done.root ∷ held) (with_count r (u.geometry.metadata_blocks + done.was.value) (count_of r (u.geometry.metadata_blocks + done.was.value) - 1))
      → Holds w later opens (done.root ∷ held) (with_count r old.value (count_of r old.value - 1))
  freed_holds w h = subst (λ n. Holds w later opens (done.root ∷ held) (with_count r n (count_of r n - 1))) (sym value_is) h

-- ---- put in

module _ (t : Tm) (d : DiskState) (opens held : List ℕ) (s : Store) (top : ℕ) (v : Volume) (p block : ℕ)
    (h : HoldsSlots t d opens ((t.geometry.metadata_blocks + p) ∷ held) s top v) (inside : block < top) where
  abbrev more : List ℕ
  more = (t.geometry.metadata_blocks + p) ∷ held

  abbrev x : Entry
  x = slot_at t.geometry.metadata_blocks block p

  far : length s.nodes ≤ t.geometry.metadata_blocks + p
  far = omega (arith, h.holds.stands.sized)

  leaf_names : MayName 1 (node_at s (t.geometry.metadata_blocks + p)).rank
  leaf_names =
      let e : (node_at s (t.geometry.metadata_blocks + p)).rank ≡ 0 = ap (λ (y : Node). y.rank) (get_or_past s.nodes (t.geometry.metadata_blocks + p) no_node far) in
      subst (λ r. MayName 1 r) (sym e) (record { below = omega arith; next = λ n. omega arith; root = λ n. absurd (omega (arith, n)) })

  pub may_insert : found block (content 1 s v.root) ≡ None → Insertable t d Mapping opens held s (height 1 s v.root) top v.root x
  may_insert none = record {
    holds = h.holds;
    whole = (h.volume 0).tree;
    levels = low t d opens more s top v h;
    upper = inside;
    absent = none;
    value_rank = leaf_names;
    few = h.most;
    room = omega (arith, h.room, low t d opens more s top v h);
  }

  pub may_replace : (old : Entry) → found block (content 1 s v.root) ≡ Some old → CanReplace t d Mapping opens held s (height 1 s v.root) 0 top v.root x old
  may_replace old there = record {
    holds = h.holds;
    replacing = record {
      tree = (h.volume 0).tree.tree;
      lower = omega arith;
      upper = inside;
      present = there;
      balance = h.holds.balanced;
      value_rank = leaf_names;
    };
    levels = low t d opens more s top v h;
    room = omega (arith, h.room, low t d opens more s top v h);
  }

  pub was_inserted : found block (content 1 s v.root) ≡ None → (u : Tm) (later : DiskState) → u.geometry ≡ t.geometry → (root : ℕ) → InsertedAt s u later Mapping opens held (height 1 s v.root) top v.root x root
      → Slotted s u later opens held top (record { root = root; mapped = v.mapped + 1; size = v.size }) (with_entry x (content 1 s v.root))
  was_inserted none u later same root r =
      let i = r.inserted in record {
        after = r.after;
        holds = r.holds;
        frame = i.frame;
        volume = λ device.
            volume_with_entry s r.after top i.height (entry_of 0 v) (entry_of device (record { root = root; mapped = v.mapped + 1; size = v.size })) x (h.volume 0)
            (sized_then t d opens more s top v h u later (root ∷ held) r.after same r.holds) i.whole i.content far (sym (ap (λ o. mapped_after o v.mapped) none));
        content_is = content_is_pairs 1 i.height r.after 0 top root i.whole.tree ∙ i.content;
      }

  pub was_replaced : (old : Entry) → found block (content 1 s v.root) ≡ Some old → (u : Tm) (later : DiskState) (done : Changed)
      → (r : Swapped t.geometry.metadata_blocks s u later Mapping opens held (height 1 s v.root) 0 top v.root x old done)
      → (w : Tm) → w.geometry ≡ t.geometry → Holds w later opens (done.root ∷ held) (with_count r.after old.value (count_of r.after old.value - 1))
      → Slotted s w later opens held top (record { root = done.root; mapped = v.mapped; size = v.size }) (with_entry x (content 1 s v.root))
  was_replaced old there u later done r w same holds =
      let i = r.replaced in
      let k = height 1 s v.root in
      let z = with_count r.after old.value (count_of r.after old.value - 1) in
      let whole : IsWhole 1 k r.after top done.root = record { tree = i.tree; branches = λ some. omega (arith, i.same, (h.volume 0).tree.branches some) } in
      let still : IsWhole 1 k z top done.root = whole_still r.after old.value k top done.root whole in
      let is : pairs k z done.root ≡ with_entry x (content 1 s v.root) = pairs_still r.after old.value k top done.root whole ∙ i.content in
      record {
        after = z;
        holds = holds;
        frame = frame_still r.after old.value s old.value held i.frame;
        volume = λ device.
            volume_with_entry s z top k (entry_of 0 v) (entry_of device (record { root = done.root; mapped = v.mapped; size = v.size })) x (h.volume 0)
            (sized_then t d opens more s top v h w later (done.root ∷ held) z same holds) still is far (sym (ap (λ o. mapped_after o v.mapped) there));
        content_is = content_is_pairs 1 k z 0 top done.root still.tree ∙ is;
      }

-- ---- taken out

module _ (t : Tm) (d : DiskState) (opens held : List ℕ) (s : Store) (top : ℕ) (v : Volume) (block : ℕ)
    (h : HoldsSlots t d opens held s top v) (old : Entry) (there : found block (content 1 s v.root) ≡ Some old) where
  pub mapped_some : 0 < v.mapped
  mapped_some =
      omega (arith, (h.volume 0).mapped, length-without_key 0 top block old (content 1 s v.root) (ascend_tree 1 (height 1 s v.root) s 0 top v.root (h.volume 0).tree.tree) there)

  pub may_remove : CanRemove t d Mapping opens held s (height 1 s v.root) 0 top v.root block old
  may_remove = record {
    holds = h.holds;
    removing = record {
      tree = (h.volume 0).tree.tree;
      lower = omega arith;
      upper = (found_within 0 top block old.value (content 1 s v.root) (ascend_tree 1 (height 1 s v.root) s 0 top v.root (h.volume 0).tree.tree) (value_from block old (content 1 s v.root) there)).1;
      present = there;
      branches = (h.volume 0).tree.branches;
      balance = h.holds.balanced;
    };
    levels = low t d opens held s top v h;
    room = omega (arith, h.room, low t d opens held s top v h);
  }

  pub was_removed : (mapped : ℕ) → mapped + 1 ≡ v.mapped → (u : Tm) (later : DiskState) (done : Changed)
      → (r : WasRemoved t.geometry.metadata_blocks s u later Mapping opens held (height 1 s v.root) top v.root block old done)
      → (w : Tm) → w.geometry ≡ t.geometry → Holds w later opens (done.root ∷ held) (with_count r.after old.value (count_of r.after old.value - 1))
      → Slotted s w later opens held top (record { root = done.root; mapped = mapped; size = v.size }) (without_key block (content 1 s v.root))
  was_removed mapped one u later done r w same holds =
      let i = r.removed in
      let z = with_count r.after old.value (count_of r.after old.value - 1) in
      let still : IsWhole 1 i.height z top done.root = whole_still r.after old.value i.height top done.root i.whole in
      let is : pairs i.height z done.root ≡ without_key block (content 1 s v.root) = pairs_still r.after old.value i.height top done.root i.whole ∙ i.content in
      record {
        after = z;
        holds = holds;
        frame = frame_still r.after old.value s old.value held i.frame;
        volume = λ device.
            volume_without_entry s z top i.height (entry_of 0 v) (entry_of device (record { root = done.root; mapped = mapped; size = v.size })) old block (h.volume 0)
            (sized_then t d opens held s top v h w later (done.root ∷ held) z same holds) still there is one;
        content_is = content_is_pairs 1 i.height z 0 top done.root still.tree ∙ is;
      }
