-- The volumes while the trees are changed.
use Rattle.std.proofs.Common.{◌≡◌, ℕ, zero, suc, ◌-◌, ◌<◌, ◌≤◌, List, [], length, map, refl, sym, ap, subst, ◌∙◌, arith, inl, inr, Option, None, Some}
use Rattle.std.proofs.lemmas.Bool.{cases_eq}
use Rattle.std.specs.Prelude.{◌^◌}
use Rattle.tp_layout.specs.declared.entry.Entry.{Entry}
use Rattle.tp_layout.specs.Entries.{Ascend, found, with_entry, without_key}
use Rattle.tp_layout.proofs.Ordered.{found_with_other, found_with_same, found_without_other, found_without_same, length-with_known, length-with_new, length-without_key}
use Rattle.tp_refs.specs.Store.{Node, Store, children, count_of, node_at}
use Rattle.tp_refs.specs.Balance.{Balanced, LowerStay, SameBelow, occurrences}
use Rattle.tp_refs.proofs.Steps.{child_closed, child_live, held_closed, held_live, one_same}
use Rattle.tp_trees.specs.Tree.{IsTree, IsWhole, led_to, pairs}
use Rattle.tp_trees.proofs.Frames.{pairs_same, same_head, tree_same}
use Rattle.tp_trees.proofs.Places.{found_named}
use Rattle.tp_trees.proofs.Trees.{ascend_tree, children_values, led, tree_rank}
use Rattle.tp_sharing.specs.Forest.{Forest, IsVolume, content}
use Rattle.tp_sharing.specs.Later.{ContentIsPairs, ContentStays, VolumeStays, DevicePut, DeviceTaken, DevicesChanged, EmptyForest, ForestAfter, ForestStays, LowBlocksStay, VolumeKept, NewVolume, VolumeWithEntry, VolumeWithoutEntry, VolumesAreLive, VolumesStay, mapped_after}
use Rattle.tp_sharing.specs.Volumes.{device_from, volumes_below, with_device, without_device}
use Rattle.tp_sharing.proofs.Changed.{device_with, kept_devices, volumes_with_device, volumes_without_device}
use Rattle.tp_sharing.proofs.Lists.{found_within, value_from}

-- ---- from a root to the leaf of a key

-- what holds of the root and passes to children holds of the leaf that has the key
pub leaf_of : (P : ℕ → Type 0) (base k : ℕ) (s : Store) (low high b q : ℕ) (e : Entry) → 0 < base → IsTree base k s low high b → low ≤ q → q < high → found q (pairs k s b) ≡ Some e
    → ((c d : ℕ) → P c → 0 < occurrences d (children (node_at s c)) → P d) → P b
    → (c : ℕ) × P c × ((node_at s c).rank ≡ base) × (0 < occurrences e.value (children (node_at s c)))
leaf_of P base zero s low high b q e some h l u f step p =
    (b, p, h.0, subst (λ xs. 0 < occurrences e.value xs) (sym (children_values (node_at s b) (omega (arith, h.0)))) (found_named q e (node_at s b).entries f))
leaf_of P base (suc k) s low high b q e some h l u f step p =
    let d = led base k s low high b q h l u in
    leaf_of P base k s d.from d.to (led_to q (node_at s b).entries) q e some d.tree d.lower d.upper (sym d.same_found ∙ f) step (step b (led_to q (node_at s b).entries) p d.child)

-- ---- content

pub content_stays : ContentStays
content_stays base s t high r h same =
    let k = (node_at s r).rank - base in
    let n : node_at t r ≡ node_at s r = same_head 0 s t r (same 0) in
    let e : (node_at t r).rank - base ≡ k = ap (λ (x : Node). x.rank - base) n in (
      subst (λ j. IsWhole base j t high r) (sym e) (record {
        tree = tree_same base k s t 0 high r (same k) h.tree;
        branches = λ some. subst (λ (x : Node). 2 ≤ length x.entries) (sym n) (h.branches some);
      }),
      ap (λ j. pairs j t r) e ∙ pairs_same base k s t 0 high r (same k) h.tree,
    )

pub volume_kept : VolumeKept
volume_kept s t top old e v len value mapped same =
    let c = content_stays 1 s t top old.value v.tree same in
    let here : content 1 t e.value ≡ content 1 s old.value = ap (content 1 t) value ∙ c.1 in (
      record {
        tree = subst (λ x. IsWhole 1 ((node_at t x).rank - 1) t top x) (sym value) c.0;
        data_blocks = λ block x f. subst (λ n. n ≤ x.value) (sym len) (v.data_blocks block x (ap (found block) (sym here) ∙ f));
        mapped = mapped ∙ (v.mapped ∙ sym (ap length here));
      },
      here,
    )

pub forest_after : ForestAfter
forest_after s t root next fixed top f len frame tree each = record {
  devices = tree;
  volumes = λ device e h. elim (each device e h) [
    | inl a ↦ (volume_kept s t top a.old e (f.volumes a.device a.old a.was) len a.value a.mapped a.same).0
    | inr v ↦ v
  ];
  once = f.once;
  bare = λ b h. ap (λ (n : Node). n.rank) (frame b 0 h) ∙ f.bare b h;
  inside = λ b h. subst (λ n. b < n) (sym len) (f.inside b h);
}

-- ---- volumes

module _ (s : Store) (root : ℕ) (fixed : List ℕ) (top : ℕ) (f : Forest s root fixed top) (device : ℕ) (e : Entry) (fd : found device (content 5 s root) ≡ Some e) where
  device_low : device < 2 ^ 24
  device_low = (found_within 0 (2 ^ 24) device e.value (content 5 s root) (ascend_tree 5 ((node_at s root).rank - 5) s 0 (2 ^ 24) root f.devices.tree) (value_from device e (content 5 s root) fd)).1

  -- what passes from the device tree's root to children comes to the leaf that names the volume
  device_leaf : (P : ℕ → Type 0) → ((c d : ℕ) → P c → 0 < occurrences d (children (node_at s c)) → P d) → P root
      → (c : ℕ) × P c × ((node_at s c).rank ≡ 5) × (0 < occurrences e.value (children (node_at s c)))
  device_leaf P step p = leaf_of P 5 ((node_at s root).rank - 5) s 0 (2 ^ 24) root device e (omega arith) f.devices.tree (omega arith) device_low fd step p

  -- a volume stays where all stays below the device tree's root
  pub same_volume : (t : Store) → ((k : ℕ) → SameBelow k s t root) → (k : ℕ) → SameBelow k s t e.value
  same_volume t same k =
      let c = device_leaf (λ b. (j : ℕ) → SameBelow j s t b) (λ b d h here j. (h (suc j)).1 d here) same in
      (c.1 (suc k)).1 e.value c.3

  module _ (opens held : List ℕ) (bal : Balanced s opens held) (here : 0 < occurrences root held) where
    live_leaf : (c : ℕ) × ((0 < count_of s c) × (occurrences c opens ≡ 0)) × ((node_at s c).rank ≡ 5) × (0 < occurrences e.value (children (node_at s c)))
    live_leaf =
        device_leaf (λ b. (0 < count_of s b) × (occurrences b opens ≡ 0))
        (λ b d h i. (child_live s opens held b d bal h.0 h.1 i, child_closed s opens held b d bal h.0 h.1 i))
        (held_live s opens held root bal here, held_closed s opens held root bal here)

    -- a volume's root is live, and not open, and its rank is below those of the device tree
    pub live_volume : (0 < count_of s e.value) × (occurrences e.value opens ≡ 0) × ((node_at s e.value).rank < 5)
    live_volume =
        let c = live_leaf in (
          child_live s opens held c.0 e.value bal c.1.0 c.1.1 c.3,
          child_closed s opens held c.0 e.value bal c.1.0 c.1.1 c.3,
          omega (arith, c.2, (bal.ranks c.0 e.value c.1.0 c.1.1 c.3).below),
        )

low_same : (rank : ℕ) (s t : Store) (opens held : List ℕ) → Balanced s opens held → LowerStay rank opens s t → (k b : ℕ) → 0 < count_of s b → occurrences b opens ≡ 0 → (node_at s b).rank < rank → SameBelow k s t b
low_same rank s t opens held bal low zero b live closed under = low.nodes b live closed under
low_same rank s t opens held bal low (suc k) b live closed under = (
  low.nodes b live closed under,
  λ c here.
      low_same rank s t opens held bal low k c (child_live s opens held b c bal live closed here) (child_closed s opens held b c bal live closed here)
      (omega (arith, under, (bal.ranks b c live closed here).below)),
)

pub low_blocks_stay : LowBlocksStay
low_blocks_stay rank s t opens held bal low b live closed under k = low_same rank s t opens held bal low k b live closed under

pub volumes_stay : VolumesStay
volumes_stay s t opens held root fixed top bal here f low device e fd =
    let v = live_volume s root fixed top f device e fd opens held bal here in
    let same : (k : ℕ) → SameBelow k s t e.value = low_blocks_stay 5 s t opens held bal low e.value v.0 v.1 v.2 in (
      record { device = device; old = e; was = fd; value = refl; mapped = refl; same = same },
      (content_stays 1 s t top e.value (f.volumes device e fd).tree same).1,
    )

-- ---- all of it

pub forest_stays : ForestStays
forest_stays s t root fixed top f len frame =
    let same : (k : ℕ) → SameBelow k s t root = λ k. frame root k (omega (arith, one_same root root refl)) in
    let c = content_stays 5 s t (2 ^ 24) root f.devices same in
    let keeps = λ (device : ℕ) (e : Entry) (fd : found device (content 5 s root) ≡ Some e). same_volume s root fixed top f device e fd t same in
    let contents = λ (device : ℕ) (e : Entry) (fd : found device (content 5 s root) ≡ Some e). (content_stays 1 s t top e.value (f.volumes device e fd).tree (keeps device e fd)).1 in
    record {
      forest = forest_after s t root root fixed top f len (λ r k h. frame r k (omega arith)) c.0
          (λ device e h.
          let fd : found device (content 5 s root) ≡ Some e = ap (found device) (sym c.1) ∙ h in
          inl (record { device = device; old = e; was = fd; value = refl; mapped = refl; same = keeps device e fd }));
      devices = c.1;
      volumes = contents;
      lists = λ m.
          ap (map (device_from m t)) c.1
          ∙ kept_devices m s t 0 (2 ^ 24) (content 5 s root) (ascend_tree 5 ((node_at s root).rank - 5) s 0 (2 ^ 24) root f.devices.tree) contents;
    }

pub volumes_are_live : VolumesAreLive
volumes_are_live s opens held root fixed top bal here f device e fd = live_volume s root fixed top f device e fd opens held bal here

-- ---- new volumes

pub content_is_pairs : ContentIsPairs
content_is_pairs base k s low high b h = ap (λ j. pairs j s b) (let e : (node_at s b).rank - base ≡ k = omega (arith, tree_rank base k s low high b h) in e)

-- a whole tree whose values are data blocks
volume_of : (t : Store) (top k : ℕ) (e : Entry) (ps : List Entry) → IsWhole 1 k t top e.value → pairs k t e.value ≡ ps → ((block : ℕ) (x : Entry) → found block ps ≡ Some x → length t.nodes ≤ x.value) → e.mapped ≡ length ps → IsVolume t top e
volume_of t top k e ps w is far mapped =
    let j : k ≡ (node_at t e.value).rank - 1 = omega (arith, tree_rank 1 k t 0 top e.value w.tree) in
    let c : content 1 t e.value ≡ ps = content_is_pairs 1 k t 0 top e.value w.tree ∙ is in
    record {
      tree = subst (λ n. IsWhole 1 n t top e.value) j w;
      data_blocks = λ block x f. far block x (ap (found block) (sym c) ∙ f);
      mapped = mapped ∙ sym (ap length c);
    }

none_found : (block : ℕ) (x : Entry) → found block [] ≡ Some x → ⊥
none_found block x h = cc

pub new_volume : NewVolume
new_volume t top e w is none = volume_of t top 0 e [] w is (λ block x f. absurd (none_found block x f)) none

same_entry : (x y : Entry) → Some x ≡ Some y → x ≡ y
same_entry x y h = cc

not_found : (o : Option Entry) (x : Entry) → o ≡ None → o ≡ Some x → ⊥
not_found o x a b = cc

volume_content_ascends : (s : Store) (top : ℕ) (e : Entry) → IsVolume s top e → Ascend 0 top (content 1 s e.value)
volume_content_ascends s top e v = ascend_tree 1 ((node_at s e.value).rank - 1) s 0 top e.value v.tree.tree

pub volume_with_entry : VolumeWithEntry
volume_with_entry s t top k old new x v len w is far mapped =
    volume_of t top k new (with_entry x (content 1 s old.value)) w is
    (λ block y f. subst (λ n. n ≤ y.value) (sym len) (elim (cases_eq block x.key) [
      | inl e ↦
          let z : x ≡ y = same_entry x y (sym (found_with_same x (content 1 s old.value)) ∙ (ap (λ b. found b (with_entry x (content 1 s old.value))) (sym e) ∙ f)) in
          subst (λ (a : Entry). length s.nodes ≤ a.value) z far
      | inr n ↦ v.data_blocks block y (sym (found_with_other x block (content 1 s old.value) n) ∙ f)
    ]))
    (mapped ∙ count (found x.key (content 1 s old.value)) refl)
  where
    count : (o : Option Entry) → found x.key (content 1 s old.value) ≡ o → mapped_after o old.mapped ≡ length (with_entry x (content 1 s old.value))
    count None h = omega (arith, length-with_new x (content 1 s old.value) h, v.mapped)
    count (Some was) h = omega (arith, length-with_known 0 top x was (content 1 s old.value) (volume_content_ascends s top old v) h, v.mapped)

pub volume_without_entry : VolumeWithoutEntry
volume_without_entry s t top k old new was block v len w here is mapped =
    let up = volume_content_ascends s top old v in
    volume_of t top k new (without_key block (content 1 s old.value)) w is
    (λ other y f. subst (λ n. n ≤ y.value) (sym len) (elim (cases_eq other block) [
      | inl e ↦ absurd (not_found (found block (without_key block (content 1 s old.value))) y (found_without_same 0 top block (content 1 s old.value) up) (ap (λ b. found b (without_key block (content 1 s old.value))) (sym e) ∙ f))
      | inr n ↦ v.data_blocks other y (sym (found_without_other block other (content 1 s old.value) n) ∙ f)
    ]))
    (omega (arith, mapped, length-without_key 0 top block was (content 1 s old.value) up here, v.mapped))

pub empty_forest : EmptyForest
empty_forest s root fixed top w none once bare inside =
    let c : content 5 s root ≡ [] = content_is_pairs 5 0 s 0 (2 ^ 24) root w.tree ∙ none in
    let j : 0 ≡ (node_at s root).rank - 5 = omega (arith, tree_rank 5 0 s 0 (2 ^ 24) root w.tree) in (
      record {
        devices = subst (λ n. IsWhole 5 n s (2 ^ 24) root) j w;
        volumes = λ device e h. absurd (none_found device e (ap (found device) (sym c) ∙ h));
        once = once;
        bare = bare;
        inside = inside;
      },
      λ m. ap (map (device_from m s)) c,
    )

-- ---- changes of the device tree

module _ (s t : Store) (root next : ℕ) (fixed opens held : List ℕ) (k top : ℕ) (f : Forest s root fixed top) (c : DevicesChanged s t root next fixed opens held k) where
  there : (device : ℕ) (e : Entry) → found device (content 5 s root) ≡ Some e → VolumeStays s t root e × (content 1 t e.value ≡ content 1 s e.value)
  there device e fd = volumes_stay s t opens held root fixed top c.balance c.held_root f c.stay device e fd

  whole_there : IsWhole 5 ((node_at t next).rank - 5) t (2 ^ 24) next
  whole_there =
      let j : k ≡ (node_at t next).rank - 5 = omega (arith, tree_rank 5 k t 0 (2 ^ 24) next c.whole.tree) in
      subst (λ n. IsWhole 5 n t (2 ^ 24) next) j c.whole

  content_there : (ps : List Entry) → pairs k t next ≡ ps → content 5 t next ≡ ps
  content_there ps is = content_is_pairs 5 k t 0 (2 ^ 24) next c.whole.tree ∙ is

  device_put : (x : Entry) → pairs k t next ≡ with_entry x (content 5 s root) → IsVolume s top x → 0 < occurrences x.value held → (node_at s x.value).rank < 5
      → Forest t next fixed top × ((m : ℕ) → volumes_below m t next ≡ with_device (device_from m s x) (volumes_below m s root))
  device_put x is v here low =
      let e = content_there (with_entry x (content 5 s root)) is in
      let same : (j : ℕ) → SameBelow j s t x.value = low_blocks_stay 5 s t opens held c.balance c.stay x.value (held_live s opens held x.value c.balance here) (held_closed s opens held x.value c.balance here) low in
      let new = volume_kept s t top x x v c.sized refl refl same in (
        forest_after s t root next fixed top f c.sized c.frame whole_there
            (λ device y h. elim (cases_eq device x.key) [
              | inl q ↦
                  let z : x ≡ y = same_entry x y (sym (found_with_same x (content 5 s root)) ∙ (ap (λ d. found d (with_entry x (content 5 s root))) (sym q) ∙ (ap (found device) (sym e) ∙ h))) in
                  inr (subst (IsVolume t top) z new.0)
              | inr n ↦ inl (there device y (sym (found_with_other x device (content 5 s root) n) ∙ (ap (found device) (sym e) ∙ h))).0
            ]),
        λ m.
            volumes_with_device m s t root next fixed top f x e (λ device y h n. (there device y h).1)
            ∙ ap (λ (xs : List Entry). with_device (device_with m x.key x.size xs) (volumes_below m s root)) new.1,
      )

  device_taken : (id : ℕ) → pairs k t next ≡ without_key id (content 5 s root) → Forest t next fixed top × ((m : ℕ) → volumes_below m t next ≡ without_device id (volumes_below m s root))
  device_taken id is =
      let e = content_there (without_key id (content 5 s root)) is in
      let up = ascend_tree 5 ((node_at s root).rank - 5) s 0 (2 ^ 24) root f.devices.tree in (
        forest_after s t root next fixed top f c.sized c.frame whole_there
            (λ device y h. elim (cases_eq device id) [
              | inl q ↦ absurd (not_found (found id (without_key id (content 5 s root))) y (found_without_same 0 (2 ^ 24) id (content 5 s root) up) (ap (λ d. found d (without_key id (content 5 s root))) (sym q) ∙ (ap (found device) (sym e) ∙ h)))
              | inr n ↦ inl (there device y (sym (found_without_other id device (content 5 s root) n) ∙ (ap (found device) (sym e) ∙ h))).0
            ]),
        λ m. volumes_without_device m s t root next fixed top f id e (λ device y h n. (there device y h).1),
      )

pub device_is_put : DevicePut
device_is_put s t root next fixed opens held k top f c x is v here low = device_put s t root next fixed opens held k top f c x is v here low

pub device_is_taken : DeviceTaken
device_is_taken s t root next fixed opens held k top f c id is = device_taken s t root next fixed opens held k top f c id is
