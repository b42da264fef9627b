-- Images with one fault each, and one with none.
use Rattle.std.proofs.Common.{lit<, true, false, ◌^◌, zero, suc, ◌≡◌, ℕ, ◌<◌, ◌≤◌, List, [], ◌∷◌, length, inl, inr, ◌⊎◌, refl, sym, ap, ◌∙◌, subst, arith}
use Rattle.std.specs.Prelude.{Contains, slice_index}
use Rattle.std.specs.List.Sorted.{IsStrictlyIncreasing}
use Rattle.std.proofs.lemmas.List.Elements.{All-from_recursion}
use Rattle.tp_model.specs.declared.refusal.Refusal.TheVariants.{NotAPool}
use Rattle.tp_model.specs.Geometry.{IsTreeBlock}
use Rattle.tp_model.specs.Told.{IsToldSize, told_blocks}
use Rattle.tp_model.specs.Sectors.{Sector}
use Rattle.tp_layout.specs.Node.{NodeValue, IsFormed, IsNode, FitsEntry, kind_number, node_bytes}
use Rattle.tp_layout.specs.Numbers.{number32}
use Rattle.tp_layout.specs.declared.counts.Part.TheVariants.{Metadata}
use Rattle.tp_layout.specs.declared.entry.Entry.{Entry}
use Rattle.tp_layout.specs.declared.kind.TreeKind.TheVariants.{Device, Mapping}
use Rattle.tp_layout.specs.declared.superblock.SlotId.TheVariants.{Zero}
use Rattle.tp_layout.specs.declared.superblock.Slot.TheVariants.{Foreign}
use Rattle.tp_layout.specs.declared.superblock.Version.{Version}
use Rattle.tp_layout.specs.declared.superblock.Version.TheVariants.{OneSize, OwnSizes}
use Rattle.tp_layout.proofs.NodeLaws.{form_node_bytes, formed_says}
use Rattle.tp_image.specs.Nodes.{IsDevice, IsNodeAt, LeadsTo, ends, goes, block_at}
use Rattle.tp_image.specs.Examples.{HasDevices, HasOneBlock, HasRoot, HasNoCounts, small_record, device_leaf, mapping_leaf, two_nodes, one_record, snapshot_record, example, other_kind, late_key, far_block, only_child, no_entry}
use Rattle.tp_image.specs.Faults.{Name, root_name, IsFormedAs, IsGoodAs, IsNamed, devices, child, volume, HasBadSuper, HasBadNode, HasBadRecordSize, unformed, nonzero, HasBadOrder, IsOutOfOrder, is_root, HasOutOfPlace, entry, many, HasHalfEmpty, HasBadMapped, HasBadCount, untrue}
use Rattle.tp_image.specs.Fresh.{fresh_super}
use Rattle.tp_image.specs.Counts.{is_naming_data}
use Rattle.tp_image.specs.Rules.{IsContent, IsInRange, least_of}
use Rattle.tp_image.proofs.AreaLaws.{HoldsCounts-one}
use Rattle.tp_image.proofs.SharedRoot.{one_root, fits_long, devices_good, mappings_good, one_of_two, two_reached}
use Rattle.tp_image.proofs.Uniqueness.{IsNodeAt-one}

-- no disk, no superblock
pub empty_bad : HasBadSuper []
empty_bad = inl (
  NotAPool,
  record {
    first = Foreign;
    second = Foreign;
    first_is = inr ((λ h. absurd (omega (arith, h))), refl);
    second_is = inr ((λ h. absurd (omega (arith, h))), refl);
    choice_is = refl;
  },
)

tree_block : (b : ℕ) → 8 ≤ b → b < 2048 → IsTreeBlock example b
tree_block b low high = (omega (arith, low), high)

short_fits : (e : Entry) → e.key < 2 ^ 64 → e.value < 2 ^ 64 → e.mapped ≡ 0 → e.size ≡ 0 → FitsEntry false e
short_fits e k v m z = record { key = k; value = v; mapped = omega (arith, m); size = omega (arith, z); short = λ _. m; sizeless = λ _. z }

one_ascends : (k : ℕ) → IsStrictlyIncreasing (k ∷ [])
one_ascends k i lt = absurd (omega (arith, lt))

none_ascends : IsStrictlyIncreasing []
none_ascends i lt = absurd (omega (arith, lt))

devices_at : (image : List Sector) → block_at image 8 ≡ node_bytes device_leaf → IsGoodAs image example (root_name Device (2 ^ 24) 8) device_leaf
devices_at image has = record {
  formed = record { place = tree_block 8 (omega arith) (omega arith); form = devices_good.form; own = refl; bytes = has; kind = refl; level = tt };
  ascending = devices_good.ascending;
}

root_named : (image : List Sector) → block_at image 8 ≡ node_bytes device_leaf → IsNamed image example (8 ∷ []) (root_name Mapping 16 9)
root_named image has = volume (root_name Device (2 ^ 24) 8) device_leaf one_record (devices 8 (0, omega arith, refl)) (devices_at image has) refl refl (0, omega arith, refl)

root_at : (image : List Sector) (n : NodeValue) → IsFormed n → n.own ≡ 9 → n.kind ≡ Mapping → block_at image 9 ≡ node_bytes n → IsFormedAs image example (root_name Mapping 16 9) n
root_at image n form own kind has = record { place = tree_block 9 (omega arith) (omega arith); form = form; own = own; bytes = has; kind = kind; level = tt }

other_kind_formed : IsFormed other_kind
other_kind_formed = record { level = omega arith; own = omega arith; room = omega arith; entries = All-from_recursion (FitsEntry true) [] tt }

pub bad_node : (image : List Sector) (version : Version) → HasRoot other_kind image → HasBadNode image version example (8 ∷ [])
bad_node image version has =
    unformed (root_name Mapping 16 9) (root_named image has.devices) (tree_block 9 (omega arith) (omega arith))
    (λ n at.
    let two : number32 (node_bytes n) ≡ 2 = (form_node_bytes n at.form).kind_is ∙ ap kind_number at.kind in
    let one : number32 (node_bytes other_kind) ≡ 1 = (form_node_bytes other_kind other_kind_formed).kind_is in
    let same : number32 (node_bytes n) ≡ number32 (node_bytes other_kind) = ap number32 (sym at.bytes ∙ has.mappings) in
    absurd (omega (arith, two, one, same)))

-- ---- a record with a size that no volume has

small_good : IsNode small_record
small_good = record {
  form = record { level = omega arith; own = omega arith; room = omega arith; entries = All-from_recursion (FitsEntry true) small_record.entries (fits_long _ (lit< tt) (lit< tt) (lit< tt) (lit< tt), tt) };
  ascending = one_ascends 0;
}

small_device : (image : List Sector) → HasDevices small_record image → IsDevice image 8 0 9 1 7
small_device image has = ends small_record (record { good = small_good; own = refl; bytes = has.here }) refl refl (0, omega arith, refl)

small_size : IsToldSize example 7 → ⊥
small_size (inl none) = absurd (omega (arith, none))
small_size (inr more) = absurd (omega (arith, more.0))

pub bad_size : (image : List Sector) → HasDevices small_record image → HasBadRecordSize image OwnSizes example (8 ∷ [])
bad_size image has = record { version_is = refl; root = 8; known = (0, omega arith, refl); id = 0; volume_root = 9; mapped = 1; size = 7; device = small_device image has; bad = small_size }

pub nonzero_size : (image : List Sector) → HasDevices small_record image → HasBadNode image OneSize example (8 ∷ [])
nonzero_size image has = nonzero 8 (0, omega arith, refl) 0 9 1 7 refl (small_device image has) (λ none. absurd (omega (arith, none)))

late_formed : IsFormed late_key
late_formed = record { level = omega arith; own = omega arith; room = omega arith; entries = All-from_recursion (FitsEntry false) late_key.entries (short_fits _ (lit< tt) (lit< tt) refl refl, tt) }

pub bad_order : (image : List Sector) → HasRoot late_key image → HasBadOrder image example (8 ∷ [])
bad_order image has = record {
  name = root_name Mapping 16 9;
  node = late_key;
  named = root_named image has.devices;
  formed = root_at image late_key late_formed refl refl has.mappings;
  broken = inr (inl (record { key = 16; value = 2; mapped = 0; size = 0 }, (0, omega arith, refl), inr (omega arith)));
}

far_formed : IsFormed far_block
far_formed = record { level = omega arith; own = omega arith; room = omega arith; entries = All-from_recursion (FitsEntry false) far_block.entries (short_fits _ (lit< tt) (lit< tt) refl refl, tt) }

pub out_of_place : (image : List Sector) → HasRoot far_block image → HasOutOfPlace image example (8 ∷ [])
out_of_place image has =
    entry (root_name Mapping 16 9) far_block (record { key = 3; value = 4; mapped = 0; size = 0 }) (root_named image has.devices)
    (record { formed = root_at image far_block far_formed refl refl has.mappings; ascending = one_ascends 3 }) (0, omega arith, refl) (λ h. absurd (omega (arith, h)))

only_formed : IsFormed only_child
only_formed = record { level = omega arith; own = omega arith; room = omega arith; entries = All-from_recursion (FitsEntry false) only_child.entries (short_fits _ (lit< tt) (lit< tt) refl refl, tt) }

pub half_empty : (image : List Sector) → HasRoot only_child image → HasHalfEmpty image example (8 ∷ [])
half_empty image has = record {
  name = root_name Mapping 16 9;
  node = only_child;
  named = root_named image has.devices;
  good = record { formed = root_at image only_child only_formed refl refl has.mappings; ascending = one_ascends 0 };
  few = omega arith;
}

empty_formed : IsFormed no_entry
empty_formed = record { level = omega arith; own = omega arith; room = omega arith; entries = All-from_recursion (FitsEntry false) [] tt }

empty_at : (image : List Sector) → HasRoot no_entry image → IsNodeAt image 9 no_entry
empty_at image has = record { good = record { form = empty_formed; ascending = none_ascends }; own = refl; bytes = has.mappings }

pub bad_mapped : (image : List Sector) → HasRoot no_entry image → HasBadMapped image example (8 ∷ [])
unfolding IsContent
bad_mapped image has = record {
  root = 8;
  known = (0, omega arith, refl);
  id = 0;
  volume_root = 9;
  mapped = 1;
  size = 0;
  level = 0;
  entries = [];
  device = ends device_leaf (record { good = devices_good; own = refl; bytes = has.devices }) refl refl (0, omega arith, refl);
  content = (no_entry, empty_at image has, refl, refl, refl);
  differs = λ h. absurd (omega (arith, h));
}

pub bad_count : (image : List Sector) → HasNoCounts image → HasBadCount image (fresh_super example)
bad_count image has = untrue Metadata Zero two_nodes refl (two_reached image has.nodes)
    (λ counts stored true_ones.
    let none : slice_index counts 8 ≡ 0 = ap (λ (cs : List ℕ). slice_index cs 8) (HoldsCounts-one image example Metadata Zero counts _ stored has.counts) in
    absurd (omega (arith, none, true_ones 8 (omega arith))))

-- ---- the volume with one block and its snapshot

abbrev AtDevices : Name → NodeValue → Type 0
AtDevices x n = (x ≡ root_name Device (2 ^ 24) 8) × (n ≡ device_leaf)

abbrev AtRoot : Name → NodeValue → Type 0
AtRoot x n = (x ≡ root_name Mapping 16 9) × (n ≡ mapping_leaf)

abbrev IsKnown : Name → Type 0
IsKnown x = (x ≡ root_name Device (2 ^ 24) 8) ⊎ (x ≡ root_name Mapping 16 9)

module _ (image : List Sector) (has : HasOneBlock image) where
  at_eight : IsNodeAt image 8 device_leaf
  at_eight = record { good = devices_good; own = refl; bytes = has.devices }

  at_nine : IsNodeAt image 9 mapping_leaf
  at_nine = record { good = mappings_good; own = refl; bytes = has.mappings }

  -- which node stands under a known name
  stands_formed : (x : Name) (n : NodeValue) → IsKnown x → IsFormedAs image example x n → AtDevices x n ⊎ AtRoot x n
  stands_formed x n (inl d) at =
      let here = subst (λ (y : Name). IsFormedAs image example y n) d at in
      inl (d, sym (formed_says Device (block_at image 8) n here.form here.kind here.bytes) ∙ formed_says Device (block_at image 8) device_leaf devices_good.form refl has.devices)
  stands_formed x n (inr m) at =
      let here = subst (λ (y : Name). IsFormedAs image example y n) m at in
      inr (m, sym (formed_says Mapping (block_at image 9) n here.form here.kind here.bytes) ∙ formed_says Mapping (block_at image 9) mapping_leaf mappings_good.form refl has.mappings)

  stands : (x : Name) (n : NodeValue) → IsKnown x → IsGoodAs image example x n → AtDevices x n ⊎ AtRoot x n
  stands x n is good = stands_formed x n is good.formed

  no_level : (x : Name) (n : NodeValue) (level : ℕ) → n.level ≡ suc level → AtDevices x n ⊎ AtRoot x n → ⊥
  no_level x n level up (inl d) = absurd (omega (arith, sym up ∙ ap (λ (m : NodeValue). m.level) d.1))
  no_level x n level up (inr m) = absurd (omega (arith, sym up ∙ ap (λ (m : NodeValue). m.level) m.1))

  record_root : (e : Entry) → Contains device_leaf.entries e → e.value ≡ 9
  record_root e h = one_nine e (one_of_two one_record snapshot_record e h.0 h.1 h.2)
    where
      one_nine : (e : Entry) → (one_record ≡ e) ⊎ (snapshot_record ≡ e) → e.value ≡ 9
      one_nine e (inl d) = ap (λ (x : Entry). x.value) (sym d)
      one_nine e (inr d) = ap (λ (x : Entry). x.value) (sym d)

  record_size : (e : Entry) → Contains device_leaf.entries e → e.size ≡ 0
  record_size e h = none e (one_of_two one_record snapshot_record e h.0 h.1 h.2)
    where
      none : (e : Entry) → (one_record ≡ e) ⊎ (snapshot_record ≡ e) → e.size ≡ 0
      none e (inl d) = ap (λ (x : Entry). x.size) (sym d)
      none e (inr d) = ap (λ (x : Entry). x.size) (sym d)

  root_of : (x : Name) (n : NodeValue) (e : Entry) → n.kind ≡ Device → Contains n.entries e → AtDevices x n ⊎ AtRoot x n → IsKnown (root_name Mapping (told_blocks example e.size) e.value)
  root_of x n e kind within (inl d) =
      let there = subst (λ (m : NodeValue). Contains m.entries e) d.1 within in
      inr ((λ i. root_name Mapping (told_blocks example (record_size e there i)) (record_root e there i)))
  root_of x n e kind within (inr m) = absurd (omega (arith, ap kind_number (sym kind ∙ ap (λ (m : NodeValue). m.kind) m.1)))

  known : (x : Name) → IsNamed image example (8 ∷ []) x → IsKnown x
  known x (devices root there) = inl (ap (root_name Device (2 ^ 24)) (sym (one_root 8 root there.0 there.1 there.2)))
  known x (child parent n level i e named good up at) = absurd (no_level parent n level up (stands parent n (known parent named) good))
  known x (volume parent n e named good kind leaf within) = root_of parent n e kind within (stands parent n (known parent named) good)

  root_formed : IsFormedAs image example (root_name Mapping 16 9) mapping_leaf
  root_formed = root_at image mapping_leaf mappings_good.form refl refl has.mappings

  unknown : (x : Name) → IsKnown x → ((n : NodeValue) → IsFormedAs image example x n → ⊥) → ⊥
  unknown x (inl d) none = none device_leaf (subst (λ (y : Name). IsFormedAs image example y device_leaf) (sym d) (devices_at image has.devices).formed)
  unknown x (inr m) none = none mapping_leaf (subst (λ (y : Name). IsFormedAs image example y mapping_leaf) (sym m) root_formed)

  device_key : (e : Entry) → Contains device_leaf.entries e → (e.key < 0) ⊎ (2 ^ 24 ≤ e.key) → ⊥
  device_key e h out = far e (one_of_two one_record snapshot_record e h.0 h.1 h.2) out
    where
      far : (e : Entry) → (one_record ≡ e) ⊎ (snapshot_record ≡ e) → (e.key < 0) ⊎ (2 ^ 24 ≤ e.key) → ⊥
      far e is (inl low) = absurd (omega (arith, low))
      far e (inl d) (inr high) = absurd (omega (arith, high, ap (λ (x : Entry). x.key) d))
      far e (inr d) (inr high) = absurd (omega (arith, high, ap (λ (x : Entry). x.key) d))

  root_entry : (e : Entry) → Contains mapping_leaf.entries e → record { key = 3; value = 2; mapped = 0; size = 0 } ≡ e
  root_entry e (zero, within, is) = is
  root_entry e (suc k, within, is) = absurd (omega (arith, within))

  in_order : (x : Name) (n : NodeValue) → AtDevices x n ⊎ AtRoot x n → IsOutOfOrder x n → ⊥
  in_order x n (inl d) out = ordered (subst (λ (y : Name). IsOutOfOrder y device_leaf) d.0 (subst (λ (m : NodeValue). IsOutOfOrder x m) d.1 out))
    where
      ordered : IsOutOfOrder (root_name Device (2 ^ 24) 8) device_leaf → ⊥
      ordered (inl unsorted) = unsorted devices_good.ascending
      ordered (inr (inl (e, within, far))) = device_key e within far
      ordered (inr (inr (inner, some, first))) = absurd (omega (arith, inner))
  in_order x n (inr d) out = ordered (subst (λ (y : Name). IsOutOfOrder y mapping_leaf) d.0 (subst (λ (m : NodeValue). IsOutOfOrder x m) d.1 out))
    where
      ordered : IsOutOfOrder (root_name Mapping 16 9) mapping_leaf → ⊥
      ordered (inl unsorted) = unsorted mappings_good.ascending
      ordered (inr (inl (e, within, inl low))) = absurd (omega (arith, low))
      ordered (inr (inl (e, within, inr high))) = absurd (omega (arith, high, ap (λ (x : Entry). x.key) (root_entry e within)))
      ordered (inr (inr (inner, some, first))) = absurd (omega (arith, inner))

  no_bad_order : HasBadOrder image example (8 ∷ []) → ⊥
  no_bad_order h = in_order h.name h.node (stands_formed h.name h.node (known h.name h.named) h.formed) h.broken

  no_half_empty : HasHalfEmpty image example (8 ∷ []) → ⊥
  no_half_empty h = filled h.name h.node (stands h.name h.node (known h.name h.named) h.good) h.few
    where
      filled : (x : Name) (n : NodeValue) → AtDevices x n ⊎ AtRoot x n → length n.entries < least_of (is_root x.level) n.kind n.level → ⊥
      filled x n (inl d) few = absurd (omega (arith, subst (λ (y : Name). length device_leaf.entries < least_of (is_root y.level) Device 0) d.0 (subst (λ (m : NodeValue). length m.entries < least_of (is_root x.level) m.kind m.level) d.1 few)))
      filled x n (inr d) few = absurd (omega (arith, subst (λ (y : Name). length mapping_leaf.entries < least_of (is_root y.level) Mapping 0) d.0 (subst (λ (m : NodeValue). length m.entries < least_of (is_root x.level) m.kind m.level) d.1 few)))

  in_place : (x : Name) (n : NodeValue) (e : Entry) → AtDevices x n ⊎ AtRoot x n → Contains n.entries e → IsInRange example (is_naming_data n.kind n.level) e.value
  in_place x n e (inl d) within = subst (λ (m : NodeValue). IsInRange example (is_naming_data m.kind m.level) e.value) (sym d.1)
      (tree_block e.value (omega (arith, record_root e (subst (λ (m : NodeValue). Contains m.entries e) d.1 within))) (omega (arith, record_root e (subst (λ (m : NodeValue). Contains m.entries e) d.1 within))))
  in_place x n e (inr d) within = subst (λ (m : NodeValue). IsInRange example (is_naming_data m.kind m.level) e.value) (sym d.1)
      (let is = ap (λ (y : Entry). y.value) (root_entry e (subst (λ (m : NodeValue). Contains m.entries e) d.1 within)) in omega (arith, is))

  few_records : (level : ℕ) (records : List Entry) → IsContent image Device level 8 records → length records ≤ 2
  unfolding IsContent
  few_records zero records (n, at, kind, leaf, is) = omega (arith, ap (λ (es : List Entry). length es) (is ∙ ap (λ (m : NodeValue). m.entries) (IsNodeAt-one image 8 n device_leaf at at_eight)))
  few_records (suc level) records (n, at, kind, inner, joined) = absurd (omega (arith, sym inner ∙ ap (λ (m : NodeValue). m.level) (IsNodeAt-one image 8 n device_leaf at at_eight)))

  none_out_of_place : HasOutOfPlace image example (8 ∷ []) → ⊥
  none_out_of_place (entry x n e named good within out) = out (in_place x n e (stands x n (known x named) good) within)
  none_out_of_place (many root there level records content over) =
      absurd (omega (arith, over, few_records level records (subst (λ (b : ℕ). IsContent image Device level b records) (sym (one_root 8 root there.0 there.1 there.2)) content)))

  mapped_entries : (level : ℕ) (entries : List Entry) → IsContent image Mapping level 9 entries → length entries ≡ 1
  unfolding IsContent
  mapped_entries zero entries (n, at, kind, leaf, is) = ap (λ (es : List Entry). length es) (is ∙ ap (λ (m : NodeValue). m.entries) (IsNodeAt-one image 9 n mapping_leaf at at_nine))
  mapped_entries (suc level) entries (n, at, kind, inner, joined) = absurd (omega (arith, sym inner ∙ ap (λ (m : NodeValue). m.level) (IsNodeAt-one image 9 n mapping_leaf at at_nine)))

  device_record : (e : Entry) → LeadsTo image Device 8 e → Contains device_leaf.entries e
  device_record e (ends n at kind leaf within) = subst (λ (m : NodeValue). Contains m.entries e) (IsNodeAt-one image 8 n device_leaf at at_eight) within
  device_record e (goes n below at kind inner within more) = absurd (omega (arith, inner, ap (λ (m : NodeValue). m.level) (IsNodeAt-one image 8 n device_leaf at at_eight)))

  known_record : (root : ℕ) (e : Entry) → Contains (8 ∷ []) root → LeadsTo image Device root e → Contains device_leaf.entries e
  known_record root e there path = device_record e (subst (λ (b : ℕ). LeadsTo image Device b e) (sym (one_root 8 root there.0 there.1 there.2)) path)

  no_size : (root id volume_root mapped size : ℕ) → Contains (8 ∷ []) root → IsDevice image root id volume_root mapped size → size ≡ 0
  no_size root id volume_root mapped size there path = record_size _ (known_record root (record { key = id; value = volume_root; mapped = mapped; size = size }) there path)

  no_bad_node : (version : Version) → HasBadNode image version example (8 ∷ []) → ⊥
  no_bad_node version (unformed x named place none) = unknown x (known x named) none
  no_bad_node version (nonzero root there id volume_root mapped size is path some) = some (no_size root id volume_root mapped size there path)

  no_bad_size : (version : Version) → HasBadRecordSize image version example (8 ∷ []) → ⊥
  no_bad_size version h = h.bad (inl (no_size h.root h.id h.volume_root h.mapped h.size h.known h.device))

  record_mapped : (e : Entry) → Contains device_leaf.entries e → e.mapped ≡ 1
  record_mapped e h = one (one_of_two one_record snapshot_record e h.0 h.1 h.2)
    where
      one : (one_record ≡ e) ⊎ (snapshot_record ≡ e) → e.mapped ≡ 1
      one (inl d) = ap (λ (x : Entry). x.mapped) (sym d)
      one (inr d) = ap (λ (x : Entry). x.mapped) (sym d)

  no_bad_mapped : HasBadMapped image example (8 ∷ []) → ⊥
  no_bad_mapped h =
      let within = known_record h.root (record { key = h.id; value = h.volume_root; mapped = h.mapped; size = h.size }) h.known h.device in
      h.differs (mapped_entries h.level h.entries (subst (λ (b : ℕ). IsContent image Mapping h.level b h.entries) (record_root _ within) h.content) ∙ sym (record_mapped _ within))

  pub no_faults : (version : Version) → (HasBadNode image version example (8 ∷ []) → ⊥) × (HasBadOrder image example (8 ∷ []) → ⊥) × (HasOutOfPlace image example (8 ∷ []) → ⊥) × (HasHalfEmpty image example (8 ∷ []) → ⊥)
      × (HasBadMapped image example (8 ∷ []) → ⊥) × (HasBadRecordSize image version example (8 ∷ []) → ⊥)
  no_faults version = (no_bad_node version, no_bad_order, none_out_of_place, no_half_empty, no_bad_mapped, no_bad_size version)
