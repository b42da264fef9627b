-- The slots of the trees in the lists.
use Rattle.std.proofs.Common.{◌≡◌, ◌≢◌, ℕ, suc, ◌+◌, ◌-◌, ◌≤◌, List, [], ◌∷◌, length, map, refl, sym, ap, ◌∙◌, arith, inl, inr, Option, Some, None, option_map}
use Rattle.std.proofs.lemmas.List.{length-map}
use Rattle.std.proofs.lemmas.Bool.{cases_eq}
use Rattle.std.proofs.lemmas.Bool.Decides.{nat_tests}
use Rattle.std.specs.Prelude.{◌^◌}
use Rattle.tp_layout.specs.declared.entry.Entry.{Entry}
use Rattle.tp_layout.specs.Entries.{Ascend, found}
use Rattle.tp_layout.proofs.Ordered.{found_below, found_here, found_later}
use Rattle.tp_refs.specs.Store.{Store, node_at}
use Rattle.tp_trees.proofs.Trees.{ascend_tree}
use Rattle.tp_sharing.specs.Forest.{Forest, Slot, content, value_at}
use Rattle.tp_sharing.specs.Volumes.{BlockSlot, DeviceSlots, DevicesAscend, LookupsAreListed, MappedIsTold, SlotsAreListed, SlotsAscend, Volumes, device_from, device_of, mapped_of, size_of, place_in, place_or_none, slot_from, slot_of, volumes_below}
use Rattle.tp_sharing.proofs.Lists.{entry_of, some_eq, value_from}

pub device_here : (id : ℕ) (d : DeviceSlots) (ds : Volumes) → d.id ≡ id → device_of id (d ∷ ds) ≡ Some d.slots
device_here id d ds h = grind (arith, nat_tests)

pub device_later : (id : ℕ) (d : DeviceSlots) (ds : Volumes) → d.id ≢ id → device_of id (d ∷ ds) ≡ device_of id ds
device_later id d ds h = grind (arith, nat_tests)

pub size_here : (id : ℕ) (d : DeviceSlots) (ds : Volumes) → d.id ≡ id → size_of id (d ∷ ds) ≡ Some d.size
size_here id d ds h = grind (arith, nat_tests)

pub size_later : (id : ℕ) (d : DeviceSlots) (ds : Volumes) → d.id ≢ id → size_of id (d ∷ ds) ≡ size_of id ds
size_later id d ds h = grind (arith, nat_tests)

pub place_here : (block : ℕ) (x : BlockSlot) (xs : List BlockSlot) → x.block ≡ block → place_in block (x ∷ xs) ≡ Some x.place
place_here block x xs h = grind (arith, nat_tests)

pub place_later : (block : ℕ) (x : BlockSlot) (xs : List BlockSlot) → x.block ≢ block → place_in block (x ∷ xs) ≡ place_in block xs
place_later block x xs h = grind (arith, nat_tests)

-- the slots of an entry of the device tree
abbrev pub slots_from : ℕ → Store → Entry → List BlockSlot
slots_from m s e = map (slot_from m) (content 1 s e.value)

pub device_found : (m : ℕ) (s : Store) (id : ℕ) (es : List Entry) → device_of id (map (device_from m s) es) ≡ option_map (slots_from m s) (found id es)
device_found m s id [] = refl
device_found m s id (e ∷ es) =
    elim (cases_eq e.key id) [
      | inl p ↦ device_here id (device_from m s e) (map (device_from m s) es) p ∙ ap (option_map (slots_from m s)) (sym (found_here id e es p))
      | inr d ↦ device_later id (device_from m s e) (map (device_from m s) es) d ∙ (device_found m s id es ∙ ap (option_map (slots_from m s)) (sym (found_later id e es d)))
    ]

pub size_found : (m : ℕ) (s : Store) (id : ℕ) (es : List Entry) → size_of id (map (device_from m s) es) ≡ option_map (λ (e : Entry). e.size) (found id es)
size_found m s id [] = refl
size_found m s id (e ∷ es) =
    elim (cases_eq e.key id) [
      | inl p ↦ size_here id (device_from m s e) (map (device_from m s) es) p ∙ ap (option_map (λ (x : Entry). x.size)) (sym (found_here id e es p))
      | inr d ↦ size_later id (device_from m s e) (map (device_from m s) es) d ∙ (size_found m s id es ∙ ap (option_map (λ (x : Entry). x.size)) (sym (found_later id e es d)))
    ]

pub place_found : (m block : ℕ) (xs : List Entry) → place_in block (map (slot_from m) xs) ≡ option_map (λ (x : Entry). x.value - m) (found block xs)
place_found m block [] = refl
place_found m block (x ∷ xs) =
    elim (cases_eq x.key block) [
      | inl p ↦ place_here block (slot_from m x) (map (slot_from m) xs) p ∙ ap (option_map (λ (y : Entry). y.value - m)) (sym (found_here block x xs p))
      | inr d ↦ place_later block (slot_from m x) (map (slot_from m) xs) d ∙ (place_found m block xs ∙ ap (option_map (λ (y : Entry). y.value - m)) (sym (found_later block x xs d)))
    ]

pub lookups_are_listed : LookupsAreListed
lookups_are_listed = record {
  devices = λ m s root device. device_found m s device (content 5 s root);
  sizes = λ m s root device. size_found m s device (content 5 s root);
  slots = λ m s root device block volume h.
      ap (place_or_none block) (device_found m s device (content 5 s root) ∙ ap (option_map (slots_from m s)) h) ∙ place_found m block (content 1 s volume.value);
}

module _ (m : ℕ) (s : Store) (root : ℕ) (fixed : List ℕ) (top : ℕ) (f : Forest s root fixed top) (is : length s.nodes ≡ m) (device block place : ℕ) where
  -- what the lists have of an entry of the device tree
  listed : (e : Entry) → found device (content 5 s root) ≡ Some e → slot_of device block (volumes_below m s root) ≡ option_map (λ (x : Entry). x.value - m) (found block (content 1 s e.value))
  listed e h = lookups_are_listed.slots m s root device block e h

  pub slot_listed : Slot s root device block (m + place) → slot_of device block (volumes_below m s root) ≡ Some place
  slot_listed h =
      let e = entry_of device h.0 (content 5 s root) h.1 in
      let x = entry_of block (m + place) (content 1 s e.0.value) (ap (λ y. value_at block (content 1 s y)) e.2 ∙ h.2) in
      listed e.0 e.1 ∙ (ap (option_map (λ (y : Entry). y.value - m)) x.1 ∙ ap Some (let p : x.0.value - m ≡ place = omega (arith, x.2) in p))

  by_block : (e : Entry) → found device (content 5 s root) ≡ Some e → (o : Option Entry) → found block (content 1 s e.value) ≡ o → slot_of device block (volumes_below m s root) ≡ Some place → Slot s root device block (m + place)
  by_block e d None b h =
      let n : slot_of device block (volumes_below m s root) ≡ None = listed e d ∙ ap (option_map (λ (y : Entry). y.value - m)) b in
      absurd (cc)
  by_block e d (Some x) b h =
      let n : slot_of device block (volumes_below m s root) ≡ Some (x.value - m) = listed e d ∙ ap (option_map (λ (y : Entry). y.value - m)) b in
      let p : x.value - m ≡ place = some_eq (x.value - m) place (sym n ∙ h) in
      let far : length s.nodes ≤ x.value = (f.volumes device e d).data_blocks block x b in
      let q : x.value ≡ m + place = omega (arith, p, far, is) in
      (e.value, value_from device e (content 5 s root) d, value_from block x (content 1 s e.value) b ∙ ap Some q)

  by_device : (o : Option Entry) → found device (content 5 s root) ≡ o → slot_of device block (volumes_below m s root) ≡ Some place → Slot s root device block (m + place)
  by_device None d h =
      let n : slot_of device block (volumes_below m s root) ≡ None = ap (place_or_none block) (device_found m s device (content 5 s root) ∙ ap (option_map (slots_from m s)) d) in
      absurd (cc)
  by_device (Some e) d h = by_block e d (found block (content 1 s e.value)) refl h

  pub listed_slot : slot_of device block (volumes_below m s root) ≡ Some place → Slot s root device block (m + place)
  listed_slot h = by_device (found device (content 5 s root)) refl h

pub slots_are_listed : SlotsAreListed
slots_are_listed m s root fixed top f is device block place = (slot_listed m s root fixed top f is device block place, listed_slot m s root fixed top f is device block place)

-- ---- order

slots_ascend : (m low high : ℕ) (xs : List Entry) → Ascend low high xs → SlotsAscend low (map (slot_from m) xs)
slots_ascend m low high [] h = tt
slots_ascend m low high (x ∷ xs) h = (h.0, slots_ascend m (suc x.key) high xs h.1)

devices_ascend : (m : ℕ) (s : Store) (low high top : ℕ) (es : List Entry) → Ascend low high es → ((id : ℕ) (e : Entry) → found id es ≡ Some e → Ascend 0 top (content 1 s e.value)) → DevicesAscend low (map (device_from m s) es)
devices_ascend m s low high top [] h each = tt
devices_ascend m s low high top (e ∷ es) h each = (
  h.0,
  slots_ascend m 0 top (content 1 s e.value) (each e.key e (found_here e.key e es refl)),
  devices_ascend m s (suc e.key) high top es h.1 (λ id x g. each id x (found_later id e es (λ p. apart id x p g) ∙ g)),
)
  where
    apart : (id : ℕ) (x : Entry) → e.key ≡ id → found id es ≡ Some x → ⊥
    apart id x p g = let n : found id es ≡ None = found_below (suc e.key) high id es h.1 (omega (arith, p)) in absurd (cc)

pub lists_ascend_below : (m : ℕ) (s : Store) (root : ℕ) (fixed : List ℕ) (top : ℕ) → Forest s root fixed top → DevicesAscend 0 (volumes_below m s root)
lists_ascend_below m s root fixed top f =
    devices_ascend m s 0 (2 ^ 24) top (content 5 s root) (ascend_tree 5 ((node_at s root).rank - 5) s 0 (2 ^ 24) root f.devices.tree)
    (λ id e h. ascend_tree 1 ((node_at s e.value).rank - 1) s 0 top e.value (f.volumes id e h).tree.tree)

-- ---- the number of mapped blocks

pub mapped_is_told : MappedIsTold
mapped_is_told m s root fixed top f device = go (found device (content 5 s root)) refl where
  go : (o : Option Entry) → found device (content 5 s root) ≡ o → option_map (λ (e : Entry). e.mapped) (found device (content 5 s root)) ≡ mapped_of device (volumes_below m s root)
  go None h =
      ap (option_map (λ (e : Entry). e.mapped)) h
      ∙ sym (ap (option_map length) (device_found m s device (content 5 s root) ∙ ap (option_map (slots_from m s)) h))
  go (Some e) h =
      ap (option_map (λ (e : Entry). e.mapped)) h
      ∙ (ap Some ((f.volumes device e h).mapped ∙ sym (length-map (content 1 s e.value) (slot_from m)))
      ∙ sym (ap (option_map length) (device_found m s device (content 5 s root) ∙ ap (option_map (slots_from m s)) h)))
