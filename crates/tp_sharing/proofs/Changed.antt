-- The lists of changed trees.
use Rattle.std.proofs.Common.{◌≡◌, ◌≢◌, ℕ, suc, ◌-◌, ◌<◌, List, [], ◌∷◌, map, refl, sym, ap, ◌∙◌, arith, inl, inr, Option, Some, None, option_map}
use Rattle.std.specs.Prelude.{◌^◌}
use Rattle.std.proofs.lemmas.Bool.{cases_eq, cases_lt}
use Rattle.tp_layout.specs.declared.entry.Entry.{Entry}
use Rattle.tp_layout.specs.Entries.{Ascend, found, with_entry, without_key}
use Rattle.tp_layout.proofs.Ordered.{found_below, found_here, found_later, with_entry_first, with_entry_here, with_entry_later, without_key_here, without_key_later}
use Rattle.tp_refs.specs.Store.{Store, node_at}
use Rattle.tp_trees.proofs.Trees.{ascend_tree}
use Rattle.tp_sharing.specs.Forest.{Forest, content}
use Rattle.tp_sharing.specs.Volumes.{BlockSlot, DeviceSlots, DevicesAscend, Volumes, changed_at, device_from, device_of, size_of, slot_from, volumes_below, with_device, with_place, without_device, without_place}
use Rattle.tp_sharing.specs.Later.{SlotsOfDevice}
use Rattle.tp_sharing.specs.Changes.{OthersStay, VolumesWithDevice, VolumesWithSlot, VolumesWithoutDevice, VolumesWithoutSlot}
use Rattle.tp_sharing.proofs.Changes.{changed_here, changed_later, device_below, with_device_first, with_device_here, with_device_later, with_place_first, with_place_here, with_place_later, without_device_here, without_device_later, without_place_here, without_place_later}
use Rattle.tp_sharing.proofs.Slots.{device_found, device_here, device_later, lists_ascend_below, size_found, size_here, size_later, slots_from}

-- ---- the slots of a volume's tree

pub slots_with : (m : ℕ) (x : Entry) (es : List Entry) → map (slot_from m) (with_entry x es) ≡ with_place (slot_from m x) (map (slot_from m) es)
slots_with m x [] = refl
slots_with m x (e ∷ es) =
    elim (cases_lt x.key e.key) [
      | inl l ↦ ap (map (slot_from m)) (with_entry_first x e es l) ∙ sym (with_place_first (slot_from m x) (slot_from m e) (map (slot_from m) es) l)
      | inr g ↦ elim (cases_eq e.key x.key) [
        | inl p ↦ ap (map (slot_from m)) (with_entry_here x e es p) ∙ sym (with_place_here (slot_from m x) (slot_from m e) (map (slot_from m) es) p)
        | inr n ↦
            ap (map (slot_from m)) (with_entry_later x e es (omega (arith, n)))
            ∙ (ap (λ xs. slot_from m e ∷ xs) (slots_with m x es) ∙ sym (with_place_later (slot_from m x) (slot_from m e) (map (slot_from m) es) (omega (arith, n))))
      ]
    ]

pub slots_without : (m block : ℕ) (es : List Entry) → map (slot_from m) (without_key block es) ≡ without_place block (map (slot_from m) es)
slots_without m block [] = refl
slots_without m block (e ∷ es) =
    elim (cases_eq e.key block) [
      | inl p ↦ ap (map (slot_from m)) (without_key_here block e es p) ∙ sym (without_place_here block (slot_from m e) (map (slot_from m) es) p)
      | inr n ↦
          ap (map (slot_from m)) (without_key_later block e es n)
          ∙ (ap (λ xs. slot_from m e ∷ xs) (slots_without m block es) ∙ sym (without_place_later block (slot_from m e) (map (slot_from m) es) n))
    ]

-- ---- the devices

-- a device by the entries of its volume
abbrev pub device_with : ℕ → ℕ → ℕ → List Entry → DeviceSlots
device_with m id size xs = record { id = id; size = size; slots = map (slot_from m) xs }

-- the volumes of these entries, but for one id, have the content that they had
abbrev Same : Store → Store → ℕ → List Entry → Type 0
Same s t id es = (device : ℕ) (e : Entry) → found device es ≡ Some e → device ≢ id → content 1 t e.value ≡ content 1 s e.value

not_both : (o : Option Entry) (e : Entry) → o ≡ None → o ≡ Some e → ⊥
not_both o e a b = cc

module _ (m : ℕ) (s t : Store) where
  same_device : (id : ℕ) (e : Entry) (es : List Entry) → Same s t id (e ∷ es) → e.key ≢ id → device_from m t e ≡ device_from m s e
  same_device id e es each n = ap (device_with m e.key e.size) (each e.key e (found_here e.key e es refl) n)

  -- the entries behind one
  same_rest : (id high : ℕ) (e : Entry) (es : List Entry) → Ascend (suc e.key) high es → Same s t id (e ∷ es) → Same s t id es
  same_rest id high e es a each = λ device x f n.
      each device x (found_later device e es (λ q. absurd (not_both (found device es) x (found_below (suc e.key) high device es a (omega (arith, q))) f)) ∙ f) n

  -- where the one id stands before all, each device is as it was
  same_devices : (id low high : ℕ) (es : List Entry) → Ascend low high es → id < low → Same s t id es → map (device_from m t) es ≡ map (device_from m s) es
  same_devices id low high [] a l each = refl
  same_devices id low high (e ∷ es) a l each =
      ap (λ d. d ∷ map (device_from m t) es) (same_device id e es each (λ q. absurd (omega (arith, q, a.0))))
      ∙ ap (λ ds. device_from m s e ∷ ds) (same_devices id (suc e.key) high es a.1 (omega (arith, a.0)) (same_rest id high e es a.1 each))

  -- where the content of each volume is as it was
  pub kept_devices : (low high : ℕ) (es : List Entry) → Ascend low high es → ((device : ℕ) (e : Entry) → found device es ≡ Some e → content 1 t e.value ≡ content 1 s e.value) → map (device_from m t) es ≡ map (device_from m s) es
  kept_devices low high [] a each = refl
  kept_devices low high (e ∷ es) a each =
      ap (λ d. d ∷ map (device_from m t) es) (ap (device_with m e.key e.size) (each e.key e (found_here e.key e es refl)))
      ∙ ap (λ ds. device_from m s e ∷ ds) (kept_devices (suc e.key) high es a.1 (λ device x f. each device x (found_later device e es (λ q. absurd (not_both (found device es) x (found_below (suc e.key) high device es a.1 (omega (arith, q))) f)) ∙ f)))

  devices_with : (low high : ℕ) (x : Entry) (es : List Entry) → Ascend low high es → Same s t x.key es → map (device_from m t) (with_entry x es) ≡ with_device (device_from m t x) (map (device_from m s) es)
  devices_with low high x [] a each = refl
  devices_with low high x (e ∷ es) a each =
      let ds = map (device_from m s) es in
      elim (cases_lt x.key e.key) [
        | inl l ↦
            ap (map (device_from m t)) (with_entry_first x e es l)
            ∙ (ap (λ xs. device_from m t x ∷ xs) (same_devices x.key e.key high (e ∷ es) (omega arith, a.1) l each)
            ∙ sym (with_device_first (device_from m t x) (device_from m s e) ds l))
        | inr g ↦ elim (cases_eq e.key x.key) [
          | inl p ↦
              ap (map (device_from m t)) (with_entry_here x e es p)
              ∙ (ap (λ xs. device_from m t x ∷ xs) (same_devices x.key (suc e.key) high es a.1 (omega (arith, p)) (same_rest x.key high e es a.1 each))
              ∙ sym (with_device_here (device_from m t x) (device_from m s e) ds p))
          | inr n ↦
              ap (map (device_from m t)) (with_entry_later x e es (omega (arith, n)))
              ∙ (ap (λ d. d ∷ map (device_from m t) (with_entry x es)) (same_device x.key e es each n)
              ∙ (ap (λ xs. device_from m s e ∷ xs) (devices_with (suc e.key) high x es a.1 (same_rest x.key high e es a.1 each))
              ∙ sym (with_device_later (device_from m t x) (device_from m s e) ds (omega (arith, n)))))
        ]
      ]

  devices_without : (low high id : ℕ) (es : List Entry) → Ascend low high es → Same s t id es → map (device_from m t) (without_key id es) ≡ without_device id (map (device_from m s) es)
  devices_without low high id [] a each = refl
  devices_without low high id (e ∷ es) a each =
      let ds = map (device_from m s) es in
      elim (cases_eq e.key id) [
        | inl p ↦
            ap (map (device_from m t)) (without_key_here id e es p)
            ∙ (same_devices id (suc e.key) high es a.1 (omega (arith, p)) (same_rest id high e es a.1 each) ∙ sym (without_device_here id (device_from m s e) ds p))
        | inr n ↦
            ap (map (device_from m t)) (without_key_later id e es n)
            ∙ (ap (λ d. d ∷ map (device_from m t) (without_key id es)) (same_device id e es each n)
            ∙ (ap (λ xs. device_from m s e ∷ xs) (devices_without (suc e.key) high id es a.1 (same_rest id high e es a.1 each))
            ∙ sym (without_device_later id (device_from m s e) ds n)))
      ]

abbrev device_at : ℕ → ℕ → List BlockSlot → DeviceSlots
device_at id size xs = record { id = id; size = size; slots = xs }

-- a device put in the place of itself with other slots
pub with_is_changed : (low id size : ℕ) (f : List BlockSlot → List BlockSlot) (xs : List BlockSlot) (ds : Volumes) → DevicesAscend low ds → device_of id ds ≡ Some xs → size_of id ds ≡ Some size
    → with_device (device_at id size (f xs)) ds ≡ changed_at id f ds
with_is_changed low id size f xs [] a h told = absurd (cc)
with_is_changed low id size f xs (d ∷ ds) a h told =
    elim (cases_eq d.id id) [
      | inl e ↦
          let q : Some d.slots ≡ Some xs = sym (device_here id d ds e) ∙ h in
          let r : d.slots ≡ xs = cc in
          let p : Some d.size ≡ Some size = sym (size_here id d ds e) ∙ told in
          let z : d.size ≡ size = cc in
          with_device_here (device_at id size (f xs)) d ds e
          ∙ (ap (λ (ys : List BlockSlot). device_at id size (f ys) ∷ ds) (sym r)
          ∙ ((λ i. device_at (sym e i) (sym z i) (f d.slots) ∷ ds) ∙ sym (changed_here id f d ds e)))
      | inr n ↦
          let g : device_of id ds ≡ Some xs = sym (device_later id d ds n) ∙ h in
          let w : size_of id ds ≡ Some size = sym (size_later id d ds n) ∙ told in
          elim (cases_lt id d.id) [
            | inl l ↦ let z : device_of id ds ≡ None = device_below (suc d.id) id ds a.2 (omega arith) in absurd (cc)
            | inr ge ↦
                with_device_later (device_at id size (f xs)) d ds (omega (arith, n))
                ∙ (ap (λ ys. d ∷ ys) (with_is_changed (suc d.id) id size f xs ds a.2 g w) ∙ sym (changed_later id f d ds n))
          ]
    ]

-- ---- the trees

module _ (m : ℕ) (s t : Store) (root next : ℕ) (fixed : List ℕ) (top : ℕ) (f : Forest s root fixed top) where
  devices_ordered : Ascend 0 (2 ^ 24) (content 5 s root)
  devices_ordered = ascend_tree 5 ((node_at s root).rank - 5) s 0 (2 ^ 24) root f.devices.tree

  with_put : (x : Entry) → content 5 t next ≡ with_entry x (content 5 s root) → OthersStay s t root x.key → volumes_below m t next ≡ with_device (device_from m t x) (volumes_below m s root)
  with_put x e others = ap (map (device_from m t)) e ∙ devices_with m s t 0 (2 ^ 24) x (content 5 s root) devices_ordered others

  without_taken : (id : ℕ) → content 5 t next ≡ without_key id (content 5 s root) → OthersStay s t root id → volumes_below m t next ≡ without_device id (volumes_below m s root)
  without_taken id e others = ap (map (device_from m t)) e ∙ devices_without m s t 0 (2 ^ 24) id (content 5 s root) devices_ordered others

  -- the same for a device in one store
  own_slots : (g : List BlockSlot → List BlockSlot) (old new : Entry) → found new.key (content 5 s root) ≡ Some old → new.size ≡ old.size → map (slot_from m) (content 1 t new.value) ≡ g (slots_from m s old)
      → with_device (device_from m t new) (volumes_below m s root) ≡ changed_at new.key g (volumes_below m s root)
  own_slots g old new h size same =
      ap (λ (xs : List BlockSlot). with_device (device_at new.key new.size xs) (volumes_below m s root)) same
      ∙ with_is_changed 0 new.key new.size g (slots_from m s old) (volumes_below m s root) (lists_ascend_below m s root fixed top f)
      (device_found m s new.key (content 5 s root) ∙ ap (option_map (slots_from m s)) h)
      (size_found m s new.key (content 5 s root) ∙ (ap (option_map (λ (e : Entry). e.size)) h ∙ ap Some (sym size)))

  with_slots : (g : List BlockSlot → List BlockSlot) (old new : Entry) → found new.key (content 5 s root) ≡ Some old → new.size ≡ old.size → content 5 t next ≡ with_entry new (content 5 s root)
      → map (slot_from m) (content 1 t new.value) ≡ g (slots_from m s old) → OthersStay s t root new.key → volumes_below m t next ≡ changed_at new.key g (volumes_below m s root)
  with_slots g old new h size e same others = with_put new e others ∙ own_slots g old new h size same

pub slots_of_device : SlotsOfDevice
slots_of_device = record {
  with_one = λ m s root fixed top f old new x h size c.
      own_slots m s s root root fixed top f (with_place (slot_from m x)) old new h size (ap (map (slot_from m)) c ∙ slots_with m x (content 1 s old.value));
  without_one = λ m s root fixed top f old new block h size c.
      own_slots m s s root root fixed top f (without_place block) old new h size (ap (map (slot_from m)) c ∙ slots_without m block (content 1 s old.value));
}

pub volumes_with_device : VolumesWithDevice
volumes_with_device m s t root next fixed top f x e others = with_put m s t root next fixed top f x e others

pub volumes_without_device : VolumesWithoutDevice
volumes_without_device m s t root next fixed top f id e others = without_taken m s t root next fixed top f id e others

pub volumes_with_slot : VolumesWithSlot
volumes_with_slot m s t root next fixed top f old new x h size e c others =
    with_slots m s t root next fixed top f (with_place (slot_from m x)) old new h size e (ap (map (slot_from m)) c ∙ slots_with m x (content 1 s old.value)) others

pub volumes_without_slot : VolumesWithoutSlot
volumes_without_slot m s t root next fixed top f old new block h size e c others =
    with_slots m s t root next fixed top f (without_place block) old new h size e (ap (map (slot_from m)) c ∙ slots_without m block (content 1 s old.value)) others
