-- Changed volumes are in order and within a pool's sizes.
use Rattle.std.proofs.Common.{◌≡◌, ℕ, zero, suc, ◌+◌, ◌-◌, ◌<◌, ◌≤◌, Bool, true, false, List, [], ◌∷◌, ◌++◌, length, refl, sym, ap, subst, ◌∙◌, arith, inl, inr, Some, None}
use Rattle.std.specs.Prelude.{◌^◌, IsSome, Option, if◌then◌else◌, is_some}
use Rattle.std.specs.Option.{option_map}
use Rattle.std.proofs.lemmas.Bool.{cases_eq, cases_lt, false≢true, le-ltb, lt-ltb}
use Rattle.std.proofs.lemmas.List.{append-nil, length-map}
use Rattle.std.proofs.lemmas.List.Sums.{sum_by-cons}
use Rattle.tp_model.specs.Pool.{is_now}
use Rattle.tp_layout.specs.declared.entry.Entry.{Entry}
use Rattle.tp_refs.specs.Store.{Store, node_at}
use Rattle.tp_trees.proofs.Trees.{ascend_tree}
use Rattle.tp_sharing.specs.Forest.{Forest, content, value_at}
use Rattle.tp_stored.proofs.Members.{Among, among_found, map_among}
use Rattle.tp_model.specs.Geometry.{Geometry}
use Rattle.tp_sharing.specs.Volumes.{BlockSlot, DeviceSlots, DevicesAscend, SlotsAscend, Volumes, as_copy, changed_at, copies_below, device_from, device_of, devices_in, slot_of, with_device, without_device, without_place, without_slot, volumes_below, volumes_of}
use Rattle.tp_sharing.proofs.Lists.{found_within}
use Rattle.tp_sharing.proofs.Sized.{sized_without_slot}
use Rattle.tp_sharing.proofs.Slots.{device_here, device_later}
use Rattle.tp_sharing.proofs.Changes.{changed_here, changed_later, device_below, slot_changes, with_device_first, with_device_here, with_device_later, without_device_here, without_device_later, without_place_here, without_place_later}
use Rattle.tp_mapping.specs.Mapping.{IsWithin, without_copies}

-- ---- order

slots_from_lower : (low high : ℕ) (xs : List BlockSlot) → low ≤ high → SlotsAscend high xs → SlotsAscend low xs
slots_from_lower low high [] h a = tt
slots_from_lower low high (x ∷ xs) h a = (omega (arith, h, a.0), a.1)

without_place_ascends : (low block : ℕ) (xs : List BlockSlot) → SlotsAscend low xs → SlotsAscend low (without_place block xs)
without_place_ascends low block [] a = tt
without_place_ascends low block (y ∷ ys) a =
    elim (cases_eq y.block block) [
      | inl e ↦ subst (SlotsAscend low) (sym (without_place_here block y ys e)) (slots_from_lower low (suc y.block) ys (omega (arith, a.0)) a.1)
      | inr n ↦ subst (SlotsAscend low) (sym (without_place_later block y ys n)) (a.0, without_place_ascends (suc y.block) block ys a.1)
    ]

pub changed_ascends : (low id : ℕ) (f : List BlockSlot → List BlockSlot) (ds : Volumes) → ((xs : List BlockSlot) → SlotsAscend 0 xs → SlotsAscend 0 (f xs)) → DevicesAscend low ds → DevicesAscend low (changed_at id f ds)
changed_ascends low id f [] g a = tt
changed_ascends low id f (d ∷ ds) g a =
    elim (cases_eq d.id id) [
      | inl e ↦ subst (DevicesAscend low) (sym (changed_here id f d ds e)) (a.0, g d.slots a.1, a.2)
      | inr n ↦ subst (DevicesAscend low) (sym (changed_later id f d ds n)) (a.0, a.1, changed_ascends (suc d.id) id f ds g a.2)
    ]

-- ---- how many devices

-- what a device counts
abbrev pub weight : ℕ → ℕ
weight id = if is_now id then 1 else 0

pub one_more : (d : DeviceSlots) (ds : Volumes) → devices_in (d ∷ ds) ≡ weight d.id + devices_in ds
one_more d ds = sum_by-cons (λ (y : DeviceSlots). if is_now y.id then 1 else 0) d ds

at_most_one : (d : DeviceSlots) → weight d.id ≤ 1
at_most_one d = go (is_now d.id) where
  go : (b : Bool) → (if b then 1 else 0) ≤ 1
  go true = omega arith
  go false = omega arith

same_id : (a b : ℕ) → a ≡ b → weight a ≡ weight b
same_id a b e = ap weight e

pub changed_length : (id : ℕ) (f : List BlockSlot → List BlockSlot) (ds : Volumes) → devices_in (changed_at id f ds) ≡ devices_in ds
changed_length id f [] = refl
changed_length id f (d ∷ ds) =
    elim (cases_eq d.id id) [
      | inl e ↦ ap devices_in (changed_here id f d ds e) ∙ (one_more (record { id = d.id; size = d.size; slots = f d.slots }) ds ∙ sym (one_more d ds))
      | inr n ↦ ap devices_in (changed_later id f d ds n) ∙ (one_more d (changed_at id f ds) ∙ (ap (λ (k : ℕ). weight d.id + k) (changed_length id f ds) ∙ sym (one_more d ds)))
    ]

pub with_device_length : (x : DeviceSlots) (ds : Volumes) → devices_in (with_device x ds) ≤ devices_in ds + 1
with_device_length x [] = omega (arith, one_more x [], at_most_one x)
with_device_length x (y ∷ ys) =
    elim (cases_lt x.id y.id) [
      | inl l ↦ omega (arith, ap devices_in (with_device_first x y ys l), one_more x (y ∷ ys), at_most_one x)
      | inr g ↦ elim (cases_eq y.id x.id) [
        | inl e ↦ omega (arith, ap devices_in (with_device_here x y ys e), one_more x ys, one_more y ys, same_id y.id x.id e)
        | inr n ↦ omega (arith, ap devices_in (with_device_later x y ys (omega (arith, g, n))), one_more y (with_device x ys), one_more y ys, with_device_length x ys)
      ]
    ]

pub without_device_length : (id : ℕ) (ds : Volumes) → devices_in (without_device id ds) ≤ devices_in ds
without_device_length id [] = omega arith
without_device_length id (y ∷ ys) =
    elim (cases_eq y.id id) [
      | inl e ↦ omega (arith, ap devices_in (without_device_here id y ys e), one_more y ys)
      | inr n ↦ omega (arith, ap devices_in (without_device_later id y ys n), one_more y (without_device id ys), one_more y ys, without_device_length id ys)
    ]

pub all_now : (ds : Volumes) → ((d : DeviceSlots) → Among d ds → d.id < 2 ^ 24) → devices_in ds ≡ length ds
all_now [] low = refl
all_now (d ∷ ds) low =
    let one : weight d.id ≡ 1 = ap {B = ℕ} (λ b. if b then 1 else 0) (lt-ltb d.id (2 ^ 24) (low d (inl refl))) in
    omega (arith, one_more d ds, one, all_now ds (λ x k. low x (inr k)))

pub none_now : (ds : Volumes) → ((d : DeviceSlots) → Among d ds → 2 ^ 24 ≤ d.id) → devices_in ds ≡ 0
none_now [] high = refl
none_now (d ∷ ds) high =
    let none : weight d.id ≡ 0 = ap {B = ℕ} (λ b. if b then 1 else 0) (le-ltb d.id (2 ^ 24) (high d (inl refl))) in
    omega (arith, one_more d ds, none, none_now ds (λ x k. high x (inr k)))

pub devices_joined : (ds es : Volumes) → devices_in (ds ++ es) ≡ devices_in ds + devices_in es
devices_joined [] es = let none : devices_in [] ≡ 0 = refl in omega (arith, none)
devices_joined (d ∷ ds) es = omega (arith, one_more d (ds ++ es), one_more d ds, devices_joined ds es)

keeps_now : (ds : Volumes) → ((d : DeviceSlots) → Among d ds → d.id < 2 ^ 24) → without_copies ds ≡ ds
keeps_now [] low = refl
keeps_now (d ∷ ds) low = ap (λ b. if b then d ∷ without_copies ds else without_copies ds) (lt-ltb d.id (2 ^ 24) (low d (inl refl))) ∙ ap (λ (xs : Volumes). d ∷ xs) (keeps_now ds (λ x k. low x (inr k)))

keeps_none : (ds : Volumes) → ((d : DeviceSlots) → Among d ds → 2 ^ 24 ≤ d.id) → without_copies ds ≡ []
keeps_none [] high = refl
keeps_none (d ∷ ds) high = ap (λ b. if b then d ∷ without_copies ds else without_copies ds) (le-ltb d.id (2 ^ 24) (high d (inl refl))) ∙ keeps_none ds (λ x k. high x (inr k))

keeps_joined : (ds es : Volumes) → without_copies (ds ++ es) ≡ without_copies ds ++ without_copies es
keeps_joined [] es = refl
keeps_joined (d ∷ ds) es = go (is_now d.id) (keeps_joined ds es) where
  go : (b : Bool) → without_copies (ds ++ es) ≡ without_copies ds ++ without_copies es
      → (if b then d ∷ without_copies (ds ++ es) else without_copies (ds ++ es)) ≡ (if b then d ∷ without_copies ds else without_copies ds) ++ without_copies es
  go true rest = ap (λ (xs : Volumes). d ∷ xs) rest
  go false rest = rest

copy_high : (m : ℕ) (s : Store) (n : ℕ) (d : DeviceSlots) → Among d (copies_below m s (suc n)) → 2 ^ 24 ≤ d.id
copy_high m s n d k =
    let c = map_among as_copy d (volumes_below m s (suc n)) k in
    let id : d.id ≡ 2 ^ 24 + c.0.id = ap (λ (x : DeviceSlots). x.id) c.2 in
    omega (arith, id)

no_copies_below : (m : ℕ) (s : Store) (held : ℕ) → without_copies (copies_below m s held) ≡ []
no_copies_below m s zero = refl
no_copies_below m s (suc n) = keeps_none (copies_below m s (suc n)) (copy_high m s n)

low_below : (m : ℕ) (s : Store) (root : ℕ) (fixed : List ℕ) (top : ℕ) → Forest s root fixed top → (d : DeviceSlots) → Among d (volumes_below m s root) → d.id < 2 ^ 24
low_below m s root fixed top f d k =
    let tree = ascend_tree 5 ((node_at s root).rank - 5) s 0 (2 ^ 24) root f.devices.tree in
    let e = map_among (device_from m s) d (content 5 s root) k in
    let at = among_found 0 (2 ^ 24) e.0 (content 5 s root) tree e.1 in
    let value : value_at e.0.key (content 5 s root) ≡ Some e.0.value = ap (λ (o : Option Entry). option_map (λ (x : Entry). x.value) o) at in
    let id : d.id ≡ e.0.key = ap (λ (x : DeviceSlots). x.id) e.2 in
    omega (arith, id, (found_within 0 (2 ^ 24) e.0.key e.0.value (content 5 s root) tree value).1)

-- without the copies, the lists of both roots are that of the root of now
pub alone_below : (m : ℕ) (s : Store) (root held : ℕ) (fixed : List ℕ) (top : ℕ) → Forest s root fixed top → without_copies (volumes_of m s root held) ≡ volumes_below m s root
alone_below m s root held fixed top f =
    keeps_joined (volumes_below m s root) (copies_below m s held)
    ∙ ((λ i. keeps_now (volumes_below m s root) (low_below m s root fixed top f) i ++ no_copies_below m s held i) ∙ append-nil (volumes_below m s root))

-- the devices of the lists of both roots are those below the root of now
copies_none : (m : ℕ) (s : Store) (held : ℕ) → devices_in (copies_below m s held) ≡ 0
copies_none m s zero = refl
copies_none m s (suc n) = none_now (copies_below m s (suc n)) (λ d k. let c = map_among as_copy d (volumes_below m s (suc n)) k in let id : d.id ≡ 2 ^ 24 + c.0.id = ap (λ (x : DeviceSlots). x.id) c.2 in omega (arith, id))

pub devices_of_both : (m : ℕ) (s : Store) (root held : ℕ) (fixed : List ℕ) (top : ℕ) → Forest s root fixed top → devices_in (volumes_of m s root held) ≡ length (content 5 s root)
devices_of_both m s root held fixed top f =
    let tree = ascend_tree 5 ((node_at s root).rank - 5) s 0 (2 ^ 24) root f.devices.tree in
    let low : (d : DeviceSlots) → Among d (volumes_below m s root) → d.id < 2 ^ 24 = λ d k.
    let e = map_among (device_from m s) d (content 5 s root) k in
    let at = among_found 0 (2 ^ 24) e.0 (content 5 s root) tree e.1 in
    let value : value_at e.0.key (content 5 s root) ≡ Some e.0.value = ap (λ (o : Option Entry). option_map (λ (x : Entry). x.value) o) at in
    let id : d.id ≡ e.0.key = ap (λ (x : DeviceSlots). x.id) e.2 in
    omega (arith, id, (found_within 0 (2 ^ 24) e.0.key e.0.value (content 5 s root) tree value).1) in
    omega (arith, devices_joined (volumes_below m s root) (copies_below m s held), all_now (volumes_below m s root) low, copies_none m s held, length-map (content 5 s root) (device_from m s))

-- ---- what stands there

pub absent : {A : Type 0} (a : Option A) (x : A) → a ≡ None → a ≡ Some x → ⊥
absent a x e f = cc

-- a device of the changed ones was there
pub changed_has : (q id : ℕ) (f : List BlockSlot → List BlockSlot) (ds : Volumes) (xs : List BlockSlot) → device_of id (changed_at q f ds) ≡ Some xs → (ys : List BlockSlot) × (device_of id ds ≡ Some ys)
changed_has q id f [] xs h = absurd (absent (device_of id []) xs refl h)
changed_has q id f (d ∷ ds) xs h =
    elim (cases_eq d.id id) [
      | inl e ↦ (d.slots, device_here id d ds e)
      | inr n ↦ elim (cases_eq d.id q) [
        | inl p ↦ (xs, device_later id d ds n ∙ (sym (device_later id (record { id = d.id; size = d.size; slots = f d.slots }) ds n) ∙ (sym (ap (device_of id) (changed_here q f d ds p)) ∙ h)))
        | inr m ↦
            let r = changed_has q id f ds xs (sym (device_later id d (changed_at q f ds) n) ∙ (sym (ap (device_of id) (changed_later q f d ds m)) ∙ h)) in
            (r.0, device_later id d ds n ∙ r.1)
      ]
    ]

-- a device that is there gives way to another
pub with_there_length : (low : ℕ) (x : DeviceSlots) (ds : Volumes) → DevicesAscend low ds → IsSome (device_of x.id ds) → devices_in (with_device x ds) ≡ devices_in ds
with_there_length low x [] up some = absurd (false≢true some)
with_there_length low x (y ∷ ys) up some =
    elim (cases_lt x.id y.id) [
      | inl l ↦ absurd (false≢true (ap is_some (sym (device_below y.id x.id (y ∷ ys) (omega arith, up.1, up.2) l)) ∙ some))
      | inr g ↦ elim (cases_eq y.id x.id) [
        | inl e ↦ omega (arith, ap devices_in (with_device_here x y ys e), one_more x ys, one_more y ys, same_id y.id x.id e)
        | inr n ↦
            omega (
              arith,
              ap devices_in (with_device_later x y ys (omega (arith, g, n))),
              one_more y (with_device x ys),
              one_more y ys,
              with_there_length (suc y.id) x ys up.2 (subst IsSome (device_later x.id y ys n) some),
            )
      ]
    ]

some_eq_slots : (xs ys : List BlockSlot) → Some xs ≡ Some ys → xs ≡ ys
some_eq_slots xs ys h = cc

pub slots_ascend : (low id : ℕ) (ds : Volumes) (xs : List BlockSlot) → DevicesAscend low ds → device_of id ds ≡ Some xs → SlotsAscend 0 xs
slots_ascend low id [] xs a h = absurd (absent (device_of id []) xs refl h)
slots_ascend low id (d ∷ ds) xs a h =
    elim (cases_eq d.id id) [
      | inl e ↦ subst (SlotsAscend 0) (some_eq_slots d.slots xs (sym (device_here id d ds e) ∙ h)) a.1
      | inr n ↦ slots_ascend (suc d.id) id ds xs a.2 (sym (device_later id d ds n) ∙ h)
    ]

module _ (g : Geometry) (ds : Volumes) (w : IsWithin g ds) where
  pub within_without_slot : (id block : ℕ) → IsWithin g (without_slot id block ds)
  within_without_slot id block = record {
    ascend = changed_ascends 0 id (without_place block) ds (λ ys a. without_place_ascends 0 block ys a) w.ascend;
    few = omega (arith, changed_length id (without_place block) ds, w.few);
    ids = λ q ys e. let r = changed_has id q (without_place block) ds ys e in w.ids q r.0 r.1;
    slots = λ q b p e.
        elim (cases_eq q id) [
          | inl i ↦ elim (cases_eq b block) [
            | inl j ↦ absurd (absent (slot_of q b (without_slot id block ds)) p ((λ t. slot_of (i t) (j t) (without_slot id block ds)) ∙ slot_changes.without_same 0 id block ds w.ascend) e)
            | inr n ↦ w.slots q b p (sym (slot_changes.without_other id block q b ds (λ h. n h.1)) ∙ e)
          ]
          | inr n ↦ w.slots q b p (sym (slot_changes.without_other id block q b ds (λ h. n h.0)) ∙ e)
        ];
    sized = sized_without_slot g ds w.sized 0 id block w.ascend;
  }
