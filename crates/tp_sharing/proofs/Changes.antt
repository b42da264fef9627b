-- Changes of the lists, and of the trees that they come from.
use Rattle.std.proofs.Common.{◌≡◌, ◌≢◌, ℕ, suc, ◌<◌, List, [], ◌∷◌, refl, sym, ap, subst, ◌∙◌, arith, inl, inr, Option, Some, None, option_map}
use Rattle.std.proofs.lemmas.Bool.{cases_eq, cases_lt}
use Rattle.std.proofs.lemmas.Bool.Decides.{nat_tests}
use Rattle.tp_sharing.specs.Volumes.{BlockSlot, DeviceSlots, DevicesAscend, SlotsAscend, Volumes, changed_at, device_of, place_in, place_or_none, slot_of, with_device, with_place, without_device, without_place, without_slot}
use Rattle.tp_sharing.specs.Changes.{DeviceChanges, SlotChanges}
use Rattle.tp_sharing.proofs.Slots.{device_here, device_later, place_here, place_later}

-- ---- the steps of the changes, by the order of two numbers

pub with_device_first : (x d : DeviceSlots) (ds : Volumes) → x.id < d.id → with_device x (d ∷ ds) ≡ x ∷ (d ∷ ds)
with_device_first x d ds h = grind (arith, nat_tests)

pub with_device_here : (x d : DeviceSlots) (ds : Volumes) → d.id ≡ x.id → with_device x (d ∷ ds) ≡ x ∷ ds
with_device_here x d ds h = grind (arith, nat_tests)

pub with_device_later : (x d : DeviceSlots) (ds : Volumes) → d.id < x.id → with_device x (d ∷ ds) ≡ d ∷ with_device x ds
with_device_later x d ds h = grind (arith, nat_tests)

pub without_device_here : (id : ℕ) (d : DeviceSlots) (ds : Volumes) → d.id ≡ id → without_device id (d ∷ ds) ≡ ds
without_device_here id d ds h = grind (arith, nat_tests)

pub without_device_later : (id : ℕ) (d : DeviceSlots) (ds : Volumes) → d.id ≢ id → without_device id (d ∷ ds) ≡ d ∷ without_device id ds
without_device_later id d ds h = grind (arith, nat_tests)

pub with_place_first : (x y : BlockSlot) (ys : List BlockSlot) → x.block < y.block → with_place x (y ∷ ys) ≡ x ∷ (y ∷ ys)
with_place_first x y ys h = grind (arith, nat_tests)

pub with_place_here : (x y : BlockSlot) (ys : List BlockSlot) → y.block ≡ x.block → with_place x (y ∷ ys) ≡ x ∷ ys
with_place_here x y ys h = grind (arith, nat_tests)

pub with_place_later : (x y : BlockSlot) (ys : List BlockSlot) → y.block < x.block → with_place x (y ∷ ys) ≡ y ∷ with_place x ys
with_place_later x y ys h = grind (arith, nat_tests)

pub without_place_here : (block : ℕ) (y : BlockSlot) (ys : List BlockSlot) → y.block ≡ block → without_place block (y ∷ ys) ≡ ys
without_place_here block y ys h = grind (arith, nat_tests)

pub without_place_later : (block : ℕ) (y : BlockSlot) (ys : List BlockSlot) → y.block ≢ block → without_place block (y ∷ ys) ≡ y ∷ without_place block ys
without_place_later block y ys h = grind (arith, nat_tests)

-- a device with other slots
abbrev pub altered : (List BlockSlot → List BlockSlot) → DeviceSlots → DeviceSlots
altered f d = record { id = d.id; size = d.size; slots = f d.slots }

pub changed_here : (id : ℕ) (f : List BlockSlot → List BlockSlot) (d : DeviceSlots) (ds : Volumes) → d.id ≡ id → changed_at id f (d ∷ ds) ≡ altered f d ∷ ds
changed_here id f d ds h = grind (arith, nat_tests)

pub changed_later : (id : ℕ) (f : List BlockSlot → List BlockSlot) (d : DeviceSlots) (ds : Volumes) → d.id ≢ id → changed_at id f (d ∷ ds) ≡ d ∷ changed_at id f ds
changed_later id f d ds h = grind (arith, nat_tests)

-- ---- devices

pub device_below : (low id : ℕ) (ds : Volumes) → DevicesAscend low ds → id < low → device_of id ds ≡ None
device_below low id [] a l = refl
device_below low id (d ∷ ds) a l = device_later id d ds (λ e. absurd (omega (arith, e, a.0))) ∙ device_below (suc d.id) id ds a.2 (omega (arith, a.0))

device_with_same : (x : DeviceSlots) (ds : Volumes) → device_of x.id (with_device x ds) ≡ Some x.slots
device_with_same x [] = device_here x.id x [] refl
device_with_same x (d ∷ ds) =
    elim (cases_lt x.id d.id) [
      | inl l ↦ ap (device_of x.id) (with_device_first x d ds l) ∙ device_here x.id x (d ∷ ds) refl
      | inr g ↦ elim (cases_eq d.id x.id) [
        | inl e ↦ ap (device_of x.id) (with_device_here x d ds e) ∙ device_here x.id x ds refl
        | inr n ↦ ap (device_of x.id) (with_device_later x d ds (omega (arith, n))) ∙ (device_later x.id d (with_device x ds) n ∙ device_with_same x ds)
      ]
    ]

device_with_other : (x : DeviceSlots) (id : ℕ) (ds : Volumes) → id ≢ x.id → device_of id (with_device x ds) ≡ device_of id ds
device_with_other x id [] n = device_later id x [] (λ e. n (sym e))
device_with_other x id (d ∷ ds) n =
    elim (cases_lt x.id d.id) [
      | inl l ↦ ap (device_of id) (with_device_first x d ds l) ∙ device_later id x (d ∷ ds) (λ e. n (sym e))
      | inr g ↦ elim (cases_eq d.id x.id) [
        | inl e ↦
            ap (device_of id) (with_device_here x d ds e)
            ∙ (device_later id x ds (λ q. n (sym q)) ∙ sym (device_later id d ds (λ q. n (sym q ∙ e))))
        | inr o ↦
            ap (device_of id) (with_device_later x d ds (omega (arith, o)))
            ∙ elim (cases_eq d.id id) [
              | inl q ↦ device_here id d (with_device x ds) q ∙ sym (device_here id d ds q)
              | inr q ↦ device_later id d (with_device x ds) q ∙ (device_with_other x id ds n ∙ sym (device_later id d ds q))
            ]
      ]
    ]

device_without_same : (low id : ℕ) (ds : Volumes) → DevicesAscend low ds → device_of id (without_device id ds) ≡ None
device_without_same low id [] a = refl
device_without_same low id (d ∷ ds) a =
    elim (cases_eq d.id id) [
      | inl e ↦ ap (device_of id) (without_device_here id d ds e) ∙ device_below (suc d.id) id ds a.2 (omega (arith, e))
      | inr n ↦ ap (device_of id) (without_device_later id d ds n) ∙ (device_later id d (without_device id ds) n ∙ device_without_same (suc d.id) id ds a.2)
    ]

device_without_other : (id other : ℕ) (ds : Volumes) → other ≢ id → device_of other (without_device id ds) ≡ device_of other ds
device_without_other id other [] n = refl
device_without_other id other (d ∷ ds) n =
    elim (cases_eq d.id id) [
      | inl e ↦ ap (device_of other) (without_device_here id d ds e) ∙ sym (device_later other d ds (λ q. n (sym q ∙ e)))
      | inr o ↦
          ap (device_of other) (without_device_later id d ds o)
          ∙ elim (cases_eq d.id other) [
            | inl q ↦ device_here other d (without_device id ds) q ∙ sym (device_here other d ds q)
            | inr q ↦ device_later other d (without_device id ds) q ∙ (device_without_other id other ds n ∙ sym (device_later other d ds q))
          ]
    ]

pub device_changes : DeviceChanges
device_changes = record { with_same = device_with_same; with_other = device_with_other; without_same = device_without_same; without_other = device_without_other }

-- ---- slots of one device

pub place_below : (low block : ℕ) (xs : List BlockSlot) → SlotsAscend low xs → block < low → place_in block xs ≡ None
place_below low block [] a l = refl
place_below low block (x ∷ xs) a l = place_later block x xs (λ e. absurd (omega (arith, e, a.0))) ∙ place_below (suc x.block) block xs a.1 (omega (arith, a.0))

place_with_same : (x : BlockSlot) (ys : List BlockSlot) → place_in x.block (with_place x ys) ≡ Some x.place
place_with_same x [] = place_here x.block x [] refl
place_with_same x (y ∷ ys) =
    elim (cases_lt x.block y.block) [
      | inl l ↦ ap (place_in x.block) (with_place_first x y ys l) ∙ place_here x.block x (y ∷ ys) refl
      | inr g ↦ elim (cases_eq y.block x.block) [
        | inl e ↦ ap (place_in x.block) (with_place_here x y ys e) ∙ place_here x.block x ys refl
        | inr n ↦ ap (place_in x.block) (with_place_later x y ys (omega (arith, n))) ∙ (place_later x.block y (with_place x ys) n ∙ place_with_same x ys)
      ]
    ]

place_with_other : (x : BlockSlot) (block : ℕ) (ys : List BlockSlot) → block ≢ x.block → place_in block (with_place x ys) ≡ place_in block ys
place_with_other x block [] n = place_later block x [] (λ e. n (sym e))
place_with_other x block (y ∷ ys) n =
    elim (cases_lt x.block y.block) [
      | inl l ↦ ap (place_in block) (with_place_first x y ys l) ∙ place_later block x (y ∷ ys) (λ e. n (sym e))
      | inr g ↦ elim (cases_eq y.block x.block) [
        | inl e ↦
            ap (place_in block) (with_place_here x y ys e)
            ∙ (place_later block x ys (λ q. n (sym q)) ∙ sym (place_later block y ys (λ q. n (sym q ∙ e))))
        | inr o ↦
            ap (place_in block) (with_place_later x y ys (omega (arith, o)))
            ∙ elim (cases_eq y.block block) [
              | inl q ↦ place_here block y (with_place x ys) q ∙ sym (place_here block y ys q)
              | inr q ↦ place_later block y (with_place x ys) q ∙ (place_with_other x block ys n ∙ sym (place_later block y ys q))
            ]
      ]
    ]

place_without_same : (low block : ℕ) (ys : List BlockSlot) → SlotsAscend low ys → place_in block (without_place block ys) ≡ None
place_without_same low block [] a = refl
place_without_same low block (y ∷ ys) a =
    elim (cases_eq y.block block) [
      | inl e ↦ ap (place_in block) (without_place_here block y ys e) ∙ place_below (suc y.block) block ys a.1 (omega (arith, e))
      | inr n ↦ ap (place_in block) (without_place_later block y ys n) ∙ (place_later block y (without_place block ys) n ∙ place_without_same (suc y.block) block ys a.1)
    ]

place_without_other : (block other : ℕ) (ys : List BlockSlot) → other ≢ block → place_in other (without_place block ys) ≡ place_in other ys
place_without_other block other [] n = refl
place_without_other block other (y ∷ ys) n =
    elim (cases_eq y.block block) [
      | inl e ↦ ap (place_in other) (without_place_here block y ys e) ∙ sym (place_later other y ys (λ q. n (sym q ∙ e)))
      | inr o ↦
          ap (place_in other) (without_place_later block y ys o)
          ∙ elim (cases_eq y.block other) [
            | inl q ↦ place_here other y (without_place block ys) q ∙ sym (place_here other y ys q)
            | inr q ↦ place_later other y (without_place block ys) q ∙ (place_without_other block other ys n ∙ sym (place_later other y ys q))
          ]
    ]

-- ---- slots of a device among others

-- the device's slots are changed, and no others
device_changed : (id : ℕ) (f : List BlockSlot → List BlockSlot) (ds : Volumes) → device_of id (changed_at id f ds) ≡ option_map f (device_of id ds)
device_changed id f [] = refl
device_changed id f (d ∷ ds) =
    elim (cases_eq d.id id) [
      | inl e ↦ ap (device_of id) (changed_here id f d ds e) ∙ (device_here id (altered f d) ds e ∙ ap (option_map f) (sym (device_here id d ds e)))
      | inr n ↦ ap (device_of id) (changed_later id f d ds n) ∙ (device_later id d (changed_at id f ds) n ∙ (device_changed id f ds ∙ ap (option_map f) (sym (device_later id d ds n))))
    ]

device_unchanged : (id other : ℕ) (f : List BlockSlot → List BlockSlot) (ds : Volumes) → other ≢ id → device_of other (changed_at id f ds) ≡ device_of other ds
device_unchanged id other f [] n = refl
device_unchanged id other f (d ∷ ds) n =
    elim (cases_eq d.id id) [
      | inl e ↦
          ap (device_of other) (changed_here id f d ds e)
          ∙ (device_later other (altered f d) ds (λ q. n (sym q ∙ e)) ∙ sym (device_later other d ds (λ q. n (sym q ∙ e))))
      | inr o ↦
          ap (device_of other) (changed_later id f d ds o)
          ∙ elim (cases_eq d.id other) [
            | inl q ↦ device_here other d (changed_at id f ds) q ∙ sym (device_here other d ds q)
            | inr q ↦ device_later other d (changed_at id f ds) q ∙ (device_unchanged id other f ds n ∙ sym (device_later other d ds q))
          ]
    ]

-- where a change of slots leaves one as it is
slot_unchanged : (id other at : ℕ) (f : List BlockSlot → List BlockSlot) (ds : Volumes) → ((xs : List BlockSlot) → other ≡ id → place_in at (f xs) ≡ place_in at xs) → slot_of other at (changed_at id f ds) ≡ slot_of other at ds
slot_unchanged id other at f ds same =
    elim (cases_eq other id) [
      | inl e ↦
          subst (λ n. slot_of n at (changed_at id f ds) ≡ slot_of n at ds) (sym e)
          (ap (place_or_none at) (device_changed id f ds) ∙ go e (device_of id ds))
      | inr n ↦ ap (place_or_none at) (device_unchanged id other f ds n)
    ]
  where
    go : other ≡ id → (o : Option (List BlockSlot)) → place_or_none at (option_map f o) ≡ place_or_none at o
    go e None = refl
    go e (Some xs) = same xs e

slots_of_ascend : (low id : ℕ) (ds : Volumes) (xs : List BlockSlot) → DevicesAscend low ds → device_of id ds ≡ Some xs → SlotsAscend 0 xs
slots_of_ascend low id [] xs a h = absurd (cc)
slots_of_ascend low id (d ∷ ds) xs a h =
    elim (cases_eq d.id id) [
      | inl e ↦ let q : Some d.slots ≡ Some xs = sym (device_here id d ds e) ∙ h in let r : d.slots ≡ xs = cc in subst (SlotsAscend 0) r a.1
      | inr n ↦ slots_of_ascend (suc d.id) id ds xs a.2 (sym (device_later id d ds n) ∙ h)
    ]

slot_without_same : (low id block : ℕ) (ds : Volumes) → DevicesAscend low ds → slot_of id block (without_slot id block ds) ≡ None
slot_without_same low id block ds a = ap (place_or_none block) (device_changed id (without_place block) ds) ∙ go (device_of id ds) refl where
  go : (o : Option (List BlockSlot)) → device_of id ds ≡ o → place_or_none block (option_map (without_place block) o) ≡ None
  go None h = refl
  go (Some xs) h = place_without_same 0 block xs (slots_of_ascend low id ds xs a h)

pub slot_changes : SlotChanges
slot_changes = record {
  with_same = λ id x xs ds h.
      ap (place_or_none x.block) (device_changed id (with_place x) ds ∙ ap (option_map (with_place x)) h) ∙ place_with_same x xs;
  with_other = λ id x other at ds apart. slot_unchanged id other at (with_place x) ds (λ xs e. place_with_other x at xs (λ b. apart (e, b)));
  without_same = slot_without_same;
  without_other = λ id block other at ds apart. slot_unchanged id other at (without_place block) ds (λ xs e. place_without_other block at xs (λ b. apart (e, b)));
}
