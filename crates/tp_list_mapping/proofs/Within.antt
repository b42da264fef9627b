-- The volumes of a changed list are in order and within a pool's sizes, and no copies.
use Rattle.std.proofs.Common.{◌≡◌, ℕ, zero, suc, ◌+◌, ◌-◌, ◌<◌, ◌≤◌, List, [], ◌∷◌, length, refl, sym, ap, subst, ◌∙◌, arith, inl, inr, Some}
use Rattle.std.specs.Prelude.{◌^◌, IsSome, if◌then◌else◌}
use Rattle.std.proofs.lemmas.Bool.{cases_eq, cases_lt, lt-ltb}
use Rattle.tp_model.specs.Geometry.{Geometry}
use Rattle.tp_model.specs.Told.{IsToldSize, told_blocks}
use Rattle.tp_sharing.specs.Volumes.{AreSized, BlockSlot, DeviceSlots, DevicesAscend, SlotsAscend, Volumes, changed_at, device_of, devices_in, place_in, place_or_none, resized, size_of, slot_of, with_device, with_place, with_slot, without_device, without_place}
use Rattle.tp_sharing.proofs.Lists.{some_eq}
use Rattle.tp_sharing.proofs.Sized.{resized_here, resized_is_put, resized_later, sized_resized, sized_with_device, sized_with_slot, sized_without_device}
use Rattle.tp_sharing.proofs.Changes.{changed_here, changed_later, device_changes, slot_changes, with_device_first, with_device_here, with_device_later, with_place_first, with_place_here, with_place_later, without_device_here, without_device_later}
use Rattle.tp_mapping.specs.Mapping.{IsWithin}
use Rattle.tp_mapping.specs.Runs.{without_run}
use Rattle.tp_list_mapping.specs.Standing.{AreLow}
use Rattle.tp_mapping.proofs.Within.{changed_ascends, weight, one_more, changed_length, with_device_length, without_device_length, absent, changed_has, with_there_length, slots_ascend}

-- ---- order

devices_from_lower : (low high : ℕ) (ds : Volumes) → low ≤ high → DevicesAscend high ds → DevicesAscend low ds
devices_from_lower low high [] h a = tt
devices_from_lower low high (d ∷ ds) h a = (omega (arith, h, a.0), a.1, a.2)

with_place_ascends : (low : ℕ) (x : BlockSlot) (xs : List BlockSlot) → low ≤ x.block → SlotsAscend low xs → SlotsAscend low (with_place x xs)
with_place_ascends low x [] h a = (h, tt)
with_place_ascends low x (y ∷ ys) h a =
    elim (cases_lt x.block y.block) [
      | inl l ↦ subst (SlotsAscend low) (sym (with_place_first x y ys l)) (h, (omega (arith, l), a.1))
      | inr g ↦ elim (cases_eq y.block x.block) [
        | inl e ↦ subst (SlotsAscend low) (sym (with_place_here x y ys e)) (h, subst (λ b. SlotsAscend (suc b) ys) e a.1)
        | inr n ↦
            let l : y.block < x.block = omega (arith, g, n) in
            subst (SlotsAscend low) (sym (with_place_later x y ys l)) (a.0, with_place_ascends (suc y.block) x ys (omega (arith, l)) a.1)
      ]
    ]

with_device_ascends : (low : ℕ) (x : DeviceSlots) (ds : Volumes) → low ≤ x.id → SlotsAscend 0 x.slots → DevicesAscend low ds → DevicesAscend low (with_device x ds)
with_device_ascends low x [] h s a = (h, s, tt)
with_device_ascends low x (y ∷ ys) h s a =
    elim (cases_lt x.id y.id) [
      | inl l ↦ subst (DevicesAscend low) (sym (with_device_first x y ys l)) (h, s, (omega (arith, l), a.1, a.2))
      | inr g ↦ elim (cases_eq y.id x.id) [
        | inl e ↦ subst (DevicesAscend low) (sym (with_device_here x y ys e)) (h, s, subst (λ b. DevicesAscend (suc b) ys) e a.2)
        | inr n ↦
            let l : y.id < x.id = omega (arith, g, n) in
            subst (DevicesAscend low) (sym (with_device_later x y ys l)) (a.0, a.1, with_device_ascends (suc y.id) x ys (omega (arith, l)) s a.2)
      ]
    ]

without_device_ascends : (low id : ℕ) (ds : Volumes) → DevicesAscend low ds → DevicesAscend low (without_device id ds)
without_device_ascends low id [] a = tt
without_device_ascends low id (y ∷ ys) a =
    elim (cases_eq y.id id) [
      | inl e ↦ subst (DevicesAscend low) (sym (without_device_here id y ys e)) (devices_from_lower low (suc y.id) ys (omega (arith, a.0)) a.2)
      | inr n ↦ subst (DevicesAscend low) (sym (without_device_later id y ys n)) (a.0, a.1, without_device_ascends (suc y.id) id ys a.2)
    ]

-- ---- no copies

pub low_changed : (id : ℕ) (f : List BlockSlot → List BlockSlot) (ds : Volumes) → AreLow ds → AreLow (changed_at id f ds)
low_changed id f [] a = tt
low_changed id f (d ∷ ds) a =
    elim (cases_eq d.id id) [
      | inl e ↦ subst AreLow (sym (changed_here id f d ds e)) (a.0, a.1)
      | inr n ↦ subst AreLow (sym (changed_later id f d ds n)) (a.0, low_changed id f ds a.1)
    ]

pub low_resized : (id size : ℕ) (ds : Volumes) → AreLow ds → AreLow (resized id size ds)
low_resized id size [] a = tt
low_resized id size (d ∷ ds) a =
    elim (cases_eq d.id id) [
      | inl e ↦ subst AreLow (sym (resized_here id size d ds e)) (a.0, a.1)
      | inr n ↦ subst AreLow (sym (resized_later id size d ds n)) (a.0, low_resized id size ds a.1)
    ]

pub low_with : (x : DeviceSlots) (ds : Volumes) → x.id < 2 ^ 24 → AreLow ds → AreLow (with_device x ds)
low_with x [] l a = (l, tt)
low_with x (y ∷ ys) l a =
    elim (cases_lt x.id y.id) [
      | inl k ↦ subst AreLow (sym (with_device_first x y ys k)) (l, a)
      | inr g ↦ elim (cases_eq y.id x.id) [
        | inl e ↦ subst AreLow (sym (with_device_here x y ys e)) (l, a.1)
        | inr n ↦ subst AreLow (sym (with_device_later x y ys (omega (arith, g, n)))) (a.0, low_with x ys l a.1)
      ]
    ]

pub low_without : (id : ℕ) (ds : Volumes) → AreLow ds → AreLow (without_device id ds)
low_without id [] a = tt
low_without id (y ∷ ys) a =
    elim (cases_eq y.id id) [
      | inl e ↦ subst AreLow (sym (without_device_here id y ys e)) a.1
      | inr n ↦ subst AreLow (sym (without_device_later id y ys n)) (a.0, low_without id ys a.1)
    ]

pub low_run : (id first n : ℕ) (ds : Volumes) → AreLow ds → AreLow (without_run id first n ds)
low_run id first zero ds a = a
low_run id first (suc n) ds a = low_changed id (without_place (first + n)) (without_run id first n ds) (low_run id first n ds a)

pub low_count : (ds : Volumes) → AreLow ds → devices_in ds ≡ length ds
low_count [] a = refl
low_count (d ∷ ds) a =
    let one : weight d.id ≡ 1 = ap {B = ℕ} (λ b. if b then 1 else 0) (lt-ltb d.id (2 ^ 24) a.0) in
    omega (arith, one_more d ds, one, low_count ds a.1)

-- ---- what stands there

module _ (g : Geometry) (ds : Volumes) (w : IsWithin g ds) where
  pub within_with_slot : (id : ℕ) (x : BlockSlot) (xs : List BlockSlot) → device_of id ds ≡ Some xs → x.block < 2 ^ 24 → ((size : ℕ) → size_of id ds ≡ Some size → x.block < told_blocks g size) → x.place < g.data_blocks
      → IsWithin g (with_slot id x ds)
  within_with_slot id x xs is hb below hp = record {
    ascend = changed_ascends 0 id (with_place x) ds (λ ys a. with_place_ascends 0 x ys (omega arith) a) w.ascend;
    few = omega (arith, changed_length id (with_place x) ds, w.few);
    ids = λ q ys e. let r = changed_has id q (with_place x) ds ys e in w.ids q r.0 r.1;
    slots = λ q b p e.
        elim (cases_eq q id) [
          | inl i ↦ elim (cases_eq b x.block) [
            | inl j ↦
                let k : x.place ≡ p = some_eq x.place p (sym (slot_changes.with_same id x xs ds is) ∙ ((λ t. slot_of (sym i t) (sym j t) (with_slot id x ds)) ∙ e)) in
                (omega (arith, j, hb), omega (arith, k, hp))
            | inr n ↦ w.slots q b p (sym (slot_changes.with_other id x q b ds (λ h. n h.1)) ∙ e)
          ]
          | inr n ↦ w.slots q b p (sym (slot_changes.with_other id x q b ds (λ h. n h.0)) ∙ e)
        ];
    sized = sized_with_slot g ds w.sized id x below;
  }

  pub within_with_device : (x : DeviceSlots) → IsToldSize g x.size → ((b p : ℕ) → place_in b x.slots ≡ Some p → b < told_blocks g x.size) → x.id < 2 ^ 24 → devices_in ds < 65536 → SlotsAscend 0 x.slots
      → ((b p : ℕ) → place_in b x.slots ≡ Some p → (b < 2 ^ 24) × (p < g.data_blocks)) → IsWithin g (with_device x ds)
  within_with_device x may below hx hl hs each = record {
    ascend = with_device_ascends 0 x ds (omega arith) hs w.ascend;
    few = omega (arith, with_device_length x ds, hl);
    ids = λ q ys e.
        elim (cases_eq q x.id) [
          | inl i ↦ omega (arith, i, hx)
          | inr n ↦ w.ids q ys (sym (device_changes.with_other x q ds n) ∙ e)
        ];
    slots = λ q b p e.
        elim (cases_eq q x.id) [
          | inl i ↦ each b p (sym (ap (place_or_none b) ((λ t. device_of (i t) (with_device x ds)) ∙ device_changes.with_same x ds)) ∙ e)
          | inr n ↦ w.slots q b p (sym (ap (place_or_none b) (device_changes.with_other x q ds n)) ∙ e)
        ];
    sized = sized_with_device g ds w.sized x may below;
  }

  pub within_without_device : (id : ℕ) → IsWithin g (without_device id ds)
  within_without_device id = record {
    ascend = without_device_ascends 0 id ds w.ascend;
    few = omega (arith, without_device_length id ds, w.few);
    ids = λ q ys e.
        elim (cases_eq q id) [
          | inl i ↦ absurd (absent (device_of q (without_device id ds)) ys ((λ t. device_of (i t) (without_device id ds)) ∙ device_changes.without_same 0 id ds w.ascend) e)
          | inr n ↦ w.ids q ys (sym (device_changes.without_other id q ds n) ∙ e)
        ];
    slots = λ q b p e.
        elim (cases_eq q id) [
          | inl i ↦ absurd (absent (slot_of q b (without_device id ds)) p (ap (place_or_none b) ((λ t. device_of (i t) (without_device id ds)) ∙ device_changes.without_same 0 id ds w.ascend)) e)
          | inr n ↦ w.slots q b p (sym (ap (place_or_none b) (device_changes.without_other id q ds n)) ∙ e)
        ];
    sized = sized_without_device g ds w.sized 0 id w.ascend;
  }

  -- a device tells another size
  pub within_resized : (id old size : ℕ) (xs : List BlockSlot) → device_of id ds ≡ Some xs → size_of id ds ≡ Some old → IsToldSize g size → told_blocks g old ≤ told_blocks g size → IsWithin g (resized id size ds)
  within_resized id old size xs is was may more =
      let x : DeviceSlots = record { id = id; size = size; slots = xs } in
      let same = resized_is_put 0 id size xs ds w.ascend is in
      subst (IsWithin g) same (record {
        ascend = with_device_ascends 0 x ds (omega arith) (slots_ascend 0 id ds xs w.ascend is) w.ascend;
        few = omega (arith, with_there_length 0 x ds w.ascend (subst IsSome (sym is) refl), w.few);
        ids = λ q ys e.
            elim (cases_eq q id) [
              | inl i ↦ subst (λ n. n < 2 ^ 25) (sym i) (w.ids id xs is)
              | inr n ↦ w.ids q ys (sym (device_changes.with_other x q ds n) ∙ e)
            ];
        slots = λ q b p e.
            elim (cases_eq q id) [
              | inl i ↦ w.slots id b p (ap (place_or_none b) is ∙ (sym (ap (place_or_none b) ((λ t. device_of (i t) (with_device x ds)) ∙ device_changes.with_same x ds)) ∙ e))
              | inr n ↦ w.slots q b p (sym (ap (place_or_none b) (device_changes.with_other x q ds n)) ∙ e)
            ];
        sized = subst (AreSized g) (sym same) (sized_resized g ds w.sized 0 id old size xs w.ascend is was may more);
      })
