-- Volumes stay within their sizes when the lists change. And a device that tells another size.
use Rattle.std.proofs.Common.{◌≡◌, ℕ, suc, ◌<◌, ◌≤◌, List, [], ◌∷◌, length, refl, sym, ap, subst, ◌∙◌, arith, inl, inr, Option, Some, None}
use Rattle.std.proofs.lemmas.Bool.{cases_eq, cases_lt}
use Rattle.std.proofs.lemmas.Bool.Decides.{nat_tests}
use Rattle.tp_model.specs.Geometry.{Geometry}
use Rattle.tp_model.specs.Told.{IsToldSize, told_blocks}
use Rattle.tp_sharing.specs.Volumes.{AreSized, BlockSlot, DeviceSlots, DevicesAscend, Volumes, device_of, place_in, place_or_none, resized, size_of, slot_of, with_device, with_place, with_slot, without_device, without_place, without_slot}
use Rattle.tp_sharing.proofs.Changes.{device_below, device_changes, slot_changes, with_device_here, with_device_later}
use Rattle.tp_sharing.proofs.Lists.{some_eq}
use Rattle.tp_sharing.proofs.Slots.{device_here, device_later}
use Rattle.tp_sharing.proofs.Told.{size_changes}

absent : {A : Type 0} (a : Option A) (x : A) → a ≡ None → a ≡ Some x → ⊥
absent a x e f = cc

-- ---- a device that tells another size

abbrev device_at : ℕ → ℕ → List BlockSlot → DeviceSlots
device_at id size xs = record { id = id; size = size; slots = xs }

pub resized_here : (id size : ℕ) (d : DeviceSlots) (ds : Volumes) → d.id ≡ id → resized id size (d ∷ ds) ≡ device_at d.id size d.slots ∷ ds
resized_here id size d ds h = grind (arith, nat_tests)

pub resized_later : (id size : ℕ) (d : DeviceSlots) (ds : Volumes) → (d.id ≡ id → ⊥) → resized id size (d ∷ ds) ≡ d ∷ resized id size ds
resized_later id size d ds h = grind (arith, nat_tests)

pub resized_length : (id size : ℕ) (ds : Volumes) → length (resized id size ds) ≡ length ds
resized_length id size [] = refl
resized_length id size (d ∷ ds) =
    elim (cases_eq d.id id) [
      | inl e ↦ ap length (resized_here id size d ds e)
      | inr n ↦ ap length (resized_later id size d ds n) ∙ ap suc (resized_length id size ds)
    ]

-- its slots stay, and those of the others
pub resized_devices : (id size other : ℕ) (ds : Volumes) → device_of other (resized id size ds) ≡ device_of other ds
resized_devices id size other [] = refl
resized_devices id size other (d ∷ ds) =
    elim (cases_eq d.id id) [
      | inl e ↦
          ap (device_of other) (resized_here id size d ds e)
          ∙ elim (cases_eq d.id other) [
            | inl q ↦ device_here other (device_at d.id size d.slots) ds q ∙ sym (device_here other d ds q)
            | inr q ↦ device_later other (device_at d.id size d.slots) ds q ∙ sym (device_later other d ds q)
          ]
      | inr o ↦
          ap (device_of other) (resized_later id size d ds o)
          ∙ elim (cases_eq d.id other) [
            | inl q ↦ device_here other d (resized id size ds) q ∙ sym (device_here other d ds q)
            | inr q ↦ device_later other d (resized id size ds) q ∙ (resized_devices id size other ds ∙ sym (device_later other d ds q))
          ]
    ]

-- it is put in the place of itself
pub resized_is_put : (low id size : ℕ) (xs : List BlockSlot) (ds : Volumes) → DevicesAscend low ds → device_of id ds ≡ Some xs → with_device (device_at id size xs) ds ≡ resized id size ds
resized_is_put low id size xs [] a h = absurd (absent (device_of id []) xs refl h)
resized_is_put low id size xs (d ∷ ds) a h =
    elim (cases_eq d.id id) [
      | inl e ↦
          let q : Some d.slots ≡ Some xs = sym (device_here id d ds e) ∙ h in
          let r : d.slots ≡ xs = cc in
          with_device_here (device_at id size xs) d ds e ∙ ((λ i. device_at (sym e i) size (sym r i) ∷ ds) ∙ sym (resized_here id size d ds e))
      | inr n ↦
          let g : device_of id ds ≡ Some xs = sym (device_later id d ds n) ∙ h in
          elim (cases_lt id d.id) [
            | inl l ↦ let z : device_of id ds ≡ None = device_below (suc d.id) id ds a.2 (omega arith) in absurd (absent (device_of id ds) xs z g)
            | inr ge ↦
                with_device_later (device_at id size xs) d ds (omega (arith, n))
                ∙ (ap (λ ys. d ∷ ys) (resized_is_put (suc d.id) id size xs ds a.2 g) ∙ sym (resized_later id size d ds n))
          ]
    ]

-- ---- sizes and virtual blocks

module _ (g : Geometry) (ds : Volumes) (w : AreSized g ds) where
  pub sized_with_slot : (id : ℕ) (x : BlockSlot) → ((size : ℕ) → size_of id ds ≡ Some size → x.block < told_blocks g size) → AreSized g (with_slot id x ds)
  sized_with_slot id x below = record {
    told = λ q size h. w.told q size (sym (size_changes.slots id q (with_place x) ds) ∙ h);
    inside = λ q size b p h k.
        let is : size_of q ds ≡ Some size = sym (size_changes.slots id q (with_place x) ds) ∙ h in
        elim (cases_eq q id) [
          | inl i ↦ elim (cases_eq b x.block) [
            | inl j ↦ subst (λ n. n < told_blocks g size) (sym j) (below size (subst (λ n. size_of n ds ≡ Some size) i is))
            | inr n ↦ w.inside q size b p is (sym (slot_changes.with_other id x q b ds (λ e. n e.1)) ∙ k)
          ]
          | inr n ↦ w.inside q size b p is (sym (slot_changes.with_other id x q b ds (λ e. n e.0)) ∙ k)
        ];
  }

  pub sized_without_slot : (low id block : ℕ) → DevicesAscend low ds → AreSized g (without_slot id block ds)
  sized_without_slot low id block up = record {
    told = λ q size h. w.told q size (sym (size_changes.slots id q (without_place block) ds) ∙ h);
    inside = λ q size b p h k.
        let is : size_of q ds ≡ Some size = sym (size_changes.slots id q (without_place block) ds) ∙ h in
        elim (cases_eq q id) [
          | inl i ↦ elim (cases_eq b block) [
            | inl j ↦ absurd (absent (slot_of q b (without_slot id block ds)) p ((λ t. slot_of (i t) (j t) (without_slot id block ds)) ∙ slot_changes.without_same low id block ds up) k)
            | inr n ↦ w.inside q size b p is (sym (slot_changes.without_other id block q b ds (λ e. n e.1)) ∙ k)
          ]
          | inr n ↦ w.inside q size b p is (sym (slot_changes.without_other id block q b ds (λ e. n e.0)) ∙ k)
        ];
  }

  pub sized_with_device : (x : DeviceSlots) → IsToldSize g x.size → ((b p : ℕ) → place_in b x.slots ≡ Some p → b < told_blocks g x.size) → AreSized g (with_device x ds)
  sized_with_device x may each = record {
    told = λ q size h.
        elim (cases_eq q x.id) [
          | inl i ↦ subst (IsToldSize g) (some_eq x.size size (sym (size_changes.with_same x ds) ∙ ((λ t. size_of (sym i t) (with_device x ds)) ∙ h))) may
          | inr n ↦ w.told q size (sym (size_changes.with_other x q ds n) ∙ h)
        ];
    inside = λ q size b p h k.
        elim (cases_eq q x.id) [
          | inl i ↦
              let same : x.size ≡ size = some_eq x.size size (sym (size_changes.with_same x ds) ∙ ((λ t. size_of (sym i t) (with_device x ds)) ∙ h)) in
              subst (λ n. b < told_blocks g n) same
              (each b p (sym (ap (place_or_none b) ((λ t. device_of (i t) (with_device x ds)) ∙ device_changes.with_same x ds)) ∙ k))
          | inr n ↦ w.inside q size b p (sym (size_changes.with_other x q ds n) ∙ h) (sym (ap (place_or_none b) (device_changes.with_other x q ds n)) ∙ k)
        ];
  }

  pub sized_without_device : (low id : ℕ) → DevicesAscend low ds → AreSized g (without_device id ds)
  sized_without_device low id up = record {
    told = λ q size h.
        elim (cases_eq q id) [
          | inl i ↦ absurd (absent (size_of q (without_device id ds)) size ((λ t. size_of (i t) (without_device id ds)) ∙ size_changes.without_same low id ds up) h)
          | inr n ↦ w.told q size (sym (size_changes.without_other id q ds n) ∙ h)
        ];
    inside = λ q size b p h k.
        elim (cases_eq q id) [
          | inl i ↦ absurd (absent (size_of q (without_device id ds)) size ((λ t. size_of (i t) (without_device id ds)) ∙ size_changes.without_same low id ds up) h)
          | inr n ↦ w.inside q size b p (sym (size_changes.without_other id q ds n) ∙ h) (sym (ap (place_or_none b) (device_changes.without_other id q ds n)) ∙ k)
        ];
  }

  -- a volume grows
  pub sized_resized : (low id old size : ℕ) (xs : List BlockSlot) → DevicesAscend low ds → device_of id ds ≡ Some xs → size_of id ds ≡ Some old → IsToldSize g size → told_blocks g old ≤ told_blocks g size
      → AreSized g (resized id size ds)
  sized_resized low id old size xs up is was may more =
      subst (AreSized g) (resized_is_put low id size xs ds up is)
      (sized_with_device (device_at id size xs) may (λ b p h.
      let lt : b < told_blocks g old = w.inside id old b p was (ap (place_or_none b) is ∙ h) in omega (arith, lt, more)))
