-- Which data blocks slots have, by tests and by slots.
use Rattle.std.proofs.Common.{◌≡◌, ◌≢◌, ℕ, suc, ◌≤◌, ◌==◌, ◌||◌, ◌&&◌, not, Bool, true, false, List, [], ◌∷◌, ◌⊎◌, inl, inr, refl, sym, ap, ◌∙◌, arith, Some}
use Rattle.std.proofs.lemmas.Bool.{cases_eq, eq-eqb, eqb-true, ne_eqb, false≢true, or_left, or_right}
use Rattle.std.proofs.lemmas.Bool.Decides.{nat_tests}
use Rattle.tp_sharing.specs.Volumes.{BlockSlot, DeviceSlots, DevicesAscend, SlotsAscend, Volumes, place_in, place_or_none, slot_of}
use Rattle.tp_sharing.proofs.Lists.{some_eq}
use Rattle.tp_sharing.proofs.Slots.{device_here, device_later, place_here, place_later}
use Rattle.tp_mapping.specs.Slots.{has_other, has_place}
use Rattle.tp_mapping.specs.List.{has_another, is_used, is_used_elsewhere}

either : (a b : Bool) → (a || b) ≡ true → (a ≡ true) ⊎ (b ≡ true)
either true b h = inl refl
either false b h = inr h

both : (a b : Bool) → (a && not b) ≡ true → (a ≡ true) × (b ≡ false)
both true true h = (refl, sym h)
both true false h = (refl, refl)
both false b h = absurd (false≢true h)

joined : (a b : Bool) → a ≡ true → b ≡ false → (a && not b) ≡ true
joined true true e f = sym f
joined true false e f = refl
joined false b e f = e

-- ---- some slot

has_from_slot : (block p : ℕ) (xs : List BlockSlot) → place_in block xs ≡ Some p → has_place p xs ≡ true
has_from_slot block p [] h = absurd (cc)
has_from_slot block p (x ∷ xs) h =
    elim (cases_eq x.block block) [
      | inl e ↦ or_left (x.place == p) (has_place p xs) (eq-eqb x.place p (some_eq x.place p (sym (place_here block x xs e) ∙ h)))
      | inr d ↦ or_right (x.place == p) (has_place p xs) (has_from_slot block p xs (sym (place_later block x xs d) ∙ h))
    ]

pub used_from_slot : (id block p : ℕ) (ds : Volumes) → slot_of id block ds ≡ Some p → is_used p ds ≡ true
used_from_slot id block p [] h = absurd (cc)
used_from_slot id block p (d ∷ ds) h =
    elim (cases_eq d.id id) [
      | inl e ↦ or_left (has_place p d.slots) (is_used p ds) (has_from_slot block p d.slots (sym (ap (place_or_none block) (device_here id d ds e)) ∙ h))
      | inr n ↦ or_right (has_place p d.slots) (is_used p ds) (used_from_slot id block p ds (sym (ap (place_or_none block) (device_later id d ds n)) ∙ h))
    ]

slot_from_has : (p low : ℕ) (xs : List BlockSlot) → SlotsAscend low xs → has_place p xs ≡ true → (block : ℕ) × (low ≤ block) × (place_in block xs ≡ Some p)
slot_from_has p low [] a h = absurd (false≢true h)
slot_from_has p low (x ∷ xs) a h =
    elim (either (x.place == p) (has_place p xs) h) [
      | inl e ↦ (x.block, a.0, place_here x.block x xs refl ∙ ap Some (eqb-true x.place p e))
      | inr d ↦
          let r = slot_from_has p (suc x.block) xs a.1 d in
          (r.0, omega (arith, r.1, a.0), place_later r.0 x xs (λ e. absurd (omega (arith, e, r.1))) ∙ r.2)
    ]

slot_from : (p low : ℕ) (ds : Volumes) → DevicesAscend low ds → is_used p ds ≡ true → (id block : ℕ) × (low ≤ id) × (slot_of id block ds ≡ Some p)
slot_from p low [] a h = absurd (false≢true h)
slot_from p low (d ∷ ds) a h =
    elim (either (has_place p d.slots) (is_used p ds) h) [
      | inl e ↦
          let r = slot_from_has p 0 d.slots a.1 e in
          (d.id, r.0, a.0, ap (place_or_none r.0) (device_here d.id d ds refl) ∙ r.2)
      | inr e ↦
          let r = slot_from p (suc d.id) ds a.2 e in
          (r.0, r.1, omega (arith, r.2, a.0), ap (place_or_none r.1) (device_later r.0 d ds (λ q. absurd (omega (arith, q, r.2)))) ∙ r.3)
    ]

pub slot_from_used : (p : ℕ) (ds : Volumes) → DevicesAscend 0 ds → is_used p ds ≡ true → (id block : ℕ) × (slot_of id block ds ≡ Some p)
slot_from_used p ds a h = let r = slot_from p 0 ds a h in (r.0, r.1, r.3)

-- ---- another slot

other_from_slot : (block at p : ℕ) (xs : List BlockSlot) → place_in at xs ≡ Some p → at ≢ block → has_other block p xs ≡ true
other_from_slot block at p [] h n = absurd (cc)
other_from_slot block at p (x ∷ xs) h n =
    let a = (x.place == p) && not (x.block == block) in
    elim (cases_eq x.block at) [
      | inl e ↦
          or_left a (has_other block p xs)
          (joined (x.place == p) (x.block == block) (eq-eqb x.place p (some_eq x.place p (sym (place_here at x xs e) ∙ h))) (ne_eqb x.block block (λ q. n (sym e ∙ q))))
      | inr d ↦ or_right a (has_other block p xs) (other_from_slot block at p xs (sym (place_later at x xs d) ∙ h) n)
    ]

apart : (a b : ℕ) → (a == b) ≡ false → a ≢ b
apart a b f e = false≢true (sym f ∙ eq-eqb a b e)

slot_from_other : (block p low : ℕ) (xs : List BlockSlot) → SlotsAscend low xs → has_other block p xs ≡ true → (at : ℕ) × (low ≤ at) × (place_in at xs ≡ Some p) × (at ≢ block)
slot_from_other block p low [] a h = absurd (false≢true h)
slot_from_other block p low (x ∷ xs) a h =
    elim (either ((x.place == p) && not (x.block == block)) (has_other block p xs) h) [
      | inl e ↦
          let t = both (x.place == p) (x.block == block) e in
          (x.block, a.0, place_here x.block x xs refl ∙ ap Some (eqb-true x.place p t.0), apart x.block block t.1)
      | inr d ↦
          let r = slot_from_other block p (suc x.block) xs a.1 d in
          (r.0, omega (arith, r.1, a.0), place_later r.0 x xs (λ e. absurd (omega (arith, e, r.1))) ∙ r.2, r.3)
    ]

another_here : (id block p : ℕ) (d : DeviceSlots) → d.id ≡ id → has_another id block p d ≡ has_other block p d.slots
another_here id block p d h = grind (arith, nat_tests)

another_there : (id block p : ℕ) (d : DeviceSlots) → d.id ≢ id → has_another id block p d ≡ has_place p d.slots
another_there id block p d h = grind (arith, nat_tests)

another_from_slot : (id block at p : ℕ) (d : DeviceSlots) → place_in at d.slots ≡ Some p → (((d.id ≡ id) × (at ≡ block)) → ⊥) → has_another id block p d ≡ true
another_from_slot id block at p d h n =
    elim (cases_eq d.id id) [
      | inl e ↦ another_here id block p d e ∙ other_from_slot block at p d.slots h (λ q. n (e, q))
      | inr f ↦ another_there id block p d f ∙ has_from_slot at p d.slots h
    ]

slot_from_another : (id block p : ℕ) (d : DeviceSlots) → SlotsAscend 0 d.slots → has_another id block p d ≡ true → (at : ℕ) × (place_in at d.slots ≡ Some p) × (((d.id ≡ id) × (at ≡ block)) → ⊥)
slot_from_another id block p d a h =
    elim (cases_eq d.id id) [
      | inl e ↦ let r = slot_from_other block p 0 d.slots a (sym (another_here id block p d e) ∙ h) in (r.0, r.2, λ q. r.3 q.1)
      | inr f ↦ let r = slot_from_has p 0 d.slots a (sym (another_there id block p d f) ∙ h) in (r.0, r.2, λ q. f q.0)
    ]

pub elsewhere_from_slot : (id block other at p : ℕ) (ds : Volumes) → slot_of other at ds ≡ Some p → (((other ≡ id) × (at ≡ block)) → ⊥) → is_used_elsewhere id block p ds ≡ true
elsewhere_from_slot id block other at p [] h n = absurd (cc)
elsewhere_from_slot id block other at p (d ∷ ds) h n =
    elim (cases_eq d.id other) [
      | inl e ↦
          or_left (has_another id block p d) (is_used_elsewhere id block p ds)
          (another_from_slot id block at p d (sym (ap (place_or_none at) (device_here other d ds e)) ∙ h) (λ q. n (sym e ∙ q.0, q.1)))
      | inr f ↦
          or_right (has_another id block p d) (is_used_elsewhere id block p ds)
          (elsewhere_from_slot id block other at p ds (sym (ap (place_or_none at) (device_later other d ds f)) ∙ h) n)
    ]

slot_elsewhere : (id block p low : ℕ) (ds : Volumes) → DevicesAscend low ds → is_used_elsewhere id block p ds ≡ true → (other at : ℕ) × (low ≤ other) × (slot_of other at ds ≡ Some p) × (((other ≡ id) × (at ≡ block)) → ⊥)
slot_elsewhere id block p low [] a h = absurd (false≢true h)
slot_elsewhere id block p low (d ∷ ds) a h =
    elim (either (has_another id block p d) (is_used_elsewhere id block p ds) h) [
      | inl e ↦
          let r = slot_from_another id block p d a.1 e in
          (d.id, r.0, a.0, ap (place_or_none r.0) (device_here d.id d ds refl) ∙ r.1, r.2)
      | inr e ↦
          let r = slot_elsewhere id block p (suc d.id) ds a.2 e in
          (r.0, r.1, omega (arith, r.2, a.0), ap (place_or_none r.1) (device_later r.0 d ds (λ q. absurd (omega (arith, q, r.2)))) ∙ r.3, r.4)
    ]

pub slot_from_elsewhere : (id block p : ℕ) (ds : Volumes) → DevicesAscend 0 ds → is_used_elsewhere id block p ds ≡ true → (other at : ℕ) × (slot_of other at ds ≡ Some p) × (((other ≡ id) × (at ≡ block)) → ⊥)
slot_from_elsewhere id block p ds a h = let r = slot_elsewhere id block p 0 ds a h in (r.0, r.1, r.3, r.4)
