-- Devices of a list that were changed in place.
use Rattle.std.proofs.Common.{◌≡◌, ◌≢◌, ℕ, zero, suc, ◌<◌, ◌≤◌, List, [], ◌∷◌, ◌++◌, length, get_or, set, take, drop, refl, sym, ap, subst, ◌∙◌, arith, inl, inr, Some, None}
use Rattle.std.specs.Prelude.{Err, Ok, OnOk, Result, vec_capacity}
use Rattle.std.specs.List.{insert, remove}
use Rattle.std.proofs.lemmas.Bool.{cases_eq, cases_lt}
use Rattle.std.proofs.lemmas.Bool.Decides.{nat_tests}
use Rattle.std.proofs.lemmas.List.Elements.{All-append, All-cons, All-drop, All-take}
use Rattle.std.proofs.lemmas.List.{get_or-set_same, get_or-set_other, length-set}
use Rattle.tp_sharing.specs.Volumes.{BlockSlot, DeviceSlots, changed_at, device_of, resized, size_of, with_device, without_device}
use Rattle.tp_sharing.proofs.Sized.{resized_here, resized_later}
use Rattle.tp_sharing.proofs.Changes.{changed_here, changed_later, with_device_first, with_device_later, without_device_here, without_device_later}
use Rattle.tp_sharing.proofs.Slots.{device_here, device_later, size_here, size_later}
use Rattle.tp_list_mapping.specs.declared.device.Device.{Device}
use Rattle.tp_list_mapping.specs.List.{HasChanged, IsAsRoomy, IsRoomy, device_rank, volume, volumes}

changed_there : (id : ℕ) (f : List BlockSlot → List BlockSlot) (d x : Device) (ds : List Device) (i : ℕ) → i < length ds → (get_or ds i d).id ≡ id → ((j : ℕ) → j < i → (get_or ds j d).id ≢ id)
    → x.id ≡ (get_or ds i d).id → x.size ≡ (get_or ds i d).size → x.slots.items ≡ f (get_or ds i d).slots.items → volumes (set ds i x) ≡ changed_at id f (volumes ds)
changed_there id f d x [] i h p n e z g = absurd (omega (arith, h))
changed_there id f d x (y ∷ ys) zero h p n e z g = (λ k. record { id = e k; size = z k; slots = g k } ∷ volumes ys) ∙ sym (changed_here id f (volume y) (volumes ys) p)
changed_there id f d x (y ∷ ys) (suc i) h p n e z g =
    ap (λ zs. volume y ∷ zs) (changed_there id f d x ys i (omega (arith, h)) p (λ j l. n (suc j) (omega (arith, l))) e z g)
    ∙ sym (changed_later id f (volume y) (volumes ys) (n 0 (omega arith)))

pub is_changed : (id : ℕ) (f : List BlockSlot → List BlockSlot) (old new : List Device) (at : ℕ) → at < length old → ((d : Device) → (get_or old at d).id ≡ id) → ((j : ℕ) (d : Device) → j < at → (get_or old j d).id ≢ id)
    → HasChanged f at old new → volumes new ≡ changed_at id f (volumes old)
is_changed id f old new at h p n r =
    ap volumes r.changed
    ∙ changed_there id f r.was r.device old at h (p r.was) (λ j l. n j r.was l) (r.id ∙ ap (λ y. y.id) r.there) (r.size ∙ ap (λ y. y.size) r.there) (r.slots ∙ ap (λ y. f y.slots.items) r.there)

-- the size of a device, and another one in its place
sized_there : (id : ℕ) (d : Device) (ds : List Device) (i : ℕ) → i < length ds → (get_or ds i d).id ≡ id → ((j : ℕ) → j < i → (get_or ds j d).id ≢ id) → size_of id (volumes ds) ≡ Some (get_or ds i d).size
sized_there id d [] i h p n = absurd (omega (arith, h))
sized_there id d (y ∷ ys) zero h p n = size_here id (volume y) (volumes ys) p
sized_there id d (y ∷ ys) (suc i) h p n = size_later id (volume y) (volumes ys) (n 0 (omega arith)) ∙ sized_there id d ys i (omega (arith, h)) p (λ j l. n (suc j) (omega (arith, l)))

resized_there : (id size : ℕ) (d x : Device) (ds : List Device) (i : ℕ) → i < length ds → (get_or ds i d).id ≡ id → ((j : ℕ) → j < i → (get_or ds j d).id ≢ id)
    → x.id ≡ (get_or ds i d).id → x.size ≡ size → x.slots.items ≡ (get_or ds i d).slots.items → volumes (set ds i x) ≡ resized id size (volumes ds)
resized_there id size d x [] i h p n e z g = absurd (omega (arith, h))
resized_there id size d x (y ∷ ys) zero h p n e z g = (λ k. record { id = e k; size = z k; slots = g k } ∷ volumes ys) ∙ sym (resized_here id size (volume y) (volumes ys) p)
resized_there id size d x (y ∷ ys) (suc i) h p n e z g =
    ap (λ zs. volume y ∷ zs) (resized_there id size d x ys i (omega (arith, h)) p (λ j l. n (suc j) (omega (arith, l))) e z g)
    ∙ sym (resized_later id size (volume y) (volumes ys) (n 0 (omega arith)))

roomy_set : (n i : ℕ) (x d : Device) (ds : List Device) → i < length ds → vec_capacity (get_or ds i d).slots ≤ vec_capacity x.slots → IsRoomy n ds → IsRoomy n (set ds i x)
roomy_set n i x d ds h g all = λ k e l.
    elim (cases_eq k i) [
      | inl q ↦
          let m : n ≤ vec_capacity (get_or ds i d).slots = all i d h in
          let same : get_or (set ds i x) k e ≡ x = ap (λ j. get_or (set ds i x) j e) q ∙ get_or-set_same ds i x e h in
          subst (λ y. n ≤ vec_capacity y.slots) (sym same) (omega (arith, m, g))
      | inr q ↦ subst (λ y. n ≤ vec_capacity y.slots) (sym (get_or-set_other ds i k x e q)) (all k e (omega (arith, l, length-set ds i x)))
    ]

pub as_roomy : (f : List BlockSlot → List BlockSlot) (old new : List Device) (at : ℕ) → at < length old → HasChanged f at old new → IsAsRoomy old new
as_roomy f old new at h r = record {
  sized = ap length r.changed ∙ length-set old at r.device;
  room = λ n all. subst (IsRoomy n) (sym r.changed) (roomy_set n at r.device r.was old h (subst (λ y. vec_capacity y.slots ≤ vec_capacity r.device.slots) r.there r.room) all);
}

-- ---- the same, by a row that is the list

module _ (id at : ℕ) (ds old : List Device) (e : ds ≡ old) where
  pub found_changed : (f : List BlockSlot → List BlockSlot) (new : List Device) → at < length ds → ((d : Device) → (get_or ds at d).id ≡ id) → ((j : ℕ) (d : Device) → j < at → (get_or ds j d).id ≢ id)
      → HasChanged f at old new → volumes new ≡ changed_at id f (volumes old)
  found_changed f new h p n r = is_changed id f ds new at h p n (subst (λ l. HasChanged f at l new) (sym e) r) ∙ ap (λ l. changed_at id f (volumes l)) e

  pub found_roomy : (f : List BlockSlot → List BlockSlot) (new : List Device) → at < length ds → HasChanged f at old new → IsAsRoomy old new
  found_roomy f new h r = as_roomy f old new at (subst (λ l. at < length l) e h) r

  pub found_size : at < length ds → ((d : Device) → (get_or ds at d).id ≡ id) → ((j : ℕ) (d : Device) → j < at → (get_or ds j d).id ≢ id) → (d : Device) → size_of id (volumes old) ≡ Some (get_or old at d).size
  found_size h p n d = subst (λ l. size_of id (volumes l) ≡ Some (get_or l at d).size) e (sized_there id d ds at h (p d) (λ j l. n j d l))

  pub found_resized : (size : ℕ) (x was : Device) → at < length ds → ((d : Device) → (get_or ds at d).id ≡ id) → ((j : ℕ) (d : Device) → j < at → (get_or ds j d).id ≢ id)
      → was ≡ get_or old at was → x.id ≡ was.id → x.size ≡ size → x.slots.items ≡ was.slots.items → volumes (set old at x) ≡ resized id size (volumes old)
  found_resized size x was h p n there i z g =
      subst (λ l. volumes (set l at x) ≡ resized id size (volumes l)) e
      (resized_there id size was x ds at h (p was) (λ j l. n j was l) (i ∙ ap (λ y. y.id) (there ∙ ap (λ l. get_or l at was) (sym e))) z (g ∙ ap (λ y. y.slots.items) (there ∙ ap (λ l. get_or l at was) (sym e))))

-- ---- devices put in and taken out

rank_yes : (id : ℕ) (d : DeviceSlots) (ds : List DeviceSlots) → d.id < id → device_rank id (d ∷ ds) ≡ suc (device_rank id ds)
rank_yes id d ds h = grind (arith, nat_tests)

rank_no : (id : ℕ) (d : DeviceSlots) (ds : List DeviceSlots) → id ≤ d.id → device_rank id (d ∷ ds) ≡ 0
rank_no id d ds h = grind (arith, nat_tests)

some_none : (xs : List BlockSlot) → Some xs ≡ None → ⊥
some_none xs h = cc

add_there : (x : Device) (ds : List Device) (i : ℕ) → i ≡ device_rank x.id (volumes ds) → device_of x.id (volumes ds) ≡ None → volumes (insert ds i x) ≡ with_device (volume x) (volumes ds)
add_there x [] zero e n = refl
add_there x [] (suc i) e n = absurd (omega (arith, e))
add_there x (y ∷ ys) zero e n =
    elim (cases_lt y.id x.id) [
      | inl l ↦ absurd (omega (arith, e, rank_yes x.id (volume y) (volumes ys) l))
      | inr g ↦ elim (cases_eq y.id x.id) [
        | inl p ↦ absurd (some_none y.slots.items (sym (device_here x.id (volume y) (volumes ys) p) ∙ n))
        | inr d ↦ sym (with_device_first (volume x) (volume y) (volumes ys) (omega (arith, g, d)))
      ]
    ]
add_there x (y ∷ ys) (suc i) e n =
    elim (cases_lt y.id x.id) [
      | inl l ↦
          ap (λ zs. volume y ∷ zs)
          (add_there x ys i (omega (arith, e, rank_yes x.id (volume y) (volumes ys) l)) (sym (device_later x.id (volume y) (volumes ys) (λ q. absurd (omega (arith, q, l)))) ∙ n))
          ∙ sym (with_device_later (volume x) (volume y) (volumes ys) l)
      | inr g ↦ absurd (omega (arith, e, rank_no x.id (volume y) (volumes ys) (omega (arith, g))))
    ]

remove_there : (id : ℕ) (d : Device) (ds : List Device) (i : ℕ) → i < length ds → (get_or ds i d).id ≡ id → ((j : ℕ) → j < i → (get_or ds j d).id ≢ id) → volumes (remove ds i) ≡ without_device id (volumes ds)
remove_there id d [] i h p n = absurd (omega (arith, h))
remove_there id d (y ∷ ys) zero h p n = sym (without_device_here id (volume y) (volumes ys) p)
remove_there id d (y ∷ ys) (suc i) h p n =
    ap (λ zs. volume y ∷ zs) (remove_there id d ys i (omega (arith, h)) p (λ j l. n (suc j) (omega (arith, l))))
    ∙ sym (without_device_later id (volume y) (volumes ys) (n 0 (omega arith)))

module _ (ds old : List Device) (e : ds ≡ old) where
  pub added : (x : Device) (new : List Device) (i : ℕ) → i ≡ device_rank x.id (volumes ds) → new ≡ insert old i x → device_of x.id (volumes old) ≡ None → volumes new ≡ with_device (volume x) (volumes old)
  added x new i r q n = ap volumes q ∙ add_there x old i (r ∙ ap (λ l. device_rank x.id (volumes l)) e) n

  pub removed : (id : ℕ) (d : Device) (new : List Device) (i : ℕ) → i < length ds → ((d : Device) → (get_or ds i d).id ≡ id) → ((j : ℕ) (d : Device) → j < i → (get_or ds j d).id ≢ id) → new ≡ remove old i
      → volumes new ≡ without_device id (volumes old)
  removed id d new i h p n q =
      ap volumes q ∙ (ap (λ l. volumes (remove l i)) (sym e) ∙ (remove_there id d ds i h (p d) (λ j l. n j d l) ∙ ap (λ l. without_device id (volumes l)) e))

-- ---- room of the devices

abbrev Has : ℕ → Device → Type 0
Has n d = n ≤ vec_capacity d.slots

pub roomy_more : (n i : ℕ) (x : Device) (old new : List Device) → new ≡ insert old i x → IsRoomy n old → n ≤ vec_capacity x.slots → IsRoomy n new
roomy_more n i x old new q all h =
    subst (IsRoomy n) (sym q) (All-append (Has n) (take i old) (x ∷ drop i old) (All-take (Has n) i old all) (All-cons (Has n) x (drop i old) h (All-drop (Has n) i old all)))

pub roomy_fewer : (n i : ℕ) (old new : List Device) → new ≡ remove old i → IsRoomy n old → IsRoomy n new
roomy_fewer n i old new q all =
    subst (IsRoomy n) (sym q) (All-append (Has n) (take i old) (drop (suc i) old) (All-take (Has n) i old all) (All-drop (Has n) (suc i) old all))

pub roomy_taken : (n i : ℕ) (x : Device) (old : List Device) → x ≡ get_or old i x → i < length old → IsRoomy n old → n ≤ vec_capacity x.slots
roomy_taken n i x old e h all = subst (Has n) (sym e) (all i x h)

-- ---- clauses on one answer

pub ok_gives : {T E P : Type 0} (r : Result T E) → P → OnOk r P
ok_gives (Ok x) p = p
ok_gives (Err e) p = tt

pub err_gives : {T E : Type 0} (P : Type 0) (r : Result T E) (e : E) → r ≡ Err e → OnOk r P
err_gives P r e h = subst (λ a. OnOk a P) (sym h) tt

pub on_ok_two : {T E P Q R : Type 0} (r : Result T E) → (P → Q → R) → OnOk r P → OnOk r Q → OnOk r R
on_ok_two (Ok x) f p q = f p q
on_ok_two (Err e) f p q = tt

pub on_ok_three : {T E P Q R S : Type 0} (r : Result T E) → (P → Q → R → S) → OnOk r P → OnOk r Q → OnOk r R → OnOk r S
on_ok_three (Ok x) f p q t = f p q t
on_ok_three (Err e) f p q t = tt

-- the last device was taken off
pub popped : (n : ℕ) (x : Device) (old new : List Device) → old ≡ new ++ x ∷ [] → IsRoomy n old → (n ≤ vec_capacity x.slots) × IsRoomy n new
popped n x old new e all = go new (subst (IsRoomy n) e all) where
  go : (ds : List Device) → IsRoomy n (ds ++ x ∷ []) → (n ≤ vec_capacity x.slots) × IsRoomy n ds
  go [] a = (a 0 x (omega arith), λ k d h. absurd (omega (arith, h)))
  go (y ∷ ys) a =
      let r = go ys (λ k d h. a (suc k) d (omega (arith, h))) in
      (r.0, All-cons (Has n) y ys (a 0 y (omega arith)) r.1)

pub pushed_room : (n : ℕ) (x : Device) (old new : List Device) → new ≡ old ++ x ∷ [] → IsRoomy n old → n ≤ vec_capacity x.slots → IsRoomy n new
pushed_room n x old new e all h = subst (IsRoomy n) (sym e) (All-append (Has n) old (x ∷ []) all (All-cons (Has n) x [] h (λ k d l. absurd (omega (arith, l)))))
