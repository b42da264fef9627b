-- What is told of sizes when the lists change.
use Rattle.std.proofs.Common.{◌≡◌, ◌≢◌, ℕ, suc, ◌<◌, List, [], ◌∷◌, refl, sym, ap, ◌∙◌, arith, inl, inr, Some, None}
use Rattle.std.specs.Option.{is_some}
use Rattle.std.proofs.lemmas.Bool.{cases_eq, cases_lt}
use Rattle.tp_sharing.specs.Volumes.{BlockSlot, DeviceSlots, DevicesAscend, Volumes, changed_at, device_of, size_of, with_device, without_device}
use Rattle.tp_sharing.specs.Changes.{SizeChanges}
use Rattle.tp_sharing.proofs.Changes.{altered, changed_here, changed_later, with_device_first, with_device_here, with_device_later, without_device_here, without_device_later}
use Rattle.tp_sharing.proofs.Slots.{device_here, device_later, size_here, size_later}

size_below : (low id : ℕ) (ds : Volumes) → DevicesAscend low ds → id < low → size_of id ds ≡ None
size_below low id [] a l = refl
size_below low id (d ∷ ds) a l = size_later id d ds (λ e. absurd (omega (arith, e, a.0))) ∙ size_below (suc d.id) id ds a.2 (omega (arith, a.0))

size_with_same : (x : DeviceSlots) (ds : Volumes) → size_of x.id (with_device x ds) ≡ Some x.size
size_with_same x [] = size_here x.id x [] refl
size_with_same x (d ∷ ds) =
    elim (cases_lt x.id d.id) [
      | inl l ↦ ap (size_of x.id) (with_device_first x d ds l) ∙ size_here x.id x (d ∷ ds) refl
      | inr g ↦ elim (cases_eq d.id x.id) [
        | inl e ↦ ap (size_of x.id) (with_device_here x d ds e) ∙ size_here x.id x ds refl
        | inr n ↦ ap (size_of x.id) (with_device_later x d ds (omega (arith, n))) ∙ (size_later x.id d (with_device x ds) n ∙ size_with_same x ds)
      ]
    ]

size_with_other : (x : DeviceSlots) (id : ℕ) (ds : Volumes) → id ≢ x.id → size_of id (with_device x ds) ≡ size_of id ds
size_with_other x id [] n = size_later id x [] (λ e. n (sym e))
size_with_other x id (d ∷ ds) n =
    elim (cases_lt x.id d.id) [
      | inl l ↦ ap (size_of id) (with_device_first x d ds l) ∙ size_later id x (d ∷ ds) (λ e. n (sym e))
      | inr g ↦ elim (cases_eq d.id x.id) [
        | inl e ↦
            ap (size_of id) (with_device_here x d ds e)
            ∙ (size_later id x ds (λ q. n (sym q)) ∙ sym (size_later id d ds (λ q. n (sym q ∙ e))))
        | inr o ↦
            ap (size_of id) (with_device_later x d ds (omega (arith, o)))
            ∙ elim (cases_eq d.id id) [
              | inl q ↦ size_here id d (with_device x ds) q ∙ sym (size_here id d ds q)
              | inr q ↦ size_later id d (with_device x ds) q ∙ (size_with_other x id ds n ∙ sym (size_later id d ds q))
            ]
      ]
    ]

size_without_same : (low id : ℕ) (ds : Volumes) → DevicesAscend low ds → size_of id (without_device id ds) ≡ None
size_without_same low id [] a = refl
size_without_same low id (d ∷ ds) a =
    elim (cases_eq d.id id) [
      | inl e ↦ ap (size_of id) (without_device_here id d ds e) ∙ size_below (suc d.id) id ds a.2 (omega (arith, e))
      | inr n ↦ ap (size_of id) (without_device_later id d ds n) ∙ (size_later id d (without_device id ds) n ∙ size_without_same (suc d.id) id ds a.2)
    ]

size_without_other : (id other : ℕ) (ds : Volumes) → other ≢ id → size_of other (without_device id ds) ≡ size_of other ds
size_without_other id other [] n = refl
size_without_other id other (d ∷ ds) n =
    elim (cases_eq d.id id) [
      | inl e ↦ ap (size_of other) (without_device_here id d ds e) ∙ sym (size_later other d ds (λ q. n (sym q ∙ e)))
      | inr o ↦
          ap (size_of other) (without_device_later id d ds o)
          ∙ elim (cases_eq d.id other) [
            | inl q ↦ size_here other d (without_device id ds) q ∙ sym (size_here other d ds q)
            | inr q ↦ size_later other d (without_device id ds) q ∙ (size_without_other id other ds n ∙ sym (size_later other d ds q))
          ]
    ]

-- a change of slots changes no size
size_unchanged : (id other : ℕ) (f : List BlockSlot → List BlockSlot) (ds : Volumes) → size_of other (changed_at id f ds) ≡ size_of other ds
size_unchanged id other f [] = refl
size_unchanged id other f (d ∷ ds) =
    elim (cases_eq d.id id) [
      | inl e ↦
          ap (size_of other) (changed_here id f d ds e)
          ∙ elim (cases_eq d.id other) [
            | inl q ↦ size_here other (altered f d) ds q ∙ sym (size_here other d ds q)
            | inr q ↦ size_later other (altered f d) ds q ∙ sym (size_later other d ds q)
          ]
      | inr o ↦
          ap (size_of other) (changed_later id f d ds o)
          ∙ elim (cases_eq d.id other) [
            | inl q ↦ size_here other d (changed_at id f ds) q ∙ sym (size_here other d ds q)
            | inr q ↦ size_later other d (changed_at id f ds) q ∙ (size_unchanged id other f ds ∙ sym (size_later other d ds q))
          ]
    ]

told_where_there : (id : ℕ) (ds : Volumes) → is_some (size_of id ds) ≡ is_some (device_of id ds)
told_where_there id [] = refl
told_where_there id (d ∷ ds) =
    elim (cases_eq d.id id) [
      | inl e ↦ ap is_some (size_here id d ds e) ∙ sym (ap is_some (device_here id d ds e))
      | inr n ↦ ap is_some (size_later id d ds n) ∙ (told_where_there id ds ∙ sym (ap is_some (device_later id d ds n)))
    ]

pub size_changes : SizeChanges
size_changes = record {
  with_same = size_with_same;
  with_other = size_with_other;
  without_same = size_without_same;
  without_other = size_without_other;
  slots = size_unchanged;
  told = told_where_there;
}
