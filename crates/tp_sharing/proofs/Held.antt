-- A held copy beside the volumes of now.
use Rattle.std.proofs.Common.{◌≡◌, ℕ, zero, suc, ◌<◌, List, [], ◌∷◌, ◌++◌, map, refl, sym, ap, subst, ◌∙◌, arith, inl, inr}
use Rattle.std.specs.Prelude.{◌^◌}
use Rattle.std.proofs.lemmas.Bool.{cases_eq, cases_lt}
use Rattle.tp_refs.specs.Store.{Store}
use Rattle.tp_refs.proofs.Steps.{one_other}
use Rattle.tp_sharing.specs.Forest.{Forest}
use Rattle.tp_sharing.specs.Later.{CopiesStay, ForestsOfBoth, HeldStays}
use Rattle.tp_sharing.specs.Volumes.{BlockSlot, DeviceSlots, Volumes, as_copy, changed_at, copies_below, resized, volumes_below, with_device, without_device}
use Rattle.tp_sharing.proofs.Changes.{changed_here, changed_later, with_device_first, with_device_here, with_device_later, without_device_here, without_device_later}
use Rattle.tp_sharing.proofs.Later.{forest_stays}
use Rattle.tp_sharing.proofs.Sized.{resized_here, resized_later}

pub forests_of_both : ForestsOfBoth
forests_of_both s root zero fixed top f h r here =
    elim (cases_eq root r) [
      | inl e ↦ subst (λ x. Forest s x fixed top) e f
      | inr d ↦ absurd (omega (arith, here, one_other root r d))
    ]
forests_of_both s root (suc n) fixed top f h r here =
    elim (cases_eq root r) [
      | inl e ↦ subst (λ x. Forest s x fixed top) e f
      | inr d ↦ elim (cases_eq (suc n) r) [
        | inl e ↦ subst (λ x. Forest s x fixed top) e h
        | inr g ↦ absurd (omega (arith, here, one_other root r d, one_other (suc n) r g))
      ]
    ]

pub held_stays : HeldStays
held_stays s t zero fixed top h len frame = (tt, λ m. refl)
held_stays s t (suc n) fixed top h len frame =
    let f = forest_stays s t (suc n) fixed top h len frame in
    (f.forest, λ m. ap (map as_copy) (f.lists m))

-- ---- copies stand behind all ids of devices

with_copies : (x : DeviceSlots) (ds : Volumes) → x.id < 2 ^ 24 → with_device x (map as_copy ds) ≡ x ∷ map as_copy ds
with_copies x [] l = refl
with_copies x (d ∷ ds) l = with_device_first x (as_copy d) (map as_copy ds) (omega (arith, l))

with_below : (x : DeviceSlots) (m : ℕ) (s : Store) (held : ℕ) → x.id < 2 ^ 24 → with_device x (copies_below m s held) ≡ x ∷ copies_below m s held
with_below x m s zero l = refl
with_below x m s (suc n) l = with_copies x (volumes_below m s (suc n)) l

without_copies : (id : ℕ) (ds : Volumes) → id < 2 ^ 24 → without_device id (map as_copy ds) ≡ map as_copy ds
without_copies id [] l = refl
without_copies id (d ∷ ds) l = without_device_later id (as_copy d) (map as_copy ds) (λ e. absurd (omega (arith, e, l))) ∙ ap (λ xs. as_copy d ∷ xs) (without_copies id ds l)

without_below : (id m : ℕ) (s : Store) (held : ℕ) → id < 2 ^ 24 → without_device id (copies_below m s held) ≡ copies_below m s held
without_below id m s zero l = refl
without_below id m s (suc n) l = without_copies id (volumes_below m s (suc n)) l

changed_copies : (id : ℕ) (f : List BlockSlot → List BlockSlot) (ds : Volumes) → id < 2 ^ 24 → changed_at id f (map as_copy ds) ≡ map as_copy ds
changed_copies id f [] l = refl
changed_copies id f (d ∷ ds) l = changed_later id f (as_copy d) (map as_copy ds) (λ e. absurd (omega (arith, e, l))) ∙ ap (λ xs. as_copy d ∷ xs) (changed_copies id f ds l)

changed_below : (id : ℕ) (f : List BlockSlot → List BlockSlot) (m : ℕ) (s : Store) (held : ℕ) → id < 2 ^ 24 → changed_at id f (copies_below m s held) ≡ copies_below m s held
changed_below id f m s zero l = refl
changed_below id f m s (suc n) l = changed_copies id f (volumes_below m s (suc n)) l

resized_copies : (id size : ℕ) (ds : Volumes) → id < 2 ^ 24 → resized id size (map as_copy ds) ≡ map as_copy ds
resized_copies id size [] l = refl
resized_copies id size (d ∷ ds) l = resized_later id size (as_copy d) (map as_copy ds) (λ e. absurd (omega (arith, e, l))) ∙ ap (λ xs. as_copy d ∷ xs) (resized_copies id size ds l)

resized_below : (id size m : ℕ) (s : Store) (held : ℕ) → id < 2 ^ 24 → resized id size (copies_below m s held) ≡ copies_below m s held
resized_below id size m s zero l = refl
resized_below id size m s (suc n) l = resized_copies id size (volumes_below m s (suc n)) l

-- ---- lists, one behind the other

with_front : (x : DeviceSlots) (ds es : Volumes) → with_device x es ≡ x ∷ es → with_device x (ds ++ es) ≡ with_device x ds ++ es
with_front x [] es h = h
with_front x (d ∷ ds) es h =
    elim (cases_lt x.id d.id) [
      | inl l ↦ with_device_first x d (ds ++ es) l ∙ ap (λ xs. xs ++ es) (sym (with_device_first x d ds l))
      | inr g ↦ elim (cases_eq d.id x.id) [
        | inl e ↦ with_device_here x d (ds ++ es) e ∙ ap (λ xs. xs ++ es) (sym (with_device_here x d ds e))
        | inr n ↦
            let less : d.id < x.id = omega (arith, g, n) in
            with_device_later x d (ds ++ es) less ∙ (ap (λ xs. d ∷ xs) (with_front x ds es h) ∙ ap (λ xs. xs ++ es) (sym (with_device_later x d ds less)))
      ]
    ]

without_front : (id : ℕ) (ds es : Volumes) → without_device id es ≡ es → without_device id (ds ++ es) ≡ without_device id ds ++ es
without_front id [] es h = h
without_front id (d ∷ ds) es h =
    elim (cases_eq d.id id) [
      | inl e ↦ without_device_here id d (ds ++ es) e ∙ ap (λ xs. xs ++ es) (sym (without_device_here id d ds e))
      | inr n ↦ without_device_later id d (ds ++ es) n ∙ (ap (λ xs. d ∷ xs) (without_front id ds es h) ∙ ap (λ xs. xs ++ es) (sym (without_device_later id d ds n)))
    ]

changed_front : (id : ℕ) (f : List BlockSlot → List BlockSlot) (ds es : Volumes) → changed_at id f es ≡ es → changed_at id f (ds ++ es) ≡ changed_at id f ds ++ es
changed_front id f [] es h = h
changed_front id f (d ∷ ds) es h =
    elim (cases_eq d.id id) [
      | inl e ↦ changed_here id f d (ds ++ es) e ∙ ap (λ xs. xs ++ es) (sym (changed_here id f d ds e))
      | inr n ↦ changed_later id f d (ds ++ es) n ∙ (ap (λ xs. d ∷ xs) (changed_front id f ds es h) ∙ ap (λ xs. xs ++ es) (sym (changed_later id f d ds n)))
    ]

resized_front : (id size : ℕ) (ds es : Volumes) → resized id size es ≡ es → resized id size (ds ++ es) ≡ resized id size ds ++ es
resized_front id size [] es h = h
resized_front id size (d ∷ ds) es h =
    elim (cases_eq d.id id) [
      | inl e ↦ resized_here id size d (ds ++ es) e ∙ ap (λ xs. xs ++ es) (sym (resized_here id size d ds e))
      | inr n ↦ resized_later id size d (ds ++ es) n ∙ (ap (λ xs. d ∷ xs) (resized_front id size ds es h) ∙ ap (λ xs. xs ++ es) (sym (resized_later id size d ds n)))
    ]

pub copies_stay : CopiesStay
copies_stay = record {
  with_one = λ x now m s held l. with_front x now (copies_below m s held) (with_below x m s held l);
  without_one = λ id now m s held l. without_front id now (copies_below m s held) (without_below id m s held l);
  changed = λ id f now m s held l. changed_front id f now (copies_below m s held) (changed_below id f m s held l);
  grown = λ id size now m s held l. resized_front id size now (copies_below m s held) (resized_below id size m s held l);
}
