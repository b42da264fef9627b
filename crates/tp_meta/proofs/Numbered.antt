-- How many devices there are after a change.
use Rattle.std.proofs.Common.{◌≡◌, ◌<◌, ◌≤◌, ℕ, zero, suc, ◌+◌, inl, inr, List, [], ◌∷◌, ◌++◌, map, None, Option, refl, sym, ap, subst, ◌∙◌, arith}
use Rattle.std.specs.Prelude.{◌^◌, IfSome, IsSome, if◌then◌else◌}
use Rattle.std.proofs.lemmas.Bool.{cases_eq, cases_lt, false≢true, le-ltb, lt-ltb}
use Rattle.std.proofs.lemmas.Option.{none-some}
use Rattle.tp_model.specs.Disk.{DiskState}
use Rattle.tp_sharing.specs.Volumes.{BlockSlot, DeviceSlots, Volumes, as_copy, changed_at, copy_id, device_of, devices_in, resized, with_device, without_device, without_place}
use Rattle.tp_sharing.proofs.Changes.{with_device_first, with_device_later, without_device_here, without_device_later}
use Rattle.tp_sharing.proofs.Sized.{resized_here, resized_later}
use Rattle.tp_sharing.proofs.Slots.{device_here, device_later}
use Rattle.tp_stored.specs.Contents.{Contents}
use Rattle.tp_mapping.specs.Mapping.{without_copies}
use Rattle.tp_mapping.specs.Runs.{without_run}
use Rattle.tp_mapping.proofs.Within.{changed_length, devices_joined, one_more, weight}
use Rattle.tp_meta.specs.Standing.{StandsFor}
use Rattle.tp_meta.specs.declared.whole.Meta.{Meta}

counts_one : (id : ℕ) → id < 2 ^ 24 → weight id ≡ 1
counts_one id low = ap {B = ℕ} (λ b. if b then 1 else 0) (lt-ltb id (2 ^ 24) low)

counts_none : (id : ℕ) → 2 ^ 24 ≤ id → weight id ≡ 0
counts_none id high = ap {B = ℕ} (λ b. if b then 1 else 0) (le-ltb id (2 ^ 24) high)

with_new_length : (x : DeviceSlots) (ds : Volumes) → x.id < 2 ^ 24 → device_of x.id ds ≡ None → devices_in (with_device x ds) ≡ devices_in ds + 1
with_new_length x [] low none = omega (arith, one_more x [], counts_one x.id low)
with_new_length x (y ∷ ys) low none =
    elim (cases_lt x.id y.id) [
      | inl l ↦ omega (arith, ap devices_in (with_device_first x y ys l), one_more x (y ∷ ys), counts_one x.id low)
      | inr g ↦ elim (cases_eq y.id x.id) [
        | inl e ↦ absurd (none-some y.slots (sym none ∙ device_here x.id y ys e))
        | inr n ↦
            let later : devices_in (with_device x ys) ≡ devices_in ys + 1 = with_new_length x ys low (sym (device_later x.id y ys n) ∙ none) in
            let below : y.id < x.id = omega (arith, g, n) in
            omega (arith, ap devices_in (with_device_later x y ys below), one_more y (with_device x ys), one_more y ys, later)
      ]
    ]

without_there_length : (id : ℕ) (ds : Volumes) → id < 2 ^ 24 → IsSome (device_of id ds) → devices_in (without_device id ds) + 1 ≡ devices_in ds
without_there_length id [] low some = absurd (false≢true some)
without_there_length id (y ∷ ys) low some =
    elim (cases_eq y.id id) [
      | inl e ↦ omega (arith, ap devices_in (without_device_here id y ys e), one_more y ys, counts_one y.id (omega (arith, e, low)))
      | inr n ↦
          let later : devices_in (without_device id ys) + 1 ≡ devices_in ys = without_there_length id ys low (subst IsSome (device_later id y ys n) some) in
          omega (arith, ap devices_in (without_device_later id y ys n), one_more y (without_device id ys), one_more y ys, later)
    ]

run_length : (id first n : ℕ) (ds : Volumes) → devices_in (without_run id first n ds) ≡ devices_in ds
run_length id first zero ds = refl
run_length id first (suc n) ds =
    changed_length id (without_place (first + n)) (without_run id first n ds) ∙ run_length id first n ds

resized_count : (id size : ℕ) (ds : Volumes) → devices_in (resized id size ds) ≡ devices_in ds
resized_count id size [] = refl
resized_count id size (d ∷ ds) =
    elim (cases_eq d.id id) [
      | inl e ↦ ap devices_in (resized_here id size d ds e) ∙ (one_more (record { id = d.id; size = size; slots = d.slots }) ds ∙ sym (one_more d ds))
      | inr n ↦ ap devices_in (resized_later id size d ds n) ∙ (one_more d (resized id size ds) ∙ (ap (λ (k : ℕ). weight d.id + k) (resized_count id size ds) ∙ sym (one_more d ds)))
    ]

-- a copy counts for no device
copies_count : (ds : Volumes) → devices_in (map as_copy ds) ≡ 0
copies_count [] = refl
copies_count (d ∷ ds) = omega (arith, one_more (as_copy d) (map as_copy ds), counts_none (copy_id d.id) (omega arith), copies_count ds)

without_copies_count : (ds : Volumes) → devices_in (without_copies ds) ≡ devices_in ds
without_copies_count [] = refl
without_copies_count (d ∷ ds) =
    elim (cases_lt d.id (2 ^ 24)) [
      | inl l ↦
          let e : without_copies (d ∷ ds) ≡ d ∷ without_copies ds = ap (λ b. if b then d ∷ without_copies ds else without_copies ds) (lt-ltb d.id (2 ^ 24) l) in
          omega (arith, ap devices_in e, one_more d (without_copies ds), one_more d ds, without_copies_count ds)
      | inr g ↦
          let e : without_copies (d ∷ ds) ≡ without_copies ds = ap (λ b. if b then d ∷ without_copies ds else without_copies ds) (le-ltb d.id (2 ^ 24) g) in
          omega (arith, ap devices_in e, one_more d ds, counts_none d.id g, without_copies_count ds)
    ]

-- slots of one device were changed
pub slots_numbered : (devices : Option ℕ) (id : ℕ) (f : List BlockSlot → List BlockSlot) (ds : Volumes) → IfSome devices (λ n. n ≡ devices_in ds)
    → IfSome devices (λ n. n ≡ devices_in (changed_at id f ds))
slots_numbered devices id f ds numbered = subst (λ k. IfSome devices (λ n. n ≡ k)) (sym (changed_length id f ds)) numbered

pub run_numbered : (devices : Option ℕ) (id first count : ℕ) (ds : Volumes) → IfSome devices (λ n. n ≡ devices_in ds)
    → IfSome devices (λ n. n ≡ devices_in (without_run id first count ds))
run_numbered devices id first count ds numbered = subst (λ k. IfSome devices (λ n. n ≡ k)) (sym (run_length id first count ds)) numbered

-- a device tells another size
pub resized_numbered : (devices : Option ℕ) (id size : ℕ) (ds : Volumes) → IfSome devices (λ n. n ≡ devices_in ds) → IfSome devices (λ n. n ≡ devices_in (resized id size ds))
resized_numbered devices id size ds numbered = subst (λ k. IfSome devices (λ n. n ≡ k)) (sym (resized_count id size ds)) numbered

-- a device was added
pub added_numbered : (devices : Option ℕ) (x : DeviceSlots) (ds : Volumes) → x.id < 2 ^ 24 → device_of x.id ds ≡ None → IfSome devices (λ n. n ≡ devices_in ds + 1)
    → IfSome devices (λ n. n ≡ devices_in (with_device x ds))
added_numbered devices x ds low none numbered = subst (λ k. IfSome devices (λ n. n ≡ k)) (sym (with_new_length x ds low none)) numbered

-- a device is to be removed
pub one_more_than : (devices : Option ℕ) (id : ℕ) (ds : Volumes) → id < 2 ^ 24 → IsSome (device_of id ds) → IfSome devices (λ n. n ≡ devices_in ds)
    → IfSome devices (λ n. n ≡ devices_in (without_device id ds) + 1)
one_more_than devices id ds low there numbered = subst (λ k. IfSome devices (λ n. n ≡ k)) (sym (without_there_length id ds low there)) numbered

-- copies of all volumes stand behind them
pub copied_numbered : (devices : Option ℕ) (ds : Volumes) → IfSome devices (λ n. n ≡ devices_in ds) → IfSome devices (λ n. n ≡ devices_in (ds ++ map as_copy ds))
copied_numbered devices ds numbered =
    let same : devices_in (ds ++ map as_copy ds) ≡ devices_in ds = omega (arith, devices_joined ds (map as_copy ds), copies_count ds) in
    subst (λ k. IfSome devices (λ n. n ≡ k)) (sym same) numbered

-- the copies went
pub alone_numbered : (devices : Option ℕ) (ds : Volumes) → IfSome devices (λ n. n ≡ devices_in ds) → IfSome devices (λ n. n ≡ devices_in (without_copies ds))
alone_numbered devices ds numbered = subst (λ k. IfSome devices (λ n. n ≡ k)) (sym (without_copies_count ds)) numbered

-- the devices were counted
pub counted_stands : (m : Meta) (devices : Option ℕ) (disk : DiskState) (now kept : Contents) → StandsFor m disk now kept → IfSome devices (λ n. n ≡ devices_in now.volumes)
    → StandsFor (record m { devices = devices }) disk now kept
counted_stands m devices disk now kept st numbered = record {
  honest = st.honest;
  mapping = st.mapping;
  held_root = st.held_root;
  numbered = numbered;
  transaction_id = st.transaction_id;
  needs_check = st.needs_check;
  sized = st.sized;
  meta_used = st.meta_used;
  geometry = st.geometry;
  commit = st.commit;
  left = st.left;
  kept_counts = st.kept_counts;
  kept_contents = st.kept_contents;
  current = st.current;
  marks_long = st.marks_long;
  tracked = st.tracked;
  same_contents = st.same_contents;
  same_counts = st.same_counts;
}
