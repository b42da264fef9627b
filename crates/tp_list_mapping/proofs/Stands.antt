-- A list that was changed stands for the changed volumes.
use Rattle.std.proofs.Common.{◌≡◌, ℕ, suc, ◌+◌, ◌<◌, ◌≤◌, ◌||◌, Bool, true, false, List, [], ◌∷◌, length, get_or, refl, sym, ap, subst, ◌∙◌, arith, inl, inr, ◌⊎◌, Some, None}
use Rattle.std.specs.Prelude.{◌^◌, IsSome, MatchOption, Option, vec_capacity}
use Rattle.std.specs.Option.{option_map}
use Rattle.std.proofs.lemmas.Bool.{cases_eq, false≢true}
use Rattle.std.proofs.lemmas.List.{length-map}
use Rattle.tp_model.specs.Geometry.{Geometry}
use Rattle.tp_model.specs.Told.{IsToldSize, told_blocks}
use Rattle.tp_sharing.specs.Volumes.{BlockSlot, DeviceSlots, DevicesAscend, SlotsAscend, Unused, Volumes, changed_at, device_of, devices_in, mapped_of, place_in, place_or_none, resized, size_of, slot_of, with_device, with_place, with_slot, without_device}
use Rattle.tp_sharing.proofs.Sized.{resized_is_put}
use Rattle.tp_sharing.proofs.Told.{size_changes}
use Rattle.tp_sharing.proofs.Slots.{place_here, place_later}
use Rattle.tp_mapping.specs.declared.mapped.Mapped.{Mapped}
use Rattle.tp_list_mapping.specs.declared.list.ListMapping.{ListMapping}
use Rattle.tp_list_mapping.specs.declared.device.Device.{Device}
use Rattle.tp_mapping.specs.Slots.{last_block}
use Rattle.tp_mapping.proofs.Tops.{is_highest}
use Rattle.tp_mapping.specs.Mapping.{AreWithin, IsHighest, slots_of, slots_or_none, IsFree, IsLeastFree, IsTold, IsWithin, NoneIsFree}
use Rattle.tp_list_mapping.specs.List.{IsAsRoomy, IsRoomy, is_taken, volume, volumes}
use Rattle.tp_mapping.specs.List.{is_used, is_used_elsewhere}
use Rattle.tp_list_mapping.specs.Standing.{IsBounded, StandsFor, counts_of}
use Rattle.tp_mapping.proofs.Uses.{elsewhere_from_slot, slot_from_elsewhere, slot_from_used, used_from_slot}
use Rattle.tp_mapping.specs.Runs.{without_places, without_run}
use Rattle.tp_mapping.proofs.Between.{size_there}
use Rattle.tp_mapping.proofs.WithoutRuns.{run_is_changed, within_run}
use Rattle.tp_list_mapping.proofs.Within.{low_changed, low_count, low_resized, low_run, low_with, low_without, within_resized, within_with_device, within_with_slot, within_without_device}
use Rattle.tp_mapping.proofs.Within.{slots_ascend}

none_some : {A : Type 0} (a : Option A) (x : A) → a ≡ None → a ≡ Some x → ⊥
none_some a x e f = cc

same_some : {A : Type 0} (x y : A) → Some x ≡ Some y → x ≡ y
same_some x y h = cc

-- ---- slots of a device

slots_fit : (low top : ℕ) (xs : List BlockSlot) → low ≤ top → SlotsAscend low xs → ((b p : ℕ) → place_in b xs ≡ Some p → b < top) → low + length xs ≤ top
slots_fit low top [] l a each = omega (arith, l)
slots_fit low top (x ∷ xs) l a each =
    let first : x.block < top = each x.block x.place (place_here x.block x xs refl) in
    let rest : suc x.block + length xs ≤ top =
    slots_fit (suc x.block) top xs (omega (arith, first)) a.1
    (λ b p h. elim (cases_eq x.block b) [
      | inl e ↦ omega (arith, e, first)
      | inr n ↦ each b p (place_later b x xs n ∙ h)
    ]) in
    omega (arith, rest, a.0)

module _ (g : Geometry) (ds : Volumes) (w : IsWithin g ds) (id : ℕ) (xs : List BlockSlot) (is : device_of id ds ≡ Some xs) where
  pub own_ascend : SlotsAscend 0 xs
  own_ascend = slots_ascend 0 id ds xs w.ascend is

  pub own_within : (b p : ℕ) → place_in b xs ≡ Some p → (b < 2 ^ 24) × (p < g.data_blocks)
  own_within b p h = w.slots id b p (ap (place_or_none b) is ∙ h)

  pub own_below : (size : ℕ) → size_of id ds ≡ Some size → (b p : ℕ) → place_in b xs ≡ Some p → b < told_blocks g size
  own_below size told b p h = w.sized.inside id size b p told (ap (place_or_none b) is ∙ h)

  pub own_few : (most : ℕ) → IsBounded g most ds → length xs ≤ most
  own_few most bounded =
      let size = size_there id ds xs is in
      let bound = bounded id size.0 size.1 in
      omega (arith, slots_fit 0 most xs (omega arith) own_ascend (λ b p h. let low = own_below size.0 size.1 b p h in omega (arith, low, bound)))

bounded_changed : (g : Geometry) (most id : ℕ) (f : List BlockSlot → List BlockSlot) (ds : Volumes) → IsBounded g most ds → IsBounded g most (changed_at id f ds)
bounded_changed g most id f ds b q size h = b q size (sym (size_changes.slots id q f ds) ∙ h)

some_of : {A : Type 0} (a : Option A) → IsSome a → (x : A) × (a ≡ Some x)
some_of None h = absurd (false≢true h)
some_of (Some x) h = (x, refl)

either : (a b : Bool) → (a || b) ≡ true → (a ≡ true) ⊎ (b ≡ true)
either true b h = inl refl
either false b h = inr h

neither : (a b : Bool) → (a || b) ≡ false → (a ≡ false) × (b ≡ false)
neither true b h = absurd (false≢true (sym h))
neither false b h = (refl, h)

module _ (m : ListMapping) (now kept : Volumes) (s : StandsFor m now kept) where
  pub devices_counted : devices_in now ≡ length m.devices.items
  devices_counted = low_count now s.low ∙ (ap length s.listed ∙ length-map m.devices.items volume)

  -- ---- what is told

  listed_ascend : DevicesAscend 0 (volumes m.devices.items)
  listed_ascend = subst (DevicesAscend 0) s.listed s.within.volumes_now.ascend

  pub is_told : (id block place : ℕ) (answer : Option Mapped) → slot_of id block (volumes m.devices.items) ≡ Some place
      → MatchOption answer ⊥ (λ at. (at.place ≡ place) × (at.is_shared ≡ is_used_elsewhere id block place (volumes m.devices.items))) → IsTold id block now answer
  is_told id block place None e h = absurd h
  is_told id block place (Some at) e h = (
    ap (slot_of id block) s.listed ∙ (e ∙ ap Some (sym h.0)),
    (
      λ t.
          let r = slot_from_elsewhere id block place (volumes m.devices.items) listed_ascend (sym h.1 ∙ t) in
          (r.0, r.1, ap (slot_of r.0 r.1) s.listed ∙ (r.2 ∙ ap Some (sym h.0)), r.3),
      λ o. h.1 ∙ elsewhere_from_slot id block o.0 o.1 place (volumes m.devices.items) (ap (slot_of o.0 o.1) (sym s.listed) ∙ (o.2 ∙ ap Some h.0)) o.3,
    ),
  )

  pub few_mapped : (id n : ℕ) → mapped_of id (volumes m.devices.items) ≡ Some n → n ≤ m.most_blocks
  few_mapped id n h = go (device_of id (volumes m.devices.items)) refl where
    go : (o : Option (List BlockSlot)) → device_of id (volumes m.devices.items) ≡ o → n ≤ m.most_blocks
    go None e = absurd (none_some (mapped_of id (volumes m.devices.items)) n (ap (option_map length) e) h)
    go (Some xs) e =
        let k : n ≡ length xs = same_some n (length xs) (sym h ∙ ap (option_map length) e) in
        omega (arith, k, own_few m.geometry now s.within.volumes_now id xs (ap (device_of id) s.listed ∙ e) m.most_blocks s.bounded)

  -- ---- free data blocks

  taken_not_free : (p : ℕ) → p < m.geometry.data_blocks → is_taken (volumes m.devices.items) m.kept.items p ≡ true → IsFree now kept p → ⊥
  taken_not_free p l t f =
      elim (either (get_or m.kept.items p false) (is_used p (volumes m.devices.items)) t) [
        | inl a ↦ false≢true (sym ((s.marked p l).1 f.1) ∙ a)
        | inr b ↦ let r = slot_from_used p (volumes m.devices.items) listed_ascend b in f.0 r.0 r.1 (ap (slot_of r.0 r.1) s.listed ∙ r.2)
      ]

  pub none_free : ((p : ℕ) → p < m.geometry.data_blocks → is_taken (volumes m.devices.items) m.kept.items p ≡ true) → NoneIsFree m.geometry now kept
  none_free h p l f = taken_not_free p l (h p l) f

  pub least_free : (p : ℕ) → p < m.geometry.data_blocks → is_taken (volumes m.devices.items) m.kept.items p ≡ false → ((q : ℕ) → q < p → is_taken (volumes m.devices.items) m.kept.items q ≡ true)
      → IsLeastFree m.geometry now kept p
  least_free p l f h =
      let t = neither (get_or m.kept.items p false) (is_used p (volumes m.devices.items)) f in
      record {
        inside = l;
        free = (
          λ id b e. false≢true (sym t.1 ∙ used_from_slot id b p (volumes m.devices.items) (ap (slot_of id b) (sym s.listed) ∙ e)),
          (s.marked p l).0 t.0,
        );
        least = λ q k. taken_not_free q (omega (arith, k, l)) (h q k);
      }

  -- ---- changes

  within_next : (next : Volumes) → IsWithin m.geometry next → AreWithin m.geometry (counts_of m.geometry) next kept
  within_next next w = record { limits = s.within.limits; volumes_now = w; volumes_kept = s.within.volumes_kept; sized = s.within.sized }

  pub slot_put : (new : ListMapping) (id b p : ℕ) → IsSome (device_of id now) → b < 2 ^ 24 → ((size : ℕ) → size_of id now ≡ Some size → b < told_blocks m.geometry size) → p < m.geometry.data_blocks
      → volumes new.devices.items ≡ with_slot id (record { block = b; place = p }) (volumes m.devices.items) → IsAsRoomy m.devices.items new.devices.items → vec_capacity new.devices ≡ vec_capacity m.devices
      → StandsFor (record m { devices = new.devices }) (with_slot id (record { block = b; place = p }) now) kept
  slot_put new id b p some hb below hp v r c =
      let x = some_of (device_of id now) some in record {
        listed = ap (with_slot id (record { block = b; place = p })) s.listed ∙ sym v;
        low = low_changed id (with_place (record { block = b; place = p })) now s.low;
        within = within_next (with_slot id (record { block = b; place = p }) now) (within_with_slot m.geometry now s.within.volumes_now id (record { block = b; place = p }) x.0 x.1 hb below hp);
        least = s.least;
        most = s.most;
        bounded = bounded_changed m.geometry m.most_blocks id (with_place (record { block = b; place = p })) now s.bounded;
        roomy = r.room (m.most_blocks + 1) s.roomy;
        spare_roomy = s.spare_roomy;
        fits = omega (arith, s.fits, r.sized, c);
        spare_fits = omega (arith, s.spare_fits, r.sized);
        sized = s.sized;
        marked = s.marked;
      }

  pub run_taken : (new : ListMapping) (id first n : ℕ) → volumes new.devices.items ≡ without_run id first n (volumes m.devices.items) → IsAsRoomy m.devices.items new.devices.items → vec_capacity new.devices ≡ vec_capacity m.devices
      → StandsFor (record m { devices = new.devices }) (without_run id first n now) kept
  run_taken new id first n v r c = record {
    listed = ap (without_run id first n) s.listed ∙ sym v;
    low = low_run id first n now s.low;
    within = within_next (without_run id first n now) (within_run m.geometry id first n now s.within.volumes_now);
    least = s.least;
    most = s.most;
    bounded = subst (IsBounded m.geometry m.most_blocks) (sym (run_is_changed id first n now)) (bounded_changed m.geometry m.most_blocks id (without_places first n) now s.bounded);
    roomy = r.room (m.most_blocks + 1) s.roomy;
    spare_roomy = s.spare_roomy;
    fits = omega (arith, s.fits, r.sized, c);
    spare_fits = omega (arith, s.spare_fits, r.sized);
    sized = s.sized;
    marked = s.marked;
  }

  pub not_full : (id : ℕ) → IsSome (device_of id now)
      → ((n : ℕ) (xs : List BlockSlot) → IsRoomy n m.devices.items → device_of id (volumes m.devices.items) ≡ Some xs → n ≤ length xs) → ⊥
  not_full id some h =
      let x = some_of (device_of id now) some in
      let l : m.most_blocks + 1 ≤ length x.0 = h (m.most_blocks + 1) x.0 s.roomy (ap (device_of id) (sym s.listed) ∙ x.1) in
      omega (arith, l, own_few m.geometry now s.within.volumes_now id x.0 x.1 m.most_blocks s.bounded)

  pub device_added : (new : ListMapping) (x : DeviceSlots) → IsToldSize m.geometry x.size → told_blocks m.geometry x.size ≤ m.most_blocks → ((b p : ℕ) → place_in b x.slots ≡ Some p → b < told_blocks m.geometry x.size) → x.id < 2 ^ 24 → devices_in now < 65536 → SlotsAscend 0 x.slots → ((b p : ℕ) → place_in b x.slots ≡ Some p → (b < 2 ^ 24) × (p < m.geometry.data_blocks))
      → volumes new.devices.items ≡ with_device x (volumes m.devices.items) → IsRoomy (m.most_blocks + 1) new.devices.items → IsRoomy (m.most_blocks + 1) new.spare.items
      → length new.devices.items + length new.spare.items ≡ length m.devices.items + length m.spare.items → vec_capacity m.devices ≤ vec_capacity new.devices → vec_capacity new.spare ≡ vec_capacity m.spare
      → StandsFor (record m { devices = new.devices; spare = new.spare }) (with_device x now) kept
  device_added new x may bound below hx few a each v r q l c d = record {
    listed = ap (with_device x) s.listed ∙ sym v;
    low = low_with x now hx s.low;
    within = within_next (with_device x now) (within_with_device m.geometry now s.within.volumes_now x may below hx few a each);
    least = s.least;
    most = s.most;
    bounded = λ id size h. elim (cases_eq id x.id) [
      | inl e ↦ subst (λ n. told_blocks m.geometry n ≤ m.most_blocks) (same_some x.size size (sym (size_changes.with_same x now) ∙ ((λ i. size_of (sym e i) (with_device x now)) ∙ h))) bound
      | inr n ↦ s.bounded id size (sym (size_changes.with_other x id now n) ∙ h)
    ];
    roomy = r;
    spare_roomy = q;
    fits = omega (arith, s.fits, l, c);
    spare_fits = omega (arith, s.spare_fits, l, d);
    sized = s.sized;
    marked = s.marked;
  }

  pub device_removed : (new : ListMapping) (id : ℕ) → volumes new.devices.items ≡ without_device id (volumes m.devices.items) → IsRoomy (m.most_blocks + 1) new.devices.items → IsRoomy (m.most_blocks + 1) new.spare.items
      → length new.devices.items + length new.spare.items ≡ length m.devices.items + length m.spare.items → vec_capacity new.devices ≡ vec_capacity m.devices → vec_capacity m.spare ≤ vec_capacity new.spare
      → StandsFor (record m { devices = new.devices; spare = new.spare }) (without_device id now) kept
  device_removed new id v r q l c d = record {
    listed = ap (without_device id) s.listed ∙ sym v;
    low = low_without id now s.low;
    within = within_next (without_device id now) (within_without_device m.geometry now s.within.volumes_now id);
    least = s.least;
    most = s.most;
    bounded = λ q size h. elim (cases_eq q id) [
      | inl e ↦ absurd (none_some (size_of q (without_device id now)) size ((λ i. size_of (e i) (without_device id now)) ∙ size_changes.without_same 0 id now s.within.volumes_now.ascend) h)
      | inr n ↦ s.bounded q size (sym (size_changes.without_other id q now n) ∙ h)
    ];
    roomy = r;
    spare_roomy = q;
    fits = omega (arith, s.fits, l, c);
    spare_fits = omega (arith, s.spare_fits, l, d);
    sized = s.sized;
    marked = s.marked;
  }

  pub now_kept : (new : ListMapping) → length new.kept.items ≡ length m.kept.items → ((p : ℕ) → p < length m.kept.items → get_or new.kept.items p false ≡ is_used p (volumes m.devices.items))
      → StandsFor (record m { kept = new.kept }) now now
  now_kept new l h = record {
    listed = s.listed;
    low = s.low;
    within = record { limits = s.within.limits; volumes_now = s.within.volumes_now; volumes_kept = s.within.volumes_now; sized = s.within.sized };
    least = s.least;
    most = s.most;
    bounded = s.bounded;
    roomy = s.roomy;
    spare_roomy = s.spare_roomy;
    fits = s.fits;
    spare_fits = s.spare_fits;
    sized = l ∙ s.sized;
    marked = λ p k.
        let e : get_or new.kept.items p false ≡ is_used p (volumes m.devices.items) = h p (omega (arith, k, s.sized)) in (
          λ f id b i. false≢true (sym f ∙ (e ∙ used_from_slot id b p (volumes m.devices.items) (ap (slot_of id b) (sym s.listed) ∙ i))),
          λ none. unused_false p none (is_used p (volumes m.devices.items)) refl e,
        );
  }
    where
      unused_false : (p : ℕ) → Unused p now → (u : Bool) → is_used p (volumes m.devices.items) ≡ u → {k : Bool} → k ≡ is_used p (volumes m.devices.items) → k ≡ false
      unused_false p none false e f = f ∙ e
      unused_false p none true e f = let r = slot_from_used p (volumes m.devices.items) listed_ascend e in absurd (none r.0 r.1 (ap (slot_of r.0 r.1) s.listed ∙ r.2))

pub empty_within : (g : Geometry) (b p : ℕ) → place_in b [] ≡ Some p → (b < 2 ^ 24) × (p < g.data_blocks)
empty_within g b p h = absurd (none_some (place_in b []) p refl h)

pub empty_below : (g : Geometry) (size b p : ℕ) → place_in b [] ≡ Some p → b < told_blocks g size
empty_below g size b p h = absurd (none_some (place_in b []) p refl h)

pub taken_by : (a b : List Device) (u v : List Bool) → a ≡ b → u ≡ v → (p : ℕ) → is_taken (volumes b) v p ≡ is_taken (volumes a) u p
taken_by a b u v e f p = sym (ap (λ l. is_taken (volumes l) u p) e ∙ ap (λ l. is_taken (volumes b) l p) f)

module _ (m : ListMapping) (now kept : Volumes) (s : StandsFor m now kept) where
  pub copy_fits : (ds : List Device) → ds ≡ m.devices.items → (origin : ℕ) → IsSome (device_of origin now) → (room : ℕ) → m.most_blocks + 1 ≤ room
      → ((xs : List BlockSlot) → device_of origin (volumes ds) ≡ Some xs → room < length xs) → ⊥
  copy_fits ds e origin some room l h =
      let x = some_of (device_of origin now) some in
      let k : room < length x.0 = h x.0 (ap (λ y. device_of origin (volumes y)) e ∙ (ap (device_of origin) (sym s.listed) ∙ x.1)) in
      omega (arith, k, l, own_few m.geometry now s.within.volumes_now origin x.0 x.1 m.most_blocks s.bounded)

  pub copied : (ds : List Device) → ds ≡ m.devices.items → (origin : ℕ) (xs ys : List BlockSlot) → device_of origin now ≡ Some xs → device_of origin (volumes ds) ≡ Some ys → ys ≡ xs
  copied ds e origin xs ys p q = same_some ys xs (sym q ∙ (ap (λ y. device_of origin (volumes y)) e ∙ (ap (device_of origin) (sym s.listed) ∙ p)))

module _ (m : ListMapping) (now kept : Volumes) (s : StandsFor m now kept) where
  pub copied_size : (ds : List Device) → ds ≡ m.devices.items → (origin a b : ℕ) → size_of origin now ≡ Some a → size_of origin (volumes ds) ≡ Some b → b ≡ a
  copied_size ds e origin a b p q = same_some b a (sym q ∙ (ap (λ y. size_of origin (volumes y)) e ∙ (ap (size_of origin) (sym s.listed) ∙ p)))

  -- a device tells another size
  pub size_put : (new : ListMapping) (id old size : ℕ) → IsSome (device_of id now) → size_of id now ≡ Some old → IsToldSize m.geometry size → told_blocks m.geometry old ≤ told_blocks m.geometry size
      → told_blocks m.geometry size ≤ m.most_blocks → volumes new.devices.items ≡ resized id size (volumes m.devices.items) → IsAsRoomy m.devices.items new.devices.items → vec_capacity new.devices ≡ vec_capacity m.devices
      → StandsFor (record m { devices = new.devices }) (resized id size now) kept
  size_put new id old size some was may more bound v r c =
      let xs = some_of (device_of id now) some in
      let up = s.within.volumes_now.ascend in
      let x : DeviceSlots = record { id = id; size = size; slots = xs.0 } in
      let is : with_device x now ≡ resized id size now = resized_is_put 0 id size xs.0 now up xs.1 in
      record {
        listed = ap (resized id size) s.listed ∙ sym v;
        low = low_resized id size now s.low;
        within = record {
          limits = s.within.limits;
          volumes_now = within_resized m.geometry now s.within.volumes_now id old size xs.0 xs.1 was may more;
          volumes_kept = s.within.volumes_kept;
          sized = s.within.sized;
        };
        least = s.least;
        most = s.most;
        bounded = subst (IsBounded m.geometry m.most_blocks) is (λ q n h. elim (cases_eq q id) [
          | inl e ↦ subst (λ k. told_blocks m.geometry k ≤ m.most_blocks) (same_some size n (sym (size_changes.with_same x now) ∙ ((λ i. size_of (sym e i) (with_device x now)) ∙ h))) bound
          | inr d ↦ s.bounded q n (sym (size_changes.with_other x q now d) ∙ h)
        ]);
        roomy = r.room (m.most_blocks + 1) s.roomy;
        spare_roomy = s.spare_roomy;
        fits = omega (arith, s.fits, r.sized, c);
        spare_fits = omega (arith, s.spare_fits, r.sized);
        sized = s.sized;
        marked = s.marked;
      }

module _ (m : ListMapping) (now kept : Volumes) (s : StandsFor m now kept) where
  pub highest_is : (ds : List Device) → ds ≡ m.devices.items → (id : ℕ) (top : Option ℕ) → top ≡ last_block (slots_of id (volumes ds)) → IsHighest id now top
  highest_is ds e id top h =
      is_highest id now (device_of id now) refl (own (device_of id now) refl) top (h ∙ (ap (λ y. last_block (slots_of id (volumes y))) e ∙ ap (λ v. last_block (slots_of id v)) (sym s.listed)))
    where
      own : (o : Option (List BlockSlot)) → device_of id now ≡ o → SlotsAscend 0 (slots_or_none o)
      own None p = tt
      own (Some xs) p = own_ascend m.geometry now s.within.volumes_now id xs p
