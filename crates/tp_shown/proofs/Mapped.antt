-- How many blocks of each volume are mapped, in words of lists.
use Rattle.std.proofs.Common.{◌≡◌, ◌≢◌, ℕ, suc, ◌<◌, cond, List, [], ◌∷◌, length, map, Option, Some, None, ◌⊎◌, inl, inr, refl, sym, ap, subst, ◌∙◌, arith}
use Rattle.std.specs.Option.{option_map, option_map_or}
use Rattle.std.specs.Ordering.{nat_cmp}
use Rattle.std.specs.FinMap.{FinMap, empty, entries, get, len, len-empty, remove}
use Rattle.std.proofs.lemmas.Bool.{cases_eq, eq-eqb, ne_eqb}
use Rattle.std.proofs.lemmas.Option.{none-some}
use Rattle.tp_image.specs.Bound.{mapped_in, metadata_bound}
use Rattle.tp_model.specs.Geometry.{Geometry}
use Rattle.tp_model.specs.Sectors.{Sector}
use Rattle.tp_model.specs.Pool.{PlainPool, Volume}
use Rattle.tp_model.proofs.Maps.{entries_empty, entries_insert, get_empty, get_remove, same_nat_map}
use Rattle.tp_sharing.specs.Sizes.{mapped_counts}
use Rattle.tp_sharing.specs.Volumes.{BlockSlot, DeviceSlots, DevicesAscend, SlotsAscend, Volumes, device_of, place_in, place_or_none}
use Rattle.tp_sharing.proofs.Changes.{device_below, place_below}
use Rattle.tp_sharing.proofs.Slots.{device_here, device_later, place_here, place_later}
use Rattle.tp_mapping.specs.Mapping.{IsWithin}
use Rattle.tp_stored.specs.Contents.{Contents, HasContents}
use Rattle.tp_shown.proofs.Values.{own_sizes}
use Rattle.tp_shown.specs.Laws.{MappedIsListed, PoolIsBounded}
use Rattle.tp_shown.proofs.Tests.{From, one_less, put_first, with_key}

module _ {X : Type 0} where
  removed_same : (m : FinMap nat_cmp X) (k q : ℕ) → q ≡ k → get (remove m k) q ≡ None
  removed_same m k q e = get_remove m k q ∙ ap (λ b. cond b None (get m q)) (eq-eqb q k e)

  removed_other : (m : FinMap nat_cmp X) (k q : ℕ) → q ≢ k → get (remove m k) q ≡ get m q
  removed_other m k q n = get_remove m k q ∙ ap (λ b. cond b None (get m q)) (ne_eqb q k n)

  none_of : {Y : Type 0} (f : X → Y) (o : Option X) → option_map f o ≡ None → o ≡ None
  none_of f None e = refl
  none_of f (Some x) e = absurd (none-some (f x) (sym e))

  some_of : {Y : Type 0} (f : X → Y) (o : Option X) (y : Y) → option_map f o ≡ Some y → (x : X) × (o ≡ Some x) × (Some (f x) ≡ Some y)
  some_of f None y e = absurd (none-some y e)
  some_of f (Some x) y e = (x, refl, e)

  -- a map with the ids of devices in order has its entries in that order
  module _ (f : X → ℕ) (size : List BlockSlot → ℕ) where
    in_order : (low : ℕ) (ds : Volumes) (m : FinMap nat_cmp X) → DevicesAscend low ds → ((id : ℕ) → option_map f (get m id) ≡ option_map size (device_of id ds))
        → From low (entries m) × (map (λ (e : ℕ × X). f e.1) (entries m) ≡ map (λ (d : DeviceSlots). size d.slots) ds)
    in_order low [] m a same =
        let e : entries m ≡ [] = ap entries (same_nat_map m empty (λ q. none_of f (get m q) (same q) ∙ sym (get_empty q))) ∙ entries_empty in
        (subst (From low) (sym e) tt, ap (λ es. map (λ (x : ℕ × X). f x.1) es) e)
    in_order low (d ∷ ds) m a same =
        let here = some_of f (get m d.id) (size d.slots) (same d.id ∙ ap (option_map size) (device_here d.id d ds refl)) in
        let rest = in_order (suc d.id) ds (remove m d.id) a.2 (λ q. without q (cases_eq q d.id)) in
        let e : entries m ≡ (d.id, here.0) ∷ entries (remove m d.id) =
        ap entries (with_key m d.id here.0 here.1) ∙ (entries_insert (remove m d.id) d.id here.0 ∙ put_first d.id here.0 (entries (remove m d.id)) rest.0) in
        let first : f here.0 ≡ size d.slots = one_of (f here.0) (size d.slots) here.2 in (
          subst (From low) (sym e) a.0,
          ap (λ es. map (λ (x : ℕ × X). f x.1) es) e ∙ ((λ i. first i ∷ map (λ (x : ℕ × X). f x.1) (entries (remove m d.id))) ∙ ap (λ ns. size d.slots ∷ ns) rest.1),
        )
      where
        one_of : (x y : ℕ) → Some x ≡ Some y → x ≡ y
        one_of x y h = cc

        without : (q : ℕ) → (q ≡ d.id) ⊎ (q ≢ d.id) → option_map f (get (remove m d.id) q) ≡ option_map size (device_of q ds)
        without q (inl s) =
            let low : q < suc d.id = omega (arith, s) in
            ap (option_map f) (removed_same m d.id q s) ∙ sym (ap (option_map size) (device_below (suc d.id) q ds a.2 low))
        without q (inr n) = ap (option_map f) (removed_other m d.id q n) ∙ (same q ∙ ap (option_map size) (device_later q d ds (λ s. n (sym s))))

-- ---- slots

-- a map with the slots of a list has as many
as_many_slots : (low : ℕ) (xs : List BlockSlot) (m : FinMap nat_cmp ℕ) → SlotsAscend low xs → ((block : ℕ) → get m block ≡ place_in block xs) → len m ≡ length xs
as_many_slots low [] m a same = ap len (same_nat_map m empty (λ q. same q ∙ sym (get_empty q))) ∙ len-empty nat_cmp ℕ
as_many_slots low (x ∷ xs) m a same =
    let rest = as_many_slots (suc x.block) xs (remove m x.block) a.1 (λ q. without q (cases_eq q x.block)) in
    omega (arith, one_less m x.block x.place (same x.block ∙ place_here x.block x xs refl), rest)
  where
    without : (q : ℕ) → (q ≡ x.block) ⊎ (q ≢ x.block) → get (remove m x.block) q ≡ place_in q xs
    without q (inl s) =
        let low : q < suc x.block = omega (arith, s) in
        removed_same m x.block q s ∙ sym (place_below (suc x.block) q xs a.1 low)
    without q (inr n) = removed_other m x.block q n ∙ (same q ∙ place_later q x xs (λ s. n (sym s)))

slots_ascend : (low id : ℕ) (ds : Volumes) (xs : List BlockSlot) → DevicesAscend low ds → device_of id ds ≡ Some xs → SlotsAscend 0 xs
slots_ascend low id [] xs a h = absurd (none-some xs h)
slots_ascend low id (d ∷ ds) xs a h =
    elim (cases_eq d.id id) [
      | inl e ↦ subst (SlotsAscend 0) (same_list d.slots xs (sym (device_here id d ds e) ∙ h)) a.1
      | inr n ↦ slots_ascend (suc d.id) id ds xs a.2 (sym (device_later id d ds n) ∙ h)
    ]
  where
    same_list : (x y : List BlockSlot) → Some x ≡ Some y → x ≡ y
    same_list x y e = cc

module _ (g : Geometry) (c : Contents) (image : List Sector) (p : PlainPool) (within : IsWithin g c.volumes) (h : HasContents g c image p) where
  each : (id : ℕ) (o : Option Volume) (d : Option (List BlockSlot)) → get p.volumes id ≡ o → device_of id c.volumes ≡ d → option_map (λ v. len v.slots) o ≡ option_map (λ xs. length xs) d
  each id None None e k = refl
  each id (Some v) (Some xs) e k =
      ap (λ n. Some n) (as_many_slots 0 xs v.slots (slots_ascend 0 id c.volumes xs within.ascend k)
      (λ block. ap (λ o. get (option_map_or (λ (w : Volume). w.slots) o empty) block) (sym e) ∙ (h.slots id block ∙ ap (place_or_none block) k)))
  each id None (Some xs) e k = absurd (none-some _ (ap (option_map (λ (v : Volume). length v.sectors)) (sym e) ∙ (own_sizes g c image p h id ∙ ap (option_map _) k)))
  each id (Some v) None e k = absurd (none-some _ (sym (ap (option_map (λ (v : Volume). length v.sectors)) (sym e) ∙ (own_sizes g c image p h id ∙ ap (option_map _) k))))

  mapped : mapped_in p ≡ mapped_counts c.volumes
  mapped = (in_order (λ (v : Volume). len v.slots) (λ (xs : List BlockSlot). length xs) 0 c.volumes p.volumes within.ascend (λ id. each id (get p.volumes id) (device_of id c.volumes) refl refl)).1

pub mapped_is_listed : MappedIsListed
mapped_is_listed g c image p within h = mapped g c image p within h

pub pool_is_bounded : PoolIsBounded
pool_is_bounded g c image p within h none bound =
    let few = bound (sym h.held_root ∙ none) in
    let same : metadata_bound p.geometry (mapped_in p) ≡ metadata_bound g (mapped_counts c.volumes) = λ i. metadata_bound (h.geometry i) (mapped g c image p within h i) in
    omega (arith, few, h.meta_used, same)
