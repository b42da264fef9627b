-- The volumes of a held copy in the lists.
use Rattle.std.proofs.Common.{◌≡◌, ℕ, zero, suc, ◌-◌, ◌<◌, ◌≤◌, List, [], ◌∷◌, ◌++◌, map, refl, sym, ap, subst, ◌∙◌, arith, inl, inr, Option, Some, None, option_map}
use Rattle.std.specs.Prelude.{◌^◌}
use Rattle.std.proofs.lemmas.Bool.{cases_eq, cases_lt}
use Rattle.tp_model.specs.Geometry.{Geometry}
use Rattle.tp_model.specs.Told.{IsToldSize, told_blocks}
use Rattle.tp_refs.specs.Store.{Store, node_at}
use Rattle.tp_refs.proofs.Steps.{one_same}
use Rattle.tp_layout.specs.declared.entry.Entry.{Entry}
use Rattle.tp_layout.specs.Entries.{Ascend}
use Rattle.tp_layout.proofs.Ordered.{ascend_ends, found_above}
use Rattle.tp_trees.proofs.Trees.{ascend_tree}
use Rattle.tp_sharing.specs.Forest.{Forest, Forests, content, held_refs}
use Rattle.tp_sharing.specs.Volumes.{AreSized, BlockSlot, CopiesAreListed, DevicesAscend, ListsAscend, Volumes, as_copy, copies_below, copy_id, device_from, device_of, place_or_none, size_of, slot_of, volumes_below, volumes_of}
use Rattle.tp_sharing.proofs.Slots.{device_found, device_here, device_later, lists_ascend_below, size_found, size_here, size_later, slots_from}

-- ---- look-ups in two lists, one behind the other

pub device_behind : (id : ℕ) (ds es : Volumes) → device_of id ds ≡ None → device_of id (ds ++ es) ≡ device_of id es
device_behind id [] es h = refl
device_behind id (d ∷ ds) es h =
    elim (cases_eq d.id id) [
      | inl p ↦ let e : Some d.slots ≡ None = sym (device_here id d ds p) ∙ h in absurd (cc)
      | inr n ↦ device_later id d (ds ++ es) n ∙ device_behind id ds es (sym (device_later id d ds n) ∙ h)
    ]

pub device_front : (id : ℕ) (ds es : Volumes) → device_of id es ≡ None → device_of id (ds ++ es) ≡ device_of id ds
device_front id [] es h = h
device_front id (d ∷ ds) es h =
    elim (cases_eq d.id id) [
      | inl p ↦ device_here id d (ds ++ es) p ∙ sym (device_here id d ds p)
      | inr n ↦ device_later id d (ds ++ es) n ∙ (device_front id ds es h ∙ sym (device_later id d ds n))
    ]

-- so of sizes
size_behind : (id : ℕ) (ds es : Volumes) → size_of id ds ≡ None → size_of id (ds ++ es) ≡ size_of id es
size_behind id [] es h = refl
size_behind id (d ∷ ds) es h =
    elim (cases_eq d.id id) [
      | inl p ↦ let e : Some d.size ≡ None = sym (size_here id d ds p) ∙ h in absurd (cc)
      | inr n ↦ size_later id d (ds ++ es) n ∙ size_behind id ds es (sym (size_later id d ds n) ∙ h)
    ]

size_front : (id : ℕ) (ds es : Volumes) → size_of id es ≡ None → size_of id (ds ++ es) ≡ size_of id ds
size_front id [] es h = h
size_front id (d ∷ ds) es h =
    elim (cases_eq d.id id) [
      | inl p ↦ size_here id d (ds ++ es) p ∙ sym (size_here id d ds p)
      | inr n ↦ size_later id d (ds ++ es) n ∙ (size_front id ds es h ∙ sym (size_later id d ds n))
    ]

-- ---- copies

pub copies_high : (id : ℕ) (ds : Volumes) → id < 2 ^ 24 → device_of id (map as_copy ds) ≡ None
copies_high id [] l = refl
copies_high id (d ∷ ds) l = device_later id (as_copy d) (map as_copy ds) (λ e. absurd (omega (arith, e, l))) ∙ copies_high id ds l

pub copies_are : (id : ℕ) (ds : Volumes) → device_of (copy_id id) (map as_copy ds) ≡ device_of id ds
copies_are id [] = refl
copies_are id (d ∷ ds) =
    elim (cases_eq d.id id) [
      | inl p ↦ device_here (copy_id id) (as_copy d) (map as_copy ds) (ap copy_id p) ∙ sym (device_here id d ds p)
      | inr n ↦ device_later (copy_id id) (as_copy d) (map as_copy ds) (λ e. n (omega (arith, e))) ∙ (copies_are id ds ∙ sym (device_later id d ds n))
    ]

size_copies_high : (id : ℕ) (ds : Volumes) → id < 2 ^ 24 → size_of id (map as_copy ds) ≡ None
size_copies_high id [] l = refl
size_copies_high id (d ∷ ds) l = size_later id (as_copy d) (map as_copy ds) (λ e. absurd (omega (arith, e, l))) ∙ size_copies_high id ds l

pub size_copies_are : (id : ℕ) (ds : Volumes) → size_of (copy_id id) (map as_copy ds) ≡ size_of id ds
size_copies_are id [] = refl
size_copies_are id (d ∷ ds) =
    elim (cases_eq d.id id) [
      | inl p ↦ size_here (copy_id id) (as_copy d) (map as_copy ds) (ap copy_id p) ∙ sym (size_here id d ds p)
      | inr n ↦ size_later (copy_id id) (as_copy d) (map as_copy ds) (λ e. n (omega (arith, e))) ∙ (size_copies_are id ds ∙ sym (size_later id d ds n))
    ]

pub below_high : (m : ℕ) (s : Store) (held id : ℕ) → id < 2 ^ 24 → device_of id (copies_below m s held) ≡ None
below_high m s zero id l = refl
below_high m s (suc n) id l = copies_high id (volumes_below m s (suc n)) l

size_below_high : (m : ℕ) (s : Store) (held id : ℕ) → id < 2 ^ 24 → size_of id (copies_below m s held) ≡ None
size_below_high m s zero id l = refl
size_below_high m s (suc n) id l = size_copies_high id (volumes_below m s (suc n)) l

pub none_beyond : (m : ℕ) (s : Store) (root : ℕ) (fixed : List ℕ) (top id : ℕ) → Forest s root fixed top → 2 ^ 24 ≤ id → device_of id (volumes_below m s root) ≡ None
none_beyond m s root fixed top id f l =
    device_found m s id (content 5 s root)
    ∙ ap (option_map (slots_from m s)) (found_above 0 (2 ^ 24) id (content 5 s root) (ascend_tree 5 ((node_at s root).rank - 5) s 0 (2 ^ 24) root f.devices.tree) l)

pub size_beyond : (m : ℕ) (s : Store) (root : ℕ) (fixed : List ℕ) (top id : ℕ) → Forest s root fixed top → 2 ^ 24 ≤ id → size_of id (volumes_below m s root) ≡ None
size_beyond m s root fixed top id f l =
    size_found m s id (content 5 s root)
    ∙ ap (option_map (λ (e : Entry). e.size)) (found_above 0 (2 ^ 24) id (content 5 s root) (ascend_tree 5 ((node_at s root).rank - 5) s 0 (2 ^ 24) root f.devices.tree) l)

pub copies_are_listed : CopiesAreListed
copies_are_listed = record {
  now = λ m s root held device l. device_front device (volumes_below m s root) (copies_below m s held) (below_high m s held device l);
  copy = λ m s root n fixed top device f.
      device_behind (copy_id device) (volumes_below m s root) (copies_below m s (suc n)) (none_beyond m s root fixed top (copy_id device) f (omega arith)) ∙ copies_are device (volumes_below m s (suc n));
  none = λ m s root fixed top device f. device_behind (copy_id device) (volumes_below m s root) [] (none_beyond m s root fixed top (copy_id device) f (omega arith));
  now_size = λ m s root held device l. size_front device (volumes_below m s root) (copies_below m s held) (size_below_high m s held device l);
  copy_size = λ m s root n fixed top device f.
      size_behind (copy_id device) (volumes_below m s root) (copies_below m s (suc n)) (size_beyond m s root fixed top (copy_id device) f (omega arith)) ∙ size_copies_are device (volumes_below m s (suc n));
  none_size = λ m s root fixed top device f. size_behind (copy_id device) (volumes_below m s root) [] (size_beyond m s root fixed top (copy_id device) f (omega arith));
}

-- a device that the lists of both roots have is one of now, or a copy of one below the held root
pub data Whose (m : ℕ) (s : Store) (root held device block place : ℕ) : Type 0 where
  of_now : device < 2 ^ 24 → slot_of device block (volumes_below m s root) ≡ Some place → Whose m s root held device block place
  of_copy : (n id : ℕ) → held ≡ suc n → device ≡ copy_id id → slot_of id block (volumes_below m s (suc n)) ≡ Some place → Whose m s root held device block place

no_place : (block place : ℕ) (o : Option (List BlockSlot)) → o ≡ None → place_or_none block o ≡ Some place → ⊥
no_place block place o a b = let e : None ≡ Some place = sym (ap (place_or_none block) a) ∙ b in cc

pub whose : (m : ℕ) (s : Store) (root held : ℕ) (fixed : List ℕ) (top device block place : ℕ) → Forest s root fixed top → slot_of device block (volumes_of m s root held) ≡ Some place → Whose m s root held device block place
whose m s root held fixed top device block place f h =
    elim (cases_lt device (2 ^ 24)) [
      | inl l ↦ of_now l (sym (ap (place_or_none block) (copies_are_listed.now m s root held device l)) ∙ h)
      | inr g ↦
          let id = device - 2 ^ 24 in
          let is : device ≡ copy_id id = omega (arith, g) in
          by_root held id is (subst (λ d. slot_of d block (volumes_of m s root held) ≡ Some place) is h)
    ]
  where
    by_root : (x id : ℕ) → device ≡ copy_id id → slot_of (copy_id id) block (volumes_of m s root x) ≡ Some place → Whose m s root x device block place
    by_root zero id is k = absurd (no_place block place (device_of (copy_id id) (volumes_of m s root 0)) (copies_are_listed.none m s root fixed top id f) k)
    by_root (suc n) id is k = of_copy n id refl is (sym (ap (place_or_none block) (copies_are_listed.copy m s root n fixed top id f)) ∙ k)

-- ---- sizes

-- so where a size is told
pub data WhoseSize (m : ℕ) (s : Store) (root held device size : ℕ) : Type 0 where
  size_of_now : device < 2 ^ 24 → size_of device (volumes_below m s root) ≡ Some size → WhoseSize m s root held device size
  size_of_copy : (n id : ℕ) → held ≡ suc n → device ≡ copy_id id → size_of id (volumes_below m s (suc n)) ≡ Some size → WhoseSize m s root held device size

no_size : (size : ℕ) (o : Option ℕ) → o ≡ None → o ≡ Some size → ⊥
no_size size o a b = let e : None ≡ Some size = sym a ∙ b in cc

pub whose_size : (m : ℕ) (s : Store) (root held : ℕ) (fixed : List ℕ) (top device size : ℕ) → Forest s root fixed top → size_of device (volumes_of m s root held) ≡ Some size → WhoseSize m s root held device size
whose_size m s root held fixed top device size f h =
    elim (cases_lt device (2 ^ 24)) [
      | inl l ↦ size_of_now l (sym (copies_are_listed.now_size m s root held device l) ∙ h)
      | inr g ↦
          let id = device - 2 ^ 24 in
          let is : device ≡ copy_id id = omega (arith, g) in
          by_root held id is (subst (λ d. size_of d (volumes_of m s root held) ≡ Some size) is h)
    ]
  where
    by_root : (x id : ℕ) → device ≡ copy_id id → size_of (copy_id id) (volumes_of m s root x) ≡ Some size → WhoseSize m s root x device size
    by_root zero id is k = absurd (no_size size (size_of (copy_id id) (volumes_of m s root 0)) (copies_are_listed.none_size m s root fixed top id f) k)
    by_root (suc n) id is k = size_of_copy n id refl is (sym (copies_are_listed.copy_size m s root n fixed top id f) ∙ k)

-- an id that tells a size below one root is one of a device
pub size_low : (m : ℕ) (s : Store) (root : ℕ) (fixed : List ℕ) (top id size : ℕ) → Forest s root fixed top → size_of id (volumes_below m s root) ≡ Some size → id < 2 ^ 24
size_low m s root fixed top id size f h =
    elim (cases_lt id (2 ^ 24)) [
      | inl l ↦ l
      | inr g ↦ absurd (no_size size (size_of id (volumes_below m s root)) (size_beyond m s root fixed top id f (omega (arith, g))) h)
    ]

-- the volumes of both roots are within their sizes where those of each are
pub sized_now : (g : Geometry) (m : ℕ) (s : Store) (root held : ℕ) (fixed : List ℕ) (top : ℕ) → Forest s root fixed top → AreSized g (volumes_of m s root held) → AreSized g (volumes_below m s root)
sized_now g m s root held fixed top f w = record {
  told = λ id size h. w.told id size (copies_are_listed.now_size m s root held id (size_low m s root fixed top id size f h) ∙ h);
  inside = λ id size block place h k.
      let l = size_low m s root fixed top id size f h in
      w.inside id size block place (copies_are_listed.now_size m s root held id l ∙ h) (ap (place_or_none block) (copies_are_listed.now m s root held id l) ∙ k);
}

pub sized_copy : (g : Geometry) (m : ℕ) (s : Store) (root n : ℕ) (fixed : List ℕ) (top : ℕ) → Forest s root fixed top → AreSized g (volumes_of m s root (suc n)) → AreSized g (volumes_below m s (suc n))
sized_copy g m s root n fixed top f w = record {
  told = λ id size h. w.told (copy_id id) size (copies_are_listed.copy_size m s root n fixed top id f ∙ h);
  inside = λ id size block place h k.
      w.inside (copy_id id) size block place (copies_are_listed.copy_size m s root n fixed top id f ∙ h) (ap (place_or_none block) (copies_are_listed.copy m s root n fixed top id f) ∙ k);
}

pub sized_both : (g : Geometry) (m : ℕ) (s : Store) (root held : ℕ) (fixed : List ℕ) (top : ℕ) → Forest s root fixed top → AreSized g (volumes_below m s root)
    → ((n : ℕ) → held ≡ suc n → AreSized g (volumes_below m s (suc n))) → AreSized g (volumes_of m s root held)
sized_both g m s root held fixed top f now copied = record {
  told = λ device size h. told_by device size (whose_size m s root held fixed top device size f h);
  inside = λ device size block place h k. below_by device size block place (whose_size m s root held fixed top device size f h) k;
}
  where
    told_by : (device size : ℕ) → WhoseSize m s root held device size → IsToldSize g size
    told_by device size (size_of_now l h) = now.told device size h
    told_by device size (size_of_copy n id e is h) = (copied n e).told id size h

    below_by : (device size block place : ℕ) → WhoseSize m s root held device size → slot_of device block (volumes_of m s root held) ≡ Some place → block < told_blocks g size
    below_by device size block place (size_of_now l h) k = now.inside device size block place h (sym (ap (place_or_none block) (copies_are_listed.now m s root held device l)) ∙ k)
    below_by device size block place (size_of_copy n id e is h) k =
        let there : slot_of (copy_id id) block (volumes_of m s root (suc n)) ≡ Some place =
        subst (λ x. slot_of (copy_id id) block (volumes_of m s root x) ≡ Some place) e (subst (λ x. slot_of x block (volumes_of m s root held) ≡ Some place) is k) in
        (copied n e).inside id size block place h (sym (ap (place_or_none block) (copies_are_listed.copy m s root n fixed top id f)) ∙ there)

-- ---- order

wider : (low high : ℕ) (ds : Volumes) → low ≤ high → DevicesAscend high ds → DevicesAscend low ds
wider low high [] l up = tt
wider low high (d ∷ ds) l up = (omega (arith, l, up.0), up.1, up.2)

copies_ascend : (low high : ℕ) (ds : Volumes) → high ≤ copy_id low → DevicesAscend low ds → DevicesAscend high (map as_copy ds)
copies_ascend low high [] l up = tt
copies_ascend low high (d ∷ ds) l up = (omega (arith, l, up.0), up.1, copies_ascend (suc d.id) (suc (copy_id d.id)) ds (omega arith) up.2)

one_then_other : (m : ℕ) (s : Store) (low high : ℕ) (es : List Entry) (ds : Volumes) → Ascend low high es → DevicesAscend low (map (device_from m s) es) → DevicesAscend high ds
    → DevicesAscend low (map (device_from m s) es ++ ds)
one_then_other m s low high [] ds h up behind = wider low high ds (omega (arith, ascend_ends low high [] h)) behind
one_then_other m s low high (e ∷ es) ds h up behind = (up.0, up.1, one_then_other m s (suc e.key) high es ds h.1 up.2 behind)

pub lists_ascend : ListsAscend
lists_ascend m s root held fixed top f =
    let g : Forest s root fixed top = f root (omega (arith, one_same root root refl)) in
    one_then_other m s 0 (2 ^ 24) (content 5 s root) (copies_below m s held) (ascend_tree 5 ((node_at s root).rank - 5) s 0 (2 ^ 24) root g.devices.tree) (lists_ascend_below m s root fixed top g) (behind held f)
  where
    behind : (x : ℕ) → Forests s (root ∷ held_refs x) fixed top → DevicesAscend (2 ^ 24) (copies_below m s x)
    behind zero fs = tt
    behind (suc n) fs =
        let h : Forest s (suc n) fixed top = fs (suc n) (omega (arith, one_same (suc n) (suc n) refl)) in
        copies_ascend 0 (2 ^ 24) (volumes_below m s (suc n)) (omega arith) (lists_ascend_below m s (suc n) fixed top h)
