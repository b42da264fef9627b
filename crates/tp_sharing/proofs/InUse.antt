-- The data blocks with a count are those of the slots.
use Rattle.std.proofs.Common.{◌≡◌, ℕ, zero, suc, ◌+◌, ◌-◌, ◌<◌, ◌≤◌, ◌==◌, ◌||◌, List, [], ◌∷◌, ◌++◌, length, map, get_or, refl, sym, ap, subst, ◌∙◌, arith, ◌⊎◌, inl, inr, Some, Bool, true, false, ◌&&◌}
use Rattle.std.specs.Prelude.{nat_lt, ◌^◌, ◌↔◌, IsTrue}
use Rattle.std.specs.List.{list_all, list_any}
use Rattle.std.proofs.lemmas.Bool.{cases_eq, cases_lt, eq-eqb, ne_eqb, lt-ltb, ltb-true, false≢true, or_left, or_right}
use Rattle.std.proofs.lemmas.List.Folds.{list_any-append}
use Rattle.tp_model.proofs.Counting.{counts_agree, different_counts}
use Rattle.tp_layout.specs.declared.entry.Entry.{Entry}
use Rattle.tp_layout.specs.Entries.{found}
use Rattle.tp_refs.specs.Store.{Store, count_of, node_at}
use Rattle.tp_refs.specs.Balance.{Balanced, occurrences}
use Rattle.tp_refs.proofs.Steps.{live_below, one_other, one_same}
use Rattle.tp_trees.specs.Tree.{is_shared_path}
use Rattle.tp_trees.proofs.Trees.{ascend_tree, rank_inside, tree_rank}
use Rattle.tp_sharing.specs.Forest.{Forest, Forests, SharedSlot, Slot, content, held_refs}
use Rattle.tp_sharing.specs.Volumes.{BlockSlot, DevicesAscend, FreeIsUnused, OtherSlot, SharedIsOther, SlotsAreWithin, SlotsAscend, Unused, UsedIsDifferent, Volumes, copy_id, data_in_use, place_in, place_or_none, places, slot_of, used, volumes_below, volumes_of}
use Rattle.tp_sharing.proofs.Copies.{Whose, copies_are_listed, lists_ascend, of_copy, of_now, whose}
use Rattle.tp_sharing.proofs.Grove.{Grove, grove_of}
use Rattle.tp_sharing.proofs.Lists.{found_within, some_eq, value_from}
use Rattle.tp_sharing.proofs.Places.{Place, data_block, device_node, fixed_block, place_live, volume_node}
use Rattle.tp_sharing.proofs.Sharing.{shared_exactly, slot_live}
use Rattle.tp_sharing.proofs.Slots.{device_here, device_later, listed_slot, place_here, place_later, slot_listed}

-- whether a number stands in a list
abbrev has : ℕ → List ℕ → Bool
has p xs = list_any (λ y. y == p) xs

abbrev places_in : List BlockSlot → List ℕ
places_in xs = map (λ (x : BlockSlot). x.place) xs

either : (a b : Bool) → (a || b) ≡ true → (a ≡ true) ⊎ (b ≡ true)
either true b h = inl refl
either false b h = inr h

-- ---- a slot's data block stands among the places

slot_has : (block p : ℕ) (xs : List BlockSlot) → place_in block xs ≡ Some p → has p (places_in xs) ≡ true
slot_has block p [] h = absurd (cc)
slot_has block p (x ∷ xs) h =
    elim (cases_eq x.block block) [
      | inl e ↦ or_left (x.place == p) (has p (places_in xs)) (eq-eqb x.place p (some_eq x.place p (sym (place_here block x xs e) ∙ h)))
      | inr d ↦ or_right (x.place == p) (has p (places_in xs)) (slot_has block p xs (sym (place_later block x xs d) ∙ h))
    ]

pub place_has : (id block p : ℕ) (ds : Volumes) → slot_of id block ds ≡ Some p → has p (places ds) ≡ true
place_has id block p [] h = absurd (cc)
place_has id block p (d ∷ ds) h =
    list_any-append (λ y. y == p) (places_in d.slots) (places ds)
    ∙ elim (cases_eq d.id id) [
      | inl e ↦ or_left (has p (places_in d.slots)) (has p (places ds)) (slot_has block p d.slots (sym (ap (place_or_none block) (device_here id d ds e)) ∙ h))
      | inr n ↦ or_right (has p (places_in d.slots)) (has p (places ds)) (place_has id block p ds (sym (ap (place_or_none block) (device_later id d ds n)) ∙ h))
    ]

-- ---- a number among the places is a slot's

has_slot : (p low : ℕ) (xs : List BlockSlot) → SlotsAscend low xs → has p (places_in xs) ≡ true → (block : ℕ) × (low ≤ block) × (place_in block xs ≡ Some p)
has_slot p low [] a h = absurd (false≢true h)
has_slot p low (x ∷ xs) a h =
    elim (cases_eq x.place p) [
      | inl e ↦ (x.block, a.0, place_here x.block x xs refl ∙ ap Some e)
      | inr d ↦
          let r = has_slot p (suc x.block) xs a.1 (sym (ap (λ b. b || has p (places_in xs)) (ne_eqb x.place p d)) ∙ h) in
          (r.0, omega (arith, r.1, a.0), place_later r.0 x xs (λ e. absurd (omega (arith, e, r.1))) ∙ r.2)
    ]

has_place : (p low : ℕ) (ds : Volumes) → DevicesAscend low ds → has p (places ds) ≡ true → (id block : ℕ) × (low ≤ id) × (slot_of id block ds ≡ Some p)
has_place p low [] a h = absurd (false≢true h)
has_place p low (d ∷ ds) a h =
    elim (either (has p (places_in d.slots)) (has p (places ds)) (sym (list_any-append (λ y. y == p) (places_in d.slots) (places ds)) ∙ h)) [
      | inl e ↦
          let r = has_slot p 0 d.slots a.1 e in
          (d.id, r.0, a.0, ap (place_or_none r.0) (device_here d.id d ds refl) ∙ r.2)
      | inr e ↦
          let r = has_place p (suc d.id) ds a.2 e in
          (r.0, r.1, omega (arith, r.2, a.0), ap (place_or_none r.1) (device_later r.0 d ds (λ q. absurd (omega (arith, q, r.2)))) ∙ r.3)
    ]

-- ---- counts

all_below : (n : ℕ) (xs : List ℕ) → ((p : ℕ) → has p xs ≡ true → p < n) → list_all (λ x. nat_lt x n) xs ≡ true
all_below n [] h = refl
all_below n (x ∷ xs) h =
    let first : nat_lt x n ≡ true = lt-ltb x n (h x (or_left (x == x) (has x xs) (eq-eqb x x refl))) in
    let rest : list_all (λ x. nat_lt x n) xs ≡ true = all_below n xs (λ p k. h p (or_right (x == p) (has p xs) k)) in
    ap (λ b. b && list_all (λ x. nat_lt x n) xs) first ∙ rest

same_test : (a b : Bool) → (a ≡ true → b ≡ true) → (b ≡ true → a ≡ true) → a ≡ b
same_test true b f g = sym (f refl)
same_test false true f g = g refl
same_test false false f g = refl

-- the root of a held copy
held_root : (held r : ℕ) → 0 < occurrences r (held_refs held) → (n : ℕ) × (held ≡ suc n) × (r ≡ suc n)
held_root zero r h = absurd (omega arith)
held_root (suc n) r h =
    elim (cases_eq (suc n) r) [
      | inl e ↦ (n, refl, sym e)
      | inr d ↦ absurd (omega (arith, h, one_other (suc n) r d))
    ]

held_there : (held n : ℕ) → held ≡ suc n → 0 < occurrences (suc n) (held_refs held)
held_there zero n e = absurd (omega (arith, e))
held_there (suc k) n e = omega (arith, one_same (suc k) (suc n) e)

module _ (m : ℕ) (s : Store) (root held : ℕ) (fixed : List ℕ) (top : ℕ) (bal : Balanced s [] (root ∷ (held_refs held ++ fixed))) (f : Forests s (root ∷ held_refs held) fixed top) (is : length s.nodes ≡ m) where
  abbrev roots : List ℕ
  roots = root ∷ held_refs held

  abbrev all : Volumes
  all = volumes_of m s root held

  pub root_here : 0 < occurrences root roots
  root_here = omega (arith, one_same root root refl)

  pub held_here : (n : ℕ) → held ≡ suc n → 0 < occurrences (suc n) roots
  held_here n e = omega (arith, held_there held n e)

  pub now : Forest s root fixed top
  now = f root root_here

  pub groves : (r : ℕ) → 0 < occurrences r roots → Grove s r fixed (2 ^ 24) top
  groves r h = grove_of s r fixed top (f r h)

  -- a slot below one of the roots stands in the lists
  pub now_in_all : (device block p : ℕ) → Slot s root device block (m + p) → slot_of device block all ≡ Some p
  now_in_all device block p slot =
      let l = (found_within 0 (2 ^ 24) device slot.0 (content 5 s root) (ascend_tree 5 ((node_at s root).rank - 5) s 0 (2 ^ 24) root now.devices.tree) slot.1).1 in
      ap (place_or_none block) (copies_are_listed.now m s root held device l) ∙ slot_listed m s root fixed top now is device block p slot

  pub held_in_all : (n : ℕ) → held ≡ suc n → (device block p : ℕ) → Slot s (suc n) device block (m + p) → slot_of (copy_id device) block all ≡ Some p
  held_in_all n e device block p slot =
      subst (λ x. slot_of (copy_id device) block (volumes_of m s root x) ≡ Some p) (sym e)
      (ap (place_or_none block) (copies_are_listed.copy m s root n fixed top device now) ∙ slot_listed m s (suc n) fixed top (f (suc n) (held_here n e)) is device block p slot)

  pub slot_in_all : (r : ℕ) → 0 < occurrences r roots → (device block p : ℕ) → Slot s r device block (m + p) → (id : ℕ) × (slot_of id block all ≡ Some p)
  slot_in_all r h device block p slot =
      elim (cases_eq root r) [
        | inl e ↦ (device, now_in_all device block p (subst (λ x. Slot s x device block (m + p)) (sym e) slot))
        | inr d ↦
            let n = held_root held r (omega (arith, h, one_other root r d)) in
            (copy_id device, held_in_all n.0 n.1 device block p (subst (λ x. Slot s x device block (m + p)) n.2 slot))
      ]

  -- and a slot of the lists below one of the roots
  pub all_is_slot : (id block p : ℕ) → slot_of id block all ≡ Some p → (r : ℕ) × (0 < occurrences r roots) × ((device : ℕ) × Slot s r device block (m + p))
  all_is_slot id block p h = go (whose m s root held fixed top id block p now h) where
    go : Whose m s root held id block p → (r : ℕ) × (0 < occurrences r roots) × ((device : ℕ) × Slot s r device block (m + p))
    go (of_now l k) = (root, root_here, (id, listed_slot m s root fixed top now is id block p k))
    go (of_copy n device e q k) = (suc n, held_here n e, (device, listed_slot m s (suc n) fixed top (f (suc n) (held_here n e)) is device block p k))

  slot_there : (r b : ℕ) → 0 < occurrences r roots → length s.nodes ≤ b → Place s r fixed (2 ^ 24) top b → (device block : ℕ) × Slot s r device block b
  slot_there r b h far (fixed_block k) = absurd (omega (arith, now.inside b k))
  slot_there r b h far (device_node n j from to st) = absurd (omega (arith, rank_inside s b (omega (arith, tree_rank 5 j s from to b st.tree))))
  slot_there r b h far (volume_node device v n j from to g st) = absurd (omega (arith, rank_inside s b (omega (arith, tree_rank 1 j s from to b st.tree))))
  slot_there r b h far (data_block device v block g k) = (device, block, (v, g, k))

  -- a live data block is a slot's
  pub live_listed : (p : ℕ) → 0 < count_of s (m + p) → (device block : ℕ) × (slot_of device block all ≡ Some p)
  live_listed p live =
      let w = place_live s roots fixed (2 ^ 24) top bal groves root root_here (m + p) live in
      let t = slot_there w.0 (m + p) w.1 (omega (arith, is)) w.2 in
      let r = slot_in_all w.0 w.1 t.0 t.1 p t.2 in
      (r.0, t.1, r.1)

  -- a slot's data block is live
  pub listed_live : (device block p : ℕ) → slot_of device block all ≡ Some p → 0 < count_of s (m + p)
  listed_live device block p h =
      let w = all_is_slot device block p h in
      let t = w.2.1 in
      slot_live s roots fixed (2 ^ 24) top bal groves w.0 w.1 w.2.0 t.0 t.1 block (m + p) t.2

  has_live : (p : ℕ) → has p (places all) ≡ true → 0 < count_of s (m + p)
  has_live p h =
      let r = has_place p 0 all (lists_ascend m s root held fixed top f) h in
      listed_live r.0 r.1 p r.3

  live_has : (p : ℕ) → 0 < count_of s (m + p) → has p (places all) ≡ true
  live_has p live = let r = live_listed p live in place_has r.0 r.1 p all r.2

  pub used_different : data_in_use m s ≡ used all
  used_different =
      let n = length s.counts - m in
      let xs = places all in
      counts_agree (λ p. nat_lt 0 (count_of s (m + p))) (λ p. has p xs) n
      (λ p _. same_test (nat_lt 0 (count_of s (m + p))) (has p xs) (λ t. live_has p (ltb-true 0 (count_of s (m + p)) t)) (λ t. lt-ltb 0 (count_of s (m + p)) (has_live p t)))
      ∙ sym (different_counts xs n (all_below n xs (λ p t. omega (arith, live_below s (m + p) (has_live p t)))))

  pub free_unused : (p : ℕ) → (count_of s (m + p) ≡ 0) ↔ (Unused p all)
  free_unused p = (
    λ z device block h. absurd (omega (arith, listed_live device block p h)),
    λ none. elim (cases_lt 0 (count_of s (m + p))) [
      | inl live ↦ let r = live_listed p live in absurd (none r.0 r.1 r.2)
      | inr z ↦ omega arith
    ],
  )

  -- ---- sharing

  -- by place of a root: the first is that of now, another one that of a held copy
  root_by_place : (j : ℕ) → j < length roots → ((j ≡ 0) × (get_or roots j 0 ≡ root)) ⊎ ((n : ℕ) × (held ≡ suc n) × (j ≡ 1) × (get_or roots j 0 ≡ suc n))
  root_by_place zero l = inl (refl, refl)
  root_by_place (suc j) l = inr (behind held refl j (omega (arith, l))) where
    behind : (x : ℕ) → held ≡ x → (i : ℕ) → i < length (held_refs held) → (n : ℕ) × (held ≡ suc n) × (suc i ≡ 1) × (get_or (held_refs held) i 0 ≡ suc n)
    behind zero e i k = let none : length (held_refs held) ≡ 0 = ap (λ y. length (held_refs y)) e in absurd (omega (arith, none, k))
    behind (suc n) e zero k = (n, e, refl, ap (λ y. get_or (held_refs y) 0 0) e)
    behind (suc n) e (suc i) k = let one : length (held_refs held) ≡ 1 = ap (λ y. length (held_refs y)) e in absurd (omega (arith, one, k))

  held_place : (n : ℕ) → held ≡ suc n → (1 < length roots) × (get_or roots 1 0 ≡ suc n)
  held_place n e =
      let one : length (held_refs held) ≡ 1 = ap (λ y. length (held_refs y)) e in
      (omega (arith, one), ap (λ y. get_or (held_refs y) 0 0) e)

  shared_other : (device block p : ℕ) → device < 2 ^ 24 → SharedSlot s roots 0 device block (m + p) → OtherSlot device block p all
  shared_other device block p low (j, other, at, l, slot, apart) =
      elim (root_by_place j l) [
        | inl e ↦ (other, at, now_in_all other at p (subst (λ x. Slot s x other at (m + p)) e.1 slot), λ q. apart (e.0, q.0, q.1))
        | inr e ↦ (
          copy_id other,
          at,
          held_in_all e.0 e.1 other at p (subst (λ x. Slot s x other at (m + p)) e.3 slot),
          λ q. absurd (omega (arith, q.0, low)),
        )
      ]

  other_shared : (device block p : ℕ) → device < 2 ^ 24 → OtherSlot device block p all → SharedSlot s roots 0 device block (m + p)
  other_shared device block p low (other, at, here, apart) = go (whose m s root held fixed top other at p now here) where
    go : Whose m s root held other at p → SharedSlot s roots 0 device block (m + p)
    go (of_now l k) = (0, other, at, omega arith, listed_slot m s root fixed top now is other at p k, λ q. apart (q.1, q.2))
    go (of_copy n id e q k) =
        let h = held_place n e in
        (1, id, at, h.0, subst (λ x. Slot s x id at (m + p)) (sym h.1) (listed_slot m s (suc n) fixed top (f (suc n) (held_here n e)) is id at p k), λ z. absurd (omega (arith, z.0)))

  pub shared_both : (device block : ℕ) (volume slot : Entry) → found device (content 5 s root) ≡ Some volume → found block (content 1 s volume.value) ≡ Some slot
      → (IsTrue (is_shared_path ((node_at s root).rank - 5) s device root || is_shared_path ((node_at s volume.value).rank - 1) s block volume.value)) ↔ (OtherSlot device block (slot.value - m) all)
  shared_both device block volume slot fd fv =
      let both = shared_exactly s roots fixed top bal f 0 (omega arith) device block volume slot fd fv in
      let far : length s.nodes ≤ slot.value = (now.volumes device volume fd).data_blocks block slot fv in
      let e : m + (slot.value - m) ≡ slot.value = omega (arith, is, far) in
      let low = (found_within 0 (2 ^ 24) device volume.value (content 5 s root) (ascend_tree 5 ((node_at s root).rank - 5) s 0 (2 ^ 24) root now.devices.tree) (value_from device volume (content 5 s root) fd)).1 in (
        λ t. shared_other device block (slot.value - m) low (subst (SharedSlot s roots 0 device block) (sym e) (both.0 t)),
        λ o. both.1 (subst (SharedSlot s roots 0 device block) e (other_shared device block (slot.value - m) low o)),
      )

pub used_is_different : UsedIsDifferent
used_is_different m s root held fixed top bal f is = used_different m s root held fixed top bal f is

pub free_is_unused : FreeIsUnused
free_is_unused m s root held fixed top bal f is place = free_unused m s root held fixed top bal f is place

pub slots_are_within : SlotsAreWithin
slots_are_within m s root held fixed top bal f is device block place h = go (whose m s root held fixed top device block place (f root here) h) where
  here : 0 < occurrences root (root ∷ held_refs held)
  here = root_here m s root held fixed top bal f is

  live : m + place < length s.counts
  live = live_below s (m + place) (listed_live m s root held fixed top bal f is device block place h)

  below : (r id : ℕ) → 0 < occurrences r (root ∷ held_refs held) → slot_of id block (volumes_below m s r) ≡ Some place → (id < 2 ^ 24) × (block < top)
  below r id k slot =
      let g = grove_of s r fixed top (f r k) in
      let t = listed_slot m s r fixed top (f r k) is id block place slot in (
        (found_within 0 (2 ^ 24) id t.0 (content 5 s r) (ascend_tree 5 ((node_at s r).rank - 5) s 0 (2 ^ 24) r g.devices) t.1).1,
        (found_within 0 top block (m + place) (content 1 s t.0) (ascend_tree 1 ((node_at s t.0).rank - 1) s 0 top t.0 (g.volumes id t.0 t.1)) t.2).1,
      )

  go : Whose m s root held device block place → (device < 2 ^ 25) × (block < top) × (m + place < length s.counts)
  go (of_now l k) = let w = below root device here k in (omega (arith, l), w.1, live)
  go (of_copy n id e q k) = let w = below (suc n) id (held_here m s root held fixed top bal f is n e) k in (omega (arith, q, w.0), w.1, live)

pub shared_is_other : SharedIsOther
shared_is_other m s root held fixed top bal f is device block volume slot fd fv = shared_both m s root held fixed top bal f is device block volume slot fd fv
