-- The slots of a volume from the entries that a walk adds.
use Rattle.std.proofs.Common.{◌≡◌, ℕ, zero, suc, ◌+◌, ◌-◌, ◌<◌, ◌≤◌, List, [], ◌∷◌, ◌++◌, length, map, get_or, take, refl, sym, ap, subst, ◌∙◌, arith, inl, inr, Some}
use Rattle.std.specs.Prelude.{◌^◌}
use Rattle.std.specs.Option.{option_map}
use Rattle.std.proofs.lemmas.Bool.{cases_lt}
use Rattle.std.proofs.lemmas.Bool.Decides.{nat_tests}
use Rattle.std.proofs.lemmas.List.{get_or-map, get_or-take, length-map, length-take, take-map}
use Rattle.tp_model.specs.Disk.{DiskState}
use Rattle.tp_model.specs.Geometry.{Geometry}
use Rattle.tp_layout.specs.declared.entry.Entry.{Entry}
use Rattle.tp_layout.specs.declared.kind.TreeKind.TheVariants.{Mapping}
use Rattle.tp_refs.specs.Store.{Store, moved_by}
use Rattle.tp_trees.specs.Tree.{blank}
use Rattle.tp_trees.proofs.Trees.{ascend_tree}
use Rattle.tp_sharing.specs.Forest.{content}
use Rattle.tp_sharing.specs.Volumes.{BlockSlot, Volumes, place_or_none, slot_from, slot_of, volumes_of}
use Rattle.tp_sharing.proofs.InUse.{slots_are_within}
use Rattle.tp_sharing.proofs.Lists.{entry_of, leaf_at}
use Rattle.tp_sharing.proofs.Copies.{copies_are_listed}
use Rattle.tp_sharing.proofs.Slots.{lookups_are_listed}
use Rattle.tp_stored.specs.Commit.{fixed_blocks}
use Rattle.tp_tm.specs.Tm.{Tm}
use Rattle.tp_btree.specs.Walks.{as_references, from_key}
use Rattle.tp_btree.specs.Walks as walks
use Rattle.tp_mapping.specs.declared.volume.Volume.{Volume}
use Rattle.tp_mapping.specs.Held as held
use Rattle.tp_mapping.specs.Held.{HasVolume}
use Rattle.tp_mapping.specs.Mapping.{IsFilled, from_block, slots_of, slots_or_none}
use Rattle.tp_mapping.specs.Telling.{NameBlocks, NamesBlocks, as_slot}
use Rattle.tp_mapping.proofs.Filling.{from_no, from_yes}
use Rattle.tp_mapping.proofs.Holding.{both, height, low_id, nodes_many, slots_of_volume, volume_there}

key_yes : (q : ℕ) (e : Entry) (es : List Entry) → q ≤ e.key → from_key q (e ∷ es) ≡ e ∷ from_key q es
key_yes q e es h = grind (arith, nat_tests)

key_no : (q : ℕ) (e : Entry) (es : List Entry) → e.key < q → from_key q (e ∷ es) ≡ from_key q es
key_no q e es h = grind (arith, nat_tests)

slots_from : (m q : ℕ) (es : List Entry) → map (slot_from m) (from_key q es) ≡ from_block q (map (slot_from m) es)
slots_from m q [] = refl
slots_from m q (e ∷ es) =
    elim (cases_lt e.key q) [
      | inl l ↦ ap (map (slot_from m)) (key_no q e es l) ∙ slots_from m q es ∙ sym (from_no q (slot_from m e) (map (slot_from m) es) l)
      | inr g ↦ ap (map (slot_from m)) (key_yes q e es g) ∙ ap (λ (l : List BlockSlot). slot_from m e ∷ l) (slots_from m q es) ∙ sym (from_yes q (slot_from m e) (map (slot_from m) es) g)
    ]

-- an entry from a key on is one of all
abbrev Among : List Entry → Entry → Type 0
Among es e = (j : ℕ) × (j < length es) × (get_or es j blank ≡ e)

later : (x : Entry) (es : List Entry) (e : Entry) → Among es e → Among (x ∷ es) e
later x es e r = (suc r.0, omega (arith, r.1), r.2)

first_or_later : (i : ℕ) (x : Entry) (xs es : List Entry) → ((k : ℕ) → k < length xs → Among es (get_or xs k blank)) → i < suc (length xs) → Among (x ∷ es) (get_or (x ∷ xs) i blank)
first_or_later zero x xs es below w = (0, omega arith, refl)
first_or_later (suc i) x xs es below w = later x es (get_or xs i blank) (below i (omega arith))

among : (q : ℕ) (es : List Entry) (i : ℕ) → i < length (from_key q es) → Among es (get_or (from_key q es) i blank)
among q [] i h = absurd (omega arith)
among q (e ∷ es) i h =
    elim (cases_lt e.key q) [
      | inl l ↦
          let k = key_no q e es l in
          subst (λ (x : List Entry). Among (e ∷ es) (get_or x i blank)) (sym k) (later e es (get_or (from_key q es) i blank) (among q es i (omega (arith, h, ap length k))))
      | inr g ↦
          let k = key_yes q e es g in
          subst (λ (x : List Entry). Among (e ∷ es) (get_or x i blank)) (sym k) (first_or_later i e (from_key q es) es (λ j w. among q es j w) (omega (arith, h, ap length k)))
    ]

slots_of_moved : (m : ℕ) (es : List Entry) → map (slot_from m) (map (moved_by m) es) ≡ map as_slot es
slots_of_moved m [] = refl
slots_of_moved m (e ∷ es) =
    let k : m + e.value - m ≡ e.value = omega arith in
    λ i. record { block = e.key; place = k i } ∷ slots_of_moved m es i

take_less : {A : Type 0} (n k : ℕ) (xs : List A) → n ≤ k → take n (take k xs) ≡ take n xs
take_less zero k xs h = refl
take_less (suc n) zero xs h = absurd (omega arith)
take_less (suc n) (suc k) [] h = refl
take_less (suc n) (suc k) (x ∷ xs) h = ap (λ l. x ∷ l) (take_less n k xs (omega arith))

take_after : {A : Type 0} (n k : ℕ) (xs ys : List A) → n ≤ k → take n (xs ++ take k ys) ≡ take n (xs ++ ys)
take_after zero k xs ys h = refl
take_after (suc n) k [] ys h = take_less (suc n) k ys h
take_after (suc n) k (x ∷ xs) ys h = ap (λ l. x ∷ l) (take_after n k xs ys (omega arith))

-- one more entry of a row
take_next : (d : Entry) (es : List Entry) (i : ℕ) → i < length es → take (suc i) es ≡ take i es ++ get_or es i d ∷ []
take_next d [] i h = absurd (omega arith)
take_next d (e ∷ es) zero h = refl
take_next d (e ∷ es) (suc i) h = ap (λ l. e ∷ l) (take_next d es i (omega arith))

slots_joined : (xs ys : List Entry) → map as_slot (xs ++ ys) ≡ map as_slot xs ++ map as_slot ys
slots_joined [] ys = refl
slots_joined (x ∷ xs) ys = ap (λ l. as_slot x ∷ l) (slots_joined xs ys)

pub next_slot : (i : ℕ) (es : List Entry) (x : BlockSlot) → i < length es → x ≡ as_slot (get_or es i blank) → map as_slot (take (i + 1) es) ≡ map as_slot (take i es) ++ (x ∷ [])
next_slot i es x w at =
    let k : i + 1 ≡ suc i = omega arith in
    ap (λ n. map as_slot (take n es)) k ∙ ap (map as_slot) (take_next blank es i w) ∙ slots_joined (take i es) (get_or es i blank ∷ [])
    ∙ ap (λ y. map as_slot (take i es) ++ (y ∷ [])) (sym at)

module _ (g : Geometry) (t : Tm) (disk : DiskState) (root : ℕ) (now : Volumes) (device : ℕ) (v : Volume) (h : HasVolume g t disk root [] now device v) (q : ℕ) (es : List Entry)
    (walked : walks.IsFilled t.geometry.metadata_blocks Mapping (from_key q (content 1 h.trees.store v.root)) [] es) where
  abbrev s : Store
  s = h.trees.store

  abbrev m : ℕ
  m = g.metadata_blocks

  same_blocks : t.geometry.metadata_blocks ≡ m
  same_blocks = ap (λ (z : Geometry). z.metadata_blocks) h.trees.geometry

  moved : map (moved_by m) es ≡ take 252 (from_key q (content 1 s v.root))
  moved = ap (λ n. map (moved_by n) es) (sym same_blocks) ∙ walked

  slots_are : map as_slot es ≡ take 252 (from_block q (slots_of device now))
  slots_are =
      sym (slots_of_moved m es) ∙ ap (map (slot_from m)) moved ∙ sym (take-map (slot_from m) 252 (from_key q (content 1 s v.root)))
      ∙ ap (take 252) (slots_from m q (content 1 s v.root) ∙ ap (λ o. from_block q (slots_or_none o)) (sym (slots_of_volume g t disk root [] now h.trees device (held.entry_of device v) h.told)))

  pub filled_by : (old new : List BlockSlot) → new ≡ take 252 (old ++ map as_slot es) → IsFilled (from_block q (slots_of device now)) old new
  filled_by old new e = e ∙ ap (λ (l : List BlockSlot). take 252 (old ++ l)) slots_are ∙ take_after 252 252 old (from_block q (slots_of device now)) (omega arith)

  abbrev all : List Entry
  all = content 1 s v.root

  -- the slot of an entry of the tree is within the sizes
  tree_names : (x : Entry) → Among all (moved_by m x) → NamesBlocks t.geometry.data_blocks x
  tree_names x r =
      let y = get_or all r.0 blank in
      let leaf = leaf_at 0 (2 ^ 24) all r.0
      (ascend_tree 1 (height 1 s v.root) s 0 (2 ^ 24) v.root (volume_there g t disk root [] now h.trees device (held.entry_of device v) h.told).tree.tree) r.1 in
      let f = entry_of y.key y.value all leaf.is in
      let slot : slot_of device y.key (volumes_of m s root t.held_root) ≡ Some (f.0.value - m) =
      ap (place_or_none y.key) (copies_are_listed.now m s root t.held_root device (low_id g t disk root [] now h.trees device (held.entry_of device v) h.told))
      ∙ lookups_are_listed.slots m s root device y.key (held.entry_of device v) h.told ∙ ap (option_map (λ (z : Entry). z.value - m)) f.1 in
      let w = slots_are_within m s root t.held_root (fixed_blocks g) (2 ^ 24) h.trees.holds.balanced (both g t disk root [] now h.trees) (nodes_many g t disk root [] now h.trees) device y.key (f.0.value - m) slot in (
        omega (arith, w.1, ap (λ (z : Entry). z.key) r.2),
        omega (arith, w.2, f.2, h.trees.counted, ap (λ (z : Entry). z.value) r.2, ap (λ (z : Geometry). z.data_blocks) h.trees.geometry),
      )

  pub names_blocks : NameBlocks t.geometry.data_blocks es
  names_blocks i inside =
      let x = get_or es i blank in
      let long : length es ≡ length (take 252 (from_key q all)) = sym (length-map es (moved_by m)) ∙ ap length moved in
      let within : (i < 252) × (i < length (from_key q all)) = let short = length-take 252 (from_key q all) in (omega (arith, inside, long, short), omega (arith, inside, long, short)) in
      let here : get_or (from_key q all) i blank ≡ moved_by m x =
      sym (get_or-take 252 (from_key q all) i blank within.0) ∙ ap (λ (l : List Entry). get_or l i blank) (sym moved) ∙ get_or-map (moved_by m) es i blank blank inside in
      tree_names x (subst (Among all) here (among q all i within.1))
