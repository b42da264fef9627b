-- A count of 2 or more on a slot's path, and another slot with its data block.
use Rattle.std.proofs.Common.{◌≡◌, ◌≢◌, ℕ, zero, suc, ◌+◌, ◌-◌, ◌<◌, ◌≤◌, ◌⊎◌, List, [], ◌∷◌, ◌++◌, length, get_or, refl, sym, ap, subst, ◌∙◌, arith, rules, inl, inr, Some}
use Rattle.std.proofs.lemmas.Bool.{cases_eq, cases_lt}
use Rattle.std.proofs.lemmas.Bool.Decides.{nat_tests}
use Rattle.std.specs.Prelude.{Bool, true, false, IsTrue, nat_lt, ◌^◌, ◌||◌}
use Rattle.tp_refs.specs.Store.{Store, children, count_of, node_at}
use Rattle.tp_refs.specs.Balance.{occurrences, Balanced}
use Rattle.tp_layout.specs.Entries.{rank_of}
use Rattle.tp_refs.proofs.Reach.{namer}
use Rattle.tp_refs.proofs.Steps.{one_same, one_other, held_live, occurrences-append, times_named-least}
use Rattle.tp_trees.specs.Tree.{is_shared_path, led_to, pairs}
use Rattle.tp_trees.proofs.Trees.{ascend_tree, tree_rank}
use Rattle.tp_sharing.specs.Forest.{content, down, value_at, Slot, SharedSlot, SharedWithin, SharedExactly, TestIsWithin}
use Rattle.tp_sharing.proofs.Grove.{Grove, grove_of}
use Rattle.tp_sharing.proofs.Lists.{found_within, some_eq, value_from}
use Rattle.tp_sharing.proofs.Refs.{Names, child_place, names_child, names_live, names_lower, two_refs, other_ref}
use Rattle.tp_sharing.proofs.Ways.{Turn, begin, rank_on, found_on, names_on, names_leaf, down_leaf}
use Rattle.tp_sharing.proofs.Places.{Via, via_devices, via_device, via_node, via_leaf, via, place_live, data_rank, fixed_once}

same_place : (s : Store) (q p c d i j : ℕ) → rank_of q (node_at s c).entries ≡ suc i → rank_of p (node_at s d).entries ≡ suc j → q ≡ p → c ≡ d → i ≡ j
same_place s q p c d i j a b e f =
    let g : rank_of q (node_at s c).entries ≡ rank_of p (node_at s d).entries = ap (λ x. rank_of x (node_at s c).entries) e ∙ ap (λ x. rank_of p (node_at s x).entries) f in
    omega arith

-- some block on the path from a volume's root to the data block has a count of 2 or more
abbrev pub SharedPath : Store → ℕ → ℕ → Type 0
SharedPath s r block = (n : ℕ) × (n ≤ (node_at s r).rank) × (2 ≤ count_of s (down s block r n))

-- some block on the path from a root to the root of a device's volume has one
abbrev pub SharedDevices : Store → ℕ → ℕ → Type 0
SharedDevices s r0 device = (n : ℕ) × (n ≤ (node_at s r0).rank - 5) × (2 ≤ count_of s (down s device r0 n))

-- a slot has the data block, below this root or another one, which is another slot than this
abbrev pub OtherBelow : Store → List ℕ → ℕ → ℕ → ℕ → ℕ → Type 0
OtherBelow s roots r0 device block p = (r1 other at : ℕ) × (0 < occurrences r1 roots) × Slot s r1 other at p × (((r1 ≡ r0) × (other ≡ device) × (at ≡ block)) → ⊥)

-- the block whose entry names the block n steps below a volume's root
abbrev pub parent : Store → ℕ → ℕ → ℕ → ℕ → ℕ → ℕ
parent s r0 r device block zero = down s device r0 ((node_at s r0).rank - 5)
parent s r0 r device block (suc n) = down s block r n

-- the key that leads from there
abbrev pub key_at : ℕ → ℕ → ℕ → ℕ
key_at device block zero = device
key_at device block (suc n) = block

-- the entry that names the block n steps below a volume's root
pub record Edge (s : Store) (r0 r device block n i : ℕ) : Type 0 where
  pub names : Names s (parent s r0 r device block n) i (down s block r n)
  pub place : rank_of (key_at device block n) (node_at s (parent s r0 r device block n)).entries ≡ suc i

module _ (s : Store) (roots fixed : List ℕ) (ids top : ℕ) (bal : Balanced s [] (roots ++ fixed)) (f : (r : ℕ) → 0 < occurrences r roots → Grove s r fixed ids top) where
  -- facts of a root
  module _ (r0 : ℕ) (h0 : 0 < occurrences r0 roots) where
    root_live : 0 < count_of s r0
    root_live = held_live s [] (roots ++ fixed) r0 bal (omega (arith, h0, occurrences-append r0 roots fixed))

    root_rank : (node_at s r0).rank ≡ 5 + ((node_at s r0).rank - 5)
    root_rank = tree_rank 5 ((node_at s r0).rank - 5) s 0 ids r0 (f r0 h0).devices

    -- facts of a volume
    module _ (device r : ℕ) (fd : value_at device (content 5 s r0) ≡ Some r) where
      device_low : device < ids
      device_low = (found_within 0 ids device r (content 5 s r0) (ascend_tree 5 ((node_at s r0).rank - 5) s 0 ids r0 (f r0 h0).devices) fd).1

      device_edge : (i : ℕ) × Names s (down s device r0 ((node_at s r0).rank - 5)) i r × Turn s device (down s device r0 ((node_at s r0).rank - 5)) i r × (begin s (down s device r0 ((node_at s r0).rank - 5)) i ≡ device)
      device_edge = names_leaf 5 ((node_at s r0).rank - 5) s ids r0 device (f r0 h0).devices device_low (roots ++ fixed) bal root_live (omega arith) r fd

      -- a step on the path from the root
      step_edge : (n j : ℕ) → (node_at s r0).rank - 5 ≡ n + suc j → (i : ℕ) × Names s (down s device r0 n) i (down s device r0 (suc n)) × Turn s device (down s device r0 n) i (down s device r0 (suc n))
      step_edge n j e = names_on 5 ((node_at s r0).rank - 5) s ids r0 device (f r0 h0).devices device_low (roots ++ fixed) bal root_live (omega arith) n j e

      step_rank : (n j : ℕ) → (node_at s r0).rank - 5 ≡ n + j → (node_at s (down s device r0 n)).rank ≡ 5 + j
      step_rank n j e = rank_on 5 ((node_at s r0).rank - 5) s ids r0 device (f r0 h0).devices device_low n j e

      step_found : (n j : ℕ) → (node_at s r0).rank - 5 ≡ n + j → value_at device (pairs j s (down s device r0 n)) ≡ Some r
      step_found n j e = sym (found_on 5 ((node_at s r0).rank - 5) s ids r0 device (f r0 h0).devices device_low n j e) ∙ fd

      -- the last step names the volume's root
      pub device_end : down s device r0 (suc ((node_at s r0).rank - 5)) ≡ r
      device_end = down_leaf 5 ((node_at s r0).rank - 5) s ids r0 device (f r0 h0).devices device_low r fd

      device_rank : (node_at s (down s device r0 ((node_at s r0).rank - 5))).rank ≡ 5
      device_rank = step_rank ((node_at s r0).rank - 5) 0 (omega arith)

      pub volume_live : 0 < count_of s r
      volume_live = let e = device_edge in names_live s (roots ++ fixed) (down s device r0 ((node_at s r0).rank - 5)) e.0 r bal e.1

      pub volume_low : (node_at s r).rank < 5
      volume_low = let e = device_edge in omega (arith, names_lower s (roots ++ fixed) (down s device r0 ((node_at s r0).rank - 5)) e.0 r bal e.1, device_rank)

      pub volume_rank : (node_at s r).rank ≡ 1 + ((node_at s r).rank - 1)
      volume_rank = tree_rank 1 ((node_at s r).rank - 1) s 0 top r ((f r0 h0).volumes device r fd)

      -- facts of a slot
      module _ (block p : ℕ) (fv : value_at block (content 1 s r) ≡ Some p) where
        block_low : block < top
        block_low = (found_within 0 top block p (content 1 s r) (ascend_tree 1 ((node_at s r).rank - 1) s 0 top r ((f r0 h0).volumes device r fd)) fv).1

        slot_rank : (n j : ℕ) → (node_at s r).rank - 1 ≡ n + j → (node_at s (down s block r n)).rank ≡ 1 + j
        slot_rank n j e = rank_on 1 ((node_at s r).rank - 1) s top r block ((f r0 h0).volumes device r fd) block_low n j e

        slot_found : (n j : ℕ) → (node_at s r).rank - 1 ≡ n + j → value_at block (pairs j s (down s block r n)) ≡ Some p
        slot_found n j e = sym (found_on 1 ((node_at s r).rank - 1) s top r block ((f r0 h0).volumes device r fd) block_low n j e) ∙ fv

        pub slot_end : (n : ℕ) → n ≡ suc ((node_at s r).rank - 1) → down s block r n ≡ p
        slot_end n e = ap (down s block r) e ∙ down_leaf 1 ((node_at s r).rank - 1) s top r block ((f r0 h0).volumes device r fd) block_low p fv

        slot_data : (node_at s p).rank ≡ 0
        slot_data = data_rank s p ((f r0 h0).data_blocks device r block p fd fv)

        -- the blocks on the path have ranks below those of devices
        on_low : (n : ℕ) → n ≤ (node_at s r).rank → (node_at s (down s block r n)).rank < 5
        on_low n le =
            elim (cases_lt n (node_at s r).rank) [
              | inl l ↦ omega (arith, slot_rank n ((node_at s r).rank - 1 - n) (omega (arith, volume_rank)), volume_low)
              | inr g ↦ let e : (node_at s (down s block r n)).rank ≡ 0 = ap (λ x. (node_at s x).rank) (slot_end n (omega (arith, volume_rank))) ∙ slot_data in omega arith
            ]

        leaf_edge : (i : ℕ) × Names s (down s block r ((node_at s r).rank - 1)) i p × Turn s block (down s block r ((node_at s r).rank - 1)) i p × (begin s (down s block r ((node_at s r).rank - 1)) i ≡ block)
        leaf_edge = names_leaf 1 ((node_at s r).rank - 1) s top r block ((f r0 h0).volumes device r fd) block_low (roots ++ fixed) bal volume_live (omega arith) p fv

        pub slot_live : 0 < count_of s p
        slot_live = let e = leaf_edge in names_live s (roots ++ fixed) (down s block r ((node_at s r).rank - 1)) e.0 p bal e.1

        edge : (n : ℕ) → n ≤ (node_at s r).rank → (i : ℕ) × Edge s r0 r device block n i
        edge zero le = let e = device_edge in (e.0, record { names = e.1; place = e.2.place })
        edge (suc n) le =
            elim (cases_lt (suc n) (node_at s r).rank) [
              | inl l ↦
                  let e = names_on 1 ((node_at s r).rank - 1) s top r block ((f r0 h0).volumes device r fd) block_low (roots ++ fixed) bal volume_live (omega arith) n ((node_at s r).rank - 1 - suc n) (omega (arith, volume_rank)) in
                  (e.0, record { names = e.1; place = e.2.place })
              | inr g ↦
                  let e = leaf_edge in
                  let k : (node_at s r).rank - 1 ≡ n = omega (arith, volume_rank) in
                  subst (λ m. (i : ℕ) × Edge s r0 r device block (suc m) i) k
                  (e.0, record { names = subst (Names s (down s block r ((node_at s r).rank - 1)) e.0) (sym (slot_end (suc ((node_at s r).rank - 1)) refl)) e.1; place = e.2.place })
            ]

        -- a block of a low rank is no root
        no_root : (x : ℕ) → (node_at s x).rank < 5 → occurrences x roots ≡ 0
        no_root x low =
            elim (cases_lt 0 (occurrences x roots)) [
              | inl h ↦ absurd (omega (arith, low, tree_rank 5 ((node_at s x).rank - 5) s 0 ids x (f x h).devices))
              | inr z ↦ omega arith
            ]

        -- a block with a count of 2 or more is not fixed
        not_fixed : (x : ℕ) → 2 ≤ count_of s x → occurrences x fixed ≡ 0
        not_fixed x two =
            elim (cases_lt 0 (occurrences x fixed)) [
              | inl k ↦ absurd (omega (arith, two, fixed_once s roots fixed ids top bal f r0 h0 x k))
              | inr z ↦ omega arith
            ]

        unheld : (n : ℕ) → n ≤ (node_at s r).rank → 2 ≤ count_of s (down s block r n) → occurrences (down s block r n) (roots ++ fixed) ≡ 0
        unheld n le two =
            omega (arith, no_root (down s block r n) (on_low n le), not_fixed (down s block r n) two, occurrences-append (down s block r n) roots fixed)

        -- from a count below a volume's root to a slot, where another reference stands below the root r1
        other_slot : (r1 : ℕ) (h1 : 0 < occurrences r1 roots) (n i : ℕ) → n ≤ (node_at s r).rank → Edge s r0 r device block n i → (c j : ℕ) → Via s r1 ids top c j (down s block r n)
            → (((c ≡ parent s r0 r device block n) × (j ≡ i)) → ⊥) → OtherBelow s roots r0 device block p
        other_slot r1 h1 n i le e c j (via_devices m l from to st a) apart =
            absurd (omega (arith, on_low n le, tree_rank 5 l s from to (down s block r n) st.tree))
        other_slot r1 h1 n i le e c j (via_device device2 g a b) apart =
            let x = down s block r n in
            let high : (node_at s x).rank ≡ 1 + ((node_at s x).rank - 1) = tree_rank 1 ((node_at s x).rank - 1) s 0 top x ((f r1 h1).volumes device2 x g) in
            elim (cases_lt n (node_at s r).rank) [
              | inl l ↦
                  let k : (node_at s r).rank - 1 ≡ n + ((node_at s r).rank - 1 - n) = omega (arith, volume_rank) in
                  let lev = slot_rank n ((node_at s r).rank - 1 - n) k in
                  let found2 : value_at block (content 1 s x) ≡ Some p = ap (λ m. value_at block (pairs m s x)) (omega (arith, lev)) ∙ slot_found n ((node_at s r).rank - 1 - n) k in (
                    r1,
                    device2,
                    block,
                    h1,
                    (x, g, found2),
                    λ q.
                        let same : value_at device2 (content 5 s r1) ≡ value_at device (content 5 s r0) = ap (λ y. value_at device2 (content 5 s y)) q.0 ∙ ap (λ d. value_at d (content 5 s r0)) q.1 in
                        let is : x ≡ r = some_eq x r (sym g ∙ (same ∙ fd)) in
                        let lr : (node_at s x).rank ≡ (node_at s r).rank = ap (λ y. (node_at s y).rank) is in
                        let z : n ≡ 0 = omega (arith, lev, volume_rank, lr) in
                        let cp : c ≡ parent s r0 r device block n =
                        sym a ∙ (ap (λ y. down s device2 y ((node_at s y).rank - 5)) q.0 ∙ (ap (λ d. down s d r0 ((node_at s r0).rank - 5)) q.1 ∙ ap (parent s r0 r device block) (sym z))) in
                        apart (cp, same_place s device2 (key_at device block n) c (parent s r0 r device block n) j i b e.place (q.1 ∙ ap (key_at device block) (sym z)) cp),
                  )
              | inr h ↦
                  let z : (node_at s x).rank ≡ 0 = ap (λ y. (node_at s y).rank) (slot_end n (omega (arith, volume_rank))) ∙ slot_data in
                  absurd (omega arith)
            ]
        other_slot r1 h1 n i le e c j (via_node device2 r2 m l from to g st leads) apart =
            let x = down s block r n in
            let high : (node_at s x).rank ≡ 1 + l = tree_rank 1 l s from to x st.tree in
            elim (cases_lt n (node_at s r).rank) [
              | inl less ↦
                  let k : (node_at s r).rank - 1 ≡ n + ((node_at s r).rank - 1 - n) = omega (arith, volume_rank) in
                  let lev = slot_rank n ((node_at s r).rank - 1 - n) k in
                  let f2 : value_at block (pairs l s x) ≡ Some p = ap (λ y. value_at block (pairs y s x)) (omega (arith, lev)) ∙ slot_found n ((node_at s r).rank - 1 - n) k in
                  let w = found_within from to block p (pairs l s x) (ascend_tree 1 l s from to x st.tree) f2 in (
                    r1,
                    device2,
                    block,
                    h1,
                    (r2, g, st.alike block w.0 w.1 ∙ f2),
                    λ q.
                        let same : value_at device2 (content 5 s r1) ≡ value_at device (content 5 s r0) = ap (λ y. value_at device2 (content 5 s y)) q.0 ∙ ap (λ d. value_at d (content 5 s r0)) q.1 in
                        let is : r2 ≡ r = some_eq r2 r (sym g ∙ (same ∙ fd)) in
                        let lr : (node_at s r2).rank ≡ (node_at s r).rank = ap (λ y. (node_at s y).rank) is in
                        let z : n ≡ suc m = omega (arith, lev, volume_rank, st.depth, lr) in
                        let cp : c ≡ parent s r0 r device block n = sym (leads block w.0 w.1).0 ∙ (ap (λ y. down s block y m) is ∙ ap (parent s r0 r device block) (sym z)) in
                        apart (cp, same_place s block (key_at device block n) c (parent s r0 r device block n) j i (leads block w.0 w.1).1 e.place (ap (key_at device block) (sym z)) cp),
                  )
              | inr h ↦
                  let z : (node_at s x).rank ≡ 0 = ap (λ y. (node_at s y).rank) (slot_end n (omega (arith, volume_rank))) ∙ slot_data in
                  absurd (omega arith)
            ]
        other_slot r1 h1 n i le e c j (via_leaf device2 r2 block2 g h a b) apart =
            let x = down s block r n in
            let low : (node_at s x).rank ≡ 0 = data_rank s x ((f r1 h1).data_blocks device2 r2 block2 x g h) in
            elim (cases_lt n (node_at s r).rank) [
              | inl less ↦ absurd (omega (arith, slot_rank n ((node_at s r).rank - 1 - n) (omega (arith, volume_rank))))
              | inr more ↦
                  let z : n ≡ suc ((node_at s r).rank - 1) = omega (arith, volume_rank) in
                  let xp : x ≡ p = slot_end n z in (
                    r1,
                    device2,
                    block2,
                    h1,
                    (r2, g, h ∙ ap Some xp),
                    λ q.
                        let same : value_at device2 (content 5 s r1) ≡ value_at device (content 5 s r0) = ap (λ y. value_at device2 (content 5 s y)) q.0 ∙ ap (λ d. value_at d (content 5 s r0)) q.1 in
                        let is : r2 ≡ r = some_eq r2 r (sym g ∙ (same ∙ fd)) in
                        let cp : c ≡ parent s r0 r device block n = sym a ∙ (ap (λ y. down s block2 y ((node_at s y).rank - 1)) is ∙ (ap (λ y. down s y r ((node_at s r).rank - 1)) q.2 ∙ ap (parent s r0 r device block) (sym z))) in
                        apart (cp, same_place s block2 (key_at device block n) c (parent s r0 r device block n) j i b e.place (q.2 ∙ ap (key_at device block) (sym z)) cp),
                  )
            ]

  -- from a count to a slot
  module _ (r0 : ℕ) (h0 : 0 < occurrences r0 roots) (device r : ℕ) (fd : value_at device (content 5 s r0) ≡ Some r) (block p : ℕ) (fv : value_at block (content 1 s r) ≡ Some p) where
    -- another reference to a block on the path from the root stands in the device tree below r1
    other_device : (r1 : ℕ) (h1 : 0 < occurrences r1 roots) (x n l : ℕ) → x ≡ down s device r0 n → (node_at s r0).rank - 5 ≡ n + l → (c j : ℕ) → Via s r1 ids top c j x
        → ((m : ℕ) → n ≡ suc m → (i : ℕ) × (rank_of device (node_at s (down s device r0 m)).entries ≡ suc i) × (((c ≡ down s device r0 m) × (j ≡ i)) → ⊥)) → OtherBelow s roots r0 device block p
    other_device r1 h1 x n l is e c j (via_devices m l2 from to st leads) apart =
        let lev : (node_at s x).rank ≡ 5 + l = ap (λ y. (node_at s y).rank) is ∙ step_rank r0 h0 device r fd n l e in
        let high : (node_at s x).rank ≡ 5 + l2 = tree_rank 5 l2 s from to x st.tree in
        let same_level : l2 ≡ l = omega (arith, lev, high) in
        let f2 : value_at device (pairs l2 s x) ≡ Some r = ap (λ y. value_at device (pairs y s x)) same_level ∙ (ap (λ y. value_at device (pairs l s y)) is ∙ step_found r0 h0 device r fd n l e) in
        let w = found_within from to device r (pairs l2 s x) (ascend_tree 5 l2 s from to x st.tree) f2 in (
          r1,
          device,
          block,
          h1,
          (r, st.alike device w.0 w.1 ∙ f2, fv),
          λ q.
              let ranks : (node_at s r1).rank ≡ (node_at s r0).rank = ap (λ y. (node_at s y).rank) q.0 in
              let z : n ≡ suc m = omega (arith, st.depth, e, same_level, ranks) in
              let o = apart m z in
              let cp : c ≡ down s device r0 m = sym (leads device w.0 w.1).0 ∙ ap (λ y. down s device y m) q.0 in
              o.2 (cp, same_place s device device c (down s device r0 m) j o.0 (leads device w.0 w.1).1 o.1 refl cp),
        )
    other_device r1 h1 x n l is e c j (via_device device2 g a b) apart =
        let lev : (node_at s x).rank ≡ 5 + l = ap (λ y. (node_at s y).rank) is ∙ step_rank r0 h0 device r fd n l e in
        absurd (omega (arith, lev, volume_low r1 h1 device2 x g))
    other_device r1 h1 x n l is e c j (via_node device2 r2 m l2 from to g st leads) apart =
        let lev : (node_at s x).rank ≡ 5 + l = ap (λ y. (node_at s y).rank) is ∙ step_rank r0 h0 device r fd n l e in
        let high : (node_at s x).rank ≡ 1 + l2 = tree_rank 1 l2 s from to x st.tree in
        absurd (omega (arith, lev, high, st.depth, volume_rank r1 h1 device2 r2 g, volume_low r1 h1 device2 r2 g))
    other_device r1 h1 x n l is e c j (via_leaf device2 r2 block2 g h a b) apart =
        let lev : (node_at s x).rank ≡ 5 + l = ap (λ y. (node_at s y).rank) is ∙ step_rank r0 h0 device r fd n l e in
        absurd (omega (arith, lev, data_rank s x ((f r1 h1).data_blocks device2 r2 block2 x g h)))

    pub path_slot : SharedPath s r block → OtherBelow s roots r0 device block p
    path_slot h =
        let n = h.0 in
        let e = edge r0 h0 device r fd block p fv n h.1 in
        let o = other_ref s (roots ++ fixed) (parent s r0 r device block n) e.0 (down s block r n) bal e.1.names (unheld r0 h0 device r fd block p fv n h.1 h.2) h.2 in
        let w = place_live s roots fixed ids top bal f r0 h0 o.0 o.2.live in
        other_slot r0 h0 device r fd block p fv w.0 w.1 n e.0 h.1 e.1 o.0 o.1 (via s w.0 fixed ids top o.0 o.1 (down s block r n) (f w.0 w.1) w.2 o.2) o.3

    -- the root itself, which a node names
    named_root : (c : ℕ) → 0 < count_of s c → 0 < occurrences r0 (children (node_at s c)) → OtherBelow s roots r0 device block p
    named_root c live here =
        let w = place_live s roots fixed ids top bal f r0 h0 c live in
        let o = child_place s c r0 live here in
        other_device w.0 w.1 r0 0 ((node_at s r0).rank - 5) refl (omega arith) c o.0 (via s w.0 fixed ids top c o.0 r0 (f w.0 w.1) w.2 o.1) (λ m z. absurd (omega (arith, z)))

    -- a block below the root, which is another root or has another reference
    below_root : (n l : ℕ) → (node_at s r0).rank - 5 ≡ n + suc l → 2 ≤ count_of s (down s device r0 (suc n)) → OtherBelow s roots r0 device block p
    below_root n l e two =
        let x = down s device r0 (suc n) in
        let k : (node_at s r0).rank - 5 ≡ suc n + l = omega (arith, e) in
        let lev = step_rank r0 h0 device r fd (suc n) l k in
        elim (cases_lt 0 (occurrences x roots)) [
          | inl h ↦ (
            x,
            device,
            block,
            h,
            (r, ap (λ y. value_at device (pairs y s x)) (omega (arith, lev)) ∙ step_found r0 h0 device r fd (suc n) l k, fv),
            λ q. let ranks : (node_at s x).rank ≡ (node_at s r0).rank = ap (λ y. (node_at s y).rank) q.0 in absurd (omega (arith, ranks, lev, e, root_rank r0 h0)),
          )
          | inr z ↦
              let d = step_edge r0 h0 device r fd n l e in
              let free : occurrences x (roots ++ fixed) ≡ 0 = omega (arith, z, not_fixed r0 h0 device r fd block p fv x two, occurrences-append x roots fixed) in
              let o = other_ref s (roots ++ fixed) (down s device r0 n) d.0 x bal d.1 free two in
              let w = place_live s roots fixed ids top bal f r0 h0 o.0 o.2.live in
              other_device w.0 w.1 x (suc n) l refl k o.0 o.1 (via s w.0 fixed ids top o.0 o.1 x (f w.0 w.1) w.2 o.2)
              (λ m z2.
              let same : n ≡ m = omega (arith, z2) in
              subst (λ y. (i : ℕ) × (rank_of device (node_at s (down s device r0 y)).entries ≡ suc i) × (((o.0 ≡ down s device r0 y) × (o.1 ≡ i)) → ⊥)) same (d.0, d.2.place, o.3))
        ]

    -- the root is there twice, or another slot has the data block
    pub devices_slot : SharedDevices s r0 device → (2 ≤ occurrences r0 roots) ⊎ OtherBelow s roots r0 device block p
    devices_slot (zero, le, two) =
        elim (cases_lt 1 (occurrences r0 roots)) [
          | inl more ↦ inl (omega arith)
          | inr one ↦
              let none : occurrences r0 fixed ≡ 0 = not_fixed r0 h0 device r fd block p fv r0 two in
              let c = namer s r0 (omega (arith, bal.true r0, none, one, two, occurrences-append r0 roots fixed)) in
              inr (named_root c.0 c.1.0 c.1.1)
        ]
    devices_slot (suc n, le, two) = inr (below_root n ((node_at s r0).rank - 5 - suc n) (omega (arith, le)) two)

  -- Two paths that meet have a count of 2 or more there or above, or they are one path from one root.
  module _ (r0 : ℕ) (h0 : 0 < occurrences r0 roots) (device r block p : ℕ) (fd : value_at device (content 5 s r0) ≡ Some r) (fv : value_at block (content 1 s r) ≡ Some p)
      (r1 : ℕ) (h1 : 0 < occurrences r1 roots) (device2 r2 block2 : ℕ) (gd : value_at device2 (content 5 s r1) ≡ Some r2) (gv : value_at block2 (content 1 s r2) ≡ Some p) where
    ends : (c d i j : ℕ) → (((c ≡ d) × (i ≡ j)) ⊎ (((c ≡ d) × (i ≡ j)) → ⊥))
    ends c d i j =
        elim (cases_eq c d) [
          | inl a ↦ elim (cases_eq i j) [ inl b ↦ inl (a, b) | inr b ↦ inr (λ e. b e.1) ]
          | inr a ↦ inr (λ e. a e.0)
        ]

    meet : (n m : ℕ) → n ≤ (node_at s r).rank → m ≤ (node_at s r2).rank → down s block r n ≡ down s block2 r2 m → (SharedPath s r block) ⊎ (r ≡ r2)
    meet zero zero a b h = inr h
    meet zero (suc m) a b h =
        let e = edge r0 h0 device r fd block p fv zero a in
        let g = edge r1 h1 device2 r2 gd block2 p gv (suc m) b in
        inl (
          0,
          a,
          two_refs s (roots ++ fixed) (parent s r0 r device block 0) e.0 (parent s r1 r2 device2 block2 (suc m)) g.0 r bal e.1.names (subst (Names s (down s block2 r2 m) g.0) (sym h) g.1.names)
              (λ q. let l : (node_at s (parent s r0 r device block 0)).rank ≡ (node_at s (down s block2 r2 m)).rank = ap (λ x. (node_at s x).rank) q.0 in absurd (omega (arith, device_rank r0 h0 device r fd, on_low r1 h1 device2 r2 gd block2 p gv m (omega arith)))),
        )
    meet (suc n) zero a b h =
        let e = edge r0 h0 device r fd block p fv (suc n) a in
        let g = edge r1 h1 device2 r2 gd block2 p gv zero b in
        inl (
          suc n,
          a,
          two_refs s (roots ++ fixed) (down s block r n) e.0 (parent s r1 r2 device2 block2 0) g.0 (down s block r (suc n)) bal e.1.names (subst (Names s (parent s r1 r2 device2 block2 0) g.0) (sym h) g.1.names)
              (λ q. let l : (node_at s (down s block r n)).rank ≡ (node_at s (parent s r1 r2 device2 block2 0)).rank = ap (λ x. (node_at s x).rank) q.0 in absurd (omega (arith, device_rank r1 h1 device2 r2 gd, on_low r0 h0 device r fd block p fv n (omega arith)))),
        )
    meet (suc n) (suc m) a b h =
        let e = edge r0 h0 device r fd block p fv (suc n) a in
        let g = edge r1 h1 device2 r2 gd block2 p gv (suc m) b in
        elim (ends (down s block r n) (down s block2 r2 m) e.0 g.0) [
          | inl q ↦ meet n m (omega arith) (omega arith) q.0
          | inr d ↦ inl (suc n, a, two_refs s (roots ++ fixed) (down s block r n) e.0 (down s block2 r2 m) g.0 (down s block r (suc n)) bal e.1.names (subst (Names s (down s block2 r2 m) g.0) (sym h) g.1.names) d)
        ]

    -- the same on the paths from the roots: a root that a node names has a count of 2 or more
    held_and_named : (x c i : ℕ) → 0 < occurrences x roots → Names s c i x → 2 ≤ count_of s x
    held_and_named x c i h n =
        omega (arith, bal.true x, occurrences-append x roots fixed, h, names_child s c i x n, times_named-least s [] x c n.live refl)

    meet_above : (n m l k : ℕ) → (node_at s r0).rank - 5 ≡ n + l → (node_at s r1).rank - 5 ≡ m + k → down s device r0 n ≡ down s device2 r1 m → (SharedDevices s r0 device) ⊎ (r0 ≡ r1)
    meet_above zero zero l k a b h = inr h
    meet_above zero (suc m) l k a b h =
        let g = step_edge r1 h1 device2 r2 gd m k (omega (arith, b)) in
        inl (0, omega arith, held_and_named r0 (down s device2 r1 m) g.0 h0 (subst (Names s (down s device2 r1 m) g.0) (sym h) g.1))
    meet_above (suc n) zero l k a b h =
        let e = step_edge r0 h0 device r fd n l (omega (arith, a)) in
        inl (suc n, omega (arith, a), held_and_named (down s device r0 (suc n)) (down s device r0 n) e.0 (subst (λ x. 0 < occurrences x roots) (sym h) h1) e.1)
    meet_above (suc n) (suc m) l k a b h =
        let e = step_edge r0 h0 device r fd n l (omega (arith, a)) in
        let g = step_edge r1 h1 device2 r2 gd m k (omega (arith, b)) in
        elim (ends (down s device r0 n) (down s device2 r1 m) e.0 g.0) [
          | inl q ↦ meet_above n m (suc l) (suc k) (omega (arith, a)) (omega (arith, b)) q.0
          | inr d ↦ inl (suc n, omega (arith, a), two_refs s (roots ++ fixed) (down s device r0 n) e.0 (down s device2 r1 m) g.0 (down s device r0 (suc n)) bal e.1 (subst (Names s (down s device2 r1 m) g.0) (sym h) g.1) d)
        ]

    -- one root of a volume
    meet_roots : r ≡ r2 → (SharedPath s r block) ⊎ ((device2 ≡ device) × ((SharedDevices s r0 device) ⊎ (r0 ≡ r1)))
    meet_roots q =
        let e = device_edge r0 h0 device r fd in
        let g = device_edge r1 h1 device2 r2 gd in
        let c = down s device r0 ((node_at s r0).rank - 5) in
        let d = down s device2 r1 ((node_at s r1).rank - 5) in
        elim (ends c d e.0 g.0) [
          | inl z ↦ inr (
            sym g.3 ∙ (ap (begin s d) (sym z.1) ∙ (ap (λ x. begin s x e.0) (sym z.0) ∙ e.3)),
            meet_above ((node_at s r0).rank - 5) ((node_at s r1).rank - 5) 0 0 (omega arith) (omega arith) z.0,
          )
          | inr z ↦ inl (0, omega arith, two_refs s (roots ++ fixed) c e.0 d g.0 r bal e.1 (subst (Names s d g.0) (sym q) g.1) z)
        ]

    pub slot_path : (SharedPath s r block ⊎ SharedDevices s r0 device) ⊎ ((r0 ≡ r1) × (device2 ≡ device) × (block2 ≡ block))
    slot_path =
        elim (cases_eq block2 block) [
          | inl v ↦ elim (meet (node_at s r).rank (node_at s r2).rank (omega arith) (omega arith)
              (slot_end r0 h0 device r fd block p fv (node_at s r).rank (omega (arith, volume_rank r0 h0 device r fd)) ∙ sym (slot_end r1 h1 device2 r2 gd block2 p gv (node_at s r2).rank (omega (arith, volume_rank r1 h1 device2 r2 gd))))) [
                | inl h ↦ inl (inl h)
                | inr q ↦ elim (meet_roots q) [
                  | inl h ↦ inl (inl h)
                  | inr t ↦ elim t.1 [
                    | inl h ↦ inl (inr h)
                    | inr z ↦ inr (z, t.0, v)
                  ]
                ]
              ]
          | inr d ↦
              let e = leaf_edge r0 h0 device r fd block p fv in
              let g = leaf_edge r1 h1 device2 r2 gd block2 p gv in
              let two : 2 ≤ count_of s p = two_refs s (roots ++ fixed) (down s block r ((node_at s r).rank - 1)) e.0 (down s block2 r2 ((node_at s r2).rank - 1)) g.0 p bal e.1 g.1
              (λ z. d (sym g.3 ∙ (ap (begin s (down s block2 r2 ((node_at s r2).rank - 1))) (sym z.1) ∙ (ap (λ x. begin s x e.0) (sym z.0) ∙ e.3)))) in
              inl (inl ((node_at s r).rank, omega arith, subst (λ x. 2 ≤ count_of s x) (sym (slot_end r0 h0 device r fd block p fv (node_at s r).rank (omega (arith, volume_rank r0 h0 device r fd)))) two))
        ]

-- ---- roots by place

pub root_there : (xs : List ℕ) (i : ℕ) → i < length xs → 0 < occurrences (get_or xs i 0) xs
root_there [] i w = absurd (omega arith)
root_there (x ∷ xs) zero w = omega (arith, one_same x x refl)
root_there (x ∷ xs) (suc i) w = omega (arith, root_there xs i (omega arith))

root_place : (x : ℕ) (xs : List ℕ) → 0 < occurrences x xs → (i : ℕ) × (i < length xs) × (get_or xs i 0 ≡ x)
root_place x [] h = absurd (omega arith)
root_place x (y ∷ ys) h =
    elim (cases_eq y x) [
      | inl p ↦ (0, omega arith, p)
      | inr d ↦ let r = root_place x ys (omega (arith, one_other y x d)) in (suc r.0, omega (arith, r.1), r.2)
    ]

-- a root that is there twice is at another place
root_twice : (x i : ℕ) (xs : List ℕ) → 2 ≤ occurrences x xs → (j : ℕ) × (j < length xs) × (get_or xs j 0 ≡ x) × (j ≢ i)
root_twice x i [] h = absurd (omega arith)
root_twice x i (y ∷ ys) h =
    elim (cases_eq y x) [
      | inl p ↦
          elim (cases_eq i 0) [
            | inl z ↦ let r = root_place x ys (omega (arith, one_same y x p)) in (suc r.0, omega (arith, r.1), r.2, λ e. absurd (omega (arith, e, z)))
            | inr n ↦ (0, omega arith, p, λ e. n (sym e))
          ]
      | inr d ↦
          let r = root_twice x (i - 1) ys (omega (arith, one_other y x d)) in
          (suc r.0, omega (arith, r.1), r.2, λ e. r.3 (omega (arith, e)))
    ]

-- two places of one root
twice_there : (x i j : ℕ) (xs : List ℕ) → i < length xs → j < length xs → i ≢ j → get_or xs i 0 ≡ x → get_or xs j 0 ≡ x → 2 ≤ occurrences x xs
twice_there x i j [] a b ne p q = absurd (omega arith)
twice_there x zero zero (y ∷ ys) a b ne p q = absurd (ne refl)
twice_there x zero (suc j) (y ∷ ys) a b ne p q = omega (arith, one_same y x p, subst (λ z. 0 < occurrences z ys) q (root_there ys j (omega arith)))
twice_there x (suc i) zero (y ∷ ys) a b ne p q = omega (arith, one_same y x q, subst (λ z. 0 < occurrences z ys) p (root_there ys i (omega arith)))
twice_there x (suc i) (suc j) (y ∷ ys) a b ne p q = omega (arith, twice_there x i j ys (omega arith) (omega arith) (λ e. ne (ap suc e)) p q)

module _ (s : Store) (roots fixed : List ℕ) (ids top : ℕ) (bal : Balanced s [] (roots ++ fixed)) (f : (r : ℕ) → 0 < occurrences r roots → Grove s r fixed ids top) (i : ℕ) (here : i < length roots)
    (device r block p : ℕ) (fd : value_at device (content 5 s (get_or roots i 0)) ≡ Some r) (fv : value_at block (content 1 s r) ≡ Some p) where
  abbrev r0 : ℕ
  r0 = get_or roots i 0

  by_place : OtherBelow s roots r0 device block p → SharedSlot s roots i device block p
  by_place (r1, other, at, h1, slot, apart) =
      let j = root_place r1 roots h1 in (
        j.0,
        other,
        at,
        j.1,
        subst (λ x. Slot s x other at p) (sym j.2) slot,
        λ q. apart (sym j.2 ∙ ap (λ n. get_or roots n 0) q.0, q.1, q.2),
      )

  pub way_slot : SharedDevices s r0 device ⊎ SharedPath s r block → SharedSlot s roots i device block p
  way_slot (inr h) = by_place (path_slot s roots fixed ids top bal f r0 (root_there roots i here) device r fd block p fv h)
  way_slot (inl h) =
      elim (devices_slot s roots fixed ids top bal f r0 (root_there roots i here) device r fd block p fv h) [
        | inl two ↦ let j = root_twice r0 i roots two in (j.0, device, block, j.1, subst (λ x. Slot s x device block p) (sym j.2) (r, fd, fv), λ q. j.3 q.0)
        | inr o ↦ by_place o
      ]

  pub slot_way : SharedSlot s roots i device block p → SharedDevices s r0 device ⊎ SharedPath s r block
  slot_way (j, other, at, w, slot, apart) =
      elim (slot_path s roots fixed ids top bal f r0 (root_there roots i here) device r block p fd fv (get_or roots j 0) (root_there roots j w) other slot.0 at slot.1 slot.2) [
        | inl t ↦ elim t [ inl h ↦ inr h | inr h ↦ inl h ]
        | inr q ↦
            let ne : i ≢ j = λ e. apart (sym e, q.1, q.2) in
            let two = twice_there r0 i j roots here w ne refl (sym q.0) in
            let more : 2 ≤ count_of s r0 = omega (arith, bal.true r0, occurrences-append r0 roots fixed, two) in
            inl (0, omega arith, more)
      ]

-- ---- the test

-- a path from b begins with b, and goes on where the key leads
pub down_cons : (s : Store) (q b n : ℕ) → down s q b (suc n) ≡ down s q (led_to q (node_at s b).entries) n
down_cons s q b zero = refl
down_cons s q b (suc n) = ap (λ x. led_to q (node_at s x).entries) (down_cons s q b n)

true_left : (a b : Bool) → IsTrue a → IsTrue (a || b)
true_left true b h = h
true_left false b h = search (rules, h)

true_right : (a b : Bool) → IsTrue b → IsTrue (a || b)
true_right true b h = search rules
true_right false b h = h

true_either : (a b : Bool) → IsTrue (a || b) → IsTrue a ⊎ IsTrue b
true_either true b h = inl h
true_either false b h = inr h

above_one : (n : ℕ) → IsTrue (nat_lt 1 n) → 2 ≤ n
above_one n h = grind (arith, nat_tests)

one_above : (n : ℕ) → 2 ≤ n → IsTrue (nat_lt 1 n)
one_above n h = grind (arith, nat_tests)

pub test_within : (k : ℕ) (s : Store) (q b : ℕ) → IsTrue (is_shared_path k s q b) → SharedWithin k s q b
test_within zero s q b h =
    elim (true_either (nat_lt 1 (count_of s b)) (nat_lt 1 (count_of s (led_to q (node_at s b).entries))) h) [
      | inl a ↦ (0, omega arith, above_one (count_of s b) a)
      | inr a ↦ (1, omega arith, above_one (count_of s (led_to q (node_at s b).entries)) a)
    ]
test_within (suc k) s q b h =
    elim (true_either (nat_lt 1 (count_of s b)) (is_shared_path k s q (led_to q (node_at s b).entries)) h) [
      | inl a ↦ (0, omega arith, above_one (count_of s b) a)
      | inr a ↦
          let r = test_within k s q (led_to q (node_at s b).entries) a in
          (suc r.0, omega (arith, r.1), subst (λ x. 2 ≤ count_of s x) (sym (down_cons s q b r.0)) r.2)
    ]

pub within_test : (k : ℕ) (s : Store) (q b n : ℕ) → n ≤ suc k → 2 ≤ count_of s (down s q b n) → IsTrue (is_shared_path k s q b)
within_test zero s q b zero le two = true_left (nat_lt 1 (count_of s b)) (nat_lt 1 (count_of s (led_to q (node_at s b).entries))) (one_above (count_of s b) two)
within_test zero s q b (suc zero) le two = true_right (nat_lt 1 (count_of s b)) (nat_lt 1 (count_of s (led_to q (node_at s b).entries))) (one_above (count_of s (led_to q (node_at s b).entries)) two)
within_test zero s q b (suc (suc n)) le two = absurd (omega arith)
within_test (suc k) s q b zero le two = true_left (nat_lt 1 (count_of s b)) (is_shared_path k s q (led_to q (node_at s b).entries)) (one_above (count_of s b) two)
within_test (suc k) s q b (suc n) le two =
    true_right (nat_lt 1 (count_of s b)) (is_shared_path k s q (led_to q (node_at s b).entries))
    (within_test k s q (led_to q (node_at s b).entries) n (omega arith) (subst (λ x. 2 ≤ count_of s x) (down_cons s q b n) two))

pub test_is_within : TestIsWithin
test_is_within k s q b = (test_within k s q b, λ h. within_test k s q b h.0 h.1 h.2)

pub shared_exactly : SharedExactly
shared_exactly s roots fixed top bal f i here device block volume slot fd fv =
    let g : (r : ℕ) → 0 < occurrences r roots → Grove s r fixed (2 ^ 24) top = λ x h. grove_of s x fixed top (f x h) in
    let r0 = get_or roots i 0 in
    let r = volume.value in
    let p = slot.value in
    let vd = value_from device volume (content 5 s r0) fd in
    let vb = value_from block slot (content 1 s r) fv in
    let rank = volume_rank s roots fixed (2 ^ 24) top bal g r0 (root_there roots i here) device r vd in
    let ends = device_end s roots fixed (2 ^ 24) top bal g r0 (root_there roots i here) device r vd in (
      λ t. way_slot s roots fixed (2 ^ 24) top bal g i here device r block p vd vb
          (elim (true_either (is_shared_path ((node_at s r0).rank - 5) s device r0) (is_shared_path ((node_at s r).rank - 1) s block r) t) [
            | inl a ↦
                let w = test_within ((node_at s r0).rank - 5) s device r0 a in
                elim (cases_lt ((node_at s r0).rank - 5) w.0) [
                  | inl last ↦
                      let e : w.0 ≡ suc ((node_at s r0).rank - 5) = omega (arith, last, w.1) in
                      inr (0, omega arith, subst (λ x. 2 ≤ count_of s x) (ap (down s device r0) e ∙ ends) w.2)
                  | inr low ↦ inl (w.0, omega (arith, low), w.2)
                ]
            | inr a ↦ let w = test_within ((node_at s r).rank - 1) s block r a in inr (w.0, omega (arith, w.1, rank), w.2)
          ]),
      λ h. elim (slot_way s roots fixed (2 ^ 24) top bal g i here device r block p vd vb h) [
        | inl w ↦ true_left (is_shared_path ((node_at s r0).rank - 5) s device r0) (is_shared_path ((node_at s r).rank - 1) s block r)
            (within_test ((node_at s r0).rank - 5) s device r0 w.0 (omega (arith, w.1)) w.2)
        | inr w ↦ true_right (is_shared_path ((node_at s r0).rank - 5) s device r0) (is_shared_path ((node_at s r).rank - 1) s block r)
            (within_test ((node_at s r).rank - 1) s block r w.0 (omega (arith, w.1, rank)) w.2)
      ],
    )
