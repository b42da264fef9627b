-- The path of a key by intervals, and by steps.
use Rattle.std.proofs.Common.{◌≡◌, ℕ, zero, suc, ◌+◌, ◌-◌, ◌<◌, ◌≤◌, List, [], ◌∷◌, length, get_or, drop, refl, sym, ap, subst, ◌∙◌, arith, inl, inr, Some}
use Rattle.std.specs.Prelude.{◌^◌}
use Rattle.std.proofs.lemmas.Bool.{cases_lt}
use Rattle.tp_layout.specs.declared.entry.Entry.{Entry}
use Rattle.tp_layout.specs.Entries.{first_key, found}
use Rattle.tp_refs.specs.Store.{Store, count_of, node_at}
use Rattle.tp_trees.specs.Paths.{Through}
use Rattle.tp_trees.specs.Tree.{IsTree, blank}
use Rattle.tp_trees.proofs.Frames.{Below}
use Rattle.tp_trees.proofs.Trees.{choose, led_by_place}
use Rattle.tp_trees.proofs.Walks.{value_found}
use Rattle.tp_refs.specs.Balance.{occurrences}
use Rattle.tp_sharing.specs.Forest.{Forest, content, down, value_at}
use Rattle.tp_sharing.specs.Paths.{OnPath, PathsAreDown, SharedByPaths}
use Rattle.tp_sharing.proofs.Grove.{Grove, grove_of}
use Rattle.tp_sharing.proofs.Lists.{value_from}
use Rattle.tp_sharing.proofs.Sharing.{SharedDevices, down_cons, root_there, slot_end, slot_way, volume_rank, way_slot}
use Rattle.tp_sharing.proofs.Ways.{child_entry}

-- the entry that a path goes through, by its place
through_place : (R : ℕ → ℕ → Type 0) (q high : ℕ) (es : List Entry) → Through R q high es
    → (i : ℕ) × (i < length es) × ((get_or es i blank).key ≤ q) × (q < first_key (drop (suc i) es) high) × R (first_key (drop (suc i) es) high) (get_or es i blank).value
through_place R q high [] h = absurd h
through_place R q high (e ∷ es) (inl h) = (0, omega arith, h.0, h.1, h.2)
through_place R q high (e ∷ es) (inr h) = let r = through_place R q high es h in (suc r.0, omega (arith, r.1), r.2, r.3, r.4)

place_through : (R : ℕ → ℕ → Type 0) (q high i : ℕ) (es : List Entry) → i < length es → (get_or es i blank).key ≤ q → q < first_key (drop (suc i) es) high → R (first_key (drop (suc i) es) high) (get_or es i blank).value → Through R q high es
place_through R q high i [] w l u r = absurd (omega arith)
place_through R q high zero (e ∷ es) w l u r = inl (l, u, r)
place_through R q high (suc i) (e ∷ es) w l u r = inr (place_through R q high i es (omega arith) l u r)

on_down : (base k : ℕ) (s : Store) (low high b q x : ℕ) → IsTree base k s low high b → OnPath k s q x high b → (n : ℕ) × (n ≤ k) × (down s q b n ≡ x)
on_down base zero s low high b q x t h = (0, omega arith, h)
on_down base (suc k) s low high b q x t (inl h) = (0, omega arith, h)
on_down base (suc k) s low high b q x t (inr h) =
    let es = (node_at s b).entries in
    let p = through_place (OnPath k s q x) q high es h in
    let e = child_entry base k s low high b p.0 t p.1 in
    let r = on_down base k s (get_or es p.0 blank).key (first_key (drop (suc p.0) es) high) (get_or es p.0 blank).value q x e.child.0 p.4 in
    (suc r.0, omega (arith, r.1), down_cons s q b r.0 ∙ (ap (λ y. down s q y r.0) (led_by_place q p.0 es (e.at q p.2 p.3)) ∙ r.2))

down_on : (base k : ℕ) (s : Store) (low high b q x n : ℕ) → IsTree base k s low high b → low ≤ q → q < high → n ≤ k → down s q b n ≡ x → OnPath k s q x high b
down_on base zero s low high b q x zero t l u w e = e
down_on base zero s low high b q x (suc n) t l u w e = absurd (omega arith)
down_on base (suc k) s low high b q x zero t l u w e = inl e
down_on base (suc k) s low high b q x (suc n) t l u w e =
    let es = (node_at s b).entries in
    let c = choose (Below base k s) low high q es t.1 l u in
    inr (place_through (OnPath k s q x) q high c.0 es c.1.within c.1.lower c.1.upper
    (down_on base k s (get_or es c.0 blank).key (first_key (drop (suc c.0) es) high) (get_or es c.0 blank).value q x n c.1.child.0 c.1.lower c.1.upper (omega arith)
    (ap (λ y. down s q y n) (sym (led_by_place q c.0 es c.1.at)) ∙ (sym (down_cons s q b n) ∙ e))))

pub paths_are_down : PathsAreDown
paths_are_down base k s low high b q x t l u = (on_down base k s low high b q x t, λ h. down_on base k s low high b q x h.0 t l u h.1 h.2)

pub shared_by_paths : SharedByPaths
shared_by_paths s roots fixed top bal f i root here root_is device block volume slot dl bl hd hb =
    let there : 0 < occurrences root roots = subst (λ x. 0 < occurrences x roots) root_is (root_there roots i here) in
    let fr : Forest s root fixed top = f root there in
    let g : (r : ℕ) → 0 < occurrences r roots → Grove s r fixed (2 ^ 24) top = λ x h. grove_of s x fixed top (f x h) in
    let r = volume.value in
    let p = slot.value in
    let d = (node_at s root).rank - 5 in
    let k = (node_at s r).rank - 1 in
    let fd : found device (content 5 s root) ≡ Some volume = value_found 5 d s 0 (2 ^ 24) root device volume fr.devices.tree (omega arith) dl hd in
    let t : IsTree 1 k s 0 top r = (fr.volumes device volume fd).tree.tree in
    let fb : found block (content 1 s r) ≡ Some slot = value_found 1 k s 0 top r block slot t (omega arith) bl hb in
    let vd = value_from device volume (content 5 s root) fd in
    let vb = value_from block slot (content 1 s r) fb in
    let vr : value_at device (content 5 s (get_or roots i 0)) ≡ Some r = subst (λ x. value_at device (content 5 s x) ≡ Some r) (sym root_is) vd in
    let rank : (node_at s r).rank ≡ 1 + k = volume_rank s roots fixed (2 ^ 24) top bal g root there device r vd in
    let last : down s block r (suc k) ≡ p = slot_end s roots fixed (2 ^ 24) top bal g root there device r vd block p vb (suc k) refl in (
      λ h. way_slot s roots fixed (2 ^ 24) top bal g i here device r block p vr vb (elim h.1 [
        | inl o ↦
            let z = on_down 5 d s 0 (2 ^ 24) root device h.0 fr.devices.tree o in
            inl (subst (λ x. SharedDevices s x device) (sym root_is) (z.0, z.1, subst (λ y. 2 ≤ count_of s y) (sym z.2) h.2))
        | inr low ↦ elim low [
          | inl o ↦ let z = on_down 1 k s 0 top r block h.0 t o in inr (z.0, omega (arith, z.1), subst (λ y. 2 ≤ count_of s y) (sym z.2) h.2)
          | inr e ↦ inr (suc k, omega (arith, rank), subst (λ y. 2 ≤ count_of s y) (sym (last ∙ e)) h.2)
        ]
      ]),
      λ o. elim (slot_way s roots fixed (2 ^ 24) top bal g i here device r block p vr vb o) [
        | inl z ↦
            let w = subst (λ x. SharedDevices s x device) root_is z in
            (down s device root w.0, inl (down_on 5 d s 0 (2 ^ 24) root device (down s device root w.0) w.0 fr.devices.tree (omega arith) dl w.1 refl), w.2)
        | inr w ↦ (
          down s block r w.0,
          inr (elim (cases_lt w.0 (node_at s r).rank) [
            | inl l ↦ inl (down_on 1 k s 0 top r block (down s block r w.0) w.0 t (omega arith) bl (omega (arith, l, rank)) refl)
            | inr n ↦ let e : suc k ≡ w.0 = omega (arith, w.1, n, rank) in inr (sym last ∙ ap (down s block r) e)
          ]),
          w.2,
        )
      ],
    )
