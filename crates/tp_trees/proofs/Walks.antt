-- Paths to entries.
use Rattle.std.proofs.Common.{◌≡◌, ℕ, zero, suc, ◌<◌, ◌≤◌, List, [], ◌∷◌, sym, ap, ◌∙◌, arith, inl, inr, Some}
use Rattle.std.proofs.lemmas.Bool.{cases_lt, cases_eq}
use Rattle.tp_layout.specs.declared.entry.Entry.{Entry}
use Rattle.tp_layout.specs.Entries.{Ascend, first_key, found}
use Rattle.tp_layout.proofs.Ordered.{found_above, found_below, found_here, found_later, found_left, found_right}
use Rattle.tp_refs.specs.Store.{Store, node_at}
use Rattle.tp_trees.specs.Tree.{IsTree, Parted, joined, pairs}
use Rattle.tp_trees.specs.Paths.{EntriesByPaths, HasEntry, IsLedTo, Through}
use Rattle.tp_trees.proofs.Trees.{ascend_joined, ascend_tree}
use Rattle.tp_trees.proofs.Frames.{Below}

entry_above : (low high q : ℕ) (v : Entry) (es : List Entry) → Ascend low high es → HasEntry q v es → low ≤ q
entry_above low high q v [] h e = absurd e
entry_above low high q v (e ∷ es) h (inl p) = omega (arith, h.0, p.0)
entry_above low high q v (e ∷ es) h (inr p) = omega (arith, h.0, entry_above (suc e.key) high q v es h.1 p)

entry_found : (low high q : ℕ) (v : Entry) (es : List Entry) → Ascend low high es → HasEntry q v es → found q es ≡ Some v
entry_found low high q v [] h e = absurd e
entry_found low high q v (e ∷ es) h (inl p) = found_here q e es p.0 ∙ ap (λ (w : Entry). Some w) p.1
entry_found low high q v (e ∷ es) h (inr p) = found_later q e es (λ d. absurd (omega (arith, d, entry_above (suc e.key) high q v es h.1 p))) ∙ entry_found (suc e.key) high q v es h.1 p

found_entry : (q : ℕ) (v : Entry) (es : List Entry) → found q es ≡ Some v → HasEntry q v es
found_entry q v [] h = absurd (cc)
found_entry q v (e ∷ es) h =
    elim (cases_eq e.key q) [
      | inl p ↦ let d : Some e ≡ Some v = sym (found_here q e es p) ∙ h in let x : e ≡ v = cc in inl (p, x)
      | inr d ↦ inr (found_entry q v es (sym (found_later q e es d) ∙ h))
    ]

module _ (base k : ℕ) (s : Store) (q : ℕ) (v : Entry) where
  fore : (from to c : ℕ) → Below base k s from to c → Ascend from to (pairs k s c)
  fore from to c t = ascend_tree base k s from to c t.0

  through_above : (low high : ℕ) (es : List Entry) → Parted (Below base k s) low high es → Through (IsLedTo k s q v) q high es → low ≤ q
  through_above low high [] h t = absurd t
  through_above low high (e ∷ es) h (inl t) = omega (arith, h.0, t.0)
  through_above low high (e ∷ es) h (inr t) = omega (arith, h.1, through_above (first_key es high) high es h.3 t)

  through_found : (low high : ℕ) (es : List Entry) → ((from to c : ℕ) → Below base k s from to c → from ≤ q → q < to → IsLedTo k s q v to c → found q (pairs k s c) ≡ Some v)
      → Parted (Below base k s) low high es → Through (IsLedTo k s q v) q high es → found q (joined (pairs k s) es) ≡ Some v
  through_found low high [] each h t = absurd t
  through_found low high (e ∷ es) each h (inl t) =
      found_left q (pairs k s e.value) (joined (pairs k s) es)
      (found_below (first_key es high) high q (joined (pairs k s) es) (ascend_joined (Below base k s) (pairs k s) (first_key es high) high es fore h.3) t.1)
      ∙ each low (first_key es high) e.value h.2 (omega (arith, h.0, t.0)) t.1 t.2
  through_found low high (e ∷ es) each h (inr t) =
      found_right q (pairs k s e.value) (joined (pairs k s) es)
      (found_above low (first_key es high) q (pairs k s e.value) (fore low (first_key es high) e.value h.2) (through_above (first_key es high) high es h.3 t))
      ∙ through_found (first_key es high) high es each h.3 t

  found_through : (low high : ℕ) (es : List Entry) → ((from to c : ℕ) → Below base k s from to c → from ≤ q → q < to → found q (pairs k s c) ≡ Some v → IsLedTo k s q v to c)
      → Parted (Below base k s) low high es → low ≤ q → q < high → found q (joined (pairs k s) es) ≡ Some v → Through (IsLedTo k s q v) q high es
  found_through low high [] each h l u f = absurd (omega (arith, h))
  found_through low high (e ∷ es) each h l u f =
      elim (cases_lt q (first_key es high)) [
        | inl less ↦ inl (
          omega (arith, h.0),
          less,
          each low (first_key es high) e.value h.2 l less
              (sym (found_left q (pairs k s e.value) (joined (pairs k s) es)
              (found_below (first_key es high) high q (joined (pairs k s) es) (ascend_joined (Below base k s) (pairs k s) (first_key es high) high es fore h.3) less)) ∙ f),
        )
        | inr more ↦ inr (found_through (first_key es high) high es each h.3 more u
            (sym (found_right q (pairs k s e.value) (joined (pairs k s) es) (found_above low (first_key es high) q (pairs k s e.value) (fore low (first_key es high) e.value h.2) more)) ∙ f))
      ]

pub value_found : (base k : ℕ) (s : Store) (low high b q : ℕ) (v : Entry) → IsTree base k s low high b → low ≤ q → q < high → IsLedTo k s q v high b → found q (pairs k s b) ≡ Some v
value_found base zero s low high b q v h l u p = entry_found low high q v (node_at s b).entries h.1 p
value_found base (suc k) s low high b q v h l u p =
    through_found base k s q v low high (node_at s b).entries (λ from to c t a z r. value_found base k s from to c q v t.0 a z r) h.1 p

pub found_value : (base k : ℕ) (s : Store) (low high b q : ℕ) (v : Entry) → IsTree base k s low high b → low ≤ q → q < high → found q (pairs k s b) ≡ Some v → IsLedTo k s q v high b
found_value base zero s low high b q v h l u p = found_entry q v (node_at s b).entries p
found_value base (suc k) s low high b q v h l u p =
    found_through base k s q v low high (node_at s b).entries (λ from to c t a z r. found_value base k s from to c q v t.0 a z r) h.1 l u p

pub entries_by_paths : EntriesByPaths
entries_by_paths base k s low high b q v h l u = (found_value base k s low high b q v h l u, value_found base k s low high b q v h l u)
