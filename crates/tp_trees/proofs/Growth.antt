-- A node that grew.
use Rattle.std.proofs.Common.{◌≡◌, ℕ, suc, ◌+◌, ◌<◌, ◌≤◌, List, [], ◌∷◌, ◌++◌, length, ap, sym, subst, ◌∙◌, arith, refl}
use Rattle.tp_layout.specs.declared.entry.Entry.{Entry}
use Rattle.tp_layout.specs.Entries.{first_key, Ascend}
use Rattle.tp_layout.proofs.Ordered.{ascend_ends, ascend_left, ascend_right}
use Rattle.tp_refs.specs.Store.{Node, Store, node_at}
use Rattle.tp_trees.specs.Tree.{Parted, joined, least_of, pairs}
use Rattle.tp_trees.specs.Growth.{Grown, One, Two, Grows, StandsIn}
use Rattle.tp_trees.proofs.Trees.{least_positive, parted_ends, parted_split, joined-append}
use Rattle.tp_trees.proofs.Frames.{Below}

-- parts that are not empty
pub parted_less : (P : ℕ → ℕ → ℕ → Type 0) (low high : ℕ) (es : List Entry) → 0 < length es → Parted P low high es → low < high
parted_less P low high [] l h = absurd (omega arith)
parted_less P low high (e ∷ es) l h = omega (arith, h.1, parted_ends P (first_key es high) high es h.3)

pub ascend_less : (low high : ℕ) (es : List Entry) → 0 < length es → Ascend low high es → low < high
ascend_less low high [] l h = absurd (omega arith)
ascend_less low high (e ∷ es) l h = omega (arith, h.0, ascend_ends (suc e.key) high es h.1)

pub ascend_split : (low high : ℕ) (es fs : List Entry) → Ascend low high (es ++ fs) → Ascend low (first_key fs high) es × Ascend (first_key fs high) high fs
ascend_split low high es fs h = (ascend_left low high es fs h, ascend_right low high es fs h)

-- entries that stand in one node or in two are those of one tree or of two
pub grown_inner : (base k : ℕ) (s : Store) (low high : ℕ) (r : Grown) (n : ℕ) (es : List Entry) → StandsIn s r (base + suc k) es → Parted (Below base k s) low high es → n ≤ length es → Grows base (suc k) s low high r n (joined (pairs k s) es)
grown_inner base k s low high (One b) n es h p l = record {
  tree = subst (λ (m : Node). (m.rank ≡ base + suc k) × Parted (Below base k s) low high m.entries) (sym h) (refl, p);
  content = ap (λ (m : Node). joined (pairs k s) m.entries) h;
  full = subst (λ (m : Node). n ≤ length m.entries) (sym h) l;
}
grown_inner base k s low high (Two b middle c) n es h p l =
    let parts = parted_split (Below base k s) low high h.left h.right (subst (Parted (Below base k s) low high) h.whole p) in
    let left : Parted (Below base k s) low middle h.left = subst (λ m. Parted (Below base k s) low m h.left) (h.between high) parts.0 in
    let right : Parted (Below base k s) middle high h.right = subst (λ m. Parted (Below base k s) m high h.right) (h.between high) parts.1 in
    record {
      left = subst (λ (m : Node). (m.rank ≡ base + suc k) × Parted (Below base k s) low middle m.entries) (sym h.at_left) (refl, left);
      right = subst (λ (m : Node). (m.rank ≡ base + suc k) × Parted (Below base k s) middle high m.entries) (sym h.at_right) (refl, right);
      content =
          ap (λ (m : Node). joined (pairs k s) m.entries ++ joined (pairs k s) (node_at s c).entries) h.at_left
          ∙ (ap (λ (m : Node). joined (pairs k s) h.left ++ joined (pairs k s) m.entries) h.at_right
          ∙ (sym (joined-append (pairs k s) h.left h.right) ∙ ap (joined (pairs k s)) (sym h.whole)));
      left_full = subst (λ (m : Node). least_of (base + suc k) ≤ length m.entries) (sym h.at_left) h.left_full;
      right_full = subst (λ (m : Node). least_of (base + suc k) ≤ length m.entries) (sym h.at_right) h.right_full;
      lower = parted_less (Below base k s) low middle h.left (omega (arith, h.left_full, least_positive (base + suc k))) left;
      upper = parted_less (Below base k s) middle high h.right (omega (arith, h.right_full, least_positive (base + suc k))) right;
    }

pub grown_leaf : (base : ℕ) (s : Store) (low high : ℕ) (r : Grown) (n : ℕ) (es : List Entry) → StandsIn s r base es → Ascend low high es → n ≤ length es → Grows base 0 s low high r n es
grown_leaf base s low high (One b) n es h p l = record {
  tree = subst (λ (m : Node). (m.rank ≡ base) × Ascend low high m.entries) (sym h) (refl, p);
  content = ap (λ (m : Node). m.entries) h;
  full = subst (λ (m : Node). n ≤ length m.entries) (sym h) l;
}
grown_leaf base s low high (Two b middle c) n es h p l =
    let plus : base ≡ base + 0 = omega arith in
    let parts = ascend_split low high h.left h.right (subst (Ascend low high) h.whole p) in
    let left : Ascend low middle h.left = subst (λ m. Ascend low m h.left) (h.between high) parts.0 in
    let right : Ascend middle high h.right = subst (λ m. Ascend m high h.right) (h.between high) parts.1 in
    record {
      left = subst (λ (m : Node). (m.rank ≡ base) × Ascend low middle m.entries) (sym h.at_left) (refl, left);
      right = subst (λ (m : Node). (m.rank ≡ base) × Ascend middle high m.entries) (sym h.at_right) (refl, right);
      content =
          ap (λ (m : Node). m.entries ++ (node_at s c).entries) h.at_left
          ∙ (ap (λ (m : Node). h.left ++ m.entries) h.at_right ∙ sym h.whole);
      left_full = subst (λ (m : Node). least_of (base + 0) ≤ length m.entries) (sym h.at_left) (subst (λ r. least_of r ≤ length h.left) plus h.left_full);
      right_full = subst (λ (m : Node). least_of (base + 0) ≤ length m.entries) (sym h.at_right) (subst (λ r. least_of r ≤ length h.right) plus h.right_full);
      lower = ascend_less low middle h.left (omega (arith, h.left_full, least_positive base)) left;
      upper = ascend_less middle high h.right (omega (arith, h.right_full, least_positive base)) right;
    }
