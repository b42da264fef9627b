-- How the lists that are written come about: halves of a full node, and the keys of nodes that are changed.
use Rattle.std.proofs.Common.{◌≡◌, ℕ, zero, suc, ◌+◌, ◌*◌, ◌<◌, ◌≤◌, List, [], ◌∷◌, ◌++◌, length, get_or, take, drop, sym, ap, subst, ◌∙◌, arith, inl, inr, length-append}
use Rattle.std.proofs.lemmas.Bool.{cases_lt, cases_eq}
use Rattle.std.proofs.lemmas.List.{length-take, length-drop}
use Rattle.tp_layout.specs.declared.entry.Entry.{Entry}
use Rattle.tp_layout.specs.Entries.{Ascend, first_key, with_entry}
use Rattle.tp_layout.proofs.Ordered.{ascend-append, ascend_wider, with_entry_first, with_entry_here, with_entry_later}
use Rattle.tp_refs.specs.Store.{Node, Store, node_at, values}
use Rattle.tp_refs.specs.Balance.{HasRoomFor}
use Rattle.tp_refs.proofs.Names.{length-values}
use Rattle.tp_trees.specs.Tree.{blank, least_of, most_of}
use Rattle.tp_trees.specs.Removal.{Refitted, Refitting}
use Rattle.tp_trees.proofs.Trees.{around, least_positive, most_fits, most_is_twice_least}
use Rattle.tp_trees.proofs.Placing.{first_key_head, first_key_with_entry, put_left_half, put_right_half}
use Rattle.tp_trees.proofs.Shapes.{shape-append, shape_ascend, tree_shape}
use Rattle.tp_trees.proofs.Mending.{left_tree}
use Rattle.tp_trees.proofs.Writes.{Halved}

-- an entry more or another one
pub length_with_entry : (x : Entry) (es : List Entry) → (length es ≤ length (with_entry x es)) × (length (with_entry x es) ≤ length es + 1)
length_with_entry x [] = (omega arith, omega arith)
length_with_entry x (e ∷ es) =
    elim (cases_lt x.key e.key) [
      | inl l ↦ let n : length (with_entry x (e ∷ es)) ≡ length (x ∷ e ∷ es) = ap (λ (xs : List Entry). length xs) (with_entry_first x e es l) in (omega arith, omega arith)
      | inr g ↦ elim (cases_eq e.key x.key) [
        | inl p ↦ let n : length (with_entry x (e ∷ es)) ≡ length (x ∷ es) = ap (λ (xs : List Entry). length xs) (with_entry_here x e es p) in (omega arith, omega arith)
        | inr d ↦
            let n : length (with_entry x (e ∷ es)) ≡ length (e ∷ with_entry x es) = ap (λ (xs : List Entry). length xs) (with_entry_later x e es (omega (arith, d))) in
            let r = length_with_entry x es in (omega (arith, r.0), omega (arith, r.1))
      ]
    ]

-- A full node was split in two halves, and an entry is put into one of them.
module _ (low high rank : ℕ) (x : Entry) (es left right : List Entry) (up : Ascend low high es) (whole : left ++ right ≡ es)
    (left_len : length left ≡ least_of rank) (right_len : length right ≡ least_of rank)
    (l r : Node) (rank_left : l.rank ≡ rank) (rank_right : r.rank ≡ rank) where
  up_whole : Ascend low high (left ++ right)
  up_whole = subst (Ascend low high) (sym whole) up

  some_right : 0 < length right
  some_right = omega (arith, least_positive rank)

  head_is : (high : ℕ) → first_key right high ≡ (get_or right 0 blank).key
  head_is high = first_key_head right high blank some_right

  small : length left + 1 ≤ 252
  small = omega (arith, most_fits rank, most_is_twice_least rank, least_positive rank)

  pub put_left : x.key < (get_or right 0 blank).key → l.entries ≡ with_entry x left → r.entries ≡ right → Halved rank (get_or right 0 blank).key (with_entry x es) l r
  put_left less e f =
      let n : length l.entries ≡ length (with_entry x left) = ap (λ (xs : List Entry). length xs) e in
      let m : length r.entries ≡ length right = ap (λ (xs : List Entry). length xs) f in
      record {
        whole =
            ap (with_entry x) (sym whole)
            ∙ (sym (put_left_half low high x left right up_whole (omega (arith, head_is high))) ∙ (ap (λ xs. xs ++ right) (sym e) ∙ ap (λ xs. l.entries ++ xs) (sym f)));
        rank_left = rank_left;
        rank_right = rank_right;
        full_left = omega (arith, (length_with_entry x left).0);
        full_right = omega arith;
        fits_left = omega (arith, (length_with_entry x left).1, small);
        fits_right = omega (arith, small);
        between = λ high. ap (λ (xs : List Entry). first_key xs high) f ∙ head_is high;
      }

  pub put_right : (get_or right 0 blank).key ≤ x.key → l.entries ≡ left → r.entries ≡ with_entry x right → Halved rank (get_or right 0 blank).key (with_entry x es) l r
  put_right more e f =
      let n : length l.entries ≡ length left = ap (λ (xs : List Entry). length xs) e in
      let m : length r.entries ≡ length (with_entry x right) = ap (λ (xs : List Entry). length xs) f in
      record {
        whole =
            ap (with_entry x) (sym whole)
            ∙ (sym (put_right_half low high x left right up_whole (omega (arith, head_is high))) ∙ (ap (λ xs. xs ++ with_entry x right) (sym e) ∙ ap (λ xs. l.entries ++ xs) (sym f)));
        rank_left = rank_left;
        rank_right = rank_right;
        full_left = omega arith;
        full_right = omega (arith, (length_with_entry x right).0);
        fits_left = omega (arith, small);
        fits_right = omega (arith, (length_with_entry x right).1, small);
        between = λ high. ap (λ (xs : List Entry). first_key xs high) f ∙ (first_key_with_entry x right high some_right (omega (arith, head_is high)) ∙ head_is high);
      }

-- entries too many for one node are enough for two
pub enough_for_two : (rank n : ℕ) → most_of rank < n → 2 * least_of rank ≤ n
enough_for_two rank n h = omega (arith, most_is_twice_least rank)

-- ---- keys of a node whose part is refitted

pub refitting_ascend : (base k : ℕ) (s : Store) (low high : ℕ) (es : List Entry) (i at : ℕ) (part : Node) (opens held : List ℕ) → Refitting base k s low high es i at part opens held → Ascend low high es
refitting_ascend base k s low high es i at part opens held a =
    let from = (get_or es i blank).key in
    let to = first_key (drop (suc i) es) high in
    let behind : Ascend to high (drop (suc i) es) = shape_ascend base (suc k) s to high (drop (suc i) es) a.rest in
    subst (Ascend low high) (sym (around es i a.within))
    (ascend-append low from high (take i es) (get_or es i blank ∷ drop (suc i) es) (shape_ascend base (suc k) s low from (take i es) a.front)
    (omega arith, ascend_wider to (suc from) high (drop (suc i) es) (omega (arith, a.ordered)) behind))

pub refitted_ascend : (base k : ℕ) (s v : Store) (low high : ℕ) (es : List Entry) (i at : ℕ) (part : Node) (fs : List Entry) (opens held : List ℕ) → Refitted base k s v low high es i at part fs opens held → Ascend low high fs
refitted_ascend base k s v low high es i at part fs opens held a = shape_ascend base (suc k) v low high fs a.shape

-- of the entries of both parts
pub left_ascend : (base k : ℕ) (u : Store) (low high : ℕ) (es : List Entry) (j at : ℕ) (part : Node) (opens held : List ℕ) → Refitting base k u low high es (suc j) at part opens held → 0 < base + k
    → Ascend (get_or es j blank).key (first_key (drop (suc (suc j)) es) high) ((node_at u (get_or es j blank).value).entries ++ part.entries)
left_ascend base k u low high es j at part opens held a pos =
    let from = (get_or es j blank).key in
    let mid = (get_or es (suc j) blank).key in
    let to = first_key (drop (suc (suc j)) es) high in
    let L = (node_at u (get_or es j blank).value).entries in
    shape_ascend base k u from to (L ++ part.entries)
    (shape-append base k u from mid to L part.entries (tree_shape base k u from mid (get_or es j blank).value (left_tree base k u low high es j at part opens held a pos).0) a.shape)

pub right_ascend : (base k : ℕ) (u : Store) (low high : ℕ) (es : List Entry) (at : ℕ) (part : Node) (opens held : List ℕ) → Refitting base k u low high es zero at part opens held
    → Ascend (get_or es 0 blank).key (first_key (drop 2 es) high) (part.entries ++ (node_at u (get_or es 1 blank).value).entries)
right_ascend base k u low high [] at part opens held a = absurd (omega (arith, a.several))
right_ascend base k u low high (d ∷ []) at part opens held a = absurd (omega (arith, a.several))
right_ascend base k u low high (d ∷ e ∷ tl) at part opens held a =
    let to = first_key tl high in
    let R = (node_at u e.value).entries in
    shape_ascend base k u d.key to (part.entries ++ R) (shape-append base k u d.key e.key to part.entries R a.shape (tree_shape base k u e.key to e.value a.rest.2.0))

-- ---- references held while two parts are mended

pub left_room : (n j at : ℕ) (es part : List Entry) (opens held : List ℕ) → suc j < length es → length es ≤ 252 → length part ≤ 252 → HasRoomFor (n + 505) opens held
    → HasRoomFor n (at ∷ opens) (values part ++ (values (take j es) ++ (values (drop (suc (suc j)) es) ++ held)))
left_room n j at es part opens held within few few_too h =
    omega (
      arith,
      length-append (values part) (values (take j es) ++ (values (drop (suc (suc j)) es) ++ held)),
      length-append (values (take j es)) (values (drop (suc (suc j)) es) ++ held),
      length-append (values (drop (suc (suc j)) es)) held,
      length-values part,
      length-values (take j es),
      length-values (drop (suc (suc j)) es),
      length-take j es,
      length-drop (suc (suc j)) es,
    )

pub right_room : (n at : ℕ) (es part : List Entry) (opens held : List ℕ) → length es ≤ 252 → length part ≤ 252 → HasRoomFor (n + 505) opens held → HasRoomFor n (at ∷ opens) (values part ++ (values (drop 2 es) ++ held))
right_room n at es part opens held few few_too h =
    omega (arith, length-append (values part) (values (drop 2 es) ++ held), length-append (values (drop 2 es)) held, length-values part, length-values (drop 2 es), length-drop 2 es)
