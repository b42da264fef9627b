-- A child that grew, in the node above it.
use Rattle.std.proofs.Common.{◌≡◌, ℕ, zero, suc, ◌+◌, ◌<◌, ◌^◌, List, [], ◌∷◌, length, get_or, set, drop, refl, sym, ap, subst, ◌∙◌, arith, None, get_or-set_same, get_or-set_other}
use Rattle.std.specs.List.Sorted.{IsStrictlyIncreasing}
use Rattle.tp_layout.specs.Node.{IsNode, NodeValue, keys}
use Rattle.tp_layout.specs.Entries.{Ascend, first_key, found}
use Rattle.tp_layout.specs.declared.entry.Entry.{Entry}
use Rattle.tp_layout.proofs.Ordered.{ascend_higher, found_none_at_rank, rank_of_between}
use Rattle.tp_nodes.proofs.GoodNodes.{ascend_node}
use Rattle.tp_trees.specs.Tree.{blank}
use Rattle.tp_trees.specs.Growth.{One, Two, branch}
use Rattle.tp_trees.proofs.Places.{length_set, traded_one, traded_two_put}
use Rattle.tp_btree.specs.Inserts.{IsBetween, with_new, with_traded}

keys_set : (es : List Entry) (i : ℕ) (x : Entry) → i < length es → x.key ≡ (get_or es i blank).key → keys (set es i x) ≡ keys es
keys_set [] i x w h = absurd (omega arith)
keys_set (e ∷ es) zero x w h = ap (λ k. k ∷ keys es) h
keys_set (e ∷ es) (suc i) x w h = ap (λ ks. e.key ∷ ks) (keys_set es i x (omega arith) h)

-- the keys ascend as before
pub exchanged_ascends : (n : NodeValue) (i : ℕ) (x : Entry) → IsNode n → i < length n.entries → x.key ≡ (get_or n.entries i blank).key → IsStrictlyIncreasing (keys (set n.entries i x))
exchanged_ascends n i x good w h = subst IsStrictlyIncreasing (sym (keys_set n.entries i x w h)) good.ascending

-- a key below what follows is below it also where nothing follows
first_below : (q high wide : ℕ) (es : List Entry) → q < first_key es high → q < wide → q < first_key es wide
first_below q high wide [] h l = l
first_below q high wide (e ∷ es) h l = h

-- one child stays one
pub whole_traded : (n v : NodeValue) (i c : ℕ) → i < length n.entries → v ≡ record n { entries = set n.entries i (branch (get_or n.entries i blank).key c) } → v ≡ with_traded i (One c) n
whole_traded n v i c w e = e ∙ ap (λ (es : List Entry). record n { entries = es }) (traded_one n.entries i c w)

first_drop : (es : List Entry) (j high : ℕ) → j < length es → first_key (drop j es) high ≡ (get_or es j blank).key
first_drop [] j high w = absurd (omega arith)
first_drop (e ∷ es) zero high w = refl
first_drop (e ∷ es) (suc j) high w = first_drop es j high (omega arith)

-- it became two
pub halves_traded : (n v : NodeValue) (i c middle d : ℕ) → IsNode n → i < length n.entries → IsBetween n.entries i (Two c middle d) → v ≡ record n { entries = set n.entries i (branch (get_or n.entries i blank).key c) }
    → with_new (branch middle d) v ≡ with_traded i (Two c middle d) n
halves_traded n v i c middle d good w b e =
    let wide = 2 ^ 64 + suc middle in
    ap (with_new (branch middle d)) e
    ∙ ap (λ (es : List Entry). record n { entries = es })
    (traded_two_put n.entries i c middle d 0 wide (ascend_higher 0 (2 ^ 64) wide n.entries (omega arith) (ascend_node n good)) w b.0 (first_below middle b.1 wide (drop (suc i) n.entries) b.2 (omega arith)))

-- the second part's key is new
pub middle_new : (n v : NodeValue) (i c middle d : ℕ) → IsNode v → i < length n.entries → IsBetween n.entries i (Two c middle d) → v ≡ record n { entries = set n.entries i (branch (get_or n.entries i blank).key c) }
    → found middle v.entries ≡ None
middle_new n v i c middle d good w b e =
    let x = branch (get_or n.entries i blank).key c in
    let es = set n.entries i x in
    let is : v.entries ≡ set n.entries i (branch (get_or n.entries i blank).key c) = ap (λ (y : NodeValue). y.entries) e in
    let up : Ascend 0 (2 ^ 64) (set n.entries i (branch (get_or n.entries i blank).key c)) = subst (Ascend 0 (2 ^ 64)) is (ascend_node v good) in
    let here : get_or (set n.entries i (branch (get_or n.entries i blank).key c)) i blank ≡ branch (get_or n.entries i blank).key c = get_or-set_same n.entries i x blank w in
    let key : (get_or (set n.entries i (branch (get_or n.entries i blank).key c)) i blank).key ≡ (get_or n.entries i blank).key = ap (λ (y : Entry). y.key) here in
    let more = λ (l : suc i < length es).
    let other : get_or (set n.entries i (branch (get_or n.entries i blank).key c)) (suc i) blank ≡ get_or n.entries (suc i) blank = get_or-set_other n.entries i (suc i) x blank (λ f. omega (arith, f)) in
    let k : (get_or (set n.entries i (branch (get_or n.entries i blank).key c)) (suc i) blank).key ≡ (get_or n.entries (suc i) blank).key = ap (λ (y : Entry). y.key) other in
    let z : middle < (get_or (set n.entries i (branch (get_or n.entries i blank).key c)) (suc i) blank).key = omega (arith, k, b.2, first_drop n.entries (suc i) b.1 (omega (arith, l, length_set n.entries i x))) in
    z in
    ap (found middle) is ∙ found_none_at_rank 0 (2 ^ 64) middle i blank es up
    (rank_of_between 0 (2 ^ 64) middle i blank es up (omega (arith, w, length_set n.entries i x)) (omega (arith, key, b.0)) more)
    (λ f. omega (arith, f, key, b.0))
