-- Entries that are added one after another, as many as there is room for.
use Rattle.std.proofs.Common.{◌≡◌, ℕ, zero, suc, ◌+◌, ◌-◌, ◌<◌, ◌≤◌, List, [], ◌∷◌, ◌++◌, length, get_or, map, take, drop, refl, sym, ap, subst, ◌∙◌, arith, inl, inr, append_assoc, take-append-drop}
use Rattle.std.specs.Prelude.{Some, slice_get}
use Rattle.std.proofs.lemmas.Option.{gets}
use Rattle.std.proofs.lemmas.Bool.{cases_lt}
use Rattle.std.proofs.lemmas.Bool.Decides.{nat_tests}
use Rattle.std.proofs.lemmas.Grind.{common_steps}
use Rattle.std.proofs.lemmas.List.{append-nil, length-map, map-append, take-append-le, take-map}
use Rattle.tp_layout.specs.Entries.{Ascend, first_key}
use Rattle.tp_layout.specs.Entries as entries
use Rattle.tp_layout.proofs.Ordered.{rank_of_no, rank_of_yes}
use Rattle.tp_layout.specs.declared.entry.Entry.{Entry}
use Rattle.tp_layout.specs.declared.kind.TreeKind.{TreeKind}
use Rattle.tp_refs.proofs.Names.{take_whole}
use Rattle.tp_refs.specs.Store.{first_named, moved_by}
use Rattle.tp_trees.specs.Tree.{Parted, blank, joined}
use Rattle.tp_trees.proofs.Trees.{ascend_joined, joined-append, parted_split}
use Rattle.tp_btree.specs.Walks.{IsLonger, as_references, from_key}

pub longer_refl : (xs : List Entry) → IsLonger xs xs
longer_refl xs = ([], sym (append-nil xs))

pub longer_trans : (xs ys zs : List Entry) → IsLonger xs ys → IsLonger ys zs → IsLonger xs zs
longer_trans xs ys zs p q = (p.0 ++ q.0, q.1 ∙ (ap (λ l. l ++ q.0) p.1 ∙ append_assoc xs p.0 q.0))

-- ---- up to a length

take_on : {A : Type 0} (n : ℕ) (xs ys : List A) → take n (take n xs ++ ys) ≡ take n (xs ++ ys)
take_on zero xs ys = refl
take_on (suc n) [] ys = refl
take_on (suc n) (x ∷ xs) ys = ap (λ l. x ∷ l) (take_on n xs ys)

pub nothing_added : (n : ℕ) (xs : List Entry) → length xs ≤ n → xs ≡ take n (xs ++ [])
nothing_added n xs h = sym (take_whole n xs h) ∙ ap (take n) (sym (append-nil xs))

pub one_added : (n : ℕ) (xs : List Entry) (e : Entry) → length xs < n → xs ++ (e ∷ []) ≡ take n (xs ++ (e ∷ []))
one_added n xs e h = sym (take_whole n (xs ++ (e ∷ [])) (grind (arith, common_steps)))

pub no_room : {A : Type 0} (n : ℕ) (xs ys : List A) → length xs ≡ n → xs ≡ take n (xs ++ ys)
no_room n xs ys h = sym (take-append-le n xs ys (omega (arith, h)) ∙ take_whole n xs (omega (arith, h)))

pub filled_full : (n m : ℕ) (kind : TreeKind) (added old : List Entry) → length old ≡ n → as_references m kind old ≡ take n (as_references m kind old ++ added)
filled_full n m kind added old h = no_room n (as_references m kind old) added (length-map old (moved_by (first_named m kind 0)) ∙ h)

pub filled_nothing : (n m : ℕ) (kind : TreeKind) (added old : List Entry) → length old ≤ n → added ≡ [] → as_references m kind old ≡ take n (as_references m kind old ++ added)
filled_nothing n m kind added old h e =
    sym (take_whole n (as_references m kind old) (omega (arith, h, length-map old (moved_by (first_named m kind 0))))) ∙ ap (take n) (sym (append-nil (as_references m kind old)))
    ∙ ap (λ l. take n (as_references m kind old ++ l)) (sym e)

pub filled_on : (n : ℕ) (m : ℕ) (kind : TreeKind) (xs ys old mid new : List Entry) → as_references m kind mid ≡ take n (as_references m kind old ++ xs) → as_references m kind new ≡ take n (as_references m kind mid ++ ys)
    → as_references m kind new ≡ take n (as_references m kind old ++ (xs ++ ys))
filled_on n m kind xs ys old mid new p q =
    q ∙ (ap (λ l. take n (l ++ ys)) p ∙ (take_on n (as_references m kind old ++ xs) ys ∙ ap (take n) (append_assoc (as_references m kind old) xs ys)))

pub added_on : (n : ℕ) (xs ys old mid new : List Entry) → mid ≡ take n (old ++ xs) → new ≡ take n (mid ++ ys) → new ≡ take n (old ++ (xs ++ ys))
added_on n xs ys old mid new p q = q ∙ (ap (λ l. take n (l ++ ys)) p ∙ (take_on n (old ++ xs) ys ∙ ap (take n) (append_assoc old xs ys)))

-- ---- from a key on

pub from_yes : (q : ℕ) (e : Entry) (es : List Entry) → q ≤ e.key → from_key q (e ∷ es) ≡ e ∷ from_key q es
from_yes q e es h = grind (arith, nat_tests)

pub from_no : (q : ℕ) (e : Entry) (es : List Entry) → e.key < q → from_key q (e ∷ es) ≡ from_key q es
from_no q e es h = grind (arith, nat_tests)

pub from_key-append : (q : ℕ) (es fs : List Entry) → from_key q (es ++ fs) ≡ from_key q es ++ from_key q fs
from_key-append q [] fs = refl
from_key-append q (e ∷ es) fs =
    elim (cases_lt e.key q) [
      | inl l ↦ from_no q e (es ++ fs) l ∙ (from_key-append q es fs ∙ ap (λ l. l ++ from_key q fs) (sym (from_no q e es l)))
      | inr g ↦ from_yes q e (es ++ fs) g ∙ (ap (λ l. e ∷ l) (from_key-append q es fs) ∙ ap (λ l. l ++ from_key q fs) (sym (from_yes q e es g)))
    ]

pub from_key_moved : (q f : ℕ) (es : List Entry) → from_key q (map (moved_by f) es) ≡ map (moved_by f) (from_key q es)
from_key_moved q f [] = refl
from_key_moved q f (e ∷ es) =
    elim (cases_lt e.key q) [
      | inl l ↦ from_no q (moved_by f e) (map (moved_by f) es) l ∙ (from_key_moved q f es ∙ ap (map (moved_by f)) (sym (from_no q e es l)))
      | inr g ↦ from_yes q (moved_by f e) (map (moved_by f) es) g ∙ (ap (λ l. moved_by f e ∷ l) (from_key_moved q f es) ∙ ap (map (moved_by f)) (sym (from_yes q e es g)))
    ]

from_key_above : (low high q : ℕ) (es : List Entry) → Ascend low high es → high ≤ q → from_key q es ≡ []
from_key_above low high q [] h l = refl
from_key_above low high q (e ∷ es) h l = from_no q e es (omega (arith, l, ends (suc e.key) high es h.1)) ∙ from_key_above (suc e.key) high q es h.1 l
  where
    ends : (low high : ℕ) (es : List Entry) → Ascend low high es → low ≤ high
    ends low high [] h = h
    ends low high (d ∷ ds) h = omega (arith, h.0, ends (suc d.key) high ds h.1)

-- the entries of a leaf that were added, with their values as references
pub filled_leaf : (n m : ℕ) (kind : TreeKind) (q : ℕ) (es old new : List Entry) → new ≡ take n (old ++ from_key q es) → as_references m kind new ≡ take n (as_references m kind old ++ from_key q (as_references m kind es))
filled_leaf n m kind q es old new h =
    let f = moved_by (first_named m kind 0) in
    ap (map f) h ∙ (sym (take-map f n (old ++ from_key q es)) ∙ (ap (take n) (map-append f old (from_key q es)) ∙ ap (λ l. take n (map f old ++ l)) (sym (from_key_moved q (first_named m kind 0) es))))

-- ---- entry by entry

pub take_next : (es : List Entry) (i : ℕ) → i < length es → take (suc i) es ≡ take i es ++ (get_or es i blank ∷ [])
take_next [] i h = absurd (omega arith)
take_next (e ∷ es) zero h = refl
take_next (e ∷ es) (suc i) h = ap (λ l. e ∷ l) (take_next es i (omega arith))

entry_is : (es : List Entry) (i : ℕ) (e : Entry) → slice_get es i ≡ Some e → get_or es i blank ≡ e
entry_is es i e h = grind (arith, gets)

pub next_one : (q i : ℕ) (es : List Entry) (e : Entry) → i < length es → slice_get es i ≡ Some e → from_key q (take (i + 1) es) ≡ from_key q (take i es) ++ from_key q (e ∷ [])
next_one q i es e w at =
    let k : i + 1 ≡ suc i = omega arith in
    ap (λ n. from_key q (take n es)) k ∙ (ap (from_key q) (take_next es i w) ∙ (from_key-append q (take i es) (get_or es i blank ∷ [])
    ∙ ap (λ x. from_key q (take i es) ++ from_key q (x ∷ [])) (entry_is es i e at)))

pub skipped : (n q : ℕ) (old : List Entry) (e : Entry) → length old ≤ n → e.key < q → old ≡ take n (old ++ from_key q (e ∷ []))
skipped n q old e h l = nothing_added n old h ∙ ap (λ l. take n (old ++ l)) (sym (from_no q e [] l))

pub pushed : (n q : ℕ) (old new : List Entry) (e : Entry) → length old < n → q ≤ e.key → new ≡ old ++ (e ∷ []) → new ≡ take n (old ++ from_key q (e ∷ []))
pushed n q old new e h g p = p ∙ (one_added n old e h ∙ ap (λ l. take n (old ++ l)) (sym (from_yes q e [] g)))

-- ---- child by child

pub next_child : (f : ℕ → List Entry) (q i : ℕ) (es : List Entry) → i < length es → from_key q (joined f (take (i + 1) es)) ≡ from_key q (joined f (take i es)) ++ from_key q (f (get_or es i blank).value)
next_child f q i es w =
    let k : i + 1 ≡ suc i = omega arith in
    ap (λ n. from_key q (joined f (take n es))) k ∙ (ap (λ l. from_key q (joined f l)) (take_next es i w) ∙ (ap (from_key q) (joined-append f (take i es) (get_or es i blank ∷ []))
    ∙ (from_key-append q (joined f (take i es)) (f (get_or es i blank).value ++ []) ∙ ap (λ l. from_key q (joined f (take i es)) ++ from_key q l) (append-nil (f (get_or es i blank).value)))))

-- the key of the entry that a key leads to is at most that
key_at : (q i : ℕ) (es : List Entry) → entries.rank_of q es ≡ suc i → (high : ℕ) → first_key (drop i es) high ≤ q
key_at q i [] at high = absurd (omega (arith, at))
key_at q zero (e ∷ es) at high =
    elim (cases_lt q e.key) [
      | inl l ↦ absurd (omega (arith, at, rank_of_no q e es l))
      | inr g ↦ g
    ]
key_at q (suc i) (e ∷ es) at high =
    elim (cases_lt q e.key) [
      | inl l ↦ absurd (omega (arith, at, rank_of_no q e es l))
      | inr g ↦ key_at q i es (omega (arith, at, rank_of_yes q e es g)) high
    ]

-- the children before the one that the key leads to have nothing from there on
pub none_before : (P : ℕ → ℕ → ℕ → Type 0) (f : ℕ → List Entry) (low high q r : ℕ) (es : List Entry) → ((from to c : ℕ) → P from to c → Ascend from to (f c)) → Parted P low high es
    → entries.rank_of q es ≡ r → from_key q (joined f (take (r - 1) es)) ≡ []
none_before P f low high q zero es up parted at = refl
none_before P f low high q (suc i) es up parted at =
    let j : suc i - 1 ≡ i = omega arith in
    let key = key_at q i es at in
    let two = parted_split P low high (take i es) (drop i es) (subst (λ l. Parted P low high l) (sym (take-append-drop i es)) parted) in
    ap (λ n. from_key q (joined f (take n es))) j ∙ from_key_above low (first_key (drop i es) high) q (joined f (take i es)) (ascend_joined P f low (first_key (drop i es) high) (take i es) up two.0) (key high)
