-- The references to the children of a node, one after another.
use Rattle.std.proofs.Common.{◌≡◌, ℕ, suc, ◌+◌, ◌*◌, ◌^◌, ◌<◌, ◌≤◌, List, ◌∷◌, ◌++◌, length, get_or, take, drop, refl, sym, ap, subst, ◌∙◌, arith, inl, inr, add-one, drop-cons, length-append}
use Rattle.std.proofs.lemmas.List.{length-take}
use Rattle.std.proofs.lemmas.Bool.{cases_eq}
use Rattle.tp_refs.specs.Store.{Store, count_of, node_at, children, with_count, no_node, MayName}
use Rattle.tp_refs.specs.Balance.{occurrences, Balanced, HasRoomFor, SameNodes}
use Rattle.tp_refs.proofs.Steps.{one_same, occurrences-append, child_live, child_closed, held_live, held_closed, live_below, count_same, count_other}
use Rattle.tp_refs.proofs.Moves.{shared, reordered}
use Rattle.tp_refs.proofs.Names.{occurrences_here, occurrences_front}
use Rattle.tp_refs.proofs.Bounds.{count_most}

-- Child i of a held block's node, where the children before it have one reference more.
module _ (t : Store) (os hs : List ℕ) (b i : ℕ) (ch : List ℕ) (h : Balanced t os (take i ch ++ b ∷ hs)) (is : children (node_at t b) ≡ ch) (within : i < length ch) where
  parent_here : 0 < occurrences b (take i ch ++ b ∷ hs)
  parent_here = omega (arith, occurrences-append b (take i ch) (b ∷ hs), one_same b b refl)

  named_here : 0 < occurrences (get_or ch i 0) (children (node_at t b))
  named_here = subst (λ xs. 0 < occurrences (get_or ch i 0) xs) (sym is) (occurrences_here ch i within)

  pub sharing_live : 0 < count_of t (get_or ch i 0)
  sharing_live = child_live t os (take i ch ++ b ∷ hs) b (get_or ch i 0) h (held_live t os (take i ch ++ b ∷ hs) b h parent_here) (held_closed t os (take i ch ++ b ∷ hs) b h parent_here) named_here

  pub sharing_below : get_or ch i 0 < length t.counts
  sharing_below = live_below t (get_or ch i 0) sharing_live

  pub sharing_room : HasRoomFor 300 os hs → length ch ≤ 252 → count_of t (get_or ch i 0) + 1 < 2 ^ 32
  sharing_room few most =
      let c : count_of t (get_or ch i 0) ≤ length os + length (take i ch ++ b ∷ hs) + 252 * length t.counts = count_most t os (take i ch ++ b ∷ hs) (get_or ch i 0) h in
      omega (arith, h.few, length-append (take i ch) (b ∷ hs), length-take i ch)

  pub sharing : Balanced (with_count t (get_or ch i 0) (count_of t (get_or ch i 0) + 1)) os (take (i + 1) ch ++ b ∷ hs)
  sharing =
      let s : Balanced (with_count t (get_or ch i 0) (count_of t (get_or ch i 0) + 1)) os (get_or ch i 0 ∷ (take i ch ++ b ∷ hs)) =
      shared t os (take i ch ++ b ∷ hs) (get_or ch i 0) h sharing_live (child_closed t os (take i ch ++ b ∷ hs) b (get_or ch i 0) h (held_live t os (take i ch ++ b ∷ hs) b h parent_here) (held_closed t os (take i ch ++ b ∷ hs) b h parent_here) named_here) in
      reordered _ os (get_or ch i 0 ∷ (take i ch ++ b ∷ hs)) (take (i + 1) ch ++ b ∷ hs)
      (λ x. rw add-one (omega (arith, occurrences-append x (take i ch) (b ∷ hs), occurrences-append x (take (suc i) ch) (b ∷ hs), occurrences_front x ch i within))) s

-- the references to the children that are left
pub releasing : (t : Store) (os hs : List ℕ) (i : ℕ) (ch : List ℕ) → Balanced t os (drop i ch ++ hs) → i < length ch → Balanced t os (get_or ch i 0 ∷ (drop (i + 1) ch ++ hs))
releasing t os hs i ch h within =
    subst (λ xs. Balanced t os (xs ++ hs)) (drop-cons ch i 0 within ∙ ap (λ n. get_or ch i 0 ∷ drop n ch) (sym (add-one i))) h

-- the rank of a child of a held block's node
pub child_rank : (s : Store) (os hs : List ℕ) (b i : ℕ) → Balanced s os (b ∷ hs) → i < length (children (node_at s b)) → MayName (node_at s b).rank (node_at s (get_or (children (node_at s b)) i 0)).rank
child_rank s os hs b i h within =
    h.ranks b (get_or (children (node_at s b)) i 0) (held_live s os (b ∷ hs) b h (omega (arith, one_same b b refl)))
    (held_closed s os (b ∷ hs) b h (omega (arith, one_same b b refl))) (occurrences_here (children (node_at s b)) i within)

pub same_refl : (s : Store) → SameNodes s s
same_refl s = record { nodes = refl; kept = refl }

pub same_trans : (s t u : Store) → SameNodes s t → SameNodes t u → SameNodes s u
same_trans s t u p q = record { nodes = q.nodes ∙ p.nodes; kept = q.kept ∙ p.kept }

-- the node in a block where no node was written
pub same_node : (s t : Store) → SameNodes s t → (b : ℕ) → node_at t b ≡ node_at s b
same_node s t p b = ap (λ ns. get_or ns b no_node) p.nodes

-- the counts where one rises, and where one falls
pub count_risen : (s : Store) (x : ℕ) → x < length s.counts → (b : ℕ) → count_of s b ≤ count_of (with_count s x (count_of s x + 1)) b
count_risen s x below b =
    elim (cases_eq b x) [
      | inl e ↦ let a : count_of (with_count s x (count_of s x + 1)) b ≡ count_of s x + 1 = ap (count_of (with_count s x (count_of s x + 1))) e ∙ count_same s x (count_of s x + 1) below in let d : count_of s b ≡ count_of s x = ap (count_of s) e in omega arith
      | inr d ↦ omega (arith, count_other s x (count_of s x + 1) b d)
    ]

pub count_fewer : (s : Store) (x n : ℕ) → x < length s.counts → n ≤ count_of s x → (b : ℕ) → count_of (with_count s x n) b ≤ count_of s b
count_fewer s x n below less b =
    elim (cases_eq b x) [
      | inl e ↦ let a : count_of (with_count s x n) b ≡ n = ap (count_of (with_count s x n)) e ∙ count_same s x n below in let d : count_of s b ≡ count_of s x = ap (count_of s) e in omega arith
      | inr d ↦ omega (arith, count_other s x n b d)
    ]
