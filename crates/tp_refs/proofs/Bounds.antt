-- How great a count is.
use Rattle.std.proofs.Common.{◌≡◌, ℕ, zero, suc, ◌+◌, ◌*◌, ◌^◌, ◌<◌, ◌≤◌, List, [], ◌∷◌, length, refl, ap, arith, get_or-set_other, ◌∙◌}
use Rattle.std.proofs.Math.ListN.{length-set}
use Rattle.std.proofs.lemmas.Bool.Decides.{nat_tests}
use Rattle.tp_refs.specs.Store.{Node, Store, count_of, kept_of, node_at, children, with_node, no_node}
use Rattle.tp_refs.specs.Balance.{one_if_same, occurrences, sum_below, counted, names_from, times_named, Balanced, HasRoomFor, KeptUnwritten}
use Rattle.tp_refs.proofs.Sums.{sum_le}
use Rattle.tp_refs.proofs.Steps.{one_same, live_below, held_live}
use Rattle.tp_refs.proofs.Names.{length-named_by}

pub one_if_same_most : (x b : ℕ) → one_if_same x b ≤ 1
unfolding one_if_same
one_if_same_most x b = grind (arith, nat_tests)

pub occurrences_most : (b : ℕ) (xs : List ℕ) → occurrences b xs ≤ length xs
occurrences_most b [] = omega arith
occurrences_most b (x ∷ xs) = omega (arith, occurrences_most b xs, one_if_same_most x b)

counted_most : (n o x : ℕ) → counted n o x ≤ x
counted_most zero o x = omega arith
counted_most (suc n) zero x = omega arith
counted_most (suc n) (suc o) x = omega arith

-- a count is at most the number of references that there can be
pub count_most : (s : Store) (os hs : List ℕ) (b : ℕ) → Balanced s os hs → count_of s b ≤ length os + length hs + 252 * length s.counts
unfolding times_named
count_most s os hs b h =
    let each = λ (c : ℕ).
    let a : names_from s os b c ≤ occurrences b (children (node_at s c)) = counted_most (count_of s c) (occurrences c os) (occurrences b (children (node_at s c))) in
    let d : occurrences b (children (node_at s c)) ≤ length (children (node_at s c)) = occurrences_most b (children (node_at s c)) in
    let e : length (children (node_at s c)) ≤ length (node_at s c).entries = length-named_by (node_at s c).rank (node_at s c).entries in
    let f : length (node_at s c).entries ≤ 252 = h.small c in
    let z : names_from s os b c ≤ 252 = omega arith in z in
    let t : sum_below (names_from s os b) (length s.counts) ≤ 252 * length s.counts = sum_le (names_from s os b) (length s.counts) 252 each in
    omega (arith, h.true b, occurrences_most b os, occurrences_most b hs)

-- a held block is one of the store's, and its count may rise
pub held_below : (s : Store) (os hs : List ℕ) (b : ℕ) → Balanced s os (b ∷ hs) → b < length s.counts
held_below s os hs b h = live_below s b (held_live s os (b ∷ hs) b h (omega (arith, one_same b b refl)))

pub count_fits : (s : Store) (os hs : List ℕ) (b : ℕ) → Balanced s os hs → HasRoomFor 0 os hs → count_of s b + 1 < 2 ^ 32
count_fits s os hs b h room =
    let c : count_of s b ≤ length os + length hs + 252 * length s.counts = count_most s os hs b h in
    let m : length s.counts ≤ 2 ^ 21 = h.few in
    omega (arith, room)

-- a block that is written is none that the last commit names
pub unwritten : (s : Store) (x : ℕ) (n : Node) → kept_of s x ≡ 0 → KeptUnwritten s (with_node s x n)
unwritten s x n free = record {
  sized = length-set s.nodes x n;
  kept = refl;
  nodes = λ b k. get_or-set_other s.nodes x b n no_node (λ e. let z : kept_of s b ≡ 0 = ap (kept_of s) e ∙ free in absurd (omega arith));
}
