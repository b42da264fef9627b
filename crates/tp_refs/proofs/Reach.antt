-- Live blocks are those that can be reached.
use Rattle.std.proofs.Common.{◌≡◌, ℕ, zero, suc, ◌+◌, ◌<◌, ◌≤◌, List, [], length, get_or, refl, sym, ap, ◌∙◌, arith, inl, inr, Bool, true, false, cond, rules}
use Rattle.std.specs.Prelude.{IsTrue}
use Rattle.std.proofs.lemmas.Bool.{cases_lt, false≢true}
use Rattle.tp_refs.specs.Store.{Store, count_of, kept_of, node_at, children}
use Rattle.tp_refs.specs.Balance.{occurrences, sum_below, counted, names_from, times_named, Balanced, KeptUnwritten}
use Rattle.tp_refs.specs.Reach.{Reached, root, below, HasTop, LiveIsReached, CountsAreTrue, Keeps, StopKeeps}
use Rattle.tp_refs.proofs.Sums.{some_term, sum_same}
use Rattle.tp_refs.proofs.Steps.{held_live, child_live, counted_live, counted_dead, frame_by_live}

pub counted_from : (n o x : ℕ) → 0 < counted n o x → (0 < n) × ((o ≡ 0) × (0 < x))
counted_from zero o x h = absurd (omega arith)
counted_from (suc n) zero x h = (omega arith, (refl, h))
counted_from (suc n) (suc o) x h = absurd (omega arith)

-- what names a block
pub namer : (s : Store) (b : ℕ) → 0 < times_named s [] b → (c : ℕ) × ((0 < count_of s c) × (0 < occurrences b (children (node_at s c))))
unfolding times_named
namer s b h =
    let r = some_term (names_from s [] b) (length s.counts) h in
    let d = counted_from (count_of s r.0) 0 (occurrences b (children (node_at s r.0))) r.1.1 in
    (r.0, (d.0, d.1.1))

climb : (s : Store) (held : List ℕ) (top : ℕ) → Balanced s [] held → HasTop s top → (fuel b : ℕ) → top ≤ fuel + (node_at s b).rank → 0 < count_of s b → Reached s held b
climb s held top h bound zero b far live = absurd (omega (arith, bound b))
climb s held top h bound (suc fuel) b far live =
    elim (cases_lt 0 (occurrences b held)) [
      | inl p ↦ root b p
      | inr z ↦
          let r = namer s b (omega (arith, h.true b)) in
          let l : (node_at s b).rank < (node_at s r.0).rank = (h.ranks r.0 b r.1.0 refl r.1.1).below in
          below r.0 b (climb s held top h bound fuel r.0 (omega arith) r.1.0) r.1.1
    ]

pub reached_live : (s : Store) (held : List ℕ) → Balanced s [] held → (b : ℕ) → Reached s held b → 0 < count_of s b
reached_live s held h _ (root b p) = held_live s [] held b h p
reached_live s held h _ (below b c r here) = child_live s [] held b c h (reached_live s held h b r) refl here

pub live_is_reached : LiveIsReached
live_is_reached s held top h bound b = (λ live. climb s held top h bound top b (omega arith) live, λ r. reached_live s held h b r)

is_true : (r : Bool) → IsTrue r → r ≡ true
is_true true q = refl
is_true false q = search (rules, q)

pub counts_are_true : CountsAreTrue
unfolding times_named
counts_are_true s held top h bound reached test b =
    let e : sum_below (names_from s [] b) (length s.counts) ≡ sum_below (λ c. cond (reached c) (occurrences b (children (node_at s c))) 0) (length s.counts) =
    sum_same (names_from s [] b) (λ c. cond (reached c) (occurrences b (children (node_at s c))) 0) (length s.counts) (λ c _. each c (reached c) refl) in
    omega (arith, h.true b)
  where
    each : (c : ℕ) (r : Bool) → reached c ≡ r → names_from s [] b c ≡ cond r (occurrences b (children (node_at s c))) 0
    each c true e =
        let q : IsTrue (reached c) = search (rules, e) in
        counted_live (count_of s c) 0 (occurrences b (children (node_at s c))) (reached_live s held h c ((test c).0 q)) refl
    each c false e =
        elim (cases_lt 0 (count_of s c)) [
          | inl live ↦
              let q : IsTrue (reached c) = (test c).1 (climb s held top h bound top c (omega arith) live) in
              absurd (false≢true (sym e ∙ is_true (reached c) q))
          | inr dead ↦ counted_dead (count_of s c) 0 (occurrences b (children (node_at s c))) (omega arith)
        ]

pub stop_keeps : StopKeeps
stop_keeps commit s image roots h keeps image_is =
    frame_by_live commit image [] roots h (λ c live _.
    let k : kept_of s c ≡ count_of commit c = ap (λ ks. get_or ks c 0) keeps.counts in
    image_is c (omega arith) ∙ keeps.nodes c (omega arith))

pub keeps_on : (commit s t : Store) → Keeps commit s → KeptUnwritten s t → Keeps commit t
keeps_on commit s t keeps step = record {
  counts = step.kept ∙ keeps.counts;
  nodes = λ b k.
      let same : kept_of t b ≡ kept_of s b = ap (λ ks. get_or ks b 0) step.kept in
      step.nodes b (omega arith) ∙ keeps.nodes b (omega arith);
}
