-- What each step of the store does to its balance.
use Rattle.std.proofs.Common.{◌≡◌, ◌≢◌, ℕ, zero, suc, ◌+◌, ◌<◌, ◌≤◌, List, [], ◌∷◌, ◌++◌, length, get_or, refl, sym, ap, subst, ◌∙◌, arith, inl, inr, get_or-set_other, get_or-set_same}
use Rattle.std.proofs.lemmas.Bool.{cases_lt}
use Rattle.std.proofs.lemmas.Bool.Decides.{nat_tests}
use Rattle.std.proofs.lemmas.List.{get_or_past}
use Rattle.tp_refs.specs.Store.{Store, count_of, node_at, children, with_count, no_node}
use Rattle.tp_refs.specs.Balance.{one_if_same, occurrences, sum_below, counted, names_from, times_named, Balanced, SameBelow, Frame}
use Rattle.tp_refs.proofs.Sums.{sum_same, sum_swap, term_le}

pub one_same : (x b : ℕ) → x ≡ b → one_if_same x b ≡ 1
unfolding one_if_same
one_same x b e = grind (arith, nat_tests)

pub one_other : (x b : ℕ) → x ≢ b → one_if_same x b ≡ 0
unfolding one_if_same
one_other x b e = grind (arith, nat_tests)

-- how often a block stands in two lists, one after the other
pub occurrences-append : (b : ℕ) (xs ys : List ℕ) → occurrences b (xs ++ ys) ≡ occurrences b xs + occurrences b ys
occurrences-append b [] ys = omega arith
occurrences-append b (x ∷ xs) ys = omega (arith, occurrences-append b xs ys)

-- a block with a count is one of the store's
pub live_below : (s : Store) (c : ℕ) → 0 < count_of s c → c < length s.counts
live_below s c h =
    elim (cases_lt c (length s.counts)) [
      | inl l ↦ l
      | inr g ↦ let e : get_or s.counts c 0 ≡ 0 = get_or_past s.counts c 0 g in absurd (omega arith)
    ]

pub count_same : (s : Store) (x n : ℕ) → x < length s.counts → count_of (with_count s x n) x ≡ n
count_same s x n h = get_or-set_same s.counts x n 0 h

pub count_other : (s : Store) (x n b : ℕ) → b ≢ x → count_of (with_count s x n) b ≡ count_of s b
count_other s x n b h = get_or-set_other s.counts x b n 0 h

pub counted_live : (n o x : ℕ) → 0 < n → o ≡ 0 → counted n o x ≡ x
counted_live zero o x h e = absurd (omega arith)
counted_live (suc n) zero x h e = refl
counted_live (suc n) (suc o) x h e = absurd (omega arith)

pub counted_dead : (n o x : ℕ) → n ≡ 0 → counted n o x ≡ 0
counted_dead zero o x h = refl
counted_dead (suc n) o x h = absurd (omega arith)

pub counted_open : (n o x : ℕ) → 0 < o → counted n o x ≡ 0
counted_open zero o x h = refl
counted_open (suc n) zero x h = absurd (omega arith)
counted_open (suc n) (suc o) x h = refl

-- what is counted depends on whether the count is 0
pub counted_alike : (n m o x : ℕ) → 0 < n → 0 < m → counted n o x ≡ counted m o x
counted_alike zero m o x h k = absurd (omega arith)
counted_alike (suc n) zero o x h k = absurd (omega arith)
counted_alike (suc n) (suc m) zero x h k = refl
counted_alike (suc n) (suc m) (suc o) x h k = refl

-- where no share changes, no sum does
pub times_named-same : (s t : Store) (os ps : List ℕ) (b : ℕ) → length t.counts ≡ length s.counts → ((c : ℕ) → names_from s os b c ≡ names_from t ps b c) → times_named s os b ≡ times_named t ps b
unfolding times_named
times_named-same s t os ps b l h = sum_same (names_from s os b) (names_from t ps b) (length s.counts) (λ i _. h i) ∙ ap (sum_below (names_from t ps b)) (sym l)

-- where one share changes, the sum does as much
pub times_named-swap : (s t : Store) (os ps : List ℕ) (b j : ℕ) → length t.counts ≡ length s.counts → j < length s.counts → ((c : ℕ) → c ≢ j → names_from s os b c ≡ names_from t ps b c) → times_named s os b + names_from t ps b j ≡ times_named t ps b + names_from s os b j
unfolding times_named
times_named-swap s t os ps b j l lt h =
    let e : sum_below (names_from t ps b) (length t.counts) ≡ sum_below (names_from t ps b) (length s.counts) = ap (sum_below (names_from t ps b)) l in
    let d : sum_below (names_from s os b) (length s.counts) + names_from t ps b j ≡ sum_below (names_from t ps b) (length s.counts) + names_from s os b j = sum_swap (names_from s os b) (names_from t ps b) (length s.counts) j lt h in
    omega arith

-- what a live node that is not open names is counted
pub times_named-least : (s : Store) (os : List ℕ) (b c : ℕ) → 0 < count_of s c → occurrences c os ≡ 0 → occurrences b (children (node_at s c)) ≤ times_named s os b
unfolding times_named
times_named-least s os b c live closed =
    let l : names_from s os b c ≤ sum_below (names_from s os b) (length s.counts) = term_le (names_from s os b) (length s.counts) c (live_below s c live) in
    let e : names_from s os b c ≡ occurrences b (children (node_at s c)) = counted_live (count_of s c) (occurrences c os) (occurrences b (children (node_at s c))) live closed in
    omega arith

-- a child of a live node that is not open is live and not open
pub child_live : (s : Store) (os hs : List ℕ) (b c : ℕ) → Balanced s os hs → 0 < count_of s b → occurrences b os ≡ 0 → 0 < occurrences c (children (node_at s b)) → 0 < count_of s c
child_live s os hs b c h live closed named_here =
    let l : occurrences c (children (node_at s b)) ≤ times_named s os c = times_named-least s os c b live closed in
    let e : count_of s c ≡ occurrences c os + occurrences c hs + times_named s os c = h.true c in
    omega arith

pub child_closed : (s : Store) (os hs : List ℕ) (b c : ℕ) → Balanced s os hs → 0 < count_of s b → occurrences b os ≡ 0 → 0 < occurrences c (children (node_at s b)) → occurrences c os ≡ 0
child_closed s os hs b c h live closed named_here =
    elim (cases_lt 0 (occurrences c os)) [
      | inl p ↦
          let l : occurrences c (children (node_at s b)) ≤ times_named s os c = times_named-least s os c b live closed in
          let e : count_of s c ≡ occurrences c os + occurrences c hs + times_named s os c = h.true c in
          let d : count_of s c ≡ 1 = h.private c p in
          absurd (omega arith)
      | inr z ↦ omega arith
    ]

-- a held block is live and not open
pub held_live : (s : Store) (os hs : List ℕ) (b : ℕ) → Balanced s os hs → 0 < occurrences b hs → 0 < count_of s b
held_live s os hs b h k = omega (arith, h.true b)

pub held_closed : (s : Store) (os hs : List ℕ) (b : ℕ) → Balanced s os hs → 0 < occurrences b hs → occurrences b os ≡ 0
held_closed s os hs b h k =
    elim (cases_lt 0 (occurrences b os)) [
      | inl p ↦ let e : count_of s b ≡ occurrences b os + occurrences b hs + times_named s os b = h.true b in let d : count_of s b ≡ 1 = h.private b p in absurd (omega arith)
      | inr z ↦ omega arith
    ]

-- an open block is live, and nothing else names it
pub open_unheld : (s : Store) (os hs : List ℕ) (b : ℕ) → Balanced s os hs → 0 < occurrences b os → occurrences b hs ≡ 0
open_unheld s os hs b h k = let e : count_of s b ≡ occurrences b os + occurrences b hs + times_named s os b = h.true b in let d : count_of s b ≡ 1 = h.private b k in omega arith

pub open_unnamed : (s : Store) (os hs : List ℕ) (b c : ℕ) → Balanced s os hs → 0 < occurrences b os → 0 < count_of s c → occurrences c os ≡ 0 → occurrences b (children (node_at s c)) ≡ 0
open_unnamed s os hs b c h k live closed =
    let e : count_of s b ≡ occurrences b os + occurrences b hs + times_named s os b = h.true b in
    let d : count_of s b ≡ 1 = h.private b k in
    let l : occurrences b (children (node_at s c)) ≤ times_named s os b = times_named-least s os b c live closed in
    omega arith

-- Where each live node that is not open stays as it is, so does what stands under the held blocks.
stays_below : (s t : Store) (os hs : List ℕ) → Balanced s os hs → ((c : ℕ) → 0 < count_of s c → occurrences c os ≡ 0 → node_at t c ≡ node_at s c) → (k b : ℕ) → 0 < count_of s b → occurrences b os ≡ 0 → SameBelow k s t b
stays_below s t os hs h stays zero b live closed = stays b live closed
stays_below s t os hs h stays (suc k) b live closed =
    (stays b live closed, λ c here. stays_below s t os hs h stays k c (child_live s os hs b c h live closed here) (child_closed s os hs b c h live closed here))

pub frame_by_live : (s t : Store) (os hs : List ℕ) → Balanced s os hs → ((c : ℕ) → 0 < count_of s c → occurrences c os ≡ 0 → node_at t c ≡ node_at s c) → Frame s t hs
frame_by_live s t os hs h stays r k here = stays_below s t os hs h stays k r (held_live s os hs r h here) (held_closed s os hs r h here)

-- two steps, one after the other
pub below_trans : (k : ℕ) (s t u : Store) (b : ℕ) → SameBelow k s t b → SameBelow k t u b → SameBelow k s u b
below_trans zero s t u b p q = q ∙ p
below_trans (suc k) s t u b p q =
    (q.0 ∙ p.0, λ c here. below_trans k s t u c (p.1 c here) (q.1 c (subst (λ n. 0 < occurrences c (children n)) (sym p.0) here)))

pub frame_trans : (s t u : Store) (hs : List ℕ) → Frame s t hs → Frame t u hs → Frame s u hs
frame_trans s t u hs p q r k here = below_trans k s t u r (p r k here) (q r k here)

pub frame_part : (s t : Store) (hs gs : List ℕ) → Frame s t hs → ((r : ℕ) → 0 < occurrences r gs → 0 < occurrences r hs) → Frame s t gs
frame_part s t hs gs p part r k here = p r k (part r here)

-- a store with the one_if_same nodes
pub frame_same : (s t : Store) (hs : List ℕ) → t.nodes ≡ s.nodes → Frame s t hs
frame_same s t hs e = λ r k _. go k r where
  go : (k b : ℕ) → SameBelow k s t b
  go zero b = ap (λ ns. get_or ns b no_node) e
  go (suc k) b = (ap (λ ns. get_or ns b no_node) e, λ c _. go k c)
