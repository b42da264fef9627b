-- Each change of a count or a node, and what it does to the balance.
use Rattle.std.proofs.Common.{◌≡◌, ◌≢◌, ℕ, ◌+◌, ◌<◌, ◌≤◌, List, [], ◌∷◌, ◌++◌, length, set, refl, sym, ap, subst, ◌∙◌, arith, inl, inr, get_or-set_other, get_or-set_same}
use Rattle.std.proofs.Math.ListN.{length-set}
use Rattle.std.proofs.lemmas.Bool.{cases_eq}
use Rattle.tp_refs.specs.Store.{Node, Store, count_of, kept_of, node_at, children, with_count, with_node, no_node, MayName}
use Rattle.tp_refs.specs.Balance.{one_if_same, occurrences, counted, names_from, times_named, Balanced, Frame}
use Rattle.tp_refs.proofs.Steps.{one_same, one_other, occurrences-append, live_below, count_same, count_other, counted_live, counted_dead, counted_open, counted_alike, times_named-same, times_named-swap, held_closed, open_unheld, open_unnamed, frame_by_live}

-- A live block that is not open gets one more reference.
pub shared : (s : Store) (os hs : List ℕ) (x : ℕ) → Balanced s os hs → 0 < count_of s x → occurrences x os ≡ 0 → Balanced (with_count s x (count_of s x + 1)) os (x ∷ hs)
shared s os hs x h live closed =
    let below : x < length s.counts = live_below s x live in
    let at : count_of (with_count s x (count_of s x + 1)) x ≡ count_of s x + 1 = count_same s x (count_of s x + 1) below in
    let len : length (set s.counts x (count_of s x + 1)) ≡ length s.counts = length-set s.counts x (count_of s x + 1) in
    let alike = λ (b c : ℕ). elim (cases_eq c x) as (λ _. names_from s os b c ≡ names_from (with_count s x (count_of s x + 1)) os b c) [
      | inl e ↦ counted_alike (count_of s c) (count_of (with_count s x (count_of s x + 1)) c) (occurrences c os) (occurrences b (children (node_at s c)))
          (subst (λ d. 0 < count_of s d) (sym e) live)
          (subst (λ d. 0 < count_of (with_count s x (count_of s x + 1)) d) (sym e) (omega arith))
      | inr d ↦ ap (λ n. counted n (occurrences c os) (occurrences b (children (node_at s c)))) (sym (count_other s x (count_of s x + 1) c d))
    ] in
    let sums = λ (b : ℕ). times_named-same s (with_count s x (count_of s x + 1)) os os b len (alike b) in
    record {
      sized = omega (arith, h.sized);
      sized_kept = h.sized_kept ∙ sym len;
      few = omega (arith, h.few);
      small = h.small;
      true = λ b. elim (cases_eq b x) [
        | inl e ↦
            let a : count_of (with_count s x (count_of s x + 1)) b ≡ count_of s b + 1 = subst (λ d. count_of (with_count s x (count_of s x + 1)) d ≡ count_of s d + 1) (sym e) at in
            let o : one_if_same x b ≡ 1 = one_same x b (sym e) in
            omega (arith, h.true b, sums b)
        | inr d ↦
            let a : count_of (with_count s x (count_of s x + 1)) b ≡ count_of s b = count_other s x (count_of s x + 1) b d in
            let o : one_if_same x b ≡ 0 = one_other x b (λ e. d (sym e)) in
            omega (arith, h.true b, sums b)
      ];
      private = λ b k. count_other s x (count_of s x + 1) b (λ e. absurd (let z : occurrences b os ≡ 0 = ap (λ d. occurrences d os) e ∙ closed in omega arith)) ∙ h.private b k;
      unkept = h.unkept;
      ranks = λ b c live2 closed2 here. h.ranks b c (elim (cases_eq b x) [ inl e ↦ subst (λ d. 0 < count_of s d) (sym e) live | inr d ↦ subst (λ n. 0 < n) (count_other s x (count_of s x + 1) b d) live2 ]) closed2 here;
    }

-- One of several references to a block goes.
pub let_go : (s : Store) (os hs : List ℕ) (x n : ℕ) → Balanced s os (x ∷ hs) → count_of s x ≡ n + 1 → 0 < n → Balanced (with_count s x n) os hs
let_go s os hs x n h is more =
    let held : one_if_same x x ≡ 1 = one_same x x refl in
    let live : 0 < count_of s x = omega arith in
    let below : x < length s.counts = live_below s x live in
    let at : count_of (with_count s x n) x ≡ n = count_same s x n below in
    let len : length (set s.counts x n) ≡ length s.counts = length-set s.counts x n in
    let alike = λ (b c : ℕ). elim (cases_eq c x) as (λ _. names_from s os b c ≡ names_from (with_count s x n) os b c) [
      | inl e ↦ counted_alike (count_of s c) (count_of (with_count s x n) c) (occurrences c os) (occurrences b (children (node_at s c)))
          (subst (λ d. 0 < count_of s d) (sym e) live)
          (subst (λ d. 0 < count_of (with_count s x n) d) (sym e) (omega arith))
      | inr d ↦ ap (λ m. counted m (occurrences c os) (occurrences b (children (node_at s c)))) (sym (count_other s x n c d))
    ] in
    let sums = λ (b : ℕ). times_named-same s (with_count s x n) os os b len (alike b) in
    let closed : occurrences x os ≡ 0 = held_closed s os (x ∷ hs) x h (omega arith) in
    record {
      sized = omega (arith, h.sized);
      sized_kept = h.sized_kept ∙ sym len;
      few = omega (arith, h.few);
      small = h.small;
      true = λ b. elim (cases_eq b x) [
        | inl e ↦
            let a : count_of (with_count s x n) b ≡ n = subst (λ d. count_of (with_count s x n) d ≡ n) (sym e) at in
            let i : count_of s b ≡ n + 1 = subst (λ d. count_of s d ≡ n + 1) (sym e) is in
            let o : one_if_same x b ≡ 1 = one_same x b (sym e) in
            omega (arith, h.true b, sums b)
        | inr d ↦
            let a : count_of (with_count s x n) b ≡ count_of s b = count_other s x n b d in
            let o : one_if_same x b ≡ 0 = one_other x b (λ e. d (sym e)) in
            omega (arith, h.true b, sums b)
      ];
      private = λ b k. count_other s x n b (λ e. absurd (let z : occurrences b os ≡ 0 = ap (λ d. occurrences d os) e ∙ closed in omega arith)) ∙ h.private b k;
      unkept = h.unkept;
      ranks = λ b c live2 closed2 here. h.ranks b c (elim (cases_eq b x) [ inl e ↦ subst (λ d. 0 < count_of s d) (sym e) live | inr d ↦ subst (λ m. 0 < m) (count_other s x n b d) live2 ]) closed2 here;
    }

-- The last reference to a block goes: its entries' references pass to the holder.
pub last_gone : (s : Store) (os hs : List ℕ) (x : ℕ) → Balanced s os (x ∷ hs) → count_of s x ≡ 1 → Balanced (with_count s x 0) os (children (node_at s x) ++ hs)
last_gone s os hs x h is =
    let held : one_if_same x x ≡ 1 = one_same x x refl in
    let live : 0 < count_of s x = omega arith in
    let below : x < length s.counts = live_below s x live in
    let at : count_of (with_count s x 0) x ≡ 0 = count_same s x 0 below in
    let len : length (set s.counts x 0) ≡ length s.counts = length-set s.counts x 0 in
    let closed : occurrences x os ≡ 0 = held_closed s os (x ∷ hs) x h (omega arith) in
    let alike = λ (b c : ℕ) (d : c ≢ x). ap (λ m. counted m (occurrences c os) (occurrences b (children (node_at s c)))) (sym (count_other s x 0 c d)) in
    let sums = λ (b : ℕ). times_named-swap s (with_count s x 0) os os b x len below (alike b) in
    let was = λ (b : ℕ). counted_live (count_of s x) (occurrences x os) (occurrences b (children (node_at s x))) live closed in
    let now = λ (b : ℕ). counted_dead (count_of (with_count s x 0) x) (occurrences x os) (occurrences b (children (node_at s x))) at in
    record {
      sized = omega (arith, h.sized);
      sized_kept = h.sized_kept ∙ sym len;
      few = omega (arith, h.few);
      small = h.small;
      true = λ b. elim (cases_eq b x) [
        | inl e ↦
            let a : count_of (with_count s x 0) b ≡ 0 = subst (λ d. count_of (with_count s x 0) d ≡ 0) (sym e) at in
            let i : count_of s b ≡ 1 = subst (λ d. count_of s d ≡ 1) (sym e) is in
            let o : one_if_same x b ≡ 1 = one_same x b (sym e) in
            omega (arith, h.true b, sums b, was b, now b, occurrences-append b (children (node_at s x)) hs)
        | inr d ↦
            let a : count_of (with_count s x 0) b ≡ count_of s b = count_other s x 0 b d in
            let o : one_if_same x b ≡ 0 = one_other x b (λ e. d (sym e)) in
            omega (arith, h.true b, sums b, was b, now b, occurrences-append b (children (node_at s x)) hs)
      ];
      private = λ b k. count_other s x 0 b (λ e. absurd (let z : occurrences b os ≡ 0 = ap (λ d. occurrences d os) e ∙ closed in omega arith)) ∙ h.private b k;
      unkept = h.unkept;
      ranks = λ b c live2 closed2 here. h.ranks b c (elim (cases_eq b x) [ inl e ↦ absurd (let z : count_of (with_count s x 0) b ≡ 0 = subst (λ d. count_of (with_count s x 0) d ≡ 0) (sym e) at in omega arith) | inr d ↦ subst (λ m. 0 < m) (count_other s x 0 b d) live2 ]) closed2 here;
    }

-- The only reference to a block that the last commit does not name: the block may be opened.
pub opened : (s : Store) (os hs : List ℕ) (x : ℕ) → Balanced s os (x ∷ hs) → count_of s x ≡ 1 → kept_of s x ≡ 0 → Balanced s (x ∷ os) (children (node_at s x) ++ hs)
opened s os hs x h is free =
    let held : one_if_same x x ≡ 1 = one_same x x refl in
    let live : 0 < count_of s x = omega arith in
    let below : x < length s.counts = live_below s x live in
    let closed : occurrences x os ≡ 0 = held_closed s os (x ∷ hs) x h (omega arith) in
    let alike = λ (b c : ℕ) (d : c ≢ x). ap (λ m. counted (count_of s c) m (occurrences b (children (node_at s c)))) (let o : one_if_same x c ≡ 0 = one_other x c (λ e. d (sym e)) in omega arith) in
    let sums = λ (b : ℕ). times_named-swap s s os (x ∷ os) b x refl below (alike b) in
    let was = λ (b : ℕ). counted_live (count_of s x) (occurrences x os) (occurrences b (children (node_at s x))) live closed in
    let now = λ (b : ℕ). counted_open (count_of s x) (occurrences x (x ∷ os)) (occurrences b (children (node_at s x))) (omega arith) in
    record {
      sized = h.sized;
      sized_kept = h.sized_kept;
      few = h.few;
      small = h.small;
      true = λ b. omega (arith, h.true b, sums b, was b, now b, occurrences-append b (children (node_at s x)) hs);
      private = λ b k. elim (cases_eq b x) [ inl e ↦ ap (count_of s) e ∙ is | inr d ↦ h.private b (let o : one_if_same x b ≡ 0 = one_other x b (λ e. d (sym e)) in omega arith) ];
      unkept = λ b k. elim (cases_eq b x) [ inl e ↦ ap (kept_of s) e ∙ free | inr d ↦ h.unkept b (let o : one_if_same x b ≡ 0 = one_other x b (λ e. d (sym e)) in omega arith) ];
      ranks = λ b c live2 closed2 here. h.ranks b c live2 (omega arith) here;
    }

-- A block that is free now and at the last commit is taken, and is open.
pub taken : (s : Store) (os hs : List ℕ) (x : ℕ) → Balanced s os hs → count_of s x ≡ 0 → kept_of s x ≡ 0 → x < length s.counts → Balanced (with_count s x 1) (x ∷ os) hs
taken s os hs x h is free below =
    let at : count_of (with_count s x 1) x ≡ 1 = count_same s x 1 below in
    let len : length (set s.counts x 1) ≡ length s.counts = length-set s.counts x 1 in
    let me : one_if_same x x ≡ 1 = one_same x x refl in
    let mine : occurrences x os + occurrences x hs + times_named s os x ≡ 0 = sym (h.true x) ∙ is in
    let alike = λ (b c : ℕ). elim (cases_eq c x) as (λ _. names_from s os b c ≡ names_from (with_count s x 1) (x ∷ os) b c) [
      | inl e ↦
          counted_dead (count_of s c) (occurrences c os) (occurrences b (children (node_at s c))) (ap (count_of s) e ∙ is)
          ∙ sym (counted_open (count_of (with_count s x 1) c) (occurrences c (x ∷ os)) (occurrences b (children (node_at s c))) (let o : one_if_same x c ≡ 1 = one_same x c (sym e) in omega arith))
      | inr d ↦
          ap (λ m. counted m (occurrences c os) (occurrences b (children (node_at s c)))) (sym (count_other s x 1 c d))
          ∙ ap (λ m. counted (count_of (with_count s x 1) c) m (occurrences b (children (node_at s c)))) (let o : one_if_same x c ≡ 0 = one_other x c (λ e. d (sym e)) in omega arith)
    ] in
    let sums = λ (b : ℕ). times_named-same s (with_count s x 1) os (x ∷ os) b len (alike b) in
    record {
      sized = omega (arith, h.sized);
      sized_kept = h.sized_kept ∙ sym len;
      few = omega (arith, h.few);
      small = h.small;
      true = λ b. elim (cases_eq b x) [
        | inl e ↦
            let a : count_of (with_count s x 1) b ≡ 1 = subst (λ d. count_of (with_count s x 1) d ≡ 1) (sym e) at in
            let i : count_of s b ≡ 0 = subst (λ d. count_of s d ≡ 0) (sym e) is in
            let o : one_if_same x b ≡ 1 = one_same x b (sym e) in
            omega (arith, h.true b, sums b)
        | inr d ↦
            let a : count_of (with_count s x 1) b ≡ count_of s b = count_other s x 1 b d in
            let o : one_if_same x b ≡ 0 = one_other x b (λ e. d (sym e)) in
            omega (arith, h.true b, sums b)
      ];
      private = λ b k. elim (cases_eq b x) [
        | inl e ↦ ap (count_of (with_count s x 1)) e ∙ at
        | inr d ↦ count_other s x 1 b d ∙ h.private b (let o : one_if_same x b ≡ 0 = one_other x b (λ e. d (sym e)) in omega arith)
      ];
      unkept = λ b k. elim (cases_eq b x) [ inl e ↦ ap (kept_of s) e ∙ free | inr d ↦ h.unkept b (let o : one_if_same x b ≡ 0 = one_other x b (λ e. d (sym e)) in omega arith) ];
      ranks = λ b c live2 closed2 here.
          let d = λ (e : b ≡ x). let o : one_if_same x b ≡ 1 = one_same x b (sym e) in let z : ⊥ = omega arith in z in
          h.ranks b c (subst (λ m. 0 < m) (count_other s x 1 b d) live2) (omega arith) here;
    }

-- An open block is given up without being written: it is free after the next commit, or at once.
pub abandoned : (s : Store) (os hs : List ℕ) (x : ℕ) → Balanced s (x ∷ os) hs → Balanced (with_count s x 0) os hs
abandoned s os hs x h =
    let me : one_if_same x x ≡ 1 = one_same x x refl in
    let is : count_of s x ≡ 1 = h.private x (omega arith) in
    let below : x < length s.counts = live_below s x (omega arith) in
    let at : count_of (with_count s x 0) x ≡ 0 = count_same s x 0 below in
    let len : length (set s.counts x 0) ≡ length s.counts = length-set s.counts x 0 in
    let once : occurrences x os ≡ 0 = omega (arith, h.true x) in
    let alike = λ (b c : ℕ). elim (cases_eq c x) as (λ _. names_from s (x ∷ os) b c ≡ names_from (with_count s x 0) os b c) [
      | inl e ↦
          let o : one_if_same x c ≡ 1 = one_same x c (sym e) in
          counted_open (count_of s c) (occurrences c (x ∷ os)) (occurrences b (children (node_at s c))) (omega arith)
          ∙ sym (counted_dead (count_of (with_count s x 0) c) (occurrences c os) (occurrences b (children (node_at s c))) (ap (count_of (with_count s x 0)) e ∙ at))
      | inr d ↦
          let o : one_if_same x c ≡ 0 = one_other x c (λ e. d (sym e)) in
          let z : occurrences c (x ∷ os) ≡ occurrences c os = omega arith in
          ap (λ m. counted m (occurrences c (x ∷ os)) (occurrences b (children (node_at s c)))) (sym (count_other s x 0 c d))
          ∙ ap (λ m. counted (count_of (with_count s x 0) c) m (occurrences b (children (node_at s c)))) z
    ] in
    let sums = λ (b : ℕ). times_named-same s (with_count s x 0) (x ∷ os) os b len (alike b) in
    record {
      sized = omega (arith, h.sized);
      sized_kept = h.sized_kept ∙ sym len;
      few = omega (arith, h.few);
      small = h.small;
      true = λ b. elim (cases_eq b x) [
        | inl e ↦
            let a : count_of (with_count s x 0) b ≡ 0 = subst (λ d. count_of (with_count s x 0) d ≡ 0) (sym e) at in
            let i : count_of s b ≡ 1 = subst (λ d. count_of s d ≡ 1) (sym e) is in
            let o : one_if_same x b ≡ 1 = one_same x b (sym e) in
            omega (arith, h.true b, sums b)
        | inr d ↦
            let a : count_of (with_count s x 0) b ≡ count_of s b = count_other s x 0 b d in
            let o : one_if_same x b ≡ 0 = one_other x b (λ e. d (sym e)) in
            omega (arith, h.true b, sums b)
      ];
      private = λ b k. count_other s x 0 b (λ e. absurd (let z : occurrences b os ≡ 0 = ap (λ d. occurrences d os) e ∙ once in omega arith)) ∙ h.private b (omega arith);
      unkept = λ b k. h.unkept b (omega arith);
      ranks = λ b c live2 closed2 here. elim (cases_eq b x) [
        | inl e ↦ absurd (let z : count_of (with_count s x 0) b ≡ 0 = subst (λ d. count_of (with_count s x 0) d ≡ 0) (sym e) at in omega arith)
        | inr d ↦ h.ranks b c (subst (λ m. 0 < m) (count_other s x 0 b d) live2) (let o : one_if_same x b ≡ 0 = one_other x b (λ e. d (sym e)) in omega arith) here
      ];
    }

-- An open block is written, and closed: what its entries name is no longer held.
pub written : (s : Store) (os hs : List ℕ) (x : ℕ) (n : Node) → Balanced s (x ∷ os) (children n ++ hs) → x < length s.nodes → length n.entries ≤ 252 → ((c : ℕ) → 0 < occurrences c (children n) → MayName n.rank (node_at s c).rank) → Balanced (with_node s x n) os (x ∷ hs)
written s os hs x n h inside fits falls =
    let me : one_if_same x x ≡ 1 = one_same x x refl in
    let is : count_of s x ≡ 1 = h.private x (omega arith) in
    let below : x < length s.counts = live_below s x (omega arith) in
    let len : length (set s.nodes x n) ≡ length s.nodes = length-set s.nodes x n in
    let at : node_at (with_node s x n) x ≡ n = get_or-set_same s.nodes x n no_node inside in
    let other = λ (c : ℕ) (d : c ≢ x). get_or-set_other s.nodes x c n no_node d in
    let once : occurrences x os ≡ 0 = omega (arith, h.true x) in
    let alike = λ (b c : ℕ) (d : c ≢ x).
    ap (λ m. counted (count_of s c) m (occurrences b (children (node_at s c)))) (let o : one_if_same x c ≡ 0 = one_other x c (λ e. d (sym e)) in let z : occurrences c (x ∷ os) ≡ occurrences c os = omega arith in z)
    ∙ ap (λ m. counted (count_of s c) (occurrences c os) (occurrences b (children m))) (sym (other c d)) in
    let sums = λ (b : ℕ). times_named-swap s (with_node s x n) (x ∷ os) os b x refl below (alike b) in
    let was = λ (b : ℕ). counted_open (count_of s x) (occurrences x (x ∷ os)) (occurrences b (children (node_at s x))) (omega arith) in
    let now = λ (b : ℕ). counted_live (count_of s x) (occurrences x os) (occurrences b (children (node_at (with_node s x n) x))) (omega arith) once ∙ ap (λ m. occurrences b (children m)) at in
    let held_x : occurrences x (children n ++ hs) ≡ 0 = open_unheld s (x ∷ os) (children n ++ hs) x h (omega arith) in
    record {
      sized = omega (arith, h.sized);
      sized_kept = h.sized_kept;
      few = h.few;
      small = λ b. elim (cases_eq b x) [
        | inl e ↦ subst (λ (m : Node). length m.entries ≤ 252) (sym (ap (node_at (with_node s x n)) e ∙ at)) fits
        | inr d ↦ subst (λ (m : Node). length m.entries ≤ 252) (sym (other b d)) (h.small b)
      ];
      true = λ b. omega (arith, h.true b, sums b, was b, now b, occurrences-append b (children n) hs);
      private = λ b k. h.private b (omega arith);
      unkept = λ b k. h.unkept b (omega arith);
      ranks = λ b c live closed here. elim (cases_eq b x) [
        | inl e ↦
            let here2 : 0 < occurrences c (children n) = subst (λ m. 0 < occurrences c (children m)) (ap (node_at (with_node s x n)) e ∙ at) here in
            let d = λ (f : c ≡ x). let z : occurrences c (children n) ≡ 0 = subst (λ y. occurrences y (children n) ≡ 0) (sym f) (omega (arith, occurrences-append x (children n) hs)) in let y : ⊥ = omega arith in y in
            subst (λ m. MayName (node_at (with_node s x n) b).rank m.rank) (sym (other c d))
            (subst (λ m. MayName m.rank (node_at s c).rank) (sym (ap (node_at (with_node s x n)) e ∙ at)) (falls c here2))
        | inr d ↦
            let here2 : 0 < occurrences c (children (node_at s b)) = subst (λ m. 0 < occurrences c (children m)) (other b d) here in
            let closed2 : occurrences b (x ∷ os) ≡ 0 = (let o : one_if_same x b ≡ 0 = one_other x b (λ e. d (sym e)) in omega arith) in
            let f = λ (e : c ≡ x).
            let z : occurrences x (children (node_at s b)) ≡ 0 = open_unnamed s (x ∷ os) (children n ++ hs) x b h (omega arith) live closed2 in
            let y : occurrences c (children (node_at s b)) ≡ 0 = ap (λ m. occurrences m (children (node_at s b))) e ∙ z in
            let v : ⊥ = omega arith in v in
            subst (λ m. MayName (node_at (with_node s x n) b).rank m.rank) (sym (other c f))
            (subst (λ m. MayName m.rank (node_at s c).rank) (sym (other b d)) (h.ranks b c live closed2 here2))
      ];
    }

-- What stands under the held blocks is as it was when an open block is written.
pub written_frame : (s : Store) (os hs : List ℕ) (x : ℕ) (n : Node) → Balanced s (x ∷ os) hs → Frame s (with_node s x n) hs
written_frame s os hs x n h =
    frame_by_live s (with_node s x n) (x ∷ os) hs h (λ c live closed. get_or-set_other s.nodes x c n no_node (λ e. let o : one_if_same x c ≡ 1 = one_same x c (sym e) in absurd (omega arith)))

-- An open block is written, and stays open.
pub rewritten : (s : Store) (os hs : List ℕ) (x : ℕ) (n : Node) → Balanced s (x ∷ os) hs → x < length s.nodes → length n.entries ≤ 252 → Balanced (with_node s x n) (x ∷ os) hs
rewritten s os hs x n h inside fits =
    let me : one_if_same x x ≡ 1 = one_same x x refl in
    let len : length (set s.nodes x n) ≡ length s.nodes = length-set s.nodes x n in
    let at : node_at (with_node s x n) x ≡ n = get_or-set_same s.nodes x n no_node inside in
    let other = λ (c : ℕ) (d : c ≢ x). get_or-set_other s.nodes x c n no_node d in
    let alike = λ (b c : ℕ). elim (cases_eq c x) as (λ _. names_from s (x ∷ os) b c ≡ names_from (with_node s x n) (x ∷ os) b c) [
      | inl e ↦
          let o : one_if_same x c ≡ 1 = one_same x c (sym e) in
          counted_open (count_of s c) (occurrences c (x ∷ os)) (occurrences b (children (node_at s c))) (omega arith)
          ∙ sym (counted_open (count_of s c) (occurrences c (x ∷ os)) (occurrences b (children (node_at (with_node s x n) c))) (omega arith))
      | inr d ↦ ap (λ m. counted (count_of s c) (occurrences c (x ∷ os)) (occurrences b (children m))) (sym (other c d))
    ] in
    record {
      sized = omega (arith, h.sized);
      sized_kept = h.sized_kept;
      few = h.few;
      small = λ b. elim (cases_eq b x) [
        | inl e ↦ subst (λ (m : Node). length m.entries ≤ 252) (sym (ap (node_at (with_node s x n)) e ∙ at)) fits
        | inr d ↦ subst (λ (m : Node). length m.entries ≤ 252) (sym (other b d)) (h.small b)
      ];
      true = λ b. h.true b ∙ ap (λ m. (occurrences b (x ∷ os) + occurrences b hs) + m) (times_named-same s (with_node s x n) (x ∷ os) (x ∷ os) b refl (alike b));
      private = h.private;
      unkept = h.unkept;
      ranks = λ b c live closed here.
          let d = λ (e : b ≡ x). let o : one_if_same x b ≡ 1 = one_same x b (sym e) in let v : ⊥ = omega arith in v in
          let here2 : 0 < occurrences c (children (node_at s b)) = subst (λ m. 0 < occurrences c (children m)) (other b d) here in
          let f = λ (e : c ≡ x).
          let z : occurrences x (children (node_at s b)) ≡ 0 = open_unnamed s (x ∷ os) hs x b h (omega arith) live closed in
          let y : occurrences c (children (node_at s b)) ≡ 0 = ap (λ m. occurrences m (children (node_at s b))) e ∙ z in
          let v : ⊥ = omega arith in v in
          subst (λ m. MayName (node_at (with_node s x n) b).rank m.rank) (sym (other c f))
          (subst (λ m. MayName m.rank (node_at s c).rank) (sym (other b d)) (h.ranks b c live closed here2));
    }

-- An open block that names nothing is closed, and held.
pub closed_empty : (s : Store) (os hs : List ℕ) (x : ℕ) → Balanced s (x ∷ os) hs → children (node_at s x) ≡ [] → Balanced s os (x ∷ hs)
closed_empty s os hs x h none =
    let one : one_if_same x x ≡ 1 = one_same x x refl in
    let is : count_of s x ≡ 1 = h.private x (omega arith) in
    let live : 0 < count_of s x = omega arith in
    let closed : occurrences x os ≡ 0 = omega (arith, h.true x) in
    let same = λ (b c : ℕ) (d : c ≢ x). ap (λ m. counted (count_of s c) m (occurrences b (children (node_at s c)))) (let o : one_if_same x c ≡ 0 = one_other x c (λ e. d (sym e)) in let m : occurrences c (x ∷ os) ≡ occurrences c os = omega arith in m) in
    let sums = λ (b : ℕ). times_named-swap s s (x ∷ os) os b x refl (live_below s x live) (same b) in
    let was = λ (b : ℕ). counted_open (count_of s x) (occurrences x (x ∷ os)) (occurrences b (children (node_at s x))) (omega arith) in
    let now = λ (b : ℕ). counted_live (count_of s x) (occurrences x os) (occurrences b (children (node_at s x))) live closed ∙ ap (occurrences b) none in
    record {
      sized = h.sized;
      sized_kept = h.sized_kept;
      few = h.few;
      small = h.small;
      true = λ b. omega (arith, h.true b, sums b, was b, now b);
      private = λ b k. h.private b (omega arith);
      unkept = λ b k. h.unkept b (omega arith);
      ranks = λ b c live2 closed2 here. elim (cases_eq b x) [
        | inl e ↦ absurd (let z : occurrences c (children (node_at s b)) ≡ 0 = ap (λ d. occurrences c (children (node_at s d))) e ∙ ap (occurrences c) none in omega arith)
        | inr d ↦ h.ranks b c live2 (let o : one_if_same x b ≡ 0 = one_other x b (λ e. d (sym e)) in omega arith) here
      ];
    }

-- The one_if_same references, in another order.
pub reordered : (s : Store) (os hs gs : List ℕ) → ((b : ℕ) → occurrences b gs ≡ occurrences b hs) → Balanced s os hs → Balanced s os gs
reordered s os hs gs e h =
    record {
      sized = h.sized;
      sized_kept = h.sized_kept;
      few = h.few;
      small = h.small;
      true = λ b. omega (arith, h.true b, e b);
      private = h.private;
      unkept = h.unkept;
      ranks = h.ranks;
    }

-- The same blocks are open, in another order.
pub opens_reordered : (s : Store) (os ps hs : List ℕ) → ((b : ℕ) → occurrences b ps ≡ occurrences b os) → Balanced s os hs → Balanced s ps hs
opens_reordered s os ps hs e h =
    let alike = λ (b c : ℕ). ap (λ m. counted (count_of s c) m (occurrences b (children (node_at s c)))) (sym (e c)) in
    record {
      sized = h.sized;
      sized_kept = h.sized_kept;
      few = h.few;
      small = h.small;
      true = λ b. omega (arith, h.true b, e b, times_named-same s s os ps b refl (alike b));
      private = λ b k. h.private b (omega (arith, e b));
      unkept = λ b k. h.unkept b (omega (arith, e b));
      ranks = λ b c live closed here. h.ranks b c live (omega (arith, e b)) here;
    }

-- Other counts are kept, while no block is open.
pub kept_changed : (s t : Store) (hs : List ℕ) → t.counts ≡ s.counts → t.nodes ≡ s.nodes → length t.kept ≡ length t.counts → Balanced s [] hs → Balanced t [] hs
unfolding times_named
kept_changed s t hs c n l h =
    let base : length t.kept ≡ length s.counts → Balanced (record { counts = s.counts; kept = t.kept; nodes = s.nodes }) [] hs = λ k. record {
      sized = h.sized;
      sized_kept = k;
      few = h.few;
      small = h.small;
      true = h.true;
      private = h.private;
      unkept = λ b z. absurd (omega arith);
      ranks = h.ranks;
    } in
    subst (λ (cs : List ℕ). Balanced (record { counts = cs; kept = t.kept; nodes = t.nodes }) [] hs) (sym c)
    (subst (λ (ns : List Node). Balanced (record { counts = s.counts; kept = t.kept; nodes = ns }) [] hs) (sym n) (base (l ∙ ap length c)))
