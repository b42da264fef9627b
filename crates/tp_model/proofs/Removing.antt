-- What the removal of a volume gives back.
use Rattle.std.proofs.Common.{◌≡◌, ℕ, zero, suc, ◌+◌, ◌<◌, ◌≤◌, ◌==◌, Bool, true, false, cond, ◌&&◌, ◌||◌, List, [], ◌∷◌, map, Option, Some, None, inl, inr, refl, sym, ap, subst, ◌∙◌, arith}
use Rattle.std.specs.Prelude.{nat_lt, IsSome}
use Rattle.std.specs.Option.{option_map_or}
use Rattle.std.specs.List.{list_all, count_by, range_with_len}
use Rattle.std.specs.FinMap.{empty, get, remove}
use Rattle.std.proofs.lemmas.Bool.{and_parts, and_from, or_cases, eqb-true, eq-eqb, ne_eqb, lt-ltb, ltb-true, false≢true}
use Rattle.std.proofs.lemmas.Option.{none-some}
use Rattle.std.proofs.lemmas.List.Folds.{list_all-map}
use Rattle.std.proofs.lemmas.List.Sums.{sum_by-cons}
use Rattle.tp_model.specs.Pool.{Volume, PlainPool, slot_at, all_slots, used, is_exclusive}
use Rattle.tp_model.proofs.Maps.{get_empty, get_remove}
use Rattle.tp_model.proofs.Sharing.{all_slots_pass, Decides-is_exclusive}
use Rattle.tp_model.proofs.Counting.{IsLabel, Decides-has_label, has_label, count_changed, count_more, counts_agree, used-counts}

-- the pool without a volume
abbrev pub without : PlainPool → ℕ → PlainPool
without p id = record p { volumes = remove p.volumes id }

pub slot_without : (p : PlainPool) (id i b : ℕ) → slot_at (without p id) i b ≡ cond (i == id) None (slot_at p i b)
slot_without p id i b = ap (λ (o : Option Volume). get (option_map_or (λ v. v.slots) o empty) b) (get_remove p.volumes id i) ∙ by_case (i == id)
  where
    by_case : (t : Bool) → get (option_map_or (λ v. v.slots) (cond t None (get p.volumes i)) empty) b ≡ cond t None (slot_at p i b)
    by_case true = get_empty b
    by_case false = refl

-- ---- a bound on labels

abbrev above : List ℕ → ℕ
above [] = 0
above (x ∷ xs) = x + 1 + above xs

all_below : (xs : List ℕ) (n : ℕ) → above xs ≤ n → list_all (λ x. nat_lt x n) xs ≡ true
all_below [] n h = refl
all_below (x ∷ xs) n h = and_from _ _ (lt-ltb x n (omega (arith, h))) (all_below xs n (omega (arith, h)))

abbrev bound_of : PlainPool → ℕ
bound_of p = above (map (λ s. s.2) (all_slots p))

label_below : (p : PlainPool) (id block l : ℕ) → slot_at p id block ≡ Some l → l < bound_of p
label_below p id block l is =
    let n = above (map (λ s. s.2) (all_slots p)) in
    let all : list_all (λ s. nat_lt s.2 n) (all_slots p) ≡ true = sym (list_all-map (λ x. nat_lt x n) (λ s. s.2) (all_slots p)) ∙ all_below (map (λ s. s.2) (all_slots p)) n (omega arith) in
    ltb-true l n (all_slots_pass (λ s. nat_lt s.2 n) p all id block l is)

-- ---- counting

more_pass : (s t : Bool) (m n : ℕ) → (s ≡ true → t ≡ true) → m ≤ n → cond s 1 0 + m ≤ cond t 1 0 + n
more_pass true true m n h le = omega (arith, le)
more_pass true false m n h le = absurd (false≢true (h refl))
more_pass false true m n h le = omega (arith, le)
more_pass false false m n h le = omega (arith, le)

-- what passes the one test passes the other
pub count_less : (p q : ℕ → Bool) (xs : List ℕ) → ((k : ℕ) → p k ≡ true → q k ≡ true) → count_by p xs ≤ count_by q xs
count_less p q [] h = omega arith
count_less p q (x ∷ xs) h =
    let e = sum_by-cons (λ k. cond (p k) 1 0) x xs in
    let f = sum_by-cons (λ k. cond (q k) 1 0) x xs in
    let both : cond (p x) 1 0 + count_by p xs ≤ cond (q x) 1 0 + count_by q xs = more_pass (p x) (q x) (count_by p xs) (count_by q xs) (h x) (count_less p q xs h) in
    omega (arith, e, f, both)

-- ---- the labels of other volumes, and those of the blocks below k that the volume has for itself

abbrev has_at : PlainPool → ℕ → ℕ → ℕ → Bool
has_at p id block l = option_map_or (λ x. x == l) (slot_at p id block) false

abbrev taken : PlainPool → ℕ → ℕ → ℕ → Bool
taken p id zero l = has_label (without p id) l
taken p id (suc k) l = (is_exclusive p id k && has_at p id k l) || taken p id k l

-- the slot of a label that is taken: of another volume, or of a block below k
pub record IsTaken (p : PlainPool) (id k l : ℕ) : Type 0 where
  pub volume : ℕ
  pub block : ℕ
  pub is : slot_at p volume block ≡ Some l
  pub low : volume ≡ id → block < k

of_another : (p : PlainPool) (id i b l : ℕ) → (t : Bool) → (i == id) ≡ t → cond t None (slot_at p i b) ≡ Some l → IsTaken p id 0 l
of_another p id i b l true is h = absurd (none-some l h)
of_another p id i b l false is h = record { volume = i; block = b; is = h; low = λ e. absurd (false≢true (sym is ∙ eq-eqb i id e)) }

label_there : (o : Option ℕ) (l : ℕ) → option_map_or (λ x. x == l) o false ≡ true → o ≡ Some l
label_there None l h = absurd (false≢true h)
label_there (Some x) l h = ap (λ y. Some y) (eqb-true x l h)

slot_taken : (p : PlainPool) (id k l : ℕ) → taken p id k l ≡ true → IsTaken p id k l
slot_taken p id zero l h =
    let w : IsLabel (without p id) l = (Decides-has_label (without p id) l).0 h in
    of_another p id w.0 w.1 l (w.0 == id) refl (sym (slot_without p id w.0 w.1) ∙ w.2)
slot_taken p id (suc k) l h = elim (or_cases (is_exclusive p id k && has_at p id k l) (taken p id k l) h) [
  | inl here ↦ record { volume = id; block = k; is = label_there (slot_at p id k) l (and_parts (is_exclusive p id k) (has_at p id k l) here).1; low = λ e. omega arith }
  | inr before ↦
      let w = slot_taken p id k l before in
      record { volume = w.volume; block = w.block; is = w.is; low = λ e. let low : w.block < k = w.low e in omega (arith, low) }
]

-- the label of a block that the volume has for itself is not taken before
own_is_new : (p : PlainPool) (id k x : ℕ) → is_exclusive p id k ≡ true → slot_at p id k ≡ Some x → (t : Bool) → taken p id k x ≡ t → t ≡ false
own_is_new p id k x own is false h = refl
own_is_new p id k x own is true h =
    let w = slot_taken p id k x h in
    let at = ((Decides-is_exclusive p id k).0 own).alone w.volume w.block (w.is ∙ sym is) in
    let low : w.block < k = w.low at.0 in
    let same : w.block ≡ k = at.1 in
    absurd (omega (arith, low, same))

one_more_own : (p : PlainPool) (id k n : ℕ) → ((i b l : ℕ) → slot_at p i b ≡ Some l → l < n) → is_exclusive p id k ≡ true → (o : Option ℕ) → slot_at p id k ≡ o
    → count_by (taken p id (suc k)) (range_with_len 0 n) ≡ count_by (taken p id k) (range_with_len 0 n) + 1
one_more_own p id k n below own None is = absurd (none_there ((Decides-is_exclusive p id k).0 own).mapped)
  where
    none_there : IsSome (slot_at p id k) → ⊥
    none_there some = false≢true (subst (λ (o : Option ℕ). IsSome o) is some)
one_more_own p id k n below own (Some x) is =
    let t = taken p id k in
    let there : (l : ℕ) → taken p id (suc k) l ≡ ((x == l) || t l) = λ l. (λ i. (own i && option_map_or (λ y. y == l) (is i) false) || t l) in
    let new : t x ≡ false = own_is_new p id k x own is (t x) refl in
    let here : taken p id (suc k) x ≡ true = there x ∙ ap (λ b. b || t x) (eq-eqb x x refl) in
    let changed = count_changed (taken p id (suc k)) t x n (below id k x is) (λ l lt ne. there l ∙ ap (λ b. b || t l) (ne_eqb x l (λ e. ne (sym e)))) in
    let one : cond (t x) 1 0 ≡ 0 = ap {B = ℕ} (λ b. cond b 1 0) new in
    let two : cond (taken p id (suc k) x) 1 0 ≡ 1 = ap {B = ℕ} (λ b. cond b 1 0) here in
    omega (arith, changed, one, two)

counted_by : (p : PlainPool) (id k n : ℕ) → ((i b l : ℕ) → slot_at p i b ≡ Some l → l < n) → (t : Bool) → is_exclusive p id k ≡ t
    → count_by (taken p id (suc k)) (range_with_len 0 n) ≡ count_by (taken p id k) (range_with_len 0 n) + cond t 1 0
counted_by p id k n below true own = one_more_own p id k n below own (slot_at p id k) refl
counted_by p id k n below false own =
    let same = counts_agree (taken p id (suc k)) (taken p id k) n (λ l lt. ap (λ b. (b && has_at p id k l) || taken p id k l) own) in
    omega (arith, same)

counted : (p : PlainPool) (id k n : ℕ) → ((i b l : ℕ) → slot_at p i b ≡ Some l → l < n)
    → count_by (taken p id k) (range_with_len 0 n) ≡ count_by (has_label (without p id)) (range_with_len 0 n) + count_by (is_exclusive p id) (range_with_len 0 k)
counted p id zero n below =
    let same = counts_agree (taken p id 0) (has_label (without p id)) n (λ l lt. refl) in
    let none : count_by (is_exclusive p id) (range_with_len 0 0) ≡ 0 = refl in
    omega (arith, same, none)
counted p id (suc k) n below =
    let more = counted_by p id k n below (is_exclusive p id k) refl in
    let before = counted p id k n below in
    let one : count_by (is_exclusive p id) (range_with_len 0 (k + 1)) ≡ count_by (is_exclusive p id) (range_with_len 0 k) + cond (is_exclusive p id k) 1 0 = count_more (is_exclusive p id) k in
    let next : suc k ≡ k + 1 = omega arith in
    let there : count_by (is_exclusive p id) (range_with_len 0 (suc k)) ≡ count_by (is_exclusive p id) (range_with_len 0 (k + 1)) = ap (λ m. count_by (is_exclusive p id) (range_with_len 0 m)) next in
    omega (arith, more, before, one, there)

-- A removal gives back each data block that the volume has for itself, at least.
pub used_without : (p : PlainPool) (id blocks : ℕ) → used (without p id) + count_by (is_exclusive p id) (range_with_len 0 blocks) ≤ used p
used_without p id blocks =
    let n = bound_of p in
    let q = without p id in
    let below = label_below p in
    let rest : (i b l : ℕ) → slot_at q i b ≡ Some l → l < n = λ i b l is. below_without i b l (i == id) (sym (slot_without p id i b) ∙ is) in
    let all : used p ≡ count_by (has_label p) (range_with_len 0 n) = used-counts p n (has_label p) below (λ l lt. Decides-has_label p l) in
    let others : used q ≡ count_by (has_label q) (range_with_len 0 n) = used-counts q n (has_label q) rest (λ l lt. Decides-has_label q l) in
    let both = counted p id blocks n below in
    let less : count_by (taken p id blocks) (range_with_len 0 n) ≤ count_by (has_label p) (range_with_len 0 n)
    = count_less (taken p id blocks) (has_label p) (range_with_len 0 n) (λ l h. let w = slot_taken p id blocks l h in (Decides-has_label p l).1 (w.volume, w.block, w.is)) in
    omega (arith, all, others, both, less)
  where
    below_without : (i b l : ℕ) (t : Bool) → cond t None (slot_at p i b) ≡ Some l → l < bound_of p
    below_without i b l true h = absurd (none-some l h)
    below_without i b l false h = label_below p i b l h
