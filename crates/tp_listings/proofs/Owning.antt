-- What the table of owners says of the plain pool: how many data blocks a volume alone has.
use Rattle.std.proofs.Common.{◌≡◌, ℕ, zero, suc, ◌+◌, ◌<◌, ◌==◌, Bool, true, false, cond, ◌||◌, ◌⊎◌, inl, inr, List, [], ◌∷◌, Some, None, length, set, refl, sym, ap, subst, ◌∙◌, arith}
use Rattle.std.specs.Prelude.{slice_index}
use Rattle.std.specs.List.{count_by, list_any, range_with_len}
use Rattle.std.proofs.lemmas.Bool.{cases_eq, cases_lt, eq-eqb, eqb-true, ne_eqb, false≢true}
use Rattle.std.proofs.lemmas.Bool.Decides.{nat_tests}
use Rattle.std.proofs.lemmas.List.{get_or-set_other, length-set}
use Rattle.std.proofs.lemmas.Grind.{get_or-set_at}
use Rattle.std.proofs.lemmas.Option.{none-some}
use Rattle.tp_model.specs.Pool.{PlainPool, slot_at, used}
use Rattle.tp_model.proofs.Counting.{Decides-has_label, count_more, has_label, used-counts}
use Rattle.tp_model.proofs.Removing.{slot_without}
use Rattle.tp_listings.specs.Listings.{without}
use Rattle.tp_listings.specs.Owned.{HasPlace, IsOwner, marked, owned}

-- ---- one number of the table

owned_first : (o m : ℕ) → o ≡ 0 → owned o m ≡ m
owned_first o m e = ap (λ x. owned x m) e

owned_other : (o m : ℕ) → (o ≡ 0 → ⊥) → (o ≡ m → ⊥) → owned o m ≡ 1
owned_other o m n a = ap (λ b. cond (b || (o == m)) m 1) (ne_eqb o 0 n) ∙ ap (λ b. cond b m 1) (ne_eqb o m a)

owned_twice : (o m : ℕ) → owned (owned o m) m ≡ owned o m
owned_twice o m = grind (arith, nat_tests)

split : (k j : ℕ) → j < k + 1 → (j < k) ⊎ (j ≡ k)
split k j h = elim (cases_lt j k) [ inl l ↦ inl l | inr g ↦ inr (omega (arith, h, g)) ]

-- nobody has it yet
pub owner_at_first : (Has : ℕ → Type 0) → IsOwner Has 0 0
owner_at_first Has = inl (record { is = refl; none = λ j h x. absurd (omega (arith, h)) })

-- the next volume does not have it
owner_kept : (Has : ℕ → Type 0) (k o : ℕ) → IsOwner Has k o → (Has k → ⊥) → IsOwner Has (k + 1) o
owner_kept Has k o (inl w) lacks = inl (record { is = w.is; none = λ j h x. elim (split k j h) [ inl l ↦ w.none j l x | inr e ↦ lacks (subst Has e x) ] })
owner_kept Has k o (inr (inl w)) lacks = inr (inl (record {
  place = w.place;
  is = w.is;
  low = let low = w.low in omega (arith, low);
  has = w.has;
  only = λ j h x. elim (split k j h) [ inl l ↦ w.only j l x | inr e ↦ absurd (lacks (subst Has e x)) ];
}))
owner_kept Has k o (inr (inr w)) lacks = inr (inr (record {
  is = w.is;
  one = w.one;
  other = w.other;
  low_one = let low = w.low_one in omega (arith, low);
  low_other = let low = w.low_other in omega (arith, low);
  apart = w.apart;
  has_one = w.has_one;
  has_other = w.has_other;
}))

-- it has it
owner_more : (Has : ℕ → Type 0) (k o : ℕ) → IsOwner Has k o → Has k → IsOwner Has (k + 1) (owned o (k + 2))
owner_more Has k o (inl w) here = inr (inl (record {
  place = k;
  is = owned_first o (k + 2) w.is;
  low = omega arith;
  has = here;
  only = λ j h x. elim (split k j h) [ inl l ↦ absurd (w.none j l x) | inr e ↦ e ];
}))
owner_more Has k o (inr (inl w)) here =
    let is = w.is in
    let low = w.low in
    inr (inr (record {
      is = owned_other o (k + 2) (λ e. omega (arith, is, e)) (λ e. omega (arith, is, e, low));
      one = w.place;
      other = k;
      low_one = omega (arith, low);
      low_other = omega arith;
      apart = λ e. omega (arith, e, low);
      has_one = w.has;
      has_other = here;
    }))
owner_more Has k o (inr (inr w)) here =
    let is = w.is in
    inr (inr (record {
      is = owned_other o (k + 2) (λ e. omega (arith, is, e)) (λ e. omega (arith, is, e));
      one = w.one;
      other = w.other;
      low_one = let low = w.low_one in omega (arith, low);
      low_other = let low = w.low_other in omega (arith, low);
      apart = w.apart;
      has_one = w.has_one;
      has_other = w.has_other;
    }))

pub owner_next : (Has : ℕ → Type 0) (k o : ℕ) (b : Bool) → IsOwner Has k o → (b ≡ true → Has k) → (Has k → b ≡ true) → IsOwner Has (k + 1) (cond b (owned o (k + 2)) o)
owner_next Has k o true was here back = owner_more Has k o was (here refl)
owner_next Has k o false was here back = owner_kept Has k o was (λ x. false≢true (back x))

-- of volumes that have the same
pub owner_as : (Has Also : ℕ → Type 0) (k o : ℕ) → ((j : ℕ) → j < k → Has j → Also j) → ((j : ℕ) → j < k → Also j → Has j) → IsOwner Has k o → IsOwner Also k o
owner_as Has Also k o to from (inl w) = inl (record { is = w.is; none = λ j h x. w.none j h (from j h x) })
owner_as Has Also k o to from (inr (inl w)) = inr (inl (record { place = w.place; is = w.is; low = w.low; has = to w.place w.low w.has; only = λ j h x. w.only j h (from j h x) }))
owner_as Has Also k o to from (inr (inr w)) = inr (inr (record {
  is = w.is;
  one = w.one;
  other = w.other;
  low_one = w.low_one;
  low_other = w.low_other;
  apart = w.apart;
  has_one = to w.one w.low_one w.has_one;
  has_other = to w.other w.low_other w.has_other;
}))

-- ---- the table behind some slots

pub length_marked : (mine : ℕ) (ss : List (ℕ × ℕ)) (owners : List ℕ) → length (marked mine ss owners) ≡ length owners
length_marked mine [] owners = refl
length_marked mine (s ∷ ss) owners =
    length_marked mine ss (set owners s.1 (owned (slice_index owners s.1) mine)) ∙ length-set owners s.1 (owned (slice_index owners s.1) mine)

marked_more : (mine l : ℕ) (b c : Bool) (was now : ℕ) → (b ≡ true → now ≡ owned was mine) → (b ≡ false → now ≡ was) → cond c (owned now mine) now ≡ cond (b || c) (owned was mine) was
marked_more mine l true true was now here there = ap (λ x. owned x mine) (here refl) ∙ owned_twice was mine
marked_more mine l true false was now here there = here refl
marked_more mine l false true was now here there = ap (λ x. owned x mine) (there refl)
marked_more mine l false false was now here there = there refl

set_there : (xs : List ℕ) (i j y : ℕ) → j < length xs → (i == j) ≡ true → slice_index (set xs i y) j ≡ y
set_there xs i j y lt e = let same : i ≡ j = eqb-true i j e in get_or-set_at xs i j y 0 (sym same) (subst (λ m. m < length xs) (sym same) lt)

set_apart : (xs : List ℕ) (i j y : ℕ) → (i == j) ≡ false → slice_index (set xs i y) j ≡ slice_index xs j
set_apart xs i j y e = get_or-set_other xs i j y 0 (λ same. false≢true (sym e ∙ eq-eqb i j (sym same)))

same_owned : (owners : List ℕ) (i l mine : ℕ) → (i == l) ≡ true → owned (slice_index owners i) mine ≡ owned (slice_index owners l) mine
same_owned owners i l mine e = ap (λ j. owned (slice_index owners j) mine) (eqb-true i l e)

-- each number of it
pub marked_at : (mine l : ℕ) (ss : List (ℕ × ℕ)) (owners : List ℕ) → l < length owners
    → slice_index (marked mine ss owners) l ≡ cond (list_any (λ (s : ℕ × ℕ). s.1 == l) ss) (owned (slice_index owners l) mine) (slice_index owners l)
marked_at mine l [] owners lt = refl
marked_at mine l (s ∷ ss) owners lt =
    let next = set owners s.1 (owned (slice_index owners s.1) mine) in
    let long : length next ≡ length owners = length-set owners s.1 (owned (slice_index owners s.1) mine) in
    marked_at mine l ss next (omega (arith, lt, long))
    ∙ marked_more mine l (s.1 == l) (list_any (λ (x : ℕ × ℕ). x.1 == l) ss) (slice_index owners l) (slice_index next l)
    (λ e. set_there owners s.1 l (owned (slice_index owners s.1) mine) lt e ∙ same_owned owners s.1 l mine e)
    (λ e. set_apart owners s.1 l (owned (slice_index owners s.1) mine) e)

-- ---- what a volume alone has

not_true : (b : Bool) → (b ≡ true → ⊥) → b ≡ false
not_true true n = absurd (n refl)
not_true false n = refl

slot_elsewhere : (s : PlainPool) (id i b l : ℕ) → (i ≡ id → ⊥) → slot_at s i b ≡ Some l → slot_at (without s id) i b ≡ Some l
slot_elsewhere s id i b l n h = slot_without s id i b ∙ (ap (λ t. cond t None (slot_at s i b)) (ne_eqb i id n) ∙ h)

slot_before : (s : PlainPool) (id i b l : ℕ) → (t : Bool) → (i == id) ≡ t → cond t None (slot_at s i b) ≡ Some l → (i ≡ id → ⊥) × (slot_at s i b ≡ Some l)
slot_before s id i b l true is h = absurd (none-some l h)
slot_before s id i b l false is h = (λ e. false≢true (sym is ∙ eq-eqb i id e), h)

slot_left : (s : PlainPool) (id i b l : ℕ) → slot_at (without s id) i b ≡ Some l → (i ≡ id → ⊥) × (slot_at s i b ≡ Some l)
slot_left s id i b l h = slot_before s id i b l (i == id) refl (sym (slot_without s id i b) ∙ h)

module _ (s : PlainPool) (at : ℕ → ℕ) (k : ℕ)
    (apart : (i j : ℕ) → i < k → j < k → at i ≡ at j → i ≡ j) where
  some_label : (id l j : ℕ) → j < k → (at j ≡ id → ⊥) → HasPlace s (at j) l → has_label (without s id) l ≡ true
  some_label id l j low n h = (Decides-has_label (without s id) l).1 (at j, h.0, slot_elsewhere s id (at j) h.0 l n h.1)

  label_of : (l j : ℕ) → HasPlace s (at j) l → has_label s l ≡ true
  label_of l j h = (Decides-has_label s l).1 (at j, h.0, h.1)

  sums : (a b c : Bool) (x y z : ℕ) → a ≡ b || c → (b ≡ true → c ≡ true → ⊥) → cond a 1 0 ≡ cond b 1 0 + cond c 1 0
  sums a true true x y z e n = absurd (n refl refl)
  sums a true false x y z e n = ap {B = ℕ} (λ t. cond t 1 0) e
  sums a false true x y z e n = ap {B = ℕ} (λ t. cond t 1 0) e
  sums a false false x y z e n = ap {B = ℕ} (λ t. cond t 1 0) e

  from_tests : (a b c x y z : Bool) → a ≡ x → b ≡ y → c ≡ z → cond x 1 0 ≡ cond y 1 0 + cond z 1 0 → cond a 1 0 ≡ cond b 1 0 + cond c 1 0
  from_tests a b c x y z e f g h = (λ i. cond (e i) 1 0) ∙ (h ∙ (λ i. sym (λ j. cond (f j) 1 0) i + sym (λ j. cond (g j) 1 0) i))

  -- a data block that some volume has is one of the others', or this one's alone
  one_of : (i l o : ℕ) → i < k → ((id block : ℕ) → slot_at s id block ≡ Some l → (j : ℕ) × (j < k) × (at j ≡ id)) → IsOwner (λ j. HasPlace s (at j) l) k o
      → cond (has_label s l) 1 0 ≡ cond (has_label (without s (at i)) l) 1 0 + cond (o == i + 2) 1 0
  one_of i l o low all (inl w) =
      let is = w.is in
      let none : has_label s l ≡ false = not_true (has_label s l) (λ t. let x = (Decides-has_label s l).0 t in let y = all x.0 x.1 x.2 in w.none y.0 y.1 (x.1, ap (λ id. slot_at s id x.1) y.2 ∙ x.2)) in
      let gone : has_label (without s (at i)) l ≡ false
      = not_true (has_label (without s (at i)) l) (λ t. let x = (Decides-has_label (without s (at i)) l).0 t in let z = slot_left s (at i) x.0 x.1 l x.2 in
      let y = all x.0 x.1 z.1 in w.none y.0 y.1 (x.1, ap (λ id. slot_at s id x.1) y.2 ∙ z.1)) in
      from_tests _ _ _ false false false none gone (ne_eqb o (i + 2) (λ e. omega (arith, is, e))) refl
  one_of i l o low all (inr (inl w)) = elim (cases_eq w.place i) [
    | inl e ↦
        let is = w.is in
        let there : has_label s l ≡ true = label_of l w.place w.has in
        let gone : has_label (without s (at i)) l ≡ false
        = not_true (has_label (without s (at i)) l) (λ t. let x = (Decides-has_label (without s (at i)) l).0 t in let z = slot_left s (at i) x.0 x.1 l x.2 in
        let y = all x.0 x.1 z.1 in z.0 (sym y.2 ∙ ap at (w.only y.0 y.1 (x.1, ap (λ id. slot_at s id x.1) y.2 ∙ z.1) ∙ e))) in
        from_tests _ _ _ true false true there gone (eq-eqb o (i + 2) (omega (arith, is, e))) refl
    | inr n ↦
        let is = w.is in
        let there : has_label s l ≡ true = label_of l w.place w.has in
        let left : has_label (without s (at i)) l ≡ true = some_label (at i) l w.place w.low (λ e. n (apart w.place i w.low low e)) w.has in
        from_tests _ _ _ true true false there left (ne_eqb o (i + 2) (λ e. omega (arith, is, e, n))) refl
  ]
  one_of i l o low all (inr (inr w)) =
      let is = w.is in
      let there : has_label s l ≡ true = label_of l w.one w.has_one in
      let left : has_label (without s (at i)) l ≡ true = elim (cases_eq w.one i) [
        | inl e ↦ some_label (at i) l w.other w.low_other (λ f. w.apart (e ∙ sym (apart w.other i w.low_other low f))) w.has_other
        | inr n ↦ some_label (at i) l w.one w.low_one (λ e. n (apart w.one i w.low_one low e)) w.has_one
      ] in
      from_tests _ _ _ true true false there left (ne_eqb o (i + 2) (λ e. omega (arith, is, e))) refl

  count_sum : (p q r : ℕ → Bool) (n : ℕ) → ((l : ℕ) → l < n → cond (p l) 1 0 ≡ cond (q l) 1 0 + cond (r l) 1 0)
      → count_by p (range_with_len 0 n) ≡ count_by q (range_with_len 0 n) + count_by r (range_with_len 0 n)
  count_sum p q r zero h = refl
  count_sum p q r (suc n) h =
      let next : suc n ≡ n + 1 = omega arith in
      let before = count_sum p q r n (λ l lt. h l (omega (arith, lt))) in
      let here : cond (p n) 1 0 ≡ cond (q n) 1 0 + cond (r n) 1 0 = h n (omega arith) in
      let ps = count_more p n in
      let qs = count_more q n in
      let rs = count_more r n in
      subst (λ m. count_by p (range_with_len 0 m) ≡ count_by q (range_with_len 0 m) + count_by r (range_with_len 0 m)) (sym next) (omega (arith, before, here, ps, qs, rs))

  -- by so many fewer data blocks are in use without it
  pub exclusive_is : (i n : ℕ) (owners : List ℕ) → i < k → ((id block l : ℕ) → slot_at s id block ≡ Some l → (l < n) × ((j : ℕ) × (j < k) × (at j ≡ id)))
      → ((l : ℕ) → l < n → IsOwner (λ j. HasPlace s (at j) l) k (slice_index owners l))
      → used s ≡ used (without s (at i)) + count_by (λ l. slice_index owners l == i + 2) (range_with_len 0 n)
  exclusive_is i n owners low all says =
      used-counts s n (has_label s) (λ id block l h. (all id block l h).0) (λ l lt. Decides-has_label s l)
      ∙ (count_sum (has_label s) (has_label (without s (at i))) (λ l. slice_index owners l == i + 2) n
      (λ l lt. one_of i l (slice_index owners l) low (λ id block h. (all id block l h).1) (says l lt))
      ∙ ap (λ m. m + count_by (λ l. slice_index owners l == i + 2) (range_with_len 0 n))
      (sym (used-counts (without s (at i)) n (has_label (without s (at i))) (λ id block l h. (all id block l (slot_left s (at i) id block l h).1).0) (λ l lt. Decides-has_label (without s (at i)) l))))
