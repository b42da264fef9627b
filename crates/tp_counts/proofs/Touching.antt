-- Which runs may have other counts than in the last commit.
use Rattle.std.proofs.Common.{below_more, ◌≡◌, inl, inr, ⊎_elim, ℕ, ◌+◌, ◌*◌, ◌/◌, ◌<◌, ◌≤◌, ◌==◌, ◌&&◌, Bool, true, false, List, length, get_or, take, drop, min, set, replicate, refl, sym, ap, subst, ◌∙◌, arith}
use Rattle.std.specs.Prelude.{◌%◌, ◌↔◌, nat_eq, not}
use Rattle.std.specs.List.{count_by, range_with_len}
use Rattle.std.proofs.lemmas.Bool.{cases_eq, cases_lt, ne_eqb, false≢true}
use Rattle.std.proofs.lemmas.List.{ext_get_or, get_or-drop, get_or-set_same, get_or-set_other, get_or-take, get_or-replicate, get_or_past, length-drop, length-replicate, length-set, length-take}
use Rattle.std.proofs.lemmas.Slice.{drop-put_mid}
use Rattle.std.proofs.Math.ListN.{drop_of_length-le}
use Rattle.std.specs.Cmp.Lexicographic.{other_text, same_text}
use lib.Pointwise.{pointwise}
use borrow.Rule.Slice.PartMut.{put_mid}
use Rattle.tp_model.specs.Geometry.{count_blocks}
use Rattle.tp_model.proofs.Counting.{count_agree, count_more, count_part}
use Rattle.tp_image.specs.Areas.{counts_in}
use Rattle.tp_counts.specs.Counts.{DifferMarked, IsUnmarked}
use Rattle.tp_counts.specs.Tallies.{AreRuns, AreTouched, is_free_in}
use Rattle.tp_counts.proofs.Pieces.{put_below}
use Rattle.tp_counts.proofs.Runs.{free_of_most, free_test, not_free_test, in_run, one}

-- ---- one count changes

pub touch : (now kept : List ℕ) (marks : List Bool) (b count : ℕ) → AreTouched now kept marks → b < 1048576 → AreTouched (set now b count) kept (set marks (b / 1024) true)
touch now kept marks b count t small = record { long = length-set marks (b / 1024) true ∙ t.long; same = each }
  where
    each : (k : ℕ) → IsUnmarked (set marks (b / 1024) true) (k / 1024) → get_or (set now b count) k 0 ≡ get_or kept k 0
    each k unmarked =
        elim (cases_eq (k / 1024) (b / 1024)) [
          | inl e ↦ absurd (false≢true (sym (ap (λ r. get_or (set marks (b / 1024) true) r true) (sym e) ∙ unmarked) ∙ get_or-set_same marks (b / 1024) true true (omega (arith, t.long, small))))
          | inr differ ↦
              get_or-set_other now b k count 0 (λ e. differ (ap (λ n. n / 1024) e))
              ∙ t.same k (sym (get_or-set_other marks (b / 1024) (k / 1024) true true differ) ∙ unmarked)
        ]

-- ---- the counts of a block

at_block : (xs : List ℕ) (j i : ℕ) → i < 1024 → get_or (counts_in xs j) i 0 ≡ get_or xs (1024 * j + i) 0
unfolding counts_in
at_block xs j i low = get_or-take 1024 (drop (1024 * j) xs) i 0 low ∙ get_or-drop (1024 * j) xs i 0

same_long : (xs ys : List ℕ) (j : ℕ) → length ys ≡ length xs → length (counts_in xs j) ≡ length (counts_in ys j)
unfolding counts_in
same_long xs ys j e =
    omega (arith, length-take 1024 (drop (1024 * j) xs), length-take 1024 (drop (1024 * j) ys), length-drop (1024 * j) xs, length-drop (1024 * j) ys, e)

short : (xs : List ℕ) (j : ℕ) → length (counts_in xs j) ≤ 1024
unfolding counts_in
short xs j = omega (arith, length-take 1024 (drop (1024 * j) xs))

-- a run that is not touched
pub untouched_same : (now kept : List ℕ) (marks : List Bool) (j : ℕ) → length kept ≡ length now → AreTouched now kept marks → IsUnmarked marks j → counts_in now j ≡ counts_in kept j
untouched_same now kept marks j long t unmarked =
    ext_get_or 0 (counts_in now j) (counts_in kept j) (same_long now kept j long)
    (λ i h.
    let low : i < 1024 = omega (arith, h, short now j) in
    let run : (1024 * j + i) / 1024 ≡ j = omega (arith, low) in
    at_block now j i low ∙ t.same (1024 * j + i) (ap (λ r. get_or marks r true) run ∙ unmarked) ∙ sym (at_block kept j i low))

-- a block behind the last one
pub past_same : (now kept : List ℕ) (j : ℕ) → length kept ≡ length now → count_blocks (length now) ≤ j → counts_in now j ≡ counts_in kept j
unfolding counts_in
past_same now kept j long past =
    ap (take 1024) (drop_of_length-le now {i = 1024 * j} (omega (arith, past)) ∙ sym (drop_of_length-le kept {i = 1024 * j} (omega (arith, past, long))))

-- the same count of each block of a run
pub one_same : (xs ys : List ℕ) (b : ℕ) → counts_in xs (b / 1024) ≡ counts_in ys (b / 1024) → get_or xs b 0 ≡ get_or ys b 0
one_same xs ys b same =
    let low : b % 1024 < 1024 = omega arith in
    let place : 1024 * (b / 1024) + b % 1024 ≡ b = omega arith in
    ap (λ k. get_or xs k 0) (sym place) ∙ sym (at_block xs (b / 1024) (b % 1024) low) ∙ ap (λ (l : List ℕ). get_or l (b % 1024) 0) same
    ∙ at_block ys (b / 1024) (b % 1024) low ∙ ap (λ k. get_or ys k 0) place

pub all_same : (xs ys : List ℕ) → length xs ≡ length ys → ((j : ℕ) → j < count_blocks (length xs) → counts_in xs j ≡ counts_in ys j) → xs ≡ ys
all_same xs ys long same = ext_get_or 0 xs ys long (λ b h. one_same xs ys b (same (b / 1024) (omega (arith, h))))

-- a block behind the one that was written over
pub put_above : (xs ys : List ℕ) (i j k : ℕ) → 1024 * j + k ≡ min (length xs) (1024 * j + 1024) → length ys ≡ k → j < i → counts_in (put_mid (1024 * j) k xs ys) i ≡ counts_in xs i
unfolding counts_in
put_above xs ys i j k e long lt = ap (take 1024) (drop-put_mid (1024 * j) k xs ys (1024 * i) (omega (arith, e, lt)) (omega (arith, e)) long)

-- a block other than that
pub put_beside : (xs ys : List ℕ) (i j k : ℕ) → 1024 * j + k ≡ min (length xs) (1024 * j + 1024) → length ys ≡ k → (i ≡ j → ⊥) → counts_in (put_mid (1024 * j) k xs ys) i ≡ counts_in xs i
put_beside xs ys i j k e long differ =
    elim (cases_lt i j) [
      | inl lt ↦ put_below xs ys i j k (omega (arith, e)) lt
      | inr past ↦ put_above xs ys i j k e long (above i j past differ)
    ]
  where
    above : (i j : ℕ) → j ≤ i → (i ≡ j → ⊥) → j < i
    above i j past differ = elim (cases_lt j i) [ inl lt ↦ lt | inr more ↦ absurd (differ (omega (arith, past, more))) ]

-- what a test of two lists told
pub told_same : (t : Bool) (xs ys : List ℕ) → t ≡ pointwise nat_eq xs ys → (t ≡ true) ↔ (xs ≡ ys)
told_same true xs ys e = (λ yes. same_text xs ys e, λ same. refl)
told_same false xs ys e = (λ not_so. absurd (false≢true not_so), λ same. absurd (other_text xs ys e same))

-- ---- the free blocks of a run

-- a run with the same counts in both lists
pub free_same : (run n : ℕ) (now kept : List ℕ) → ((k : ℕ) → k < n → k / 1024 ≡ run → get_or now k 0 ≡ get_or kept k 0)
    → count_by (is_free_in run now kept) (range_with_len 0 n) ≡ count_by (is_free_in run now now) (range_with_len 0 n)
free_same run n now kept same = count_agree (is_free_in run now kept) (is_free_in run now now) n each
  where
    each : (k : ℕ) → k < n → is_free_in run now kept k ≡ is_free_in run now now k
    each k h =
        elim (cases_eq (k / 1024) run) [
          | inl e ↦ ap (λ x. k / 1024 == run && (get_or now k 0 == 0 && x == 0)) (sym (same k h e))
          | inr differ ↦ ap (λ t. t && (get_or now k 0 == 0 && get_or kept k 0 == 0)) (ne_eqb (k / 1024) run differ) ∙ sym (ap (λ t. t && (get_or now k 0 == 0 && get_or now k 0 == 0)) (ne_eqb (k / 1024) run differ))
        ]

module _ (counts : List ℕ) (run : ℕ) where
  abbrev pub free_to : ℕ → ℕ
  free_to n = count_by (is_free_in run counts counts) (range_with_len 0 n)

  not_in : (k : ℕ) → (k / 1024 ≡ run → ⊥) → is_free_in run counts counts k ≡ false
  not_in k differ = ap (λ t. t && (get_or counts k 0 == 0 && get_or counts k 0 == 0)) (ne_eqb (k / 1024) run differ)

  -- before the first block of the run
  pub none_yet : free_to (1024 * run) ≡ 0
  none_yet = count_agree (is_free_in run counts counts) (λ k. false) (1024 * run) (λ k h. not_in k (λ e. omega (arith, e, h)))
      ∙ count_part (λ k. false) 0 0 (1024 * run) (omega arith) (λ k lt. refl) (λ k past. refl)

  -- one block more
  pub one_more : (n : ℕ) → 1024 * run ≤ n → n < 1024 * run + 1024 → get_or counts n 0 ≡ 0 → free_to (n + 1) ≡ free_to n + 1
  one_more n low high none =
      let t = get_or counts n 0 == 0 && get_or counts n 0 == 0 in
      let free : one t ≡ 1 = ap one (free_test (get_or counts n 0) (get_or counts n 0) none none) in
      omega (arith, count_more (is_free_in run counts counts) n, in_run run n t (omega (arith, low, high)), free)

  pub none_more : (n : ℕ) → 1024 * run ≤ n → n < 1024 * run + 1024 → 0 < get_or counts n 0 → free_to (n + 1) ≡ free_to n
  none_more n low high named =
      let t = get_or counts n 0 == 0 && get_or counts n 0 == 0 in
      let used : one t ≡ 0 = ap one (not_free_test (get_or counts n 0) (get_or counts n 0) (omega (arith, named))) in
      omega (arith, count_more (is_free_in run counts counts) n, in_run run n t (omega (arith, low, high)), used)

  pub few_free : (n : ℕ) → 1024 * run ≤ n → n ≤ 1024 * run + 1024 → free_to n ≤ n
  few_free n low high = free_of_most run n counts counts

  -- behind its last block
  pub all_free : (n m : ℕ) → m ≡ min n (1024 * run + 1024) → free_to n ≡ free_to m
  all_free n m e =
      elim (cases_lt n (1024 * run + 1024)) [
        | inl lt ↦ let same : n ≡ m = omega (arith, e, lt) in ap free_to same
        | inr past ↦
            let last : m ≡ 1024 * run + 1024 = omega (arith, e, past) in
            let z : (k : ℕ) → 0 + m ≤ k → k < n → is_free_in run counts counts k ≡ false = λ k h lt. not_in k (λ f. omega (arith, f, h, last)) in
            count_cut (is_free_in run counts counts) m n (omega (arith, e)) (λ k h. not_in k (λ f. omega (arith, f, h, last)))
      ]
    where
      count_cut : (p : ℕ → Bool) (m n : ℕ) → m ≤ n → ((k : ℕ) → m ≤ k → p k ≡ false) → count_by p (range_with_len 0 n) ≡ count_by p (range_with_len 0 m)
      count_cut p m n h none = count_part p 0 m n (omega (arith, h)) (λ k lt. absurd (omega (arith, lt))) (λ k past. none k (omega (arith, past)))

-- ---- the keeping

-- the runs before this one are copied and counted, the others are as they were
pub record HaveKept (now old old_runs : List ℕ) (run : ℕ) (kept runs : List ℕ) : Type 0 where
  pub long : length kept ≡ length now
  pub runs_long : length runs ≡ 1024
  pub copied : (r : ℕ) → r < run → counts_in kept r ≡ counts_in now r
  pub others : (r : ℕ) → run ≤ r → counts_in kept r ≡ counts_in old r
  pub counted : (r : ℕ) → r < run → r < 1024 → get_or runs r 0 ≡ count_by (is_free_in r now now) (range_with_len 0 (length now))
  pub uncounted : (r : ℕ) → run ≤ r → get_or runs r 0 ≡ get_or old_runs r 0

module _ (now old old_runs : List ℕ) (marks : List Bool) (long : length old ≡ length now) (were : AreRuns (length now) now old old_runs) (t : AreTouched now old marks) where
  -- a run with the same counts in both lists has the same free blocks
  counted_same : (r : ℕ) → r < 1024 → counts_in now r ≡ counts_in old r → get_or old_runs r 0 ≡ count_by (is_free_in r now now) (range_with_len 0 (length now))
  counted_same r low same =
      were.each r low ∙ free_same r (length now) now old (λ k h e. one_same now old k (subst (λ j. counts_in now j ≡ counts_in old j) (sym e) same))

  pub keeps_none : HaveKept now old old_runs 0 old old_runs
  keeps_none = record {
    long = long;
    runs_long = were.long;
    copied = λ r h. absurd (omega (arith, h));
    others = λ r h. refl;
    counted = λ r h low. absurd (omega (arith, h));
    uncounted = λ r h. refl;
  }

  module _ (run : ℕ) (kept runs : List ℕ) (so_far : HaveKept now old old_runs run kept runs) (low : run < 1024) where
    -- a run that is not touched is as it was
    pub keeps_untouched : IsUnmarked marks run → HaveKept now old old_runs (run + 1) kept runs
    keeps_untouched unmarked =
        let same = untouched_same now old marks run long t unmarked in
        record {
          long = so_far.long;
          runs_long = so_far.runs_long;
          copied = below_more (λ r. counts_in kept r ≡ counts_in now r) run so_far.copied (so_far.others run (omega arith) ∙ sym same);
          others = λ r h. so_far.others r (omega (arith, h));
          counted = below_more (λ r. r < 1024 → get_or runs r 0 ≡ count_by (is_free_in r now now) (range_with_len 0 (length now))) run so_far.counted
              (λ few. so_far.uncounted run (omega arith) ∙ counted_same run few same);
          uncounted = λ r h. so_far.uncounted r (omega (arith, h));
        }

    pub keeps_touched : (copy : List ℕ) (unused : ℕ) → length copy ≡ length kept → counts_in copy run ≡ counts_in now run
        → ((r : ℕ) → (r ≡ run → ⊥) → counts_in copy r ≡ counts_in kept r) → unused ≡ count_by (is_free_in run now now) (range_with_len 0 (length now))
        → HaveKept now old old_runs (run + 1) copy (set runs run unused)
    keeps_touched copy unused as_long here beside is = record {
      long = as_long ∙ so_far.long;
      runs_long = length-set runs run unused ∙ so_far.runs_long;
      copied = below_more (λ r. counts_in copy r ≡ counts_in now r) run (λ r h. beside r (λ e. omega (arith, e, h)) ∙ so_far.copied r h) here;
      others = λ r h. beside r (λ e. omega (arith, e, h)) ∙ so_far.others r (omega (arith, h));
      counted = below_more (λ r. r < 1024 → get_or (set runs run unused) r 0 ≡ count_by (is_free_in r now now) (range_with_len 0 (length now))) run
          (λ r h few. get_or-set_other runs run r unused 0 (λ e. omega (arith, e, h)) ∙ so_far.counted r h few)
          (λ few. get_or-set_same runs run unused 0 (omega (arith, so_far.runs_long, few)) ∙ is);
      uncounted = λ r h. get_or-set_other runs run r unused 0 (λ e. omega (arith, e, h)) ∙ so_far.uncounted r (omega (arith, h));
    }

  -- all runs are kept
  module _ (run : ℕ) (kept runs : List ℕ) (done : HaveKept now old old_runs run kept runs) (all : count_blocks (length now) ≤ run) where
    pub kept_all : kept ≡ now
    kept_all = all_same kept now done.long (λ j h. done.copied j (omega (arith, h, all, done.long)))

    pub runs_all : AreRuns (length now) now now runs
    runs_all = record {
      long = done.runs_long;
      each = λ r low. ⊎_elim
          (λ lt. done.counted r lt low)
          (λ past. done.uncounted r past ∙ counted_same r low (past_same now old r long (omega (arith, past, all))))
          (cases_lt r run);
    }

-- the same lists under other names
pub HaveKept-named : {now old old_runs kept runs copy counts : List ℕ} {run : ℕ} → copy ≡ kept → counts ≡ runs → HaveKept now old old_runs run kept runs → HaveKept now old old_runs run copy counts
HaveKept-named {now} {old} {old_runs} {kept} {runs} {copy} {counts} {run} e f h =
    subst (λ (l : List ℕ). HaveKept now old old_runs run copy l) (sym f) (subst (λ (l : List ℕ). HaveKept now old old_runs run l runs) (sym e) h)

-- nothing is touched once both lists are the same
pub none_touched : (now kept : List ℕ) (marks : List Bool) → kept ≡ now → length marks ≡ 1024 → AreTouched now kept marks
none_touched now kept marks same long = record { long = long; same = λ b unmarked. ap (λ (l : List ℕ). get_or l b 0) (sym same) }

-- ---- the marks

unless : (t : Bool) → not t ≡ false → t ≡ true
unless true e = refl
unless false e = absurd (false≢true (sym e))

-- of the runs before this one exactly those with other counts are marked
pub record HaveMarked (now kept : List ℕ) (run : ℕ) (marks : List Bool) : Type 0 where
  pub long : length marks ≡ 1024
  pub same : (r : ℕ) → r < run → IsUnmarked marks r → counts_in now r ≡ counts_in kept r
  pub differ : DifferMarked now kept marks
  pub unmarked : (r : ℕ) → run ≤ r → get_or marks r false ≡ false

pub marks_none : (now kept : List ℕ) → HaveMarked now kept 0 (replicate 1024 false)
marks_none now kept = record {
  long = length-replicate {A = Bool} 1024 false;
  same = λ r h. absurd (omega (arith, h));
  differ = λ r marked. absurd (false≢true (sym (none r) ∙ marked));
  unmarked = λ r h. none r;
}
  where
    none : (r : ℕ) → get_or {A = Bool} (replicate 1024 false) r false ≡ false
    none r = ⊎_elim (λ lt. get_or-replicate {A = Bool} 1024 r false false lt) (λ past. get_or_past (replicate {A = Bool} 1024 false) r false (omega (arith, past, length-replicate {A = Bool} 1024 false))) (cases_lt r 1024)

module _ (now kept : List ℕ) (run : ℕ) (marks : List Bool) (so_far : HaveMarked now kept run marks) where
  pub marks_no_more : counts_in now run ≡ counts_in kept run → HaveMarked now kept (run + 1) marks
  marks_no_more same = record {
    long = so_far.long;
    same = below_more (λ r. IsUnmarked marks r → counts_in now r ≡ counts_in kept r) run so_far.same (λ unmarked. same);
    differ = so_far.differ;
    unmarked = λ r h. so_far.unmarked r (omega (arith, h));
  }

  pub marks_more : (same_run : Bool) → run < 1024 → (same_run ≡ true ↔ counts_in now run ≡ counts_in kept run) → HaveMarked now kept (run + 1) (set marks run (not same_run))
  marks_more same_run low told =
      let is = not same_run in
      let same : is ≡ false → counts_in now run ≡ counts_in kept run = λ e. told.0 (unless same_run e) in
      let differ : is ≡ true → counts_in now run ≡ counts_in kept run → ⊥ = λ e all. false≢true (sym (ap not (told.1 all)) ∙ e) in
      record {
        long = length-set marks run is ∙ so_far.long;
        same = below_more (λ r. IsUnmarked (set marks run is) r → counts_in now r ≡ counts_in kept r) run
            (λ r h unmarked. so_far.same r h (sym (get_or-set_other marks run r is true (λ e. omega (arith, e, h))) ∙ unmarked))
            (λ unmarked. same (sym (get_or-set_same marks run is true (omega (arith, so_far.long, low))) ∙ unmarked));
        differ = λ r marked.
            elim (cases_eq r run) [
              | inl e ↦ subst (λ k. counts_in now k ≡ counts_in kept k → ⊥) (sym e)
                  (differ (sym (get_or-set_same marks run is false (omega (arith, so_far.long, low))) ∙ ap (λ k. get_or (set marks run is) k false) (sym e) ∙ marked))
              | inr other ↦ so_far.differ r (sym (get_or-set_other marks run r is false other) ∙ marked)
            ];
        unmarked = λ r h. get_or-set_other marks run r is false (λ e. omega (arith, e, h)) ∙ so_far.unmarked r (omega (arith, h));
      }
