-- The counts of one count block as a part of a slice.
pub use Rattle.tp_image.proofs.AreaLaws.{all_fit, piece}
use Rattle.std.proofs.Common.{below_more, ◌≡◌, ℕ, ◌+◌, ◌-◌, ◌*◌, ◌<◌, ◌≤◌, List, length, take, drop, min, sym, ap, ◌∙◌, arith}
use Rattle.std.proofs.lemmas.List.{drop-take, drop_at, length-drop, length-take-le, take_min}
use Rattle.std.proofs.lemmas.Slice.{take-put_mid, take-put_mid_below}
use borrow.Rule.Slice.PartMut.{put_mid}
use Rattle.tp_model.specs.Sectors.{Sector}
use Rattle.tp_model.proofs.Slices.{length-put_mid}
use Rattle.tp_layout.specs.Counts.{counts_bytes}
use Rattle.tp_image.specs.Nodes.{block_at}
use Rattle.tp_image.specs.Areas.{counts_in}

pub length-piece : (counts : List ℕ) (j to : ℕ) → 1024 * j ≤ length counts → to ≡ min (length counts) (1024 * j + 1024) → length (take (to - 1024 * j) (drop (1024 * j) counts)) ≡ to - 1024 * j
length-piece counts j to h e = length-take-le (to - 1024 * j) (drop (1024 * j) counts) (omega (arith, e, h, length-drop (1024 * j) counts))

-- after the counts of block j were written over

pub put_below : (xs ys : List ℕ) (i j k : ℕ) → 1024 * j ≤ length xs → i < j → counts_in (put_mid (1024 * j) k xs ys) i ≡ counts_in xs i
unfolding counts_in
put_below xs ys i j k h lt =
    sym (drop-take (1024 * i) 1024 (put_mid (1024 * j) k xs ys))
    ∙ ap (drop (1024 * i)) (take-put_mid_below (1024 * j) k xs ys (1024 * i + 1024) (omega arith) h)
    ∙ drop-take (1024 * i) 1024 xs

pub put_here : (xs ys : List ℕ) (j k : ℕ) → 1024 * j + k ≡ min (length xs) (1024 * j + 1024) → length ys ≡ k → counts_in (put_mid (1024 * j) k xs ys) j ≡ ys
unfolding counts_in
put_here xs ys j k e long =
    let new = put_mid (1024 * j) k xs ys in
    let fits : 1024 * j + k ≤ length xs = omega (arith, e) in
    let h : 1024 * j ≤ length xs = omega (arith, fits) in
    let all : min (1024 * j + 1024) (length new) ≡ 1024 * j + length ys = omega (arith, e, long, length-put_mid xs ys (1024 * j) k fits long) in
    sym (drop-take (1024 * j) 1024 new)
    ∙ ap (drop (1024 * j)) (sym (take_min (1024 * j + 1024) new) ∙ ap (λ n. take n new) all ∙ take-put_mid (1024 * j) k xs ys (1024 * j + length ys) (omega arith) h)
    ∙ drop_at (take (1024 * j) xs) ys (1024 * j) (length-take-le (1024 * j) xs h)

-- one block more is read
pub read_more : (image : List Sector) (first j to place : ℕ) (xs ys : List ℕ) → to ≡ min (length xs) (1024 * j + 1024) → 1024 * j ≤ length xs → length ys ≡ to - 1024 * j
    → ((i : ℕ) → i < j → block_at image (first + i) ≡ counts_bytes (counts_in xs i)) → place ≡ first + j → block_at image place ≡ counts_bytes ys
    → (i : ℕ) → i < j + 1 → block_at image (first + i) ≡ counts_bytes (counts_in (put_mid (1024 * j) (to - 1024 * j) xs ys) i)
read_more image first j to place xs ys e h long before there block =
    below_more (λ i. block_at image (first + i) ≡ counts_bytes (counts_in (put_mid (1024 * j) (to - 1024 * j) xs ys) i)) j
    (λ i lt. before i lt ∙ sym (ap counts_bytes (put_below xs ys i j (to - 1024 * j) h lt)))
    (sym (ap (block_at image) there) ∙ block ∙ sym (ap counts_bytes (put_here xs ys j (to - 1024 * j) (omega (arith, e, h)) long)))
