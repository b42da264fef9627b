-- The data blocks that each volume has alone, counted one by one.
use Rattle.std.proofs.Common.{◌≡◌, ℕ, ◌+◌, ◌<◌, ◌≤◌, ◌==◌, Bool, true, false, cond, List, min, ap, ◌∙◌, arith}
use Rattle.std.specs.Prelude.{slice_index}
use Rattle.std.specs.List.{count_by, range_with_len}
use Rattle.std.proofs.lemmas.List.FromFn.{length-range_with_len}
use Rattle.std.proofs.lemmas.List.Sums.{count_by-le-length}
use Rattle.tp_model.proofs.Counting.{count_more}
use Rattle.tp_listings.specs.declared.extent.Usage.{Usage}

one_more : (b : Bool) (c n : ℕ) → c ≤ 1048576 → n ≡ c + cond b 1 0 → cond b (min (c + 1) 4294967295) c ≡ n
one_more true c n few is = omega (arith, few, is)
one_more false c n few is = omega (arith, is)

changed : (u n m : Usage) (f : ℕ → ℕ) (c d : ℕ) → n ≡ record u { exclusive = c } → m ≡ record n { exclusive = f n.exclusive } → f c ≡ d → m ≡ record u { exclusive = d }
changed u n m f c d one two e = two ∙ (ap (λ (x : Usage). record x { exclusive = f x.exclusive }) one ∙ ap (λ k. record u { exclusive = k }) e)

pub count_next : (owners : List ℕ) (u n m : Usage) (i j owner : ℕ) → owner ≡ slice_index owners i → i < 1048576
    → n ≡ record u { exclusive = count_by (λ place. slice_index owners place == j + 2) (range_with_len 0 i) }
    → m ≡ record n { exclusive = cond (owner == j + 2) (min (n.exclusive + 1) 4294967295) n.exclusive }
    → m ≡ record u { exclusive = count_by (λ place. slice_index owners place == j + 2) (range_with_len 0 (i + 1)) }
count_next owners u n m i j owner is low one two =
    let p : ℕ → Bool = λ place. slice_index owners place == j + 2 in
    let c = count_by p (range_with_len 0 i) in
    let d = count_by p (range_with_len 0 (i + 1)) in
    let few = count_by-le-length p (range_with_len 0 i) in
    let long = length-range_with_len 0 i in
    changed u n m (λ e. cond (owner == j + 2) (min (e + 1) 4294967295) e) c d one two
    (ap (λ o. cond (o == j + 2) (min (c + 1) 4294967295) c) is ∙ one_more (p i) c d (omega (arith, few, long, low)) (count_more p i))
