-- A part of a slice that was written over.
use Rattle.std.proofs.Common.{length-append, ◌≡◌, ℕ, ◌+◌, ◌≤◌, List, length, take, drop, sym, ap, arith}
use Rattle.std.proofs.lemmas.List.{take-append-drop, length-drop, length-take-le}
use Rattle.std.proofs.lemmas.Slice.{drop-put_mid, take-put_mid}
use borrow.Rule.Slice.PartMut.{put_mid}

pub length-put_mid : (xs ys : List ℕ) (a k : ℕ) → a + k ≤ length xs → length ys ≡ k → length (put_mid a k xs ys) ≡ length xs
length-put_mid xs ys a k h e =
    let new = put_mid a k xs ys in
    let front = take-put_mid a k xs ys (a + k) (omega (arith, e)) (omega (arith, h)) in
    let back = drop-put_mid a k xs ys (a + k) (omega arith) (omega (arith, h)) e in
    omega (
      arith,
      h,
      e,
      ap length (sym (take-append-drop (a + k) new)),
      length-append (take (a + k) new) (drop (a + k) new),
      ap length front,
      length-append (take a xs) ys,
      length-take-le a xs (omega (arith, h)),
      ap length back,
      length-drop (a + k) xs,
    )
