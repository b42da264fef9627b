-- What a stop since some moment leaves: now, and since an earlier one.
use Rattle.std.proofs.Common.{◌≡◌, inl, inr, ℕ, zero, suc, ◌-◌, ◌≤◌, List, [], ◌∷◌, length, take, subst, arith}
use Rattle.tp_model.specs.Disk.{Cell, DiskState}
use Rattle.tp_model.specs.DiskStops.{AfterStop, SomeLeaves, StoppedSince, moments, moment}

module _ (image : List (List ℕ)) where
  pub stopped_now : (d : DiskState) → StoppedSince (moment d) d image → AfterStop d.cells image
  stopped_now d h =
      let one : length (moments d) - moment d ≡ 1 = omega arith in
      elim (subst (λ n. SomeLeaves (take n (moments d)) image) one h) [ inl stop ↦ stop | inr none ↦ absurd none ]

  some_longer : (xs : List (List Cell)) (k n : ℕ) → k ≤ n → SomeLeaves (take k xs) image → SomeLeaves (take n xs) image
  some_longer xs zero n le h = absurd h
  some_longer [] (suc k) zero le h = absurd (omega arith)
  some_longer [] (suc k) (suc n) le h = absurd h
  some_longer (x ∷ xs) (suc k) zero le h = absurd (omega arith)
  some_longer (x ∷ xs) (suc k) (suc n) le (inl stop) = inl stop
  some_longer (x ∷ xs) (suc k) (suc n) le (inr h) = inr (some_longer xs k n (omega arith) h)

  pub stopped_at : (d : DiskState) → AfterStop d.cells image → StoppedSince (moment d) d image
  stopped_at d stop =
      let one : 1 ≡ length (moments d) - moment d = omega arith in
      subst (λ n. SomeLeaves (take n (moments d)) image) one (inl stop)

  pub stopped_longer : (d : DiskState) (t u : ℕ) → t ≤ u → StoppedSince u d image → StoppedSince t d image
  stopped_longer d t u le h = some_longer (moments d) (length (moments d) - u) (length (moments d) - t) (omega arith) h
