-- What a stop since some moment leaves, as time goes on.
use Rattle.std.proofs.Common.{◌≡◌, ◌⊎◌, inl, inr, ℕ, zero, suc, ◌+◌, ◌-◌, ◌≤◌, List, [], ◌∷◌, ◌++◌, length, take, refl, sym, ◌∙◌, ap, subst, arith, append_assoc, length-append}
use Rattle.tp_model.specs.Clauses.{GoesOn}
use Rattle.tp_model.specs.Disk.{Cell, DiskState}
use Rattle.tp_model.specs.DiskStops.{LeavesOnly, SomeLeaves, StoppedSince, moments, moment}
use Rattle.tp_model.specs.Geometry.{Geometry}
use Rattle.tp_stored.specs.Contents.{Contents}
use Rattle.tp_meta.specs.Metadata.{IsLater}
use Rattle.tp_pool.specs.Held.{Held, view}

abbrev Moments : Type 0
Moments = List (List Cell)

module _ (image : List (List ℕ)) where
  some_split : (xs ys : Moments) (k n : ℕ) → k ≡ length xs + n → SomeLeaves (take k (xs ++ ys)) image → SomeLeaves xs image ⊎ SomeLeaves (take n ys) image
  some_split [] ys k n e h = let same : k ≡ n = omega arith in inr (subst (λ j. SomeLeaves (take j ys) image) same h)
  some_split (x ∷ xs) ys zero n e h = absurd (omega arith)
  some_split (x ∷ xs) ys (suc k) n e (inl stop) = inl (inl stop)
  some_split (x ∷ xs) ys (suc k) n e (inr h) = elim (some_split xs ys k n (omega arith) h) [ inl a ↦ inl (inr a) | inr b ↦ inr b ]

  some_front : (xs ys : Moments) (k : ℕ) → length xs ≤ k → SomeLeaves xs image → SomeLeaves (take k (xs ++ ys)) image
  some_front [] ys k le h = absurd h
  some_front (x ∷ xs) ys zero le h = absurd (omega arith)
  some_front (x ∷ xs) ys (suc k) le (inl stop) = inl stop
  some_front (x ∷ xs) ys (suc k) le (inr h) = inr (some_front xs ys k (omega arith) h)

  some_back : (xs ys : Moments) (k n : ℕ) → k ≡ length xs + n → SomeLeaves (take n ys) image → SomeLeaves (take k (xs ++ ys)) image
  some_back [] ys k n e h = let same : n ≡ k = omega arith in subst (λ j. SomeLeaves (take j ys) image) same h
  some_back (x ∷ xs) ys zero n e h = absurd (omega arith)
  some_back (x ∷ xs) ys (suc k) n e h = inr (some_back xs ys k n (omega arith) h)

  module _ (old new : DiskState) (between : Moments) (joined : moments new ≡ between ++ moments old) where
    long : length (moments new) ≡ length between + length (moments old)
    long = ap length joined ∙ length-append between (moments old)

    count : (t : ℕ) → t ≤ moment old → length (moments new) - t ≡ length between + (length (moments old) - t)
    count t le = omega (arith, long)

    pub stopped_still : (t : ℕ) → t ≤ moment old → StoppedSince t old image → StoppedSince t new image
    stopped_still t le h =
        subst (λ (l : Moments). SomeLeaves (take (length (moments new) - t) l) image) (sym joined)
        (some_back between (moments old) (length (moments new) - t) (length (moments old) - t) (count t le) h)

    pub stopped_earlier : (t : ℕ) → t ≤ moment old → StoppedSince t new image → StoppedSince t old image ⊎ StoppedSince (moment old) new image
    stopped_earlier t le h =
        elim (some_split between (moments old) (length (moments new) - t) (length (moments old) - t) (count t le) (subst (λ (l : Moments). SomeLeaves (take (length (moments new) - t) l) image) joined h)) [
          | inl a ↦ inr (subst (λ (l : Moments). SomeLeaves (take (length (moments new) - moment old) l) image) (sym joined)
              (some_front between (moments old) (length (moments new) - moment old) (omega (arith, long)) a))
          | inr b ↦ inl b
        ]

module _ {M : Type 0} (geometry : M → Geometry) (stands : M → DiskState → Contents → Contents → Type 0) where
  pub goes_on : (old new : Held M) → IsLater old.disk new.disk → GoesOn (view geometry stands) old new
  goes_on old new later =
      let between = later.between in
      let joined = later.joined in
      record {
        later = omega (arith, ap length joined, length-append between (moments old.disk));
        still = λ t image le h. stopped_still image old.disk new.disk between joined t le h;
        earlier = λ t image le h. stopped_earlier image old.disk new.disk between joined t le h;
      }

pub at_once : (d : DiskState) → IsLater d d
at_once d = record { between = []; joined = refl }

pub then_later : {a b c : DiskState} → IsLater a b → IsLater b c → IsLater a c
then_later {a} {b} {c} f s = record { between = s.between ++ f.between; joined = s.joined ∙ ap (λ (l : Moments). s.between ++ l) f.joined ∙ sym (append_assoc s.between f.between (moments a)) }

pub still_later : {a b c : DiskState} → IsLater a b → moments c ≡ moments b → IsLater a c
still_later later e = record { between = later.between; joined = e ∙ later.joined }

pub leaves_later : {P : List (List ℕ) → Type 0} {a b : DiskState} → LeavesOnly a b P → IsLater a b
leaves_later left = record { between = left.between; joined = left.joined }
