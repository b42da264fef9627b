-- What a stop may leave after each call of a disk, and how a run goes on.
use Rattle.std.proofs.Common.{◌≡◌, ◌⊎◌, inl, inr, ⊎_elim, ℕ, zero, suc, ◌+◌, ◌-◌, ◌<◌, ◌≤◌, Bool, true, false, List, [], ◌∷◌, ◌++◌, length, take, drop, refl, sym, ◌∙◌, ap, subst, arith, append_assoc, length-append}
use Rattle.std.proofs.lemmas.List.{take_at, get_or_past, length-map, ext_get_or, length-drop, get_or-drop, drop_at, length-take-le}
use Rattle.std.proofs.lemmas.Bool.{cases_lt}
use Rattle.std.specs.Prelude.{Result, Ok, Err, is_ok, OnOk, ◌%◌, ◌/◌, ◌*◌}
use Rattle.std.specs.List.{AllByRecursion, concat}
use Rattle.tp_model.specs.Sectors.{bytes_at, sectors_of, sector_at}
use Rattle.tp_model.specs.Disk.{IsWellFormed, after_write, Cell, DiskState, newest, last_of, settled_cell, cell_at, seen, settled, written, Touched, IsTouched, MayLeave, IsOneOf, Writes, after_read, after_flush}
use Rattle.tp_model.specs.DiskStops.{PartlyOverlaid, SameOutside, IsFrom, LeavesOutside, AfterStop, Leaves, moments, moment, SomeLeaves, StoppedSince, LeavesOnly}
use Rattle.tp_model.proofs.DiskLaws.{cell_at-settled, sector_at-seen, cell_at-written, cell_at-written_below, cell_at-written_above, last_of-push, length-written, length-sectors_of, overlaid_is, seen-written, concat-chopped}

abbrev Image : Type 0
Image = List (List ℕ)

-- what reads give is among what a stop may leave

IsOneOf-last : (xs : Image) (first : List ℕ) → IsOneOf (first ∷ xs) (last_of xs first)
IsOneOf-last [] first = inl refl
IsOneOf-last (x ∷ xs) first = inr (IsOneOf-last xs x)

pub AfterStop-seen : (cells : List Cell) → AfterStop cells (seen cells)
AfterStop-seen cells = record {
  same_length = length-map cells newest;
  each = λ i. let c = cell_at cells i in subst (λ v. MayLeave c v) (sym (sector_at-seen cells i)) (IsOneOf-last c.later c.kept);
}

-- a settled disk keeps its image alone
pub settled_keeps : (image left : Image) → AfterStop (settled image) left → left ≡ image
settled_keeps image left stop = ext_get_or [] left image (stop.same_length ∙ length-map image settled_cell) (λ i h.
    let one : MayLeave (settled_cell (sector_at image i)) (sector_at left i) = subst (λ (c : Cell). MayLeave c (sector_at left i)) (cell_at-settled image i) (stop.each i) in
    ⊎_elim (λ e. e) (λ none. absurd none) one)

IsOneOf-append : (xs ys : Image) (v : List ℕ) → IsOneOf (xs ++ ys) v → IsOneOf xs v ⊎ IsOneOf ys v
IsOneOf-append [] ys v h = inr h
IsOneOf-append (x ∷ xs) ys v (inl e) = inl (inl e)
IsOneOf-append (x ∷ xs) ys v (inr h) = ⊎_elim (λ a. inl (inr a)) (λ b. inr b) (IsOneOf-append xs ys v h)

IsOneOf-more : (old : Cell) (value v : List ℕ) (more : Image) → (IsOneOf more v → MayLeave old v ⊎ (v ≡ value)) → IsOneOf (old.later ++ more) v → MayLeave old v ⊎ (v ≡ value)
IsOneOf-more old value v more then h = ⊎_elim (λ a. inl (inr a)) then (IsOneOf-append old.later more v h)

is_newest : (old : Cell) (v : List ℕ) → v ≡ newest old → MayLeave old v
is_newest old v e = subst (λ w. MayLeave old w) (sym e) (IsOneOf-last old.later old.kept)

touched_later : (value v : List ℕ) (old new : Cell)
    → ((new.later ≡ old.later) ⊎ (new.later ≡ old.later ++ value ∷ []) ⊎ (new.later ≡ old.later ++ newest old ∷ []) ⊎ (new.later ≡ old.later ++ value ∷ newest old ∷ []))
    → IsOneOf new.later v → MayLeave old v ⊎ (v ≡ value)
touched_later value v old new (inl e) h = inl (inr (subst (λ l. IsOneOf l v) e h))
touched_later value v old new (inr (inl e)) h = IsOneOf-more old value v (value ∷ []) (λ m. ⊎_elim (λ e. inr e) (λ none. absurd none) m) (subst (λ l. IsOneOf l v) e h)
touched_later value v old new (inr (inr (inl e))) h =
    IsOneOf-more old value v (newest old ∷ []) (λ m. ⊎_elim (λ e. inl (is_newest old v e)) (λ none. absurd none) m) (subst (λ l. IsOneOf l v) e h)
touched_later value v old new (inr (inr (inr e))) h =
    IsOneOf-more old value v (value ∷ newest old ∷ []) (λ m. ⊎_elim (λ e. inr e) (λ m. ⊎_elim (λ e. inl (is_newest old v e)) (λ none. absurd none) m) m) (subst (λ l. IsOneOf l v) e h)

pub MayLeave-touched : (value v : List ℕ) (old new : Cell) → IsTouched value old new → MayLeave new v → MayLeave old v ⊎ (v ≡ value)
MayLeave-touched value v old new touched (inl e) = inl (inl (e ∙ touched.kept))
MayLeave-touched value v old new touched (inr h) = touched_later value v old new touched.later h

-- a list of values, one for each index
cons_each : (n : ℕ) (Q : ℕ → List ℕ → Type 0) (v : List ℕ) (vs : Image) → Q 0 v → ((i : ℕ) → i < n → Q (suc i) (sector_at vs i)) → (i : ℕ) → i < suc n → Q i (sector_at (v ∷ vs) i)
cons_each n Q v vs here there zero h = here
cons_each n Q v vs here there (suc i) h = there i (omega arith)

choose : (n : ℕ) (Q : ℕ → List ℕ → Type 0) → ((i : ℕ) → i < n → (v : List ℕ) × Q i v) → (image : Image) × (length image ≡ n) × ((i : ℕ) → i < n → Q i (sector_at image i))
choose zero Q pick = ([], refl, λ i h. absurd (omega arith))
choose (suc n) Q pick =
    let here = pick 0 (omega arith) in
    let rest = choose n (λ i. Q (suc i)) (λ i h. pick (suc i) (omega arith)) in
    (here.0 ∷ rest.0, ap suc rest.1, cons_each n Q here.0 rest.0 here.1 rest.2)

module _ (at : ℕ) (values : Image) (old new : List Cell) (touched : Touched at values old new) (image : Image) (stop : AfterStop new image) where
  abbrev FromWrite : ℕ → Type 0
  FromWrite i = (k : ℕ) × (i ≡ at + k) × (k < length values) × (sector_at image i ≡ sector_at values k)

  abbrev Source : ℕ → List ℕ → Type 0
  Source i v = MayLeave (cell_at old i) v × ((sector_at image i ≡ v) ⊎ FromWrite i)

  unchanged : (i : ℕ) → cell_at new i ≡ cell_at old i → (v : List ℕ) × Source i v
  unchanged i e = (sector_at image i, (subst (λ (c : Cell). MayLeave c (sector_at image i)) e (stop.each i), inl refl))

  changed : (i k : ℕ) → i ≡ at + k → k < length values → (v : List ℕ) × Source i v
  changed i k e h =
      let t : IsTouched (sector_at values k) (cell_at old i) (cell_at new i) = rw e (touched.inside k h) in
      ⊎_elim {C = (v : List ℕ) × Source i v} (λ m. (sector_at image i, (m, inl refl))) (λ is. ((cell_at old i).kept, (inl refl, inr (k, e, h, is))))
      (MayLeave-touched (sector_at values k) (sector_at image i) (cell_at old i) (cell_at new i) t (stop.each i))

  source : (i : ℕ) → i < length image → (v : List ℕ) × Source i v
  source i h = ⊎_elim (λ lt. unchanged i (touched.below i lt))
      (λ ge. ⊎_elim (λ lt. changed i (i - at) (omega arith) (omega arith)) (λ past. unchanged i (touched.above i past)) (cases_lt i (at + length values))) (cases_lt i at)

  module _ (before : Image) (long : length before ≡ length image) (from : (i : ℕ) → i < length image → Source i (sector_at before i)) where
    same_or_written : (i : ℕ) → (sector_at image i ≡ sector_at before i) ⊎ FromWrite i
    same_or_written i = ⊎_elim (λ lt. (from i lt).1) (λ past. inl (get_or_past image i [] past ∙ sym (get_or_past before i [] (omega (arith, long))))) (cases_lt i (length image))

    not_written : (i : ℕ) → (FromWrite i → ⊥) → sector_at image i ≡ sector_at before i
    not_written i none = ⊎_elim (λ e. e) (λ w. absurd (none w)) (same_or_written i)

    may : (i : ℕ) → MayLeave (cell_at old i) (sector_at before i)
    may i = ⊎_elim (λ lt. (from i lt).0)
        (λ past. subst (λ v. MayLeave (cell_at old i) v) (sym (get_or_past before i [] (omega (arith, long))))
        (subst (λ (c : Cell). MayLeave c []) (sym (get_or_past old i (settled_cell []) (omega (arith, stop.same_length, touched.same_length)))) (inl refl)))
        (cases_lt i (length image))

    could_be : AfterStop old before
    could_be = record { same_length = long ∙ stop.same_length ∙ touched.same_length; each = may }

    overlaid_partly : PartlyOverlaid at values before image
    overlaid_partly = record {
      same_length = sym long;
      below = λ i lt. not_written i (λ w. omega (arith, w.1, lt));
      above = λ i past. not_written i (λ w. omega (arith, w.1, w.2, past));
      inside = λ k lt. ⊎_elim (λ e. inl e) (λ w. let same : w.0 ≡ k = omega (arith, w.1) in inr (w.3 ∙ ap (sector_at values) same)) (same_or_written (at + k));
    }

-- a stop after a write, be it one that failed, leaves what a stop before it may leave, with some of its sectors written or none
pub stop_after_write : (at : ℕ) (values : Image) (old new : List Cell) → Touched at values old new → (image : Image) → AfterStop new image
    → (before : Image) × AfterStop old before × PartlyOverlaid at values before image
stop_after_write at values old new touched image stop =
    let all = choose (length image) (Source at values old new touched image stop) (source at values old new touched image stop) in (
      all.0,
      could_be at values old new touched image stop all.0 all.1 all.2,
      overlaid_partly at values old new touched image stop all.0 all.1 all.2,
    )

-- runs

-- before the first call
pub starts : {P : Image → Type 0} (disk : DiskState) → Leaves P disk.cells → LeavesOnly disk disk P
starts disk first = record { between = []; joined = refl; first = first; each = tt }

each-append : (P : List Cell → Type 0) (xs ys : List (List Cell)) → AllByRecursion P xs → AllByRecursion P ys → AllByRecursion P (xs ++ ys)
each-append P [] ys hs ks = ks
each-append P (x ∷ xs) ys hs ks = (hs.0, each-append P xs ys hs.1 ks)

-- one run after another
pub joins : {P : Image → Type 0} {a b c : DiskState} → LeavesOnly a b P → LeavesOnly b c P → LeavesOnly a c P
joins {P} {a} {b} {c} r s = record {
  between = s.between ++ r.between;
  joined = s.joined ∙ ap (λ l. s.between ++ l) r.joined ∙ sym (append_assoc s.between r.between (moments a));
  first = r.first;
  each = each-append (Leaves P) s.between r.between s.each r.each;
}

each-weaker : {P Q : Image → Type 0} → ((image : Image) → P image → Q image) → (xs : List (List Cell)) → AllByRecursion (Leaves P) xs → AllByRecursion (Leaves Q) xs
each-weaker weaker [] hs = tt
each-weaker weaker (x ∷ xs) hs = (λ image stop. weaker image (hs.0 image stop), each-weaker weaker xs hs.1)

pub weakens : {P Q : Image → Type 0} {a b : DiskState} → ((image : Image) → P image → Q image) → LeavesOnly a b P → LeavesOnly a b Q
weakens weaker r = record { between = r.between; joined = r.joined; first = λ image stop. weaker image (r.first image stop); each = each-weaker weaker r.between r.each }

-- a call that leaves the cells as they are, as a read, and a write or flush that failed at once
pub stays : {P : Image → Type 0} {a b c : DiskState} → LeavesOnly a b P → moments c ≡ moments b → LeavesOnly a c P
stays r e = record { between = r.between; joined = e ∙ r.joined; first = r.first; each = r.each }

-- a call after which the cells are others
pub moves : {P : Image → Type 0} {a b c : DiskState} → LeavesOnly a b P → c.past ≡ moments b → Leaves P c.cells → LeavesOnly a c P
moves {P} {a} {b} {c} r e now = record { between = c.cells ∷ r.between; joined = ap (λ l. c.cells ∷ l) (e ∙ r.joined); first = r.first; each = (now, r.each) }

-- the present moment is one of the run's
pub now : {P : Image → Type 0} {a b : DiskState} → LeavesOnly a b P → Leaves P b.cells
now {P} {a} {b} r = last r.between (ap head r.joined) r.each
  where
    head : List (List Cell) → List Cell
    head [] = []
    head (x ∷ xs) = x

    last : (between : List (List Cell)) → b.cells ≡ head (between ++ moments a) → AllByRecursion (Leaves P) between → Leaves P b.cells
    last [] e each = subst (λ (l : List Cell). Leaves P l) (sym e) r.first
    last (x ∷ xs) e each = subst (λ (l : List Cell). Leaves P l) (sym e) each.0

-- a read
pub goes_on_read : {P : Image → Type 0} {a b c : DiskState} (ok : Bool) → LeavesOnly a b P → c ≡ after_read ok b → LeavesOnly a c P
goes_on_read ok r e = stays r (ap moments e)

pub leaves_after_flush : {P : Image → Type 0} (cells : List Cell) → Leaves P cells → Leaves P (settled (seen cells))
leaves_after_flush {P} cells leaves image stop = subst P (sym (settled_keeps (seen cells) image stop)) (leaves (seen cells) (AfterStop-seen cells))

-- a flush, whether it succeeds or not
pub goes_on_flush : {P : Image → Type 0} {a b c : DiskState} (ok : Bool) → LeavesOnly a b P → c ≡ after_flush ok b → LeavesOnly a c P
goes_on_flush {P} {a} {b} {c} true r e = moves r (ap (λ (d : DiskState). d.past) e) (subst (λ (d : DiskState). Leaves P d.cells) (sym e) (leaves_after_flush b.cells (now r)))
goes_on_flush false r e = stays r (ap moments e)

pub leaves_after_write : {P Q : Image → Type 0} (at : ℕ) (values : Image) (old new : List Cell) → Touched at values old new → Leaves Q old
    → ((before image : Image) → Q before → PartlyOverlaid at values before image → P image) → Leaves P new
leaves_after_write at values old new touched was step image stop =
    let from = stop_after_write at values old new touched image stop in step from.0 image (was from.0 from.1) from.2

-- a write, whether it succeeds or not, from what a stop may leave before it
pub goes_on_write : {P Q : Image → Type 0} {a b c : DiskState} {at : ℕ} {values : Image} → LeavesOnly a b P → Writes at values b c → Leaves Q b.cells
    → ((before image : Image) → Q before → PartlyOverlaid at values before image → P image) → LeavesOnly a c P
goes_on_write {P} {Q} {a} {b} {c} {at} {values} r writes was step =
    let here = leaves_after_write {P = P} {Q = Q} at values b.cells c.cells writes.touched was step in
    ⊎_elim {C = LeavesOnly a c P} (λ e. moves r e here) (λ same. stays r (ap (λ (l : List Cell). l ∷ c.past) same.1 ∙ ap (λ (l : List (List Cell)). b.cells ∷ l) same.0)) writes.past

some_left : (P : Image → Type 0) (xs : List (List Cell)) (image : Image) → SomeLeaves xs image → AllByRecursion (Leaves P) xs → P image
some_left P [] image none each = absurd none
some_left P (x ∷ xs) image (inl stop) each = each.0 image stop
some_left P (x ∷ xs) image (inr some) each = some_left P xs image some each.1

take_between : (xs : List (List Cell)) (x : List Cell) (ys : List (List Cell)) (n : ℕ) → n ≡ length xs + 1 → take n (xs ++ x ∷ ys) ≡ xs ++ x ∷ []
take_between [] x ys n e = ap (λ k. take k (x ∷ ys)) (let one : n ≡ 1 = omega arith in one)
take_between (z ∷ xs) x ys zero e = absurd (omega arith)
take_between (z ∷ xs) x ys (suc n) e = ap (λ (l : List (List Cell)). z ∷ l) (take_between xs x ys n (omega arith))

-- what the record says, of each image that a stop since the start may have left
pub stopped : {P : Image → Type 0} {a b : DiskState} → LeavesOnly a b P → (image : Image) → StoppedSince (moment a) b image → P image
stopped {P} {a} {b} r image some =
    let count : length (moments b) - moment a ≡ length r.between + 1 = omega (arith, ap length r.joined, length-append r.between (moments a)) in
    let same = ap (λ n. take n (moments b)) count ∙ ap (λ (l : List (List Cell)). take (length r.between + 1) l) r.joined ∙ take_between r.between a.cells a.past (length r.between + 1) refl in
    some_left P (r.between ++ a.cells ∷ []) image (subst (λ (l : List (List Cell)). SomeLeaves l image) same some)
    (each-append (Leaves P) r.between (a.cells ∷ []) r.each (r.first, tt))

-- what reads give after a write that succeeded

pub sector_at-written : (at i j : ℕ) (values : Image) (cells : List Cell) → j ≡ at + i → i < length values → at + length values ≤ length cells → sector_at (seen (written at values cells)) j ≡ sector_at values i
sector_at-written at i j values cells e h fits =
    let cell = cell_at-written at values cells i j e h (omega (arith, e, h, fits)) in
    sector_at-seen (written at values cells) j ∙ ap newest cell ∙ last_of-push (cell_at cells j).later (sector_at values i) (cell_at cells j).kept

pub PartlyOverlaid-seen : (at : ℕ) (values : Image) (cells : List Cell) → at + length values ≤ length cells → PartlyOverlaid at values (seen cells) (seen (written at values cells))
PartlyOverlaid-seen at values cells fits = record {
  same_length = length-map (written at values cells) newest ∙ length-written at values cells ∙ sym (length-map cells newest);
  below = λ i h. sector_at-seen (written at values cells) i ∙ ap newest (cell_at-written_below at values cells i h) ∙ sym (sector_at-seen cells i);
  above = λ i h. sector_at-seen (written at values cells) i ∙ ap newest (cell_at-written_above at values cells i h) ∙ sym (sector_at-seen cells i);
  inside = λ i h. inr (sector_at-written at i (at + i) values cells refl h fits);
}

-- after a flush that succeeded

pub flush_settles : {T E : Type 0} (r : Result T E) (a b : DiskState) → b ≡ after_flush (is_ok r) a → OnOk r (b.cells ≡ settled (seen a.cells))
flush_settles (Ok x) a b e = ap (λ (d : DiskState). d.cells) e
flush_settles (Err x) a b e = tt

pub leaves_settled : (P : Image → Type 0) (image : Image) (cells : List Cell) → cells ≡ settled image → P image → Leaves P cells
leaves_settled P image cells e holds left stop = subst P (sym (settled_keeps image left (subst (λ (l : List Cell). AfterStop l left) e stop))) holds

-- what a stop may leave after a flush, whether it succeeded or not, it may have left before
pub leaves_flushed : (P : Image → Type 0) (ok : Bool) (a b : DiskState) → b ≡ after_flush ok a → Leaves P a.cells → Leaves P b.cells
leaves_flushed P true a b e leaves = subst (λ (d : DiskState). Leaves P d.cells) (sym e) (leaves_after_flush a.cells leaves)
leaves_flushed P false a b e leaves = subst (λ (d : DiskState). Leaves P d.cells) (sym e) leaves

-- changes within a range

pub SameOutside-none : (at n : ℕ) (image : Image) → SameOutside at n image image
SameOutside-none at n image = record { same_length = refl; below = λ i h. refl; above = λ i h. refl }

pub SameOutside-then : {at n : ℕ} {a b c : Image} → SameOutside at n a b → SameOutside at n b c → SameOutside at n a c
SameOutside-then r s = record { same_length = s.same_length ∙ r.same_length; below = λ i h. s.below i h ∙ r.below i h; above = λ i h. s.above i h ∙ r.above i h }

-- a write within the range
pub SameOutside-partly : {from : ℕ} {values before image : Image} (at n : ℕ) → PartlyOverlaid from values before image → at ≤ from → from + length values ≤ at + n → SameOutside at n before image
SameOutside-partly at n over low high = record {
  same_length = over.same_length;
  below = λ i h. over.below i (omega (arith, h, low));
  above = λ i h. over.above i (omega (arith, h, high));
}

-- what reads give around a write, whether it succeeded or not
pub SameOutside-writes : {from : ℕ} {values : Image} {old new : DiskState} (at n : ℕ) → Writes from values old new → at ≤ from → from + length values ≤ at + n → SameOutside at n (seen old.cells) (seen new.cells)
SameOutside-writes {from} {values} {old} {new} at n writes low high =
    let same : (i : ℕ) → cell_at new.cells i ≡ cell_at old.cells i → sector_at (seen new.cells) i ≡ sector_at (seen old.cells) i
    = λ i e. sector_at-seen new.cells i ∙ ap newest e ∙ sym (sector_at-seen old.cells i) in
    record {
      same_length = length-map new.cells newest ∙ writes.touched.same_length ∙ sym (length-map old.cells newest);
      below = λ i h. same i (writes.touched.below i (omega (arith, h, low)));
      above = λ i h. same i (writes.touched.above i (omega (arith, h, high)));
    }

pub starts_outside : (at n : ℕ) (disk : DiskState) → LeavesOutside at n disk disk
starts_outside at n disk = starts {P = IsFrom at n disk.cells} disk (λ image stop. (image, stop, SameOutside-none at n image))

pub goes_on_outside : {at n from : ℕ} {values : Image} {a b c : DiskState} → LeavesOutside at n a b → Writes from values b c → at ≤ from → from + length values ≤ at + n → LeavesOutside at n a c
goes_on_outside {at} {n} {from} {values} {a} {b} {c} r writes low high =
    goes_on_write {P = IsFrom at n a.cells} {Q = IsFrom at n a.cells} r writes (now r)
    (λ before image was over. (was.0, was.1, SameOutside-then was.2 (SameOutside-partly at n over low high)))

-- what holds of the images before holds after, if it does not depend on the range
pub weakens_outside : {at n : ℕ} {a b : DiskState} (P Q : Image → Type 0) → LeavesOutside at n a b → Leaves P a.cells → ((before image : Image) → P before → SameOutside at n before image → Q image) → LeavesOnly a b Q
weakens_outside P Q r was step = weakens {Q = Q} (λ image from. step from.0 image (was from.0 from.1) from.2) r

-- runs of sectors as bytes

same_run : (n : ℕ) (a b : Image) → length a ≡ length b → ((i : ℕ) → i < n → sector_at a i ≡ sector_at b i) → take n a ≡ take n b
same_run zero a b e same = refl
same_run (suc n) [] [] e same = refl
same_run (suc n) [] (y ∷ b) e same = absurd (omega (arith, e))
same_run (suc n) (x ∷ a) [] e same = absurd (omega (arith, e))
same_run (suc n) (x ∷ a) (y ∷ b) e same =
    ap (λ (l : Image). x ∷ l) (same_run n a b (omega (arith, e)) (λ i h. same (suc i) (omega (arith, h)))) ∙ ap (λ v. v ∷ take n b) (same 0 (omega arith))

-- images that agree on a run of sectors have its bytes
pub bytes_at-same : (at n : ℕ) (a b : Image) → length a ≡ length b → ((i : ℕ) → at ≤ i → i < at + n → sector_at a i ≡ sector_at b i) → bytes_at a at n ≡ bytes_at b at n
bytes_at-same at n a b e same =
    ap concat (same_run n (drop at a) (drop at b) (omega (arith, e, length-drop at a, length-drop at b))
    (λ i h. get_or-drop at a i [] ∙ same (at + i) (omega arith) (omega (arith, h)) ∙ sym (get_or-drop at b i [])))

-- a run apart from the changed one
pub bytes_at-outside : {from m : ℕ} {a b : Image} (at n : ℕ) → SameOutside from m a b → (at + n ≤ from) ⊎ (from + m ≤ at) → bytes_at b at n ≡ bytes_at a at n
bytes_at-outside {from} {m} {a} {b} at n out (inl h) = bytes_at-same at n b a out.same_length (λ i low high. out.below i (omega (arith, h, high)))
bytes_at-outside {from} {m} {a} {b} at n out (inr h) = bytes_at-same at n b a out.same_length (λ i low high. out.above i (omega (arith, h, low)))

-- what was written is read back
pub bytes_at-written : (at : ℕ) (bytes : List ℕ) (cells : List Cell) → length bytes % 512 ≡ 0 → at + length bytes / 512 ≤ length cells
    → bytes_at (seen (written at (sectors_of bytes) cells)) at (length bytes / 512) ≡ bytes
bytes_at-written at bytes cells whole fits =
    let n = length bytes / 512 in
    let ss = sectors_of bytes in
    let long = length-sectors_of bytes in
    let count : length (seen cells) ≡ length cells = length-map cells newest in
    let is = overlaid_is at ss (seen cells) (at + length ss) refl (omega (arith, long, fits, count)) in
    let front : length (take at (seen cells)) ≡ at = length-take-le at (seen cells) (omega (arith, fits, count)) in
    let rest = drop (at + length ss) (seen cells) in
    ap (λ l. bytes_at l at n) (seen-written at ss cells ∙ is ∙ append_assoc (take at (seen cells)) ss rest)
    ∙ ap (λ (l : Image). concat (take n l)) (drop_at (take at (seen cells)) (ss ++ rest) at front)
    ∙ ap concat (take_at ss rest n long) ∙ concat-chopped n bytes (omega (arith, whole))

-- the same at a disk's state, where n is the number of sectors
pub bytes_at-after_write : (at n : ℕ) (bytes : List ℕ) (old new : DiskState) → IsWellFormed old.size old.cells → length bytes ≡ 512 * n → at + n ≤ old.size → new ≡ after_write at (sectors_of bytes) old
    → bytes_at (seen new.cells) at n ≡ bytes
bytes_at-after_write at n bytes old new sound long fits e =
    let count : n ≡ length bytes / 512 = omega (arith, long) in
    let whole : length bytes % 512 ≡ 0 = omega (arith, long) in
    ap (λ (d : DiskState). bytes_at (seen d.cells) at n) e ∙ ap (λ k. bytes_at (seen (written at (sectors_of bytes) old.cells)) at k) count
    ∙ bytes_at-written at bytes old.cells whole (omega (arith, fits, sound.size_is, count))
