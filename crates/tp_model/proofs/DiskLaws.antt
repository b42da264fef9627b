-- What writes and flushes do to the cells, and what reads give.
use Rattle.std.proofs.Common.{◌≡◌, inl, inr, ℕ, zero, suc, ◌+◌, ◌-◌, ◌*◌, zero-add, ◌/◌, ◌<◌, ◌≤◌, List, [], ◌∷◌, ◌++◌, length, take, drop, refl, sym, ◌∙◌, ap, subst, arith, append_assoc, length-append, replicate}
use Rattle.std.proofs.lemmas.List.{take_at, drop_at, take_all, length-take-le, take-append-drop, length-drop, length-map, nil_from_length, drop_all, drop-drop, append-nil, replicate-append-replicate}
use Rattle.std.proofs.lemmas.List.Elements.{All-nil, All-push, All-from_recursion, recursion_from_All}
use Rattle.std.specs.Prelude.{◌%◌, ◌^◌, Bool, Some, slice_get}
use Rattle.std.specs.List.{concat, AllByRecursion}
use Rattle.tp_model.specs.Sectors.{sector_at, overlaid, chopped, sectors_of, bytes_at, zero_sector}
use Rattle.tp_model.specs.Disk.{DiskState, Writes, after_read, after_write, Cell, newest, last_of, appended, settled_cell, cell_at, seen, settled, written, Touched, IsWholeCell, IsWellFormed}

abbrev Values : Type 0
Values = List (List ℕ)

pub length-written : (at : ℕ) (values : Values) (cells : List Cell) → length (written at values cells) ≡ length cells
unfolding written
length-written zero [] cells = refl
length-written zero (v ∷ vs) [] = refl
length-written zero (v ∷ vs) (c ∷ cells) = ap suc (length-written zero vs cells)
length-written (suc at) vs [] = refl
length-written (suc at) vs (c ∷ cells) = ap suc (length-written at vs cells)

pub cell_at-written_below : (at : ℕ) (values : Values) (cells : List Cell) (i : ℕ) → i < at → cell_at (written at values cells) i ≡ cell_at cells i
unfolding written
cell_at-written_below zero vs cells i h = absurd (omega arith)
cell_at-written_below (suc at) vs [] i h = refl
cell_at-written_below (suc at) vs (c ∷ cells) zero h = refl
cell_at-written_below (suc at) vs (c ∷ cells) (suc i) h = cell_at-written_below at vs cells i (omega arith)

pub cell_at-written_above : (at : ℕ) (values : Values) (cells : List Cell) (i : ℕ) → at + length values ≤ i → cell_at (written at values cells) i ≡ cell_at cells i
unfolding written
cell_at-written_above zero [] cells i h = refl
cell_at-written_above zero (v ∷ vs) [] i h = refl
cell_at-written_above zero (v ∷ vs) (c ∷ cells) zero h = absurd (omega arith)
cell_at-written_above zero (v ∷ vs) (c ∷ cells) (suc i) h = cell_at-written_above zero vs cells i (omega arith)
cell_at-written_above (suc at) vs [] i h = refl
cell_at-written_above (suc at) vs (c ∷ cells) zero h = absurd (omega arith)
cell_at-written_above (suc at) vs (c ∷ cells) (suc i) h = cell_at-written_above at vs cells i (omega arith)

pub cell_at-written : (at : ℕ) (values : Values) (cells : List Cell) (i j : ℕ) → j ≡ at + i → i < length values → j < length cells
    → cell_at (written at values cells) j ≡ appended (cell_at cells j) (sector_at values i)
unfolding written
cell_at-written at vs [] i j e h fits = absurd (omega arith)
cell_at-written zero [] (c ∷ cells) i j e h fits = absurd (omega arith)
cell_at-written zero (v ∷ vs) (c ∷ cells) zero zero e h fits = refl
cell_at-written zero (v ∷ vs) (c ∷ cells) zero (suc j) e h fits = absurd (omega arith)
cell_at-written zero (v ∷ vs) (c ∷ cells) (suc i) zero e h fits = absurd (omega arith)
cell_at-written zero (v ∷ vs) (c ∷ cells) (suc i) (suc j) e h fits = cell_at-written zero vs cells i j (omega arith) (omega arith) (omega arith)
cell_at-written (suc at) vs (c ∷ cells) i zero e h fits = absurd (omega arith)
cell_at-written (suc at) vs (c ∷ cells) i (suc j) e h fits = cell_at-written at vs cells i j (omega arith) (omega arith) (omega arith)

pub last_of-push : (xs : Values) (x first : List ℕ) → last_of (xs ++ x ∷ []) first ≡ x
last_of-push [] x first = refl
last_of-push (y ∷ xs) x first = last_of-push xs x y

pub seen-written : (at : ℕ) (values : Values) (cells : List Cell) → seen (written at values cells) ≡ overlaid at values (seen cells)
unfolding written overlaid
seen-written zero [] cells = refl
seen-written zero (v ∷ vs) [] = refl
seen-written zero (v ∷ vs) (c ∷ cells) = ap (λ x. x ∷ seen (written zero vs cells)) (last_of-push c.later v c.kept) ∙ ap (λ (l : Values). v ∷ l) (seen-written zero vs cells)
seen-written (suc at) vs [] = refl
seen-written (suc at) vs (c ∷ cells) = ap (λ (l : Values). newest c ∷ l) (seen-written at vs cells)

pub overlaid_is : (at : ℕ) (values image : Values) (n : ℕ) → n ≡ at + length values → n ≤ length image → overlaid at values image ≡ take at image ++ values ++ drop n image
unfolding overlaid
overlaid_is zero [] image zero e h = refl
overlaid_is zero [] image (suc n) e h = absurd (omega arith)
overlaid_is zero (v ∷ vs) [] n e h = absurd (omega arith)
overlaid_is zero (v ∷ vs) (s ∷ image) zero e h = absurd (omega arith)
overlaid_is zero (v ∷ vs) (s ∷ image) (suc n) e h = ap (λ (l : Values). v ∷ l) (overlaid_is zero vs image n (omega arith) (omega arith))
overlaid_is (suc at) vs [] n e h = absurd (omega arith)
overlaid_is (suc at) vs (s ∷ image) zero e h = absurd (omega arith)
overlaid_is (suc at) vs (s ∷ image) (suc n) e h = ap (λ (l : Values). s ∷ l) (overlaid_is at vs image n (omega arith) (omega arith))

pub seen-settled : (image : Values) → seen (settled image) ≡ image
seen-settled [] = refl
seen-settled (s ∷ image) = ap (λ (l : Values). s ∷ l) (seen-settled image)

pub cell_at-settled : (image : Values) (i : ℕ) → cell_at (settled image) i ≡ settled_cell (sector_at image i)
cell_at-settled [] i = refl
cell_at-settled (s ∷ image) zero = refl
cell_at-settled (s ∷ image) (suc i) = cell_at-settled image i

pub sector_at-seen : (cells : List Cell) (i : ℕ) → sector_at (seen cells) i ≡ newest (cell_at cells i)
sector_at-seen [] i = refl
sector_at-seen (c ∷ cells) zero = refl
sector_at-seen (c ∷ cells) (suc i) = sector_at-seen cells i

-- a write that succeeded is one that may have failed
pub Touched-written : (at : ℕ) (values : Values) (cells : List Cell) → at + length values ≤ length cells → Touched at values cells (written at values cells)
Touched-written at values cells fits = record {
  same_length = length-written at values cells;
  below = cell_at-written_below at values cells;
  above = cell_at-written_above at values cells;
  inside = λ i h. let e = cell_at-written at values cells i (at + i) refl h (omega (arith, h, fits)) in record { kept = ap (λ (c : Cell). c.kept) e; later = inr (inl (ap (λ (c : Cell). c.later) e)) };
}

pub Touched-none : (at : ℕ) (values : Values) (cells : List Cell) → Touched at values cells cells
Touched-none at values cells = record {
  same_length = refl;
  below = λ i h. refl;
  above = λ i h. refl;
  inside = λ i h. record { kept = refl; later = inl refl };
}

-- bytes and sectors

take_over : (xs ys : List ℕ) (m k : ℕ) → m ≡ length xs + k → take m (xs ++ ys) ≡ xs ++ take k ys
take_over [] ys m k e = ap (λ n. take n ys) (e ∙ zero-add k)
take_over (x ∷ xs) ys zero k e = absurd (omega arith)
take_over (x ∷ xs) ys (suc m) k e = ap (λ l. x ∷ l) (take_over xs ys m k (omega arith))

drop_over : (xs ys : List ℕ) (m k : ℕ) → m ≡ length xs + k → drop m (xs ++ ys) ≡ drop k ys
drop_over [] ys m k e = ap (λ n. drop n ys) (e ∙ zero-add k)
drop_over (x ∷ xs) ys zero k e = absurd (omega arith)
drop_over (x ∷ xs) ys (suc m) k e = drop_over xs ys m k (omega arith)

abbrev AreWhole : Values → Type 0
AreWhole = AllByRecursion (λ value. length value ≡ 512)

pub length-chopped : (n : ℕ) (bytes : List ℕ) → length (chopped n bytes) ≡ n
unfolding chopped
length-chopped zero bytes = refl
length-chopped (suc n) bytes = ap suc (length-chopped n (drop 512 bytes))

pub concat-chopped : (n : ℕ) (bytes : List ℕ) → length bytes ≡ 512 * n → concat (chopped n bytes) ≡ bytes
unfolding chopped
concat-chopped zero bytes h = sym (nil_from_length bytes (omega (arith, h)))
concat-chopped (suc n) bytes h =
    ap (λ l. take 512 bytes ++ l) (concat-chopped n (drop 512 bytes) (omega (arith, length-drop 512 bytes, h))) ∙ take-append-drop 512 bytes

pub whole-chopped : (n : ℕ) (bytes : List ℕ) → length bytes ≡ 512 * n → AreWhole (chopped n bytes)
unfolding chopped
whole-chopped zero bytes h = tt
whole-chopped (suc n) bytes h = (length-take-le 512 bytes (omega (arith, h)), whole-chopped n (drop 512 bytes) (omega (arith, length-drop 512 bytes, h)))

pub chopped-concat : (values : Values) (n : ℕ) → length values ≡ n → AreWhole values → chopped n (concat values) ≡ values
unfolding chopped
chopped-concat [] zero e h = refl
chopped-concat [] (suc n) e h = absurd (omega arith)
chopped-concat (v ∷ vs) zero e h = absurd (omega arith)
chopped-concat (v ∷ vs) (suc n) e h =
    let t = take_at v (concat vs) 512 h.0 in
    let d = drop_at v (concat vs) 512 h.0 in
    ap (λ l. l ∷ chopped n (drop 512 (v ++ concat vs))) t ∙ ap (λ l. v ∷ chopped n l) d ∙ ap (λ (l : Values). v ∷ l) (chopped-concat vs n (omega (arith, e)) h.1)

pub length-concat : (values : Values) → AreWhole values → length (concat values) ≡ 512 * length values
length-concat [] h = refl
length-concat (v ∷ vs) h = omega (arith, length-append v (concat vs), length-concat vs h.1, h.0)

pub sectors_of-one : (bytes : List ℕ) → length bytes ≡ 512 → sectors_of bytes ≡ bytes ∷ []
unfolding chopped
sectors_of-one bytes h = ap (λ n. chopped (n / 512) bytes) h ∙ ap (λ l. l ∷ []) (take_all 512 bytes (omega (arith, h)))

-- the sector at a place of some bytes
slice_get-chopped : (n k : ℕ) (bytes : List ℕ) → k < n → slice_get (chopped n bytes) k ≡ Some (take 512 (drop (512 * k) bytes))
unfolding chopped
slice_get-chopped zero k bytes h = absurd (omega arith)
slice_get-chopped (suc n) zero bytes h = refl
slice_get-chopped (suc n) (suc k) bytes h =
    let e : 512 + 512 * k ≡ 512 * suc k = omega arith in
    slice_get-chopped n k (drop 512 bytes) (omega arith) ∙ ap (λ (b : List ℕ). Some (take 512 b)) (drop-drop (512 * k) 512 bytes ∙ ap (λ m. drop m bytes) e)

pub slice_get-sectors_of : (bytes : List ℕ) (k : ℕ) → k < length bytes / 512 → slice_get (sectors_of bytes) k ≡ Some (take 512 (drop (512 * k) bytes))
slice_get-sectors_of bytes k h = slice_get-chopped (length bytes / 512) k bytes h

-- the bytes of a part of an image
pub take-concat : (n m : ℕ) (values : Values) → m ≡ 512 * n → AreWhole values → concat (take n values) ≡ take m (concat values)
take-concat zero m vs e h = let z : m ≡ 0 = omega arith in sym (ap (λ k. take k (concat vs)) z)
take-concat (suc n) m [] e h = sym (take_all m [] (omega arith))
take-concat (suc n) m (v ∷ vs) e h =
    let l : length v ≤ m = omega (arith, h.0) in
    ap (λ l. v ++ l) (take-concat n (m - 512) vs (omega arith) h.1) ∙ sym (take_over v (concat vs) m (m - 512) (omega (arith, h.0)))

pub drop-concat : (n m : ℕ) (values : Values) → m ≡ 512 * n → AreWhole values → concat (drop n values) ≡ drop m (concat values)
drop-concat zero m vs e h = let z : m ≡ 0 = omega arith in sym (ap (λ k. drop k (concat vs)) z)
drop-concat (suc n) m [] e h = sym (drop_all m [] (omega arith))
drop-concat (suc n) m (v ∷ vs) e h = drop-concat n (m - 512) vs (omega arith) h.1 ∙ sym (drop_over v (concat vs) m (m - 512) (omega (arith, h.0)))

pub concat-append : (xs ys : Values) → concat (xs ++ ys) ≡ concat xs ++ concat ys
concat-append [] ys = refl
concat-append (x ∷ xs) ys = ap (λ l. x ++ l) (concat-append xs ys) ∙ sym (append_assoc x (concat xs) (concat ys))

-- whole sectors

pub whole_last : (xs : Values) (first : List ℕ) → length first ≡ 512 → AreWhole xs → length (last_of xs first) ≡ 512
whole_last [] first h hs = h
whole_last (x ∷ xs) first h hs = whole_last xs x hs.0 hs.1

seen_whole : (cells : List Cell) → AllByRecursion IsWholeCell cells → AreWhole (seen cells)
seen_whole [] hs = tt
seen_whole (c ∷ cells) hs = (whole_last c.later c.kept hs.0.0 (recursion_from_All (λ value. length value ≡ 512) c.later hs.0.1), seen_whole cells hs.1)

pub whole-seen : {size : ℕ} {cells : List Cell} → IsWellFormed size cells → AreWhole (seen cells)
whole-seen {size} {cells} sound = seen_whole cells (recursion_from_All IsWholeCell cells sound.whole)

pub length-seen : {size : ℕ} {cells : List Cell} → IsWellFormed size cells → length (seen cells) ≡ size
length-seen {size} {cells} sound = length-map cells newest ∙ sound.size_is

pub length-sector_at : (image : Values) (i : ℕ) → AreWhole image → i < length image → length (sector_at image i) ≡ 512
length-sector_at [] i hs h = absurd (omega arith)
length-sector_at (s ∷ image) zero hs h = hs.0
length-sector_at (s ∷ image) (suc i) hs h = length-sector_at image i hs.1 (omega arith)

whole_settled : (image : Values) → AreWhole image → AllByRecursion IsWholeCell (settled image)
whole_settled [] hs = tt
whole_settled (s ∷ image) hs = ((hs.0, All-nil (λ value. length value ≡ 512)), whole_settled image hs.1)

pub IsWellFormed-settled : (size : ℕ) (image : Values) → size ≤ 2 ^ 54 → length image ≡ size → AreWhole image → IsWellFormed size (settled image)
IsWellFormed-settled size image fits long hs = record { fits = fits; size_is = length-map image settled_cell ∙ long; whole = All-from_recursion IsWholeCell (settled image) (whole_settled image hs) }

pub IsWellFormed-flushed : {size : ℕ} {cells : List Cell} → IsWellFormed size cells → IsWellFormed size (settled (seen cells))
IsWellFormed-flushed {size} {cells} sound = IsWellFormed-settled size (seen cells) sound.fits (length-seen sound) (whole-seen sound)

whole_written : (at : ℕ) (values : Values) (cells : List Cell) → AreWhole values → AllByRecursion IsWholeCell cells → AllByRecursion IsWholeCell (written at values cells)
unfolding written
whole_written zero [] cells vs hs = hs
whole_written zero (v ∷ values) [] vs hs = tt
whole_written zero (v ∷ values) (c ∷ cells) vs hs = ((hs.0.0, All-push (λ value. length value ≡ 512) c.later v hs.0.1 vs.0), whole_written zero values cells vs.1 hs.1)
whole_written (suc at) values [] vs hs = tt
whole_written (suc at) values (c ∷ cells) vs hs = (hs.0, whole_written at values cells vs hs.1)

pub IsWellFormed-written : {size : ℕ} {cells : List Cell} (at : ℕ) (values : Values) → AreWhole values → IsWellFormed size cells → IsWellFormed size (written at values cells)
IsWellFormed-written {size} {cells} at values vs sound = record {
  fits = sound.fits;
  size_is = length-written at values cells ∙ sound.size_is;
  whole = All-from_recursion IsWholeCell (written at values cells) (whole_written at values cells vs (recursion_from_All IsWholeCell cells sound.whole));
}

whole_length : (bytes : List ℕ) → length bytes % 512 ≡ 0 → length bytes ≡ 512 * (length bytes / 512)
whole_length bytes h = omega (arith, h)

pub whole-sectors_of : (bytes : List ℕ) → length bytes % 512 ≡ 0 → AreWhole (sectors_of bytes)
whole-sectors_of bytes h = whole-chopped (length bytes / 512) bytes (whole_length bytes h)

pub length-sectors_of : (bytes : List ℕ) → length (sectors_of bytes) ≡ length bytes / 512
length-sectors_of bytes = length-chopped (length bytes / 512) bytes

-- the bytes of an image after a write
pub concat-overlaid : (at : ℕ) (bytes : List ℕ) (image : Values) → AreWhole image → length bytes % 512 ≡ 0 → at + length bytes / 512 ≤ length image
    → concat (overlaid at (sectors_of bytes) image) ≡ take (512 * at) (concat image) ++ bytes ++ drop (512 * at + length bytes) (concat image)
concat-overlaid at bytes image hs whole fits =
    let n = at + length (sectors_of bytes) in
    let long = length-sectors_of bytes in
    let is = overlaid_is at (sectors_of bytes) image n refl (omega (arith, long, fits)) in
    let front = take-concat at (512 * at) image refl hs in
    let back = drop-concat n (512 * at + length bytes) image (omega (arith, long, whole_length bytes whole)) hs in
    let mid = concat-chopped (length bytes / 512) bytes (whole_length bytes whole) in
    ap concat is ∙ concat-append (take at image ++ sectors_of bytes) (drop n image) ∙ ap (λ l. l ++ concat (drop n image)) (concat-append (take at image) (sectors_of bytes))
    ∙ ap (λ l. l ++ concat (sectors_of bytes) ++ concat (drop n image)) front
    ∙ ap (λ l. take (512 * at) (concat image) ++ l ++ concat (drop n image)) mid
    ∙ ap (λ l. take (512 * at) (concat image) ++ bytes ++ l) back

pub whole-drop : (n : ℕ) (values : Values) → AreWhole values → AreWhole (drop n values)
whole-drop zero vs hs = hs
whole-drop (suc n) [] hs = tt
whole-drop (suc n) (v ∷ vs) hs = whole-drop n vs hs.1

-- the bytes that a read gives
pub bytes_at-is : (image : Values) (at n : ℕ) → AreWhole image → bytes_at image at n ≡ take (512 * n) (drop (512 * at) (concat image))
bytes_at-is image at n hs = take-concat n (512 * n) (drop at image) refl (whole-drop at image hs) ∙ ap (λ l. take (512 * n) l) (drop-concat at (512 * at) image refl hs)

-- one sector
pub bytes_at-one : (image : Values) (at : ℕ) → at < length image → bytes_at image at 1 ≡ sector_at image at
bytes_at-one [] at h = absurd (omega arith)
bytes_at-one (s ∷ image) zero h = append-nil s
bytes_at-one (s ∷ image) (suc at) h = bytes_at-one image at (omega arith)

-- a write that succeeded, or failed with all of its values written
pub Writes-after_write : (at : ℕ) (values : Values) (old new : DiskState) (ok : Bool) → new ≡ after_read ok (after_write at values old) → at + length values ≤ length old.cells → Writes at values old new
Writes-after_write at values old new ok e fits = record {
  size = ap (λ (d : DiskState). d.size) e;
  is_honest = ap (λ (d : DiskState). d.is_honest) e;
  touched = subst (λ (l : List Cell). Touched at values old.cells l) (sym (ap (λ (d : DiskState). d.cells) e)) (Touched-written at values old.cells fits);
  past = inl (ap (λ (d : DiskState). d.past) e);
  flushes = ap (λ (d : DiskState). d.flushes) e;
}

-- one that failed and wrote nothing
pub Writes-none : (at : ℕ) (values : Values) (old new : DiskState) (ok : Bool) → new ≡ after_read ok old → Writes at values old new
Writes-none at values old new ok e = record {
  size = ap (λ (d : DiskState). d.size) e;
  is_honest = ap (λ (d : DiskState). d.is_honest) e;
  touched = subst (λ (l : List Cell). Touched at values old.cells l) (sym (ap (λ (d : DiskState). d.cells) e)) (Touched-none at values old.cells);
  past = inr (ap (λ (d : DiskState). d.past) e, ap (λ (d : DiskState). d.cells) e);
  flushes = ap (λ (d : DiskState). d.flushes) e;
}

-- parts of an image, and images with other sectors in a part

pub whole-take : (n : ℕ) (values : Values) → AreWhole values → AreWhole (take n values)
whole-take zero vs h = tt
whole-take (suc n) [] h = tt
whole-take (suc n) (v ∷ vs) h = (h.0, whole-take n vs h.1)

pub length-overlaid : (at : ℕ) (values image : Values) → length (overlaid at values image) ≡ length image
unfolding overlaid
length-overlaid zero [] image = refl
length-overlaid zero (v ∷ vs) [] = refl
length-overlaid zero (v ∷ vs) (s ∷ image) = ap suc (length-overlaid zero vs image)
length-overlaid (suc at) vs [] = refl
length-overlaid (suc at) vs (s ∷ image) = ap suc (length-overlaid at vs image)

pub whole-overlaid : (at : ℕ) (values image : Values) → AreWhole values → AreWhole image → AreWhole (overlaid at values image)
unfolding overlaid
whole-overlaid zero [] image v h = h
whole-overlaid zero (x ∷ vs) [] v h = tt
whole-overlaid zero (x ∷ vs) (s ∷ image) v h = (v.0, whole-overlaid zero vs image v.1 h.1)
whole-overlaid (suc at) vs [] v h = tt
whole-overlaid (suc at) vs (s ∷ image) v h = (h.0, whole-overlaid at vs image v h.1)

-- the sectors of the bytes of whole sectors are these
pub sectors_of-concat : (values : Values) → AreWhole values → sectors_of (concat values) ≡ values
sectors_of-concat values h =
    let long : length (concat values) / 512 ≡ length values = omega (arith, length-concat values h) in
    ap (λ n. chopped n (concat values)) long ∙ chopped-concat values (length values) refl h

-- a sector of an image with other sectors in a part
pub sector_at-overlaid : (at : ℕ) (values image : Values) (i j : ℕ) → j ≡ at + i → i < length values → j < length image → sector_at (overlaid at values image) j ≡ sector_at values i
unfolding overlaid
sector_at-overlaid at vs [] i j e h fits = absurd (omega arith)
sector_at-overlaid zero [] (s ∷ image) i j e h fits = absurd (omega arith)
sector_at-overlaid zero (v ∷ vs) (s ∷ image) zero zero e h fits = refl
sector_at-overlaid zero (v ∷ vs) (s ∷ image) zero (suc j) e h fits = absurd (omega arith)
sector_at-overlaid zero (v ∷ vs) (s ∷ image) (suc i) zero e h fits = absurd (omega arith)
sector_at-overlaid zero (v ∷ vs) (s ∷ image) (suc i) (suc j) e h fits = sector_at-overlaid zero vs image i j (omega arith) (omega arith) (omega arith)
sector_at-overlaid (suc at) vs (s ∷ image) i zero e h fits = absurd (omega arith)
sector_at-overlaid (suc at) vs (s ∷ image) i (suc j) e h fits = sector_at-overlaid at vs image i j (omega arith) (omega arith) (omega arith)

pub sector_at-overlaid_below : (at : ℕ) (values image : Values) (j : ℕ) → j < at → sector_at (overlaid at values image) j ≡ sector_at image j
unfolding overlaid
sector_at-overlaid_below zero vs image j h = absurd (omega arith)
sector_at-overlaid_below (suc at) vs [] j h = refl
sector_at-overlaid_below (suc at) vs (s ∷ image) zero h = refl
sector_at-overlaid_below (suc at) vs (s ∷ image) (suc j) h = sector_at-overlaid_below at vs image j (omega arith)

pub sector_at-overlaid_above : (at : ℕ) (values image : Values) (j : ℕ) → at + length values ≤ j → sector_at (overlaid at values image) j ≡ sector_at image j
unfolding overlaid
sector_at-overlaid_above zero [] image j h = refl
sector_at-overlaid_above zero (v ∷ vs) [] j h = refl
sector_at-overlaid_above zero (v ∷ vs) (s ∷ image) zero h = absurd (omega arith)
sector_at-overlaid_above zero (v ∷ vs) (s ∷ image) (suc j) h = sector_at-overlaid_above zero vs image j (omega arith)
sector_at-overlaid_above (suc at) vs [] j h = refl
sector_at-overlaid_above (suc at) vs (s ∷ image) zero h = absurd (omega arith)
sector_at-overlaid_above (suc at) vs (s ∷ image) (suc j) h = sector_at-overlaid_above at vs image j (omega arith)

-- the sectors of a part of some bytes
pub sectors_of-part : (bytes : List ℕ) (n m : ℕ) → length bytes % 512 ≡ 0 → n + m ≤ length bytes / 512 → sectors_of (take (512 * m) (drop (512 * n) bytes)) ≡ take m (drop n (sectors_of bytes))
sectors_of-part bytes n m whole fits =
    let all = sectors_of bytes in
    let are = whole-sectors_of bytes whole in
    let rest = whole-drop n all are in
    let long : length bytes ≡ 512 * (length bytes / 512) = omega arith in
    let back : concat all ≡ bytes = concat-chopped (length bytes / 512) bytes long in
    let part : concat (take m (drop n all)) ≡ take (512 * m) (drop (512 * n) bytes) =
    take-concat m (512 * m) (drop n all) refl rest ∙ ap (λ (l : List ℕ). take (512 * m) l) (drop-concat n (512 * n) all refl are ∙ ap (λ (l : List ℕ). drop (512 * n) l) back) in
    ap sectors_of (sym part) ∙ sectors_of-concat (take m (drop n all)) (whole-take m (drop n all) rest)

-- zeros are the bytes of blank sectors
pub concat-zeros : (n m : ℕ) → m ≡ 512 * n → concat (replicate n zero_sector) ≡ replicate m 0
unfolding zero_sector
concat-zeros zero m e = let z : m ≡ 0 = omega arith in sym (ap (λ k. replicate k 0) z)
concat-zeros (suc n) m e =
    let whole : 512 + (m - 512) ≡ m = omega arith in
    ap (λ l. replicate 512 0 ++ l) (concat-zeros n (m - 512) (omega arith)) ∙ replicate-append-replicate 512 (m - 512) 0 ∙ ap (λ k. replicate k 0) whole
