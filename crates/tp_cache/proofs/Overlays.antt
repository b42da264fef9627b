-- Sectors of the table over those of the inner disk.
use Rattle.std.proofs.Common.{◌≡◌, ⊎_elim, ℕ, zero, suc, ◌+◌, ◌-◌, ◌*◌, ◌/◌, ◌<◌, ◌≤◌, Bool, List, [], ◌∷◌, ◌++◌, length, take, drop, refl, sym, ◌∙◌, ap, subst, arith, append_assoc, append-nil, length-append}
use Rattle.std.specs.Prelude.{◌%◌, IsTrue, slice_index_or}
use Rattle.std.specs.List.{AllByRecursion, concat}
use Rattle.std.proofs.lemmas.List.{drop_at, get_or-drop, length-drop, length-take, length-take-le, take_at}
use Rattle.std.proofs.lemmas.Bool.{cases_lt}
use Rattle.tp_model.specs.Sectors.{Sector, bytes_at, sector_at}
use Rattle.tp_model.specs.Disk.{Cell, DiskState, IsWellFormed, newest, seen}
use Rattle.tp_model.proofs.DiskLaws.{bytes_at-is, bytes_at-one, length-concat, length-seen, sector_at-seen, whole-drop, whole-seen, whole-take}
use Rattle.tp_model.proofs.DiskStopLaws.{bytes_at-same}
use Rattle.tp_cache.specs.Line.{Line}
use Rattle.tp_cache.specs.Table.{IsCache, IsKept, Tied, mixed_bytes, slot_of}
use Rattle.tp_cache.proofs.Caches.{was_held}
use Rattle.tp_cache.proofs.Tables.{get_or-take}

abbrev Image : Type 0
Image = List Sector

abbrev AreWhole : Image → Type 0
AreWhole image = AllByRecursion (λ value. length value ≡ 512) image

drop_first : (k : ℕ) (xs : Image) → k < length xs → drop k xs ≡ sector_at xs k ∷ drop (suc k) xs
drop_first zero [] h = absurd (omega arith)
drop_first zero (x ∷ xs) h = refl
drop_first (suc k) [] h = absurd (omega arith)
drop_first (suc k) (x ∷ xs) h = drop_first k xs (omega arith)

take_last : (k : ℕ) (xs : Image) → k < length xs → take (suc k) xs ≡ take k xs ++ sector_at xs k ∷ []
take_last zero [] h = absurd (omega arith)
take_last zero (x ∷ xs) h = refl
take_last (suc k) [] h = absurd (omega arith)
take_last (suc k) (x ∷ xs) h = ap (λ (l : Image). x ∷ l) (take_last k xs (omega arith))

concat-more : (xs ys : Image) → concat (xs ++ ys) ≡ concat xs ++ concat ys
concat-more [] ys = refl
concat-more (x ∷ xs) ys = ap (λ (l : List ℕ). x ++ l) (concat-more xs ys) ∙ sym (append_assoc x (concat xs) (concat ys))

-- sector number j of a block
nth_sector : (xs : Image) (j : ℕ) → AreWhole xs → j < length xs → take 512 (drop (512 * j) (concat xs)) ≡ sector_at xs j
nth_sector xs j hs h = sym (bytes_at-is xs j 1 hs) ∙ bytes_at-one xs j h

pub slot_sector : (image : Image) (at j : ℕ) → AreWhole image → j < 8 → at + j < length image → take 512 (drop (512 * j) (bytes_at image at 8)) ≡ sector_at image (at + j)
slot_sector image at j hs lt h =
    nth_sector (take 8 (drop at image)) j (whole-take 8 (drop at image) (whole-drop at image hs)) (omega (arith, lt, h, length-take 8 (drop at image), length-drop at image))
    ∙ get_or-take 8 j (drop at image) lt ∙ get_or-drop at image j []

whole_one : (xs : Image) (j : ℕ) → AreWhole xs → j < length xs → length (sector_at xs j) ≡ 512
whole_one [] j h lt = absurd (omega arith)
whole_one (x ∷ xs) zero h lt = h.0
whole_one (x ∷ xs) (suc j) h lt = whole_one xs j h.1 (omega arith)

-- ---- one sector more

module _ (o i : Image) (at n k : ℕ) (lt : k < n) (long : at + n ≤ length o) (same : length i ≡ length o) where
  abbrev front : Image
  front = take k (drop at o)

  abbrev back : Image
  back = take (n - suc k) (drop (suc (at + k)) i)

  here : concat (front ++ take (n - k) (drop (at + k) i)) ≡ concat (front ++ sector_at i (at + k) ∷ back)
  here =
      let m : n - k ≡ suc (n - suc k) = omega (arith, lt) in
      ap (λ (l : Image). concat (front ++ l)) (ap (λ c. take c (drop (at + k) i)) m ∙ ap (λ (l : Image). take (suc (n - suc k)) l) (drop_first (at + k) i (omega (arith, lt, long, same))))

  next : concat (take (k + 1) (drop at o) ++ take (n - (k + 1)) (drop (at + (k + 1)) i)) ≡ concat (front ++ sector_at o (at + k) ∷ back)
  next =
      let s : k + 1 ≡ suc k = omega arith in
      let a : at + (k + 1) ≡ suc (at + k) = omega arith in
      let first : take (k + 1) (drop at o) ≡ front ++ sector_at o (at + k) ∷ []
      = ap (λ c. take c (drop at o)) s ∙ take_last k (drop at o) (omega (arith, lt, long, length-drop at o)) ∙ ap (λ (v : Sector). front ++ v ∷ []) (get_or-drop at o k []) in
      let rest : take (n - (k + 1)) (drop (at + (k + 1)) i) ≡ back = ap (λ c. take (n - c) (drop (at + (k + 1)) i)) s ∙ ap (λ c. take (n - suc k) (drop c i)) a in
      ap (λ (l : Image). concat (l ++ take (n - (k + 1)) (drop (at + (k + 1)) i))) first ∙ ap (λ (l : Image). concat ((front ++ sector_at o (at + k) ∷ []) ++ l)) rest
      ∙ ap concat (append_assoc front (sector_at o (at + k) ∷ []) back)

  -- it is the same on both
  pub same_sector : sector_at i (at + k) ≡ sector_at o (at + k)
      → concat (take k (drop at o) ++ take (n - k) (drop (at + k) i)) ≡ concat (take (k + 1) (drop at o) ++ take (n - (k + 1)) (drop (at + (k + 1)) i))
  same_sector e = here ∙ ap (λ (v : Sector). concat (front ++ v ∷ back)) e ∙ sym next

  -- it is put over the other one
  pub put_sector : AreWhole o → AreWhole i → (out bytes : List ℕ) → out ≡ concat (take k (drop at o) ++ take (n - k) (drop (at + k) i)) → bytes ≡ sector_at o (at + k)
      → take (512 * k) out ++ bytes ++ drop (512 * k + length bytes) out ≡ concat (take (k + 1) (drop at o) ++ take (n - (k + 1)) (drop (at + (k + 1)) i))
  put_sector ho hi out bytes e is =
      let count : length bytes ≡ 512 = ap length is ∙ whole_one o (at + k) ho (omega (arith, lt, long)) in
      let s = sector_at i (at + k) in
      let apart : out ≡ concat front ++ (s ++ concat back) = e ∙ here ∙ concat-more front (s ∷ back) in
      let size : length (concat front) ≡ 512 * k
      = length-concat front (whole-take k (drop at o) (whole-drop at o ho)) ∙ ap (λ c. 512 * c) (length-take-le k (drop at o) (omega (arith, lt, long, length-drop at o))) in
      let one : length s ≡ 512 = ap length (sym (get_or-drop at i k [])) ∙ whole_one (drop at i) k (whole-drop at i hi) (omega (arith, lt, long, same, length-drop at i)) in
      let past : length (concat front ++ s) ≡ 512 * k + length bytes = omega (arith, size, one, count, length-append (concat front) s) in
      let low : take (512 * k) out ≡ concat front = ap (take (512 * k)) apart ∙ take_at (concat front) (s ++ concat back) (512 * k) size in
      let high : drop (512 * k + length bytes) out ≡ concat back
      = ap (drop (512 * k + length bytes)) (apart ∙ sym (append_assoc (concat front) s (concat back))) ∙ drop_at (concat front ++ s) (concat back) (512 * k + length bytes) past in
      ap (λ (l : List ℕ). l ++ bytes ++ drop (512 * k + length bytes) out) low ∙ ap (λ (l : List ℕ). concat front ++ bytes ++ l) high
      ∙ ap (λ (l : List ℕ). concat front ++ l ++ concat back) is ∙ append_assoc (concat front) (sector_at o (at + k)) (concat back)
      ∙ sym (concat-more front (sector_at o (at + k) ∷ back)) ∙ sym next

-- a block without a slot is not dirty
not_dirty : (index held owners : List ℕ) (slots : List (List ℕ)) (outer : List Cell) (block : ℕ) → IsKept index held owners slots outer → slot_of held block ≡ 0 → slot_of index block ≡ 0
not_dirty index held owners slots outer block kept none =
    ⊎_elim {C = slot_of index block ≡ 0} (λ some. let e = kept.agrees block some in absurd (omega (arith, e, none, some))) (λ past. omega (arith, past)) (cases_lt 0 (slot_of index block))

-- ---- a sector of a table

module _ (index held owners : List ℕ) (slots : List (List ℕ)) (size : ℕ) (outer inner : List Cell) (wo : IsWellFormed size outer) (wi : IsWellFormed size inner) (t : Tied index outer inner) (kept : IsKept index held owners slots outer)
    (at n k : ℕ) (lt : k < n) (long : at + n ≤ size) where
  fits : at + n ≤ length (seen outer)
  fits = omega (arith, long, length-seen wo)

  as_long : length (seen inner) ≡ length (seen outer)
  as_long = length-seen wi ∙ sym (length-seen wo)

  -- that it has not
  pub mixed_clean : (out : List ℕ) → slot_of held ((at + k) / 8) ≡ 0 → out ≡ mixed_bytes outer inner at n k → out ≡ mixed_bytes outer inner at n (k + 1)
  mixed_clean out none e =
      e ∙ same_sector (seen outer) (seen inner) at n k lt fits as_long
      (sector_at-seen inner (at + k) ∙ (t.each (at + k)).clean (not_dirty index held owners slots outer ((at + k) / 8) kept none) ∙ sym (sector_at-seen outer (at + k)))

  -- that it has
  pub mixed_held : (out bytes : List ℕ) → 0 < slot_of held ((at + k) / 8) → out ≡ mixed_bytes outer inner at n k
      → bytes ≡ take 512 (drop (512 * ((at + k) % 8)) (slice_index_or slots (slot_of held ((at + k) / 8) - 1) []))
      → take (512 * k) out ++ bytes ++ drop (512 * k + length bytes) out ≡ mixed_bytes outer inner at n (k + 1)
  mixed_held out bytes some e is =
      let b = (at + k) / 8 in
      let j = (at + k) % 8 in
      let there : 8 * b + j ≡ at + k = omega arith in
      put_sector (seen outer) (seen inner) at n k lt fits as_long (whole-seen wo) (whole-seen wi) out bytes e
      (is ∙ ap (λ (l : List ℕ). take 512 (drop (512 * j) l)) (kept.value b some) ∙ slot_sector (seen outer) (8 * b) j (whole-seen wo) (omega arith) (omega (arith, there, lt, fits)) ∙ ap (sector_at (seen outer)) there)

-- with all sectors
pub mixed_all : (outer inner : List Cell) (at n k : ℕ) → k ≡ n → mixed_bytes outer inner at n k ≡ bytes_at (seen outer) at n
mixed_all outer inner at n k e =
    let none : n - n ≡ 0 = omega arith in
    ap (mixed_bytes outer inner at n) e
    ∙ ap (λ m. concat (take n (drop at (seen outer)) ++ take m (drop (at + n) (seen inner)))) none ∙ ap concat (append-nil (take n (drop at (seen outer))))

-- behind the blocks of the table
pub bytes_beyond : (index : List ℕ) (size at n : ℕ) (outer inner : List Cell) → IsWellFormed size outer → IsWellFormed size inner → Tied index outer inner → 8 * length index ≤ at → bytes_at (seen inner) at n ≡ bytes_at (seen outer) at n
bytes_beyond index size at n outer inner wo wi t far =
    bytes_at-same at n (seen inner) (seen outer) (length-seen wi ∙ sym (length-seen wo))
    (λ i low high. sector_at-seen inner i ∙ ap newest (t.beyond i (omega (arith, far, low))) ∙ sym (sector_at-seen outer i))

-- ---- a whole read

-- what the table has was put on over what was read
abbrev pub IsLaidOver : List ℕ → List (List ℕ) → ℕ → List ℕ → List ℕ → Type 0
IsLaidOver held slots at old new = (size : ℕ) (index owners : List ℕ) (outer inner : List Cell) → IsWellFormed size outer → IsWellFormed size inner → at + length old / 512 ≤ size → Tied index outer inner
    → IsKept index held owners slots outer → old ≡ bytes_at (seen inner) at (length old / 512) → new ≡ bytes_at (seen outer) at (length old / 512)

-- A read of the inner disk that succeeded, the table's sectors over it, gives what the outer one has.
pub laid_read : (index held owners : List ℕ) (slots : List (List ℕ)) (next used : ℕ) (line : Line) → IsCache index slots next used line → IsKept index held owners slots line.outer.cells
    → (inner : DiskState) → inner ≡ line.inner → IsWellFormed inner.size inner.cells → (at n : ℕ) (old new : List ℕ) → length old / 512 ≡ n → at + n ≤ line.outer.size
    → (IsTrue inner.is_honest → old ≡ bytes_at (seen inner.cells) at n) → IsLaidOver held slots at old new → IsTrue line.outer.is_honest → new ≡ bytes_at (seen line.outer.cells) at n
laid_read index held owners slots next used line cache kept inner is well at n old new same fits read laid honest =
    let size : inner.size ≡ line.outer.size = ap (λ (d : DiskState). d.size) is ∙ cache.twin.size in
    let told : inner.is_honest ≡ line.outer.is_honest = ap (λ (d : DiskState). d.is_honest) is ∙ cache.twin.is_honest in
    laid line.outer.size index owners line.outer.cells inner.cells cache.well_formed (subst (λ k. IsWellFormed k inner.cells) size well) (subst (λ k. at + k ≤ line.outer.size) (sym same) fits)
    (was_held index slots next used line cache inner inner is).tied kept (read (subst (λ (x : Bool). IsTrue x) (sym told) honest) ∙ ap (bytes_at (seen inner.cells) at) (sym same))
    ∙ ap (bytes_at (seen line.outer.cells) at) same
