-- What picks give, and that they give all that a stop may leave.
use Rattle.std.proofs.Common.{◌≡◌, ℕ, zero, suc, ◌<◌, ◌≤◌, Some, List, [], ◌∷◌, ◌++◌, length, refl, sym, ap, ◌∙◌, arith, inl, inr}
use Rattle.std.specs.Prelude.{slice_index_or, slice_get}
use Rattle.std.proofs.lemmas.List.{get_or_append_left, get_or_default}
use Rattle.tp_model.specs.Sectors.{sector_at}
use Rattle.tp_model.specs.Disk.{IsOneOf, MayLeave, Cell, newest, last_of, appended, settled_cell, cell_at}
use Rattle.tp_model.specs.DiskStops.{AfterStop}
use Rattle.tp_model.proofs.DiskLaws.{last_of-push}
use Rattle.tp_disk.specs.Picks.{picked, entry_or_last}

past_end : (xs : List (List ℕ)) (v : List ℕ) (n : ℕ) → length xs ≤ n → slice_index_or (xs ++ v ∷ []) n v ≡ v
past_end [] v zero h = refl
past_end [] v (suc n) h = refl
past_end (x ∷ xs) v zero h = absurd (omega arith)
past_end (x ∷ xs) v (suc n) h = past_end xs v n (omega arith)

-- a pick past the cell's list takes what is written next
pub entry-appended : (cell : Cell) (value : List ℕ) (pick : ℕ) → length cell.later < pick → entry_or_last (Some pick) (appended cell value) ≡ value
entry-appended cell value pick h =
    ap (slice_index_or (cell.kept ∷ (cell.later ++ value ∷ [])) pick) (last_of-push cell.later value cell.kept) ∙ past_end (cell.kept ∷ cell.later) value pick (omega arith)

-- one within the list stays with its value
pub entry-appended_within : (cell : Cell) (value : List ℕ) (pick : ℕ) → pick ≤ length cell.later → entry_or_last (Some pick) (appended cell value) ≡ entry_or_last (Some pick) cell
entry-appended_within cell value pick h =
    get_or_append_left (cell.kept ∷ cell.later) (value ∷ []) _ pick (omega arith) ∙ get_or_default (cell.kept ∷ cell.later) pick _ (newest cell) (omega arith)

pub entry-settled : (value : List ℕ) (pick : ℕ) → entry_or_last (Some pick) (settled_cell value) ≡ value
entry-settled value zero = refl
entry-settled value (suc pick) = refl

pub sector_at-picked : (cells : List Cell) (picks : List ℕ) (i : ℕ) → i < length cells → sector_at (picked cells picks) i ≡ entry_or_last (slice_get picks i) (cell_at cells i)
sector_at-picked [] picks i h = absurd (omega arith)
sector_at-picked (c ∷ cells) [] zero h = refl
sector_at-picked (c ∷ cells) [] (suc i) h = sector_at-picked cells [] i (omega arith)
sector_at-picked (c ∷ cells) (p ∷ picks) zero h = refl
sector_at-picked (c ∷ cells) (p ∷ picks) (suc i) h = sector_at-picked cells picks i (omega arith)

pub length-picked : (cells : List Cell) (picks : List ℕ) → length (picked cells picks) ≡ length cells
length-picked [] picks = refl
length-picked (c ∷ cells) [] = ap suc (length-picked cells [])
length-picked (c ∷ cells) (p ∷ picks) = ap suc (length-picked cells picks)

-- a pick is one of the values that a stop may leave, and each of them has its pick

entry_of : (xs : List (List ℕ)) (x : List ℕ) (pick : ℕ) → IsOneOf (x ∷ xs) (slice_index_or (x ∷ xs) pick (last_of xs x))
entry_of [] x zero = inl refl
entry_of [] x (suc pick) = inl refl
entry_of (y ∷ xs) x zero = inl refl
entry_of (y ∷ xs) x (suc pick) = inr (entry_of xs y pick)

last_one : (xs : List (List ℕ)) (x : List ℕ) → IsOneOf (x ∷ xs) (last_of xs x)
last_one [] x = inl refl
last_one (y ∷ xs) x = inr (last_one xs y)

may_picked : (cells : List Cell) (picks : List ℕ) (i : ℕ) → MayLeave (cell_at cells i) (sector_at (picked cells picks) i)
may_picked [] picks i = inl refl
may_picked (c ∷ cells) [] zero = last_one c.later c.kept
may_picked (c ∷ cells) [] (suc i) = may_picked cells [] i
may_picked (c ∷ cells) (p ∷ picks) zero = entry_of c.later c.kept p
may_picked (c ∷ cells) (p ∷ picks) (suc i) = may_picked cells picks i

pub AfterStop-picked : (cells : List Cell) (picks : List ℕ) → AfterStop cells (picked cells picks)
AfterStop-picked cells picks = record { same_length = length-picked cells picks; each = may_picked cells picks }

pick_for : (xs : List (List ℕ)) (d value : List ℕ) → IsOneOf xs value → (pick : ℕ) × (slice_index_or xs pick d ≡ value)
pick_for [] d value none = absurd none
pick_for (x ∷ xs) d value (inl e) = (0, sym e)
pick_for (x ∷ xs) d value (inr h) = let rest = pick_for xs d value h in (suc rest.0, rest.1)

picks_for : (cells : List Cell) (image : List (List ℕ)) → length image ≡ length cells → ((i : ℕ) → MayLeave (cell_at cells i) (sector_at image i)) → (picks : List ℕ) × (picked cells picks ≡ image)
picks_for [] [] e each = ([], refl)
picks_for [] (s ∷ image) e each = absurd (omega (arith, e))
picks_for (c ∷ cells) [] e each = absurd (omega (arith, e))
picks_for (c ∷ cells) (s ∷ image) e each =
    let here = pick_for (c.kept ∷ c.later) (newest c) s (each 0) in
    let rest = picks_for cells image (omega (arith, e)) (λ i. each (suc i)) in
    (here.0 ∷ rest.0, ap (λ x. x ∷ picked cells rest.0) here.1 ∙ ap (λ (l : List (List ℕ)). s ∷ l) rest.1)

pub picks-reach : (cells : List Cell) (image : List (List ℕ)) → AfterStop cells image → (picks : List ℕ) × (picked cells picks ≡ image)
picks-reach cells image stop = picks_for cells image stop.same_length stop.each
