-- What an area of counts holds: one list, wherever its blocks are as they were.
use Rattle.std.proofs.Common.{◌≡◌, ◌⊎◌, inl, inr, ℕ, ◌+◌, ◌-◌, ◌*◌, ◌/◌, ◌^◌, ◌<◌, ◌≤◌, List, length, get_or, take, drop, min, All, refl, sym, ap, subst, ◌∙◌, arith}
use Rattle.std.specs.Prelude.{◌%◌}
use Rattle.std.proofs.lemmas.List.{ext_get_or, get_or_default, get_or-take, get_or-drop, length-take, length-drop, take_min}
use Rattle.std.proofs.lemmas.List.Elements.{All-take, All-drop}
use Rattle.tp_model.specs.Geometry.{Geometry, count_blocks, fixed_part}
use Rattle.tp_model.specs.Sectors.{Sector}
use Rattle.tp_model.specs.DiskStops.{SameOutside}
use Rattle.tp_model.proofs.DiskStopLaws.{bytes_at-outside}
use Rattle.tp_layout.specs.declared.counts.Part.{Part}
use Rattle.tp_layout.specs.declared.counts.Part.TheVariants.{Metadata, Data}
use Rattle.tp_layout.specs.declared.superblock.SlotId.{SlotId}
use Rattle.tp_layout.specs.declared.superblock.SlotId.TheVariants.{Zero, One}
use Rattle.tp_layout.proofs.CountLaws.{counts_bytes-one}
use Rattle.tp_image.specs.Areas.{HoldsCounts, blocks_of, counts_in, counts_sector, counts_sectors, counts_start}

-- the counts of a count block

pub length-counts_in : (counts : List ℕ) (j : ℕ) → length (counts_in counts j) ≤ 1024
unfolding counts_in
length-counts_in counts j = omega (arith, length-take 1024 (drop (1024 * j) counts))

pub same_length : (xs ys : List ℕ) (j : ℕ) → length xs ≡ length ys → length (counts_in xs j) ≡ length (counts_in ys j)
unfolding counts_in
same_length xs ys j e =
    omega (arith, length-take 1024 (drop (1024 * j) xs), length-take 1024 (drop (1024 * j) ys), length-drop (1024 * j) xs, length-drop (1024 * j) ys, e)

pub counts_in-fit : (counts : List ℕ) (j : ℕ) → All (λ n. n < 2 ^ 32) counts → All (λ n. n < 2 ^ 32) (counts_in counts j)
unfolding counts_in
counts_in-fit counts j fit = All-take (λ n. n < 2 ^ 32) 1024 (drop (1024 * j) counts) (All-drop (λ n. n < 2 ^ 32) (1024 * j) counts fit)

get_or-counts_in : (counts : List ℕ) (i : ℕ) → get_or (counts_in counts (i / 1024)) (i % 1024) 0 ≡ get_or counts i 0
unfolding counts_in
get_or-counts_in counts i =
    let low : i % 1024 < 1024 = omega arith in
    let place : 1024 * (i / 1024) + i % 1024 ≡ i = omega arith in
    get_or-take 1024 (drop (1024 * (i / 1024)) counts) (i % 1024) 0 low ∙ get_or-drop (1024 * (i / 1024)) counts (i % 1024) 0 ∙ ap (λ k. get_or counts k 0) place

-- lists of the same counts in each block
same_counts : (xs ys : List ℕ) → length xs ≡ length ys → ((j : ℕ) → j < count_blocks (length xs) → counts_in xs j ≡ counts_in ys j) → xs ≡ ys
same_counts xs ys e same =
    ext_get_or 0 xs ys e
    (λ i h. sym (get_or-counts_in xs i) ∙ ap (λ (l : List ℕ). get_or l (i % 1024) 0) (same (i / 1024) (omega (arith, h))) ∙ get_or-counts_in ys i)

-- an image spells one list
pub HoldsCounts-one : (image : List Sector) (g : Geometry) (part : Part) (area : SlotId) (xs ys : List ℕ) → HoldsCounts image g part area xs → HoldsCounts image g part area ys → xs ≡ ys
HoldsCounts-one image g part area xs ys x y =
    let long : length xs ≡ length ys = x.long ∙ sym y.long in
    same_counts xs ys long
    (λ j h. counts_bytes-one (counts_in xs j) (counts_in ys j) (same_length xs ys j long) (counts_in-fit xs j x.fit) (counts_in-fit ys j y.fit)
    (sym (x.spelled j h) ∙ y.spelled j (subst (λ n. j < count_blocks n) long h)))

-- where the changed sectors lie apart from an area's, it holds what it held
pub HoldsCounts-outside : {from m : ℕ} {before image : List Sector} (g : Geometry) (part : Part) (area : SlotId) (counts : List ℕ) → SameOutside from m before image
    → (counts_sector g part area + counts_sectors g part ≤ from) ⊎ (from + m ≤ counts_sector g part area) → HoldsCounts before g part area counts → HoldsCounts image g part area counts
HoldsCounts-outside {from} {m} {before} {image} g part area counts out (inl low) was = record {
  long = was.long;
  fit = was.fit;
  spelled = λ j h.
      let blocks : j < count_blocks (blocks_of g part) = subst (λ n. j < count_blocks n) was.long h in
      bytes_at-outside (8 * (counts_start g part area + j)) 8 out (inl (omega (arith, low, blocks))) ∙ was.spelled j h;
}
HoldsCounts-outside {from} {m} {before} {image} g part area counts out (inr high) was = record {
  long = was.long;
  fit = was.fit;
  spelled = λ j h. bytes_at-outside (8 * (counts_start g part area + j)) 8 out (inr (omega (arith, high))) ∙ was.spelled j h;
}

-- the count blocks of a part in an area lie apart from all others
pub counts_apart : (g : Geometry) (part other : Part) (area its : SlotId) → ((part ≡ other) × (area ≡ its) → ⊥)
    → (counts_sector g part area + counts_sectors g part ≤ counts_sector g other its) ⊎ (counts_sector g other its + counts_sectors g other ≤ counts_sector g part area)
counts_apart g Metadata Metadata Zero Zero differ = absurd (differ (refl, refl))
counts_apart g Metadata Metadata Zero One differ = inl (omega arith)
counts_apart g Metadata Metadata One Zero differ = inr (omega arith)
counts_apart g Metadata Metadata One One differ = absurd (differ (refl, refl))
counts_apart g Metadata Data Zero Zero differ = inl (omega arith)
counts_apart g Metadata Data Zero One differ = inl (omega arith)
counts_apart g Metadata Data One Zero differ = inr (omega arith)
counts_apart g Metadata Data One One differ = inl (omega arith)
counts_apart g Data Metadata Zero Zero differ = inr (omega arith)
counts_apart g Data Metadata Zero One differ = inl (omega arith)
counts_apart g Data Metadata One Zero differ = inr (omega arith)
counts_apart g Data Metadata One One differ = inr (omega arith)
counts_apart g Data Data Zero Zero differ = absurd (differ (refl, refl))
counts_apart g Data Data Zero One differ = inl (omega arith)
counts_apart g Data Data One Zero differ = inr (omega arith)
counts_apart g Data Data One One differ = absurd (differ (refl, refl))

-- they lie behind the superblocks, in the fixed part
pub counts_fixed : (g : Geometry) (part : Part) (area : SlotId) → (2 ≤ counts_start g part area) × (counts_start g part area + count_blocks (blocks_of g part) ≤ fixed_part g)
counts_fixed g Metadata Zero = (omega arith, omega arith)
counts_fixed g Metadata One = (omega arith, omega arith)
counts_fixed g Data Zero = (omega arith, omega arith)
counts_fixed g Data One = (omega arith, omega arith)

-- the counts of one count block as a part of a slice
pub piece : (counts : List ℕ) (j to : ℕ) → 1024 * j ≤ length counts → to ≡ min (length counts) (1024 * j + 1024) → take (to - 1024 * j) (drop (1024 * j) counts) ≡ counts_in counts j
unfolding counts_in
piece counts j to h e =
    let k : to - 1024 * j ≡ min 1024 (length (drop (1024 * j) counts)) = omega (arith, e, h, length-drop (1024 * j) counts) in
    ap (λ n. take n (drop (1024 * j) counts)) k ∙ take_min 1024 (drop (1024 * j) counts)

pub all_fit : (counts : List ℕ) → ((i : ℕ) → get_or counts i 0 < 2 ^ 32) → All (λ n. n < 2 ^ 32) counts
all_fit counts fit k d h = omega (arith, fit k, get_or_default counts k d 0 h)
