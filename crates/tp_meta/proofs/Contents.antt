-- What is written behind the superblocks while a disk is formatted, and what makes it a pool.
use Rattle.std.proofs.Common.{◌≡◌, ◌⊎◌, inl, inr, ⊎_elim, ℕ, ◌+◌, ◌*◌, ◌<◌, ◌≤◌, true, List, length, sym, ◌∙◌, ap, subst, arith}
use Rattle.std.specs.Prelude.{Result, Ok, Err, OnOk, is_ok}
use Rattle.tp_model.specs.declared.refusal.Refusal.TheVariants.{NotAPool}
use Rattle.tp_model.specs.Geometry.{Geometry, IsWithinLimits, fixed_part, sectors_of_image}
use Rattle.tp_model.specs.Sectors.{Sector, sector_at, sectors_of, zero_sector}
use Rattle.tp_model.specs.Disk.{Cell, DiskState, IsSettled, IsWellFormed, Writes, after_flush, after_write, seen, settled}
use Rattle.tp_model.specs.DiskStops.{IsFrom, Leaves, LeavesOnly, LeavesOutside, SameOutside}
use Rattle.tp_model.proofs.DiskLaws.{length-sectors_of, seen-settled}
use Rattle.tp_model.proofs.DiskStopLaws.{AfterStop-seen, SameOutside-none, SameOutside-then, bytes_at-after_write, bytes_at-outside, goes_on_outside, joins, leaves_settled, now, starts, starts_outside, weakens, weakens_outside, SameOutside-writes}
use Rattle.tp_layout.specs.Node.{node_bytes}
use Rattle.tp_layout.specs.Super.{HasMagic, super_bytes}
use Rattle.tp_layout.specs.declared.counts.Part.{Part}
use Rattle.tp_layout.specs.declared.counts.Part.TheVariants.{Metadata, Data}
use Rattle.tp_layout.specs.declared.superblock.Superblock.{Superblock}
use Rattle.tp_layout.specs.declared.superblock.SlotId.TheVariants.{Zero, One}
use Rattle.tp_layout.specs.declared.superblock.Slot.{Slot}
use Rattle.tp_layout.specs.declared.superblock.Slot.TheVariants.{Foreign, Other, Bad, Good}
use Rattle.tp_image.specs.Slots.{Chooses, SlotIs, choice_of}
use Rattle.tp_image.specs.Nodes.{block_at}
use Rattle.tp_image.specs.Areas.{HoldsCounts, counts_sector, counts_sectors}
use Rattle.tp_image.specs.Fresh.{HasFreshContents, IsFreshOf, fresh_counts, fresh_leaf, fresh_super}
use Rattle.tp_image.proofs.AreaLaws.{HoldsCounts-outside, counts_apart, counts_fixed}
use Rattle.tp_super.specs.Store.{IsStoring}
use Rattle.tp_super.proofs.Choice.{SlotIs-one}
use Rattle.tp_tm.specs.Tm.{Tm}
use Rattle.tp_meta.specs.Format.{IsBlank, IsFormatting, IsNoPool, IsOldPool, fresh_store, other_sector}
use Rattle.tp_meta.proofs.Clearing.{blank_no_pool, no_magic, not_err, ok_is}

-- the write of the leaf

leaf_writes : (own root : ℕ) (bytes : List ℕ) (old new : DiskState) → own ≡ 8 * root → length bytes ≡ 4096 → Writes own (sectors_of bytes) old new
    → (8 * root ≤ own) × (own + length (sectors_of bytes) ≤ 8 * root + 8)
leaf_writes own root bytes old new here long writes = (omega (arith, here), omega (arith, here, length-sectors_of bytes, long))

pub leaf_stops : (own root : ℕ) (bytes : List ℕ) (old new : DiskState) → own ≡ 8 * root → length bytes ≡ 4096 → Writes own (sectors_of bytes) old new → LeavesOutside (8 * root) 8 old new
leaf_stops own root bytes old new here long writes =
    let fits = leaf_writes own root bytes old new here long writes in
    goes_on_outside (starts_outside (8 * root) 8 old) writes fits.0 fits.1

pub leaf_outside : (own root : ℕ) (bytes : List ℕ) (old new : DiskState) → own ≡ 8 * root → length bytes ≡ 4096 → Writes own (sectors_of bytes) old new
    → SameOutside (8 * root) 8 (seen old.cells) (seen new.cells)
leaf_outside own root bytes old new here long writes =
    let fits = leaf_writes own root bytes old new here long writes in SameOutside-writes (8 * root) 8 writes fits.0 fits.1

pub leaf_written : (own root : ℕ) (bytes : List ℕ) (old new : DiskState) → own ≡ 8 * root → length bytes ≡ 4096 → IsWellFormed old.size old.cells → 8 * root + 8 ≤ old.size
    → new ≡ after_write own (sectors_of bytes) old → block_at (seen new.cells) root ≡ bytes
leaf_written own root bytes old new here long sound fits e =
    bytes_at-after_write (8 * root) 8 bytes old new sound (omega (arith, long)) fits (e ∙ ap (λ n. after_write n (sectors_of bytes) old) here)

-- runs within a range

SameOutside-wider : {from m : ℕ} {a b : List Sector} (at n : ℕ) → SameOutside from m a b → at ≤ from → from + m ≤ at + n → SameOutside at n a b
SameOutside-wider at n out low high = record {
  same_length = out.same_length;
  below = λ i h. out.below i (omega (arith, h, low));
  above = λ i h. out.above i (omega (arith, h, high));
}

pub joins_outside : {from m : ℕ} {a b c : DiskState} (at n : ℕ) → LeavesOutside at n a b → LeavesOutside from m b c → at ≤ from → from + m ≤ at + n → LeavesOutside at n a c
joins_outside {from} {m} {a} {b} {c} at n r s low high =
    joins {P = IsFrom at n a.cells} r
    (weakens_outside (IsFrom at n a.cells) (IsFrom at n a.cells) s (now r) (λ before image was out. (was.0, was.1, SameOutside-then was.2 (SameOutside-wider at n out low high))))

-- an area of counts among the contents
pub joins_counts : {a b c : DiskState} (g h : Geometry) (part : Part) → h ≡ g → LeavesOutside 16 (8 * (fixed_part g + 1)) a b
    → LeavesOutside (counts_sector h part Zero) (counts_sectors h part) b c → LeavesOutside 16 (8 * (fixed_part g + 1)) a c
joins_counts {a} {b} {c} g h part e r s =
    let within = counts_fixed g part Zero in
    joins_outside 16 (8 * (fixed_part g + 1)) r (subst (λ (k : Geometry). LeavesOutside (counts_sector k part Zero) (counts_sectors k part) b c) e s) (omega (arith, within.0)) (omega (arith, within.1))

pub joins_leaf : {a b c : DiskState} (g : Geometry) → LeavesOutside 16 (8 * (fixed_part g + 1)) a b → LeavesOutside (8 * fixed_part g) 8 b c → LeavesOutside 16 (8 * (fixed_part g + 1)) a c
joins_leaf g r s = joins_outside 16 (8 * (fixed_part g + 1)) r s (omega arith) (omega arith)

-- the contents, once all is written
part_apart : ◌≡◌ {A = Part} Metadata Data → ⊥
part_apart e = omega (arith, ap (λ (p : Part). number p) e)
  where
    number : Part → ℕ
    number Metadata = 0
    number Data = 1

pub contents : (g : Geometry) (one two three : List Sector) → HoldsCounts one g Metadata Zero (fresh_counts g Metadata)
    → SameOutside (counts_sector g Data Zero) (counts_sectors g Data) one two → HoldsCounts two g Data Zero (fresh_counts g Data)
    → SameOutside (8 * fixed_part g) 8 two three → block_at three (fixed_part g) ≡ node_bytes (fresh_leaf g) → HasFreshContents g three
contents g one two three metadata out others leaf bytes =
    let first = HoldsCounts-outside g Metadata Zero (fresh_counts g Metadata) out (counts_apart g Metadata Data Zero Zero (λ both. part_apart both.0)) metadata in
    let before : (part : Part) → counts_sector g part Zero + counts_sectors g part ≤ 8 * fixed_part g = λ part. omega (arith, (counts_fixed g part Zero).1) in
    let each : (part : Part) → HoldsCounts two g part Zero (fresh_counts g part) → HoldsCounts three g part Zero (fresh_counts g part) =
    λ part was. HoldsCounts-outside g part Zero (fresh_counts g part) leaf (inl (before part)) was in
    record { counts = by_part (λ part. HoldsCounts three g part Zero (fresh_counts g part)) (each Metadata first) (each Data others); leaf = bytes }
  where
    by_part : (P : Part → Type 0) → P Metadata → P Data → (part : Part) → P part
    by_part P m d Metadata = m
    by_part P m d Data = d

-- the write of one sector leaves them
contents_last : (g : Geometry) (before image : List Sector) → SameOutside 0 1 before image → HasFreshContents g before → HasFreshContents g image
contents_last g before image out was = record {
  counts = λ part. HoldsCounts-outside g part Zero (fresh_counts g part) out (inr (omega (arith, (counts_fixed g part Zero).0))) (was.counts part);
  leaf = bytes_at-outside (8 * fixed_part g) 8 out (inr (omega arith)) ∙ was.leaf;
}

-- after the flush
pub kept_contents : {E : Type 0} (g : Geometry) (result : Result (Unit {0}) E) (old new : DiskState) → new ≡ after_flush (is_ok result) old
    → HasFreshContents g (seen old.cells) → OnOk result (Leaves (HasFreshContents g) new.cells)
kept_contents g (Ok done) old new e has = leaves_settled (HasFreshContents g) (seen old.cells) new.cells (ap (λ (d : DiskState). d.cells) e) has
kept_contents g (Err fault) old new e has = tt

-- the slots stay blank
still_blank : (n : ℕ) (before image : List Sector) → SameOutside 16 n before image → IsBlank before → IsBlank image
still_blank n before image out was = record { first = out.below 0 (omega arith) ∙ was.first; second = out.below 8 (omega arith) ∙ was.second }

pub blank_stays : (n : ℕ) (a b : DiskState) → LeavesOutside 16 n a b → Leaves IsBlank a.cells → Leaves IsBlank b.cells
blank_stays n a b r was image stop = let from = now r image stop in still_blank n from.0 image from.2 (was from.0 from.1)

pub no_pool_stays : (n : ℕ) (g : Geometry) (a b : DiskState) → 9 ≤ length a.cells → LeavesOutside 16 n a b → Leaves IsBlank a.cells → LeavesOnly a b (λ image. IsNoPool image ⊎ IsFreshOf g image)
no_pool_stays n g a b long r was =
    weakens {Q = λ image. IsNoPool image ⊎ IsFreshOf g image}
    (λ image from. inl (blank_no_pool image (omega (arith, long, from.1.same_length, from.2.same_length)) (still_blank n from.0 image from.2 (was from.0 from.1)))) r

-- the superblock makes it a pool

first_slot : (s : Superblock) (image : List Sector) (first : Slot) → SlotIs image Zero first → 0 < length image → Ok s ≡ choice_of first Foreign → sector_at image 0 ≡ super_bytes s
first_slot s image Foreign is long e = absurd (not_err s _ e)
first_slot s image Other is long e = absurd (not_err s _ e)
first_slot s image Bad is long e = absurd (not_err s _ e)
first_slot s image (Good a) (inl p) long e = p.1.1 ∙ ap super_bytes (sym (ok_is s a e))
first_slot s image (Good a) (inr p) long e = absurd (p.0 (omega (arith, long)))

pub makes_a_pool : (g : Geometry) (before image : List Sector) → IsWithinLimits g → sectors_of_image g ≤ length before → IsBlank before → HasFreshContents g before
    → SameOutside 0 1 before image → Chooses image (Ok (fresh_super g)) → IsFreshOf g image
makes_a_pool g before image within long blank has out chosen =
    let zeros : sector_at image 8 ≡ zero_sector = out.above 8 (omega arith) ∙ blank.second in
    let none : HasMagic (sector_at image 8) → ⊥ = λ h. no_magic (subst (λ (s : Sector). HasMagic s) zeros h) in
    let foreign : chosen.second ≡ Foreign = SlotIs-one image One chosen.second Foreign chosen.second_is (inl (omega (arith, long, out.same_length, within.metadata_least), none)) in
    record {
      size = omega (arith, long, out.same_length);
      first = first_slot (fresh_super g) image chosen.first chosen.first_is (omega (arith, long, out.same_length, within.metadata_least)) (chosen.choice_is ∙ ap (λ (s : Slot). choice_of chosen.first s) foreign);
      no_second = none;
      contents = contents_last g before image out has;
    }

-- while it is stored
pub pool_is_stored : (g : Geometry) (a b c : DiskState) → IsWithinLimits g → sectors_of_image g ≤ length b.cells → Leaves IsBlank b.cells → Leaves (HasFreshContents g) b.cells
    → LeavesOnly a b (λ image. IsNoPool image ⊎ IsFreshOf g image) → LeavesOnly b c (IsStoring (Err NotAPool) (fresh_super g) b.cells)
    → LeavesOnly a c (λ image. IsNoPool image ⊎ IsFreshOf g image)
pool_is_stored g a b c within long blank has r s =
    joins r (weakens {Q = λ image. IsNoPool image ⊎ IsFreshOf g image} (λ image is.
    let from = is.1 in
    ⊎_elim {C = IsNoPool image ⊎ IsFreshOf g image} (λ none. inl none)
    (λ chosen. inr (makes_a_pool g from.0 image within (omega (arith, long, from.1.same_length)) (blank from.0 from.1) (has from.0 from.1) from.2 chosen))
    is.0) s)

pub pool_stands : (g : Geometry) (b c : DiskState) → IsWithinLimits g → sectors_of_image g ≤ length b.cells → Leaves IsBlank b.cells → Leaves (HasFreshContents g) b.cells
    → LeavesOutside 0 1 b c → Leaves (λ image. Chooses image (Ok (fresh_super g))) c.cells → IsFreshOf g (seen c.cells)
pool_stands g b c within long blank has r chosen =
    let stop = AfterStop-seen c.cells in
    let from = now r (seen c.cells) stop in
    makes_a_pool g from.0 (seen c.cells) within (omega (arith, long, from.1.same_length)) (blank from.0 from.1) (has from.0 from.1) from.2 (chosen (seen c.cells) stop)

pub is_settled : (x new : DiskState) → new ≡ after_flush true x → IsSettled new.cells
is_settled x new e =
    let cells : new.cells ≡ settled (seen x.cells) = ap (λ (d : DiskState). d.cells) e in
    cells ∙ ap settled (sym (seen-settled (seen x.cells))) ∙ ap (λ (l : List Cell). settled (seen l)) (sym cells)

-- a premise of its own
pub on_ok_under : {A E : Type 0} (P Q : Type 0) (result : Result A E) → (P → OnOk result Q) → OnOk result (P → Q)
on_ok_under P Q (Ok x) h = h
on_ok_under P Q (Err x) h = tt

pub no_pool_at : (b : DiskState) → 9 ≤ length b.cells → Leaves IsBlank b.cells → Leaves (λ image. Chooses image (Err NotAPool)) b.cells
no_pool_at b long blank image stop = blank_no_pool image (omega (arith, long, stop.same_length)) (blank image stop)

-- the whole call

pub not_begun : (last : Superblock) (g : Geometry) (old : DiskState) → Leaves (λ image. Chooses image (Ok last)) old.cells → LeavesOnly old old (IsFormatting last g old.cells)
not_begun last g old was = starts {P = IsFormatting last g old.cells} old (λ image stop. inl (was image stop, (image, stop, SameOutside-none (other_sector last) 1 image)))

pub slots_cleared : (last : Superblock) (g : Geometry) (old mid : DiskState) → LeavesOnly old mid (λ image. IsOldPool last old.cells image ⊎ IsNoPool image) → LeavesOnly old mid (IsFormatting last g old.cells)
slots_cleared last g old mid r = weakens {Q = IsFormatting last g old.cells} (λ image is. ⊎_elim {C = IsFormatting last g old.cells image} (λ pool. inl pool) (λ none. inr (inl none)) is) r

pub laid_out : (last : Superblock) (g : Geometry) (old mid new : DiskState) → LeavesOnly old mid (λ image. IsOldPool last old.cells image ⊎ IsNoPool image)
    → LeavesOnly mid new (λ image. IsNoPool image ⊎ IsFreshOf g image) → LeavesOnly old new (IsFormatting last g old.cells)
laid_out last g old mid new r s = joins {P = IsFormatting last g old.cells} (slots_cleared last g old mid r) (weakens {Q = IsFormatting last g old.cells} (λ image is. inr is) s)

-- the counts are those of the geometry
pub of_geometry : (g : Geometry) (t : Tm) → t ≡ fresh_store g → (t.geometry ≡ g) × (t ≡ fresh_store t.geometry)
of_geometry g t e = let same = ap (λ (x : Tm). x.geometry) e in (same, e ∙ ap fresh_store (sym same))
