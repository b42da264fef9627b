-- The writing of count blocks, one after another.
use Rattle.std.proofs.Common.{◌≡◌, ℕ, Bool, ◌+◌, ◌*◌, ◌<◌, ◌≤◌, List, length, refl, sym, ap, ◌∙◌, arith, below_more, inl, inr}
use Rattle.tp_model.specs.Geometry.{count_blocks, metadata_sector}
use Rattle.tp_model.specs.Sectors.{sectors_of}
use Rattle.tp_model.specs.Disk.{DiskState, IsSameDisk, IsWellFormed, Writes, after_write, seen}
use Rattle.tp_model.specs.DiskStops.{LeavesOutside, SameOutside}
use Rattle.tp_model.proofs.DiskLaws.{length-sectors_of}
use Rattle.tp_model.proofs.DiskStopLaws.{SameOutside-none, SameOutside-then, SameOutside-writes, bytes_at-after_write, bytes_at-outside, goes_on_outside, starts_outside}
use Rattle.tp_layout.specs.Counts.{counts_bytes}
use Rattle.tp_image.specs.Nodes.{block_at}
use Rattle.tp_image.specs.Areas.{counts_in}
use Rattle.tp_counts.specs.Counts.{IsUnmarked, SpellOthers}

-- of n blocks from `first` on those of the first j that are marked are written
pub record HaveWritten (first n : ℕ) (counts : List ℕ) (marks : List Bool) (j : ℕ) (old new : DiskState) : Type 0 where
  pub same_disk : IsSameDisk old new
  pub failures : new.failures ≡ old.failures
  pub flushes : new.flushes ≡ old.flushes
  pub any_moment : LeavesOutside (metadata_sector first) (8 * n) old new
  pub outside : SameOutside (metadata_sector first) (8 * n) (seen old.cells) (seen new.cells)
  pub written : SpellOthers (seen old.cells) first counts marks → (i : ℕ) → i < j → i < count_blocks (length counts) → block_at (seen new.cells) (first + i) ≡ counts_bytes (counts_in counts i)
  -- the others are as they were
  pub rest : (i : ℕ) → j ≤ i → block_at (seen new.cells) (first + i) ≡ block_at (seen old.cells) (first + i)

pub begins : (first n : ℕ) (counts : List ℕ) (marks : List Bool) (disk : DiskState) → HaveWritten first n counts marks 0 disk disk
begins first n counts marks disk = record {
  same_disk = record { size = refl; is_honest = refl };
  failures = refl;
  flushes = refl;
  any_moment = starts_outside (metadata_sector first) (8 * n) disk;
  outside = SameOutside-none (metadata_sector first) (8 * n) (seen disk.cells);
  written = λ others i h. absurd (omega (arith, h));
  rest = λ i h. refl;
}

-- a block that is not marked is left out
pub leaves_out : (first n : ℕ) (counts : List ℕ) (marks : List Bool) (j : ℕ) (old now : DiskState) → HaveWritten first n counts marks j old now → IsUnmarked marks j
    → HaveWritten first n counts marks (j + 1) old now
leaves_out first n counts marks j old now so_far unmarked = record {
  same_disk = so_far.same_disk;
  failures = so_far.failures;
  flushes = so_far.flushes;
  any_moment = so_far.any_moment;
  outside = so_far.outside;
  written = λ others. below_more (λ i. i < count_blocks (length counts) → block_at (seen now.cells) (first + i) ≡ counts_bytes (counts_in counts i)) j
      (so_far.written others) (λ inside. so_far.rest j (omega arith) ∙ others j inside unmarked);
  rest = λ i h. so_far.rest i (omega (arith, h));
}

module _ (first n : ℕ) (counts : List ℕ) (marks : List Bool) (j : ℕ) (bytes : List ℕ) (place : ℕ) (old now new : DiskState) (so_far : HaveWritten first n counts marks j old now)
    (there : place ≡ first + j) (below : j < n) (long : length bytes ≡ 4096) (writes : Writes (metadata_sector place) (sectors_of bytes) now new) where
  eight : length (sectors_of bytes) ≡ 8
  eight = omega (arith, length-sectors_of bytes, long)

  pub any_moment_more : LeavesOutside (metadata_sector first) (8 * n) old new
  any_moment_more = goes_on_outside so_far.any_moment writes (omega (arith, there)) (omega (arith, there, below, eight))

  pub outside_more : SameOutside (metadata_sector first) (8 * n) (seen old.cells) (seen new.cells)
  outside_more = SameOutside-then so_far.outside (SameOutside-writes (metadata_sector first) (8 * n) writes (omega (arith, there)) (omega (arith, there, below, eight)))

  around : SameOutside (8 * place) 8 (seen now.cells) (seen new.cells)
  around = SameOutside-writes (8 * place) 8 writes (omega arith) (omega (arith, eight))

  -- one block more
  pub goes_on : bytes ≡ counts_bytes (counts_in counts j) → IsWellFormed now.size now.cells → metadata_sector (first + n) ≤ now.size → new ≡ after_write (metadata_sector place) (sectors_of bytes) now
      → HaveWritten first n counts marks (j + 1) old new
  goes_on is formed room e = record {
    same_disk = record { size = writes.size ∙ so_far.same_disk.size; is_honest = writes.is_honest ∙ so_far.same_disk.is_honest };
    failures = ap (λ (d : DiskState). d.failures) e ∙ so_far.failures;
    flushes = writes.flushes ∙ so_far.flushes;
    any_moment = any_moment_more;
    outside = outside_more;
    written = λ others. below_more (λ i. i < count_blocks (length counts) → block_at (seen new.cells) (first + i) ≡ counts_bytes (counts_in counts i)) j
        (λ i lt inside. bytes_at-outside (8 * (first + i)) 8 around (inl (omega (arith, there, lt))) ∙ so_far.written others i lt inside)
        (λ inside. sym (ap (block_at (seen new.cells)) there) ∙ bytes_at-after_write (8 * place) 8 bytes now new formed (omega (arith, long)) (omega (arith, there, below, room)) e ∙ is);
    rest = λ i h. bytes_at-outside (8 * (first + i)) 8 around (inr (omega (arith, there, h))) ∙ so_far.rest i (omega (arith, h));
  }
