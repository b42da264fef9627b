-- The image of a commit is clean.
use Rattle.std.proofs.Common.{◌≡◌, ℕ, zero, suc, ◌+◌, ◌<◌, ◌≤◌, List, length, take, inl, inr, ap, ◌∙◌, subst, arith}
use Rattle.std.specs.Prelude.{cond, ◌==◌, nat_lt, slice_index, count_by}
use Rattle.std.specs.List.{range_with_len}
use Rattle.std.proofs.lemmas.Bool.{cases_eq, eq-eqb, le-ltb, lt-ltb, ne_eqb}
use Rattle.std.proofs.lemmas.List.{get_or-drop, get_or-take}
use Rattle.std.proofs.lemmas.List.Sums.{count_by_more_no, count_by_more_yes}
use Rattle.tp_model.specs.Sectors.{Sector}
use Rattle.tp_model.proofs.Counting.{count_more}
use Rattle.tp_layout.specs.Node.{NodeValue}
use Rattle.tp_layout.specs.declared.counts.Part.{Part}
use Rattle.tp_layout.specs.declared.counts.Part.TheVariants.{Data, Metadata}
use Rattle.tp_layout.specs.Super.{roots_of}
use Rattle.tp_layout.specs.declared.superblock.Superblock.{Superblock}
use Rattle.tp_image.specs.Areas.{blocks_of}
use Rattle.tp_image.specs.Clean.{IsClean, true_count}
use Rattle.tp_refs.specs.Store.{Store}
use Rattle.tp_stored.specs.Commit.{IsCommit, counts_of_part}
use Rattle.tp_stored.specs.Laws.{CountsAreTrue}
use Rattle.tp_stored.proofs.Counted.{commits_count}
use Rattle.tp_stored.proofs.Ruled.{commits_keep_the_rules}

-- of the first n counts, those over 0 and those that are 0
abbrev pub Parted : List ℕ → ℕ → Type 0
Parted xs n = count_by (λ k. nat_lt 0 (slice_index xs k)) (range_with_len 0 n) + count_by (λ x. x == 0) (take n xs) ≡ n

pub parted : (xs : List ℕ) (n : ℕ) → n ≤ length xs → Parted xs n
parted xs zero le = omega arith
parted xs (suc n) le =
    let before = parted xs n (omega (arith, le)) in
    let lt : n < length xs = omega (arith, le) in
    let more = count_more (λ k. nat_lt 0 (slice_index xs k)) n in
    let next : Parted xs (n + 1) = elim (cases_eq (slice_index xs n) 0) [
      | inl e ↦
          let some = ap {B = ℕ} (λ t. cond t 1 0) (le-ltb 0 (slice_index xs n) (omega (arith, e))) in
          let none = count_by_more_yes (λ x. x == 0) xs n 0 lt (eq-eqb (slice_index xs n) 0 e) in omega (arith, before, more, some, none)
      | inr d ↦
          let some = ap {B = ℕ} (λ t. cond t 1 0) (lt-ltb 0 (slice_index xs n) (omega (arith, d))) in
          let none = count_by_more_no (λ x. x == 0) xs n 0 lt (ne_eqb (slice_index xs n) 0 d) in omega (arith, before, more, some, none)
    ] in
    subst (λ (m : ℕ). Parted xs m) (omega arith) next

true_ones : (superblock : Superblock) (s : Store) (nodes : List NodeValue) (image : List Sector) → CountsAreTrue image superblock s nodes → (part : Part) (b : ℕ) → b < blocks_of superblock.geometry part
    → slice_index (counts_of_part superblock.geometry part s.counts) b ≡ true_count superblock.geometry (roots_of superblock) nodes part b
true_ones superblock s nodes image c Metadata b lt = get_or-take superblock.geometry.metadata_blocks s.counts b 0 lt ∙ c.metadata b lt
true_ones superblock s nodes image c Data b lt = get_or-drop superblock.geometry.metadata_blocks s.counts b 0 ∙ c.others b lt

pub commits_are_clean : (image : List Sector) (superblock : Superblock) (s : Store) → IsCommit image superblock s → IsClean image
commits_are_clean image superblock s commit =
    let c = commits_count image superblock s commit in
    record {
      superblock = superblock;
      chosen = commit.chosen;
      whole = commit.whole;
      rules = commits_keep_the_rules image superblock s commit;
      nodes = c.0;
      reachable = c.1;
      counts = record {
        counts = λ part. counts_of_part superblock.geometry part s.counts;
        stored = commit.counts;
        true_ones = true_ones superblock s c.0 image c.2;
        spare = let p = parted s.counts superblock.geometry.metadata_blocks (omega (arith, commit.sound.counted)) in omega (arith, p, commit.spare);
      };
    }
