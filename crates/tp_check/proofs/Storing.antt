-- The counts that a whole walk found, against those that are stored.
use Rattle.std.proofs.Common.{◌≡◌, ℕ, ◌<◌, ◌≤◌, List, length, refl, sym, ◌∙◌, subst, arith}
use Rattle.std.specs.Prelude.{◌%◌, ◌==◌, slice_index, count_by}
use Rattle.std.proofs.lemmas.List.{ext_get_or}
use Rattle.tp_model.specs.Sectors.{Sector}
use Rattle.tp_layout.specs.declared.counts.Part.{Part}
use Rattle.tp_layout.specs.declared.counts.Part.TheVariants.{Data, Metadata}
use Rattle.tp_layout.specs.declared.superblock.SlotId.{SlotId}
use Rattle.tp_layout.specs.declared.superblock.SlotId.TheVariants.{Zero, One}
use Rattle.tp_layout.specs.declared.superblock.Superblock.{Superblock}
use Rattle.tp_layout.specs.Super.{roots_of, slot_number}
use Rattle.tp_image.specs.Areas.{HoldsCounts, blocks_of}
use Rattle.tp_image.specs.Clean.{HasTrueCounts, true_count}
use Rattle.tp_image.specs.Counts.{AreReachable, metadata_count}
use Rattle.tp_image.specs.Faults.{HasBadCount, few, untrue}
use Rattle.tp_check.specs.Walk.{IsWhole, Progress}

abbrev pub walked_counts : Progress → Part → List ℕ
walked_counts p Metadata = p.metadata
walked_counts p Data = p.others

one_area : (a b : SlotId) (n : ℕ) → slot_number a ≡ n → slot_number b ≡ n → a ≡ b
one_area Zero Zero n e f = refl
one_area One One n e f = refl
one_area Zero One n e f = absurd (omega (arith, e, f))
one_area One Zero n e f = absurd (omega (arith, e, f))

module _ (image : List Sector) (superblock : Superblock) (p : Progress) (w : IsWhole image p) (geometry : superblock.geometry ≡ p.geometry) (roots : roots_of superblock ≡ p.roots)
    (metadata_long : length p.metadata ≡ superblock.geometry.metadata_blocks) (others_long : length p.others ≡ superblock.geometry.data_blocks) where
  long : (part : Part) → length (walked_counts p part) ≡ blocks_of superblock.geometry part
  long Metadata = metadata_long
  long Data = others_long

  true_ones : (part : Part) (b : ℕ) → b < blocks_of superblock.geometry part → slice_index (walked_counts p part) b ≡ true_count superblock.geometry (roots_of superblock) w.nodes part b
  true_ones Metadata b lt = w.metadata b (omega (arith, lt, metadata_long)) ∙ (λ i. metadata_count (sym geometry i) (sym roots i) w.nodes b)
  true_ones Data b lt = w.others b (omega (arith, lt, others_long))

  pub counts_true : (area : SlotId) → slot_number area ≡ superblock.sequence % 2 → HoldsCounts image superblock.geometry Metadata area p.metadata → HoldsCounts image superblock.geometry Data area p.others
      → 128 ≤ count_by (λ n. n == 0) p.metadata → HasTrueCounts image superblock w.nodes
  counts_true area its metadata others spare = record {
    counts = walked_counts p;
    stored = λ part other same. subst (λ (x : SlotId). HoldsCounts image superblock.geometry part x (walked_counts p part)) (one_area area other (superblock.sequence % 2) its same) (both part);
    true_ones = true_ones;
    spare = spare;
  }
    where
      both : (part : Part) → HoldsCounts image superblock.geometry part area (walked_counts p part)
      both Metadata = metadata
      both Data = others

  pub counts_untrue : (part : Part) (area : SlotId) → slot_number area ≡ superblock.sequence % 2 → (HoldsCounts image superblock.geometry part area (walked_counts p part) → ⊥) → HasBadCount image superblock
  counts_untrue part area its none =
      untrue part area w.nodes its (subst (λ (x : List ℕ). AreReachable image x w.nodes) (sym roots) w.reachable) (λ counts stored true.
      let same : counts ≡ walked_counts p part =
      ext_get_or 0 counts (walked_counts p part) (stored.long ∙ sym (long part)) (λ k lt. let inside : k < blocks_of superblock.geometry part = omega (arith, lt, stored.long) in true k inside ∙ sym (true_ones part k inside)) in
      none (subst (λ (xs : List ℕ). HoldsCounts image superblock.geometry part area xs) same stored))

  pub counts_few : (area : SlotId) → slot_number area ≡ superblock.sequence % 2 → HoldsCounts image superblock.geometry Metadata area p.metadata → count_by (λ n. n == 0) p.metadata < 128 → HasBadCount image superblock
  counts_few area its stored low = few area p.metadata its stored low
