use Rattle.std.proofs.Common.{ℕ, ◌≡◌, ◌+◌, ◌*◌, ◌/◌, ◌≤◌, length, arith, subst, sym}
use Rattle.tp_model.specs.Disk.{seen}
use Rattle.tp_model.specs.Geometry.{fixed_part}
use Rattle.tp_image.specs.Areas.{AreSpelled}
use Rattle.tp_image.proofs.AreaLaws.{all_fit, counts_fixed}
use Rattle.tp_check.proofs.stored.test_counts.Goals as goal

fits : (blocks others size k : ℕ) → 8 * blocks + others ≤ size → k ≤ blocks → 8 * k ≤ size
fits blocks others size k all few = omega (arith, all, few)

below : (first blocks counts fixed most k : ℕ) → k ≡ first → blocks ≡ counts → first + (blocks + 1023) / 1024 ≤ fixed → fixed + 1024 ≤ most → k + (counts + 1023) / 1024 ≤ most
below first blocks counts fixed most k e same inside least = subst (λ (n : ℕ). k + (n + 1023) / 1024 ≤ most) same (omega (arith, e, inside, least))

pub are_spelled-requires-clause-disk : goal.are_spelled-requires-clause-disk
are_spelled-requires-clause-disk g c =
    let geometry = c.args.geometry.now in
    let within = c.counts_start.ensures.within in
    fits geometry.metadata_blocks (geometry.data_blocks * geometry.block_sectors) (g.D.Disk.state c.args.disk.now).size _ c.requires.disk
    (below _ _ (length c.args.counts.now) (fixed_part geometry) geometry.metadata_blocks c.counts_start.result c.counts_start.ensures.value (sym c.requires.all)
    (counts_fixed geometry c.args.part c.args.area).1 within.metadata_least)

pub are_spelled-requires-clause-blocks : goal.are_spelled-requires-clause-blocks
are_spelled-requires-clause-blocks g c =
    let geometry = c.args.geometry.now in
    let within = c.counts_start.ensures.within in
    let inside = below _ _ (length c.args.counts.now) (fixed_part geometry) geometry.metadata_blocks c.counts_start.result c.counts_start.ensures.value (sym c.requires.all)
    (counts_fixed geometry c.args.part c.args.area).1 within.metadata_least in
    omega (arith, inside, within.metadata_most)

pub returns-in-Ok-true-clause-stored : goal.returns-in-Ok-true-clause-stored
returns-in-Ok-true-clause-stored g c honest = record {
  long = c.requires.all;
  fit = all_fit _ (λ i. omega (arith, c.type_inv.counts i));
  spelled = subst (λ (first : ℕ). AreSpelled (seen (g.D.Disk.state c.args.disk.now).cells) first c.args.counts.now) c.counts_start.ensures.value
      ((c.in-Ok-true.ensures.told honest).0 c.in-Ok-true.field-0-test);
}
