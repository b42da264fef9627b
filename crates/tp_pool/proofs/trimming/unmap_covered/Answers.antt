use Rattle.std.proofs.Common.{◌≡◌, subst, arith}
use Rattle.tp_model.specs.Geometry.{Geometry, IsWithinLimits}
use Rattle.tp_shown.specs.Shown.{blocks_covered, first_covered}
use Rattle.tp_pool.proofs.Unmapping.{covered_few, covered_run}
use Rattle.tp_pool.proofs.trimming.unmap_covered.Goals as goal

pub unmap_blocks-requires-clause-few : goal.unmap_blocks-requires-clause-few
unmap_blocks-requires-clause-few g c =
    let size = g.M.Metadata.geometry c.args.metadata.now in
    let limits : IsWithinLimits size = subst IsWithinLimits c.geometry.ensures c.covered-first.ensures.limits in
    let blocks : c.covered-first.result.1 ≡ blocks_covered size c.args.sector c.args.count =
    subst (λ (x : Geometry). c.covered-first.result.1 ≡ blocks_covered x c.args.sector c.args.count) c.geometry.ensures c.covered-first.ensures.blocks in
    omega (arith, blocks, covered_few size limits c.args.sector c.args.count (c.requires.range limits) c.requires.most)

pub unmap_blocks-requires-clause-run : goal.unmap_blocks-requires-clause-run
unmap_blocks-requires-clause-run g c =
    let size = g.M.Metadata.geometry c.args.metadata.now in
    let limits : IsWithinLimits size = subst IsWithinLimits c.geometry.ensures c.covered-first.ensures.limits in
    let first : c.covered-first.result.0 ≡ first_covered size c.args.sector =
    subst (λ (x : Geometry). c.covered-first.result.0 ≡ first_covered x c.args.sector) c.geometry.ensures c.covered-first.ensures.first in
    let blocks : c.covered-first.result.1 ≡ blocks_covered size c.args.sector c.args.count =
    subst (λ (x : Geometry). c.covered-first.result.1 ≡ blocks_covered x c.args.sector c.args.count) c.geometry.ensures c.covered-first.ensures.blocks in
    omega (arith, first, blocks, covered_run size limits c.args.sector c.args.count (c.requires.range limits))
