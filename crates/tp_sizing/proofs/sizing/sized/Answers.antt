use Rattle.std.proofs.Common.{◌+◌, ◌/◌, arith, subst, sym}
use Rattle.std.proofs.lemmas.Bool.{false≢true}
use Rattle.tp_sizing.specs.Sizing.{IsSizedFor}
use Rattle.tp_sizing.proofs.Sized.{enough_of, left, sized}
use Rattle.tp_sizing.proofs.sizing.sized.Goals as goal

pub metadata_for-metadata_blocks-requires-clause-fit : goal.metadata_for-metadata_blocks-requires-clause-fit
metadata_for-metadata_blocks-requires-clause-fit c =
    let w = c.args.wanted.now in
    let pool = c.blocks_for-data_blocks in
    let volume = c.blocks_for-virtual_blocks in
    let smallest = c.requires.smallest in
    left w c.args.sectors pool.result volume.result c.requires.range smallest.allowed.0 (enough_of w c.args.sectors smallest.suits) (pool.ensures.enough, pool.ensures.least)
    (volume.ensures.enough, volume.ensures.least) (1 + c.min.result / 63) (omega (arith, c.min.ensures)) smallest.suits

pub returns-in-Ok : goal.returns-in-Ok
returns-in-Ok c =
    let w = c.args.wanted.now in
    let pool = c.blocks_for-data_blocks in
    let volume = c.blocks_for-virtual_blocks in
    let metadata = c.metadata_for-metadata_blocks in
    let smallest = c.requires.smallest in
    subst (IsSizedFor w) (sym c.in-Ok.ensures.good)
    (sized w c.args.sectors pool.result volume.result c.requires.range smallest.allowed.0 (enough_of w c.args.sectors smallest.suits) (pool.ensures.enough, pool.ensures.least)
    (volume.ensures.enough, volume.ensures.least) (1 + c.min.result / 63) (omega (arith, c.min.ensures)) metadata.result smallest metadata.ensures.enough metadata.ensures.least metadata.ensures.most)

pub returns-in-Err : goal.returns-in-Err
returns-in-Err c =
    let w = c.args.wanted.now in
    let pool = c.blocks_for-data_blocks in
    let volume = c.blocks_for-virtual_blocks in
    let metadata = c.metadata_for-metadata_blocks in
    let smallest = c.requires.smallest in
    λ range. false≢true (c.in-Err.ensures.limits.1
    (sized w c.args.sectors pool.result volume.result c.requires.range smallest.allowed.0 (enough_of w c.args.sectors smallest.suits) (pool.ensures.enough, pool.ensures.least)
    (volume.ensures.enough, volume.ensures.least) (1 + c.min.result / 63) (omega (arith, c.min.ensures)) metadata.result smallest metadata.ensures.enough metadata.ensures.least metadata.ensures.most).limits)
