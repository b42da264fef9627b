use Rattle.std.proofs.Common.{◌+◌, ◌/◌, arith}
use Rattle.tp_sizing.proofs.Sized.{most}
use Rattle.tp_sizing.proofs.sizing.most_volumes.Goals as goal

pub returns : goal.returns
returns c =
    let w = c.args.wanted.now in
    let pool = c.blocks_for-data_blocks in
    let volume = c.blocks_for-virtual_blocks in (
      _,
      most w c.args.sectors pool.result volume.result c.requires.range c.requires.allowed c.requires.enough (pool.ensures.enough, pool.ensures.least) (volume.ensures.enough, volume.ensures.least)
          (1 + c.min.result / 63) (omega (arith, c.min.ensures)) c.fitting_volumes.result c.fitting_volumes.ensures.fit c.fitting_volumes.ensures.none,
    )
