use Rattle.std.proofs.Common.{◌*◌, ◌^◌}
use Rattle.std.proofs.lemmas.Bool.{le-leb, leb-true}
use Rattle.tp_sizing.proofs.Blocks.{enough_blocks, few_blocks}
use Rattle.tp_sizing.proofs.numbers.are_enough.Goals as goal

pub returns-then-blocks_for-le-MOST_DATA_BLOCKS : goal.returns-then-blocks_for-le-MOST_DATA_BLOCKS
returns-then-blocks_for-le-MOST_DATA_BLOCKS c =
    let w = c.args.wanted.now in
    let unit = 512 * c.args.sectors in
    let blocks = c.blocks_for.ensures in
    let also = c.blocks_for-then-blocks_for-le-MOST_DATA_BLOCKS.ensures in (
      (λ yes. (
        enough_blocks c.blocks_for.result 1048576 unit w.size blocks.enough c.if-blocks_for-le-MOST_DATA_BLOCKS.true,
        enough_blocks c.blocks_for-then-blocks_for-le-MOST_DATA_BLOCKS.result (2 ^ 24) unit w.volume_size also.enough (leb-true c.blocks_for-then-blocks_for-le-MOST_DATA_BLOCKS.result (2 ^ 24) yes),
      )),
      (λ enough. le-leb c.blocks_for-then-blocks_for-le-MOST_DATA_BLOCKS.result (2 ^ 24) (few_blocks c.blocks_for-then-blocks_for-le-MOST_DATA_BLOCKS.result (2 ^ 24) unit w.volume_size also.least enough.1)),
    )
