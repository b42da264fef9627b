use Rattle.std.proofs.Common.{◌∙◌}
use Rattle.tp_plain.proofs.NewBlocks.{count-need}
use Rattle.tp_plain.proofs.room.need.Goals as goal

pub returns : goal.returns
returns c p call is size all blocks at =
    c.count_new.ensures
    ∙ count-need p c.args.volume c.args.change call c.args.slots.now c.args.labels.now is all at c.args.block_sectors size c.requires.some blocks
