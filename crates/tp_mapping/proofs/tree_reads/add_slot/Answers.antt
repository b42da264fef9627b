use Rattle.std.proofs.Common.{◌∙◌, arith}
use Rattle.tp_mapping.proofs.Filling.{no_room, one_added}
use Rattle.tp_mapping.proofs.tree_reads.add_slot.Goals as goal

pub returns-then-len-lt-MOST_SLOTS-clause-value : goal.returns-then-len-lt-MOST_SLOTS-clause-value
returns-then-len-lt-MOST_SLOTS-clause-value c = c.push.ensures.items ∙ one_added 252 c.args.slots.now.items c.args.slot (omega (arith, c.if-len-lt-MOST_SLOTS.true, c.len-len.ensures.value))

pub returns-else-len-lt-MOST_SLOTS-clause-value : goal.returns-else-len-lt-MOST_SLOTS-clause-value
returns-else-len-lt-MOST_SLOTS-clause-value c = no_room 252 c.args.slots.now.items _ (omega (arith, c.if-len-lt-MOST_SLOTS.false, c.len-len.ensures.fits, c.len-len.ensures.value))
