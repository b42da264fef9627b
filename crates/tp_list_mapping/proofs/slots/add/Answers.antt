use Rattle.std.proofs.Common.{arith}
use Rattle.tp_mapping.proofs.Filling.{no_room}
use Rattle.tp_list_mapping.proofs.Filling.{pushed, skipped}
use Rattle.tp_list_mapping.proofs.slots.add.Goals as goal

pub returns-then-number-clause-value : goal.returns-then-number-clause-value
returns-then-number-clause-value c =
    skipped 252 c.args.from c.args.out.now.items c.args.slot (omega (arith, c.len-len.ensures.fits, c.len-len.ensures.value))
    (omega (arith, c.if-number.true, c.block.ensures.value, c.number.ensures.value, c.number-2.ensures.value))

pub returns-then-len-lt-MOST_SLOTS-clause-value : goal.returns-then-len-lt-MOST_SLOTS-clause-value
returns-then-len-lt-MOST_SLOTS-clause-value c =
    pushed 252 c.args.from c.args.out.now.items c.push.new.self.items c.args.slot (omega (arith, c.if-len-lt-MOST_SLOTS.true, c.len-len.ensures.value))
    (omega (arith, c.if-number.false, c.block.ensures.value, c.number.ensures.value, c.number-2.ensures.value)) c.push.ensures.items

pub returns-else-len-lt-MOST_SLOTS-clause-value : goal.returns-else-len-lt-MOST_SLOTS-clause-value
returns-else-len-lt-MOST_SLOTS-clause-value c = no_room 252 c.args.out.now.items _ (omega (arith, c.if-len-lt-MOST_SLOTS.false, c.len-len.ensures.fits, c.len-len.ensures.value))
