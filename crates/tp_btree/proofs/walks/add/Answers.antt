use Rattle.std.proofs.Common.{arith}
use Rattle.tp_btree.proofs.Filling.{no_room, pushed, skipped}
use Rattle.tp_btree.proofs.walks.add.Goals as goal

pub returns-then-entry-from-clause-value : goal.returns-then-entry-from-clause-value
returns-then-entry-from-clause-value c = skipped 252 c.args.from c.args.entries.now.items c.args.entry (omega (arith, c.len-len.ensures.fits, c.len-len.ensures.value)) c.if-entry-from.true

pub returns-then-len-lt-MOST_ENTRIES-clause-value : goal.returns-then-len-lt-MOST_ENTRIES-clause-value
returns-then-len-lt-MOST_ENTRIES-clause-value c =
    pushed 252 c.args.from c.args.entries.now.items c.push.new.self.items c.args.entry (omega (arith, c.if-len-lt-MOST_ENTRIES.true, c.len-len.ensures.value)) c.if-entry-from.false c.push.ensures.items

pub returns-else-len-lt-MOST_ENTRIES-clause-value : goal.returns-else-len-lt-MOST_ENTRIES-clause-value
returns-else-len-lt-MOST_ENTRIES-clause-value c = no_room 252 c.args.entries.now.items _ (omega (arith, c.if-len-lt-MOST_ENTRIES.false, c.len-len.ensures.fits, c.len-len.ensures.value))
