use Rattle.std.proofs.Common.{rules, arith}
use Rattle.nbd_wire.specs.Reading.{wanted}
use Rattle.nbd_wire.proofs.Frames.{wants_more, wanted_fixed, wanted_whole}
use Rattle.nbd_wire.proofs.reading.wanted.Goals as goal

pub returns-then-text-fixed-clause-partial : goal.returns-then-text-fixed-clause-partial
returns-then-text-fixed-clause-partial c = λ lt. wants_more c.args.kind c.args.text.now (let e = wanted_fixed c.args.kind c.args.text.now (omega (arith, c.if-text-fixed.true)) in omega arith)

pub returns-else-text-fixed-clause-partial : goal.returns-else-text-fixed-clause-partial
returns-else-text-fixed-clause-partial c = λ lt. wants_more c.args.kind c.args.text.now (let e = wanted_whole c.args.kind c.args.text.now (omega (arith, c.if-text-fixed.false)) in omega arith)

pub returns-then-text-fixed-clause-whole : goal.returns-then-text-fixed-clause-whole
returns-then-text-fixed-clause-whole c = λ le. absurd (omega arith)

pub returns-else-text-fixed-clause-length : goal.returns-else-text-fixed-clause-length
unfolding wanted
returns-else-text-fixed-clause-length c = search rules

pub returns-else-text-fixed-clause-whole : goal.returns-else-text-fixed-clause-whole
unfolding wanted
returns-else-text-fixed-clause-whole c = search rules
