use Rattle.std.proofs.Common.{◌≡◌, ◌∙◌, ap, length, Some, arith}
use Rattle.tp_disk.proofs.Picking.{put_sector, picking_passed, picking_taken, picking_last}
use Rattle.tp_disk.proofs.memory.take_sector.Goals as goal

pub returns-then-more-gt0-clause-picking : goal.returns-then-more-gt0-clause-picking
returns-then-more-gt0-clause-picking c picks cells h =
    let put = put_sector (length c.args.left.now) c.args.i c.args.value.now c.args.image.now c.put.new.image c.requires.long c.requires.many c.requires.whole c.put.ensures.image in
    picking_taken c.args.i c.in-Some.more c.args.value.now c.requires.many c.in-Some.is c.if-more-gt0.true put h

pub returns-else-more-gt0-clause-picking : goal.returns-else-more-gt0-clause-picking
returns-else-more-gt0-clause-picking c picks cells h =
    let none : c.in-Some.more ≡ 0 = omega (arith, c.if-more-gt0.false) in
    picking_passed c.args.i c.args.value.now c.requires.many (c.in-Some.is ∙ ap Some none) h

pub returns-in-None-clause-picking : goal.returns-in-None-clause-picking
returns-in-None-clause-picking c picks cells h =
    let put = put_sector (length c.args.left.now) c.args.i c.args.value.now c.args.image.now c.put-in-None.new.image c.requires.long c.requires.many c.requires.whole c.put-in-None.ensures.image in
    picking_last c.args.i c.args.value.now c.requires.many c.in-None.is put h
