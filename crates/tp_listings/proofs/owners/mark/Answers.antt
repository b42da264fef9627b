use Rattle.std.proofs.Common.{arith}
use Rattle.tp_listings.proofs.Marking.{below_next, marks_next}
use Rattle.tp_listings.proofs.owners.mark.Goals as goal

pub loop-i-preserved : goal.loop-i-preserved
loop-i-preserved c = record {
  marks = marks_next c.args.mine c.loop-i.i c.args.slots.now c.index-slots-i.result c.loop-i.owners c.take.new.owners _ c.place.result (omega (arith, c.loop-i-test.true)) c.index-slots-i.is c.place.ensures.value c.take.ensures
      c.loop-i.invariant.marks;
  below = below_next c.loop-i.i c.args.slots.now c.index-slots-i.result (omega (arith, c.loop-i-test.true)) c.index-slots-i.is c.place.ensures.below c.loop-i.invariant.below;
}
