use Rattle.std.proofs.Common.{◌≡◌, get_or, arith}
use Rattle.tp_model.proofs.Counting.{count_more}
use Rattle.tp_counts.specs.Counts.{is_used}
use Rattle.tp_counts.proofs.Tallying.{unused_test, used_most, used_test}
use Rattle.tp_counts.proofs.used_among.Goals as goal
use Rattle.tp_counts.proofs.used_among.Goals.{then-count-gt0, else-count-gt0}

pub overflow_add-used : goal.overflow_add-used
overflow_add-used c = omega (arith, c.requires, c.loop-count.invariant, used_most c.loop-count.count-index c.args.counts.now)

pub loop-count-preserved : goal.loop-count-preserved
loop-count-preserved c =
    let more = count_more (is_used c.args.counts.now) c.loop-count.count-index in
    let here = get_or c.args.counts.now c.loop-count.count-index 0 in
    elim c.if-count-gt0.branch [
      | then-count-gt0 w ↦ omega (arith, c.loop-count.invariant, more, w.used-is, used_test here w.if-count-gt0.true)
      | else-count-gt0 w ↦ (let none : here ≡ 0 = omega (arith, w.if-count-gt0.false) in omega (arith, c.loop-count.invariant, more, w.used-is, unused_test here none))
    ]
