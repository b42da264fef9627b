use Rattle.std.proofs.Common.{◌≡◌, ◌+◌, ◌*◌, ◌<◌, length, min, sym, ◌∙◌, arith}
use Rattle.tp_counts.proofs.Touching.{all_free, few_free, none_more, none_yet, one_more}
use Rattle.tp_counts.proofs.unused_in_run.Goals as goal
use Rattle.tp_counts.proofs.unused_in_run.Goals.{then-counts-b-eq0, else-counts-b-eq0}

pub loop-b-init : goal.loop-b-init
loop-b-init c = (omega arith, omega (arith, c.requires.inside), sym (none_yet c.args.counts.now c.args.run))

pub overflow_add-unused : goal.overflow_add-unused
overflow_add-unused c =
    omega (arith, c.requires.few, c.loop-b.invariant.1, c.loop-b.invariant.2, few_free c.args.counts.now c.args.run c.loop-b.b c.loop-b.invariant.0 (omega (arith, c.loop-b.invariant.1)))

pub loop-b-preserved : goal.loop-b-preserved
loop-b-preserved c =
    let counts = c.args.counts.now in
    let run = c.args.run in
    let b = c.loop-b.b in
    let high : b < min (length counts) (1024 * run + 1024) = omega (arith, c.loop-b-test.true, c.min-b-end.ensures) in
    let inside : b < 1024 * run + 1024 = omega (arith, high) in
    elim c.if-counts-b-eq0.branch [
      | then-counts-b-eq0 w ↦ (
        omega (arith, c.loop-b.invariant.0),
        omega (arith, high),
        w.unused-is ∙ (let more = one_more counts run b c.loop-b.invariant.0 inside w.if-counts-b-eq0.true in omega (arith, more, c.loop-b.invariant.2)),
      )
      | else-counts-b-eq0 w ↦ (
        omega (arith, c.loop-b.invariant.0),
        omega (arith, high),
        w.unused-is ∙ c.loop-b.invariant.2 ∙ sym (none_more counts run b c.loop-b.invariant.0 inside (omega (arith, w.if-counts-b-eq0.false))),
      )
    ]

pub returns : goal.returns
returns c =
    let counts = c.args.counts.now in
    let run = c.args.run in
    let end : c.loop-b.b ≡ min (length counts) (1024 * run + 1024) = omega (arith, c.loop-b-test.false, c.loop-b.invariant.1, c.min-b-end.ensures) in
    c.loop-b.invariant.2 ∙ sym (all_free counts run (length counts) c.loop-b.b end)
