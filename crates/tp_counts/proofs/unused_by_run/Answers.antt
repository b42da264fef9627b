use Rattle.std.proofs.Common.{◌+◌, ◌/◌, subst, sym, arith}
use Rattle.tp_counts.specs.Tallies.{AreRuns}
use Rattle.tp_counts.proofs.Runs.{no_runs, run_most, runs_none_more, runs_one_more}
use Rattle.tp_counts.proofs.unused_by_run.Goals as goal
use Rattle.tp_counts.proofs.unused_by_run.Goals.{then-counts-b-eq0, else-counts-b-eq0}

pub loop-b-init : goal.loop-b-init
loop-b-init c = no_runs c.args.counts.now c.args.counts.now

pub overflow_add-runs : goal.overflow_add-runs
overflow_add-runs c = omega (arith, c.requires, run_most _ _ _ _ c.loop-b.invariant (c.loop-b.b / 1024) (omega arith))

pub loop-b-preserved : goal.loop-b-preserved
loop-b-preserved c =
    elim c.if-counts-b-eq0.branch [
      | then-counts-b-eq0 w ↦ subst (AreRuns (c.loop-b.b + 1) c.args.counts.now c.args.counts.now) (sym w.runs-is)
          (runs_one_more c.loop-b.b c.args.counts.now c.loop-b.runs c.loop-b.invariant (omega arith) w.if-counts-b-eq0.true)
      | else-counts-b-eq0 w ↦ subst (AreRuns (c.loop-b.b + 1) c.args.counts.now c.args.counts.now) (sym w.runs-is)
          (runs_none_more c.loop-b.b c.args.counts.now c.loop-b.runs c.loop-b.invariant (omega arith) (omega (arith, w.if-counts-b-eq0.false)))
    ]
