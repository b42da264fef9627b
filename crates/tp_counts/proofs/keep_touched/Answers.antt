use Rattle.std.proofs.Common.{◌<◌, true, false, ◌∙◌, arith}
use Rattle.std.proofs.lemmas.List.{get_or_default}
use Rattle.tp_counts.proofs.Touching.{HaveKept-named, kept_all, keeps_none, keeps_touched, keeps_untouched, runs_all}
use Rattle.tp_counts.proofs.keep_touched.Goals as goal
use Rattle.tp_counts.proofs.keep_touched.Goals.{then-touched-run, else-touched-run}

pub loop-run-init : goal.loop-run-init
loop-run-init c = keeps_none c.args.now.now c.args.kept.now c.args.free_by_run.now c.args.touched.now c.requires.same c.requires.runs c.requires.touched

pub loop-run-preserved : goal.loop-run-preserved
loop-run-preserved c =
    let now = c.args.now.now in
    let old = c.args.kept.now in
    let old_runs = c.args.free_by_run.now in
    let marks = c.args.touched.now in
    let run = c.loop-run.run in
    let low : run < 1024 = omega (arith, c.loop-run-test.true, c.div_ceil-run-end.ensures, c.requires.few) in
    elim c.if-touched-run.branch [
      | then-touched-run w ↦
          HaveKept-named w.kept-is w.free_by_run-is
          (keeps_touched now old old_runs marks c.requires.same c.requires.runs c.requires.touched run c.loop-run.kept c.loop-run.free_by_run c.loop-run.invariant low
          w.copy_run.new.kept w.unused_in_run.result w.copy_run.ensures.long w.copy_run.ensures.here w.copy_run.ensures.others w.unused_in_run.ensures)
      | else-touched-run w ↦
          HaveKept-named w.kept-is w.free_by_run-is
          (keeps_untouched now old old_runs marks c.requires.same c.requires.runs c.requires.touched run c.loop-run.kept c.loop-run.free_by_run c.loop-run.invariant low
          (get_or_default marks run true false (omega (arith, low, c.requires.touched.long)) ∙ w.if-touched-run.false))
    ]

pub returns-clause-kept : goal.returns-clause-kept
returns-clause-kept c =
    kept_all c.args.now.now c.args.kept.now c.args.free_by_run.now c.args.touched.now c.requires.same c.requires.runs c.requires.touched c.loop-run.run c.loop-run.kept c.loop-run.free_by_run c.loop-run.invariant
    (omega (arith, c.loop-run-test.false, c.div_ceil-run-end.ensures))

pub returns-clause-runs : goal.returns-clause-runs
returns-clause-runs c =
    runs_all c.args.now.now c.args.kept.now c.args.free_by_run.now c.args.touched.now c.requires.same c.requires.runs c.requires.touched c.loop-run.run c.loop-run.kept c.loop-run.free_by_run c.loop-run.invariant
    (omega (arith, c.loop-run-test.false, c.div_ceil-run-end.ensures))
