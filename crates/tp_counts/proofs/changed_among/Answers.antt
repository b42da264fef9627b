use Rattle.std.proofs.Common.{◌+◌, ◌<◌, Bool, true, false, List, subst, sym, ◌∙◌, arith, inl, inr}
use Rattle.std.proofs.lemmas.Bool.{cases_lt}
use Rattle.std.proofs.lemmas.List.{get_or_default}
use Rattle.tp_counts.proofs.Touching.{HaveMarked, marks_more, marks_no_more, marks_none, past_same, untouched_same}
use Rattle.tp_counts.proofs.changed_among.Goals as goal
use Rattle.tp_counts.proofs.changed_among.Goals.{then-touched-run, else-touched-run}

pub loop-run-init : goal.loop-run-init
loop-run-init c = marks_none c.args.now.now c.args.kept.now

pub loop-run-preserved : goal.loop-run-preserved
loop-run-preserved c =
    let now = c.args.now.now in
    let kept = c.args.kept.now in
    let run = c.loop-run.run in
    let low : run < 1024 = omega (arith, c.loop-run-test.true, c.div_ceil-run-end.ensures, c.requires.few) in
    elim c.if-touched-run.branch [
      | then-touched-run w ↦
          subst (λ (l : List Bool). HaveMarked now kept (run + 1) l) (sym w.changed-is) (marks_more now kept run c.loop-run.changed c.loop-run.invariant w.is_same.result low w.is_same.ensures)
      | else-touched-run w ↦
          subst (λ (l : List Bool). HaveMarked now kept (run + 1) l) (sym w.changed-is)
          (marks_no_more now kept run c.loop-run.changed c.loop-run.invariant
          (untouched_same now kept c.args.touched.now run c.requires.same c.requires.touched
          (get_or_default c.args.touched.now run true false (omega (arith, low, c.requires.touched.long)) ∙ w.if-touched-run.false)))
    ]

pub returns-clause-same : goal.returns-clause-same
returns-clause-same c j unmarked =
    elim (cases_lt j c.loop-run.run) [
      | inl lt ↦ c.loop-run.invariant.same j lt unmarked
      | inr past ↦ past_same c.args.now.now c.args.kept.now j c.requires.same (omega (arith, past, c.loop-run-test.false, c.div_ceil-run-end.ensures))
    ]
