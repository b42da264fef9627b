use Rattle.std.proofs.Common.{ℕ, List, ◌++◌, ap, arith, length}
use Rattle.tp_pages.specs.Texts.{runs_text}
use Rattle.tp_pages.proofs.Telling.{runs_all, runs_more}
use Rattle.tp_pages.proofs.text.put_runs.Goals as goal

pub loop-extent-init : goal.loop-extent-init
loop-extent-init c =
    let empty = ap (λ (l : List ℕ). length l) c.clear.ensures in
    record { text = ap (λ (l : List ℕ). l ++ runs_text c.args.unit c.args.extents.now) c.clear.ensures; short = omega (arith, empty); inside = omega arith }

pub put_spaced_run-requires-clause-room : goal.put_spaced_run-requires-clause-room
put_spaced_run-requires-clause-room c = omega (arith, c.loop-extent.invariant.short, c.loop-extent-test.true, c.requires.few)

pub loop-extent-preserved : goal.loop-extent-preserved
loop-extent-preserved c =
    let was = c.loop-extent.invariant in
    record {
      text = runs_more c.args.unit c.loop-extent.extent-index _ c.args.extents.now c.loop-extent.line.bytes c.put_spaced_run.new.line.bytes c.loop-extent-test.true c.put_spaced_run.ensures.text was.text;
      short = omega (arith, was.short, c.put_spaced_run.ensures.short);
      inside = omega (arith, c.loop-extent-test.true);
    }

pub returns-clause-text : goal.returns-clause-text
returns-clause-text c = runs_all c.args.unit c.loop-extent.extent-index c.args.extents.now c.loop-extent.line.bytes c.loop-extent-test.false c.loop-extent.invariant.text

pub returns-clause-short : goal.returns-clause-short
returns-clause-short c = omega (arith, c.loop-extent.invariant.short, c.loop-extent.invariant.inside, c.requires.few)
