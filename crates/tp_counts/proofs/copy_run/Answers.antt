use Rattle.std.proofs.Common.{◌-◌, ◌*◌, length, ap, ◌∙◌, arith}
use Rattle.tp_counts.proofs.Pieces.{length-piece, piece, put_here}
use Rattle.tp_counts.proofs.Touching.{put_beside}
use Rattle.tp_counts.proofs.copy_run.Goals as goal

pub returns-clause-here : goal.returns-clause-here
returns-clause-here c =
    let now = c.args.now.now in
    let run = c.args.run in
    put_here c.args.kept.now c.copy_from_slice.new.self run (c.min-to.result - 1024 * run) (omega (arith, c.min-to.ensures, c.requires.same, c.requires.inside))
    (ap length c.copy_from_slice.ensures.after ∙ length-piece now run c.min-to.result c.requires.inside c.min-to.ensures)
    ∙ c.copy_from_slice.ensures.after ∙ piece now run c.min-to.result c.requires.inside c.min-to.ensures

pub returns-clause-others : goal.returns-clause-others
returns-clause-others c r differ =
    let now = c.args.now.now in
    let run = c.args.run in
    put_beside c.args.kept.now c.copy_from_slice.new.self r run (c.min-to.result - 1024 * run) (omega (arith, c.min-to.ensures, c.requires.same, c.requires.inside))
    (ap length c.copy_from_slice.ensures.after ∙ length-piece now run c.min-to.result c.requires.inside c.min-to.ensures) differ
