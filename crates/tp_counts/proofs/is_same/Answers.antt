use Rattle.std.proofs.Common.{◌-◌, ◌*◌, take, drop, sym, ◌∙◌, arith}
use Rattle.tp_counts.proofs.Pieces.{piece}
use Rattle.tp_counts.proofs.Touching.{told_same}
use Rattle.tp_counts.proofs.is_same.Goals as goal

pub returns : goal.returns
returns c =
    let now = c.args.now.now in
    let kept = c.args.kept.now in
    let run = c.args.run in
    let to = c.min-to.result in
    let mine = piece now run to c.requires.inside c.min-to.ensures in
    let other = piece kept run to (omega (arith, c.requires.inside, c.requires.same)) (omega (arith, c.min-to.ensures, c.requires.same)) in
    let told = told_same c.eq.result (take (to - 1024 * run) (drop (1024 * run) now)) (take (to - 1024 * run) (drop (1024 * run) kept)) c.eq.ensures in (
      λ yes. sym mine ∙ told.0 yes ∙ other,
      λ same. told.1 (mine ∙ same ∙ sym other),
    )
