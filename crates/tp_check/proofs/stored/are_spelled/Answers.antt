use Rattle.std.proofs.Common.{below_more, ◌≡◌, ◌+◌, ◌*◌, ◌≤◌, length, sym, ap, ◌∙◌, subst, arith}
use Rattle.std.specs.Prelude.{IsTrue}
use Rattle.std.proofs.lemmas.Bool.{true≢false}
use Rattle.tp_model.specs.Disk.{DiskState, seen}
use Rattle.tp_layout.specs.Counts.{counts_bytes}
use Rattle.tp_image.specs.Nodes.{block_at}
use Rattle.tp_image.specs.Areas.{counts_in}
use Rattle.tp_image.proofs.AreaLaws.{piece}
use Rattle.tp_check.proofs.stored.are_spelled.Goals as goal

pub returns-then-not-branch-clause-told : goal.returns-then-not-branch-clause-told
returns-then-not-branch-clause-told g c honest =
    let was = c.loop-j.invariant.0 in
    let in_list : 1024 * c.loop-j.j ≤ length c.args.counts.now = omega (arith, c.loop-j-test.true, c.div_ceil-j-end.ensures) in
    let told = c.in_ok-is_spelled.ensures.told (subst (λ (d : DiskState). IsTrue d.is_honest) (sym was) honest) in (
      (λ yes. absurd (true≢false (sym yes))),
      (λ all. subst IsTrue c.if-not-branch.true (told.1 (
          ap (λ (d : DiskState). block_at (seen d.cells) c.new.result) was
          ∙ ap (block_at (seen (g.D.Disk.state c.args.disk.now).cells)) c.new.ensures
          ∙ all c.loop-j.j (omega (arith, c.loop-j-test.true, c.div_ceil-j-end.ensures))
          ∙ sym (ap counts_bytes (piece c.args.counts.now c.loop-j.j c.min-to.result in_list c.min-to.ensures))))),
    )

pub loop-j-preserved : goal.loop-j-preserved
loop-j-preserved g c =
    let was = c.loop-j.invariant.0 in
    let in_list : 1024 * c.loop-j.j ≤ length c.args.counts.now = omega (arith, c.loop-j-test.true, c.div_ceil-j-end.ensures) in
    let image = seen (g.D.Disk.state c.args.disk.now).cells in (
      search (c.is_spelled.ensures.state, c.in_ok-is_spelled.was, was),
      (λ honest.
          let told = c.in_ok-is_spelled.ensures.told (subst (λ (d : DiskState). IsTrue d.is_honest) (sym was) honest) in
          below_more (λ i. block_at image (c.args.first + i) ≡ counts_bytes (counts_in c.args.counts.now i)) c.loop-j.j (c.loop-j.invariant.1 honest)
          (sym (ap (λ (d : DiskState). block_at (seen d.cells) c.new.result) was ∙ ap (block_at image) c.new.ensures)
          ∙ told.0 c.if-not-branch.false
          ∙ ap counts_bytes (piece c.args.counts.now c.loop-j.j c.min-to.result in_list c.min-to.ensures))),
    )
