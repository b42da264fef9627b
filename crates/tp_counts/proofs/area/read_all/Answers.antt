use Rattle.std.proofs.Common.{◌≡◌, ◌*◌, ◌≤◌, length, ap, subst, sym, ◌∙◌, arith, Err, ⊎_elim}
use Rattle.std.proofs.lemmas.Bool.{cases_lt}
use Rattle.tp_counts.specs.declared.error.StoreError.{StoreError}
use Rattle.std.specs.Prelude.{IsTrue, Result, not}
use Rattle.std.proofs.lemmas.Result.{err_from_is_err_and}
use Rattle.tp_counts.specs.StoreErrors.{is_fault}
use Rattle.tp_model.specs.Disk.{DiskState, after_read, seen}
use Rattle.tp_image.specs.Nodes.{block_at}
use Rattle.tp_image.specs.Areas.{counts_in}
use Rattle.tp_image.proofs.AreaLaws.{counts_in-fit, same_length}
use Rattle.tp_counts.proofs.Pieces.{all_fit, length-piece, piece, read_more}
use Rattle.tp_counts.proofs.area.read_all.Goals as goal

pub returns-in_err-read_one-clause-damaged : goal.returns-in_err-read_one-clause-damaged
returns-in_err-read_one-clause-damaged g c refused honest cs long fit spelled =
    let p = err_from_is_err_and c.from_residual.result c.from_residual.ensures.1 in
    let j = c.loop-j.j in
    let was = c.loop-j.invariant.0 in
    let in_list : 1024 * j ≤ length c.loop-j.counts = omega (arith, c.loop-j-test.true, c.div_ceil-j-end.ensures, c.loop-j.auto.counts) in
    let same = piece c.loop-j.counts j c.min-to.result in_list c.min-to.ensures in
    let their_long : length (counts_in cs j) ≡ length (counts_in c.loop-j.counts j) = same_length cs c.loop-j.counts j (long ∙ sym c.loop-j.auto.counts) in
    c.in_err-read_one.ensures.damaged (ap (λ (r : StoreError). Err r) (sym p.2) ∙ sym p.1 ∙ refused)
    (subst (λ (d : DiskState). IsTrue d.is_honest) (sym was) honest) (counts_in cs j) (their_long ∙ sym (ap length same)) (counts_in-fit cs j fit)
    (ap (λ (d : DiskState). block_at (seen d.cells) c.new.result) was ∙ ap (block_at (seen (g.D.Disk.state c.args.disk.now).cells)) c.new.ensures ∙ spelled j (omega (arith, c.loop-j-test.true, c.div_ceil-j-end.ensures, long)))

pub returns-in_err-read_one-clause-fit : goal.returns-in_err-read_one-clause-fit
returns-in_err-read_one-clause-fit g c = all_fit _ (λ i. omega (arith, c.type_inv.counts i))

pub loop-j-preserved : goal.loop-j-preserved
loop-j-preserved g c =
    let j = c.loop-j.j in
    let was = c.loop-j.invariant.0 in
    let in_list : 1024 * j ≤ length c.loop-j.counts = omega (arith, c.loop-j-test.true, c.div_ceil-j-end.ensures, c.loop-j.auto.counts) in (
      c.read_one.ensures.state ∙ ap (λ (r : Result (Unit {0}) _). after_read (not (is_fault r)) (g.D.Disk.state c.loop-j.disk)) c.in_ok-read_one.was ∙ was,
      (λ honest. read_more (seen (g.D.Disk.state c.args.disk.now).cells) c.args.first j c.min-to.result c.new.result c.loop-j.counts c.read_one.new.counts c.min-to.ensures in_list (c.read_one.auto.counts ∙ length-piece c.loop-j.counts j c.min-to.result in_list c.min-to.ensures)
          (c.loop-j.invariant.1 honest) c.new.ensures
          (sym (ap (λ (d : DiskState). block_at (seen d.cells) c.new.result) was) ∙ c.in_ok-read_one.ensures.found (subst (λ (d : DiskState). IsTrue d.is_honest) (sym was) honest))),
      (λ some. all_fit _ (λ i. omega (arith, c.type_inv.counts i))),
    )

pub returns-clause-fit : goal.returns-clause-fit
returns-clause-fit g c k d h =
    ⊎_elim (λ some. c.loop-j.invariant.2 some k d h) (λ none. absurd (omega (arith, none, h, c.loop-j-test.false, c.div_ceil-j-end.ensures, c.loop-j.auto.counts))) (cases_lt 0 c.loop-j.j)
