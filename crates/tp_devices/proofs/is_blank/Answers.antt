use Rattle.std.proofs.Common.{◌≡◌, ap, arith, refl, subst, sym, ◌∙◌}
use Rattle.std.specs.Prelude.{IsTrue, bytes_eq}
use Rattle.std.proofs.lemmas.Result.{err_from_is_err_and}
use Rattle.tp_model.specs.Sectors.{sector_at, zero_sector}
use Rattle.tp_model.specs.Disk.{DiskState, seen}
use Rattle.tp_devices.proofs.Heading.{failed_state, other_one, zero_so_far}
use Rattle.tp_devices.proofs.is_blank.Goals as goal

pub loop-at-preserved : goal.loop-at-preserved
loop-at-preserved g c =
    let was = c.loop-at.invariant.0 in (
      c.in_ok-blank.ensures.state ∙ was,
      λ honest. zero_so_far (seen (g.D.Disk.state c.args.disk.now).cells) c.loop-at.at _ (c.loop-at.invariant.1 honest)
          (sym c.if-not-blank.false ∙ (c.in_ok-blank.ensures.found (subst (λ (d : DiskState). IsTrue d.is_honest) (sym was) honest)
          ∙ ap (λ (d : DiskState). bytes_eq (sector_at (seen d.cells) c.loop-at.at) zero_sector) was)) refl,
    )

pub returns-then-not-blank-clause-found : goal.returns-then-not-blank-clause-found
returns-then-not-blank-clause-found g c = λ honest.
    let was = c.loop-at.invariant.0 in (
      c.loop-at.at,
      omega (arith, c.loop-at-test.true),
      other_one (sector_at (seen (g.D.Disk.state c.args.disk.now).cells) c.loop-at.at)
          (sym c.if-not-blank.true ∙ (c.in_ok-blank.ensures.found (subst (λ (d : DiskState). IsTrue d.is_honest) (sym was) honest)
          ∙ ap (λ (d : DiskState). bytes_eq (sector_at (seen d.cells) c.loop-at.at) zero_sector) was)),
    )

pub returns-then-not-blank-clause-state : goal.returns-then-not-blank-clause-state
returns-then-not-blank-clause-state g c = c.in_ok-blank.ensures.state ∙ c.loop-at.invariant.0

pub returns-in_err-blank-clause-state : goal.returns-in_err-blank-clause-state
returns-in_err-blank-clause-state g c =
    let p = err_from_is_err_and c.from_residual.result c.from_residual.ensures.1 in
    failed_state _ p.0 _ _ _ p.1 c.in_err-blank.ensures.state c.loop-at.invariant.0

pub returns-clause-found : goal.returns-clause-found
returns-clause-found g c = λ honest k lt. c.loop-at.invariant.1 honest k (omega (arith, lt, c.loop-at-test.false))

pub returns-clause-state : goal.returns-clause-state
returns-clause-state g c = c.loop-at.invariant.0
