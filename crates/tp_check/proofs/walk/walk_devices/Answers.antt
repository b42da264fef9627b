use Rattle.std.proofs.Common.{sym, subst, arith}
use Rattle.std.specs.Prelude.{IsTrue}
use Rattle.std.proofs.lemmas.Result.{err_from_is_err_and}
use Rattle.tp_model.specs.Disk.{seen}
use Rattle.tp_check.specs.declared.error.CheckError.{CheckError}
use Rattle.tp_check.specs.declared.summary.Demand.{Demand}
use Rattle.tp_check.specs.Walk.{Comes, Fails, HasTreeFault, IsBegun, IsWalked, Passes}
use Rattle.tp_check.proofs.Passing.{err_passed}
use Rattle.tp_check.proofs.Walking.{root_begun, root_fault, root_many, root_walked}
use Rattle.tp_check.proofs.walk.walk_devices.Given.{Over}
use Rattle.tp_check.proofs.walk.walk_devices.Goals as goal
use Rattle.tp_check.proofs.walk.walk_devices.Goals.{After-root_demand-demand}

begun : (g : Over) (c : After-root_demand-demand g) → IsTrue (g.D.Disk.state c.args.disk.now).is_honest → IsWalked (seen (g.D.Disk.state c.args.disk.now).cells) c.args.walk.now
    → IsBegun (g.D.Disk.state c.args.disk.now) c.args.walk.now c.root_demand-demand.result
begun g c honest walked =
    subst (λ (d : Demand). IsBegun (g.D.Disk.state c.args.disk.now) c.args.walk.now d) (sym c.root_demand-demand.ensures)
    (root_begun (g.D.Disk.state c.args.disk.now) c.args.walk.now honest c.args.root c.requires.there walked)

pub returns-in_err-summary-clause-fault : goal.returns-in_err-summary-clause-fault
returns-in_err-summary-clause-fault g c =
    let p = err_from_is_err_and c.from_residual.result c.from_residual.ensures.1 in
    let disk = g.D.Disk.state c.args.disk.now in
    err_passed (λ (e : CheckError). IsTrue disk.is_honest → IsWalked (seen disk.cells) c.args.walk.now → HasTreeFault (seen disk.cells) c.args.walk.now.version c.args.walk.now.geometry c.args.walk.now.roots e)
    c.from_residual.result p.0 c.in_err-summary.field-0.0 p.1 p.2 (λ honest walked. c.in_err-summary.ensures.fault (begun g (goal.at.returns-in_err-summary-clause-fault g c).After-root_demand-demand honest walked))

pub returns-in_err-test-clause-fault : goal.returns-in_err-test-clause-fault
returns-in_err-test-clause-fault g c =
    let a = (goal.at.returns-in_err-test-clause-fault g c).After-root_demand-demand in
    let p = err_from_is_err_and c.from_residual-in_err-test.result c.from_residual-in_err-test.ensures.1 in
    let disk = g.D.Disk.state c.args.disk.now in
    err_passed (λ (e : CheckError). IsTrue disk.is_honest → IsWalked (seen disk.cells) c.args.walk.now → HasTreeFault (seen disk.cells) c.args.walk.now.version c.args.walk.now.geometry c.args.walk.now.roots e)
    c.from_residual-in_err-test.result p.0 c.in_err-test.field-0.0 p.1 p.2 (λ honest walked.
    root_fault (seen disk.cells) c.args.walk.now c.walk_below.new.walk c.args.root c.requires.there c.in_ok-summary.summary
    (subst (λ (d : Demand). Comes (seen disk.cells) c.args.walk.now c.walk_below.new.walk d c.in_ok-summary.summary) c.root_demand-demand.ensures (c.in_ok-summary.ensures.comes (begun g a honest walked)))
    c.in_err-test.field-0.0 c.requires.place (subst (λ (d : Demand). Fails c.in_err-test.field-0.0 c.in_ok-summary.summary d) c.root_demand-demand.ensures c.in_err-test.ensures.fails))

pub returns-then-summary-gt65536-clause-fault : goal.returns-then-summary-gt65536-clause-fault
returns-then-summary-gt65536-clause-fault g c honest walked =
    let a = (goal.at.returns-then-summary-gt65536-clause-fault g c).After-root_demand-demand in
    let disk = g.D.Disk.state c.args.disk.now in
    root_many (seen disk.cells) c.args.walk.now c.walk_below.new.walk c.args.root c.requires.there c.in_ok-summary.summary
    (subst (λ (d : Demand). Comes (seen disk.cells) c.args.walk.now c.walk_below.new.walk d c.in_ok-summary.summary) c.root_demand-demand.ensures (c.in_ok-summary.ensures.comes (begun g a honest walked)))
    (subst (λ (d : Demand). Passes c.in_ok-summary.summary d) c.root_demand-demand.ensures c.in_ok-test.ensures.passes) (omega (arith, c.if-summary-gt65536.true))

pub returns-clause-rooted : goal.returns-clause-rooted
returns-clause-rooted g c honest walked =
    let a = (goal.at.returns-clause-rooted g c).After-root_demand-demand in
    let disk = g.D.Disk.state c.args.disk.now in
    root_walked (seen disk.cells) c.args.walk.now c.walk_below.new.walk c.args.root c.requires.there c.in_ok-summary.summary
    (subst (λ (d : Demand). Comes (seen disk.cells) c.args.walk.now c.walk_below.new.walk d c.in_ok-summary.summary) c.root_demand-demand.ensures (c.in_ok-summary.ensures.comes (begun g a honest walked)))
    c.in_ok-summary.ensures.same (subst (λ (d : Demand). Passes c.in_ok-summary.summary d) c.root_demand-demand.ensures c.in_ok-test.ensures.passes) (omega (arith, c.if-summary-gt65536.false))
