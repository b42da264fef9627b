use Rattle.std.proofs.Common.{◌≡◌, ℕ, List, Err, ap, refl}
use Rattle.std.specs.Prelude.{◌⊎◌}
use Rattle.std.proofs.lemmas.Result.{err_from_is_err_and}
use Rattle.tp_model.specs.Geometry.{IsTreeBlock}
use Rattle.tp_model.specs.Sectors.{Sector}
use Rattle.tp_image.specs.Faults.{IsNamed}
use Rattle.tp_image.specs.Nodes.{block_at}
use Rattle.tp_check.specs.declared.error.CheckError.{CheckError}
use Rattle.tp_check.specs.declared.error.CheckError.TheVariants.{BadNode, BadOrder, BadRecordSize, OutOfPlace}
use Rattle.tp_check.specs.Walk.{HasTreeFault, name_of}
use Rattle.tp_check.proofs.Passing.{err_passed, missized_is, one_of_four}
use Rattle.tp_check.proofs.Telling.{range_told, size_told, spelling_told}
use Rattle.tp_check.proofs.walk.node_in.Goals as goal

pub returns-in_err-node-clause-only : goal.returns-in_err-node-clause-only
returns-in_err-node-clause-only c =
    let p = err_from_is_err_and c.from_residual.result c.from_residual.ensures.1 in
    err_passed (λ (e : CheckError). (e ≡ BadNode) ⊎ (e ≡ BadOrder) ⊎ (e ≡ OutOfPlace) ⊎ (e ≡ BadRecordSize)) c.from_residual.result p.0 c.in_err-node.field-0.0 p.1 p.2 (one_of_four c.in_err-node.field-0.0 c.in_err-node.ensures.only)

pub returns-in_err-node-clause-fault : goal.returns-in_err-node-clause-fault
returns-in_err-node-clause-fault c =
    let p = err_from_is_err_and c.from_residual.result c.from_residual.ensures.1 in
    err_passed (λ (e : CheckError). (image : List Sector) (roots : List ℕ) → c.args.block.now ≡ block_at image c.args.demand.now.block → IsTreeBlock c.args.geometry.now c.args.demand.now.block
    → IsNamed image c.args.geometry.now roots (name_of c.args.demand.now) → HasTreeFault image c.args.version c.args.geometry.now roots e)
    c.from_residual.result p.0 c.in_err-node.field-0.0 p.1 p.2 (λ image roots read place named.
    spelling_told image c.args.version c.args.geometry.now roots c.args.demand.now c.args.block.now c.in_err-node.field-0.0 read place named c.in_err-node.ensures.only
    (λ is. c.in_err-node.ensures.node (ap (λ (e : CheckError). Err e) is)) (λ is. c.in_err-node.ensures.order (ap (λ (e : CheckError). Err e) is)))

pub returns-then-not-are_in_range-clause-fault : goal.returns-then-not-are_in_range-clause-fault
returns-then-not-are_in_range-clause-fault c image roots read place named =
    let out = c.if-not-are_in_range.ensures.one refl in
    range_told image c.args.geometry.now roots c.args.demand.now c.args.block.now c.in_ok-node.node out.0 read place named c.in_ok-node.ensures.good.0 c.in_ok-node.ensures.good.1 out.1.0 out.1.1

pub returns-in_err-test_sizes-clause-only : goal.returns-in_err-test_sizes-clause-only
returns-in_err-test_sizes-clause-only c =
    let p = err_from_is_err_and c.from_residual-in_err-test_sizes.result c.from_residual-in_err-test_sizes.ensures.1 in
    err_passed (λ (e : CheckError). (e ≡ BadNode) ⊎ (e ≡ BadOrder) ⊎ (e ≡ OutOfPlace) ⊎ (e ≡ BadRecordSize)) c.from_residual-in_err-test_sizes.result p.0 c.in_err-test_sizes.field-0.0 p.1 p.2
    (missized_is c.args.version c.args.geometry.now c.in_err-test_sizes.ensures.one.2.size c.in_err-test_sizes.field-0.0 c.in_err-test_sizes.ensures.one.4)

pub returns-in_err-test_sizes-clause-fault : goal.returns-in_err-test_sizes-clause-fault
returns-in_err-test_sizes-clause-fault c =
    let p = err_from_is_err_and c.from_residual-in_err-test_sizes.result c.from_residual-in_err-test_sizes.ensures.1 in
    let bad = c.in_err-test_sizes.ensures.one in
    err_passed (λ (e : CheckError). (image : List Sector) (roots : List ℕ) → c.args.block.now ≡ block_at image c.args.demand.now.block → IsTreeBlock c.args.geometry.now c.args.demand.now.block
    → IsNamed image c.args.geometry.now roots (name_of c.args.demand.now) → HasTreeFault image c.args.version c.args.geometry.now roots e)
    c.from_residual-in_err-test_sizes.result p.0 c.in_err-test_sizes.field-0.0 p.1 p.2 (λ image roots read place named.
    size_told image c.args.version c.args.geometry.now roots c.args.demand.now c.args.block.now c.in_ok-node.node bad.2 c.in_err-test_sizes.field-0.0 read place named c.in_ok-node.ensures.good.0 c.in_ok-node.ensures.good.1
    bad.0 bad.1 bad.3 bad.4)
