use Rattle.std.proofs.Common.{◌∙◌}
use Rattle.tp_layout.specs.Reading.{node_of}
use Rattle.tp_layout.proofs.NodeLaws.{formed_from_form, spelled_from_form, spelled_form, node_from_passes, spelled_from_passes, kind-node_of, own-node_of, passes_from_increasing}
use Rattle.tp_layout.proofs.view.node_damage.Goals as goal

pub returns-then-not-is_formed-clause-form : goal.returns-then-not-is_formed-clause-form
returns-then-not-is_formed-clause-form c same n formed k o e =
    let form = c.is_formed.ensures.1 (spelled_form c.args.kind c.args.own c.args.block.now n formed k o e) in cc

pub returns-then-not-is_ordered-clause-order : goal.returns-then-not-is_ordered-clause-order
returns-then-not-is_ordered-clause-order c same =
    let form = c.is_formed.ensures.0 c.if-not-is_formed.false in (
      node_of c.args.kind c.args.block.now,
      (
        formed_from_form c.args.kind c.args.own c.args.block.now c.fits-block form,
        kind-node_of c.args.kind c.args.block.now,
        own-node_of c.args.kind c.args.block.now ∙ form.own_is,
        spelled_from_form c.args.kind c.args.own c.args.block.now c.fits-block c.told-block form,
        (λ up. let ordered = c.is_ordered.ensures.1 (passes_from_increasing c.args.kind c.args.own c.args.block.now form up) in cc),
      ),
    )

pub returns-clause-none : goal.returns-clause-none
returns-clause-none c =
    let passed = c.is_ordered.ensures.0 c.if-not-is_ordered.false in (
      node_of c.args.kind c.args.block.now,
      (
        node_from_passes c.args.kind c.args.own c.args.block.now c.fits-block passed,
        kind-node_of c.args.kind c.args.block.now,
        own-node_of c.args.kind c.args.block.now ∙ passed.form.own_is,
        spelled_from_passes c.args.kind c.args.own c.args.block.now c.fits-block c.told-block passed,
      ),
    )
