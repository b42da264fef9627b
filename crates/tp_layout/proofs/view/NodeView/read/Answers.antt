use Rattle.std.proofs.Common.{◌≡◌, Bool, true, false, Ok, ap, ◌∙◌}
use Rattle.tp_layout.specs.Node.{NodeValue}
use Rattle.tp_layout.specs.Reading.{node_of}
use Rattle.tp_layout.proofs.NodeLaws.{node_from_passes, spelled_from_passes, spelled_passes, kind-node_of, own-node_of}
use Rattle.tp_layout.proofs.view.NodeView.read.Goals as goal

-- no test answers both
not_both : (b : Bool) → b ≡ true → b ≡ false → ⊥
not_both true p q = cc
not_both false p q = cc

pub returns-then-not-passes-clause-only : goal.returns-then-not-passes-clause-only
returns-then-not-passes-clause-only c n good k o e =
    absurd (not_both _ (c.passes.ensures.1 (spelled_passes c.args.kind c.args.own c.args.block.now n good k o e)) c.if-not-passes.true)

pub known-requires : goal.known-requires
known-requires c = let passed = c.passes.ensures.0 c.if-not-passes.false in (
  node_of c.args.kind c.args.block.now,
  (
    node_from_passes c.args.kind c.args.own c.args.block.now c.fits-block passed,
    kind-node_of c.args.kind c.args.block.now,
    spelled_from_passes c.args.kind c.args.own c.args.block.now c.fits-block c.told-block passed,
  ),
)

pub returns-clause-found : goal.returns-clause-found
returns-clause-found c =
    let passed = c.passes.ensures.0 c.if-not-passes.false in
    let says = c.known.ensures.only (node_of c.args.kind c.args.block.now) (node_from_passes c.args.kind c.args.own c.args.block.now c.fits-block passed) (kind-node_of c.args.kind c.args.block.now) (spelled_from_passes c.args.kind c.args.own c.args.block.now c.fits-block c.told-block passed) in (
      c.known.ensures.found.0,
      c.known.ensures.found.1,
      ap (λ (n : NodeValue). n.own) says ∙ own-node_of c.args.kind c.args.block.now ∙ passed.form.own_is,
      c.known.ensures.found.2,
    )

pub returns-clause-only : goal.returns-clause-only
returns-clause-only c n good k o e = ap Ok (c.known.ensures.only n good k e)
