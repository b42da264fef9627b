use Rattle.std.proofs.Common.{◌≡◌, ◌∙◌, ap, sym}
use Rattle.std.proofs.lemmas.Bool.{eqb-true}
use Rattle.tp_list_mapping.proofs.Ranks.{take_there}
use Rattle.tp_list_mapping.proofs.slots.find.Goals as goal

pub returns-then-eq-clause-without : goal.returns-then-eq-clause-without
returns-then-eq-clause-without c =
    let x = c.index-slots-i.result in
    let e : x.block ≡ c.args.block = sym c.block.ensures.value ∙ eqb-true c.block.result c.args.block (sym c.if-eq.ensures) in
    take_there c.args.block x c.args.slots.now c.loop-i.i c.loop-i-test.true (sym (ap (λ y. y.block) c.index-slots-i.is) ∙ e) (c.loop-i.invariant.before x)
