use Rattle.std.proofs.Common.{◌∙◌, ap, arith, sym}
use Rattle.std.specs.Prelude.{Some}
use Rattle.tp_list_mapping.proofs.Tops.{last_at}
use Rattle.tp_list_mapping.proofs.slots.last.Goals as goal

pub returns : goal.returns
returns c =
    ap Some (c.block.ensures.value ∙ ap (λ y. y.block) c.index-slots-len.is)
    ∙ sym (last_at c.index-slots-len.result c.args.slots.now _ (omega (arith, c.if-len-eq0.false)))
