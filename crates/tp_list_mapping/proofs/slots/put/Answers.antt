use Rattle.std.proofs.Common.{◌∙◌, refl}
use Rattle.tp_list_mapping.proofs.Ranks.{put_missing, set_found}
use Rattle.tp_list_mapping.proofs.slots.put.Goals as goal

pub returns-then-is_at-clause-value : goal.returns-then-is_at-clause-value
returns-then-is_at-clause-value c =
    set_found c.args.slot c.args.slot c.args.slots.now.items c.deref.result.now c.deref-2.result.now c.block.result c.block-2.result c.rank-at.result c.deref.ensures.value c.deref-2.ensures.value c.block.ensures.value
    c.block-2.ensures.value c.rank-at.ensures.value (c.if-is_at.ensures.inside refl) (c.if-is_at.ensures.yes refl c.args.slot)

pub returns-in-Ok-clause-value : goal.returns-in-Ok-clause-value
returns-in-Ok-clause-value c =
    c.in-Ok.ensures.items
    ∙ put_missing c.args.slot c.args.slots.now.items c.deref.result.now c.deref-2.result.now c.block.result c.block-2.result c.rank-at.result c.deref.ensures.value c.deref-2.ensures.value c.block.ensures.value
    c.block-2.ensures.value c.rank-at.ensures.value (c.if-is_at.ensures.no refl)
