use Rattle.std.proofs.Common.{◌+◌, ◌/◌, length, sym, ◌∙◌, arith}
use Rattle.tp_nodes.proofs.GoodNodes.{take_past, drop_past}
use Rattle.tp_nodes.proofs.halves.even_out.Goals as goal

pub returns-else-half-count-clause-left : goal.returns-else-half-count-clause-left
returns-else-half-count-clause-left c =
    c.move_down.ensures.left ∙ sym (take_past ((length c.args.left.now.items + length c.args.right.now.items) / 2) _ c.args.left.now.items c.args.right.now.items (omega arith))

pub returns-else-half-count-clause-right : goal.returns-else-half-count-clause-right
returns-else-half-count-clause-right c =
    c.move_down.ensures.right ∙ sym (drop_past ((length c.args.left.now.items + length c.args.right.now.items) / 2) _ c.args.left.now.items c.args.right.now.items (omega arith))
