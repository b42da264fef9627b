use Rattle.std.proofs.Common.{◌∙◌, arith}
use Rattle.tp_layout.proofs.ViewLaws.{view_own, view_own_below}
use Rattle.tp_layout.proofs.view.NodeView.own.Goals as goal

pub overflow_cast-u64_at : goal.overflow_cast-u64_at
overflow_cast-u64_at c = omega (arith, c.u64_at.ensures, view_own_below _ _ _ _ _ c.self.invariant)

pub new-requires : goal.new-requires
new-requires c = omega (arith, c.u64_at.ensures, view_own_below _ _ _ _ _ c.self.invariant)

pub returns : goal.returns
returns c = c.new.ensures ∙ c.u64_at.ensures ∙ view_own c.self.inside.kind c.self.inside.block.now _ c.self.view_is
