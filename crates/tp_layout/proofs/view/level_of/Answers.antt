use Rattle.std.proofs.Common.{refl, ap, ◌∙◌}
use Rattle.tp_layout.specs.Node.{NodeValue}
use Rattle.tp_layout.specs.Reading.{node_of}
use Rattle.tp_layout.proofs.NodeLaws.{formed_says}
use Rattle.tp_layout.proofs.view.level_of.Goals as goal

pub returns : goal.returns
unfolding node_of
returns c n formed spelled = c.u32_at.ensures ∙ ap (λ (m : NodeValue). m.level) (formed_says n.kind _ n formed refl spelled)
