use Rattle.tp_image.proofs.Uniqueness.{IsNodeAt-one}
use Rattle.tp_image.proofs.laws.one_node_a_block.Goals as goal

pub returns : goal.returns
returns c = IsNodeAt-one
