use Rattle.tp_trees.proofs.Frames.{framed_tree, framed_whole}
use Rattle.tp_trees.proofs.laws.framed_trees_stay.Goals as goal

pub returns-clause-tree : goal.returns-clause-tree
returns-clause-tree c = framed_tree

pub returns-clause-whole : goal.returns-clause-whole
returns-clause-whole c = framed_whole
