use Rattle.std.proofs.Common.{◌∙◌}
use Rattle.tp_mapping.proofs.Tallying.{free_is}
use Rattle.tp_mapping.proofs.trees.TreeMapping.free_data_blocks.Goals as goal

pub returns : goal.returns
returns c disk now kept s = c.free_data.ensures ∙ free_is c.args.self.now disk now kept s c.geometry.ensures.sized
