use Rattle.std.proofs.Common.{◌∙◌}
use Rattle.tp_mapping.proofs.Tallying.{used_is}
use Rattle.tp_mapping.proofs.trees.TreeMapping.used_blocks.Goals as goal

pub returns : goal.returns
returns c disk now kept s = c.used_data.ensures ∙ used_is c.args.self.now disk now kept s c.geometry.ensures.sized
