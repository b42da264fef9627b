use Rattle.std.proofs.Common.{ap, ◌∙◌}
use Rattle.tp_layout.specs.Numbers.{zeros}
use Rattle.tp_layout.specs.Value.{node_value}
use Rattle.tp_layout.proofs.WriteLaws.{node_written_by}
use Rattle.tp_layout.proofs.node.write_node.Goals as goal

pub returns : goal.returns
returns c = node_written_by (node_value c.args.node.now) c.number.result c.number-2.result c.is_long_of-long.result c.as_slice-entries.result.now _ _ _ _ _ _ c.number.ensures c.number-2.ensures.value c.is_long_of-long.ensures c.as_slice-entries.ensures.value c.requires (c.clear.ensures ∙ ap zeros c.told-block) c.put_u32.ensures c.put_u32-2.ensures c.put_u64.ensures c.put_u32-3.ensures c.put_entries.ensures
